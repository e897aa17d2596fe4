-- Lines of scripts, as the definitions read them, and a small configuration whose script is read back and makes the edited tree.
use Rattle.std.proofs.Common.{◌≡◌, ℕ, List, [], ◌∷◌, refl, Some, None, Ok, Err, true, false}
use Rattle.std.specs.Prelude.{codes, Option, Result, Bool, option_map, ◌++◌}
use Rattle.std.specs.Result.{result_ok}
use Rattle.std.specs.Fmt.{digits}
use Rattle.fdt_tree.specs.Tree.{Tree, none, tree}
use Rattle.ib_config.specs.Line.{is_blank, says_nothing}
use Rattle.ib_config.specs.declared.settings.Settings.{Settings}
use Rattle.ib_placement.specs.declared.places.FilePlace.{FilePlace}
use Rattle.ib_script.specs.declared.command.Command.{Command}
use Rattle.ib_script.specs.declared.command.Command.TheVariants.{Set}
use Rattle.ib_script.specs.declared.command.Piece.TheVariants as pieces
use Rattle.ib_script.specs.declared.make.LoadKind.TheVariants.{Usb}
use Rattle.ib_script.specs.Script.{script_of, tree_commands, chosen_commands, dom0_commands, domains_commands, start_commands}
use Rattle.ib_script.specs.Guests.{node_commands, guest_path, machine_commands, static_properties, static_commands, enhanced_commands, kernel_commands, other_modules, shared_commands, channel_commands, port_commands, domain_commands, module_commands, link_commands, guest_commands}
use Rattle.ib_script.specs.Properties.{below, numbered, two_and_two, module_at}
use Rattle.ib_script.specs.Phandles.{groups_before, first_phandle, peer_phandle}
use Rattle.ib_script.specs.Text.{text_of, line_of_command, words_of_command, piece_word}
use Rattle.script_run.specs.declared.script.ScriptFault.TheVariants.{Line}
use Rattle.script_run.specs.declared.script.LineWhy.TheVariants.{NotPlain, OpenQuote, BadCommand, BadNumber, BadPath}
use Rattle.script_run.specs.declared.machine.StepWhy.TheVariants.{NoNode, Exists, NoTree}
use Rattle.script_run.specs.declared.machine.StepFault.{StepFault}
use Rattle.script_run.specs.declared.machine.StepFault.TheVariants.{Step}
use Rattle.script_run.specs.Words.{first_word, closed_by, bare, is_script_byte}
use Rattle.script_run.specs.Numbers.{address, cell, byte, number_below, are_digits, cells_of, bytes_of, piece_of, value_of}
use Rattle.script_run.specs.Commands.{words_read, form_of, short_load, long_load, fdt_form, addr_form, resize_form, mknod_form, set_form, setenv_form, booti_form, is_path, is_plain_name}
use Rattle.script_run.specs.Reading.{commands_of, line_read}
use Rattle.script_run.specs.Effect.{tree_effect}
use Rattle.script_run.specs.Edited.{edited_of}

bad_number : commands_of (codes "tftpb 0x100000 t.dtb\nfdt addr 0x100000\nfdt set /chosen a <0x1ffffffff>\n") ≡ Err (Line 3 BadNumber)
unfolding commands_of line_read words_read form_of short_load long_load fdt_form addr_form resize_form mknod_form set_form setenv_form booti_form address cell byte number_below are_digits cells_of bytes_of piece_of value_of is_path is_plain_name first_word closed_by bare is_script_byte is_blank says_nothing
bad_number = refl

bad_path : commands_of (codes "tftpb 0x100000 t.dtb\r\n\n # a note\nfdt set /chosen \"\" <0x1>\n") ≡ Err (Line 4 BadPath)
unfolding commands_of line_read words_read form_of short_load long_load fdt_form addr_form resize_form mknod_form set_form setenv_form booti_form address cell byte number_below are_digits cells_of bytes_of piece_of value_of is_path is_plain_name first_word closed_by bare is_script_byte is_blank says_nothing
bad_path = refl

open_quote : commands_of (codes "fdt set /chosen a \"b\"<0x1") ≡ Err (Line 1 OpenQuote)
unfolding commands_of line_read words_read form_of short_load long_load fdt_form addr_form resize_form mknod_form set_form setenv_form booti_form address cell byte number_below are_digits cells_of bytes_of piece_of value_of is_path is_plain_name first_word closed_by bare is_script_byte is_blank says_nothing
open_quote = refl

not_plain : commands_of (codes "fdt set /chosen a\\#b <0x1") ≡ Err (Line 1 NotPlain)
unfolding commands_of line_read words_read form_of short_load long_load fdt_form addr_form resize_form mknod_form set_form setenv_form booti_form address cell byte number_below are_digits cells_of bytes_of piece_of value_of is_path is_plain_name first_word closed_by bare is_script_byte is_blank says_nothing
not_plain = refl

-- in the path, `<` is a plain character
bad_command : commands_of (codes "fdt mknod <a b> c") ≡ Err (Line 1 BadCommand)
unfolding commands_of line_read words_read form_of short_load long_load fdt_form addr_form resize_form mknod_form set_form setenv_form booti_form address cell byte number_below are_digits cells_of bytes_of piece_of value_of is_path is_plain_name first_word closed_by bare is_script_byte is_blank says_nothing
bad_command = refl

values : commands_of (codes "  fdt set /chosen \\#a <0x1 2 >[0a  b] c \"d e\"\n") ≡ Ok (Set (codes "/chosen") (codes "#a")
    (pieces.Cells (1 ∷ 2 ∷ []) ∷ pieces.Bytes (10 ∷ 11 ∷ []) ∷ pieces.Word (codes "c") ∷ pieces.Word (codes "d e") ∷ []) ∷ [])
unfolding commands_of line_read words_read form_of short_load long_load fdt_form addr_form resize_form mknod_form set_form setenv_form booti_form address cell byte number_below are_digits cells_of bytes_of piece_of value_of is_path is_plain_name first_word closed_by bare is_script_byte is_blank says_nothing
values = refl

-- A small configuration: its script is read back, and does what the edited tree says.
abbrev small : Settings
small = record {
  memory_start = 0;
  memory_end = 0x80000000;
  device_tree = codes "m.dtb";
  xen = codes "xen";
  xen_cmd = codes "a <b> [c]";
  dom0_kernel = Some (codes "k0");
  dom0_ramdisk = None;
  dom0_cmd = Some [];
  guests = record {
    kernel = codes "k";
    ramdisk = None;
    cmd = Some (codes "c");
    mem_mib = None;
    vcpus = 2;
    vpl011 = true;
    static_mem = record { base = 0x40000000; size = 0x1000 } ∷ [];
    direct_map = true;
    passthrough_dtb = Some (codes "u.dtb");
    shared_mem = record { id = codes "ring"; host = 0x60000000; guest = 0x8000000000; size = 0x200000 } ∷ [];
    evtchns = record { port = 1; peer = 0; peer_port = 1 } ∷ [];
  } ∷ [];
  unused = [];
}

abbrev at : List ℕ → ℕ → ℕ → FilePlace
at n a s = record { name = n; address = a; size = s }

abbrev small_script : Bool → List Command
small_script chosen = script_of small (at (codes "xen") 0x200000 1 ∷ at (codes "k0") 0x400000 2 ∷ at (codes "k") 0x600000 3 ∷ at (codes "u.dtb") 0x800000 4 ∷ at (codes "m.dtb") 0xa00000 5 ∷ [])
    (record { chosen = chosen; highest = 1 }) Usb

small_read_back : commands_of (text_of (small_script false)) ≡ Ok (small_script false)
unfolding commands_of line_read words_read form_of short_load long_load fdt_form addr_form resize_form mknod_form set_form setenv_form booti_form address cell byte number_below are_digits cells_of bytes_of piece_of value_of is_path is_plain_name first_word closed_by bare is_script_byte is_blank says_nothing text_of line_of_command words_of_command piece_word digits script_of tree_commands chosen_commands dom0_commands domains_commands start_commands node_commands guest_path machine_commands static_properties static_commands enhanced_commands kernel_commands other_modules shared_commands channel_commands port_commands domain_commands module_commands link_commands guest_commands below numbered two_and_two module_at groups_before first_phandle peer_phandle
small_read_back = refl

abbrev small_edited : Bool → Tree → Option Tree
small_edited chosen t = edited_of small (at (codes "xen") 0x200000 1 ∷ at (codes "k0") 0x400000 2 ∷ at (codes "k") 0x600000 3 ∷ at (codes "u.dtb") 0x800000 4 ∷ at (codes "m.dtb") 0xa00000 5 ∷ [])
    (record { chosen = chosen; highest = 1 }) t

abbrev bare_tree : Tree
bare_tree = record { name = []; properties = []; children = tree (codes "gic") ((codes "phandle", 0 ∷ 0 ∷ 0 ∷ 1 ∷ []) ∷ []) none none }

small_effect : option_map (λ (t : Tree). Ok t) (small_edited false bare_tree) ≡ Some (tree_effect (small_script false) bare_tree)
unfolding tree_effect edited_of script_of tree_commands chosen_commands dom0_commands domains_commands start_commands node_commands guest_path machine_commands static_properties static_commands enhanced_commands kernel_commands other_modules shared_commands channel_commands port_commands domain_commands module_commands link_commands guest_commands below numbered two_and_two module_at groups_before first_phandle peer_phandle digits
small_effect = refl

-- /chosen has a child domU0 already: the first command that adds it is refused
abbrev taken_tree : Tree
taken_tree = record { name = []; properties = []; children = tree (codes "chosen") ((codes "#size-cells", 7 ∷ []) ∷ []) (tree (codes "domU0") [] none none) none }

taken : tree_effect (small_script true) taken_tree ≡ Err (Step 15 Exists)
unfolding tree_effect script_of tree_commands chosen_commands dom0_commands domains_commands start_commands node_commands guest_path machine_commands static_properties static_commands enhanced_commands kernel_commands other_modules shared_commands channel_commands port_commands domain_commands module_commands link_commands guest_commands below numbered two_and_two module_at groups_before first_phandle peer_phandle digits
taken = refl

taken_edited : small_edited true taken_tree ≡ None
unfolding edited_of script_of tree_commands chosen_commands dom0_commands domains_commands start_commands node_commands guest_path machine_commands static_properties static_commands enhanced_commands kernel_commands other_modules shared_commands channel_commands port_commands domain_commands module_commands link_commands guest_commands below numbered two_and_two module_at groups_before first_phandle peer_phandle digits
taken_edited = refl

-- What becomes of a tree by the text of a script.
abbrev after : List ℕ → Tree → Option (Result Tree StepFault)
after text t = option_map (λ cs. tree_effect cs t) (result_ok (commands_of text))

path_of_no_node : after (codes "tftpb 0x100000 t.dtb\nfdt addr 0x100000\nfdt set /nope a\n") bare_tree ≡ Some (Err (Step 3 NoNode))
unfolding commands_of line_read words_read form_of short_load long_load fdt_form addr_form resize_form mknod_form set_form setenv_form booti_form address cell byte number_below are_digits cells_of bytes_of piece_of value_of is_path is_plain_name first_word closed_by bare is_script_byte is_blank says_nothing tree_effect
path_of_no_node = refl

tree_that_is_not_loaded : after (codes "fdt addr 0x100000\n") bare_tree ≡ Some (Err (Step 1 NoTree))
unfolding commands_of line_read words_read form_of short_load long_load fdt_form addr_form resize_form mknod_form set_form setenv_form booti_form address cell byte number_below are_digits cells_of bytes_of piece_of value_of is_path is_plain_name first_word closed_by bare is_script_byte is_blank says_nothing tree_effect
tree_that_is_not_loaded = refl

edit_before_a_tree_is_taken : after (codes "fdt mknod / a\n") bare_tree ≡ Some (Err (Step 1 NoTree))
unfolding commands_of line_read words_read form_of short_load long_load fdt_form addr_form resize_form mknod_form set_form setenv_form booti_form address cell byte number_below are_digits cells_of bytes_of piece_of value_of is_path is_plain_name first_word closed_by bare is_script_byte is_blank says_nothing tree_effect
edit_before_a_tree_is_taken = refl

another_tree_is_taken : after (codes "tftpb 1 t\ntftpb 2 t\nfdt addr 1\nfdt addr 2\n") bare_tree ≡ Some (Err (Step 4 NoTree))
unfolding commands_of line_read words_read form_of short_load long_load fdt_form addr_form resize_form mknod_form set_form setenv_form booti_form address cell byte number_below are_digits cells_of bytes_of piece_of value_of is_path is_plain_name first_word closed_by bare is_script_byte is_blank says_nothing tree_effect
another_tree_is_taken = refl

node_made_twice : after (codes "tftpb 1 t\nfdt addr 1\nfdt mknod / a\nfdt mknod / a\n") bare_tree ≡ Some (Err (Step 4 Exists))
unfolding commands_of line_read words_read form_of short_load long_load fdt_form addr_form resize_form mknod_form set_form setenv_form booti_form address cell byte number_below are_digits cells_of bytes_of piece_of value_of is_path is_plain_name first_word closed_by bare is_script_byte is_blank says_nothing tree_effect
node_made_twice = refl

property_set_twice : after (codes "tftpb 1 t\nfdt addr 1\nfdt set / a <0x1>\nfdt set / a b\n") bare_tree ≡ Some (Ok (record bare_tree { properties = (codes "a", codes "b" ++ 0 ∷ []) ∷ [] }))
unfolding commands_of line_read words_read form_of short_load long_load fdt_form addr_form resize_form mknod_form set_form setenv_form booti_form address cell byte number_below are_digits cells_of bytes_of piece_of value_of is_path is_plain_name first_word closed_by bare is_script_byte is_blank says_nothing tree_effect
property_set_twice = refl

name_of_a_property_that_is_empty : commands_of (codes "tftpb 1 t\nfdt addr 1\nfdt set / \"\" <0x1>\n") ≡ Err (Line 3 BadPath)
unfolding commands_of line_read words_read form_of short_load long_load fdt_form addr_form resize_form mknod_form set_form setenv_form booti_form address cell byte number_below are_digits cells_of bytes_of piece_of value_of is_path is_plain_name first_word closed_by bare is_script_byte is_blank says_nothing
name_of_a_property_that_is_empty = refl
