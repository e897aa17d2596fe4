-- The commands that words say (U-Boot, doc/usage/cmd: tftpboot, load, fdt, setenv, booti).
use Rattle.std.specs.Prelude.{ℕ, Bool, true, not, ◌&&◌, ◌||◌, List, [], ◌∷◌, map, drop, Option, Some, None, Result, Ok, Err, ◌==◌, if◌then◌else◌, codes, bytes_eq, is_none, option_map, option_and_then}
use Rattle.std.specs.List.{list_all, list_any, slice_split}
use Rattle.std.specs.Option.{option_map_or}
use Rattle.texts.specs.Rows.{first_that_applies}
use Rattle.ib_config.specs.Runs.{first_is, is_empty}
use Rattle.ib_script.specs.Text.{joined}
use Rattle.ib_script.specs.declared.command.Command.{Command}
use Rattle.ib_script.specs.declared.command.Command.TheVariants.{Load, Addr, Resize, Mknod, Set, SetEnv, Booti}
use Rattle.script_run.specs.declared.script.LineWhy.{LineWhy}
use Rattle.script_run.specs.declared.script.LineWhy.TheVariants.{NotPlain, OpenQuote, BadCommand, BadNumber, BadPath}
use Rattle.script_run.specs.Words.{Word, all_plain}
use Rattle.script_run.specs.Numbers.{address, value_of}

-- Forms of commands, with their numbers as texts.
pub data Form : Type 0 where
  LoadForm : (how at name : List ℕ) → Form
  AddrForm : (at : List ℕ) → Form
  ResizeForm : (bytes : Option (List ℕ)) → Form
  MknodForm : (path name : List ℕ) → Form
  SetForm : (path prop : List ℕ) (value : List Word) → Form
  SetEnvForm : (name value : List ℕ) → Form
  BootiForm : (kernel tree : List ℕ) → Form

-- whether a word is this text, in quotes or not
abbrev pub is_word : Word → List ℕ → Bool
is_word w text = bytes_eq w.text text

-- whether a word is one of these texts
abbrev pub is_one_of : Word → List (List ℕ) → Bool
is_one_of w texts = list_any (is_word w) texts

-- `tftpb A F`
unfoldable pub short_load : List ℕ → List Word → Option Form
short_load how (at ∷ file ∷ []) = Some (LoadForm how at.text file.text)
short_load how _ = None

-- `load I D A F`
unfoldable pub long_load : List ℕ → List Word → Option Form
long_load how (interface ∷ device ∷ at ∷ file ∷ []) = Some (LoadForm (joined (how ∷ interface.text ∷ device.text ∷ [])) at.text file.text)
long_load how _ = None

-- `fdt addr A`
unfoldable pub addr_form : List Word → Option Form
addr_form (at ∷ []) = Some (AddrForm at.text)
addr_form _ = None

-- `fdt resize` or `fdt resize A`
unfoldable pub resize_form : List Word → Option Form
resize_form [] = Some (ResizeForm None)
resize_form (bytes ∷ []) = Some (ResizeForm (Some bytes.text))
resize_form _ = None

-- `fdt mknod PATH NAME`
unfoldable pub mknod_form : List Word → Option Form
mknod_form (path ∷ name ∷ []) = Some (MknodForm path.text name.text)
mknod_form _ = None

-- `fdt set PATH PROP VALUES`
unfoldable pub set_form : List Word → Option Form
set_form (path ∷ prop ∷ value) = Some (SetForm path.text prop.text value)
set_form _ = None

-- what follows `fdt`
unfoldable pub fdt_form : List Word → Option Form
fdt_form [] = None
fdt_form (w ∷ rest) = if is_word w (codes "addr") then addr_form rest
    else (if is_word w (codes "resize") then resize_form rest
    else (if is_word w (codes "mknod") then mknod_form rest
    else (if is_word w (codes "set") then set_form rest else None)))

-- `setenv N WORDS`
unfoldable pub setenv_form : List Word → Option Form
setenv_form [] = None
setenv_form (name ∷ words) = Some (SetEnvForm name.text (joined (map (λ (w : Word). w.text) words)))

-- `booti A - A`
unfoldable pub booti_form : List Word → Option Form
booti_form (kernel ∷ dash ∷ tree ∷ []) = if is_word dash (codes "-") then Some (BootiForm kernel.text tree.text) else None
booti_form _ = None

-- the table of commands
unfoldable pub form_of : List Word → Option Form
form_of [] = None
form_of (w ∷ rest) = if is_one_of w (codes "tftpb" ∷ codes "tftpboot" ∷ []) then short_load w.text rest
    else (if is_one_of w (codes "load" ∷ codes "fatload" ∷ codes "ext4load" ∷ []) then long_load w.text rest
    else (if is_word w (codes "fdt") then fdt_form rest
    else (if is_word w (codes "setenv") then setenv_form rest
    else (if is_word w (codes "booti") then booti_form rest else None))))

-- the command of a form; none where a number is outside its rule
abbrev pub command_of : Form → Option Command
command_of (LoadForm how at name) = option_map (λ a. Load how a name) (address at)
command_of (AddrForm at) = option_map Addr (address at)
command_of (ResizeForm None) = Some (Resize 0)
command_of (ResizeForm (Some bytes)) = option_map Resize (address bytes)
command_of (MknodForm path name) = Some (Mknod path name)
command_of (SetForm path prop value) = option_map (Set path prop) (value_of value)
command_of (SetEnvForm name value) = Some (SetEnv name value)
command_of (BootiForm kernel tree) = option_and_then (λ k. option_map (Booti k) (address tree)) (address kernel)

-- a path begins with `/`, and is `/` alone or has no empty component (Devicetree Specification 2.2.3)
unfoldable pub is_path : List ℕ → Bool
is_path path = first_is (λ c. c == 47) path && (bytes_eq path (codes "/") || list_all (λ c. not (is_empty c)) (slice_split (λ c. c == 47) (drop 1 path)))

-- the name of a node is not empty and has no `/`
unfoldable pub is_plain_name : List ℕ → Bool
is_plain_name name = not (is_empty name) && list_all (λ c. not (c == 47)) name

-- paths and names are as they have to be; the name of a property is not empty
abbrev pub has_paths : Form → Bool
has_paths (MknodForm path name) = is_path path && is_plain_name name
has_paths (SetForm path prop value) = is_path path && not (is_empty prop)
has_paths _ = true

-- the faults of a line's words, in their order
abbrev pub words_faults : List Word → List (Bool × LineWhy)
words_faults words =
    (not (all_plain words), NotPlain)
    ∷ (not (list_all (λ (w : Word). w.closed) words), OpenQuote)
    ∷ (is_none (form_of words), BadCommand)
    ∷ (is_none (option_and_then command_of (form_of words)), BadNumber)
    ∷ (not (option_map_or has_paths (form_of words) true), BadPath)
    ∷ []

-- what words say: their command, or the first reason why they are none
unfoldable pub words_read : List Word → Result Command LineWhy
words_read words = option_map_or Err (first_that_applies (words_faults words)) (option_map_or Ok (option_and_then command_of (form_of words)) (Err BadCommand))
