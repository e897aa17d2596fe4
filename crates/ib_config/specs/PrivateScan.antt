-- The steps in which the code reads a file: a line part after part, and its assignments one after the other. No public contract cites these.
use Rattle.std.specs.Prelude.{ℕ, Bool, not, List, Option, Some, None, [], ◌∷◌, Result, Ok, Err, ◌&&◌, ◌==◌, if◌then◌else◌}
use Rattle.std.specs.Option.{option_map_or}
use Rattle.std.specs.Prelude.{◌++◌, is_some, fold, drop}
use Rattle.std.specs.Str.Lines.{strip_carriage_return}
use Rattle.std.specs.Map.{lookup, keys_of}
use Rattle.std.specs.Prelude.{slice_get, false}
use Rattle.std.specs.List.{list_any}
use Rattle.ib_config.specs.declared.groups.PortGroup.{PortGroup}
use Rattle.ib_config.specs.declared.assignments.Key.{Key}
use Rattle.ib_config.specs.PrivateWords.{is_space}
use Rattle.texts.specs.Rows.{first_that_applies}
use Rattle.ib_config.specs.Runs.{run_of, after_run}
use Rattle.ib_config.specs.Variables.{Assigned, assigned_in, same_key}
use Rattle.ib_config.specs.Settings.{◌>>=◌}
use Rattle.ib_config.specs.Line.{lines_of, first_line_fault, assignments_of, has_name, name_of, after_name, is_unsupported, Assignment, has_bracket, has_index, value_part, index_of, body_faults, assigned_by, not_blank, until, is_open, is_plain_part, value_of_part, is_blank, is_digit, is_name_byte, line_fault, assignment_of}
use Rattle.ib_config.specs.declared.classes.Class.{Class}
use Rattle.ib_config.specs.declared.classes.Class.TheVariants.{Blank, Space, Name, Digit, Bare, Until}
use Rattle.ib_config.specs.declared.lines.Found.{Found}
use Rattle.ib_config.specs.declared.fault.ConfigFault.{ConfigFault}
use Rattle.ib_config.specs.declared.fault.ConfigFault.TheVariants.{OpenQuote, NotPlain, BadIndex, BadName, Unsupported}

-- whether a byte is of a class
abbrev pub passes : Class → ℕ → Bool
passes Blank c = is_blank c
passes Space c = is_space c
passes Name c = is_name_byte c
passes Digit c = is_digit c
passes Bare c = not_blank c
passes (Until quote) c = until quote c

-- what is read where there is no fault
abbrev pub unless : {A : Type 0} → Option ConfigFault → A → Result A ConfigFault
unless fault x = option_map_or Err fault (Ok x)

-- what a line says: its fault, or what it assigns
abbrev pub line_read : ℕ → List ℕ → Result (Option Assignment) ConfigFault
line_read n line = unless (line_fault n line) (assignment_of line)

-- the same of a line that says something, without its leading blanks
unfoldable pub body_read : ℕ → List ℕ → Result Assignment ConfigFault
body_read n body = unless (first_that_applies (body_faults n body)) (assigned_by body)

-- the index, if there is one, and the part behind the `=`
unfoldable pub index_read : ℕ → List ℕ → Result (Option ℕ × List ℕ) ConfigFault
index_read n after = unless (first_that_applies ((has_bracket after && not (has_index after), BadIndex n) ∷ [])) (index_of after, value_part after)

-- an assignment without where it lies in memory
abbrev pub view : Found → Assignment
view f = record { key = record { name = f.name.now; index = f.index }; text = f.text.now }

-- the value of the part behind the `=`, or its first fault
unfoldable pub part_read : ℕ → List ℕ → Result (List ℕ) ConfigFault
part_read n part = unless (first_that_applies ((is_open part, OpenQuote n) ∷ (not (is_plain_part part), NotPlain n) ∷ [])) (value_of_part part)

-- the same, one part after the other
unfoldable pub body_steps : ℕ → List ℕ → Result Assignment ConfigFault
body_steps n body = if not (has_name body) then Err (BadName n) else do
  index ← index_read n (after_name body)
  text ← part_read n index.1
  if is_unsupported (name_of body) then Err (Unsupported n)
      else Ok (record { key = record { name = name_of body; index = index.0 }; text = text })

-- what is assigned, as a map in order of insertion holds it
abbrev pub held : List (Key × List ℕ) → Assigned
held entries = record { texts = λ key. lookup (same_key key) entries; keys = keys_of entries }

-- nothing assigned yet
abbrev pub nothing_assigned : Assigned
nothing_assigned = record { texts = λ key. None; keys = [] }

-- one more assignment: the key has its text now, and keeps its place if it had one
abbrev pub assign : Assigned → Assignment → Assigned
assign done a = record {
  texts = λ key. if same_key a.key key then Some a.text else done.texts key;
  keys = if is_some (done.texts a.key) then done.keys else done.keys ++ a.key ∷ [];
}

-- what a line assigns, if it says something
abbrev pub assign_some : Assigned → Option Assignment → Assigned
assign_some done None = done
assign_some done (Some a) = assign done a

-- what the bytes of lines from number n on assign, after what is assigned already
unfoldable pub rest_read : ℕ → Assigned → List ℕ → Result Assigned ConfigFault
rest_read n done bytes = unless (first_line_fault n (lines_of bytes)) (fold assign done (assignments_of bytes))

-- what a file assigns, or its first line at fault
unfoldable pub file_read : List ℕ → Result Assigned ConfigFault
file_read bytes = unless (first_line_fault 1 (lines_of bytes)) (assigned_in (assignments_of bytes))

-- any byte but a line feed
abbrev pub not_feed : ℕ → Bool
not_feed c = until 10 c

-- the first line, without its line feed and a carriage return before that
abbrev pub line_at : List ℕ → List ℕ
line_at bytes = strip_carriage_return (run_of not_feed bytes)

-- the bytes behind its line feed
abbrev pub after_line : List ℕ → List ℕ
after_line bytes = drop 1 (after_run not_feed bytes)

-- whether the peer of a group has a group of the peer's port, among the groups of each guest
abbrev pub linked_in : List (List PortGroup) → PortGroup → Bool
linked_in ports g = option_map_or (λ others. list_any (λ (h : PortGroup). h.port == g.peer_port) others) (slice_get ports g.peer) false
