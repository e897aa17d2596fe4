-- Why a program makes nothing.
use Rattle.std.specs.Prelude.{◌≡◌, ℕ, ⊤, List, codes}
use Rattle.outside.specs.Reads.{Counts}
use Rattle.run_steps.specs.Messages.{line}
use Rattle.run_steps.specs.Endings.{Outcome}
use Rattle.run_steps.specs.Stops.{IsDue}
use Rattle.run_steps.specs.declared.stop.Stop.TheVariants.{Memory}
use Rattle.program.specs.declared.fault.Fault.{Fault}
use Rattle.program.specs.declared.fault.Fault.TheVariants.{Usage, Words, Stops}

-- the line of a program for words that ask for nothing
abbrev pub usage_line : List ℕ → List ℕ
usage_line name = line name (codes "usage")

-- the words are refused with the line of usage or with another text, or a step's stop is due
abbrev pub IsFault : List ℕ → (List ℕ → Type 0) → (Outcome → Type 0) → Counts → Counts → Fault → Type 0
IsFault name refused called before after Usage = refused (usage_line name)
IsFault name refused called before after (Words text) = refused text
IsFault name refused called before after (Stops stop) = IsDue called before after stop

-- what is answered to words that ask for nothing: that they are refused, or want of memory where reading words may take memory
abbrev pub IsRefusal : Type 0 → Fault → Type 0
IsRefusal takes_memory Usage = ⊤
IsRefusal takes_memory (Words text) = ⊤
IsRefusal takes_memory (Stops stop) = takes_memory × (stop ≡ Memory)
