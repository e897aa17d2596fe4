-- The lines of a report.
use Rattle.std.specs.Prelude.{ℕ, ◌==◌, ◌++◌, List, codes, decimal, if◌then◌else◌, sum_by}
use Rattle.texts.specs.Lines.{text_line}
use Rattle.described.specs.declared.map_range.Kind.TheVariants.{Ram}
use Rattle.described.specs.declared.map_range.MapRange.{MapRange}
use Rattle.domain_plan.specs.declared.planned.GuestPlan.{GuestPlan}

-- the line of an interrupt
abbrev pub spi_line : ℕ → List ℕ
spi_line number = text_line (codes "  spi " ++ decimal number)

-- the number that stands for dom0 among peers
abbrev pub dom0 : ℕ
dom0 = 0xffffffff

-- the other side of a port: dom0, or a guest by its number
abbrev pub peer_text : ℕ → List ℕ
peer_text peer = if peer == dom0 then codes "dom0" else codes "domU" ++ decimal peer

-- the line of a port: its number, the other side and its number there
abbrev pub port_line : ℕ × ℕ × ℕ → List ℕ
port_line (port, peer, peer_port) = text_line (codes "  port " ++ (decimal port ++ (codes " to " ++ (peer_text peer ++ (codes " " ++ decimal peer_port)))))

-- the pages of memory in a run
abbrev pub ram_in : MapRange → ℕ
ram_in run = elim run.kind as (λ _. ℕ) [ Ram ↦ run.count | _ ↦ 0 ]

-- a guest's pages of memory
abbrev pub ram_pages : List MapRange → ℕ
ram_pages runs = sum_by ram_in runs

-- a guest's name, by its number, and its path
abbrev pub name_text : GuestPlan → List ℕ
name_text plan = codes "domU" ++ (decimal plan.number ++ (codes " " ++ plan.path))

-- how many vCPUs and pages of memory a guest has, and how many tables its image
abbrev pub counts_text : GuestPlan → ℕ → List ℕ
counts_text plan tables =
    codes " cpus " ++ (decimal plan.cpus ++ (codes " ram " ++ (decimal (ram_pages plan.ranges) ++ (codes " tables " ++ decimal tables))))

-- the first line of a guest
abbrev pub head_line : GuestPlan → ℕ → List ℕ
head_line plan tables = text_line (name_text plan ++ counts_text plan tables)

-- the last line: how many frames are left
abbrev pub free_line : ℕ → List ℕ
free_line frames = text_line (codes "free " ++ decimal frames)

-- a count with what stands before it
abbrev pub counted : List ℕ → ℕ → List ℕ
counted label count = label ++ decimal count

-- the line of the tree that is generated for a number: how many guests it has, their pages of memory and the tables of their images, and how many frames are left
abbrev pub generated_line : ℕ → ℕ → ℕ → ℕ → ℕ → List ℕ
generated_line number guests ram tables free =
    text_line (counted (codes "gen ") number ++ (counted (codes " guests ") guests ++ (counted (codes " ram ") ram ++ (counted (codes " tables ") tables ++ counted (codes " free ") free))))
