-- A file is a flattened tree or is refused, and it is one tree.
use Rattle.std.proofs.Common.{◌≡◌, ◌⊎◌, inl, inr, Result, Ok, Err, IfErr, ℕ, ◌+◌, List, [], Option, Some, None, refl, sym, ◌∙◌, arith, lit≤}
use Rattle.fdt_tree.specs.Tree.{Bytes, Tree}
use Rattle.fdt_tree.specs.Document.{empty}
use Rattle.fdt_tree.specs.declared.reserve.Reserve.{Reserve}
use Rattle.fdt_read.specs.declared.fault.FdtFault.{FdtFault}
use Rattle.fdt_read.specs.declared.fault.FdtFault.TheVariants.{Memory}
use Rattle.fdt_read.specs.Header.{structure_offset, structure_end, structure_size, boot_processor}
use Rattle.fdt_read.specs.Reservations.{reservations}
use Rattle.fdt_read.specs.Tokens.{tokens}
use Rattle.std.specs.Option.{option_or}
use Rattle.fdt_read.specs.Refusals.{header_fault, first_fault, refusal}
use Rattle.fdt_read.specs.Built.{before}
use Rattle.fdt_read.specs.Spells.{Spells}
use Rattle.fdt_read.specs.Laws.{SpellsNone, IsDecided}
use Rattle.fdt_read.proofs.OneTree.{one_tree}
use Rattle.fdt_read.proofs.Accepted.{accepted}
use Rattle.fdt_read.proofs.Reading.{or_both, reading}

unrefused : (b : Bytes) → refusal b ≡ None → (reserves : List Reserve) × (boot : ℕ) × (t : Tree) × Spells b reserves boot t
unrefused b e =
    let f = or_both (header_fault b) (first_fault [] (tokens b)) e in let r = reading (structure_size b + 1) b (structure_end b) (structure_offset b) [] empty.tree None (before refl refl refl refl refl) (lit≤ tt) (omega arith) (omega arith) f.1 in (
      reservations b,
      boot_processor b,
      r.0,
      record {
        header = f.0;
        reserved = refl;
        processor = refl;
        unnamed = r.1.formed.unnamed;
        structure = r.1.spelled;
        names = r.1.formed.names;
        depth = r.1.formed.depth;
      },
    )

unspelled : (x y : Option FdtFault) (fault : FdtFault) → x ≡ None → y ≡ None → option_or x y ≡ Some fault → ⊥
unspelled None None fault p q e = cc
unspelled None (Some g) fault p q e = cc
unspelled (Some f) y fault p q e = cc

pub refused : (b : Bytes) (fault : FdtFault) → refusal b ≡ Some fault → SpellsNone b
refused b fault e reserves boot t s =
    unspelled (header_fault b) (first_fault [] (tokens b)) fault s.header (accepted t (tokens b) s.names s.depth s.structure) e

-- What has its first fault spells nothing.
pub says_nothing : {A : Type 0} (b : Bytes) (r : Result A FdtFault) → IfErr r (λ fault. (fault ≡ Memory) ⊎ (refusal b ≡ Some fault)) → IfErr r (λ fault. (fault ≡ Memory) ⊎ SpellsNone b)
says_nothing b (Ok x) h = tt
says_nothing b (Err fault) (inl e) = inl e
says_nothing b (Err fault) (inr e) = inr (refused b fault e)

pub decided : (b : Bytes) → IsDecided b
decided b = record {
  spelled = unrefused b;
  refused = refused b;
  one = λ r q boot other t u s z. (sym s.reserved ∙ z.reserved, sym s.processor ∙ z.processor, one_tree t u (sym s.structure ∙ z.structure));
}
