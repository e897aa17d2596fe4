-- The reader over a text is the reader over its front and then over the rest.
use Rattle.std.proofs.Common.{◌≡◌, ◌∙◌, refl, sym, ap, ℕ, Bool, true, false, [], ◌∷◌, ◌++◌, Option, Some, None}
use Rattle.std.specs.Prelude.{option_and_then, ◌==◌}
use Rattle.std.proofs.lemmas.Bool.{eqb-true, true≢false}
use Rattle.fdt_tree.specs.Tree.{Bytes}
use Rattle.source_text.specs.declared.state.Comment.{Comment}
use Rattle.source_text.specs.declared.state.Next.{Next}
use Rattle.source_text.specs.PrivateTurns.{Turn, turn, depth_behind}
use Rattle.source_text.specs.PrivateReadings.{Built, Stand, act, runs}

-- Where the reader stands.
abbrev pub stand : Comment → Next → ℕ → Built → Stand
stand k n d b = (k, n, d, b)

pub same_stand : (s t : Stand) → Some s ≡ Some t → s ≡ t
same_stand s t e = cc

-- What a turn leads to over the rest of a text.
abbrev pub cont : ℕ → Built → ℕ → Bytes → Turn → Option Stand
cont depth b c text found = option_and_then (λ t. runs t.0 t.1 (depth_behind t.2 depth) (act t.2 c b) text) found

-- From where a text led.
abbrev pub from : Bytes → Stand → Option Stand
from text s = runs s.0 s.1 s.2 s.3 text

one_then : {A B C : Type 0} (o : Option A) (f : A → Option C) (g : A → Option B) (h : B → Option C) → ((a : A) → f a ≡ option_and_then h (g a)) → option_and_then f o ≡ option_and_then h (option_and_then g o)
one_then None f g h e = refl
one_then (Some a) f g h e = e a

pub runs-append : (k : Comment) (n : Next) (d : ℕ) (b : Built) (front rest : Bytes) → runs k n d b (front ++ rest) ≡ option_and_then (from rest) (runs k n d b front)
runs-append k n d b [] rest = refl
runs-append k n d b (c ∷ front) rest =
    one_then (turn k n d c) (λ t. runs t.0 t.1 (depth_behind t.2 d) (act t.2 c b) (front ++ rest)) (λ t. runs t.0 t.1 (depth_behind t.2 d) (act t.2 c b) front) (from rest)
    (λ t. runs-append t.0 t.1 (depth_behind t.2 d) (act t.2 c b) front rest)

-- A byte with a property that another byte lacks is not that one.
pub differs : (f : ℕ → Bool) (c k : ℕ) → f c ≡ true → f k ≡ false → (c == k) ≡ false
differs f c k is not = by (c == k) refl
  where
    by : (z : Bool) → (c == k) ≡ z → z ≡ false
    by true e = absurd (true≢false (sym is ∙ (ap f (eqb-true c k e) ∙ not)))
    by false e = refl
