-- Where the reader goes through, a text says what was read; else it departs where the reader stops.
use Rattle.std.proofs.Common.{arith, ◌≡◌, ◌∙◌, refl, sym, ap, subst, ℕ, ◌+◌, ◌<◌, true, false, List, [], ◌∷◌, ◌++◌, length, take, drop, Option, Some, None, inl, inr}
use Rattle.std.specs.Prelude.{Option, option_and_then}
use Rattle.std.proofs.lemmas.Bool.{true≢false}
use Rattle.std.proofs.lemmas.List.{take-append-drop}
use Rattle.fdt_tree.specs.Tree.{Bytes, Tree, Place}
use Rattle.fdt_tree.specs.declared.reserve.Reserve.{Reserve}
use Rattle.fdt_read.specs.Tokens.{Token, begin_node}
use Rattle.fdt_read.specs.Spelling.{spelled_properties, spelled}
use Rattle.fdt_read.specs.Built.{opened}
use Rattle.source_text.specs.Source.{IsSource, SaysNone, Begins, DepartsAt}
use Rattle.source_text.specs.declared.state.Comment.{Comment}
use Rattle.source_text.specs.declared.state.Comment.TheVariants.{Outside}
use Rattle.source_text.specs.declared.state.Next.{Next}
use Rattle.source_text.specs.declared.state.Next.TheVariants.{Start, Over}
use Rattle.source_text.specs.declared.state.Action.{Action}
use Rattle.source_text.specs.PrivateTurns.{turn, depth_behind, is_done}
use Rattle.source_text.specs.PrivateReadings.{Built, Stand, act, reached, unread}
use Rattle.source_text.proofs.Running.{stand, cont, from, runs-append}
use Rattle.source_text.proofs.Completeness.{complete}
use Rattle.source_text.proofs.Soundness.{sound}
use Rattle.source_text.proofs.Alive.{alive}
use Rattle.source_text.proofs.OneTree.{whole_tokens, same_tree}

same_some : {A : Type 0} (x y : A) → Some x ≡ Some y → x ≡ y
same_some x y e = cc

-- What begins a source is read to its end.
pub begins_reached : (text : Bytes) → Begins text → reached text ≡ None → ⊥
begins_reached text b e =
    let c = complete (text ++ b.0) b.1 b.2 b.3 in
    let none : reached (text ++ b.0) ≡ None = runs-append Outside Start 0 unread text b.0 ∙ ap (option_and_then (from b.0)) e in
    absurd (cc)

-- What is read to some end begins a source.
pub reached_begins : (text : Bytes) (s : Stand) → reached text ≡ Some s → Begins text
reached_begins text s e =
    let a = alive s.0 s.1 s.2 s.3 in
    let way : reached (text ++ a.more) ≡ Some a.stand = runs-append Outside Start 0 unread text a.more ∙ (ap (option_and_then (from a.more)) e ∙ a.way) in
    let p = sound a.stand a.done (text ++ a.more) way in
    (a.more, p.reserves, p.tree, p.says)

-- A text that is read to another end says nothing.
pub other_end : (text : Bytes) (s : Stand) → reached text ≡ Some s → is_done s.0 s.1 ≡ false → SaysNone text
other_end text s e not reserves t says =
    let c = complete text reserves t says in
    let same : (stand c.comment Over 0 c.built) ≡ s = same_some (stand c.comment Over 0 c.built) s (sym c.way ∙ e) in
    true≢false (sym c.done ∙ (ap (λ (z : Stand). is_done z.0 z.1) same ∙ not))

take_whole : (xs : Bytes) → take (length xs) xs ≡ xs
take_whole [] = refl
take_whole (x ∷ xs) = ap (λ z. x ∷ z) (take_whole xs)

-- All of a text is read.
pub whole_reached : (text : Bytes) (offset : ℕ) (s : Stand) → offset ≡ length text → reached (take offset text) ≡ Some s → reached text ≡ Some s
whole_reached text offset s is e = ap reached (sym (ap (λ n. take n text) is ∙ take_whole text)) ∙ e

-- So it departs at its end.
pub departs_at_end : (text : Bytes) (s : Stand) → reached text ≡ Some s → is_done s.0 s.1 ≡ false → (offset : ℕ) → offset ≡ length text → DepartsAt text offset
departs_at_end text s e not offset is = record {
  says_none = other_end text s e not;
  before = subst Begins (sym (ap (λ n. take n text) is ∙ take_whole text)) (reached_begins text s e);
  next = inl is;
}

-- A text departs where a byte leads nowhere.
pub departs_at : (text : Bytes) (offset c : ℕ) (s : Stand) → offset < length text → take (offset + 1) text ≡ take offset text ++ c ∷ [] → reached (take offset text) ≡ Some s → turn s.0 s.1 s.2 c ≡ None → DepartsAt text offset
departs_at text offset c s lt one e none =
    let stuck : reached (take (offset + 1) text) ≡ None = ap reached one ∙ (runs-append Outside Start 0 unread (take offset text) (c ∷ []) ∙ (ap (option_and_then (from (c ∷ []))) e ∙ ap (cont s.2 s.3 c []) none)) in
    record {
      says_none = λ reserves t says. begins_reached (take (offset + 1) text) (drop (offset + 1) text, reserves, t, subst (λ (z : Bytes). IsSource z reserves t) (sym (take_drop (offset + 1) text)) says) stuck;
      before = reached_begins (take offset text) s e;
      next = inr (lt, λ b. begins_reached (take (offset + 1) text) b stuck);
    }
  where
    take_drop : (n : ℕ) (xs : Bytes) → take n xs ++ drop n xs ≡ xs
    take_drop n xs = take-append-drop n xs

-- What was read in memory is what the text says.
pub record IsFound (text : Bytes) (reserves : List Reserve) (t : Tree) : Type 0 where
  pub read : IsSource text reserves t
  pub one : (others : List Reserve) (u : Tree) → IsSource text others u → (others ≡ reserves) × (u ≡ t)

root_name : (t : Tree) (tokens : List Token) → begin_node [] ∷ tokens ≡ opened t [] → t.name ≡ []
root_name t tokens e = cc

pub found : (text : Bytes) (s : Stand) (reserves : List Reserve) (t : Tree) → reached text ≡ Some s → is_done s.0 s.1 ≡ true → reserves ≡ s.3.reserves → s.3.tokens ≡ opened t [] → IsFound text reserves t
found text s reserves t e done said tokens =
    let p = sound s done text e in
    let named : t.name ≡ [] = root_name t (spelled_properties p.tree.properties ++ spelled p.tree.children) (sym p.tokens ∙ tokens) in
    let whole_is : whole_tokens p.tree ≡ whole_tokens t = sym p.tokens ∙ (tokens ∙ ap (λ (z : Bytes). begin_node z ∷ (spelled_properties t.properties ++ spelled t.children)) named) in
    let same : p.tree ≡ t = same_tree p.tree t p.says.root.6 named whole_is in record {
      read = subst (λ (u : Tree). IsSource text reserves u) same (subst (λ (r : List Reserve). IsSource text r p.tree) (sym (said ∙ p.said)) p.says);
      one = λ others u says.
          let c = complete text others u says in
          let at : (stand c.comment Over 0 c.built) ≡ s = same_some (stand c.comment Over 0 c.built) s (sym c.way ∙ e) in
          let b : c.built ≡ s.3 = ap (λ (z : Stand). z.3) at in
          (sym c.said ∙ (ap (λ (z : Built). z.reserves) b ∙ sym said), same_tree u t says.root.6 named (sym c.read ∙ (ap (λ (z : Built). z.tokens) b ∙ (p.tokens ∙ whole_is))));
    }

-- One more byte goes on.
pub goes_on : (text : Bytes) (offset c : ℕ) (k : Comment) (n : Next) (d : ℕ) (b : Built) (l : Comment) (m : Next) (a : Action) → take (offset + 1) text ≡ take offset text ++ c ∷ [] → reached (take offset text) ≡ Some (stand k n d b)
    → turn k n d c ≡ Some (l, m, a) → reached (take (offset + 1) text) ≡ Some (stand l m (depth_behind a d) (act a c b))
goes_on text offset c k n d b l m a one e t =
    ap reached one ∙ (runs-append Outside Start 0 unread (take offset text) (c ∷ []) ∙ (ap (option_and_then (from (c ∷ []))) e ∙ ap (cont d b c []) t))

no_length : (p : Place) → length p ≡ 0 → p ≡ []
no_length [] e = refl
no_length (k ∷ p) e = absurd (omega arith)

-- The node that is open at the end is the root.
pub found_at : (text : Bytes) (k : Comment) (n : Next) (d : ℕ) (b : Built) (reserves : List Reserve) (t : Tree) (p : Place) → reached text ≡ Some (stand k n d b) → is_done k n ≡ true → reserves ≡ b.reserves → b.tokens ≡ opened t p → length p ≡ d → IsFound text reserves t
found_at text k n d b reserves t p e done said tokens level =
    let read = sound (stand k n d b) done text e in
    let c = complete text read.reserves read.tree read.says in
    let at : stand c.comment Over 0 c.built ≡ stand k n d b = same_some (stand c.comment Over 0 c.built) (stand k n d b) (sym c.way ∙ e) in
    let none_above : length p ≡ 0 = level ∙ sym (ap (λ (z : Stand). z.2) at) in
    found text (stand k n d b) reserves t e done said (tokens ∙ ap (opened t) (no_length p none_above))

-- What is no place to go on is none.
pub nothing_else : {A : Type 0} (o : Option A) → ((x : A) → o ≡ Some x → ⊥) → o ≡ None
nothing_else None h = refl
nothing_else (Some x) h = absurd (h x refl)
