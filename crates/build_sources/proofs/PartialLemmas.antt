-- The guests' partial trees are read one after the other, from the addresses that the guests name.
use Rattle.std.proofs.Common.{◌≡◌, ◌∙◌, ◌+◌, ◌<◌, ◌≤◌, refl, sym, ap, subst, arith, ℕ, List, [], ◌∷◌, ◌++◌, length, take, drop, map, get_or}
use Rattle.std.specs.Prelude.{Option}
use Rattle.std.proofs.lemmas.Grind.{common_steps}
use Rattle.std.proofs.lemmas.List.{take_more, take-append-drop, take-map, drop_more}
use Rattle.outside.specs.Outside.{File}
use Rattle.described.specs.declared.loaded.Loaded.{Loaded}
use Rattle.fdt_tree.specs.Tree.{Tree}
use Rattle.fdt_tree.specs.Document.{Document}
use Rattle.fdt_nodes.specs.Held.{node_of}
use Rattle.domain_bindings.specs.Domains.{guest_nodes, partial_of}
use Rattle.domain_bindings.specs.Results.{AreDomains, domains_at}
use Rattle.domain_bindings.specs.declared.domain.Domain.{Domain}
use Rattle.dom0less_words.specs.Words.{Word}
use Rattle.run_steps.specs.Endings.{Outcome}
use Rattle.run_steps.specs.Steps.{AfterEach, GiveEach, nothing}
use Rattle.run_steps.proofs.Step.{each_step, each_refuses, give_more}
use Rattle.build_sources.specs.Handed.{is, unrefused, HandsOn}
use Rattle.build_sources.specs.Partials.{AfterPartial, Describes, described_by, guest_limit, partial_addresses}
use Rattle.build_sources.specs.Sources.{Stand}
use Rattle.build_sources.proofs.Handing.{handed}
use Rattle.build_sources.proofs.SourceSteps.{partial_step, each_partial_step}

-- the addresses that guests name
addresses_at : (document : Document) (number : ℕ) (held : List ℕ) → map (λ (domain : Domain). domain.partial) (domains_at document number held) ≡ map partial_of (map (node_of document) held)
addresses_at document number [] = refl
addresses_at document number (one ∷ others) = ap (λ rest. partial_of (node_of document one) ∷ rest) (addresses_at document (number + 1) others)

taken_map : {A B : Type 0} (f : A → B) (n : ℕ) (xs : List A) → map f (take n xs) ≡ take n (map f xs)
taken_map f n xs = sym (take-map f n xs)

pub addresses_of : (document : Document) (domains : List Domain) → AreDomains document domains → map (λ (domain : Domain). domain.partial) (take guest_limit domains) ≡ partial_addresses document.tree
addresses_of document domains are =
    let held = map (λ (domain : Domain). domain.node) domains in
    let all : map (λ (domain : Domain). domain.partial) domains ≡ map partial_of (guest_nodes document.tree) =
    ap (map (λ (domain : Domain). domain.partial)) are.values ∙ addresses_at document 0 held ∙ ap (map partial_of) are.nodes.are in
    taken_map (λ (domain : Domain). domain.partial) guest_limit domains ∙ ap (take guest_limit) all ∙ sym (taken_map partial_of guest_limit (guest_nodes document.tree))

-- those of the guests that were read
pub addresses_found : (document : Document) (domains first : List Domain) (addresses : List (Option ℕ)) (i : ℕ) → AreDomains document domains → first ≡ take guest_limit domains → length first ≤ i
    → addresses ≡ map (λ (domain : Domain). domain.partial) (take i first) → addresses ≡ partial_addresses document.tree
addresses_found document domains first addresses i are is past found =
    found ∙ ap (map (λ (domain : Domain). domain.partial)) (whole past ∙ is) ∙ addresses_of document domains are
  where
    whole : length first ≤ i → take i first ≡ first
    whole past = grind (arith, common_steps)

module _ (told : Option (List File)) (folder : Option Word) (loads : List Loaded) (addresses : List (Option ℕ)) where
  abbrev Gives : Option ℕ → Option Tree → Type 0
  Gives address = HandsOn (AfterPartial told folder loads address)

  -- all partial trees
  pub all_read : (i : ℕ) (partials : List (Option Tree)) → length addresses ≤ i → GiveEach Gives (take i addresses) partials → HandsOn (AfterEach (AfterPartial told folder loads) addresses) partials
  all_read i partials past read =
      handed _ _ (each_step Gives (AfterPartial told folder loads) (partial_step told folder loads) addresses) partials (subst (λ all. GiveEach Gives all partials) (whole past) read)
    where
      whole : length addresses ≤ i → take i addresses ≡ addresses
      whole past = grind (arith, common_steps)

  module _ (i : ℕ) (other address : Option ℕ) (below : i < length addresses) (is : address ≡ get_or addresses i other) (partials : List (Option Tree)) (read : GiveEach Gives (take i addresses) partials) where
    -- one more
    pub read_more : (partial : Option Tree) → HandsOn (AfterPartial told folder loads address) partial → GiveEach Gives (take (i + 1) addresses) (partials ++ partial ∷ [])
    read_more partial hands =
        subst (λ front. GiveEach Gives front (partials ++ partial ∷ [])) (sym (take_more addresses i other below ∙ ap (λ last. take i addresses ++ last ∷ []) (sym is)))
        (give_more Gives (take i addresses) address partials partial read hands)

    -- or it is refused
    pub read_refuses : (outcome : Outcome) → AfterPartial told folder loads address nothing outcome → AfterEach (AfterPartial told folder loads) addresses nothing outcome
    read_refuses outcome refused =
        subst (λ all. AfterEach (AfterPartial told folder loads) all nothing outcome)
        (sym (sym (take-append-drop i addresses) ∙ ap (λ rest. take i addresses ++ rest) (drop_more addresses i other below ∙ ap (λ first. first ∷ drop (i + 1) addresses) (sym is))))
        (each_refuses Gives (AfterPartial told folder loads) (partial_step told folder loads) (take i addresses) address (drop (i + 1) addresses) partials read outcome refused)

-- what is described, with the partial trees
pub described : (told : Option (List File)) (folder : Option Word) (stand : Stand) (partials : List (Option Tree)) → HandsOn (AfterEach (AfterPartial told folder stand.loads) (partial_addresses stand.root)) partials
    → Describes told folder stand (described_by stand partials)
described told folder stand partials hands =
    (each_partial_step told folder stand.loads (partial_addresses stand.root)).gives partials hands (λ read. is (described_by stand partials) (described_by stand read)) unrefused refl
