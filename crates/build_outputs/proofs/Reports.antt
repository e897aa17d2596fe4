-- The lines of guests, one after the other.
use Rattle.std.proofs.Common.{◌≡◌, ◌∙◌, sym, ap, subst, ℕ, ◌+◌, ◌<◌, List, [], ◌∷◌, ◌++◌, map, length, take, get_or}
use Rattle.std.specs.Prelude.{flat_map}
use Rattle.std.proofs.lemmas.List.{get_or-map, length-map, map_more, take-map, append-nil}
use Rattle.std.proofs.lemmas.Grind.{flat_map-append}
use Rattle.build_outputs.specs.Report.{guest_lines}
use Rattle.domain_plan.specs.declared.planned.GuestPlan.{GuestPlan}
use Rattle.guest_images.specs.Built.{tables_counted}
use Rattle.guest_images.specs.Requests.{tables_needed}
use Rattle.guest_images.specs.declared.images.GuestImage.{GuestImage}
use Rattle.build_outputs.specs.Outputs.{with_tables}

-- the lines of a guest with its tables
abbrev pub lines : GuestPlan × ℕ → List ℕ
lines guest = guest_lines guest.0 guest.1

module _ (guests : List GuestPlan) (images : List GuestImage) (counted : tables_counted images ≡ map tables_needed guests) where
  -- there are as many images as guests
  pub same_length : length images ≡ length guests
  same_length = sym (length-map images (λ (image : GuestImage). image.tables)) ∙ ap length counted ∙ length-map guests tables_needed

  module _ (i : ℕ) (guest : GuestPlan) (image : GuestImage) (within : i < length guests) (is : guest ≡ get_or guests i guest) where
    -- an image has the tables that its guest needs
    tables_at : (get_or images i image).tables ≡ tables_needed guest
    tables_at =
        sym (get_or-map (λ (m : GuestImage). m.tables) images i image 0 (subst (λ (n : ℕ). i < n) (sym same_length) within))
        ∙ ap (λ (counts : List ℕ). get_or counts i 0) counted ∙ get_or-map tables_needed guests i guest 0 within ∙ ap tables_needed (sym is)

    -- the lines so far and those of the next guest
    pub lines_more : flat_map lines (take i (with_tables guests)) ++ guest_lines guest (get_or images i image).tables ≡ flat_map lines (take (i + 1) (with_tables guests))
    lines_more =
        ap (λ (tables : ℕ). flat_map lines (take i (with_tables guests)) ++ guest_lines guest tables) tables_at
        ∙ ap (λ (g : GuestPlan). flat_map lines (take i (with_tables guests)) ++ guest_lines g (tables_needed g)) is
        ∙ ap (λ (more : List ℕ). flat_map lines (take i (with_tables guests)) ++ more) (sym (append-nil (guest_lines (get_or guests i guest) (tables_needed (get_or guests i guest)))))
        ∙ sym (flat_map-append lines (take i (with_tables guests)) ((get_or guests i guest, tables_needed (get_or guests i guest)) ∷ []))
        ∙ ap (flat_map lines) (ap (λ (so_far : List (GuestPlan × ℕ)). so_far ++ (get_or guests i guest, tables_needed (get_or guests i guest)) ∷ []) (take-map (λ (g : GuestPlan). (g, tables_needed g)) i guests)
        ∙ sym (map_more (λ (g : GuestPlan). (g, tables_needed g)) guests i guest within) ∙ sym (take-map (λ (g : GuestPlan). (g, tables_needed g)) (i + 1) guests))
