-- Items that were passed, each region at its host address.
use Rattle.std.proofs.Common.{◌≡◌, ℕ, ◌+◌, ◌&&◌, Bool, true, false, cond, not, List, [], ◌∷◌, ◌++◌, map, Option, Some, None, refl, sym, ap, ◌∙◌}
use Rattle.std.specs.Prelude.{option_map, sum_by, is_some}
use Rattle.std.specs.List.{find, list_any}
use Rattle.std.proofs.lemmas.List.{map-append}
use Rattle.std.proofs.lemmas.List.Sums.{sum_by-cons}
use Rattle.texts.specs.declared.ranges.BaseSize.{BaseSize}
use Rattle.texts.specs.declared.ranges.FrameRange.{FrameRange}
use Rattle.described.specs.declared.item.Item.{Item}
use Rattle.described.specs.declared.item.What.{What}
use Rattle.described.specs.declared.item.What.TheVariants as whats
use Rattle.described.specs.declared.why.Why.{Why}
use Rattle.domain_bindings.specs.declared.host.Host.{Host}
use Rattle.frame_alloc.specs.Ranges.{cut, touched}
use Rattle.item_checks.specs.Entries.{Entry}
use Rattle.item_checks.specs.Taken.{Passed, item_of, what_of, belongs_to, says_direct, is_direct, static_pages, pages_before, is_load_over, is_loaded, is_range, is_repeated, bank_pages, region_claims, claims_of, pages_of, passing, all_passed}
use Rattle.item_checks.specs.Layouts.{layout_of}
use Rattle.item_checks.specs.Reasons.{naming_first, are_one_region, has_console, is_with_console, layout_at}
use Rattle.domain_plan.specs.Regions.{host_in, placed_what, placed_entry, placed}
use Rattle.domain_plan.specs.declared.runs.Run.{Run}
use Rattle.domain_plan.proofs.OwnItems.{pages_with}

-- what does not look at a host address says the same
pub kept_what : {A : Type 0} (f : What → A) (runs : List Run) → ((id : List ℕ) (one other : Option ℕ) (guest size : ℕ) (owner : Bool) → f (whats.Shared id one guest size owner) ≡ f (whats.Shared id other guest size owner))
    → (what : What) → f (placed_what runs what) ≡ f what
kept_what f runs same (whats.Shared id host guest size owner) = same id (host_in runs id host) host guest size owner
kept_what f runs same _ = refl

-- the frames of an item: of a region without a host address those of its run
abbrev pub claims_at : List Run → What → List FrameRange → List FrameRange
claims_at runs what claims = elim what as (λ _. List FrameRange) [
  | whats.Shared id host guest size owner ↦ elim host as (λ _. List FrameRange) [ None ↦ region_claims (host_in runs id None) size | Some base ↦ claims ]
  | _ ↦ claims
]

-- an item that was passed, with its region at its host address
abbrev pub lift : List Run → Passed → Passed
lift runs p = record { entry = placed_entry runs p.entry; claims = claims_at runs (what_of p) p.claims; pages = p.pages }

module _ (runs : List Run) where
  pub belongs_lift : (owner : Option ℕ) (p : Passed) → belongs_to owner (lift runs p) ≡ belongs_to owner p
  belongs_lift None p = refl
  belongs_lift (Some number) p = refl

  pub any_lift : (test : Passed → Bool) → ((p : Passed) → test (lift runs p) ≡ test p) → (xs : List Passed) → list_any test (map (lift runs) xs) ≡ list_any test xs
  any_lift test same [] = refl
  any_lift test same (x ∷ xs) = rw (same x, any_lift test same xs) refl

  sum_lift : (f : Passed → ℕ) → ((p : Passed) → f (lift runs p) ≡ f p) → (xs : List Passed) → sum_by f (map (lift runs) xs) ≡ sum_by f xs
  sum_lift f same [] = refl
  sum_lift f same (x ∷ xs) = sum_by-cons f (lift runs x) (map (lift runs) xs) ∙ rw (same x, sum_lift f same xs) (sym (sum_by-cons f x xs))

  pub find_lift : (test other : Passed → Bool) → ((p : Passed) → test (lift runs p) ≡ other p) → (xs : List Passed) → find test (map (lift runs) xs) ≡ option_map (lift runs) (find other xs)
  find_lift test other same [] = refl
  find_lift test other same (x ∷ xs) = rw (same x, find_lift test other same xs) (either (other x))
    where
      either : (b : Bool) → cond b (Some (lift runs x)) (option_map (lift runs) (find other xs)) ≡ option_map (lift runs) (cond b (Some x) (find other xs))
      either true = refl
      either false = refl

  pub naming_lift : (test other : Passed → Bool) (why : Item → Why) → ((p : Passed) → test (lift runs p) ≡ other p) → (xs : List Passed) → naming_first test why (map (lift runs) xs) ≡ naming_first other why xs
  naming_lift test other why same xs = ap (option_map (λ (p : Passed). why (item_of p))) (find_lift test other same xs) ∙ named (find other xs)
    where
      named : (o : Option Passed) → option_map (λ (p : Passed). why (item_of p)) (option_map (lift runs) o) ≡ option_map (λ (p : Passed). why (item_of p)) o
      named None = refl
      named (Some p) = refl

  loaded_lift : (before : List Passed) (at : BaseSize) → is_loaded (map (lift runs) before) at ≡ is_loaded before at
  loaded_lift before at = any_lift (λ (p : Passed). is_load_over at (what_of p)) (λ p. kept_what (is_load_over at) runs (λ id one other guest size owner. refl) (what_of p)) before

  -- what a guest's item describes
  pub says_lift : (owner : Option ℕ) (test : What → Bool) → ((id : List ℕ) (one other : Option ℕ) (guest size : ℕ) (owner : Bool) → test (whats.Shared id one guest size owner) ≡ test (whats.Shared id other guest size owner))
      → (p : Passed) → (belongs_to owner (lift runs p) && test (what_of (lift runs p))) ≡ (belongs_to owner p && test (what_of p))
  says_lift owner test same p = rw (belongs_lift owner p, kept_what test runs same (what_of p)) refl

  repeated_lift : (before : List Passed) (owner : Option ℕ) (host size guest : ℕ) → is_repeated (map (lift runs) before) owner host size guest ≡ is_repeated before owner host size guest
  repeated_lift before owner host size guest =
      any_lift (λ (p : Passed). belongs_to owner p && is_range host size guest (what_of p)) (says_lift owner (is_range host size guest) (λ id one other page many owns. refl)) before

  direct_lift : (before : List Passed) (owner : Option ℕ) → is_direct (map (lift runs) before) owner ≡ is_direct before owner
  direct_lift before owner = any_lift (λ (p : Passed). belongs_to owner p && says_direct (what_of p)) (says_lift owner says_direct (λ id one other page many owns. refl)) before

  -- a guest's layout
  pub layout_lift : (host : Host) (before : List Passed) (owner : Option ℕ) → layout_at host (map (lift runs) before) owner ≡ layout_at host before owner
  layout_lift host before owner =
      ap (λ (direct : Bool). layout_of host direct (is_with_console (map (lift runs) before) owner)) (direct_lift before owner)
      ∙ ap (λ (console : Bool). layout_of host (is_direct before owner) console)
      (any_lift (λ (p : Passed). belongs_to owner p && has_console (what_of p)) (says_lift owner has_console (λ id one other page many owns. refl)) before)

  static_lift : (before : List Passed) (owner : Option ℕ) → pages_before (map (lift runs) before) owner ≡ pages_before before owner
  static_lift before owner =
      ap cut (sum_lift (λ (p : Passed). cond (belongs_to owner p) (static_pages (what_of p)) 0) (λ p. rw (belongs_lift owner p, kept_what static_pages runs (λ id one other page many owns. refl) (what_of p)) refl) before)

  -- the frames of an item, by what it describes
  abbrev claims_with : List Passed → Option ℕ → What → List FrameRange
  claims_with before owner what = elim what as (λ _. List FrameRange) [
    | whats.Reserved entries ↦ map touched entries
    | whats.Reserve at ↦ touched at ∷ []
    | whats.Load at ↦ touched at ∷ []
    | whats.Module kind at ↦ cond (is_loaded before at) [] (touched at ∷ [])
    | whats.Static at ↦ touched at ∷ []
    | whats.Range host size guest ↦ cond (is_repeated before owner host size guest) [] (touched (record { base = host; size = size }) ∷ [])
    | whats.Shared id host guest size owner ↦ region_claims host size
    | _ ↦ []
  ]

  claims_lift : (before : List Passed) (owner : Option ℕ) (what : What) → claims_with (map (lift runs) before) owner (placed_what runs what) ≡ claims_at runs what (claims_with before owner what)
  claims_lift before owner (whats.Module kind at) = ap (λ (b : Bool). cond b [] (touched at ∷ [])) (loaded_lift before at)
  claims_lift before owner (whats.Range host size guest) = ap (λ (b : Bool). cond b [] (touched (record { base = host; size = size }) ∷ [])) (repeated_lift before owner host size guest)
  claims_lift before owner (whats.Shared id None guest size owns) = refl
  claims_lift before owner (whats.Shared id (Some base) guest size owns) = refl
  claims_lift before owner _ = refl

  pages_lift : (before : List Passed) (owner : Option ℕ) (what : What) → pages_with (map (lift runs) before) owner (placed_what runs what) ≡ pages_with before owner what
  pages_lift before owner (whats.Static at) =
      ap (λ (b : Bool). cond b (touched at ∷ []) (bank_pages (pages_before (map (lift runs) before) owner) (touched at).count)) (direct_lift before owner)
      ∙ ap (λ (k : ℕ). cond (is_direct before owner) (touched at ∷ []) (bank_pages k (touched at).count)) (static_lift before owner)
  pages_lift before owner (whats.Range host size guest) = ap (λ (b : Bool). cond b [] (touched (record { base = guest; size = size }) ∷ [])) (repeated_lift before owner host size guest)
  pages_lift before owner _ = refl

  -- an item that is passed after others
  pub passing_lift : (before : List Passed) (entry : Entry) → passing (map (lift runs) before) (placed_entry runs entry) ≡ lift runs (passing before entry)
  passing_lift before entry =
      ap (λ (claims : List FrameRange). record { entry = placed_entry runs entry; claims = claims; pages = pages_of (map (lift runs) before) (placed_entry runs entry) }) (claims_lift before entry.guest entry.described.what)
      ∙ ap (λ (pages : List FrameRange). record { entry = placed_entry runs entry; claims = claims_at runs entry.described.what (claims_of before entry); pages = pages }) (pages_lift before entry.guest entry.described.what)

  -- all items
  pub all_lift : (before : List Passed) (entries : List Entry) → all_passed (map (lift runs) before) (placed runs entries) ≡ map (lift runs) (all_passed before entries)
  unfolding all_passed
  all_lift before [] = refl
  all_lift before (entry ∷ entries) =
      ap (λ (p : Passed). all_passed (map (lift runs) before ++ p ∷ []) (placed runs entries)) (passing_lift before entry)
      ∙ ap (λ (xs : List Passed). all_passed xs (placed runs entries)) (sym (map-append (lift runs) before (passing before entry ∷ [])))
      ∙ all_lift (before ++ passing before entry ∷ []) entries

  -- regions stay of one id
  pub one_region_lift : (a b : What) → are_one_region (placed_what runs a) (placed_what runs b) ≡ are_one_region a b
  one_region_lift (whats.Shared id host guest size owner) b = kept_what (are_one_region (whats.Shared id (host_in runs id host) guest size owner)) runs (λ other_id one other other_guest other_size other_owner. refl) b ∙ same b
    where
      same : (b : What) → are_one_region (whats.Shared id (host_in runs id host) guest size owner) b ≡ are_one_region (whats.Shared id host guest size owner) b
      same (whats.Shared other_id other_host other_guest other_size other_owner) = refl
      same _ = refl
  one_region_lift _ b = refl
