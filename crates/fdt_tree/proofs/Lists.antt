-- Lists with one item changed, and rows of the arena.
use Rattle.std.proofs.Common.{◌≡◌, ◌≢◌, ℕ, zero, suc, ◌+◌, ◌<◌, List, [], ◌∷◌, ◌++◌, Option, Some, None, option_map, length, get_or, set, slice_get, cond, refl, sym, ap, ◌∙◌, arith, ne_eqb}
use Rattle.std.proofs.lemmas.List.Sums.{fold-append}
use Rattle.fdt_tree.specs.Assembled.{Added, added, grown, assembled, owned, first_owned, last_owned, rows}
use Rattle.fdt_tree.specs.PrivateLinks.{modified, followed, linked, with_first_child, with_next_sibling, with_last_child}
use Rattle.fdt_tree.specs.declared.node.Node.{Node}
use Rattle.fdt_tree.specs.declared.node.Slot.{Slot}

pub get-modified_same : {A : Type 0} (f : A → A) (xs : List A) (p : ℕ) → slice_get (modified f p xs) p ≡ option_map f (slice_get xs p)
get-modified_same f [] p = refl
get-modified_same f (x ∷ xs) zero = refl
get-modified_same f (x ∷ xs) (suc p) = get-modified_same f xs p

pub get-modified_other : {A : Type 0} (f : A → A) (xs : List A) (p i : ℕ) → i ≢ p → slice_get (modified f p xs) i ≡ slice_get xs i
get-modified_other f [] p i ne = refl
get-modified_other f (x ∷ xs) zero zero ne = absurd (ne refl)
get-modified_other f (x ∷ xs) zero (suc i) ne = refl
get-modified_other f (x ∷ xs) (suc p) zero ne = refl
get-modified_other f (x ∷ xs) (suc p) (suc i) ne = get-modified_other f xs p i (λ q. ne (ap suc q))

pub length-modified : {A : Type 0} (f : A → A) (xs : List A) (p : ℕ) → length (modified f p xs) ≡ length xs
length-modified f [] p = refl
length-modified f (x ∷ xs) zero = refl
length-modified f (x ∷ xs) (suc p) = ap suc (length-modified f xs p)

pub set-modified : {A : Type 0} (f : A → A) (xs : List A) (p : ℕ) (x : A) → p < length xs → x ≡ get_or xs p x → set xs p (f x) ≡ modified f p xs
set-modified f [] p x h e = absurd (omega arith)
set-modified f (y ∷ xs) zero x h e = ap (λ z. f z ∷ xs) e
set-modified f (y ∷ xs) (suc p) x h e = ap (λ z. y ∷ z) (set-modified f xs p x (omega arith) e)

pub get-append_old : {A : Type 0} (xs : List A) (x : A) (i : ℕ) → i < length xs → slice_get (xs ++ x ∷ []) i ≡ slice_get xs i
get-append_old [] x i h = absurd (omega arith)
get-append_old (y ∷ xs) x zero h = refl
get-append_old (y ∷ xs) x (suc i) h = get-append_old xs x i (omega arith)

pub get-append_new : {A : Type 0} (xs : List A) (x : A) → slice_get (xs ++ x ∷ []) (length xs) ≡ Some x
get-append_new [] x = refl
get-append_new (y ∷ xs) x = get-append_new xs x

pub get-within : {A : Type 0} (xs : List A) (i : ℕ) (x : A) → slice_get xs i ≡ Some x → i < length xs
get-within [] i x e = absurd (cc)
get-within (y ∷ xs) zero x e = omega arith
get-within (y ∷ xs) (suc i) x e = omega (arith, get-within xs i x e)

pub length-last : {A : Type 0} (xs : List A) (x : A) → length (xs ++ x ∷ []) ≡ suc (length xs)
length-last [] x = refl
length-last (y ∷ xs) x = ap suc (length-last xs x)

pub there : {A : Type 0} (xs : List A) (i : ℕ) → i < length xs → (x : A) × (slice_get xs i ≡ Some x)
there [] i h = absurd (omega arith)
there (x ∷ xs) zero h = (x, refl)
there (x ∷ xs) (suc i) h = there xs i (omega arith)

pub read-there : {A : Type 0} (xs : List A) (i : ℕ) (x : A) → i < length xs → x ≡ get_or xs i x → slice_get xs i ≡ Some x
read-there [] i x h e = absurd (omega arith)
read-there (y ∷ xs) zero x h e = ap Some (sym e)
read-there (y ∷ xs) (suc i) x h e = read-there xs i x (omega arith) e

-- A change of links keeps the parent and the name of every node.
pub record Keeps (f : Node → Node) : Type 0 where
  pub added : (number : ℕ) (n : Node) (slots : List Slot) → added number (f n) slots ≡ added number n slots

pub rows-modified : (f : Node → Node) → Keeps f → (nodes : List Node) (p first : ℕ) (slots : List Slot) → rows first (modified f p nodes) slots ≡ rows first nodes slots
rows-modified f k [] p first slots = refl
rows-modified f k (n ∷ nodes) zero first slots = ap (λ z. z ∷ rows (suc first) nodes slots) (k.added first n slots)
rows-modified f k (n ∷ nodes) (suc p) first slots = ap (λ z. added first n slots ∷ z) (rows-modified f k nodes p (suc first) slots)

pub rows-followed : (last : Option ℕ) (p c : ℕ) (nodes : List Node) (slots : List Slot) → rows 0 (followed last p c nodes) slots ≡ rows 0 nodes slots
rows-followed None p c nodes slots = rows-modified (with_first_child c) (record { added = λ k n s. refl }) nodes p 0 slots
rows-followed (Some l) p c nodes slots = rows-modified (with_next_sibling c) (record { added = λ k n s. refl }) nodes l 0 slots

pub length-followed : (last : Option ℕ) (p c : ℕ) (nodes : List Node) → length (followed last p c nodes) ≡ length nodes
length-followed None p c nodes = length-modified (with_first_child c) nodes p
length-followed (Some l) p c nodes = length-modified (with_next_sibling c) nodes l

pub length-linked : (nodes : List Node) (p : ℕ) (last : Option ℕ) (node : Node) → length (linked nodes p last node) ≡ suc (length nodes)
length-linked nodes p last node =
    length-modified (with_last_child (length nodes)) (followed last p (length nodes) (nodes ++ node ∷ [])) p ∙ (length-followed last p (length nodes) (nodes ++ node ∷ []) ∙ length-last nodes node)

pub rows-append : (nodes : List Node) (node : Node) (first : ℕ) (slots : List Slot) → rows first (nodes ++ node ∷ []) slots ≡ rows first nodes slots ++ added (first + length nodes) node slots ∷ []
rows-append [] node first slots = let e : first ≡ first + 0 = omega arith in ap (λ k. added k node slots ∷ []) e
rows-append (n ∷ nodes) node first slots =
    let e : suc first + length nodes ≡ first + suc (length nodes) = omega arith in ap (λ z. added first n slots ∷ z) (rows-append nodes node (suc first) slots ∙ ap (λ k. rows (suc first) nodes slots ++ added k node slots ∷ []) e)

pub length-rows : (nodes : List Node) (first : ℕ) (slots : List Slot) → length (rows first nodes slots) ≡ length nodes
length-rows [] first slots = refl
length-rows (n ∷ nodes) first slots = ap suc (length-rows nodes (suc first) slots)

pub rows-linked : (nodes : List Node) (p : ℕ) (last : Option ℕ) (node : Node) (slots : List Slot) → rows 0 (linked nodes p last node) slots ≡ rows 0 nodes slots ++ added (length nodes) node slots ∷ []
rows-linked nodes p last node slots =
    rows-modified (with_last_child (length nodes)) (record { added = λ k n s. refl }) (followed last p (length nodes) (nodes ++ node ∷ [])) p 0 slots ∙ (rows-followed last p (length nodes) (nodes ++ node ∷ []) slots ∙ (rows-append nodes node 0 slots ∙ ap (λ k. rows 0 nodes slots ++ added k node slots ∷ []) (let e : 0 + length nodes ≡ length nodes = omega arith in e)))

pub assembled-last : (rows : List Added) (row : Added) → 0 < length rows → assembled (rows ++ row ∷ []) ≡ grown (assembled rows) row
assembled-last [] row h = absurd (omega arith)
assembled-last (root ∷ rest) row h = fold-append grown _ rest (row ∷ [])

-- A node to which no slot belongs has no property.
pub owned-none : (node : ℕ) (slots : List Slot) → ((k : ℕ) (s : Slot) → slice_get slots k ≡ Some s → s.owner < node) → owned node slots ≡ []
owned-none node [] h = refl
owned-none node (s ∷ slots) h =
    ap (λ b. cond b ((s.name, s.value) ∷ owned node slots) (owned node slots)) (ne_eqb s.owner node (λ q. omega (arith, h 0 s refl, q))) ∙ owned-none node slots (λ k t e. h (suc k) t e)

pub first_owned-none : (node k : ℕ) (slots : List Slot) → ((i : ℕ) (s : Slot) → slice_get slots i ≡ Some s → s.owner < node) → first_owned node k slots ≡ None
first_owned-none node k [] h = refl
first_owned-none node k (s ∷ slots) h =
    ap (λ b. cond b (Some k) (first_owned node (suc k) slots)) (ne_eqb s.owner node (λ q. omega (arith, h 0 s refl, q))) ∙ first_owned-none node (suc k) slots (λ i t e. h (suc i) t e)

pub last_owned-none : (o : Option ℕ) (node k : ℕ) (slots : List Slot) → ((i : ℕ) (s : Slot) → slice_get slots i ≡ Some s → s.owner < node) → last_owned o node k slots ≡ o
last_owned-none o node k [] h = refl
last_owned-none o node k (s ∷ slots) h =
    ap (λ b. last_owned (cond b (Some k) o) node (suc k) slots) (ne_eqb s.owner node (λ q. omega (arith, h 0 s refl, q))) ∙ last_owned-none o node (suc k) slots (λ i t e. h (suc i) t e)
