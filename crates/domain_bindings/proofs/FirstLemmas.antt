-- The first modules of each kind, module by module.
use Rattle.std.proofs.Common.{◌≡◌, ◌∙◌, ap, sym, refl, ℕ, ◌+◌, ◌<◌, Bool, true, false, List, [], ◌∷◌, ◌++◌, length, map, take, find, Some, None, slice_index_or}
use Rattle.std.specs.Prelude.{Option, is_none, is_some, option_map, ◌&&◌}
use Rattle.std.specs.Option.{option_or}
use Rattle.std.proofs.lemmas.List.{map-append}
use Rattle.std.proofs.lemmas.List.Folds.{find-append}
use Rattle.described.specs.declared.item.Described.{Described}
use Rattle.described.specs.declared.item.ModuleKind.{ModuleKind}
use Rattle.described.specs.declared.item.ModuleKind.TheVariants.{Kernel, Ramdisk, DeviceTree, Other}
use Rattle.fdt_tree.specs.Document.{Document}
use Rattle.fdt_nodes.specs.Nodes.{Node}
use Rattle.fdt_nodes.specs.Held.{node_of}
use Rattle.domain_bindings.specs.Modules.{are_alike, kind_of, first_of_kind, module_item, module_items}
use Rattle.domain_bindings.specs.PrivateFirsts.{AreFirsts}
use Rattle.domain_bindings.proofs.Kept.{map_more}
use Rattle.domain_bindings.proofs.ItemLemmas.{one_module}

-- a module that is kept
pub kept_first : (document : Document) (earlier : List Node) (kept new : List ℕ) (node : ℕ) → AreFirsts document earlier kept → new ≡ kept ++ node ∷ []
    → AreFirsts document (earlier ++ node_of document node ∷ []) new
kept_first document earlier kept new node are added kind =
    let test : Node → Bool = λ one. are_alike kind (kind_of one) in
    let last : List Node = node_of document node ∷ [] in
    ap (λ (l : List ℕ). find test (map (node_of document) l)) added
    ∙ (ap (find test) (map-append (node_of document) kept (node ∷ [])) ∙ (find-append test (map (node_of document) kept) last
    ∙ (ap (λ (first : Option Node). option_or first (find test last)) (are kind) ∙ sym (find-append test earlier last))))

-- the kind of a module that is not kept: it is none of the three, or was met before
abbrev pub IsMet : ModuleKind → Option Node → Type 0
IsMet kind first = (are_alike kind kind && is_none first) ≡ false

-- it is none of the three
pub met_other : (own kind : ModuleKind) (first : Option Node) → own ≡ kind → are_alike own own ≡ false → IsMet kind first
met_other own kind first is other = ap (λ (k : ModuleKind). are_alike k k && is_none first) (sym is) ∙ ap (λ b. b && is_none first) other

-- it was met before
pub met_before : (kind : ModuleKind) (f : ℕ → Node) (found : Option ℕ) (first : Option Node) → is_some found ≡ true → option_map f found ≡ first → IsMet kind first
met_before kind f None first there is = absurd (cc)
met_before kind f (Some node) first there is = ap (λ (one : Option Node). are_alike kind kind && is_none one) (sym is) ∙ and_false (are_alike kind kind)
  where
    and_false : (b : Bool) → (b && false) ≡ false
    and_false true = refl
    and_false false = refl

or_none : (first : Option Node) → option_or first None ≡ first
or_none None = refl
or_none (Some node) = refl

or_some : (first other : Option Node) → is_none first ≡ false → option_or first other ≡ first
or_some None other is = absurd (cc)
or_some (Some node) other is = refl

-- another kind is not found in one module
not_alike : (kind own : ModuleKind) (first : Option Node) (node : Node) → kind_of node ≡ own → (first_there : are_alike kind own ≡ true → is_none first ≡ false) → option_or first (find (λ one. are_alike kind (kind_of one)) (node ∷ [])) ≡ first
not_alike kind own first node is there = by (are_alike kind own) refl
  where
    by : (b : Bool) → are_alike kind own ≡ b → option_or first (find (λ one. are_alike kind (kind_of one)) (node ∷ [])) ≡ first
    by true alike = or_some first _ (there alike)
    by false alike = rw (is, alike) (or_none first)

-- a kind is like itself alone
met : (kind own : ModuleKind) (firsts : ModuleKind → Option Node) → IsMet own (firsts own) → are_alike kind own ≡ true → is_none (firsts kind) ≡ false
met Kernel Kernel firsts is alike = is
met Kernel Ramdisk firsts is alike = absurd (cc)
met Kernel DeviceTree firsts is alike = absurd (cc)
met Kernel Other firsts is alike = absurd (cc)
met Ramdisk Kernel firsts is alike = absurd (cc)
met Ramdisk Ramdisk firsts is alike = is
met Ramdisk DeviceTree firsts is alike = absurd (cc)
met Ramdisk Other firsts is alike = absurd (cc)
met DeviceTree Kernel firsts is alike = absurd (cc)
met DeviceTree Ramdisk firsts is alike = absurd (cc)
met DeviceTree DeviceTree firsts is alike = is
met DeviceTree Other firsts is alike = absurd (cc)
met Other own firsts is alike = absurd (cc)

-- a module that is not kept
pub left_first : (document : Document) (earlier : List Node) (kept : List ℕ) (node : ℕ) → AreFirsts document earlier kept
    → IsMet (kind_of (node_of document node)) (first_of_kind (kind_of (node_of document node)) (map (node_of document) kept))
    → AreFirsts document (earlier ++ node_of document node ∷ []) kept
left_first document earlier kept node are is kind =
    let own = kind_of (node_of document node) in
    let first : Option Node = first_of_kind kind earlier in
    are kind
    ∙ sym (find-append (λ one. are_alike kind (kind_of one)) earlier (node_of document node ∷ [])
    ∙ not_alike kind own first (node_of document node) refl
    (λ alike. met kind own (λ k. first_of_kind k earlier) (rw (← are own) is) alike))

-- an item of a module is the same after modules with the same first ones
same_item : (earlier others : List Node) (node : Node) → first_of_kind (kind_of node) others ≡ first_of_kind (kind_of node) earlier → module_item others node ≡ module_item earlier node
same_item earlier others node same = rw same refl

-- the modules so far, and the first of each kind among them
pub record ModulesSoFar (document : Document) (modules : List Node) (old items : List Described) (kept : List ℕ) : Type 0 where
  pub listed : items ≡ old ++ module_items [] modules
  pub firsts : AreFirsts document modules kept

-- one more module
pub one_more_module : (document : Document) (modules : List ℕ) (index node : ℕ) (old items new : List Described) (item : Described) (kept more : List ℕ)
    → ModulesSoFar document (map (node_of document) (take index modules)) old items kept → index < length modules → node ≡ slice_index_or modules index node
    → item ≡ module_item (map (node_of document) kept) (node_of document node) → new ≡ items ++ item ∷ []
    → ((earlier : List Node) → AreFirsts document earlier kept → AreFirsts document (earlier ++ node_of document node ∷ []) more)
    → ModulesSoFar document (map (node_of document) (take (index + 1) modules)) old new more
one_more_module document modules index node old items new item kept more so_far there is made added noted =
    let done = map (node_of document) (take index modules) in
    record {
      listed = one_module document modules index node old items new item so_far.listed there is
          (made ∙ same_item done (map (node_of document) kept) (node_of document node) (so_far.firsts (kind_of (node_of document node)))) added;
      firsts = rw (map_more (node_of document) modules index node there is) (noted done so_far.firsts);
    }
