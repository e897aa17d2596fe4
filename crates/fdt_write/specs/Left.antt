-- For proofs, private contracts and the model of `TreeTokens` alone: the tokens of a tree that are left.
use Rattle.std.specs.Prelude.{◌<◌, ⊤, List, [], ◌∷◌, ◌++◌, All, drop, flat_map, length}
use Rattle.fdt_tree.specs.Document.{Document, properties_of}
use Rattle.fdt_tree.specs.Visits.{Seen, begins, ends, seen, IsLive}
use Rattle.fdt_tree.specs.declared.walk.Visit.{Visit}
use Rattle.fdt_read.specs.Tokens.{Token, begin_node, end_node, end}
use Rattle.fdt_read.specs.Spelling.{spelled_properties}
use Rattle.fdt_write.specs.declared.tree_tokens.Step.{Step}
use Rattle.fdt_write.specs.declared.tree_tokens.Step.TheVariants.{Between, Inside, Done}

-- The tokens of what is seen on a walk: a node begins, with its properties, or ends.
abbrev pub seen_tokens : Seen → List Token
seen_tokens (begins place name properties) = begin_node name ∷ spelled_properties properties
seen_tokens ends = end_node ∷ []

-- The tokens of the visits that are to come, and END.
abbrev pub tokens_of : Document → List Visit → List Token
tokens_of d visits = flat_map (λ visit. seen_tokens (seen d visit)) visits ++ end ∷ []

-- The tokens that are left, by the visits that are to come.
abbrev pub left_at : Document → List Visit → Step → List Token
left_at d visits Between = tokens_of d visits
left_at d visits (Inside node index) = spelled_properties (drop index (properties_of d node)) ++ tokens_of d visits
left_at d visits Done = []

-- The node whose properties come next is live.
abbrev pub HasLiveNode : Document → Step → Type 0
HasLiveNode d Between = ⊤
HasLiveNode d (Inside node index) = node < length d.places
HasLiveNode d Done = ⊤

-- All nodes that are met are live.
pub record AreLive (d : Document) (visits : List Visit) (step : Step) : Type 0 where
  pub coming : All (IsLive d) visits
  pub here : HasLiveNode d step
