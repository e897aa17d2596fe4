use Rattle.std.proofs.Common.{◌≡◌, ◌∙◌, sym, subst, Bool, Some}
use Rattle.std.specs.Prelude.{Option, IfSome}
use Rattle.fdt_nodes.specs.Held.{node_of}
use Rattle.passthrough_dtb.specs.PrivateFacts.{AreOnGic}
use Rattle.passthrough_dtb.specs.Gic.{is_on_gic}
use Rattle.passthrough_dtb.proofs.KnownNodes.{one_known}
use Rattle.passthrough_dtb.proofs.Upward.{gic_met, gic_missed, gic_above}
use Rattle.passthrough_dtb.proofs.gic.+is_on_gic.Goals as goal
use Rattle.passthrough_dtb.proofs.gic.+is_on_gic.Goals.{in-Some-prop, in-None+in-None-parent, in-None+in-Some-parent+in_ok-is-in-Some-parent}

kept : {A : Type 0} (P : A → Type 0) (value : A) (found : Option A) → Some value ≡ found → IfSome found P → P value
kept {A = A} P value found is holds = subst (λ (f : Option A). IfSome f P) (sym is) holds

pub returns-in-Some-clause-is : goal.returns-in-Some-clause-is
returns-in-Some-clause-is t c = kept (λ (is : Bool). is ≡ is_on_gic c.args.host.now.tree (node_of c.args.host.now c.args.node)) c.in-Some.is'.now _ c.in-Some.ensures.value (c.requires.known c.args.node)

pub returns-clause-is : goal.returns-clause-is
returns-clause-is t c = elim c.match-prop.branch [
  | in-Some-prop w ↦ w.is-is ∙ w.is_phandle-is.ensures ∙ gic_met c.args.host.now c.args.node c.args.gic w.in-Some-prop.value.now c.requires.gic (sym w.in-Some-prop.ensures)
  | in-None+in-None-parent w ↦ w.is-is ∙ gic_missed c.args.host.now c.args.node w.parent.result w.in-None-parent.is (sym w.in-None.ensures) w.parent.ensures.place
  | in-None+in-Some-parent+in_ok-is-in-Some-parent w ↦
      w.is-is ∙ w.in_ok-is-in-Some-parent.ensures.is
      ∙ gic_above c.args.host.now c.args.node w.parent.result w.in-Some-parent.above w.in-Some-parent.is (sym w.in-None.ensures) w.parent.ensures.place
]

pub returns-clause-known : goal.returns-clause-known
returns-clause-known t c =
    one_known (λ node is. is ≡ is_on_gic c.args.host.now.tree (node_of c.args.host.now node)) c.match-prop.known c.insert.new.self c.args.node c.match-prop.is before c.in_ok-insert.ensures.updates
    (returns-clause-is t c)
  where
    before : AreOnGic c.args.host.now c.match-prop.known
    before = elim c.match-prop.branch [
      | in-Some-prop w ↦ subst (AreOnGic c.args.host.now) (sym w.known-is) c.requires.known
      | in-None+in-None-parent w ↦ subst (AreOnGic c.args.host.now) (sym w.known-is) c.requires.known
      | in-None+in-Some-parent+in_ok-is-in-Some-parent w ↦ subst (AreOnGic c.args.host.now) (sym w.known-is) w.in_ok-is-in-Some-parent.ensures.known
    ]
