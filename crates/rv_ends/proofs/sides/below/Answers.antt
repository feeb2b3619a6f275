use Rattle.std.proofs.Common.{◌≡◌, ◌↔◌, ◌∙◌, ◌&&◌, ◌<ℤ◌, ℤ, ap, true, Some, FitsSigned, rules}
use Rattle.std.proofs.{lemmas.Int.to_z-of_z, lemmas.Result.IfOk-weaker}
use Rattle.std.specs.Int.{w128}
use Rattle.rv_diagram.specs.Nodes.{Valuation, Answers, value_of}
use Rattle.rv_diagram.proofs.Growing.{extends_trans, call_extends}
use Rattle.rv_ends.specs.Sides.{side_at}
use Rattle.rv_ends.proofs.Tightening.{side_below}
use Rattle.rv_ends.proofs.sides.below.Goals as goal

pub returns-clause-extends : goal.returns-clause-extends
returns-clause-extends c =
    extends_trans c.args.store.now c.parts_below.new.store c.and.new.self c.in_ok-parts.ensures.extends
    (call_extends c.parts_below.new.store c.and.new.self
    (λ v. value_of c.parts_below.new.store.nodes c.args.side.now.there v && value_of c.parts_below.new.store.nodes c.in_ok-parts.parts v)
    c.and.result c.and.ensures.ok c.and.ensures.err)

pub returns-clause-exact : goal.returns-clause-exact
returns-clause-exact c =
    let fits : FitsSigned w128 c.args.bound = search rules in
    let exact = simp to_z-of_z at c.in_ok-parts.ensures.exact in
    IfOk-weaker c.and.result
    (Answers c.parts_below.new.store c.and.new.self
    (λ v. value_of c.parts_below.new.store.nodes c.args.side.now.there v && value_of c.parts_below.new.store.nodes c.in_ok-parts.parts v))
    (λ r. (v : Valuation) → (value_of c.and.new.self.nodes r v ≡ true)
    ↔ ((b : ℤ) × (side_at c.args.store.now.nodes c.args.side.now v ≡ Some b) × (b <ℤ c.args.bound)))
    (λ r a v. side_below c.args.store.now.nodes c.and.new.self.nodes c.args.side.now r v (value_of c.parts_below.new.store.nodes c.in_ok-parts.parts v)
    c.args.bound
    (a.means v ∙ ap (λ x. x && value_of c.parts_below.new.store.nodes c.in_ok-parts.parts v)
    (c.in_ok-parts.ensures.extends.kept c.args.side.now.there c.requires.side.1.there v))
    (exact v))
    c.and.ensures.ok
