use Rattle.std.proofs.Common.{◌≡◌, ◌↔◌, ◌∙◌, ◌&&◌, ◌≤ℤ◌, ℤ, ap, true, Some, FitsSigned, rules}
use Rattle.std.proofs.{lemmas.Int.to_z-of_z, lemmas.Result.IfOk-weaker}
use Rattle.std.specs.Int.{w128}
use Rattle.rv_diagram.specs.{Nodes.Valuation, Nodes.Answers, Nodes.value_of, Growing.Extends}
use Rattle.rv_diagram.proofs.Growing.{extends_trans, grows_extends, call_extends}
use Rattle.rv_ends.specs.Sides.{side_at}
use Rattle.rv_ends.proofs.Tightening.{taken_exact}
use Rattle.rv_ends.proofs.sides.taken_where.Goals as goal

pub returns-clause-extends : goal.returns-clause-extends
returns-clause-extends c =
    extends_trans c.args.store.now c.not.new.self c.and.new.self
    (extends_trans c.args.store.now c.below.new.store c.not.new.self c.in_ok-lower.ensures.extends
    (grows_extends c.below.new.store c.not.new.self c.in_ok-fresh.ensures.ok.grows))
    (call_extends c.not.new.self c.and.new.self (λ v. value_of c.not.new.self.nodes c.args.under v && value_of c.not.new.self.nodes c.in_ok-fresh.fresh v)
    c.and.result c.and.ensures.ok c.and.ensures.err)

pub returns-clause-exact : goal.returns-clause-exact
returns-clause-exact c =
    let fits : FitsSigned w128 c.args.bound = search rules in
    let exact = simp to_z-of_z at c.in_ok-lower.ensures.exact in
    let grown : Extends c.args.store.now c.not.new.self = extends_trans c.args.store.now c.below.new.store c.not.new.self c.in_ok-lower.ensures.extends
    (grows_extends c.below.new.store c.not.new.self c.in_ok-fresh.ensures.ok.grows) in
    IfOk-weaker c.and.result
    (Answers c.not.new.self c.and.new.self
    (λ v. value_of c.not.new.self.nodes c.args.under v && value_of c.not.new.self.nodes c.in_ok-fresh.fresh v))
    (λ r. (v : Valuation) → (value_of c.and.new.self.nodes r v ≡ true)
    ↔ ((value_of c.args.store.now.nodes c.args.under v ≡ true)
    × ((b : ℤ) → side_at c.args.store.now.nodes c.args.side.now v ≡ Some b → c.args.bound ≤ℤ b)))
    (λ r a v. taken_exact (side_at c.args.store.now.nodes c.args.side.now v) c.args.bound (value_of c.args.store.now.nodes c.args.under v)
    (value_of c.below.new.store.nodes c.in_ok-lower.lower v) (value_of c.and.new.self.nodes r v)
    (a.means v ∙ ap (λ x. x && value_of c.not.new.self.nodes c.in_ok-fresh.fresh v) (grown.kept c.args.under c.requires.under v)
    ∙ ap (λ x. value_of c.args.store.now.nodes c.args.under v && x) (c.in_ok-fresh.ensures.ok.means v))
    (exact v))
    c.and.ensures.ok
