use Rattle.std.proofs.Common.{◌≡◌, ◌↔◌, ◌∙◌, ◌&&◌, Bool, true, sym}
use Rattle.std.proofs.{lemmas.Result.IfOk-weaker, lemmas.Bool.and_parts, lemmas.Bool.and_from}
use Rattle.rv_diagram.specs.Nodes.{Valuation, Answers, value_of}
use Rattle.rv_walk.specs.Ends.{has}
use Rattle.rv_pairs.proofs.opening.within.Goals as goal

both_is : (r a b x y : Bool) → r ≡ (a && b) → a ≡ x → b ≡ y → (r ≡ true) ↔ ((x ≡ true) × (y ≡ true))
both_is r a b x y is e f = (
  λ on. let (p, q) = and_parts a b (sym is ∙ on) in (sym e ∙ p, sym f ∙ q),
  λ (p, q). is ∙ and_from a b (e ∙ p) (f ∙ q),
)

pub returns-clause-exact : goal.returns-clause-exact
returns-clause-exact c =
    IfOk-weaker c.and.result
    (Answers c.thaw.new.self c.and.new.self (λ v. value_of c.thaw.new.self.nodes c.args.allowed v && value_of c.thaw.new.self.nodes c.in_ok-set.set v))
    (λ r. (v : Valuation) → (value_of c.and.new.self.nodes r v ≡ true)
    ↔ ((value_of c.args.store.now.nodes c.args.allowed v ≡ true) × (has c.args.reached.now v ≡ true)))
    (λ r t v. both_is (value_of c.and.new.self.nodes r v) (value_of c.thaw.new.self.nodes c.args.allowed v) (value_of c.thaw.new.self.nodes c.in_ok-set.set v)
    (value_of c.args.store.now.nodes c.args.allowed v) (has c.args.reached.now v) (t.means v)
    (c.in_ok-set.ensures.ok.grows.kept c.args.allowed c.requires.allowed v) (c.in_ok-set.ensures.ok.means v))
    c.and.ensures.ok
