use Rattle.std.proofs.Common.{◌≡◌, ◌∙◌, ℕ, List, Bool, sym, subst, arith}
use Rattle.rv_diagram.specs.{Nodes.Answers, Nodes.valuation_of, Nodes.choice, Nodes.IsRef, Several.Gives, Several.Somewhere}
use Rattle.rv_symbolic.specs.{Variables.AreAllBut, declared.relation.Parts.Parts}
use Rattle.rv_left.proofs.Quantifying.{failing_made}
use Rattle.rv_left.proofs.failures.failing_in.Goals as goal

pub state_bits-bits-requires : goal.state_bits-bits-requires
state_bits-bits-requires c = (c.requires.0, c.args.store.now, c.requires.1)

pub all_but_bits-requires : goal.all_but_bits-requires
all_but_bits-requires c =
    omega (arith, c.state_bits-bits.ensures, c.requires.1.laid_out.refs.copies, c.requires.1.laid_out.few)

pub ite-requires : goal.ite-requires
ite-requires c =
    let parts : c.parts-parts.result.now ≡ c.args.relation.now.parts = c.parts-parts.ensures in
    record {
      when = subst (λ (p : Parts). IsRef c.args.store.now.nodes p.observer) (sym parts) c.requires.1.laid_out.refs.observer;
      yes = c.constant-never.ensures.found;
      no = subst (λ (p : Parts). IsRef c.args.store.now.nodes p.allowed) (sym parts) c.requires.1.laid_out.refs.allowed;
    }

pub returns-clause-exact : goal.returns-clause-exact
returns-clause-exact c s is =
    let parts : c.parts-parts.result.now ≡ c.args.relation.now.parts = c.parts-parts.ensures in
    let slice : c.as_slice.result.now ≡ c.in_ok-others.others = c.as_slice.ensures in
    let bits : c.state_bits-bits.result ≡ s.states = c.state_bits-bits.ensures ∙ is.parts.states in
    let variables : c.variables-variables.result ≡ s.variables = c.variables-variables.ensures.is ∙ is.parts.variables in
    failing_made s c.args.store.now c.ite.new.self c.exists_each.new.self c.args.relation.now is c.constant-never.result c.in_ok-bad.bad
    c.in_ok-states.states c.in_ok-others.others c.constant-never.ensures.means
    (subst (λ (p : Parts). Answers c.args.store.now c.ite.new.self (choice c.args.store.now.nodes p.observer c.constant-never.result p.allowed)
    c.in_ok-bad.bad) parts c.in_ok-bad.ensures.ok)
    (subst (λ (l : List Bool). Gives c.ite.new.self c.exists_each.new.self (Somewhere c.ite.new.self.nodes c.in_ok-bad.bad (valuation_of l))
    c.in_ok-states.states) slice c.in_ok-states.ensures.ok)
    (subst (λ (n : ℕ). AreAllBut s.variables n 0 (valuation_of c.in_ok-others.others)) bits
    (subst (λ (m : ℕ). AreAllBut m c.state_bits-bits.result 0 (valuation_of c.in_ok-others.others)) variables c.in_ok-others.ensures))
    c.in_ok-freeze.field-0
    (c.in_ok-states.ensures.ok.grows.variables ∙ c.in_ok-bad.ensures.ok.grows.variables ∙ is.parts.variables)
    c.in_ok-freeze.ensures.ordered c.in_ok-freeze.ensures.means c.in_ok-freeze.ensures.needed
