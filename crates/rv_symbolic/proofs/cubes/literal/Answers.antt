use Rattle.std.proofs.Common.{◌≡◌, Bool, true, subst, sym}
use Rattle.rv_diagram.specs.Nodes.{Answers, value_of, choice}
use Rattle.rv_symbolic.specs.Growing.{Finds}
use Rattle.rv_symbolic.proofs.{Extending.map_ok, Wording.literal_on, Wording.literal_off}
use Rattle.rv_symbolic.proofs.cubes.literal.Goals as goal

pub returns-then-value-clause-ok : goal.returns-then-value-clause-ok
returns-then-value-clause-ok c =
    map_ok c.ite.result (λ r. Answers c.variable.new.self c.ite.new.self
    (choice c.variable.new.self.nodes c.in_ok-bit.bit c.args.rest c.constant-never.result) r) _
    (λ r h. subst (λ (b : Bool). Finds c.args.store.now c.ite.new.self
    (λ v. (v c.args.variable ≡ b) × (value_of c.args.store.now.nodes c.args.rest v ≡ true)) r) (sym c.if-value.true)
    (literal_on c.args.store.now c.variable.new.self c.ite.new.self c.args.rest c.constant-never.result c.in_ok-bit.bit r c.args.variable
    c.requires.rest c.constant-never.ensures.found c.constant-never.ensures.means c.in_ok-bit.ensures.ok h))
    c.ite.ensures.ok

pub returns-else-value-clause-ok : goal.returns-else-value-clause-ok
returns-else-value-clause-ok c =
    map_ok c.ite-else-value.result (λ r. Answers c.variable.new.self c.ite-else-value.new.self
    (choice c.variable.new.self.nodes c.in_ok-bit.bit c.constant-never.result c.args.rest) r) _
    (λ r h. subst (λ (b : Bool). Finds c.args.store.now c.ite-else-value.new.self
    (λ v. (v c.args.variable ≡ b) × (value_of c.args.store.now.nodes c.args.rest v ≡ true)) r) (sym c.if-value.false)
    (literal_off c.args.store.now c.variable.new.self c.ite-else-value.new.self c.args.rest c.constant-never.result c.in_ok-bit.bit r c.args.variable
    c.requires.rest c.constant-never.ensures.found c.constant-never.ensures.means c.in_ok-bit.ensures.ok h))
    c.ite-else-value.ensures.ok
