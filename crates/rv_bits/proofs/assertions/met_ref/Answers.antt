use Rattle.std.proofs.Common.{◌∙◌, true, cond, ℕ, Option, ap, sym, refl}
use Rattle.rv_diagram.specs.Nodes.{Answers, choice, value_of}
use Rattle.rv_diagram.proofs.Calls.{value_of-true}
use Rattle.rv_diagram.proofs.Growing.{extends_refl}
use Rattle.rv_symbolic.proofs.Extending.{map_ok}
use Rattle.rv_bits.specs.{Bits.bit, Shown.clock_bit}
use Rattle.rv_bits.proofs.Making.{choice_made, makes_to}
use Rattle.rv_bits.proofs.assertions.met_ref.Goals as goal

pub returns-in-Some-clause-ok : goal.returns-in-Some-clause-ok
returns-in-Some-clause-ok c =
    let a = c.args.store.now in
    let b = c.ite.new.self in
    let p = c.ref_of-in-Some.result in
    let q = c.ref_of-in-Some-2.result in
    map_ok c.ite.result (Answers a b (choice a.nodes p q 1)) _
    (λ r t. makes_to a a b (λ v. cond (value_of a.nodes p v) (value_of a.nodes q v) true)
    (λ v. cond (clock_bit a.nodes c.args.on.now c.args.clock v) (bit a.nodes c.args.bits.now v 0) true) r (extends_refl a)
    (choice_made a a b p q 1 r (value_of a.nodes p) (value_of a.nodes q) (λ v. true) (extends_refl a) (λ v. refl) (λ v. refl) (λ v. value_of-true a.nodes v) t)
    (λ v i. cond ((ap (λ x. value_of a.nodes x v) c.ref_of-in-Some.ensures ∙ ap (λ (o : Option ℕ). clock_bit a.nodes c.args.on.now o v) (sym c.in-Some.is)) i)
    (value_of a.nodes (c.ref_of-in-Some-2.ensures i) v) true))
    c.ite.ensures.ok
