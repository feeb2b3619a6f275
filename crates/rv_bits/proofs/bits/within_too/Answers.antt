use Rattle.std.proofs.Common.{◌&&◌, ◌||◌, Bool, true, false, cond, subst, sym, refl}
use Rattle.rv_diagram.specs.Nodes.{Answers, choice, value_of}
use Rattle.rv_diagram.proofs.Calls.{value_of-false, value_of-true}
use Rattle.rv_diagram.proofs.Growing.{extends_refl}
use Rattle.rv_symbolic.proofs.Extending.{map_ok}
use Rattle.rv_symbolic.specs.Growing.{Makes}
use Rattle.rv_bits.proofs.Making.{choice_made}
use Rattle.rv_bits.proofs.bits.within_too.Goals as goal

pub returns-then-number-clause-ok : goal.returns-then-number-clause-ok
returns-then-number-clause-ok c = map_ok c.ite.result (Answers c.args.store.now c.ite.new.self (choice c.args.store.now.nodes c.args.own c.args.within 1)) _
    (λ r t. subst (λ (n : Bool). Makes c.args.store.now c.ite.new.self
    (λ v. cond (value_of c.args.store.now.nodes c.args.own v) (n && value_of c.args.store.now.nodes c.args.within v)
    (n || value_of c.args.store.now.nodes c.args.within v)) r)
    (sym c.if-number.true)
    (choice_made c.args.store.now c.args.store.now c.ite.new.self c.args.own c.args.within 1 r (value_of c.args.store.now.nodes c.args.own)
    (value_of c.args.store.now.nodes c.args.within) (λ v. true) (extends_refl c.args.store.now)
    (λ v. refl) (λ v. refl) (λ v. value_of-true c.args.store.now.nodes v) t))
    c.ite.ensures.ok

pub returns-else-number-clause-ok : goal.returns-else-number-clause-ok
returns-else-number-clause-ok c = map_ok c.ite-else-number.result (Answers c.args.store.now c.ite-else-number.new.self
    (choice c.args.store.now.nodes c.args.own 0 c.args.within)) _
    (λ r t. subst (λ (n : Bool). Makes c.args.store.now c.ite-else-number.new.self
    (λ v. cond (value_of c.args.store.now.nodes c.args.own v) (n && value_of c.args.store.now.nodes c.args.within v)
    (n || value_of c.args.store.now.nodes c.args.within v)) r)
    (sym c.if-number.false)
    (choice_made c.args.store.now c.args.store.now c.ite-else-number.new.self c.args.own 0 c.args.within r (value_of c.args.store.now.nodes c.args.own)
    (λ v. false) (value_of c.args.store.now.nodes c.args.within) (extends_refl c.args.store.now)
    (λ v. refl) (λ v. value_of-false c.args.store.now.nodes v) (λ v. refl) t))
    c.ite-else-number.ensures.ok
