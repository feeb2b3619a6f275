use Rattle.std.proofs.Common.{◌/◌, ◌&&◌, arith}
use Rattle.rv_diagram.specs.{Nodes.Answers, Nodes.value_of, Several.ref_at}
use Rattle.rv_diagram.proofs.Growing.{call_extends}
use Rattle.rv_symbolic.proofs.Extending.{map_ok}
use Rattle.rv_left.specs.Becoming.{IsBecome}
use Rattle.rv_left.proofs.Replaced.{become_nothing, become_bit}
use Rattle.rv_left.proofs.conditions.become_in.Goals as goal

pub returns-then-x-eq1-clause-becomes : goal.returns-then-x-eq1-clause-becomes
returns-then-x-eq1-clause-becomes c = become_nothing c.args.store.now c.args.next.now c.args.within c.args.x c.constant-nothing.result
    c.constant-nothing.ensures.found (λ i e low. omega (arith, e, c.if-x-eq1.true))

pub returns-then-i-next-clause-becomes : goal.returns-then-i-next-clause-becomes
returns-then-i-next-clause-becomes c = become_nothing c.args.store.now c.args.next.now c.args.within c.args.x c.constant-nothing.result
    c.constant-nothing.ensures.found (λ i e low. omega (arith, e, low, c.if-i-next.true))

pub returns-clause-extends : goal.returns-clause-extends
returns-clause-extends c = call_extends c.args.store.now c.and.new.self _ c.and.result c.and.ensures.ok c.and.ensures.err

pub returns-clause-becomes : goal.returns-clause-becomes
returns-clause-becomes c =
    map_ok c.and.result (λ r. Answers c.args.store.now c.and.new.self (λ v. value_of c.args.store.now.nodes c.args.within v
    && value_of c.args.store.now.nodes (ref_at c.args.next.now (c.args.x / 2)) v) r)
    (IsBecome c.args.store.now c.and.new.self c.args.next.now c.args.within c.args.x)
    (λ r p. become_bit c.args.store.now c.and.new.self c.args.next.now c.args.within c.args.x (c.args.x / 2) r
    (omega (arith, c.if-x-eq1.false)) p)
    c.and.ensures.ok
