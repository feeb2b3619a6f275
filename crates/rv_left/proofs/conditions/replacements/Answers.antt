use Rattle.std.proofs.Common.{◌≡◌, ℕ, ◌+◌, List, sym, subst, arith}
use Rattle.rv_diagram.specs.{Nodes.IsRef}
use Rattle.rv_symbolic.proofs.Extending.{refs_after}
use Rattle.rv_left.specs.Becoming.{AreBecoming}
use Rattle.rv_left.proofs.Replaced.{becoming_none, becoming_more}
use Rattle.rv_left.proofs.conditions.replacements.Goals as goal

pub loop-x-init : goal.loop-x-init
loop-x-init c = becoming_none c.args.store.now c.args.next.now c.new-by.result.items c.args.within c.new-by.ensures.items

pub become_in-requires-clause-next : goal.become_in-requires-clause-next
become_in-requires-clause-next c =
    refs_after c.args.store.now c.loop-x.store c.args.next.now c.loop-x.invariant.extends c.requires.next

pub become_in-requires-clause-within : goal.become_in-requires-clause-within
become_in-requires-clause-within c =
    let h : IsRef c.args.store.now.nodes c.args.within = c.requires.within in omega (arith, h, c.loop-x.invariant.extends.longer)

pub loop-x-preserved : goal.loop-x-preserved
loop-x-preserved c =
    subst (λ (l : List ℕ). AreBecoming c.args.store.now c.become_in.new.store c.args.next.now c.args.within (c.loop-x.x + 1) l)
    (sym c.in_ok-push.ensures.items)
    (becoming_more c.args.store.now c.loop-x.store c.become_in.new.store c.args.next.now c.loop-x.by.items c.args.within c.loop-x.x
    c.in_ok-becomes.becomes c.requires.next c.requires.within c.loop-x.invariant c.become_in.ensures.extends c.in_ok-becomes.ensures.becomes)

pub returns-clause-becomes : goal.returns-clause-becomes
returns-clause-becomes c =
    let e : c.loop-x.x ≡ c.args.store.now.variables =
    omega (arith, c.loop-x-test.false, c.loop-x.auto.x-end, c.variables-variables.ensures.is) in
    subst (λ (n : ℕ). AreBecoming c.args.store.now c.loop-x.store c.args.next.now c.args.within n c.loop-x.by.items) e c.loop-x.invariant
