use Rattle.std.proofs.Common.{◌≡◌, ◌+◌, ◌∙◌, ℕ, List, length, refl, sym, subst, arith}
use Rattle.rv_diagram.specs.{Nodes.Diagrams}
use Rattle.rv_symbolic.specs.Linked.{AreRefs}
use Rattle.rv_proofs.specs.declared.certificate.Entry.{Entry}
use Rattle.rv_left.specs.Targets.{IsSource, AreTargets}
use Rattle.rv_left.proofs.Aiming.{targets_none}
use Rattle.rv_left.proofs.entering.targets.Goals as goal

pub loop-j-init : goal.loop-j-init
loop-j-init c = record {
  same = refl;
  added = subst (λ (l : List Entry). AreTargets c.args.store.now c.args.source.now c.args.refs.now 0 l) (sym c.new-entries.ensures)
      (targets_none c.args.store.now c.args.source.now c.args.refs.now);
}

pub add_target-requires-clause-source : goal.add_target-requires-clause-source
add_target-requires-clause-source c =
    subst (λ (d : Diagrams). IsSource d c.args.source.now) (sym c.loop-j.invariant.same) c.requires.source

pub add_target-requires-clause-refs : goal.add_target-requires-clause-refs
add_target-requires-clause-refs c =
    subst (λ (d : Diagrams). AreRefs d.nodes c.args.refs.now) (sym c.loop-j.invariant.same) c.requires.refs

pub loop-j-preserved : goal.loop-j-preserved
loop-j-preserved c = record {
  same = c.add_target.ensures.same ∙ c.loop-j.invariant.same;
  added = subst (λ (d : Diagrams). AreTargets d c.args.source.now c.args.refs.now (c.loop-j.j + 1) c.add_target.new.entries) c.loop-j.invariant.same
      (c.in_ok-add_target.ensures.added
      (subst (λ (d : Diagrams). AreTargets d c.args.source.now c.args.refs.now c.loop-j.j c.loop-j.entries) (sym c.loop-j.invariant.same)
      c.loop-j.invariant.added));
}

pub returns-clause-added : goal.returns-clause-added
returns-clause-added c =
    let e : c.loop-j.j ≡ length c.args.refs.now = omega (arith, c.loop-j-test.false, c.loop-j.auto.j-end) in
    subst (λ (n : ℕ). AreTargets c.args.store.now c.args.source.now c.args.refs.now n c.loop-j.entries) e c.loop-j.invariant.added
