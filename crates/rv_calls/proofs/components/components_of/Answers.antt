use Rattle.std.proofs.{Common.inl, Common.inr, Common.sym, Common.subst, Common.arith, lemmas.Bool.cases_eq}
use Rattle.rv_calls.specs.Components.{HasMark}
use Rattle.rv_calls.proofs.Parting.{parted_all}
use Rattle.rv_calls.proofs.components.components_of.Goals as goal

pub loop-v-preserved : goal.loop-v-preserved
loop-v-preserved c = record {
  parted = c.in_ok-assign-2.ensures.parted;
  marked = λ k lt. elim (cases_eq k c.loop-v.v) [
    | inl here ↦ subst (HasMark c.assign-in-loop-v.new.parts) (sym here) c.in_ok-assign-2.ensures.root
    | inr before ↦ c.in_ok-assign-2.ensures.kept k (c.loop-v.invariant.marked k (omega (arith, lt, before)))
  ];
  whole = c.loop-v.invariant.whole;
}

pub returns : goal.returns
returns c =
    parted_all c.args.graph.now c.loop-v.seen c.loop-v.parts c.loop-v.invariant.parted
    (λ k lt. c.loop-v.invariant.marked k (omega (arith, lt, c.loop-v.invariant.whole)))
