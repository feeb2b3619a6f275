use Rattle.std.proofs.Common.{ap, map, flat_map, ◌∙◌}
use Rattle.rv_tree.specs.Tree.{equation_tree}
use Rattle.rv_types.specs.{Names.repeated, Firsts.firsts_after, Earliest.first}
use Rattle.rv_types.proofs.FirstNames.{spaces_step, faults_step}
use Rattle.rv_base.proofs.Lists.{next_of}
use Rattle.rv_types.proofs.names.declare_lefts.Goals as goal

pub loop-equation-preserved : goal.loop-equation-preserved
loop-equation-preserved c =
    let d = next_of c.args.equations.now c.loop-equation.equation-index c.equation-item.result c.loop-equation-test.true c.equation-item.is in
    let here = c.equation-item.result.lefts in
    let space = c.in_ok-declare_names.ensures.space ∙ ap (firsts_after c.loop-equation.space) c.as_slice.ensures in
    let fault = c.in_ok-declare_names.ensures.fault ∙ ap (λ l. first (repeated c.loop-equation.space l)) c.as_slice.ensures in
    record {
      space = spaces_step _ _ _ here _ _ (λ i. flat_map (λ q. q.lefts) (map equation_tree (d i))) space c.loop-equation.invariant.space;
      fault = faults_step _ _ _ _ _ _ _ here _ (λ i. flat_map (λ q. q.lefts) (map equation_tree (d i))) space fault c.sooner_of-fault.ensures.value
          c.loop-equation.invariant.fault;
    }
