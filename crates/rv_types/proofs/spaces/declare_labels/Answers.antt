use Rattle.std.proofs.Common.{flat_map}
use Rattle.rv_types.specs.Names.{labels_of}
use Rattle.rv_types.proofs.FirstNames.{spaces_step, faults_step}
use Rattle.rv_base.proofs.Lists.{next_of}
use Rattle.rv_types.proofs.spaces.declare_labels.Goals as goal

pub loop-decl-preserved : goal.loop-decl-preserved
loop-decl-preserved c =
    let d = next_of c.args.types.now c.loop-decl.decl-index c.decl-item.result c.loop-decl-test.true c.decl-item.is in
    record {
      space = spaces_step _ _ _ (labels_of c.decl-item.result) _ _ (λ i. flat_map labels_of (d i)) c.in_ok-declare_labels_of.ensures.space
          c.loop-decl.invariant.space;
      fault = faults_step _ _ _ _ _ _ _ (labels_of c.decl-item.result) _ (λ i. flat_map labels_of (d i)) c.in_ok-declare_labels_of.ensures.space
          c.in_ok-declare_labels_of.ensures.fault c.sooner_of-fault.ensures.value c.loop-decl.invariant.fault;
    }
