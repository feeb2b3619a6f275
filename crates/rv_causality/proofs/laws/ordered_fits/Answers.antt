use Rattle.std.proofs.Common.{map}
use Rattle.rv_types.specs.{Instances.name_at, Values.label_count}
use Rattle.rv_instances.proofs.Known.{name_declared}
use Rattle.rv_causality.proofs.Answered.{answer_named, main_within}
use Rattle.rv_sizes.proofs.Limits.{none_above}
use Rattle.rv_types.proofs.Members.{in_map}
use Rattle.rv_causality.proofs.laws.ordered_fits.Goals as goal

pub returns : goal.returns
returns c p t o tree settled ordered =
    let main = name_at p t.main in
    let named = answer_named p t settled in
    let lt = main_within p t settled in
    let declared = name_declared p named t.main lt in
    let none = ordered.accepted.recursion in
    let sizes = ordered.accepted.sizes in
    let sited = c.sited_programs.ensures p tree in
    let well = c.well_formed_programs.ensures p settled.0 t tree settled.1 in
    record {
      tree = tree;
      settled = settled;
      instances = c.expanded_program.ensures p t.main o.instances tree.bounded named sited well none lt ordered.instances sizes.0;
      counted = record {
        all = λ i is. c.counted_instances.ensures.all p main i named none declared is;
        only = λ i w. c.counted_instances.ensures.only p main i w;
      };
      sequence = ordered.sequence;
      light = ordered.accepted.weights;
      few = record {
        instances = sizes.0;
        expressions = sizes.1.0;
        memories = sizes.1.1.0;
        inputs = sizes.1.1.1.0;
        labels = λ d w.
            none_above 256 (map label_count p.types) sizes.1.1.1.1.0 (label_count d) (in_map label_count p.types d w);
        variables = sizes.1.1.1.1.1.0;
      };
      nodes = ordered.nodes;
    }
