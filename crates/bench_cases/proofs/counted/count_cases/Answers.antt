use Rattle.rv_tree.specs.Tree.{program_tree}
use Rattle.rv_types.specs.Instances.{name_at}
use Rattle.rv_run.proofs.Judging.{well, is_node}
use Rattle.bench_cases.proofs.counted.count_cases.Goals as goal

pub cases_of-requires : goal.cases_of-requires
cases_of-requires c =
    let s = c.in-Ok.source in
    let p = program_tree s.program in
    let fits = c.in-Ok.ensures.found.fits in
    record {
      program = (
        p,
        name_at p s.typed.main,
        well p s.typed s.order fits (λ m text settled. c.well_formed_programs.ensures p m s.typed text settled),
        is_node p s.typed s.order fits (λ m text settled. c.well_formed_programs.ensures p m s.typed text settled),
        c.in_ok-flat.ensures.flat,
      );
    }
