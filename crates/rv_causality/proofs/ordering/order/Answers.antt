use Rattle.rv_tree.specs.Tree.{program_tree}
use Rattle.rv_types.specs.Instances.{name_at}
use Rattle.rv_causality.proofs.Answered.{main_within}
use Rattle.rv_causality.proofs.SequenceCause.{known, found, not_refused, not_faulty, sequence_cause, sequence_matches}
use Rattle.rv_causality.proofs.ordering.order.Goals as goal

pub check-requires-clause-bounded : goal.check-requires-clause-bounded
check-requires-clause-bounded c = c.requires.tree.bounded

pub check_sizes-requires-clause-bounded : goal.check_sizes-requires-clause-bounded
check_sizes-requires-clause-bounded c = c.requires.tree.bounded

pub check_sizes-requires-clause-sited : goal.check_sizes-requires-clause-sited
check_sizes-requires-clause-sited c = c.sited_programs.ensures (program_tree c.args.p.now) c.requires.tree

pub check_sizes-requires-clause-well : goal.check_sizes-requires-clause-well
check_sizes-requires-clause-well c = c.well_formed_programs.ensures (program_tree c.args.p.now) c.requires.settled.0 c.args.t.now c.requires.tree
    c.requires.settled.1

pub check_sizes-requires-clause-main : goal.check_sizes-requires-clause-main
check_sizes-requires-clause-main c = main_within (program_tree c.args.p.now) c.args.t.now c.requires.settled

pub instances-requires-clause-sited : goal.instances-requires-clause-sited
instances-requires-clause-sited c = c.sited_programs.ensures (program_tree c.args.p.now) c.requires.tree

pub instances-requires-clause-main : goal.instances-requires-clause-main
instances-requires-clause-main c = main_within (program_tree c.args.p.now) c.args.t.now c.requires.settled

pub sequence_of-requires-clause-expanded : goal.sequence_of-requires-clause-expanded
sequence_of-requires-clause-expanded c =
    let p = program_tree c.args.p.now in
    let t = c.args.t.now in
    known p t c.in_ok-instances.instances c.in-Ok-check_sizes.expanded c.requires.tree.bounded (c.sited_programs.ensures p c.requires.tree) c.requires.settled
    (c.well_formed_programs.ensures p c.requires.settled.0 t c.requires.tree c.requires.settled.1) c.in-Ok.ensures.ordered.recursion
    c.in_ok-instances.ensures c.in-Ok-check_sizes.ensures.small

pub returns-in-Ok-sequence_of-clause-found : goal.returns-in-Ok-sequence_of-clause-found
returns-in-Ok-sequence_of-clause-found c =
    let p = program_tree c.args.p.now in
    found p (name_at p c.args.t.now.main) c.in_ok-instances.instances (known p c.args.t.now c.in_ok-instances.instances c.in-Ok-check_sizes.expanded
    c.requires.tree.bounded (c.sited_programs.ensures p c.requires.tree) c.requires.settled
    (c.well_formed_programs.ensures p c.requires.settled.0 c.args.t.now c.requires.tree c.requires.settled.1) c.in-Ok.ensures.ordered.recursion
    c.in_ok-instances.ensures c.in-Ok-check_sizes.ensures.small) c.in-Ok.ensures.ordered.recursion c.in-Ok-check_sizes.ensures.within
    c.in-Ok-sequence_of.sequence c.in-Ok-check_sizes.expanded c.in-Ok-sequence_of.ensures.sequence c.in-Ok-check_sizes.ensures.small

pub returns-in-Ok-sequence_of-clause-only_refused :
    goal.returns-in-Ok-sequence_of-clause-only_refused
returns-in-Ok-sequence_of-clause-only_refused c f cause =
    let p = program_tree c.args.p.now in
    not_refused p (name_at p c.args.t.now.main) c.in_ok-instances.instances
    (known p c.args.t.now c.in_ok-instances.instances c.in-Ok-check_sizes.expanded c.requires.tree.bounded (c.sited_programs.ensures p c.requires.tree)
    c.requires.settled (c.well_formed_programs.ensures p c.requires.settled.0 c.args.t.now c.requires.tree c.requires.settled.1)
    c.in-Ok.ensures.ordered.recursion c.in_ok-instances.ensures c.in-Ok-check_sizes.ensures.small) c.in-Ok.ensures.ordered.recursion
    c.in-Ok-check_sizes.ensures.within
    c.in-Ok-sequence_of.sequence f c.in-Ok-sequence_of.ensures.sequence cause

pub returns-clause-only : goal.returns-clause-only
returns-clause-only c accepted =
    let p = program_tree c.args.p.now in
    not_faulty p (name_at p c.args.t.now.main) c.in_ok-instances.instances
    (known p c.args.t.now c.in_ok-instances.instances c.in-Ok-check_sizes.expanded c.requires.tree.bounded (c.sited_programs.ensures p c.requires.tree)
    c.requires.settled (c.well_formed_programs.ensures p c.requires.settled.0 c.args.t.now c.requires.tree c.requires.settled.1)
    c.in-Ok.ensures.ordered.recursion c.in_ok-instances.ensures c.in-Ok-check_sizes.ensures.small) c.in-Ok.ensures.ordered.recursion
    c.in-Ok-check_sizes.ensures.within
    c.in-Err-sequence_of.fault accepted c.in-Err-sequence_of.ensures.fault

pub returns-clause-refused : goal.returns-clause-refused
returns-clause-refused c =
    let p = program_tree c.args.p.now in
    sequence_cause p (name_at p c.args.t.now.main) c.in_ok-instances.instances
    (known p c.args.t.now c.in_ok-instances.instances c.in-Ok-check_sizes.expanded c.requires.tree.bounded (c.sited_programs.ensures p c.requires.tree)
    c.requires.settled (c.well_formed_programs.ensures p c.requires.settled.0 c.args.t.now c.requires.tree c.requires.settled.1)
    c.in-Ok.ensures.ordered.recursion c.in_ok-instances.ensures c.in-Ok-check_sizes.ensures.small) c.in-Ok.ensures.ordered.recursion
    c.in-Ok-check_sizes.ensures.within
    c.in-Err-sequence_of.fault c.in-Err-sequence_of.ensures.fault

pub returns-clause-only_refused : goal.returns-clause-only_refused
returns-clause-only_refused c f cause =
    let p = program_tree c.args.p.now in
    sequence_matches p (name_at p c.args.t.now.main) c.in_ok-instances.instances
    (known p c.args.t.now c.in_ok-instances.instances c.in-Ok-check_sizes.expanded c.requires.tree.bounded (c.sited_programs.ensures p c.requires.tree)
    c.requires.settled (c.well_formed_programs.ensures p c.requires.settled.0 c.args.t.now c.requires.tree c.requires.settled.1)
    c.in-Ok.ensures.ordered.recursion c.in_ok-instances.ensures c.in-Ok-check_sizes.ensures.small) c.in-Ok.ensures.ordered.recursion
    c.in-Ok-check_sizes.ensures.within
    f c.in-Err-sequence_of.fault cause c.in-Err-sequence_of.ensures.fault
