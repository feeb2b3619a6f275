use Rattle.rv_instances.specs.Expanded.{program_of, main_of}
use Rattle.rv_sequence.proofs.Numbered.{sided}
use Rattle.rv_sequence.proofs.sequencing.check_light.Goals as goal

pub check_weights-checked-requires-clause-sided : goal.check_weights-checked-requires-clause-sided
check_weights-checked-requires-clause-sided c =
    let x = c.args.expanded.now in
    sided (program_of x) (main_of x) x.instances.now c.requires.known.expanded
