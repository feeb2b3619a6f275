use Rattle.std.proofs.Common.{sym, ◌∙◌}
use Rattle.rv_instances.specs.NumberedNeeds.{clock_of_expression}
use Rattle.rv_instances.proofs.ExpandedLaws.{node_is}
use Rattle.rv_flatten.specs.Building.{main_given, program_given}
use Rattle.rv_flatten.proofs.remembered.flat_memory.Goals as goal

pub delay_item-requires-clause-clock : goal.delay_item-requires-clause-clock
delay_item-requires-clause-clock c =
    let g = c.args.given.now in let k = c.requires.kept in
    let node = node_is (program_given g) (main_given g) g.expanded.now.instances.now c.requires.given.known.expanded c.args.kept.now.instance k.i k.is
    k.number.1 in
    k.clock ∙ (λ i. clock_of_expression (sym node i) (sym k.operand i))
