use Rattle.std.proofs.Common.{◌∙◌, subst}
use Rattle.std.specs.List.{Contains}
use Rattle.rv_instances.specs.{Expanded.program_of, Expanded.main_of, NumberedNeeds.node_read, NumberedNeeds.numbers_of}
use Rattle.rv_flatten.proofs.MarkedTicks.{arrow_within}
use Rattle.rv_flatten.proofs.ticks.add_instance.Goals as goal

pub add_numbers-requires-clause-within : goal.add_numbers-requires-clause-within
add_numbers-requires-clause-within c k w =
    let x = c.args.expanded.now in let p = program_of x in let known = c.requires.known.expanded in
    let reader = c.new-reader.result in
    arrow_within p (main_of x) x.instances.now known c.args.instance (numbers_of reader).offset (node_read reader) k c.requires.within
    c.new-reader.ensures.node c.new-reader.ensures.reader.room (subst (λ ks. Contains ks k) (c.as_slice.ensures ∙ c.in_ok-clocks.ensures) w)
