use Rattle.std.proofs.Common.{◌≡◌, ◌++◌, [], map, drop}
use Rattle.rv_types.specs.Names.{texts}
use Rattle.rv_instances.specs.Timed.{delay_listed}
use Rattle.rv_sizes.specs.Memories.{kinds_beside, paired, sites_read}
use Rattle.rv_sizes.proofs.memories.different_kinds.Given as goal

abbrev pub invariant-loop-number : goal.invariant-loop-number
invariant-loop-number l =
    l.kinds ++ kinds_beside l.seen (paired l.of l.number (sites_read (texts l.node.flows) (map delay_listed (drop l.number l.delays))))
    ≡ kinds_beside [] (paired l.of 0 (sites_read (texts l.node.flows) (map delay_listed l.delays)))
