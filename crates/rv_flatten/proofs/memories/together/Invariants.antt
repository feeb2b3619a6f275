use Rattle.std.proofs.Common.{◌≡◌, ◌++◌, map, drop}
use Rattle.rv_instances.specs.Timed.{delay_listed}
use Rattle.rv_flatten.specs.{NodeReaders.node_read, Remembered.joined, Remembered.read_seen}
use Rattle.rv_flatten.proofs.memories.together.Given as goal

abbrev pub invariant-loop-number : goal.invariant-loop-number
invariant-loop-number l =
    map read_seen l.read ++ joined (node_read l.reader) (drop l.number l.kinds) (map delay_listed (drop l.number l.delays))
    ≡ joined (node_read l.reader) l.kinds (map delay_listed l.delays)
