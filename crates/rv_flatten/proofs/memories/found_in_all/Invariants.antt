use Rattle.std.proofs.Common.{◌≡◌, map}
use Rattle.rv_flatten.specs.{NodeReaders.lists_to, Remembered.read_seen, Remembered.kept_seen, Remembered.kept_in}
use Rattle.rv_flatten.proofs.memories.found_in_all.Given as goal

abbrev pub invariant-loop-number : goal.invariant-loop-number
invariant-loop-number l = map kept_seen l.found ≡ lists_to (kept_in (map (map read_seen) l.read) l.instances) l.number
