use Rattle.std.proofs.Common.{◌≡◌, ◌++◌, map, drop}
use Rattle.rv_flatten.specs.Remembered.{read_seen, kept_seen, kept_at}
use Rattle.rv_flatten.proofs.memories.push_found.Given as goal

abbrev pub invariant-loop-one : goal.invariant-loop-one
invariant-loop-one l =
    map kept_seen l.found ++ map (kept_at l.path l.number) (map read_seen (drop l.one-index l.read))
    ≡ map kept_seen l.fn.found ++ map (kept_at l.path l.number) (map read_seen l.read)
