use Rattle.std.proofs.Common.{◌≡◌, map}
use Rattle.rv_walk.specs.Walks.{entry_of}
use Rattle.rv_walk.proofs.certify.entries.Given as goal

abbrev pub invariant-loop-case : goal.invariant-loop-case
invariant-loop-case l = l.entries ≡ map entry_of l.yielded
