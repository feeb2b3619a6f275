use Rattle.std.proofs.Common.{◌≡◌, map, take}
use Rattle.rv_instances.specs.declared.answer.Instance.{Instance}
use Rattle.rv_tests.proofs.places.paths_of.Given as goal

abbrev pub invariant-loop-instance : goal.invariant-loop-instance
invariant-loop-instance l = l.paths ≡ map (λ (i : Instance). i.path) (take l.instance-index l.instances)
