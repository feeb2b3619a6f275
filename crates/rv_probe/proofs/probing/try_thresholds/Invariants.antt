use Rattle.std.proofs.Common.{ℕ, ◌<◌, Bool, get_or}
use Rattle.std.specs.Prelude.{pos}
use Rattle.rv_tree.specs.Tree.{program_tree}
use Rattle.rv_types.specs.Instances.{name_at}
use Rattle.rv_flat.specs.Steps.{IsWithin}
use Rattle.rv_probe.specs.Probes.{NeverFalsifies}
use Rattle.rv_probe.proofs.probing.try_thresholds.Given as goal

abbrev pub invariant-loop-number : goal.invariant-loop-number
invariant-loop-number l = (j : ℕ) → j < l.number-index → (b : Bool) → IsWithin (get_or l.flat.thresholds j (pos 0))
    → NeverFalsifies (program_tree l.source.program) (name_at (program_tree l.source.program) l.source.typed.main) l.flat b (get_or l.flat.thresholds j (pos 0))
