use Rattle.std.proofs.Common.{◌≡◌, ◌-◌, ◌^◌}
use Rattle.rv_invfile.specs.{Readers.run, Parts.times, Fronts.with_front}
use Rattle.rv_invariant.specs.Pieces.{a_proof}
use Rattle.rv_invariant.proofs.multipliers.read_proofs.Given as goal

abbrev pub invariant-loop-done : goal.invariant-loop-done
invariant-loop-done l = with_front l.proofs (run (times (l.count - l.done) (a_proof (2 ^ 30) l.premises)) l.records) ≡ run
    (times l.fn.count (a_proof (2 ^ 30) l.fn.premises)) l.fn.records
