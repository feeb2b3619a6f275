use Rattle.std.proofs.Common.{drop}
use Rattle.std.specs.Prelude.{Result}
use Rattle.rv_flat.specs.Steps.{IsState}
use Rattle.rv_replay.specs.{declared.replayed.Replayed.Replayed, declared.replayed.ReplayFault.ReplayFault, Playing.IsPlayed}
use Rattle.rv_replay.proofs.playing.play.Given as goal

abbrev pub invariant-loop-number : goal.invariant-loop-number
invariant-loop-number l = record {
  state : IsState l.flat l.now;
  played : (a : Result Replayed ReplayFault) → IsPlayed l.flat l.number l.now (drop l.number l.trace.instants) a
      → IsPlayed l.flat 0 l.initial.now l.trace.instants a;
}
