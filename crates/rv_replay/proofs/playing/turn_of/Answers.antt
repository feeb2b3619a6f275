use Rattle.std.proofs.Common.{sym, subst}
use Rattle.rv_replay.specs.Playing.{IsTurn}
use Rattle.rv_replay.proofs.Turns.{turn_fails, turn_seen}
use Rattle.rv_replay.proofs.playing.turn_of.Goals as goal

pub returns-in-Some : goal.returns-in-Some
returns-in-Some c = λ f now inputs is truth. turn_fails f now inputs c.args.number c.args.stepped is truth c.in-Some.place c.in-Some.is

pub returns : goal.returns
returns c = λ f now inputs is truth.
    subst (IsTurn f c.args.number now inputs) (sym c.seen.ensures) (turn_seen f now inputs c.args.number c.args.stepped is truth c.in-None.is)
