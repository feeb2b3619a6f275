use Rattle.std.proofs.Common.{subst}
use Rattle.rv_flat.specs.Steps.{IsState}
use Rattle.rv_explain.proofs.played.take_turn.Goals as goal

pub returns-in_ok-keep-in-Ok : goal.returns-in_ok-keep-in-Ok
returns-in_ok-keep-in-Ok c = λ n e. subst (IsState c.args.flat.now) (c.seen.ensures n cc) c.in-Ok.ensures.next_state
