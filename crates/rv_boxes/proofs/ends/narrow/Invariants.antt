use Rattle.rv_boxes.specs.Ends.{AreEndsAmong}
use Rattle.rv_boxes.proofs.ends.narrow.Given as goal

abbrev pub invariant-loop-premise : goal.invariant-loop-premise
invariant-loop-premise l = AreEndsAmong l.premises l.premise l.columns l.ends
