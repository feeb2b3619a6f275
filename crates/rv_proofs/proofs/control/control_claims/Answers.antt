use Rattle.rv_proofs.proofs.Leasts.{open_all, box_control, control_box, least_plain}
use Rattle.rv_proofs.proofs.control.control_claims.Goals as goal

pub returns-clause-all_open : goal.returns-clause-all_open
returns-clause-all_open c s claim v without = open_all s without claim v

pub returns-clause-same : goal.returns-clause-same
returns-clause-same c s thresholds without = (box_control s without thresholds, control_box s without thresholds)

pub returns-clause-least : goal.returns-clause-least
returns-clause-least c s thresholds reached without = least_plain s without thresholds reached
