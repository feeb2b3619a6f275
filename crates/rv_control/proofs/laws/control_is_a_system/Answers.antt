use Rattle.rv_control.proofs.Limits.{whole_system}
use Rattle.rv_control.proofs.laws.control_is_a_system.Goals as goal

pub returns : goal.returns
returns c = λ program main f well named flat. whole_system c.typed_readings.ensures.controls c.tightened_rows.ensures.tight program main f flat
