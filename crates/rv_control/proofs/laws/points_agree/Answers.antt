use Rattle.rv_flat.specs.FlatInstants.{system_of}
use Rattle.rv_control.specs.Named.{variables_of}
use Rattle.rv_control.proofs.{Order.is_listed, Points.point_agrees}
use Rattle.rv_control.proofs.laws.points_agree.Goals as goal

pub returns : goal.returns
returns c = λ program main f v x well named flat.
    point_agrees c.tightened_rows.ensures.one (system_of f) (variables_of f) flat.system.well (is_listed program main f flat) v x
