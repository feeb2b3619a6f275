use Rattle.std.proofs.Common.{length, arith}
use Rattle.rv_poly.proofs.{CarriedLemmas.level-poly, CarriedLemmas.level-width, BeforeLemmas.inputs-contains, BeforeLemmas.inputs-exact}
use Rattle.rv_poly.proofs.before.without_inputs.Goals as goal

pub drop_columns-requires-clause-poly : goal.drop_columns-requires-clause-poly
drop_columns-requires-clause-poly c =
    level-poly c.widest-wide.result c.args.rows.now c.in_ok-level.level (length c.args.rows.now) c.requires.few c.in_ok-level.ensures

pub drop_columns-requires-clause-few : goal.drop_columns-requires-clause-few
drop_columns-requires-clause-few c = let m = c.in_ok-level.ensures.few in let n = c.requires.few in omega arith

pub returns-clause-poly : goal.returns-clause-poly
returns-clause-poly c =
    level-poly c.args.width c.drop_columns.new.poly.rows c.in_ok-new.new (length c.drop_columns.new.poly.rows) c.in_ok-drop_columns.ensures.few
    c.in_ok-new.ensures

pub returns-clause-few : goal.returns-clause-few
returns-clause-few c = let m = c.in_ok-new.ensures.few in let n = c.in_ok-drop_columns.ensures.few in omega arith

pub returns-clause-width : goal.returns-clause-width
returns-clause-width c =
    level-width c.args.width c.drop_columns.new.poly.rows c.in_ok-new.new (length c.drop_columns.new.poly.rows) c.in_ok-new.ensures

pub returns-clause-contains : goal.returns-clause-contains
returns-clause-contains c =
    inputs-contains c.args.rows.now c.in_ok-level.level c.drop_columns.new.poly.rows c.in_ok-new.new c.args.width c.widest-wide.result
    c.widest-wide.ensures c.in_ok-level.ensures c.in_ok-drop_columns.ensures c.in_ok-new.ensures

pub returns-clause-exact : goal.returns-clause-exact
returns-clause-exact c =
    inputs-exact c.args.rows.now c.in_ok-level.level c.drop_columns.new.poly.rows c.in_ok-new.new c.args.width c.widest-wide.result
    c.widest-wide.ensures c.in_ok-level.ensures c.in_ok-drop_columns.ensures c.in_ok-new.ensures
