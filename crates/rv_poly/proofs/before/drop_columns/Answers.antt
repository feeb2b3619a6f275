use Rattle.rv_poly.proofs.BeforeLemmas.{without-none, without-more}
use Rattle.rv_poly.proofs.before.drop_columns.Goals as goal

pub loop-column-init : goal.loop-column-init
loop-column-init c = without-none c.args.from c.args.poly.now.rows c.requires.poly c.requires.few

pub loop-column-preserved : goal.loop-column-preserved
loop-column-preserved c =
    without-more c.args.from c.loop-column.column c.args.poly.now.rows c.loop-column.poly.rows c.drop_column.new.poly.rows c.loop-column.auto.column
    c.loop-column.invariant c.in_ok-drop_column.ensures
