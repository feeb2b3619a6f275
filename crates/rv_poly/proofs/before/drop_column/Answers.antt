use Rattle.rv_poly.proofs.BeforeLemmas.{without-none, without-one}
use Rattle.rv_poly.proofs.before.drop_column.Goals as goal

pub returns-then-are_free : goal.returns-then-are_free
returns-then-are_free c = without-none c.args.column c.args.poly.now.rows c.requires.poly c.requires.few

pub returns-then-column-gt-LAST_COLUMN : goal.returns-then-column-gt-LAST_COLUMN
returns-then-column-gt-LAST_COLUMN c = without-none c.args.column c.args.poly.now.rows c.requires.poly c.requires.few

pub returns : goal.returns
returns c =
    without-one c.args.column c.args.poly.now.rows c.in_ok-step.step.rows c.in_ok-step.ensures.poly c.in_ok-step.ensures.few c.in_ok-step.ensures.points
    (rw c.if-are_free.false at c.are_free.ensures)
