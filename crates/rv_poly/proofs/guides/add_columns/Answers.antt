use Rattle.rv_poly.proofs.GuideLemmas.{guided-same, guided-trans}
use Rattle.rv_poly.proofs.guides.add_columns.Goals as goal

pub loop-past-init : goal.loop-past-init
loop-past-init c = guided-same c.args.width c.args.guide.now.rows

pub add_column-requires : goal.add_column-requires
add_column-requires c = c.loop-past.invariant.guide c.requires

pub loop-past-preserved : goal.loop-past-preserved
loop-past-preserved c =
    guided-trans c.args.width c.args.guide.now.rows c.loop-past.guide.rows c.add_column.new.guide.rows c.loop-past.invariant c.in_ok-add_column.ensures

pub returns : goal.returns
returns c = c.loop-past.invariant
