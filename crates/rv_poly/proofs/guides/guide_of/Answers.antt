use Rattle.rv_poly.proofs.GuideLemmas.{guide-none}
use Rattle.rv_poly.proofs.guides.guide_of.Goals as goal

pub add_columns-requires : goal.add_columns-requires
add_columns-requires c = (rw c.new.ensures at c.in_ok-add_given.ensures).guide (guide-none c.args.width)

pub returns : goal.returns
returns c = c.in_ok-add_columns.ensures.guide ((rw c.new.ensures at c.in_ok-add_given.ensures).guide (guide-none c.args.width))
