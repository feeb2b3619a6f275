use Rattle.rv_poly.proofs.ListLemmas.{one_width-right}
use Rattle.rv_poly.proofs.join.join_with.Goals as goal

pub joined_rows-requires-clause-other_widths : goal.joined_rows-requires-clause-other_widths
joined_rows-requires-clause-other_widths c = rw c.width_of_both.ensures (one_width-right c.args.own.now c.args.other.now c.requires.widths)

pub returns : goal.returns
returns c = rw (c.requires.same, c.in_ok-second.ensures, c.width_of_both.ensures) at c.joined_rows.ensures
