use Rattle.rv_poly.proofs.meet.both_rows.Goals as goal

pub returns : goal.returns
returns c = record {
  one = c.add_rows.new.rows;
  first = rw c.new-both.ensures at c.in_ok-add_rows.ensures;
  second = c.in_ok-add_rows-2.ensures;
}
