use Rattle.rv_poly.proofs.image.image_rows.Goals as goal

pub returns : goal.returns
returns c = rw (c.in_ok-search.ensures, c.len.ensures) at c.closing_rows.ensures
