use Rattle.std.proofs.Common.{◌∙◌}
use Rattle.rv_rows.specs.Tight.{Fits}
use Rattle.rv_poly.proofs.GuideLemmas.{tightened-width}
use Rattle.rv_paths.proofs.unroll.keep.Goals as goal

pub add_row-requires-clause-row : goal.add_row-requires-clause-row
add_row-requires-clause-row c =
    let fits : Fits c.tighten.new.self = rw c.if-not-fits.false at c.fits.ensures in
    record { wide = tightened-width c.args.row c.tighten.new.self c.tighten.ensures.exact ∙ c.requires.row; fits = fits }
