use Rattle.std.proofs.Common.{get_or}
use Rattle.rv_poly.proofs.ListLemmas.{one_width}
use Rattle.rv_paths.proofs.points.point_of_rows.Goals as goal

pub seek_refutation-requires : goal.seek_refutation-requires
seek_refutation-requires c =
    let joined = c.requires.rows in
    record { premises = λ k d low. let row = joined.each k d low in c.rows_have_room.ensures.kept (get_or c.args.rows k d) row.fits; few = c.requires.few }

pub whole_point-requires : goal.whole_point-requires
whole_point-requires c =
    let joined = c.requires.rows in
    record {
      widths = one_width joined.width c.args.rows (λ k d low. let row = joined.each k d low in row.wide);
      fits = λ k d low. let row = joined.each k d low in row.fits;
      few = c.requires.few;
    }
