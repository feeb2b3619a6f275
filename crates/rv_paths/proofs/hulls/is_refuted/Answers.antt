use Rattle.rv_paths.proofs.Lists.{joined_within}
use Rattle.rv_paths.proofs.hulls.is_refuted.Goals as goal

pub seek_refutation-requires : goal.seek_refutation-requires
seek_refutation-requires c =
    record { premises = joined_within c.args.rows.now c.rows_have_room.ensures.kept c.requires.rows; few = c.requires.few }
