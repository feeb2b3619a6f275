use Rattle.rv_paths.proofs.Lists.{joined_within}
use Rattle.rv_paths.proofs.hulls.most_of.Goals as goal

pub seek_bound-requires-clause-premises : goal.seek_bound-requires-clause-premises
seek_bound-requires-clause-premises c = joined_within c.args.rows.now c.rows_have_room.ensures.kept c.requires.rows
