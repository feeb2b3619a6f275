use Rattle.rv_boxes.proofs.BoxLemmas.{crossed_none}
use Rattle.std.proofs.Common.{length}
use Rattle.rv_boxes.proofs.entries.step_of.Goals as goal

pub reach_rows-requires-clause-some : goal.reach_rows-requires-clause-some
reach_rows-requires-clause-some c k l x =
    crossed_none (length c.args.ends.now) c.args.premises.now c.requires.premises c.args.ends.now c.requires.ends k l x c.requires.opened.some
