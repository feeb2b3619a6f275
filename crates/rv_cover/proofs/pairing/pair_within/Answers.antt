use Rattle.std.proofs.Common.{length}
use Rattle.rv_cover.proofs.Rowing.{ranges_record}
use Rattle.rv_cover.proofs.pairing.pair_within.Goals as goal

pub returns-in_ok-by-in-Some : goal.returns-in_ok-by-in-Some
returns-in_ok-by-in-Some c = ranges_record (length c.args.rows.now) c.in_ok-by-in-Some.by c.in_ok-by-in-Some.ensures.ranges
