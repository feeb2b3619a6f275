use Rattle.std.proofs.Common.{length}
use Rattle.rv_cover.proofs.Rowing.{ranges_record}
use Rattle.rv_cover.proofs.pairing.shut_by_pair.Goals as goal

pub returns-in-Some-clause-record : goal.returns-in-Some-clause-record
returns-in-Some-clause-record c = ranges_record (length c.args.rows.now) c.in_ok-by-in-Some.by c.in_ok-by-in-Some.ensures.ranges
