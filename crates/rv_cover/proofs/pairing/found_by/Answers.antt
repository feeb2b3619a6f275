use Rattle.std.proofs.Common.{length}
use Rattle.rv_seek.specs.Pairs.{HasRanges}
use Rattle.rv_cover.proofs.Rowing.{ranges_record}
use Rattle.rv_cover.proofs.pairing.found_by.Goals as goal

pub returns-in-Some : goal.returns-in-Some
returns-in-Some c =
    let ranges : HasRanges (length c.args.search.now) c.in-Some.found.by = rw c.in-Some.is at c.in_ok-found.ensures.ranges in
    ranges_record (length c.args.search.now) c.in-Some.found.by ranges
