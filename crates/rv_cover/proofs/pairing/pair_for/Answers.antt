use Rattle.std.proofs.Common.{length}
use Rattle.rv_proofs.specs.Ranges.{IsRecord}
use Rattle.rv_cover.proofs.Rowing.{record_wider}
use Rattle.rv_cover.proofs.pairing.pair_for.Goals as goal

pub returns-in-Some : goal.returns-in-Some
returns-in-Some c =
    let pair : IsRecord (length c.args.given.now) c.in-Some.by = rw c.in-Some.is at c.in_ok-by.ensures in
    record_wider (length c.args.given.now) (length c.args.rows.now) c.in-Some.by c.requires.first pair
