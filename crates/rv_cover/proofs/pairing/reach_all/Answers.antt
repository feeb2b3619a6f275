use Rattle.std.proofs.Common.{◌++◌, ◌∷◌, [], length}
use Rattle.std.proofs.lemmas.List.Elements.{All-push, All-same}
use Rattle.rv_proofs.specs.Ranges.{IsRecord}
use Rattle.rv_cover.proofs.pairing.reach_all.Goals as goal

pub loop-place-preserved : goal.loop-place-preserved
loop-place-preserved c =
    let by : IsRecord (length c.args.rows.now) c.in-Some.by = rw c.in-Some.is at c.in_ok-by.ensures in
    All-same (IsRecord (length c.args.rows.now)) c.push.new.self (c.loop-place.reach ++ c.in-Some.by ∷ []) c.in_ok-push-in-Some.ensures.ok
    (All-push (IsRecord (length c.args.rows.now)) c.loop-place.reach c.in-Some.by c.loop-place.invariant by)
