use Rattle.std.proofs.Common.{subst, All}
use Rattle.std.proofs.lemmas.Option.{IfSome_then}
use Rattle.rv_proofs.specs.Ranges.{IsRecord}
use Rattle.rv_symbolic.proofs.Extending.{map_ok}
use Rattle.rv_cover.proofs.pairing.reach_by_rows.Goals as goal

pub returns : goal.returns
returns c = map_ok c.reach_rows.result _ _ (λ o h. IfSome_then o h (λ reach are.
    subst (λ n. All (IsRecord n) reach) c.in_ok-rows.ensures are)) c.reach_rows.ensures
