use Rattle.std.proofs.Common.{◌≡◌, ◌+◌, length, subst}
use Rattle.std.proofs.lemmas.Option.{IfSome_then}
use Rattle.rv_proofs.specs.Ranges.{IsRecord}
use Rattle.rv_symbolic.proofs.Extending.{map_ok}
use Rattle.rv_cover.proofs.pairing.refuted_by_rows.Goals as goal

pub returns-in-Some-clause-record : goal.returns-in-Some-clause-record
returns-in-Some-clause-record c =
    let by : IsRecord (length c.in_ok-tests.tests) c.in-Some.by = rw c.in-Some.is at c.in_ok-by.ensures.record in
    subst (λ n. IsRecord n c.in-Some.by) (subst (λ n. length c.in_ok-tests.tests ≡ n + length c.args.told.now) c.len.ensures c.in_ok-tests.ensures) by

pub returns-clause-record : goal.returns-clause-record
returns-clause-record c = map_ok c.shut_by_any.result _ _ (λ o h. IfSome_then o h (λ m r.
    subst (λ n. IsRecord n m) c.in_ok-rows-in-None.ensures r)) c.shut_by_any.ensures.record
