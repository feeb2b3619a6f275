use Rattle.std.proofs.Common.{length}
use Rattle.std.proofs.lemmas.Option.{IfSome_then}
use Rattle.rv_symbolic.proofs.Extending.{map_ok}
use Rattle.rv_cover.proofs.Rowing.{ranges_record}
use Rattle.rv_cover.proofs.pairing.shut_by_any.Goals as goal

pub returns-clause-record : goal.returns-clause-record
returns-clause-record c = map_ok c.seek_refutation.result _ _ (λ o h. IfSome_then o h (λ m r. ranges_record (length c.args.rows.now) m r))
    c.seek_refutation.ensures.ranges

pub returns-clause-one : goal.returns-clause-one
returns-clause-one c = map_ok c.seek_refutation.result _ _ (λ o h. IfSome_then o h (λ m r. r.divisor)) c.seek_refutation.ensures.proof
