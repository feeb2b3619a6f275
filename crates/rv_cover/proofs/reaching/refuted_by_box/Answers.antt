use Rattle.std.proofs.lemmas.Option.{IfSome_then}
use Rattle.rv_symbolic.proofs.Extending.{map_ok}
use Rattle.rv_cover.proofs.Rowing.{refuted_record, refuted_one}
use Rattle.rv_cover.proofs.reaching.refuted_by_box.Goals as goal

pub returns-clause-record : goal.returns-clause-record
returns-clause-record c = map_ok c.shut_of.result _ _ (λ o h. IfSome_then o h (λ m r.
    refuted_record c.args.given.now c.args.told.now c.new-premises.result c.new-premises.ensures m r)) c.shut_of.ensures.refuted

pub returns-clause-one : goal.returns-clause-one
returns-clause-one c = map_ok c.shut_of.result _ _ (λ o h. IfSome_then o h (λ m r. refuted_one c.new-premises.result m r)) c.shut_of.ensures.refuted
