use Rattle.std.proofs.Common.{false, subst, Option}
use Rattle.std.specs.Prelude.{IfSome}
use Rattle.rv_proofs.specs.declared.certificate.Certificate.{Certificate}
use Rattle.rv_reading.specs.Analysing.{IsCertified}
use Rattle.rv_reading.proofs.Analysed.{given_there}
use Rattle.rv_reading.proofs.analysis.by_rows.Goals as goal

pub accelerated-requires : goal.accelerated-requires
accelerated-requires c =
    let (s, given, kept, least) = c.requires in
    let plain : IsCertified s false c.in-Some.plain = subst (λ (o : Option Certificate). IfSome o (IsCertified s false)) c.in-Some.is
    (c.in_ok-found.ensures.certified s given kept least) in
    record {
      given = (
        s,
        c.args.thresholds.now,
        given_there s c.args.store.now c.plain_by_rows.new.store c.args.relation.now c.args.questions.now c.args.thresholds.now c.plain_by_rows.ensures.same
            given,
        plain.accepted,
      );
    }

pub returns-in_ok-certificate-in-Some-clause-certified : goal.returns-in_ok-certificate-in-Some-clause-certified
returns-in_ok-certificate-in-Some-clause-certified c = λ s given kept least.
    let plain : IsCertified s false c.in-Some.plain = subst (λ (o : Option Certificate). IfSome o (IsCertified s false)) c.in-Some.is
    (c.in_ok-found.ensures.certified s given kept least) in
    c.in_ok-certificate-in-Some.ensures.certified s c.args.thresholds.now
    (given_there s c.args.store.now c.plain_by_rows.new.store c.args.relation.now c.args.questions.now c.args.thresholds.now c.plain_by_rows.ensures.same given)
    plain
