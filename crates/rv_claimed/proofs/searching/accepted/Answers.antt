use Rattle.rv_claimed.proofs.Sought.{checked_of}
use Rattle.rv_claimed.proofs.searching.accepted.Goals as goal

pub accept-requires : goal.accept-requires
accept-requires c =
    let (s, given, document) = c.requires in
    record {
      given = (
        s,
        checked_of s c.args.store.now c.args.relation.now c.args.questions.now given c.parts.result.now c.parts.ensures c.args.certificate document,
      );
    }

pub returns-in-Accepted-clause-proof : goal.returns-in-Accepted-clause-proof
returns-in-Accepted-clause-proof c s claim given document good =
    let all = checked_of s c.args.store.now c.args.relation.now c.args.questions.now given c.parts.result.now c.parts.ensures c.args.certificate document in
    record { plain = document.plain; accepted = (c.in_ok-accept.ensures.accepted s all).0 c.in-Accepted.is; good = good }
