use Rattle.rv_loops.proofs.Asking.{given_to, document_of}
use Rattle.rv_loops.proofs.judging.judged.Goals as goal

pub accept-requires : goal.accept-requires
accept-requires c =
    let (s, given) = c.requires.given in
    let document = document_of s c.args.certificate c.bounds_of-bounds.result c.is_document.result (c.bounds_of-bounds.ensures s given) c.is_document.ensures
    c.if-not-is_document.false in
    record {
      given = (
        s,
        given_to s c.args.store.now c.args.relation.now c.args.questions.now c.parts.result.now c.args.certificate given document
            c.parts.ensures,
      );
    }

pub returns-in-Accepted-clause-accepted : goal.returns-in-Accepted-clause-accepted
returns-in-Accepted-clause-accepted c s given =
    let document = document_of s c.args.certificate c.bounds_of-bounds.result c.is_document.result (c.bounds_of-bounds.ensures s given) c.is_document.ensures
    c.if-not-is_document.false in
    (c.in_ok-accept.ensures.accepted s (given_to s c.args.store.now c.args.relation.now c.args.questions.now c.parts.result.now c.args.certificate given
    document c.parts.ensures)).0 c.in-Accepted.is

pub returns-in-Accepted-clause-document : goal.returns-in-Accepted-clause-document
returns-in-Accepted-clause-document c s given =
    document_of s c.args.certificate c.bounds_of-bounds.result c.is_document.result (c.bounds_of-bounds.ensures s given) c.is_document.ensures
    c.if-not-is_document.false
