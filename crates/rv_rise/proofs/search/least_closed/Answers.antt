use Rattle.std.proofs.Common.{◌∙◌, sym, arith}
use Rattle.rv_rise.specs.Rounds.{IsGivenIn}
use Rattle.rv_rise.proofs.Finding.{found_least, found_kept}
use Rattle.rv_rise.proofs.search.least_closed.Goals as goal

pub frame_of-requires-clause-few : goal.frame_of-requires-clause-few
frame_of-requires-clause-few c =
    let s = c.requires.system.0 in
    let given = c.requires.system.1 in
    let r = given.relation in
    let y = r.system in
    let l = y.limits in
    let q = given.questions in
    omega (arith, c.len.ensures, q.many_memories, l.memories)

pub closed_claim-requires : goal.closed_claim-requires
closed_claim-requires c =
    let s = c.requires.system.0 in
    let given = c.requires.system.1 in
    let q = given.questions in
    (s, record { relation = given.relation; questions = q; frame = c.in_ok-frame.ensures.frame s (sym (c.len.ensures ∙ q.many_memories)) })

pub claim_from-requires : goal.claim_from-requires
claim_from-requires c =
    let s = c.requires.system.0 in
    let given = c.requires.system.1 in
    let q = given.questions in
    let within : IsGivenIn s c.args.store.now c.args.relation.now c.args.questions.now c.in_ok-frame.frame =
    record { relation = given.relation; questions = q; frame = c.in_ok-frame.ensures.frame s (sym (c.len.ensures ∙ q.many_memories)) } in
    let least = c.in_ok-risen.ensures.least s within in
    let kept = least.kept in
    kept.size

pub returns-clause-least : goal.returns-clause-least
returns-clause-least c s given =
    let q = given.questions in
    let within : IsGivenIn s c.args.store.now c.args.relation.now c.args.questions.now c.in_ok-frame.frame =
    record { relation = given.relation; questions = q; frame = c.in_ok-frame.ensures.frame s (sym (c.len.ensures ∙ q.many_memories)) } in
    found_least s c.in_ok-frame.frame c.args.thresholds.now c.in_ok-risen.risen c.in_ok-claim_from.field-0 c.in_ok-frame.ensures.thresholds
    c.in_ok-claim_from.ensures.reached c.in_ok-claim_from.ensures.rows (c.in_ok-risen.ensures.least s within)

pub returns-clause-kept : goal.returns-clause-kept
returns-clause-kept c s given =
    let q = given.questions in
    let within : IsGivenIn s c.args.store.now c.args.relation.now c.args.questions.now c.in_ok-frame.frame =
    record { relation = given.relation; questions = q; frame = c.in_ok-frame.ensures.frame s (sym (c.len.ensures ∙ q.many_memories)) } in
    found_kept s c.in_ok-frame.frame c.args.thresholds.now c.in_ok-risen.risen c.in_ok-claim_from.field-0 c.in_ok-frame.ensures.thresholds
    c.in_ok-claim_from.ensures.reached c.in_ok-claim_from.ensures.rows within.frame (c.in_ok-risen.ensures.least s within)
