use Rattle.std.proofs.Common.{◌∙◌, ◌⊎◌, ◌+◌, ◌<◌, ◌≤◌, ◌^◌, MatchOption, sym, arith}
use Rattle.rv_proofs.specs.{Systems.System, Systems.IsSystem, Systems.HasLimits, Ranges.IsInRange, Scopes.IsSettled}
use Rattle.rv_cases.specs.Questions.{AreQuestions}
use Rattle.rv_symbolic.proofs.Extending.{map_ok}
use Rattle.rv_accept.specs.Needs.{HasMovingRow, HasMovingForm, AreStillRows, AreStillForms}
use Rattle.rv_accept.specs.{Held.IsScope, Passing.AreFacts, declared.facts.Facts.Facts}
use Rattle.rv_accept.proofs.{Asked.point_of, Ranged.entry_asked, Ranged.entry_records, Judged.kept_kind, Deciding.facts_settled}
use Rattle.rv_accept.proofs.facts.entry_facts.Goals as goal

pub needed_of-requires-clause-given : goal.needed_of-requires-clause-given
needed_of-requires-clause-given c = let (s, is, are, range) = c.requires.given in (s, is, range, are.many_tests, are.many_memories)

pub facts_of-requires : goal.facts_of-requires
facts_of-requires c = let (s, is, are, range) = c.requires.given in
    let need = c.in_ok-needed.ensures s are.many_tests are.many_memories in
    let limits : HasLimits s = is.limits in
    let tests : s.tests + 128 < 2 ^ 32 = limits.tests in
    let memories : s.memories ≤ 64 = limits.memories in
    record {
      scope = c.requires.scope;
      point = point_of c.args.store.now.nodes c.args.store.now.variables c.args.scope c.in_ok-point.point c.in_ok-point.ensures;
      answers = are.answers;
      few = omega (arith, are.answers.many, are.many_tests, are.many_memories);
      named = need.tests.size ∙ sym are.many_tests;
      moved = need.memories.size ∙ sym are.many_memories;
    }

pub returns-clause-exact : goal.returns-clause-exact
returns-clause-exact c =
    let (k, j, at) = c.requires.entry in
    map_ok c.facts_of.result (λ o. (s : System) → IsSystem s → AreQuestions s c.args.store.now c.args.questions.now
    → MatchOption o (HasMovingRow s c.args.store.now.nodes c.args.scope c.in_ok-needed.needed.named.items ⊎ HasMovingForm s c.args.store.now.nodes
    c.args.scope c.in_ok-needed.needed.moved.items)
    (λ (f : Facts). AreStillRows s c.args.store.now.nodes c.args.scope c.in_ok-needed.needed.named.items f.rows
    × AreStillForms s c.args.store.now.nodes c.args.scope c.in_ok-needed.needed.moved.items f.forms))
    (λ o. (s : System) → IsSystem s → AreQuestions s c.args.store.now c.args.questions.now → IsInRange s c.args.certificate.now
    → IsScope s c.args.location.now c.args.entry.now c.args.store.now c.args.scope
    → MatchOption o (¬ IsSettled s c.args.certificate.now c.args.location.now c.args.entry.now)
    (λ (f : Facts). IsSettled s c.args.certificate.now c.args.location.now c.args.entry.now
    × AreFacts s c.args.certificate.now c.args.location.now c.args.entry.now f.rows f.forms))
    (λ o h s is are range scope. facts_settled s c.args.location.now c.args.entry.now c.args.store.now c.args.scope scope c.args.certificate.now
    c.in_ok-needed.needed.named.items c.in_ok-needed.needed.moved.items (c.in_ok-needed.ensures s are.many_tests are.many_memories)
    (kept_kind s c.args.certificate.now c.args.location.now c.args.entry.now.kind
    (entry_asked s c.args.certificate.now k j c.args.location.now c.args.entry.now range at))
    (entry_records s c.args.certificate.now k j c.args.location.now c.args.entry.now range at) o (h s is are))
    c.facts_of.ensures.exact
