use Rattle.std.proofs.Common.{ℕ, length, ◌+◌, subst}
use Rattle.rv_cover.specs.Entries.{IsFound}
use Rattle.rv_cover.proofs.Chaining.{searched_as_many}
use Rattle.rv_cover.proofs.several.add_leanly.Goals as goal

pub step_into-requires-clause-searched : goal.step_into-requires-clause-searched
step_into-requires-clause-searched c =
    let (s, is, to) = c.requires.searched in
    (s, searched_as_many s c.args.store.now c.args.questions.now c.args.frame.now c.args.given.now c.args.lean.now c.requires.same_many is, to.wanted)

pub returns-in-Some-clause-cover : goal.returns-in-Some-clause-cover
returns-in-Some-clause-cover c =
    let lean : IsFound c.args.store.now.nodes (length c.args.lean.now + length c.args.questions.now.rows) c.in-Some.found = rw c.in-Some.is at
    c.in_ok-found.ensures in
    let found : IsFound c.args.store.now.nodes (length c.args.given.now + length c.args.questions.now.rows) c.in-Some.found =
    subst (λ (n : ℕ). IsFound c.args.store.now.nodes (n + length c.args.questions.now.rows) c.in-Some.found) c.requires.same_many lean in
    c.add_found_step.ensures.cover (length c.args.given.now + length c.args.questions.now.rows) c.requires.cover found.kind

pub add_found_step-requires-clause-answers : goal.add_found_step-requires-clause-answers
add_found_step-requires-clause-answers c =
    let found : IsFound c.args.store.now.nodes (length c.args.lean.now + length c.args.questions.now.rows) c.in-Some.found = rw c.in-Some.is at
    c.in_ok-found.ensures in
    found.answers

pub add_found_step-requires-clause-left : goal.add_found_step-requires-clause-left
add_found_step-requires-clause-left c = c.requires.cover.left

pub add_found_step-requires-clause-rest : goal.add_found_step-requires-clause-rest
add_found_step-requires-clause-rest c = c.requires.cover.rest

pub add_found_step-requires-clause-into : goal.add_found_step-requires-clause-into
add_found_step-requires-clause-into c = let (s, is, to) = c.requires.searched in to.into
