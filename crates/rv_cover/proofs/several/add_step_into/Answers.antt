use Rattle.std.proofs.Common.{length, ◌+◌}
use Rattle.rv_cover.specs.Entries.{IsFound}
use Rattle.rv_cover.proofs.several.add_step_into.Goals as goal

pub returns-in-Some-clause-cover : goal.returns-in-Some-clause-cover
returns-in-Some-clause-cover c =
    let found : IsFound c.args.store.now.nodes (length c.args.given.now + length c.args.questions.now.rows) c.in-Some.found = rw c.in-Some.is at
    c.in_ok-found.ensures in
    c.add_found_step.ensures.cover (length c.args.given.now + length c.args.questions.now.rows) c.requires.cover found.kind

pub add_found_step-requires-clause-answers : goal.add_found_step-requires-clause-answers
add_found_step-requires-clause-answers c =
    let found : IsFound c.args.store.now.nodes (length c.args.given.now + length c.args.questions.now.rows) c.in-Some.found = rw c.in-Some.is at
    c.in_ok-found.ensures in
    found.answers

pub add_found_step-requires-clause-left : goal.add_found_step-requires-clause-left
add_found_step-requires-clause-left c = c.requires.cover.left

pub add_found_step-requires-clause-rest : goal.add_found_step-requires-clause-rest
add_found_step-requires-clause-rest c = c.requires.cover.rest

pub step_into-requires-clause-searched : goal.step_into-requires-clause-searched
step_into-requires-clause-searched c = let (s, is, to) = c.requires.searched in (s, is, to.wanted)

pub add_found_step-requires-clause-into : goal.add_found_step-requires-clause-into
add_found_step-requires-clause-into c = let (s, is, to) = c.requires.searched in to.into
