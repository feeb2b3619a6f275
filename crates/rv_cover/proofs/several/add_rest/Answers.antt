use Rattle.std.proofs.Common.{length, ◌+◌}
use Rattle.rv_cover.specs.Entries.{IsFound}
use Rattle.rv_cover.proofs.several.add_rest.Goals as goal

pub returns-in-Some-clause-cover : goal.returns-in-Some-clause-cover
returns-in-Some-clause-cover c =
    let found : IsFound c.args.store.now.nodes (length c.args.given.now + length c.args.questions.now.rows) c.in-Some.found = rw c.in-Some.is at
    c.in_ok-found.ensures in
    c.add_found_dead.ensures.cover (length c.args.given.now + length c.args.questions.now.rows) c.requires.cover found.kind

pub add_found_dead-requires-clause-answers : goal.add_found_dead-requires-clause-answers
add_found_dead-requires-clause-answers c =
    let found : IsFound c.args.store.now.nodes (length c.args.given.now + length c.args.questions.now.rows) c.in-Some.found = rw c.in-Some.is at
    c.in_ok-found.ensures in
    found.answers

pub add_found_dead-requires-clause-left : goal.add_found_dead-requires-clause-left
add_found_dead-requires-clause-left c = c.requires.cover.left

pub add_found_dead-requires-clause-rest : goal.add_found_dead-requires-clause-rest
add_found_dead-requires-clause-rest c = c.requires.cover.rest

pub dead_from-requires-clause-searched : goal.dead_from-requires-clause-searched
dead_from-requires-clause-searched c = let (s, is, to) = c.requires.searched in (s, is)
