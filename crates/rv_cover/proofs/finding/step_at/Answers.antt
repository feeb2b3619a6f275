use Rattle.std.proofs.Common.{ℕ, ◌+◌, length, subst}
use Rattle.rv_cover.specs.Entries.{IsFound}
use Rattle.rv_cover.proofs.Chaining.{searched_as_many}
use Rattle.rv_cover.proofs.finding.step_at.Goals as goal

pub step_into-requires-clause-searched : goal.step_into-requires-clause-searched
step_into-requires-clause-searched c =
    let (s, is, kept) = c.requires.searched in
    (s, searched_as_many s c.args.store.now c.args.questions.now c.args.frame.now c.args.given.now c.args.lean.now c.requires.same_many is, kept)

pub returns-in-Some : goal.returns-in-Some
returns-in-Some c =
    let found : IsFound c.args.store.now.nodes (length c.args.lean.now + length c.args.questions.now.rows) c.in-Some.found = rw c.in-Some.is at
    c.in_ok-found.ensures in
    subst (λ (n : ℕ). IsFound c.args.store.now.nodes (n + length c.args.questions.now.rows) c.in-Some.found) c.requires.same_many found
