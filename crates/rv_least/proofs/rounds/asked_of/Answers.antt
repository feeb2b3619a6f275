use Rattle.rv_cases.proofs.Keeping.{questions_later}
use Rattle.rv_least.proofs.rounds.asked_of.Goals as goal

pub test_ends-requires : goal.test_ends-requires
test_ends-requires c = c.requires

pub all_turned-requires : goal.all_turned-requires
all_turned-requires c =
    let (s, is, q, wide) = c.requires in
    (s, is, questions_later s c.args.store.now c.test_ends.new.store c.args.questions.now c.test_ends.ensures.extends q)

pub all_turned-requires-2 : goal.all_turned-requires-2
all_turned-requires-2 c =
    let (s, is, q, wide) = c.requires in
    (s, is, questions_later s c.args.store.now c.test_ends.new.store c.args.questions.now c.test_ends.ensures.extends q)

pub returns-clause-asked : goal.returns-clause-asked
returns-clause-asked c s is q wide =
    let later = questions_later s c.args.store.now c.test_ends.new.store c.args.questions.now c.test_ends.ensures.extends q in
    record {
      tests = c.in_ok-tests.ensures.ends s is q wide;
      updates = c.in_ok-updates.ensures s is later;
      opposites = c.in_ok-opposites.ensures s is later;
    }
