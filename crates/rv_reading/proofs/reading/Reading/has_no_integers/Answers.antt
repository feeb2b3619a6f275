use Rattle.std.proofs.Common.{◌∙◌, sym, true≢false}
use Rattle.rv_reading.proofs.Representing.{no_integers, no_columns, no_tests}
use Rattle.rv_reading.proofs.reading.Reading.has_no_integers.Goals as goal

pub returns-then-is_empty : goal.returns-then-is_empty
returns-then-is_empty c =
    let r = c.args.self.now in
    let columns = c.is_empty.ensures.0 c.if-is_empty.true in
    let tests = c.is_empty-then-is_empty.ensures in
    (λ yes. no_integers r c.requires columns (tests.0 yes), λ none. tests.1 (no_tests r c.requires none))

pub returns-else-is_empty : goal.returns-else-is_empty
returns-else-is_empty c =
    let r = c.args.self.now in (
      λ yes. absurd (true≢false (sym yes ∙ c.if-is_empty.false)),
      λ none. absurd (true≢false (sym (c.is_empty.ensures.1 (no_columns r c.requires none)) ∙ c.if-is_empty.false)),
    )
