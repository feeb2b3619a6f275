use Rattle.std.proofs.Common.{◌≤ℤ◌, rules}
use Rattle.rv_rows.specs.Rows.{row_at}
use Rattle.rv_seek.proofs.SideLemmas.{closest-kept}
use Rattle.rv_seek.proofs.sides.closer.Goals as goal

pub returns-else-here-least : goal.returns-else-here-least
returns-else-here-least c cs side old =
    let first : (row_at c.args.premises.now c.args.old.first).bound ≤ℤ (row_at c.args.premises.now c.args.place).bound = search rules in
    closest-kept c.args.premises.now c.args.place cs side c.args.old old c.lower_of.result first c.lower_of.ensures.one c.lower_of.ensures.here
    c.lower_of.ensures.there
