use Rattle.std.proofs.Common.{◌≡◌, ◌≢◌, pos, get_or, sym, ap, ◌∙◌, rules}
use Rattle.rv_state.specs.Narrow.{present}
use Rattle.rv_state.proofs.NarrowLemmas.{present-none, present-some}
use Rattle.rv_state.proofs.narrow.present_at.Goals as goal

pub returns-then-differ : goal.returns-then-differ
returns-then-differ c =
    let some : get_or c.args.numbers.now c.args.place (pos 0) ≢ pos 0 = search rules in
    sym (present-some (get_or c.args.numbers.now c.args.place (pos 0)) some)

pub returns-else-differ : goal.returns-else-differ
returns-else-differ c =
    let none : get_or c.args.numbers.now c.args.place (pos 0) ≡ pos 0 = search rules in
    sym (ap present none ∙ present-none)
