use Rattle.std.proofs.Common.{sym}
use Rattle.rv_ends.specs.Risen.{IsRisen}
use Rattle.rv_taken.specs.Rising.{HoldsAfter}
use Rattle.rv_least.specs.Rising.{HoldsAt}
use Rattle.rv_symbolic.proofs.Extending.{map_ok}
use Rattle.rv_least.proofs.Raising.{many_columns, ends_there, has_point, forms_narrow, forms_small, risen_at}
use Rattle.rv_least.proofs.rising.risen_limit.Goals as goal

pub risen-requires-clause-taken : goal.risen-requires-clause-taken
risen-requires-clause-taken c = let (s, base, k, sign, is, opened, turned) = c.requires.system in let t = opened.taken in t.found

pub risen-requires-clause-ends : goal.risen-requires-clause-ends
risen-requires-clause-ends c =
    let (s, base, k, sign, is, opened, turned) = c.requires.system in ends_there s is c.args.store.now base c.args.opening.now opened

pub risen-requires-clause-few : goal.risen-requires-clause-few
risen-requires-clause-few c =
    let (s, base, k, sign, is, opened, turned) = c.requires.system in many_columns s is c.args.store.now base c.args.opening.now opened

pub risen-requires-clause-many : goal.risen-requires-clause-many
risen-requires-clause-many c = let (s, base, k, sign, is, opened, turned) = c.requires.system in sym turned.size

pub risen-requires-clause-widths : goal.risen-requires-clause-widths
risen-requires-clause-widths c =
    let (s, base, k, sign, is, opened, turned) = c.requires.system in
    forms_narrow s is c.args.store.now base c.args.opening.now opened k sign c.args.answers.now c.args.forms.now turned

pub risen-requires-clause-sizes : goal.risen-requires-clause-sizes
risen-requires-clause-sizes c =
    let (s, base, k, sign, is, opened, turned) = c.requires.system in
    forms_small s is c.args.store.now base c.args.opening.now opened k sign c.args.answers.now c.args.forms.now turned

pub risen-requires-clause-opened : goal.risen-requires-clause-opened
risen-requires-clause-opened c =
    let (s, base, k, sign, is, opened, turned) = c.requires.system in has_point s is c.args.store.now base c.args.opening.now opened

pub returns-clause-risen : goal.returns-clause-risen
returns-clause-risen c s base k sign is opened turned =
    map_ok c.risen.result
    (IsRisen c.args.thresholds.now
    (HoldsAfter c.args.store.now.nodes c.args.opening.now.taken c.args.opening.now.ends c.args.answers.now c.args.forms.now) c.args.limit)
    (IsRisen c.args.thresholds.now (HoldsAt s base k sign) c.args.limit)
    (λ new r. risen_at s is c.args.store.now base c.args.opening.now opened k sign c.args.answers.now c.args.forms.now turned c.requires.answers
    c.args.thresholds.now c.args.limit new r)
    c.risen.ensures.risen
