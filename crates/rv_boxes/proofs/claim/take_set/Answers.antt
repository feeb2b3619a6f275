use Rattle.std.proofs.Common.{refl}
use Rattle.rv_boxes.proofs.Taking.{taken_new}
use Rattle.rv_boxes.proofs.claim.take_set.Goals as goal

pub returns-in-Some-clause-taken : goal.returns-in-Some-clause-taken
returns-in-Some-clause-taken c s variables control other =
    let extended = rw c.in-Some.is at c.in_ok-extended.ensures.exact in
    let both = c.in_ok-extended.ensures.control s variables control other c.in-Some.extended c.in-Some.is in
    taken_new s c.args.claim.now c.args.set.now control c.args.store.now.variables c.in-Some.extended
    (record { reached = c.in-Some.extended.all; upper = c.args.claim.now.upper; lower = c.args.claim.now.lower }) both.1 extended refl refl refl
