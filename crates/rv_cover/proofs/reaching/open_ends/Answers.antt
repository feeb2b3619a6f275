use Rattle.std.proofs.Common.{length, refl}
use Rattle.rv_boxes.specs.Boxed.{IsOpenBox}
use Rattle.rv_cover.proofs.Rowing.{open_from}
use Rattle.rv_cover.proofs.reaching.open_ends.Goals as goal

pub returns-in-None : goal.returns-in-None
returns-in-None c =
    let opened : IsOpenBox (length c.in_ok-ends.ends) c.args.premises.now = rw c.in-None.is at c.in_ok-shut.ensures.opened in
    open_from c.args.columns c.args.premises.now c.in_ok-ends.ends (c.if-not-are_premises.ensures refl) c.in_ok-ends.ensures c.requires.columns opened
