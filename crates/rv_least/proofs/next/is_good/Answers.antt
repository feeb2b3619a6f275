use Rattle.rv_least.proofs.Nexting.{good_made, good_extends}
use Rattle.rv_least.proofs.next.is_good.Goals as goal

pub returns-clause-extends : goal.returns-clause-extends
returns-clause-extends c =
    good_extends c.args.store.now c.not.new.self c.and.new.self c.args.taken c.args.observer c.in_ok-unseen.unseen c.in_ok-bad.bad c.requires.taken
    c.in_ok-unseen.ensures.ok c.in_ok-bad.ensures.ok

pub returns-clause-good : goal.returns-clause-good
returns-clause-good c =
    good_made c.args.store.now c.not.new.self c.and.new.self c.args.taken c.args.observer c.in_ok-unseen.unseen c.in_ok-bad.bad c.requires.taken
    c.in_ok-unseen.ensures.ok c.in_ok-bad.ensures.ok c.in_ok-met.met c.in_ok-met.ensures
