use Rattle.rv_symbolic.proofs.Extending.{map_ok}
use Rattle.rv_claimed.proofs.Entering.{failing_here}
use Rattle.rv_claimed.proofs.entries.kind_of.Goals as goal

pub step_of-requires-clause-wanted : goal.step_of-requires-clause-wanted
step_of-requires-clause-wanted c n r at =
    let opened = rw c.in-None.is at c.in_ok-refutation.ensures.opened in
    c.requires.wanted opened n r at

pub returns-in-None : goal.returns-in-None
returns-in-None c =
    let opened = rw c.in-None.is at c.in_ok-refutation.ensures.opened in
    map_ok c.step_of.result _ _ (λ o h. failing_here _ c.args.premises.now c.args.given.now c.args.case.now c.requires.are opened o h) c.step_of.ensures
