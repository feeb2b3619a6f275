use Rattle.std.proofs.lemmas.Result.{IfOk-weaker}
use Rattle.rv_taken.proofs.Meetings.{row_met}
use Rattle.rv_taken.proofs.opening.without_row.Goals as goal

pub returns-clause-exact : goal.returns-clause-exact
returns-clause-exact c = IfOk-weaker c.without.result _ _
    (λ r is. row_met c.args.store.now c.unmet.new.store c.without.new.store.nodes c.args.ends.now c.args.whole c.args.under c.in_ok-shut.shut r c.args.row.now
    c.in_ok-shut.ensures.extends c.requires.whole c.requires.under c.requires.opened c.in_ok-shut.ensures.exact is)
    c.without.ensures.exact
