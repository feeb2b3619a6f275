use Rattle.rv_proofs.proofs.Safe.{go_leads, loop_leads, loop_stays}
use Rattle.rv_proofs.proofs.laws.entries_lead.Goals as goal

pub returns-clause-step : goal.returns-clause-step
returns-clause-step c s certificate k j l e v point next target reach into accepted is step =
    go_leads s certificate accepted k j l e is v point next step target reach into

pub returns-clause-turn : goal.returns-clause-turn
returns-clause-turn c s certificate k j l e v point next first before around state accepted is step =
    loop_leads s certificate accepted k j l e is v point next step first before around state

pub returns-clause-further : goal.returns-clause-further
returns-clause-further c s certificate k j l e v point next first before around state accepted is step =
    loop_stays s certificate accepted k j l e is v point next step first before around state
