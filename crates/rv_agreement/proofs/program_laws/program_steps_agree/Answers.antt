use Rattle.rv_agreement.proofs.ProgramAgreed.{some_updated, updates_are_of, leads_to_of}
use Rattle.rv_meaning.proofs.Defined.{are_defined}
use Rattle.rv_agreement.proofs.program_laws.program_steps_agree.Goals as goal

pub returns-clause-some : goal.returns-clause-some
returns-clause-some c = λ program main numbers s state inputs row v cells well node witness starts given instant products agreed.
    some_updated program main numbers s witness (are_defined program main well node) state inputs row starts given instant products v cells agreed

pub returns-clause-updates : goal.returns-clause-updates
returns-clause-updates c = λ program main numbers s state inputs row next v cells after well node witness starts given instant products is_next agreed updated.
    updates_are_of program main numbers s witness (are_defined program main well node) state inputs row
    starts given instant products v cells agreed next is_next after updated

pub returns-clause-leads : goal.returns-clause-leads
returns-clause-leads c = λ program main numbers s state inputs row next later v w cells after well node witness starts given instant products is_next
    agreed other.
    leads_to_of program main numbers s witness (are_defined program main well node) state inputs row
    starts given instant products v cells agreed next is_next w after later other
