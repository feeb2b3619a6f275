use Rattle.rv_agreement.proofs.ProgramAgreed.{some_agreed_of, alike_of, gives_of}
use Rattle.rv_meaning.proofs.Defined.{are_defined}
use Rattle.rv_agreement.proofs.program_laws.programs_agree.Goals as goal

pub returns-clause-some : goal.returns-clause-some
returns-clause-some c = λ program main numbers s state inputs row well node witness starts given instant products.
    some_agreed_of program main numbers s witness (are_defined program main well node) state inputs row starts given instant products

pub returns-clause-alike : goal.returns-clause-alike
returns-clause-alike c = λ program main numbers s state inputs row v w first second well node witness starts given instant products one other.
    alike_of program main numbers s witness (are_defined program main well node) state inputs row
    starts given instant products v w first second one other

pub returns-clause-gives : goal.returns-clause-gives
returns-clause-gives c = λ program main numbers s state inputs row next v cells well node witness starts given instant products is_next agreed.
    gives_of program main numbers s witness (are_defined program main well node) state inputs row
    starts given instant products v cells agreed next is_next
