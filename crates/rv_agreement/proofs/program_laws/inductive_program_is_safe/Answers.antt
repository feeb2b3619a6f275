use Rattle.rv_agreement.proofs.ProgramRuns.{safe_at}
use Rattle.rv_agreement.proofs.program_laws.inductive_program_is_safe.Goals as goal

pub returns : goal.returns
returns c = λ program main numbers s holds well node system keeps inductive n t starts inputs h run lt allowed.
    safe_at program main numbers s system well node starts inputs n h run keeps holds inductive t lt allowed
