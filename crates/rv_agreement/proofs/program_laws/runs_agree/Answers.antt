use Rattle.rv_agreement.proofs.ProgramRuns.{products_here, some_at, alike_at, gives_at, leads_at, updates_at, allowed_of, initial_of}
use Rattle.rv_agreement.proofs.program_laws.runs_agree.Goals as goal

pub returns-clause-some : goal.returns-clause-some
returns-clause-some c = λ program main numbers s starts inputs n h t state well node system keeps run lt is.
    some_at program main numbers s system well node starts inputs n h run keeps t lt state is

pub returns-clause-alike : goal.returns-clause-alike
returns-clause-alike c = λ program main numbers s starts inputs n h t state v w first second well node system keeps run lt is one other.
    alike_at program main numbers s system well node starts inputs n h run keeps t lt state is v w first second one other

pub returns-clause-gives : goal.returns-clause-gives
returns-clause-gives c = λ program main numbers s starts inputs n h t state next v symbolic well node system keeps run lt is next_is agreed.
    gives_at program main numbers s system well node starts inputs n h run keeps t lt state is next next_is v symbolic agreed

pub returns-clause-leads : goal.returns-clause-leads
returns-clause-leads c = λ program main numbers s starts inputs n h t state next later v w symbolic after well node system keeps run lt is next_is agreed other.
    leads_at program main numbers s system well node starts inputs n h run keeps t lt state is next next_is v symbolic agreed w after later other

pub returns-clause-updates : goal.returns-clause-updates
returns-clause-updates c = λ program main numbers s starts inputs n h t state next v symbolic after well node system keeps run lt is next_is agreed updated.
    updates_at program main numbers s system well node starts inputs n h run keeps t lt state is next next_is v symbolic agreed after updated

pub returns-clause-allowed : goal.returns-clause-allowed
returns-clause-allowed c = λ program main numbers s starts inputs n h t state v symbolic well node system keeps run lt is hold agreed.
    allowed_of program main numbers s system well node starts inputs n h run t lt state is v symbolic
    (products_here program main numbers s system well node starts inputs n h run keeps t lt state is) hold agreed

pub returns-clause-initial : goal.returns-clause-initial
returns-clause-initial c = λ program main numbers s starts inputs n h state v symbolic well node system keeps run lt is agreed.
    initial_of program main numbers s system well node starts inputs n h run lt state is v symbolic agreed
