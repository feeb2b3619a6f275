use Rattle.std.proofs.Common.{refl}
use Rattle.rv_agreement.specs.Valuations.{Reading, readings}
use Rattle.rv_agreement.proofs.Systems.{forward, backward, comparison_there, comparison_from}
use Rattle.rv_agreement.proofs.program_laws.translated_systems.Goals as goal

pub returns-clause-instants : goal.returns-clause-instants
returns-clause-instants c = λ program main numbers s columns test found at_place cells translated inputs names agrees instant.
    forward Reading (readings columns test) (λ b. refl) program main numbers s translated found at_place inputs (λ q i k e gives. names.flows q i k e gives)
    cells agrees instant

pub returns-clause-rows : goal.returns-clause-rows
returns-clause-rows c = λ program main numbers s columns test found at_place row translated inputs names defined index instant.
    backward Reading (readings columns test) (λ b. refl) program main numbers s translated found at_place inputs (λ q i k e gives. names.flows q i k e gives)
    defined index row instant

pub returns-clause-comparisons : goal.returns-clause-comparisons
returns-clause-comparisons c = λ program main numbers s c translated defined index names is. comparison_there program main numbers s translated defined index
    names c is

pub returns-clause-only : goal.returns-clause-only
returns-clause-only c = λ program main numbers s d translated defined index names w. comparison_from program main numbers s translated defined index names d w
