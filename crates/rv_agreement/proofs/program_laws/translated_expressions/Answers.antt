use Rattle.std.proofs.Common.{refl}
use Rattle.rv_base.specs.declared.value.Value.{Value}
use Rattle.rv_agreement.specs.{Evaluation.integers, Valuations.Reading, Valuations.readings}
use Rattle.rv_agreement.proofs.Translated.{value_read, compared_read}
use Rattle.rv_agreement.proofs.program_laws.translated_expressions.Goals as goal

pub returns-clause-whole : goal.returns-clause-whole
returns-clause-whole c = λ program numbers found row at_place cells agrees i e names. value_read Value integers (λ b. refl) program numbers found row at_place
    cells agrees i e names

pub returns-clause-symbolic : goal.returns-clause-symbolic
returns-clause-symbolic c = λ program numbers columns test found row at_place cells agrees i e names. value_read Reading (readings columns test)
    (λ b. refl) program numbers found row at_place cells agrees i e names

pub returns-clause-comparisons : goal.returns-clause-comparisons
returns-clause-comparisons c = λ program numbers flows i k e names. compared_read program numbers flows i k e names
