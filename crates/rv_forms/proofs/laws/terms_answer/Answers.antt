use Rattle.rv_forms.proofs.Answering.{are_answers, answer_says, are_choices}
use Rattle.rv_forms.proofs.laws.terms_answer.Goals as goal

pub returns : goal.returns
returns c = record { answers = are_answers; says = answer_says; updates = are_choices }
