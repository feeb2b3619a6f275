use Rattle.std.proofs.Common.{◌≡◌, ◌++◌, map, take}
use Rattle.rv_forms.specs.Choices.{refs_in, forms_in}
use Rattle.rv_terms.specs.declared.parted.Term.{Term}
use Rattle.rv_tested.proofs.questions.ask_memories.Given as goal

abbrev pub invariant-loop-term : goal.invariant-loop-term
invariant-loop-term l = record {
  asked : l.questions ≡ l.initial.questions ++ map (λ (t : Term). refs_in t.parts) (take l.term-index l.terms);
  forms : l.forms ≡ map (λ (t : Term). forms_in t.parts) (take l.term-index l.terms);
}
