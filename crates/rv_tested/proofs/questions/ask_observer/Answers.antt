use Rattle.std.proofs.Common.{◌∙◌, ◌++◌, ◌∷◌, ℕ, List, [], ap}
use Rattle.rv_diagram.proofs.Growing.{grows_extends}
use Rattle.rv_tested.proofs.questions.ask_observer.Goals as goal

pub returns-clause-asked : goal.returns-clause-asked
returns-clause-asked c = record {
  extends = grows_extends c.args.store.now c.not.new.self c.in_ok-negation.ensures.ok.grows;
  negation = c.in_ok-negation.negation;
  found = c.in_ok-negation.ensures.ok.found;
  means = c.in_ok-negation.ensures.ok.means;
  asked = c.in_ok-push-3.ensures.ok
      ∙ ap (λ (l : List ℕ). c.args.questions.now ++ l ∷ []) (c.in_ok-push-2.ensures.ok
      ∙ ap (λ (l : List ℕ). l ++ c.in_ok-negation.negation ∷ []) (c.in_ok-push.ensures.ok
      ∙ ap (λ (l : List ℕ). l ++ c.args.observer ∷ []) c.new-sides.ensures));
}
