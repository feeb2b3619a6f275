use Rattle.std.proofs.Common.{◌≡◌, ◌+◌, ◌<◌, ◌==◌, ◌∙◌, ℕ, ap, sym, subst, arith, length, List, [], true}
use Rattle.std.proofs.lemmas.Option.{get_or_from_slice_get}
use Rattle.rv_diagram.specs.Nodes.{Valuation, value_of}
use Rattle.rv_proofs.specs.Systems.{System}
use Rattle.rv_cases.specs.Conditions.{is_in, list_at, AreAnswers, HasOneAnswer, IsSampleOf}
use Rattle.rv_cases.specs.{Questions.observer_answers, Questions.AreQuestions, Questions.IsSettledFor, Telling.IsObserved}
use Rattle.rv_cases.proofs.Tellings.{observed_told}
use Rattle.rv_cases.proofs.telling.observer_in.Goals as goal

pub place_in-place-requires-clause-answers : goal.place_in-place-requires-clause-answers
place_in-place-requires-clause-answers c =
    let last : ℕ = c.len.result + c.len-2.result in
    let low : last < length c.args.questions.now.questions = omega (arith, c.requires.answers.many) in
    let is : list_at c.args.questions.now.questions last ≡ c.at-answers.result.now =
    get_or_from_slice_get c.args.questions.now.questions last c.at-answers.result.now [] c.at-answers.ensures.value in
    subst (λ (l : List ℕ). AreAnswers c.args.store.now.nodes l) (is ∙ sym c.as_slice.ensures) (c.requires.answers.one last low)

pub returns : goal.returns
returns c = record { observed = observed }
  where
    observed : (condition : ℕ) → IsSettledFor c.args.store.now.nodes c.args.questions.now condition
        → IsSampleOf c.args.store.now.nodes condition c.args.sample.now → (s : System) → AreQuestions s c.args.store.now c.args.questions.now
        → IsObserved s (value_of c.args.store.now.nodes condition) (c.place_in-place.result == 0)
    observed condition settled sample s a =
        let last : ℕ = c.len.result + c.len-2.result in
        let low : last < length c.args.questions.now.questions = omega (arith, c.requires.answers.many) in
        let named : last ≡ length c.args.questions.now.rows + length c.args.questions.now.forms = omega arith in
        let is : observer_answers c.args.questions.now ≡ c.at-answers.result.now = ap (list_at c.args.questions.now.questions) (sym named)
        ∙ get_or_from_slice_get c.args.questions.now.questions last c.at-answers.result.now [] c.at-answers.ensures.value in
        let same : c.as_slice.result.now ≡ observer_answers c.args.questions.now = c.as_slice.ensures ∙ sym is in
        let within : c.place_in-place.result < length (observer_answers c.args.questions.now) =
        subst (λ (l : List ℕ). c.place_in-place.result < length l) same c.place_in-place.ensures.known in
        let settled_there : HasOneAnswer c.args.store.now.nodes condition (observer_answers c.args.questions.now) =
        subst (λ (n : ℕ). HasOneAnswer c.args.store.now.nodes condition (list_at c.args.questions.now.questions n)) named (settled last low) in
        observed_told s c.args.store.now.nodes condition c.place_in-place.result (observer_answers c.args.questions.now) a.observer
        (omega (arith, a.answers.sides))
        (subst (λ (l : List ℕ). (v : Valuation) → value_of c.args.store.now.nodes condition v ≡ true → is_in c.args.store.now.nodes l
        c.place_in-place.result v ≡ true) same
        (c.place_in-place.ensures.throughout condition (subst (λ (l : List ℕ). HasOneAnswer c.args.store.now.nodes condition l) (sym same) settled_there)
        sample))
