-- What is inductive over valuations holds along each run, so the observer is true while the assertions hold.
use Rattle.std.proofs.Common.{◌≡◌, ℕ, zero, suc, ◌<◌, ◌≤◌, ℤ, Bool, true, List, sym, ◌∙◌, ap, arith, Option, Some}
use Rattle.rv_base.specs.{declared.value.Value.Value, declared.value.Value.TheVariants.Flag}
use Rattle.rv_agreement.specs.Agreement.{State, point, IsAgreed, IsWell, value_there}
use Rattle.rv_agreement.specs.{Trees.System, Trees.memory_kinds, Evaluation.nth, Evaluation.integers, Valuations.Valuation, Valuations.Reading}
use Rattle.rv_agreement.specs.{Valuations.IsCoded, Valuations.wholes, FlatRuns.IsFlatRun, FlatRuns.AreMetIn, FlatRuns.IsInductive}
use Rattle.rv_agreement.proofs.{Found.length-wholes, Agreed.some_agreed, Agreed.gives, Stepped.updates_are, Stepped.leads_to}

module _ (s : System) (well : IsWell s) (holds : Valuation → List ℤ → Bool) (inductive : IsInductive s holds) (n : ℕ) (states : ℕ → State)
    (inputs : ℕ → List Value) (rows : ℕ → List (Option Value))
    (run : IsFlatRun s n states inputs rows) where
  -- it holds at each valuation with which a state of the run agrees
  along : (t : ℕ) → t < n → ((u : ℕ) → u < t → AreMetIn s (states u) (inputs u) (rows u)) → (w : Valuation) (symbolic : List (Option Reading)) → IsCoded s w
      → IsAgreed s w symbolic (states t) (inputs t)
      → holds w (wholes (memory_kinds s) (states t).kept) ≡ true
  along zero lt met w symbolic coded agreed = inductive.initial w (wholes (memory_kinds s) (states 0).kept) (length-wholes (memory_kinds s) (states 0).kept)
      coded (λ k less. sym (agreed.0.ticks k less) ∙ run.start k)
  along (suc t) lt met w symbolic coded agreed =
      let less : t < n = omega arith in
      let a = some_agreed s (states t) (inputs t) (rows t) well (run.typed t less) (run.instant t less) in
      let g = gives s (states t) (states (suc t)) (inputs t) (rows t) a.0 a.1 well (run.typed t less) (run.instant t less) (run.next t less) a.3 in
      let before = along t less (λ u under. met u (omega arith)) a.0 a.1 a.2 a.3 in
      let met_there = met t (omega arith) in
      let leads = leads_to s (states t) (states (suc t)) (inputs t) (rows t) a.0 a.1 well (run.typed t less) (run.instant t less)
      (run.next t less) a.3 w symbolic (inputs (suc t)) agreed in
      let is = updates_are s (states t) (states (suc t)) (inputs t) (rows t) a.0 a.1 well (run.typed t less) (run.instant t less) (run.next t less) a.3 in
      ap (holds w) is
      ∙ inductive.kept a.0 w a.1 (wholes (memory_kinds s) (states t).kept) (wholes s.inputs (inputs t)) (length-wholes (memory_kinds s) (states t).kept)
      (length-wholes s.inputs (inputs t)) a.3.1 (a.2, λ k under. sym (g.assertions k under) ∙ met_there k under) a.3.2 before coded leads

  pub observer_true : (t : ℕ) → t < n → ((u : ℕ) → u ≤ t → AreMetIn s (states u) (inputs u) (rows u))
      → nth Value integers (rows t) s.observer ≡ Some (Flag true)
  observer_true t lt met =
      let a = some_agreed s (states t) (inputs t) (rows t) well (run.typed t lt) (run.instant t lt) in
      let g = gives s (states t) (states (suc t)) (inputs t) (rows t) a.0 a.1 well (run.typed t lt) (run.instant t lt) (run.next t lt) a.3 in
      let before = along t lt (λ u under. met u (omega arith)) a.0 a.1 a.2 a.3 in
      let met_there = met t (omega arith) in
      g.observer
      ∙ ap (value_there (point s (states t) (inputs t)))
      (inductive.good a.0 a.1 (wholes (memory_kinds s) (states t).kept) (wholes s.inputs (inputs t)) (length-wholes (memory_kinds s) (states t).kept)
      (length-wholes s.inputs (inputs t)) a.3.1 (a.2, λ k under. sym (g.assertions k under) ∙ met_there k under) a.3.2 before)
