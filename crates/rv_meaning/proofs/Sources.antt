-- What a giver expects depends only on the earlier instants and on what it needs; a run is a solution of it.
use Rattle.std.proofs.Common.{◌≡◌, ℕ, ◌<◌, ◌↔◌, true, refl, sym, ◌∙◌, ap, subst, IsSome}
use Rattle.rv_base.specs.declared.value.Value.{Value}
use Rattle.rv_tree.specs.{Tree.ProgramTree, Places.Identifier, Places.Sites}
use Rattle.rv_types.specs.Instances.{absolute, clock_of}
use Rattle.rv_types.specs.Needs.{Giver, Given, Of, Gives, given, by_equation, by_call}
use Rattle.rv_meaning.specs.{Meaning.is_there, Runs.History, Runs.cells, Runs.AreStarts, Runs.AreInputs, Runs.IsRun, Givers.expected, Givers.AreDefined}
use Rattle.rv_meaning.proofs.{Local.right_now, Solutions.Rule, Solutions.IsLocal, Solutions.IsSolution}

module _ (program : ProgramTree) (starts : Sites → Value) (inputs : ℕ → ℕ → Value) where
  -- the rule of runs
  abbrev pub wanted : Rule
  wanted w h t = expected program starts inputs w (cells h) t

  -- it is local
  pub wanted_is_local : IsLocal program wanted
  wanted_is_local g h (Given j) t alike same = refl
  wanted_is_local g h (Of i k r) t alike same = right_now (cells g) (cells h) program starts i k r t alike same

module _ (program : ProgramTree) (main : Identifier) (starts : Sites → Value) (inputs : ℕ → ℕ → Value) where
  -- a run is a solution
  pub solution_of_run : (n : ℕ) (h : History) → IsRun program main starts inputs n h → IsSolution program main (wanted program starts inputs) n h
  solution_of_run n h r = record { history = r.history; has = has }
    where
      has : (t : ℕ) (p : Sites) (w : Giver) → t < n → Gives program main p w → cells h t p ≡ expected program starts inputs w (cells h) t
      has t p _ less (given j lt is) = ap (cells h t) (sym is) ∙ r.given t j less lt
      has t p _ less (by_equation i x e inst at is) = ap (cells h t) (sym is) ∙ r.equations t i x e less inst at
      has t p _ less (by_call i c j e inst at arg is) = ap (cells h t) (sym is) ∙ r.arguments t i c j e less inst at arg

  -- and the other way round, from starts and inputs of their types
  pub run_of_solution : AreDefined program main → AreStarts program main starts → (n : ℕ) → AreInputs program main n inputs → (h : History)
      → IsSolution program main (wanted program starts inputs) n h → IsRun program main starts inputs n h
  run_of_solution d typed n inputs_typed h s = record {
    starts_typed = typed;
    inputs_typed = inputs_typed;
    history = s.history;
    given = λ t j less lt. s.has t _ _ less (given j lt refl);
    equations = λ t i x e less inst at. s.has t _ _ less (by_equation i x e inst at refl);
    arguments = λ t i c j e less inst at arg. s.has t _ _ less (by_call i c j e inst at arg refl);
    clocks = λ t i x less inst at.
        let g = d.complete _ (i, x, inst, at, refl) in
        subst (λ o. IsSome o ↔ (is_there (cells h) (absolute i (clock_of i.node x)) t ≡ true)) (sym (s.has t _ g.0 less g.1))
        (d.clocked i x g.0 starts inputs (cells h) t inst at g.1);
  }
