-- An instant at a state is a solution of one instant.
use Rattle.std.proofs.Common.{◌≡◌, ℕ, ◌<◌, ◌↔◌, Bool, false, cond, [], ◌∷◌, refl, sym, ◌∙◌, ap, subst, arith, get_or, Option, Some, IsSome, None as Nothing}
use Rattle.std.specs.FinMap as map
use Rattle.rv_base.specs.{declared.value.Value.Value, declared.value.Value.TheVariants.Flag}
use Rattle.rv_tree.specs.{Tree.ProgramTree, Places.Identifier, Places.Sites}
use Rattle.rv_types.specs.Instances.{Body, Output, absolute, clock_in, clock_of, clock_of_arguments, IsFlow}
use Rattle.rv_types.specs.Needs.{Giver, Given, Of, Gives, given, by_equation, by_call}
use Rattle.rv_meaning.specs.{Meaning.is_there, Runs.Instant, Runs.History, Runs.cells, Runs.cell, Givers.expected, Givers.AreDefined, Instants.State}
use Rattle.rv_meaning.specs.{Instants.is_on_in, Instants.right_now, Instants.IsInstant}
use Rattle.rv_meaning.proofs.{NameLemmas.masked, LocalInstants.right_alike, Solutions.Rule, Solutions.IsLocal, Solutions.IsSolution}

-- a clock is there in a history of an instant where it is in the row
pub on_there : (h : History) (t : ℕ) (k : Option Sites) → is_there (cells h) k t ≡ is_on_in (get_or h t map.empty) k
on_there h t Nothing = refl
on_there h t (Some p) = refl

-- two values that are masked alike are there alike
same_mask : (b c : Bool) (x y : Value) → b ≡ c → IsSome (cond b (Some x) Nothing) ↔ IsSome (cond c (Some y) Nothing)
same_mask b c x y e = let p = masked b c x e in let q = masked c c y refl in (λ s. q.1 (p.0 s), λ s. p.1 (q.0 s))

module _ (program : ProgramTree) (main : Identifier) (state : State) (inputs : ℕ → Value) where
  -- the rule of instants
  abbrev pub at_state : Rule
  at_state (Given j) h t = Some (inputs j)
  at_state (Of i k r) h t = right_now program state (get_or h t map.empty) i k r

  -- it is local
  pub at_state_is_local : IsLocal program at_state
  at_state_is_local g h (Given j) t alike same = refl
  at_state_is_local g h (Of i k r) t alike same = right_alike (get_or g t map.empty) (get_or h t map.empty) program state i k r same

  -- the history of one row
  abbrev pub alone : Instant → History
  alone row = row ∷ []

  -- an instant is a solution
  pub solution_of_instant : (row : Instant) → IsInstant program main state inputs row → IsSolution program main at_state 1 (alone row)
  solution_of_instant row s = record {
    history = record {
      instants = refl;
      places = λ t p lt. subst (λ u. IsSome (map.get (get_or (alone row) u map.empty) p) ↔ IsFlow program main p) (is_first t lt) (s.places p);
    };
    has = λ t p w lt g. subst (λ u. cells (alone row) u p ≡ at_state w (alone row) u) (is_first t lt) (here p w g);
  }
    where
      is_first : (t : ℕ) → t < 1 → 0 ≡ t
      is_first t lt = omega arith

      here : (p : Sites) (w : Giver) → Gives program main p w → cell row p ≡ at_state w (alone row) 0
      here p _ (given j lt is) = ap (cell row) (sym is) ∙ s.given j lt
      here p _ (by_equation i x e inst at is) = ap (cell row) (sym is) ∙ s.equations i x e inst at
      here p _ (by_call i c j e inst at arg is) = ap (cell row) (sym is) ∙ s.arguments i c j e inst at arg

  -- what an instant has of a giver is there where a run's would be
  present : (starts : Sites → Value) (others : ℕ → ℕ → Value) (h : History) (t : ℕ) (w : Giver)
      → IsSome (expected program starts others w (cells h) t) ↔ IsSome (at_state w h t)
  present starts others h t (Given j) = (λ s. refl, λ s. refl)
  present starts others h t (Of i k (Body e)) = same_mask (is_there (cells h) (clock_in i k e) t) (is_on_in (get_or h t map.empty) (clock_in i k e)) _ _
      (on_there h t (clock_in i k e))
  present starts others h t (Of i k (Output c j)) = same_mask (is_there (cells h) (absolute i (clock_of_arguments i c.args)) t)
      (is_on_in (get_or h t map.empty) (absolute i (clock_of_arguments i c.args))) _ _ (on_there h t (absolute i (clock_of_arguments i c.args)))

  -- and a solution has an instant
  pub instant_of_solution : AreDefined program main → (h : History) → IsSolution program main at_state 1 h
      → IsInstant program main state inputs (get_or h 0 map.empty)
  instant_of_solution d h s = record {
    places = λ p. s.history.places 0 p (omega arith);
    given = λ j lt. s.has 0 _ _ (omega arith) (given j lt refl);
    equations = λ i x e inst at. s.has 0 _ _ (omega arith) (by_equation i x e inst at refl);
    arguments = λ i c j e inst at arg. s.has 0 _ _ (omega arith) (by_call i c j e inst at arg refl);
    clocks = λ i x inst at.
        let g = d.complete _ (i, x, inst, at, refl) in
        let is = s.has 0 _ g.0 (omega arith) g.1 in
        let there = d.clocked i x g.0 (λ p. Flag false) (λ t j. Flag false) (cells h) 0 inst at g.1 in
        let same = present (λ p. Flag false) (λ t j. Flag false) h 0 g.0 in
        let on = on_there h 0 (absolute i (clock_of i.node x)) in (
          λ some. sym on ∙ there.0 (same.1 (subst IsSome is some)),
          λ yes. subst IsSome (sym is) (same.0 (there.1 (on ∙ yes))),
        );
  }
