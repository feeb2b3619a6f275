-- A state in whole numbers and inputs of a program, and the valuations with which they agree, all by places.
-- (Jeannet 2003 for the control state.)
use Rattle.std.specs.Prelude.{◌≡◌, ◌↔◌, ◌⊎◌, ℕ, suc, ◌<◌, ℤ, Bool, true, false, cond, ◌||◌, List, [], ◌∷◌, ◌++◌, map, length, Option, Some, slice_index_or}
use Rattle.std.specs.Prelude.{None as Nothing}
use Rattle.std.specs.List.{Contains}
use Rattle.rv_base.specs.{declared.value.Value.Value, declared.value.Value.TheVariants.Flag}
use Rattle.rv_tree.specs.{Tree.Tree, Tree.AssertionTree, Tree.ProgramTree, Places.Identifier, Places.Sites, Places.index_of, Delays.Delay, Delays.node_delays}
use Rattle.rv_types.specs.{declared.typed.Kind.Kind, declared.typed.Clock.Clock, declared.typed.Clock.TheVariants.Base, Values.operand_kind}
use Rattle.rv_types.specs.{Variables.is_integer, Variables.node_parts, Variables.is_arrow, Lists.MemoryAt, Lists.Side, Lists.memory_places, Lists.delay_place}
use Rattle.rv_types.specs.{Instances.Body, Instances.Instance, Instances.clock_in, Instances.IsInstance, Instances.IsFlow, Needs.Of, Needs.Gives}
use Rattle.rv_meaning.specs.{Meaning.number, Runs.Instant, Runs.cell, Runs.observer_place, Runs.AreStarts, Instants.State, Instants.IsInstant}
use Rattle.rv_meaning.specs.{Instants.AreGiven, Instants.value_now}
use Rattle.rv_rows.specs.declared.linear.Form.{Form}
use Rattle.rv_agreement.specs.Valuations.{Valuation, Reading, at_point, holds_true, form_of, readings, IsPresent, IsCodedAs}
use Rattle.rv_agreement.specs.Agreement.{IsSpelled, IsSpelledAs, IsWell, bit_count, forms_from, value_there}
use Rattle.rv_agreement.specs.Programs.{Compared, IsComparison, is_there, meant, label_counts, kinds_of, input_kinds, columns_of, found_by, IsSymbolicOf}
use Rattle.rv_agreement.specs.Programs.{tested_in, AgreesWith, HasProducts}
use Rattle.rv_agreement.specs.{Trees.System, Trees.kind_at, Translation.Numbers, Translation.IsTranslated, Translation.AreNamed, Translation.IsClockOf}

-- the integers among values of these types, by their numbers
abbrev pub integers_of : List Kind → (ℕ → Value) → List ℤ
integers_of [] f = []
integers_of (k ∷ ks) f = cond (is_integer k) (number (f 0) ∷ integers_of ks (λ j. f (suc j))) (integers_of ks (λ j. f (suc j)))

module _ (program : ProgramTree) (main : Identifier) where
  -- A tick: main's, or that of a clock on which a `->` stands.
  abbrev pub IsTick : Option Sites → Type 0
  IsTick Nothing = Unit {0}
  IsTick (Some q) = (i : Instance) × (e : Tree) × IsInstance program main i × Contains (node_parts i.node) e × (is_arrow e ≡ true)
      × (clock_in i Base e ≡ Some q)

  -- A memory: that of a `pre` or `current` of an instance.
  abbrev pub IsDelay : Instance → Delay → Type 0
  IsDelay i d = IsInstance program main i × Contains (node_delays i.node) d

  -- The memories in the order of their places say which columns there are.
  module _ (listed : List MemoryAt) where
    abbrev counts : List ℕ
    counts = label_counts program main listed

    abbrev inputs_of : List Kind
    inputs_of = input_kinds program main listed

    abbrev columns : ℕ
    columns = columns_of program main listed

    -- The point of a state and inputs: the integer memories in the order of their places, then the integer inputs.
    abbrev pub point_of : State → (ℕ → Value) → List ℤ
    point_of state inputs =
        integers_of (kinds_of program main listed) (λ m. state.kept (slice_index_or (memory_places listed) m []))
        ++ integers_of inputs_of inputs

    -- Every code names a label.
    pub record IsCodedOf (v : Valuation) : Type 0 where
      pub memories : (i : Instance) (d : Delay) → IsDelay i d → IsCodedAs counts (operand_kind program i.node d.operand) (v.kept (delay_place i d))
      pub inputs : (j : ℕ) → j < length inputs_of → IsCodedAs counts (kind_at inputs_of j) (v.input j)

    -- The control state of a valuation is initial: no tick has been, and every code of a memory names a label.
    pub record IsInitialOf (v : Valuation) : Type 0 where
      pub ticks : (k : Option Sites) → IsTick k → v.ticked k ≡ false
      pub memories : (i : Instance) (d : Delay) → IsDelay i d → IsCodedAs counts (operand_kind program i.node d.operand) (v.kept (delay_place i d))

    -- The valuation spells the ticks, the control memories and the control inputs.
    pub record SpellsOf (v : Valuation) (state : State) (inputs : ℕ → Value) : Type 0 where
      pub ticks : (k : Option Sites) → IsTick k → state.ticked k ≡ v.ticked k
      pub memories : (i : Instance) (d : Delay) → IsDelay i d → IsSpelled counts (operand_kind program i.node d.operand) (v.kept (delay_place i d))
          (state.kept (delay_place i d))
      pub given : (j : ℕ) → j < length inputs_of → IsSpelled counts (kind_at inputs_of j) (v.input j) (inputs j)

    -- The symbolic instant at a valuation has nothing where no flow is.
    abbrev pub IsSymbolicAt : Valuation → (Sites → Option Reading) → Type 0
    IsSymbolicAt v cells = IsSymbolicOf program main listed v cells × ((q : Sites) → (IsFlow program main q → ⊥) → cells q ≡ Nothing)

    -- A state and inputs agree with a valuation: it spells the control, and their point meets every row of the symbolic instant.
    abbrev pub IsAgreedOf : Valuation → (Sites → Option Reading) → State → (ℕ → Value) → Type 0
    IsAgreedOf v cells state inputs = SpellsOf v state inputs × IsSymbolicAt v cells × AgreesWith program main listed v cells (point_of state inputs)

    module _ (v : Valuation) (cells : Sites → Option Reading) where
      -- whether a clock is there, and what an expression has
      abbrev pub is_there_at : Option Sites → Bool
      is_there_at k = is_there Reading (readings columns v.test) program (found_by program main listed v) cells k

      abbrev pub meant_at : Instance → Tree → Reading
      meant_at i e = meant Reading (readings columns v.test) program (found_by program main listed v) cells i e

      -- an assertion is true or absent
      abbrev pub is_met_at : Instance → AssertionTree → Bool
      is_met_at i a = cond (is_there_at (clock_in i Base a.body)) (holds_true (meant_at i a.body)) true

      -- A valuation is allowed where its codes name labels and every assertion is true or absent.
      abbrev pub IsAllowedOf : Type 0
      IsAllowedOf = IsCodedOf v × ((i : Instance) (a : AssertionTree) → IsInstance program main i → Contains i.node.assertions a → is_met_at i a ≡ true)

      -- `updates(v)` and the memories of `next(v)`: what the memory of a `pre` or `current` has after the instant
      abbrev pub updated_at : Instance → Delay → Reading
      updated_at i d = cond (is_there_at (clock_in i Base d.operand)) (meant_at i d.operand) ((found_by program main listed v).kept (delay_place i d))

      -- the same by places
      abbrev pub AreUpdated : (Sites → Reading) → Type 0
      AreUpdated after = (i : Instance) (d : Delay) → IsDelay i d → after (delay_place i d) ≡ updated_at i d

      -- the forms of the integer memories, as many as they have columns
      abbrev pub updates_of : (Sites → Reading) → List Form
      updates_of after = forms_from (kinds_of program main listed) (λ m. form_of columns v.test (after (slice_index_or (memory_places listed) m [])))

      -- the ticks of `next(v)`: main's is true, and each other where it was or its clock is there
      abbrev pub next_tick_at : Option Sites → Bool
      next_tick_at k = v.ticked k || is_there_at k

      -- `next(v)` is the control state of w.
      pub record LeadsTo (w : Valuation) : Type 0 where
        pub ticks : (k : Option Sites) → IsTick k → w.ticked k ≡ next_tick_at k
        pub memories : (i : Instance) (d : Delay) → IsDelay i d → IsSpelledAs counts (operand_kind program i.node d.operand) (w.kept (delay_place i d))
            (updated_at i d)

      -- The symbolic instant gives at the point of a state and inputs the values of their instant, the truth of its assertions and
      -- of its observer, and the state after it.
      pub record GivesOf (state : State) (inputs : ℕ → Value) (row : Instant) (next : State) : Type 0 where
        pub flows : (q : Sites) → cell row q ≡ value_there (point_of state inputs) (cells q)
        pub assertions : (i : Instance) (a : AssertionTree) → IsInstance program main i → Contains i.node.assertions a
            → ((value_now program state row i Base a.body ≡ Nothing) ⊎ (value_now program state row i Base a.body ≡ Some (Flag true))) ↔ (is_met_at i a ≡ true)
        pub observer : cell row (observer_place program main) ≡ value_there (point_of state inputs) (cells (observer_place program main))
        pub ticks : (k : Option Sites) → IsTick k → next.ticked k ≡ next_tick_at k
        pub memories : (i : Instance) (d : Delay) → IsDelay i d → next.kept (delay_place i d) ≡ at_point (point_of state inputs) (updated_at i d)

      -- Two valuations differ only in the truth of tests that are absent.
      pub record AreAlikeOf (w : Valuation) : Type 0 where
        pub ticks : (k : Option Sites) → IsTick k → v.ticked k ≡ w.ticked k
        pub memories : (i : Instance) (d : Delay) (b : ℕ) → IsDelay i d → b < bit_count counts (operand_kind program i.node d.operand)
            → v.kept (delay_place i d) b ≡ w.kept (delay_place i d) b
        pub inputs : (j b : ℕ) → j < length inputs_of → b < bit_count counts (kind_at inputs_of j) → v.input j b ≡ w.input j b
        pub tests : (c : Compared) (side : Side) → IsComparison program main c → IsPresent (tested_in program main listed v cells c) side
            → v.test c.at side ≡ w.test c.at side

  -- The constant operand of each product of the program has its value, which holds where the source is accepted.
  pub record HaveProducts (state : State) (row : Instant) : Type 0 where
    pub flows : (q : Sites) (i : Instance) (k : Clock) (e : Tree) → Gives program main q (Of i k (Body e)) → HasProducts program state row i e
    pub memories : (i : Instance) (d : Delay) → IsDelay i d → HasProducts program state row i d.operand
    pub assertions : (i : Instance) (a : AssertionTree) → IsInstance program main i → Contains i.node.assertions a → HasProducts program state row i a.body

  -- In every instant of the program the constant operand of each product has its value.
  abbrev pub KeepsProducts : Type 0
  KeepsProducts = (state : State) (inputs : ℕ → Value) (row : Instant) → AreStarts program main state.kept → AreGiven program main inputs
      → IsInstant program main state inputs row → HaveProducts state row

  -- The flat system of a program: it is well formed and read from it, with its labels, inputs and observer, and each memory, tick and
  -- clock that the program names has a number in it.
  pub record IsSystemOf (numbers : Numbers) (s : System) : Type 0 where
    pub translated : IsTranslated program main numbers s
    pub well : IsWell s
    pub labels : s.labels ≡ label_counts program main []
    pub inputs : s.inputs ≡ input_kinds program main []
    pub observer : s.observer ≡ index_of numbers.flows (observer_place program main)
    pub named : AreNamed program main (Contains numbers.memories) (Contains s.ticks) (IsClockOf numbers s)

-- the memories of a flat system
abbrev pub memories_of : System → List MemoryAt
memories_of s = map (λ m. record { place = m.place; kind = m.kind }) s.memories
