-- The instants of a run: the observer is there with a truth value, and without integers no value leaves the range.
use Rattle.std.proofs.Common.{◌≡◌, inl, inr, ℕ, ℤ, zero, suc, ◌+◌, ◌^◌, ◌<◌, ◌≤◌, Bool, true, false, cond, List, [], ◌∷◌, length, get_or, refl, sym, ◌∙◌, ap}
use Rattle.std.proofs.Common.{subst, arith, Some, IsSome, slice_get, None as Nothing}
use Rattle.std.proofs.lemmas.List.{get_or-map, get_or_default, get_or_past, length-map}
use Rattle.std.proofs.{lemmas.Bool.cases_lt, lemmas.Int.ints}
use Rattle.std.specs.FinMap.{empty}
use Rattle.std.specs.FinMap as finite
use Rattle.rv_base.specs.declared.value.Value.{Value}
use Rattle.rv_base.specs.declared.value.Value.TheVariants.{Flag, Label, Whole}
use Rattle.rv_tree.specs.{Tree.ProgramTree, Places.Identifier, Places.Sites}
use Rattle.rv_types.specs.Instances.{absolute, clock_in, is_main, main_instance, place}
use Rattle.rv_types.specs.Values.{HasKind, operand_kind}
use Rattle.rv_types.specs.{declared.typed.Kind.Kind, declared.typed.Clock.Clock, declared.typed.Clock.TheVariants.Base, Lists.memory_at, Variables.is_integer}
use Rattle.rv_types.specs.declared.typed.Kind.TheVariants as kind
use Rattle.rv_meaning.specs.Runs.{History, cell, cells, observed, AreStarts, IsRun}
use Rattle.rv_meaning.specs.Instants.{State as Brought, is_on_in, AreGiven, IsInstant, IsNext}
use Rattle.rv_meaning.specs.{Meaning.content, Meaning.is_there, Meaning.kept_place, Following.held_before, Following.IsStateAt, Following.IsTypedInstant}
use Rattle.rv_agreement.specs.{Agreement.State, Agreement.AreTyped, Agreement.HasKind as HasKindIn, Trees.kind_at, Valuations.whole_count}
use Rattle.rv_agreement.specs.Trees as trees
use Rattle.rv_open.specs.Columns.{HasNoColumns}
use Rattle.rv_flat.specs.FlatInstants.{Row, held, nth, places, system_of}
use Rattle.rv_flat.specs.{declared.flat.Flat.Flat, FlatOf.flat_inputs, Steps.memory_kinds, Steps.IsWithin, SystemRuns.IsRunOf}
use Rattle.rv_flat.proofs.{Running.RunIsInstants, Running.StatesOfRun, SystemRuns.kept_kinds, Typing.TypedMemories, Typing.memory_found, Weighing.size}
use Rattle.rv_control.specs.Control.{control_of}
use Rattle.rv_control.proofs.Program.{RunsAreFlat}
use Rattle.rv_replay.specs.{Observers.IsObserved, Replays.flow, Replays.memory, Replays.StaysWithin}
use Rattle.rv_falsify.proofs.Weighed.{flow_small}
use Rattle.rv_replay.proofs.Observers.{InputsOfProgram, StatesOfProgram, TypedFlows, its_clock, its_place, observer, truth}
use Rattle.rv_replay.proofs.FlatSteps.{there_by}

-- What is taken from the layers below.
pub record Laws : Type 0 where
  pub instants : RunIsInstants
  pub states : StatesOfRun
  pub flows : TypedFlows
  pub memories : TypedMemories
  pub of_program : StatesOfProgram
  pub inputs : InputsOfProgram
  pub flat_runs : RunsAreFlat

-- a whole number has no other type than int
no_whole : (program : ProgramTree) (k : Kind) (z : ℤ) → is_integer k ≡ false → HasKind program k (Whole z) → ⊥
no_whole program kind.Int z e h = let bad : true ≡ false = e in absurd (cc)
no_whole program _ z e h = h

none_counted : (ks : List Kind) (m : ℕ) (j : Kind) → whole_count ks ≡ 0 → slice_get ks m ≡ Some j → is_integer j ≡ false
none_counted [] m j none e = absurd (let bad : Nothing ≡ Some j = e in cc)
none_counted (k ∷ ks) zero j none e =
    let same : k ≡ j = cc in ap is_integer (sym same) ∙ by (is_integer k) (whole_count ks) none
  where
    by : (b : Bool) (n : ℕ) → cond b 1 0 + n ≡ 0 → b ≡ false
    by true n is = absurd (omega (arith, is))
    by false n is = refl
none_counted (k ∷ ks) (suc m) j none e = none_counted ks m j (by (is_integer k) (whole_count ks) none) e
  where
    by : (b : Bool) (n : ℕ) → cond b 1 0 + n ≡ 0 → n ≡ 0
    by true n is = absurd (omega (arith, is))
    by false n is = omega (arith, is)

-- what has no integer type holds none
no_size : (labels : List ℕ) (k : Kind) (v : Value) → is_integer k ≡ false → HasKindIn labels k v → size v ≤ 1
no_size labels kind.Bool (Flag b) e h = omega arith
no_size labels kind.Bool (Label l) e h = absurd h
no_size labels kind.Bool (Whole z) e h = absurd h
no_size labels kind.Int v e h = let bad : true ≡ false = e in absurd (cc)
no_size labels (kind.Labels i) (Flag b) e h = absurd h
no_size labels (kind.Labels i) (Label l) e h = omega arith
no_size labels (kind.Labels i) (Whole z) e h = absurd h

kind_none : (ks : List Kind) (m : ℕ) → whole_count ks ≡ 0 → m < length ks → is_integer (kind_at ks m) ≡ false
kind_none ks m none lt = none_counted ks m (kind_at ks m) none (found_kind ks m lt)
  where
    found_kind : (ks : List Kind) (m : ℕ) → m < length ks → slice_get ks m ≡ Some (kind_at ks m)
    found_kind [] m lt = absurd (omega arith)
    found_kind (k ∷ ks) zero lt = refl
    found_kind (k ∷ ks) (suc m) lt = found_kind ks m (omega arith)

small_of : (labels : List ℕ) (ks : List Kind) (vs : List Value) → AreTyped labels ks vs → whole_count ks ≡ 0 → (m : ℕ) → size (get_or vs m (Flag false)) ≤ 1
small_of labels ks vs are none m = elim (cases_lt m (length ks)) [
  | inl lt ↦ no_size labels (kind_at ks m) (get_or vs m (Flag false)) (kind_none ks m none lt) (are.each m lt)
  | inr le ↦ subst (λ v. size v ≤ 1) (sym (get_or_past vs m (Flag false) (omega (arith, are.many, le)))) (omega arith)
]

within_if : (z : ℤ) → size (Whole z) ≤ 2 ^ 40 → IsWithin z
within_if z small = (omega (arith, ints), omega (arith, ints))

taken_by : (b : Bool) (c old : Value) (v : Value) → cond b (Some c) Nothing ≡ Some v → cond b c old ≡ v
taken_by true c old v e = cc
taken_by false c old v e = absurd (let bad : Nothing ≡ Some v = e in cc)

module _ (laws : Laws) (program : ProgramTree) (main : Identifier) (f : Flat) (of : IsObserved program main f)
    (starts : Sites → Value) (inputs : ℕ → ℕ → Value) (n : ℕ) (h : History) (run : IsRun program main starts inputs n h) where
  abbrev brought : ℕ → Brought
  brought t = (laws.states.some program main starts h t of.well of.named).0

  brought_at : (t : ℕ) → IsStateAt program main starts (cells h) t (brought t)
  brought_at t = (laws.states.some program main starts h t of.well of.named).1

  instant_at : (t : ℕ) → t < n → IsInstant program main (brought t) (inputs t) (get_or h t empty)
  instant_at t lt = (laws.instants.instant program main starts inputs n h t (brought t) run lt (brought_at t)).0

  next_at : (t : ℕ) → IsNext program main (brought t) (get_or h t empty) (brought (t + 1))
  next_at t = laws.states.next program main starts h t (brought t) (brought (t + 1)) (brought_at t) (brought_at (t + 1))

  given_at : (t : ℕ) → t < n → AreGiven program main (inputs t)
  given_at t lt j k e = run.inputs_typed t j k lt e

  typed_at : (t : ℕ) → t ≤ n → AreStarts program main (brought t).kept
  typed_at zero le = λ i d inst w.
      subst (HasKind program (operand_kind program i.node d.operand))
      (sym (((laws.states.start program main starts h (brought 0)).0 (brought_at 0)).memories i d inst w)) (run.starts_typed i d inst w)
  typed_at (suc t) le =
      let lt : t < n = omega arith in
      let one : t + 1 ≡ suc t = omega arith in
      subst (λ u. AreStarts program main (brought u).kept) one
      (laws.memories program main (places f) (brought t) (brought (t + 1)) (inputs t) (get_or h t empty) of.well of.named of.flat.sequence
      (typed_at t (omega arith)) (given_at t lt) (instant_at t lt) (next_at t))

  flows_at : (t : ℕ) → t < n → IsTypedInstant program main (get_or h t empty)
  flows_at t lt = laws.flows program main (places f) (brought t) (inputs t) (get_or h t empty) of.well of.named of.flat.sequence
      (typed_at t (omega arith)) (given_at t lt) (instant_at t lt)

  -- The observer is there, with a truth value.
  pub observed_truth : (t : ℕ) → t < n → (b : Bool) × (observed program main h t ≡ Some (Flag b))
  observed_truth t lt =
      let i = main_instance program main in
      let o = observer laws.flows laws.of_program laws.inputs program main f of in
      let at = its_place laws.flows laws.of_program laws.inputs program main f of in
      let row = get_or h t empty in
      let there : IsSome (cell row (place i o.name)) =
      ((instant_at t lt).clocks i o.name is_main o.within).1
      (ap (λ (k : Clock). is_on_in row (absolute i k)) (its_clock laws.flows laws.of_program laws.inputs program main f of)) in
      let found = truth program (cell row (place i o.name)) there (λ v e. flows_at t lt i o.name kind.Bool v is_main o.within o.kind e) in
      (found.0, ap (cell row) (sym at) ∙ found.1)

  -- Without integers in memories and inputs no value leaves the range.
  module _ (without : HasNoColumns (control_of f)) where
    of_run : (states : ℕ → State) × (rows : ℕ → Row) × IsRunOf program main f starts inputs n h states rows
    of_run = laws.flat_runs program main f starts inputs n h of.well of.named of.flat run

    no_memories : whole_count (memory_kinds f) ≡ 0
    no_memories = ap whole_count (sym (kept_kinds f.memories f.memories)) ∙ without.memories

    no_inputs : whole_count (system_of f).inputs ≡ 0
    no_inputs = let all = without.columns in omega (arith, all)

    flow_within : (t : ℕ) → t < n → (q : Sites) (z : ℤ) → cells h t q ≡ Some (Whole z) → IsWithin z
    flow_within t lt q z is =
        let there = (run.history.places t q lt).0 (there_by (finite.get (get_or h t empty) q) (Whole z) is) in
        let w = of.flat.sequence.flows q there in
        let many = length-map f.flows (λ x. x.place.sites) in
        let less : w.0 < length f.flows = let within = w.1 in omega (arith, many, within) in
        let at : get_or (places f) w.0 [] ≡ q = sym (get_or_default (places f) w.0 q [] w.1) ∙ w.2 in
        let typed = of_run.2.run.typed t lt in
        let cell_is : nth (of_run.1 t) w.0 ≡ Some (Whole z) =
        ap (λ r. nth r w.0) (of_run.2.told t lt)
        ∙ get_or-map (cell (get_or h t empty)) (places f) w.0 [] Nothing w.1
        ∙ ap (cell (get_or h t empty)) at ∙ is in
        let small = flow_small f (of_run.0 t) (flat_inputs f (inputs t)) (of_run.1 t) (of_run.2.run.instant t lt)
        (small_of (system_of f).labels (trees.memory_kinds (system_of f)) (of_run.0 t).kept typed.memories without.memories)
        (small_of (system_of f).labels (system_of f).inputs (flat_inputs f (inputs t)) typed.given no_inputs) w.0 less in
        within_if z (subst (λ o. size (held o) ≤ 2 ^ 40) cell_is small)

    pub stays_within : (t : ℕ) → t < n → StaysWithin program main starts h t
    stays_within t lt q (flow z is out) = out (flow_within t lt q z is)
    stays_within t lt q (memory i d z inst w at is out) =
        let found = memory_found f.memories (memory_at program i d) (of.flat.memories.all i d inst tt w) in
        let k = operand_kind program i.node d.operand in
        let none : is_integer k ≡ false = none_counted (memory_kinds f) found.0 k no_memories found.2 in
        let after : (brought (suc t)).kept (kept_place i d.site d.operand) ≡ Whole z =
        (brought_at (suc t)).memories i d inst w
        ∙ taken_by (is_there (cells h) (clock_in i Base d.operand) t) (content program starts (cells h) i d.operand t)
        (held_before program starts (cells h) i d t) (Whole z) is in
        no_whole program k z none (subst (HasKind program k) after (typed_at (suc t) (omega arith) i d inst w))
