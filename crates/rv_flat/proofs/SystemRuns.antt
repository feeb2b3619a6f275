-- A run of a program is one of its flat system, in whole numbers of any size.
use Rattle.std.proofs.Common.{◌≡◌, ℤ, ℕ, zero, suc, ◌+◌, ◌<◌, ◌≤◌, ◌↔◌, Bool, true, false, cond, List, [], length, map, get_or, refl, sym, ◌∙◌, ap, subst}
use Rattle.std.proofs.Common.{arith, slice_get, Option, None as Nothing, Some}
use Rattle.std.proofs.lemmas.Option.{slice_get-get_or, slice_get-map, get_or_from_slice_get}
use Rattle.std.proofs.{lemmas.List.get_or-map, Math.ListN.length-map, lemmas.Bool.true_from_ne_false, lemmas.Simd.map-map}
use Rattle.std.specs.{FinMap.empty, Option.option_map}
use Rattle.rv_base.specs.declared.value.Value.{Value}
use Rattle.rv_base.specs.declared.value.Value.TheVariants.{Flag, Label, Whole}
use Rattle.rv_tree.specs.{Tree.ProgramTree, Places.Identifier, Places.Sites}
use Rattle.rv_types.specs.Values.{HasKind, labels_at, operand_kind}
use Rattle.rv_types.specs.{declared.typed.Kind.Kind, Instances.IsNode, WellFormed.AreWell}
use Rattle.rv_types.specs.declared.typed.Kind.TheVariants as kind
use Rattle.rv_meaning.specs.{Meaning.is_true, Runs.History, Runs.cells, Runs.AreStarts, Runs.IsRun, Runs.IsSafe, Instants.State as Brought, Instants.IsInstant}
use Rattle.rv_meaning.specs.{Instants.IsNext, Instants.IsStart, Instants.AreGiven, Following.IsStateAt}
use Rattle.rv_agreement.specs.Agreement.{State, HasKind as HasKindIn, AreTyped, IsWell, IsWholeInstant}
use Rattle.rv_agreement.specs.Evaluation.{Found, value, is_met, after, integers}
use Rattle.rv_agreement.specs.{Valuations.Valuation, FlatRuns.IsFlatRun, FlatRuns.AreMetIn, FlatRuns.IsInductive, Trees.Kept, Trees.System, Trees.kind_at}
use Rattle.rv_agreement.specs.Agreement as agreement
use Rattle.rv_agreement.specs.Evaluation as evaluation
use Rattle.rv_agreement.specs.Trees as trees
use Rattle.rv_flat.specs.FlatInstants.{Row, nth, places, memory_places, system_of, found_at, value_at, assertion_trees, IsFlatInstant, IsFlatNext}
use Rattle.rv_flat.specs.FlatOf.{IsFlatOf, IsFlatBroken, flat_state, flat_inputs, no_assertion, row_of}
use Rattle.rv_flat.specs.{declared.flat.Flat.Flat, declared.parts.FlatMemory.FlatMemory, FlatRuns.AreStepsOf, Inlined.tree_among, Inlined.inlined}
use Rattle.rv_flat.specs.{Inlined.table_of, RawTree.RawTree, RawTree.raw_tree, Steps.label_counts, SystemRuns.system_state, SystemRuns.IsRunOf}
use Rattle.rv_flat.specs.{Systems.flow_item, Systems.memory_item, Systems.kept_of, Systems.assertion_item}
use Rattle.rv_flat.specs.declared.state.State as declared
use Rattle.rv_flat.proofs.Running.{RunIsInstants, StatesOfRun, first_flat, allowed_of_run, observer_of_run}
use Rattle.rv_flat.proofs.Taming.{IsAsserted, whole, always, on_flow, asserted_is}
use Rattle.rv_flat.proofs.{Inlining.items_kept, Typing.TypedMemories, Typing.counts_same, Typing.kept_typed, Typing.length-values, Typing.value_kth}
use Rattle.rv_base.proofs.Lists.{item_at}

-- the memories of the system are those of the flat system, one by one
pub kept_kinds : (all ms : List FlatMemory) → map (λ x. x.kind) (map (kept_of all) ms) ≡ map (λ m. m.kind) ms
kept_kinds all ms = map-map (λ (x : Kept). x.kind) (kept_of all) ms

pub kept_items : (all ms : List FlatMemory) → map (λ x. x.item) (map (kept_of all) ms) ≡ map (memory_item all) ms
kept_items = items_kept

-- a value of a type is one in the system
pub kind_there : (p : ProgramTree) (counts : List ℕ) → ((i : ℕ) → get_or counts i 0 ≡ labels_at p.types i) → (k : Kind) (v : Value)
    → HasKind p k v ↔ HasKindIn counts k v
kind_there p counts same kind.Bool (Flag b) = (λ h. h, λ h. h)
kind_there p counts same kind.Int (Whole z) = (λ h. h, λ h. h)
kind_there p counts same (kind.Labels i) (Label l) = (λ h. omega (arith, same i, h), λ h. omega (arith, same i, h))
kind_there p counts same _ _ = (λ h. h, λ h. h)

got : {X Y : Type 0} (xs : List X) (g : X → Y) (k : ℕ) (x : X) (d : Y) → slice_get xs k ≡ Some x → get_or (map g xs) k d ≡ g x
got xs g k x d e = get_or_from_slice_get (map g xs) k (g x) d (slice_get-map g xs k ∙ ap (option_map g) e)

-- an assertion is met where the whole of it is true
met_by : (table : ℕ → trees.Item) (found : Found Value) (row : Row) (e : RawTree) (k : Option ℕ) (body : RawTree) → IsAsserted e k body
    → is_met Value integers found row (record { clock = k; body = inlined table body }) ≡ is_true (value Value integers found row (inlined table e))
met_by table found row e k body (whole x) = refl
met_by table found row e k body (always at there absent x) = refl
met_by table found row e k body (on_flow at there absent c x) = by (nth row c)
  where
    chosen : (b : Bool) (v : Value) → cond b (is_true v) true ≡ is_true (cond b v (Flag true))
    chosen true v = refl
    chosen false v = refl

    by : (o : Option Value) → cond (evaluation.is_on Value integers o) (is_true (value Value integers found row (inlined table x))) true
        ≡ is_true (cond (is_true (evaluation.held Value integers o)) (value Value integers found row (inlined table x)) (Flag true))
    by Nothing = refl
    by (Some v) = chosen (is_true v) (value Value integers found row (inlined table x))

-- What is taken from agreement: what is inductive makes each flat run safe.
abbrev pub InductiveIsSafe : Type 0
InductiveIsSafe = (s : System) (holds : Valuation → List ℤ → Bool) (n : ℕ) (states : ℕ → State) (inputs : ℕ → List Value) (rows : ℕ → List (Option Value))
    (t : ℕ) → IsWell s → IsInductive s holds → IsFlatRun s n states inputs rows → t < n → ((u : ℕ) → u ≤ t → AreMetIn s (states u) (inputs u) (rows u))
    → evaluation.nth Value integers (rows t) s.observer ≡ Some (Flag true)

module _ (program : ProgramTree) (main : Identifier) (f : Flat) (well : AreWell program) (named : IsNode program main) (flat : IsFlatOf program main f) where
  abbrev system : System
  system = system_of f

  kind_is : (k : Kind) (v : Value) → HasKind program k v → HasKindIn (label_counts f) k v
  kind_is k v h = (kind_there program (label_counts f) (counts_same program main f flat) k v).0 h

  memories_typed : (kept : Sites → Value) → AreStarts program main kept → AreTyped system.labels (trees.memory_kinds system) (map kept (memory_places f))
  memories_typed kept starts =
      let kinds = kept_kinds f.memories f.memories in
      let long : length (map kept (memory_places f)) ≡ length (trees.memory_kinds system) =
      length-map (memory_places f) kept ∙ length-map f.memories (λ m. m.place.sites) ∙ sym (length-map f.memories (λ m. m.kind)) ∙ ap length (sym kinds) in
      record {
        many = long;
        each = λ m lt.
            let j = kind_at (trees.memory_kinds system) m in
            let less : m < length (memory_places f) = omega (arith, lt, long, length-map (memory_places f) kept) in
            let is = ap (λ ks. slice_get ks m) (sym kinds) ∙ slice_get-get_or (trees.memory_kinds system) m kind.Bool lt in
            subst (HasKindIn system.labels j) (sym (get_or-map kept (memory_places f) m [] (Flag false) less))
            (kind_is j (kept (get_or (memory_places f) m [])) (kept_typed program main f well named flat kept starts m j is));
      }

  inputs_typed : (given : ℕ → Value) → AreGiven program main given → AreTyped system.labels system.inputs (flat_inputs f given)
  inputs_typed given are =
      let long : length (flat_inputs f given) ≡ length system.inputs = length-values given (length f.inputs) ∙ sym (length-map f.inputs (λ i. i.kind)) in
      record {
        many = long;
        each = λ j lt.
            let k = kind_at system.inputs j in
            let less : j < length f.inputs = omega (arith, lt, length-map f.inputs (λ i. i.kind)) in
            subst (HasKindIn system.labels k) (sym (value_kth given (length f.inputs) j less))
            (kind_is k (given j) (are j k (ap (λ ks. slice_get ks j) (sym flat.input_kinds) ∙ slice_get-get_or system.inputs j kind.Bool lt)));
      }

  whole_instant : (state : Brought) (given : ℕ → Value) (row : Row) → IsFlatInstant f (flat_state f state) (flat_inputs f given) row
      → IsWholeInstant system (system_state f state) (flat_inputs f given) row
  whole_instant state given row instant =
      let many = length-map f.flows (flow_item f.memories) in
      record { flows = instant.flows ∙ sym many; holds = λ k lt. instant.holds k (omega (arith, many, lt)) }

  whole_next : (state next : Brought) (given : ℕ → Value) (row : Row) → IsFlatNext f (flat_state f state) (flat_inputs f given) row (flat_state f next)
      → agreement.IsNext system (system_state f state) (flat_inputs f given) row (system_state f next)
  whole_next state next given row is =
      let many = length-map f.memories (kept_of f.memories) in
      record {
        ticks = is.ticks;
        ticked = is.ticked;
        memories = is.memories ∙ sym many;
        kept = λ m lt.
            is.kept m (omega (arith, many, lt))
            ∙ ap (λ xs. after Value integers (found_at (flat_state f state) (flat_inputs f given)) row (trees.nth_item xs m) m)
            (sym (kept_items f.memories f.memories));
      }

  -- an assertion is met where the whole of it is true
  all_met : (now : declared.State) (given : List Value) (row : Row) → ((q : Sites) → IsFlatBroken f now given row q → ⊥)
      ↔ ((k : ℕ) → k < length system.assertions → is_met Value integers (found_at now given) row (trees.nth_item system.assertions k) ≡ true)
  all_met now given row = (
    λ none k lt.
        let less : k < length f.assertions = omega (arith, lt, length-map f.assertions (assertion_item f.memories)) in
        let told = met_at k less in
        told ∙ true_from_ne_false (is_true (value_at now given row (get_or (assertion_trees f) k no_assertion)))
        (λ wrong. none (get_or (map (λ e. e.at.sites) f.assertions) k []) (k, less, refl, wrong)),
    λ met q w.
        let lt : w.0 < length system.assertions = omega (arith, w.1, length-map f.assertions (assertion_item f.memories)) in
        let bad : true ≡ false = sym (met w.0 lt) ∙ met_at w.0 w.1 ∙ w.3 in
        absurd (grind arith),
  )
    where
      met_at : (k : ℕ) → k < length f.assertions → is_met Value integers (found_at now given) row (trees.nth_item system.assertions k) ≡ is_true
          (value_at now given row (get_or (assertion_trees f) k no_assertion))
      met_at k lt =
          let a = item_at f.assertions k lt in
          ap (is_met Value integers (found_at now given) row) (got f.assertions (assertion_item f.memories) k a.0 trees.no_item a.1)
          ∙ met_by (table_of f.memories) (found_at now given) row (raw_tree a.0) _ _ (asserted_is (raw_tree a.0))
          ∙ ap (λ e. is_true (value_at now given row e)) (sym (got f.assertions (tree_among f.memories) k a.0 no_assertion a.1))

-- The run of the flat system that a run is.
module _ (run_is_instants : RunIsInstants) (states_of_run : StatesOfRun) (typed_memories : TypedMemories)
    (program : ProgramTree) (main : Identifier) (f : Flat) (well : AreWell program) (named : IsNode program main) (flat : IsFlatOf program main f)
    (starts : Sites → Value) (inputs : ℕ → ℕ → Value) (n : ℕ) (h : History) (run : IsRun program main starts inputs n h) where
  abbrev brought : ℕ → Brought
  brought t = (states_of_run.some program main starts h t well named).0

  brought_at : (t : ℕ) → IsStateAt program main starts (cells h) t (brought t)
  brought_at t = (states_of_run.some program main starts h t well named).1

  instant_at : (t : ℕ) → t < n → IsInstant program main (brought t) (inputs t) (get_or h t empty)
  instant_at t lt = (run_is_instants.instant program main starts inputs n h t (brought t) run lt (brought_at t)).0

  next_at : (t : ℕ) → IsNext program main (brought t) (get_or h t empty) (brought (t + 1))
  next_at t = states_of_run.next program main starts h t (brought t) (brought (t + 1)) (brought_at t) (brought_at (t + 1))

  first : IsStart program main starts (brought 0)
  first = (states_of_run.start program main starts h (brought 0)).0 (brought_at 0)

  given_at : (t : ℕ) → t < n → AreGiven program main (inputs t)
  given_at t lt j k e = run.inputs_typed t j k lt e

  typed_at : (t : ℕ) → t ≤ n → AreStarts program main (brought t).kept
  typed_at zero le = λ i d inst w. subst (HasKind program (operand_kind program i.node d.operand)) (sym (first.memories i d inst w))
      (run.starts_typed i d inst w)
  typed_at (suc t) le =
      let lt : t < n = omega arith in
      let one : t + 1 ≡ suc t = omega arith in
      subst (λ u. AreStarts program main (brought u).kept) one
      (typed_memories program main (places f) (brought t) (brought (t + 1)) (inputs t) (get_or h t empty) well named flat.sequence (typed_at t (omega arith))
      (given_at t lt) (instant_at t lt) (next_at t))

  flat_instant : (t : ℕ) → t < n → IsFlatInstant f (flat_state f (brought t)) (flat_inputs f (inputs t)) (row_of (places f) (get_or h t empty))
  flat_instant t lt = flat.instants (brought t) (inputs t) (get_or h t empty) (instant_at t lt)

  flat_next : (t : ℕ) → t < n → IsFlatNext f (flat_state f (brought t)) (flat_inputs f (inputs t)) (row_of (places f) (get_or h t empty))
      (flat_state f (brought (t + 1)))
  flat_next t lt = flat.next (brought t) (brought (t + 1)) (inputs t) (get_or h t empty) (instant_at t lt) (next_at t)

  -- the same as steps
  are_steps : AreStepsOf program main f starts inputs n h (λ t. flat_state f (brought t)) (λ t. row_of (places f) (get_or h t empty))
  are_steps = record {
    well = well;
    named = named;
    flat = flat;
    run = run;
    start = first_flat program main f starts (brought 0) flat first;
    instants = flat_instant;
    nexts = flat_next;
  }

  pub run_of : IsRunOf program main f starts inputs n h (λ t. system_state f (brought t)) (λ t. row_of (places f) (get_or h t empty))
  run_of = record {
    run = record {
      start = are_steps.start.none;
      typed = λ t lt. record {
        memories = memories_typed program main f well named flat (brought t).kept (typed_at t (omega arith));
        given = inputs_typed program main f well named flat (inputs t) (given_at t lt);
      };
      instant = λ t lt. whole_instant program main f well named flat (brought t) (inputs t) (row_of (places f) (get_or h t empty)) (flat_instant t lt);
      next = λ t lt.
          let one : t + 1 ≡ suc t = omega arith in
          subst (λ u. agreement.IsNext (system_of f) (system_state f (brought t)) (flat_inputs f (inputs t)) (row_of (places f) (get_or h t empty))
          (system_state f (brought u))) one
          (whole_next program main f well named flat (brought t) (brought (t + 1)) (inputs t) (row_of (places f) (get_or h t empty)) (flat_next t lt));
    };
    kept_at_first = are_steps.start.kept;
    brought = λ t le. (brought t, brought_at t, refl);
    told = λ t lt. refl;
    assertions = λ t lt.
        let allowed = allowed_of_run run_is_instants states_of_run program main f starts inputs n h (λ u. flat_state f (brought u))
        (λ u. row_of (places f) (get_or h u empty)) are_steps t lt in
        let met = all_met program main f well named flat (flat_state f (brought t)) (flat_inputs f (inputs t)) (row_of (places f) (get_or h t empty)) in
        (λ holds. met.0 (allowed.0 holds), λ are. allowed.1 (met.1 are));
    observer = observer_of_run run_is_instants states_of_run program main f starts inputs n h (λ u. flat_state f (brought u))
        (λ u. row_of (places f) (get_or h u empty)) are_steps;
  }

-- What is inductive over a flat system makes its program safe.
pub inductive_safe : (run_is_instants : RunIsInstants) (states_of_run : StatesOfRun) (typed_memories : TypedMemories) (inductive : InductiveIsSafe)
    (program : ProgramTree) (main : Identifier) (f : Flat) (holds : Valuation → List ℤ → Bool) → AreWell program → IsNode program main → IsFlatOf program main f
    → IsInductive (system_of f) holds → IsSafe program main
inductive_safe run_is_instants states_of_run typed_memories inductive program main f holds well named flat is n t starts inputs h run lt allowed =
    let r = run_of run_is_instants states_of_run typed_memories program main f well named flat starts inputs n h run in
    sym (r.observer t lt)
    ∙ inductive (system_of f) holds n _ (λ u. flat_inputs f (inputs u)) _ t flat.system.well is r.run lt
    (λ u le. (r.assertions u (omega arith)).0 (allowed u le))
