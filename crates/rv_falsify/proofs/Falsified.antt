-- The trace that the words of a falsifying path spell falsifies, and a run that falsifies is a falsifying run of the system.
use Rattle.std.proofs.Common.{◌≡◌, ℕ, ◌+◌, ◌<◌, ◌^◌, ℤ, pos, Bool, true, false, List, [], map, length, get_or, sym, ◌∙◌, ap, subst, arith, Some, slice_get}
use Rattle.std.proofs.{lemmas.Int.ints, lemmas.List.get_or-map, lemmas.List.length-map, lemmas.Option.slice_get_within, lemmas.Bool.false_from_ne_true}
use Rattle.std.specs.Prelude.{IsTrue}
use Rattle.rv_base.specs.{declared.value.Trace.Trace, declared.value.Value.Value, declared.value.Value.TheVariants.Flag}
use Rattle.rv_tree.specs.{Tree.ProgramTree, Places.Identifier, Places.Sites}
use Rattle.rv_types.specs.{declared.typed.Kind.Kind, Instances.node_of, Instances.IsNode, Kinds.decl_kinds, Lists.MemoryAt, Lists.memory_at, Values.HasKind}
use Rattle.rv_types.specs.{WellFormed.AreWell}
use Rattle.rv_types.specs.declared.typed.Kind.TheVariants as kind
use Rattle.rv_meaning.specs.Runs.{History, Falsifies, IsRun, observed}
use Rattle.rv_agreement.specs.{Trees.kind_at, Valuations.whole_count}
use Rattle.rv_diagram.specs.Nodes.{Valuation, valuation_of}
use Rattle.rv_proofs.specs.Runs.{IsAbstractRun}
use Rattle.rv_open.specs.Columns.{HasNoColumns}
use Rattle.rv_flat.specs.{declared.flat.Flat.Flat, declared.parts.FlatMemory.FlatMemory, FlatInstants.memory_places, FlatOf.first_values, FlatOf.flat_inputs}
use Rattle.rv_flat.specs.{FlatOf.IsFlatOf, Steps.label_counts, Steps.memory_kinds, Steps.input_kinds, Steps.IsInRange, Systems.memory_of}
use Rattle.rv_flat.proofs.Typing.{memory_kth, value_kth}
use Rattle.rv_walk.specs.{Falsified.IsFalsifyingRun, Paths.at_instant, Paths.no_integers, Paths.IsFalsifyingPath, Paths.IsShortestPath}
use Rattle.rv_control.specs.Spelled.{decoded, spelled_starts, spelled_inputs, value_at, HasSpelledRun}
use Rattle.rv_control.specs.{Control.control_of, Meets.IsAbstractOf, Named.named}
use Rattle.rv_control.proofs.Decoded.{decoded_at, length-decoded}
use Rattle.rv_replay.specs.{Observers.IsObserved, Traces.Fixes, Traces.IsTrace, Traces.given, Traces.kinds_of}
use Rattle.rv_replay.proofs.FlatTraces.{starts_same, kinds_same}
use Rattle.rv_falsify.specs.Falsifying.{IsFalsifying, IsNeverFalsified, IsShortest}
use Rattle.rv_falsify.proofs.{Spelling.drop_none, Running.Laws, Running.observed_truth, Running.stays_within}

-- What is taken from the control of flat systems.
abbrev pub RunsAreAbstract : Type 0
RunsAreAbstract = (program : ProgramTree) (main : Identifier) (f : Flat) (starts : Sites → Value) (inputs : ℕ → ℕ → Value) (n : ℕ) (h : History)
    → AreWell program → IsNode program main → IsFlatOf program main f → IsRun program main starts inputs n h
    → (vs : ℕ → Valuation) × (points : ℕ → List ℤ) × IsAbstractOf program main f starts n h vs points

-- The run that an abstract run is has the start values and inputs that it spells.
abbrev pub SpelledRuns : Type 0
SpelledRuns = (program : ProgramTree) (main : Identifier) (f : Flat) (n : ℕ) (vs : ℕ → Valuation) (points : ℕ → List ℤ)
    → AreWell program → IsNode program main → IsFlatOf program main f → IsAbstractRun (control_of f) n vs points → 0 < n
    → ((t : ℕ) → t < n → IsTrue ((control_of f).allowed (vs t)))
    → HasSpelledRun program main f n vs points

-- what is spelled is within the range, where all numbers are 0
spelled_within : (labels : List ℕ) (k : Kind) (bits : ℕ → Bool) → IsInRange (value_at labels k bits (pos 0))
spelled_within labels kind.Int bits = (omega (arith, ints), omega (arith, ints))
spelled_within labels _ bits = tt

all_within : (labels : List ℕ) (ks : List Kind) (bits : ℕ → ℕ → Bool) (k : ℕ) → k < length (decoded labels ks bits [])
    → IsInRange (get_or (decoded labels ks bits []) k (Flag false))
all_within labels ks bits k lt =
    let long = length-decoded labels ks bits [] in
    subst IsInRange (sym (decoded_at labels ks bits [] k (omega (arith, long, lt)))) (spelled_within labels (kind_at ks k) (bits k))

module _ (laws : Laws) (program : ProgramTree) (main : Identifier) (f : Flat) (of : IsObserved program main f) where
  -- A run that falsifies is a falsifying run of the system.
  pub falsifying_run : RunsAreAbstract → (starts : Sites → Value) (inputs : ℕ → ℕ → Value) (n : ℕ) → Falsifies program main starts inputs n
      → (vs : ℕ → Valuation) × (points : ℕ → List ℤ) × IsFalsifyingRun (control_of f) n vs points
  falsifying_run abstract starts inputs n (h, run, allowed, last, before) =
      let a = abstract program main f starts inputs (n + 1) h of.well of.named of.flat run in (
        a.0,
        a.1,
        record {
          run = a.2.run;
          allowed = λ u lt. (a.2.assertions u lt).0 (allowed u (omega (arith, lt)));
          fails = false_from_ne_true ((control_of f).observer (a.0 n)) (λ is.
              let here : observed program main h n ≡ Some (Flag true) = (a.2.observer n (omega arith)).1 is in
              let bad : Some (Flag true) ≡ Some (Flag false) = sym here ∙ last in
              (cc));
        },
      )

  module _ (without : HasNoColumns (control_of f)) (words : List (List Bool)) (path : IsFalsifyingPath (control_of f) words)
      (spelled : HasSpelledRun program main f (path.last + 1) (at_instant words) no_integers) where
    pub last_false : observed program main spelled.history path.last ≡ Some (Flag false)
    last_false =
        let found = observed_truth laws program main f of spelled.starts spelled.inputs (path.last + 1) spelled.history spelled.run path.last (omega arith) in
        by found.0 found.1
      where
        by : (b : Bool) → observed program main spelled.history path.last ≡ Some (Flag b) → observed program main spelled.history path.last ≡ Some (Flag false)
        by true e =
            let is : (control_of f).observer (at_instant words path.last) ≡ true = (spelled.meets.observer path.last (omega arith)).0 e in
            let bad : true ≡ false = sym is ∙ path.run.fails in absurd (cc)
        by false e = e

    -- The run that the words spell falsifies.
    abbrev pub falsifies : Falsifies program main spelled.starts spelled.inputs path.last
    falsifies = (
      spelled.history,
      spelled.run,
      λ s le. (spelled.meets.assertions s (omega (arith, le))).1 (path.run.allowed s (omega (arith, le))),
      last_false,
      λ s lt. (spelled.meets.observer s (omega (arith, lt))).1 (path.before s lt),
    )

    module _ (t : Trace) (starts_are : t.starts ≡ spelled_starts f (valuation_of (get_or words 0 [])) [])
        (instants_are : t.instants ≡ map (λ word. spelled_inputs f (valuation_of word) []) words) (few : length t.instants < 2 ^ 32) where
      instants_long : length t.instants ≡ path.last + 1
      instants_long = ap length instants_are ∙ length-map words (λ word. spelled_inputs f (valuation_of word) []) ∙ path.count

      started : map spelled.starts (memory_places f) ≡ t.starts
      started = spelled.started ∙ sym starts_are

      spelled_given : (k : ℕ) → k < path.last + 1 → given t k ≡ spelled_inputs f (at_instant words k) []
      spelled_given k lt =
          ap (λ l. get_or l k []) instants_are
          ∙ get_or-map (λ word. spelled_inputs f (valuation_of word) []) words k [] [] (let long = path.count in omega (arith, long, lt))

      fed : (k : ℕ) → k < path.last + 1 → flat_inputs f (spelled.inputs k) ≡ given t k
      fed k lt = spelled.fed k lt ∙ sym (spelled_given k lt)

      inputs_long : length f.inputs ≡ length (node_of program main).inputs
      inputs_long = sym (length-map f.inputs (λ i. i.name)) ∙ ap length of.flat.inputs ∙ length-map (node_of program main).inputs (λ d. d.name.text)

      starts_typed : (k : ℕ) (j : Kind) → slice_get (kinds_of (map memory_of f.memories)) k ≡ Some j → HasKind program j (get_or t.starts k (Flag false))
      starts_typed k j e =
          let is : slice_get (memory_kinds f) k ≡ Some j = ap (λ ks. slice_get ks k) (sym (kinds_same f.memories)) ∙ e in
          let long = length-map f.memories (λ (m : FlatMemory). m.place.sites) in
          let kinds = length-map f.memories (λ (m : FlatMemory). m.kind) in
          let lt : k < length (memory_places f) = let within = slice_get_within (memory_kinds f) k j is in omega (arith, within, long, kinds) in
          let found = of.flat.memories.only (record { place = get_or (memory_places f) k []; kind = j }) (memory_kth f.memories k j is) in
          let at : MemoryAt = memory_at program found.0 found.1 in
          let place : get_or (memory_places f) k [] ≡ at.place = ap (λ (a : MemoryAt). a.place) found.5 in
          let kind_is : j ≡ at.kind = ap (λ (a : MemoryAt). a.kind) found.5 in
          let value : get_or t.starts k (Flag false) ≡ spelled.starts at.place =
          ap (λ vs. get_or vs k (Flag false)) (sym started) ∙ get_or-map spelled.starts (memory_places f) k [] (Flag false) lt ∙ ap spelled.starts place in
          subst (λ (x : Kind). HasKind program x (get_or t.starts k (Flag false))) (sym kind_is)
          (subst (HasKind program at.kind) (sym value) (spelled.run.starts_typed found.0 found.1 found.2 found.4))

      starts_within : (k : ℕ) → k < length t.starts → IsInRange (get_or t.starts k (Flag false))
      starts_within = subst (λ vs. (k : ℕ) → k < length vs → IsInRange (get_or vs k (Flag false))) (sym starts_are)
          (all_within (label_counts f) (memory_kinds f) (λ m. (named f (valuation_of (get_or words 0 []))).kept (get_or (memory_places f) m [])))

      starts_size : length t.starts ≡ length (kinds_of (map memory_of f.memories))
      starts_size =
          ap length starts_are
          ∙ length-decoded (label_counts f) (memory_kinds f) (λ m. (named f (valuation_of (get_or words 0 []))).kept (get_or (memory_places f) m [])) []
          ∙ ap length (sym (kinds_same f.memories))

      given_typed : (k : ℕ) → k < path.last + 1 → (j : ℕ) (x : Kind) → slice_get (decl_kinds program (node_of program main).inputs) j ≡ Some x
          → HasKind program x (get_or (given t k) j (Flag false))
      given_typed k lt j x e =
          let is : slice_get (input_kinds f) j ≡ Some x = ap (λ ks. slice_get ks j) of.flat.input_kinds ∙ e in
          let kinds = length-map f.inputs (λ i. i.kind) in
          let less : j < length f.inputs = let within = slice_get_within (input_kinds f) j x is in omega (arith, within, kinds) in
          subst (HasKind program x) (sym (value_kth (spelled.inputs k) (length f.inputs) j less) ∙ ap (λ vs. get_or vs j (Flag false)) (fed k lt))
          (spelled.run.inputs_typed k j x lt e)

      -- what the inputs are, value by value
      given_is : (k : ℕ) → k < path.last + 1 → given t k ≡ decoded (label_counts f) (input_kinds f) (named f (at_instant words k)).input []
      given_is k lt =
          spelled_given k lt ∙ ap (decoded (label_counts f) (input_kinds f) (named f (at_instant words k)).input) (drop_none (whole_count (memory_kinds f)))

      given_within : (k : ℕ) → k < path.last + 1 → (j : ℕ) → j < length (given t k) → IsInRange (get_or (given t k) j (Flag false))
      given_within k lt = subst (λ vs. (j : ℕ) → j < length vs → IsInRange (get_or vs j (Flag false))) (sym (given_is k lt))
          (all_within (label_counts f) (input_kinds f) (named f (at_instant words k)).input)

      given_size : (k : ℕ) → k < path.last + 1 → length (given t k) ≡ length (decl_kinds program (node_of program main).inputs)
      given_size k lt =
          ap length (given_is k lt) ∙ length-decoded (label_counts f) (input_kinds f) (named f (at_instant words k)).input [] ∙ ap length of.flat.input_kinds

      trace : IsTrace program main t
      trace = record {
        memories = map memory_of f.memories;
        listed = of.flat.memories;
        starts = record { size = starts_size; typed = starts_typed; within = starts_within };
        instants = λ k lt.
            let less : k < path.last + 1 = let long = instants_long in omega (arith, long, lt) in
            record { size = given_size k less; typed = given_typed k less; within = given_within k less };
        count = few;
      }

      fixed : Fixes program main t (path.last + 1) spelled.starts spelled.inputs
      fixed = record {
        memories = map memory_of f.memories;
        listed = of.flat.memories;
        started = starts_same spelled.starts f.memories ∙ started;
        count = let long = instants_long in omega (arith, long);
        fed = λ k lt. ap (first_values (spelled.inputs k)) (sym inputs_long) ∙ fed k lt;
      }

      -- The trace falsifies.
      pub is_falsifying : IsFalsifying program main t
      is_falsifying = record {
        trace = trace;
        last = path.last;
        count = instants_long;
        falsified = record {
          starts = spelled.starts;
          inputs = spelled.inputs;
          fixed = fixed;
          falsifies = falsifies;
          within = λ s le. stays_within laws program main f of spelled.starts spelled.inputs (path.last + 1) spelled.history spelled.run without s
              (omega (arith, le));
        };
      }

  -- No run that falsifies is shorter than a shortest path.
  pub shortest : RunsAreAbstract → (words : List (List Bool)) (t : Trace) → IsShortestPath (control_of f) words → length t.instants ≡ length words
      → IsShortest program main t
  shortest abstract words t short many starts inputs n is =
      let r = falsifying_run abstract starts inputs n is in
      let le = short n r.0 r.1 r.2 in
      omega (arith, le, many)

  -- The words of a falsifying path: their trace falsifies, so some run does.
  module _ (runs : SpelledRuns) (without : HasNoColumns (control_of f)) (words : List (List Bool)) (path : IsFalsifyingPath (control_of f) words) where
    abbrev its_run : HasSpelledRun program main f (path.last + 1) (at_instant words) no_integers
    its_run = runs program main f (path.last + 1) (at_instant words) no_integers of.well of.named of.flat path.run.run (omega arith) path.run.allowed

    pub words_falsify : (t : Trace) → t.starts ≡ spelled_starts f (valuation_of (get_or words 0 [])) []
        → t.instants ≡ map (λ word. spelled_inputs f (valuation_of word) []) words → length t.instants < 2 ^ 32 → IsFalsifying program main t
    words_falsify t starts_are instants_are few = is_falsifying without words path its_run t starts_are instants_are few

    pub some_falsifies : IsNeverFalsified program main → ⊥
    some_falsifies never = never its_run.starts its_run.inputs path.last (falsifies without words path its_run)
