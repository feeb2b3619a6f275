-- An abstract run of which each valuation is allowed is a run of the program, and a safe program makes its system safe.
use Rattle.std.proofs.Common.{◌≡◌, inl, inr, ℕ, zero, suc, ◌+◌, ◌<◌, ◌≤◌, ℤ, false, ◌||◌, List, [], ◌∷◌, map, drop, length, refl, sym, ◌∙◌, ap, arith, Option}
use Rattle.std.proofs.Common.{None as Nothing}
use Rattle.std.proofs.{lemmas.Bool.cases_lt, lemmas.List.length-map, lemmas.List.get_or_past}
use Rattle.std.specs.Prelude.{slice_index_or, IsTrue}
use Rattle.rv_base.specs.{declared.value.Value.Value, declared.value.Value.TheVariants.Flag}
use Rattle.rv_tree.specs.{Tree.ProgramTree, Places.Identifier, Places.Sites}
use Rattle.rv_types.specs.{Instances.IsNode, Lists.Variable, WellFormed.AreWell}
use Rattle.rv_meaning.specs.Runs.{History, IsRun, IsSafe}
use Rattle.rv_agreement.specs.{Trees.System, Trees.memory_items, Trees.nth_item, Evaluation.is_met, Evaluation.is_there, Evaluation.after, Evaluation.integers}
use Rattle.rv_agreement.specs.{Agreement.State, Agreement.found_in, Agreement.IsWholeInstant, FlatRuns.IsFlatRun, FlatRuns.AreMetIn, Valuations.whole_count}
use Rattle.rv_agreement.specs.Trees as trees
use Rattle.rv_diagram.specs.Nodes.{Valuation as Numbered}
use Rattle.rv_proofs.specs.Runs.{IsAbstractRun, IsSafeSystem}
use Rattle.rv_flat.specs.FlatInstants.{Row, memory_places, system_of, IsFlatInstant}
use Rattle.rv_flat.specs.{declared.flat.Flat.Flat, declared.parts.FlatMemory.FlatMemory, declared.state.State.State as StateModel, FlatOf.IsFlatOf}
use Rattle.rv_flat.specs.{FlatOf.flat_inputs, SystemRuns.HasRun, Steps.memory_kinds, Systems.flow_item, Systems.kept_of}
use Rattle.rv_flat.proofs.SystemRuns.{kept_kinds}
use Rattle.rv_control.specs.Spelled.{decoded, spelled_starts, spelled_inputs}
use Rattle.rv_control.specs.{Named.variables_of, Named.named as by_name, Control.control_of, Meets.IsAbstractOf}
use Rattle.rv_control.proofs.Concrete.{More, states, inputs, rows, is_flat_run, observer_same, are_met, starts_are, inputs_are}
use Rattle.rv_control.proofs.{Program.RunsAreFlat, Order.is_listed}

-- Each run of the flat system that has an instant is one of the program, and each state has an instant.
abbrev pub FlatIsRun : Type 0
FlatIsRun = (program : ProgramTree) (main : Identifier) (f : Flat) (n : ℕ) (nows : ℕ → State) (given : ℕ → List Value) (cells : ℕ → Row)
    → AreWell program → IsNode program main → IsFlatOf program main f → IsFlatRun (system_of f) n nows given cells → 0 < n
    → HasRun program main f n nows given cells

abbrev pub OneInstant : Type 0
OneInstant = (f : Flat) (now : StateModel) (given : List Value)
    → (row : Row) × IsFlatInstant f now given row × ((other : Row) → IsFlatInstant f now given other → other ≡ row)

-- the places of the memories of a flat system are those of its system
kept_places : (all ms : List FlatMemory) → map (λ (x : trees.Kept). x.place) (map (kept_of all) ms) ≡ map (λ m. m.place.sites) ms
kept_places all [] = refl
kept_places all (m ∷ ms) = ap (λ l. m.place.sites ∷ l) (kept_places all ms)

-- Two runs from the same memories with the same inputs and rows have the same states.
module _ (s : System) (n : ℕ) (nows others : ℕ → State) (mine yours : ℕ → List Value) (here there : ℕ → List (Option Value))
    (run : IsFlatRun s n nows mine here) (other : IsFlatRun s n others yours there) (first : (nows 0).kept ≡ (others 0).kept)
    (taken : (t : ℕ) → t < n → mine t ≡ yours t) (told : (t : ℕ) → t < n → here t ≡ there t) where
  record IsSame (t : ℕ) : Type 0 where
    pub ticked : (k : ℕ) → slice_index_or (nows t).ticked k false ≡ slice_index_or (others t).ticked k false
    pub kept : (m : ℕ) → slice_index_or (nows t).kept m (Flag false) ≡ slice_index_or (others t).kept m (Flag false)

  found_same : (t : ℕ) → t < n → IsSame t → found_in (nows t) (mine t) ≡ found_in (others t) (yours t)
  found_same t lt same = λ i. record { ticked = λ k. same.ticked k i; kept = λ m. same.kept m i; given = λ j. slice_index_or (taken t lt i) j (Flag false) }

  same_at : (t : ℕ) → t ≤ n → IsSame t
  same_at zero le = record { ticked = λ k. run.start k ∙ sym (other.start k); kept = λ m. ap (λ l. slice_index_or l m (Flag false)) first }
  same_at (suc t) le =
      let lt : t < n = omega arith in
      let same = same_at t (omega arith) in
      let a = run.next t lt in
      let b = other.next t lt in
      record {
        ticked = λ k. elim (cases_lt k (length s.tick_clocks)) [
          | inl less ↦ a.ticked k less ∙ (λ i. same.ticked k i || is_there Value integers (told t lt i) (slice_index_or s.tick_clocks k Nothing))
              ∙ sym (b.ticked k less)
          | inr past ↦ get_or_past (nows (suc t)).ticked k false (omega (arith, a.ticks, past))
              ∙ sym (get_or_past (others (suc t)).ticked k false (omega (arith, b.ticks, past)))
        ];
        kept = λ m. elim (cases_lt m (length s.memories)) [
          | inl less ↦ a.kept m less ∙ (λ i. after Value integers (found_same t lt same i) (told t lt i) (nth_item (memory_items s) m) m) ∙ sym (b.kept m less)
          | inr past ↦ get_or_past (nows (suc t)).kept m (Flag false) (omega (arith, a.memories, past))
              ∙ sym (get_or_past (others (suc t)).kept m (Flag false) (omega (arith, b.memories, past)))
        ];
      }

  met_same : (t : ℕ) → t < n → AreMetIn s (nows t) (mine t) (here t) → AreMetIn s (others t) (yours t) (there t)
  met_same t lt met k less = sym (λ i. is_met Value integers (found_same t lt (same_at t (omega arith)) i) (told t lt i) (nth_item s.assertions k)) ∙ met k less

module _ (laws : More) (flat_runs : RunsAreFlat) (flat_is_run : FlatIsRun) (one_instant : OneInstant)
    (program : ProgramTree) (main : Identifier) (f : Flat) (well : AreWell program) (named : IsNode program main) (flat : IsFlatOf program main f) where
  abbrev s : System
  s = system_of f

  abbrev names : List Variable
  names = variables_of f

  some_row : (now : State) (given : List Value) → (row : List (Option Value)) × IsWholeInstant s now given row
  some_row now given =
      let a = one_instant f (record { ticked = now.ticked; kept = now.kept }) given in
      let many = length-map f.flows (flow_item f.memories) in
      (a.0, record { flows = a.1.flows ∙ sym many; holds = λ k lt. a.1.holds k (omega (arith, many, lt)) })

  -- The run of the program.
  pub record IsConcrete (n : ℕ) (vs : ℕ → Numbered) (points : ℕ → List ℤ) : Type 0 where
    pub starts : Sites → Value
    pub given : ℕ → ℕ → Value
    pub history : History
    pub run : IsRun program main starts given n history
    pub meets : IsAbstractOf program main f starts n history vs points
    pub started : map starts (memory_places f) ≡ spelled_starts f (vs 0) (points 0)
    pub fed : (t : ℕ) → t < n → flat_inputs f (given t) ≡ spelled_inputs f (vs t) (points t)

  kinds_same : trees.memory_kinds s ≡ memory_kinds f
  kinds_same = kept_kinds f.memories f.memories

  places_same : trees.memory_places s ≡ memory_places f
  places_same = kept_places f.memories f.memories

  pub concrete : (n : ℕ) (vs : ℕ → Numbered) (points : ℕ → List ℤ) → IsAbstractRun (control_of f) n vs points → 0 < n
      → ((t : ℕ) → t < n → IsTrue ((control_of f).allowed (vs t))) → IsConcrete n vs points
  concrete n vs points run some allowed =
      let listed = is_listed program main f flat in
      let nows = states laws s names flat.system.well listed some_row n vs points run allowed in
      let mine = inputs laws s names flat.system.well listed some_row n vs points run allowed in
      let here = rows laws s names flat.system.well listed some_row n vs points run allowed in
      let flat_run = is_flat_run laws s names flat.system.well listed some_row n vs points run allowed some in
      let has = flat_is_run program main f n nows mine here well named flat flat_run some in
      let of = flat_runs program main f has.start_values has.given n has.history well named flat has.run in
      let told : (t : ℕ) → t < n → here t ≡ of.1 t = λ t lt. has.told t lt ∙ sym (of.2.told t lt) in
      record {
        starts = has.start_values;
        given = has.given;
        history = has.history;
        run = has.run;
        started = sym has.kept_at_first ∙ starts_are laws s names flat.system.well listed some_row n vs points run allowed
            ∙ (λ i. decoded s.labels (kinds_same i) (λ m. (by_name f (vs 0)).kept (slice_index_or (places_same i) m [])) (points 0));
        fed = λ t lt.
            sym (has.taken t lt) ∙ inputs_are laws s names flat.system.well listed some_row n vs points run allowed t
            ∙ (λ i. decoded s.labels s.inputs (by_name f (vs t)).input (drop (whole_count (kinds_same i)) (points t)));
        meets = record {
          run = run;
          observer = λ t lt.
              let is = observer_same laws s names flat.system.well listed some_row n vs points run allowed t lt in
              let same = ap (λ (r : Row). slice_index_or r f.observer Nothing) (told t lt) ∙ of.2.observer t lt in
              (λ e. is.0 (same ∙ e), λ e. sym same ∙ is.1 e);
          assertions = λ t lt. (
            λ holds. allowed t lt,
            λ e. (of.2.assertions t lt).1 (met_same s n nows of.0 mine (λ u. flat_inputs f (has.given u)) here of.1 flat_run of.2.run
                (has.kept_at_first ∙ sym of.2.kept_at_first) has.taken told t lt
                (are_met laws s names flat.system.well listed some_row n vs points run allowed t lt)),
          );
        };
      }

  pub safe_back : IsSafe program main → IsSafeSystem (control_of f)
  safe_back safe n t vs points run lt allowed =
      let short : IsAbstractRun (control_of f) (t + 1) vs points = record {
        start = run.start;
        agrees = λ u less. run.agrees u (omega arith);
        control = λ u less. run.control u (omega arith);
        memories = λ u k less within. run.memories u k (omega arith) within;
      } in
      let is = concrete (t + 1) vs points short (omega arith) (λ u less. allowed u less) in
      (is.meets.observer t (omega arith)).0 (safe (t + 1) t is.starts is.given is.history is.run (omega arith)
      (λ u le. (is.meets.assertions u (omega arith)).1 (allowed u (omega arith))))
