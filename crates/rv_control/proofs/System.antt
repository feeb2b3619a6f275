-- The system of valuations of a flat system is one: its parts go by what they read, and its counts are within their limits.
use Rattle.std.proofs.Common.{◌≡◌, ℕ, suc, ◌+◌, ◌-◌, ◌*◌, ◌^◌, ◌<◌, ◌≤◌, pos, true, false, not, ◌&&◌, cond, List, [], ◌∷◌, length, map, refl, sym, ◌∙◌, ap}
use Rattle.std.proofs.Common.{arith, Option, Some, None as Nothing}
use Rattle.std.proofs.{lemmas.Bool.and_parts, lemmas.List.length-map}
use Rattle.std.specs.Prelude.{slice_index_or, IsTrue}
use Rattle.rv_tree.specs.{Tree.ProgramTree, Places.Identifier, Places.Sites}
use Rattle.rv_types.specs.{declared.typed.Kind.Kind, Lists.Variable, Lists.MainTick, Lists.Kept, Lists.Next, Lists.Input, Lists.Test, Variables.is_integer}
use Rattle.rv_rows.specs.{declared.linear.Row.Row, Arithmetic.constant_form}
use Rattle.rv_agreement.specs.Valuations.{Valuation, reads_at, observed, whole_count, width, Reading}
use Rattle.rv_agreement.specs.{Trees.Kept as KeptMemory, Trees.System, Trees.memory_kinds, Evaluation.is_on, Agreement.updates}
use Rattle.rv_diagram.specs.Nodes.{Valuation as Numbered}
use Rattle.rv_proofs.specs.Systems as systems
use Rattle.rv_proofs.specs.Reached.{HasNoIntegers}
use Rattle.rv_flat.specs.{declared.flat.Flat.Flat, declared.parts.FlatMemory.FlatMemory, Facts.integers, FlatInstants.system_of, FlatOf.IsFlatOf}
use Rattle.rv_flat.specs.{Lists.variable_of, Systems.kept_of}
use Rattle.rv_control.specs.Control.{names_label, memories_named, none_ticked, is_initial, is_allowed, tick_index, row_of, next_truth, control_over, control_of}
use Rattle.rv_control.specs.Control.{order_tests}
use Rattle.rv_control.specs.{Named.same_variable, Named.variables_of, Named.by_names, Named.truth_at, Named.tick_variable, Symbolic.symbolic}
use Rattle.rv_control.proofs.{Listed.IsListed, Names.same_truth, Names.agreed_truth, Order.is_listed, Places.states_are, Places.tests_are, Places.names_are}
use Rattle.rv_control.proofs.{Places.state_at, Places.next_at, Concrete.tick_read, Concrete.kept_read, Abstract.ticks_told}
use Rattle.rv_base.proofs.Truths.{or_true}

-- An initial control state goes by its ticks and by the bits of its memories.
ticked_same : (v w : Valuation) → ((t : Option Sites) → v.ticked t ≡ w.ticked t) → (ts : List (Option Sites)) → none_ticked v ts ≡ none_ticked w ts
unfolding none_ticked
ticked_same v w same [] = refl
ticked_same v w same (t ∷ ts) = λ i. not (same t i) && ticked_same v w same ts i

kept_same : (labels : List ℕ) (v w : Valuation) → ((p : Sites) (b : ℕ) → v.kept p b ≡ w.kept p b) → (ms : List KeptMemory)
    → memories_named labels v ms ≡ memories_named labels w ms
unfolding memories_named
kept_same labels v w same [] = refl
kept_same labels v w same (m ∷ ms) = λ i. names_label labels m.kind (λ b. same m.place b i) && kept_same labels v w same ms i

first_truth : (xs : List Variable) (v : Numbered) (x : Variable) → slice_index_or xs 0 Next ≡ x → 0 < length xs → same_variable x x ≡ true
    → truth_at xs v x ≡ v 0
unfolding truth_at
first_truth [] v x is some same = absurd (omega arith)
first_truth (y ∷ ys) v x is some same = λ i. cond ((ap (λ z. same_variable z x) is ∙ same) i) (v 0) (truth_at ys (λ k. v (suc k)) x)

module _ (s : System) (names : List Variable) (listed : IsListed s names) where
  abbrev control : systems.System
  control = control_over s names

  named_same : (v u : Numbered) → systems.IsSameValuation control v u → by_names names v ≡ by_names names u
  named_same v u is =
      let same : (x : Variable) → truth_at names v x ≡ truth_at names u x =
      λ x. same_truth names v u x (λ k lt not. is k (
        lt,
        λ i less e. not
            (ap (λ j. slice_index_or names j Next) e ∙ next_at s names listed i (omega (arith, less, states_are s names listed))),
      )) in
      λ i. record {
        ticked = λ t. same (tick_variable t) i;
        kept = λ p b. same (Kept p b) i;
        input = λ j b. same (Input j b) i;
        test = λ p side. same
            (Test p side) i;
      }

  pub initial_same : (v u : Numbered) → systems.HasSameState control v u → control.initial v ≡ control.initial u
  unfolding is_initial
  initial_same v u is =
      let agree : (i : ℕ) → i < length listed.bits → v (2 * i) ≡ u (2 * i) = λ i lt. is (2 * i) (i, omega (arith, lt, states_are s names listed), refl) in
      let ticks = ticked_same (by_names names v) (by_names names u)
      (λ t. tick_read s names listed v t ∙ agreed_truth listed.bits (λ i. v (2 * i)) (λ i. u (2 * i)) (tick_variable t) agree
      ∙ sym (tick_read s names listed u t)) s.ticks in
      let kept = kept_same s.labels (by_names names v) (by_names names u)
      (λ p b. kept_read s names listed v p b ∙ agreed_truth listed.bits (λ i. v (2 * i)) (λ i. u (2 * i)) (Kept p b) agree
      ∙ sym (kept_read s names listed u p b)) s.memories in
      λ i. ticks i && kept i

  -- variable 0 is the main tick
  pub first_tick : (v : Numbered) → (by_names names v).ticked Nothing ≡ v 0
  first_tick v = tick_read s names listed v Nothing ∙ first_truth listed.bits (λ i. v (2 * i)) MainTick listed.first listed.some refl

  pub first_name : slice_index_or names 0 Next ≡ MainTick
  first_name = state_at s names listed 0 listed.some ∙ listed.first

-- how many integers there are
pub count_same : (ks : List Kind) → whole_count ks ≡ integers ks
count_same [] = refl
count_same (k ∷ ks) = λ i. cond (is_integer k) 1 0 + count_same ks i

kept_kinds : (all ms : List FlatMemory) → map (λ (x : KeptMemory). x.kind) (map (kept_of all) ms) ≡ map (λ m. m.kind) ms
kept_kinds all [] = refl
kept_kinds all (m ∷ ms) = ap (λ l. m.kind ∷ l) (kept_kinds all ms)

module _ (program : ProgramTree) (main : Identifier) (f : Flat) (flat : IsFlatOf program main f) where
  abbrev s : System
  s = system_of f

  abbrev names : List Variable
  names = variables_of f

  listed : IsListed s names
  listed = is_listed program main f flat

  abbrev mine : systems.System
  mine = control_of f

  memory_count : whole_count (memory_kinds s) ≤ 64
  memory_count = let h = f.few_memories in let e = ap whole_count (kept_kinds f.memories f.memories)
      ∙ count_same (map (λ m. m.kind) f.memories) in omega (arith, h, e)

  input_count : whole_count s.inputs ≤ 64
  input_count = let h = f.few_inputs in let e = count_same (map (λ i. i.kind) f.inputs) in omega (arith, h, e)

  variable_count : length names ≤ 4096
  variable_count = let h = f.few_variables in let e = length-map f.variables variable_of in omega (arith, h, e)

  limits : systems.HasLimits mine
  limits =
      let a = states_are s names listed in
      let b = tests_are s names listed in
      let c = names_are s names listed in
      let d = variable_count in
      let small : length listed.order + 128 < 2 ^ 32 = omega (arith, c, d) in
      record {
        variables = variable_count;
        memories = memory_count;
        columns = omega (arith, memory_count, input_count);
        tests = omega (arith, b, small);
      }

  unticked : (v : Numbered) → IsTrue (mine.initial v) → v 0 ≡ false
  unfolding is_initial
  unticked v e =
      let w = by_names names v in
      let none = (and_parts (none_ticked w s.ticks) (memories_named s.labels w s.memories) e).0 in
      sym (first_tick s names listed v) ∙ ticks_told w s.ticks none 0 (omega arith)

  ticked : (v : Numbered) → mine.next v 0 ≡ true
  unfolding tick_index
  ticked v =
      let w = by_names names v in
      ap (next_truth s w (symbolic s w)) (first_name s names listed) ∙ or_true (w.ticked Nothing)

  -- It is a system, where its rows and updates are within the limits.
  pub is_system : ((v : Numbered) (t : ℕ) (r : Row) → t < mine.tests → mine.row v t ≡ Some r → systems.IsTestRow mine r)
      → ((v : Numbered) (k : ℕ) → k < mine.memories → systems.IsUpdate mine (mine.update v k)) → systems.IsSystem mine
  is_system tight small =
      let a = states_are s names listed in
      let c = names_are s names listed in
      record {
        bits = omega (arith, a, c);
        few_memories = omega arith;
        limits = limits;
        initial = initial_same s names listed;
        unticked = unticked;
        ticks = ticked;
        allowed = λ v u is. ap (λ w. is_allowed s w (symbolic s w)) (named_same s names listed v u is);
        row = λ v u t is. ap (λ w. row_of s w (symbolic s w) (slice_index_or names (length names - order_tests names + t) Next))
            (named_same s names listed v u is);
        update = λ v u k is. ap (λ w. slice_index_or (updates s w (symbolic s w)) k (constant_form (width s) (pos 0))) (named_same s names listed v u is);
        observer = λ v u is. ap (λ w. is_on Reading (reads_at s w) (observed s w (symbolic s w))) (named_same s names listed v u is);
        next = λ v u is x state. ap (λ w. next_truth s w (symbolic s w) (slice_index_or names x Next)) (named_same s names listed v u is);
        rows = tight;
        updates = small;
      }

  pub control_system : HasNoIntegers mine → systems.IsSystem mine
  control_system none = is_system (λ v t r lt e. absurd (let h = none.tests in omega (arith, h, lt)))
      (λ v k lt. absurd (let h = none.memories in omega (arith, h, lt)))
