-- The diagram variables of the flat system of a program stand in their order, and all that the system names is among them.
use Rattle.std.proofs.Common.{◌≡◌, ◌⊎◌, inl, inr, ℕ, zero, suc, ◌+◌, ◌<◌, List, [], ◌∷◌, ◌++◌, length, map, refl, sym, ◌∙◌, ap, subst, arith, Option, Some}
use Rattle.std.proofs.Common.{None as Nothing}
use Rattle.std.proofs.Math.Nat.{eq-or-lt_of_le}
use Rattle.std.proofs.lemmas.List.Elements.{Contains-append_left, Contains-append_right, Contains-append_cases, Contains-push, Contains-push_cases}
use Rattle.std.specs.{Prelude.slice_index_or, List.Contains}
use Rattle.rv_tree.specs.{declared.tree.TypeDecl.TypeDecl, Tree.ProgramTree, Places.Identifier, Places.Sites}
use Rattle.rv_types.specs.Lists.{Side, sides_of, Variable, MainTick, Tick, Kept, Input, Test, MemoryAt, ComparisonAt, AreVariables, bits, memory_variables}
use Rattle.rv_types.specs.Lists.{input_variables, test_variables}
use Rattle.rv_types.specs.{declared.typed.Kind.Kind, Kinds.decl_kinds, Instances.node_of, Values.label_count, Values.labels_at, Variables.bits_for}
use Rattle.rv_types.specs.{Variables.kind_bits}
use Rattle.rv_types.specs.declared.typed.Kind.TheVariants as kind
use Rattle.rv_agreement.specs.Trees.{Kept as KeptMemory, System, memory_kinds, memory_places, kind_at}
use Rattle.rv_agreement.specs.{Agreement.bit_count, Valuations.Comparison, Valuations.all_comparisons}
use Rattle.rv_flat.specs.{declared.flat.Flat.Flat, FlatInstants.system_of, FlatOf.IsFlatOf, Lists.tick_places}
use Rattle.rv_control.specs.Named.{variables_of, tick_variable}
use Rattle.rv_control.proofs.Listed.{IsStateBit, a_tick, a_bit, IsInputBit, a_bit_of, IsTestBit, a_test, IsListed}
use Rattle.rv_control.proofs.Compared.{comparison_stands}
use Rattle.rv_agreement.proofs.Systems.{from_map}
use Rattle.rv_types.proofs.Members.{at_head, cons_cases, in_flat_map, in_map, in_tail, nothing_in, of_flat_map}

-- so many bits
bit_in : (make : ℕ → Variable) (n b : ℕ) → b < n → Contains (bits make n) (make b)
bit_in make zero b lt = absurd (omega arith)
bit_in make (suc n) b lt = elim (eq-or-lt_of_le {n = b} {m = n} (omega arith)) [
  | inl same ↦ subst (λ k. Contains (bits make (suc n)) (make k)) (sym same) (Contains-push (bits make n) (make n))
  | inr below ↦ Contains-append_left (bits make n) (make n ∷ []) (make b) (bit_in make n b below)
]

pub bit_from : (make : ℕ → Variable) (n : ℕ) (x : Variable) → Contains (bits make n) x → (b : ℕ) × (b < n) × (x ≡ make b)
bit_from make zero x w = nothing_in x w
bit_from make (suc n) x w = elim (Contains-push_cases (bits make n) (make n) x w) [
  | inl u ↦ let r = bit_from make n x u in (r.0, omega (arith, r.1), r.2)
  | inr is ↦ (n, omega arith, sym is)
]

pub labels_same : (ds : List TypeDecl) (i : ℕ) → slice_index_or (map (λ d. label_count d) ds) i 0 ≡ labels_at ds i
labels_same [] i = refl
labels_same (d ∷ ds) zero = refl
labels_same (d ∷ ds) (suc i) = labels_same ds i

-- a memory by its number
pub memory_in : (ms : List KeptMemory) (m : ℕ) → m < length ms
    → Contains (map (λ (x : KeptMemory). let a : MemoryAt = record { place = x.place; kind = x.kind } in a) ms)
    (record { place = slice_index_or (map (λ x. x.place) ms) m []; kind = kind_at (map (λ x. x.kind) ms) m })
memory_in [] m lt = absurd (omega arith)
memory_in (x ∷ xs) zero lt = (0, omega arith, refl)
memory_in (x ∷ xs) (suc m) lt = in_tail _ (map (λ (y : KeptMemory). let a : MemoryAt = record { place = y.place; kind = y.kind } in a) xs) _
    (memory_in xs m (omega arith))

memory_from : (ms : List KeptMemory) (a : MemoryAt) → Contains
    (map (λ (x : KeptMemory). let b : MemoryAt = record { place = x.place; kind = x.kind } in b) ms) a
    → (m : ℕ) × (m < length ms) × (slice_index_or (map (λ x. x.place) ms) m [] ≡ a.place) × (kind_at (map (λ x. x.kind) ms) m ≡ a.kind)
memory_from [] a w = nothing_in a w
memory_from (x ∷ xs) a w = elim (cons_cases _ (map (λ (y : KeptMemory). let b : MemoryAt = record { place = y.place; kind = y.kind } in b) xs) a w) [
  | inl is ↦ (0, omega arith, ap (λ (b : MemoryAt). b.place) is, ap (λ (b : MemoryAt). b.kind) is)
  | inr rest ↦ let r = memory_from xs a rest in (suc r.0, omega (arith, r.1), r.2, r.3)
]

module _ (program : ProgramTree) (main : Identifier) (f : Flat) (flat : IsFlatOf program main f) where
  abbrev s : System
  s = system_of f

  abbrev vs : AreVariables program main (variables_of f)
  vs = flat.variables

  abbrev kinds : List Kind
  kinds = decl_kinds program (node_of program main).inputs

  pub same_bits : (k : Kind) → bit_count s.labels k ≡ kind_bits program k
  same_bits (kind.Labels i) = ap bits_for (ap (λ ls. slice_index_or ls i 0) flat.system.labels ∙ labels_same program.types i)
  same_bits _ = refl

  -- ticks
  tick_there : (p : Sites) → Contains (tick_places f.variables) p → Contains vs.ticks p
  tick_there p w = let r = flat.system.translated.ticks.only p w in vs.are_ticks.all r.0 r.1 p r.2 r.3 r.4 r.5

  tick_back : (p : Sites) → Contains vs.ticks p → Contains (tick_places f.variables) p
  tick_back p w = let r = vs.are_ticks.only p w in flat.system.translated.ticks.all r.0 r.1 p r.2 r.3 r.4 r.5

  abbrev tick_bits : List Variable
  tick_bits = MainTick ∷ map Tick vs.ticks

  abbrev memory_bits : List Variable
  memory_bits = memory_variables program vs.memories

  ticks_listed : (t : Option Sites) → Contains s.ticks t → Contains (tick_bits ++ memory_bits) (tick_variable t)
  ticks_listed t w = Contains-append_left tick_bits memory_bits (tick_variable t) (by (cons_cases Nothing (map (λ p. Some p) (tick_places f.variables)) t w))
    where
      by : (Nothing ≡ t) ⊎ Contains (map (λ (p : Sites). Some p) (tick_places f.variables)) t → Contains tick_bits (tick_variable t)
      by (inl is) = subst (λ u. Contains tick_bits (tick_variable u)) is (at_head MainTick (map Tick vs.ticks))
      by (inr rest) =
          let r = from_map (λ (p : Sites). Some p) (tick_places f.variables) t rest in
          subst (λ u. Contains tick_bits (tick_variable u)) (sym r.2)
          (in_tail MainTick (map Tick vs.ticks) (Tick r.0) (in_map Tick vs.ticks r.0 (tick_there r.0 r.1)))

  -- memories
  abbrev bits_at : MemoryAt → List Variable
  bits_at m = bits (Kept m.place) (kind_bits program m.kind)

  memories_listed : (m b : ℕ) → m < length s.memories → b < bit_count s.labels (kind_at (memory_kinds s) m)
      → Contains (tick_bits ++ memory_bits) (Kept (slice_index_or (memory_places s) m []) b)
  memories_listed m b lt less =
      let a : MemoryAt = record { place = slice_index_or (memory_places s) m []; kind = kind_at (memory_kinds s) m } in
      let r = flat.system.translated.memories.only a (memory_in s.memories m lt) in
      let there : Contains vs.memories a = subst (λ (z : MemoryAt). Contains vs.memories z) (sym r.5) (vs.are_memories.all r.0 r.1 r.2 tt r.4) in
      Contains-append_right tick_bits memory_bits (Kept a.place b)
      (in_flat_map bits_at vs.memories a (Kept a.place b) there
      (bit_in (Kept a.place) (kind_bits program a.kind) b (subst (λ n. b < n) (same_bits a.kind) less)))

  pub state_bit : (x : Variable) → Contains (tick_bits ++ memory_bits) x → IsStateBit s x
  state_bit x w = by (Contains-append_cases tick_bits memory_bits x w)
    where
      of_tick : (MainTick ≡ x) ⊎ Contains (map Tick vs.ticks) x → IsStateBit s x
      of_tick (inl is) = a_tick Nothing (at_head Nothing (map (λ p. Some p) (tick_places f.variables))) (sym is)
      of_tick (inr rest) =
          let r = from_map Tick vs.ticks x rest in
          a_tick (Some r.0) (in_tail Nothing (map (λ p. Some p) (tick_places f.variables)) (Some r.0)
          (in_map (λ p. Some p) (tick_places f.variables) r.0 (tick_back r.0 r.1))) r.2

      by : Contains tick_bits x ⊎ Contains memory_bits x → IsStateBit s x
      by (inl u) = of_tick (cons_cases MainTick (map Tick vs.ticks) x u)
      by (inr u) =
          let r = of_flat_map bits_at vs.memories x u in
          let q = vs.are_memories.only r.0 r.1 in
          let there = subst (λ (z : MemoryAt). Contains (map (λ (m : KeptMemory). let b : MemoryAt = record { place = m.place; kind = m.kind } in b)
          s.memories) z) (sym q.5) (flat.system.translated.memories.all q.0 q.1 q.2 tt q.4) in
          let found = memory_from s.memories r.0 there in
          let bit = bit_from (Kept r.0.place) (kind_bits program r.0.kind) x r.2 in
          a_bit found.0 bit.0 found.1 (subst (λ n. bit.0 < n) (sym (ap (bit_count s.labels) found.3 ∙ same_bits r.0.kind)) bit.1)
          (bit.2 ∙ ap (λ p. Kept p bit.0) (sym found.2))

  -- inputs
  inputs_in : (i : ℕ) (ks : List Kind) (j b : ℕ) → j < length ks → b < kind_bits program (kind_at ks j)
      → Contains (input_variables program i ks) (Input (i + j) b)
  inputs_in i [] j b lt less = absurd (omega arith)
  inputs_in i (k ∷ ks) zero b lt less =
      let here : i ≡ i + 0 = omega arith in
      Contains-append_left (bits (Input i) (kind_bits program k)) (input_variables program (i + 1) ks) (Input (i + 0) b)
      (subst (λ n. Contains (bits (Input i) (kind_bits program k)) (Input n b)) here (bit_in (Input i) (kind_bits program k) b less))
  inputs_in i (k ∷ ks) (suc j) b lt less =
      let there : i + 1 + j ≡ i + suc j = omega arith in
      Contains-append_right (bits (Input i) (kind_bits program k)) (input_variables program (i + 1) ks) (Input (i + suc j) b)
      (subst (λ n. Contains (input_variables program (i + 1) ks) (Input n b)) there (inputs_in (i + 1) ks j b (omega arith) less))

  pub input_bit : (i : ℕ) (ks : List Kind) (x : Variable) → Contains (input_variables program i ks) x → IsInputBit x
  input_bit i [] x w = nothing_in x w
  input_bit i (k ∷ ks) x w = elim (Contains-append_cases (bits (Input i) (kind_bits program k)) (input_variables program (i + 1) ks) x w) [
    | inl u ↦ let r = bit_from (Input i) (kind_bits program k) x u in a_bit_of i r.0 r.2
    | inr u ↦ input_bit (i + 1) ks x u
  ]

  inputs_listed : (j b : ℕ) → j < length s.inputs → b < bit_count s.labels (kind_at s.inputs j) → Contains (input_variables program 0 kinds) (Input j b)
  inputs_listed j b lt less =
      let same : s.inputs ≡ kinds = flat.system.inputs in
      let here : 0 + j ≡ j = omega arith in
      subst (λ n. Contains (input_variables program 0 kinds) (Input n b)) here
      (inputs_in 0 kinds j b (subst (λ ks. j < length ks) same lt)
      (subst (λ n. b < n) (ap (λ ks. bit_count s.labels (kind_at ks j)) same ∙ same_bits (kind_at kinds j)) less))

  -- tests
  abbrev tests_at : ComparisonAt → List Variable
  tests_at c = map (Test c.place) (sides_of c.operator)

  tests_listed : (c : Comparison) (side : Side) → Contains (all_comparisons s) c → Contains (sides_of c.operator) side
      → Contains (test_variables vs.comparisons) (Test c.at side)
  tests_listed c side there is =
      let r = flat.compares_only c there in
      let at : c.at ≡ r.0.at = ap (λ (d : Comparison). d.at) r.2 in
      let operator : c.operator ≡ r.0.operator = ap (λ (d : Comparison). d.operator) r.2 in
      let mine = subst (λ o. Contains (sides_of o) side) operator is in
      let q = comparison_stands program main r.0 r.1 (omega (arith, mine.1)) in
      let listed = vs.are_comparisons.all q.0 q.2 (record { place = r.0.at; operator = r.0.operator }) q.1 q.3 q.4 in
      subst (λ p. Contains (test_variables vs.comparisons) (Test p side)) (sym at)
      (in_flat_map tests_at vs.comparisons (record { place = r.0.at; operator = r.0.operator }) (Test r.0.at side) listed
      (in_map (Test r.0.at) (sides_of r.0.operator) side mine))

  pub test_bit : (x : Variable) → Contains (test_variables vs.comparisons) x → IsTestBit x
  test_bit x w =
      let r = of_flat_map tests_at vs.comparisons x w in
      let q = from_map (Test r.0.place) (sides_of r.0.operator) x r.2 in
      a_test r.0.place q.0 q.2

  pub is_listed : IsListed s (variables_of f)
  is_listed = record {
    bits = tick_bits ++ memory_bits;
    given = input_variables program 0 kinds;
    order = test_variables vs.comparisons;
    list = vs.list;
    first = refl;
    some = omega arith;
    state_bits = state_bit;
    input_bits = input_bit 0 kinds;
    test_bits = test_bit;
    ticks = ticks_listed;
    memories = memories_listed;
    inputs = inputs_listed;
    tests = tests_listed;
  }
