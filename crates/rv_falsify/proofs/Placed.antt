-- Where the bits of memories and inputs stand among the diagram variables of a flat system.
use Rattle.std.proofs.Common.{◌≡◌, inl, inr, ℕ, zero, suc, ◌+◌, ◌*◌, ◌<◌, ◌≤◌, Bool, true, false, cond, nat_eq, List, [], ◌∷◌, ◌++◌, length, length-append, map}
use Rattle.std.proofs.Common.{refl, sym, ◌∙◌, ap, subst, arith, Option, Some, None as Nothing}
use Rattle.std.proofs.lemmas.Bool.{ne_eqb, and_left, and_right}
use Rattle.std.proofs.{Math.Nat.eq-or-lt_of_le, lemmas.List.append_assoc, lemmas.List.length-map, lemmas.List.Elements.Contains-append_cases}
use Rattle.std.specs.{Prelude.slice_index_or, List.Contains}
use Rattle.rv_tree.specs.{Tree.ProgramTree, Places.Identifier, Places.Sites, Places.index_of}
use Rattle.rv_types.specs.Lists.{Variable, MainTick, Tick, Kept, Input, MemoryAt, AreRising, AreVariables, bits, with_copies, memory_variables, input_variables}
use Rattle.rv_types.specs.Lists.{test_variables, memory_places}
use Rattle.rv_types.specs.{declared.typed.Kind.Kind, Kinds.decl_kinds, Instances.node_of, Needs.IsBefore, Variables.kind_bits}
use Rattle.rv_agreement.specs.{Trees.System, Trees.kind_at, Agreement.bit_count, Checks.same_sites}
use Rattle.rv_diagram.specs.Nodes.{Valuation as Numbered}
use Rattle.rv_flat.specs.Steps.{label_counts, memory_kinds, input_kinds}
use Rattle.rv_flat.specs.{declared.flat.Flat.Flat, declared.parts.Bit.Bit, declared.parts.FlatMemory.FlatMemory, Facts.numbers_among, FlatInstants.places}
use Rattle.rv_flat.specs.{FlatInstants.system_of, FlatOf.IsFlatOf, Lists.tick_places, Lists.variable_of, Systems.memory_of}
use Rattle.rv_flat.specs.declared.parts.Bit.TheVariants as bit
use Rattle.rv_flat.specs.FlatInstants as flats
use Rattle.rv_control.specs.Named.{same_variable, tick_variable, truth_at, variables_of}
use Rattle.rv_control.proofs.Listed.{IsStateBit, a_tick, a_bit, IsInputBit, a_bit_of, IsTestBit, a_test}
use Rattle.rv_control.proofs.Order.{bit_from, input_bit, same_bits, state_bit, test_bit}
use Rattle.rv_control.proofs.{Names.kept_itself, Names.input_itself, Names.state_truth, Names.unnamed, Concrete.input_no_kept, Concrete.test_no_kept}
use Rattle.rv_replay.proofs.{Orders.one_listing, FlatTraces.places_same}
use Rattle.rv_falsify.specs.Decoding.{bits_before}
use Rattle.rv_agreement.proofs.{Chosen.sites_told, Systems.from_map}
use Rattle.rv_flatten.proofs.CountedVariables.{length_bits}
use Rattle.rv_meaning.proofs.NameLemmas.{same_text}
use Rattle.rv_types.proofs.{Members.at_head, Members.cons_cases, Members.in_tail, Members.of_flat_map, NamePlaces.length_copies, PlaceOrders.not_itself}

-- Variables without a name are passed over.
skip : (xs ys : List Variable) (u : Numbered) (x : Variable) → ((y : Variable) → Contains xs y → same_variable y x ≡ false)
    → truth_at (xs ++ ys) u x ≡ truth_at ys (λ k. u (length xs + k)) x
unfolding truth_at
skip [] ys u x none =
    let same : (k : ℕ) → k ≡ 0 + k = λ k. omega arith in
    λ t. truth_at ys (λ k. u (same k t)) x
skip (y ∷ xs) ys u x none =
    let moved : (k : ℕ) → suc (length xs + k) ≡ suc (length xs) + k = λ k. omega arith in
    (λ t. cond (none y (at_head y xs) t) (u 0) (truth_at (xs ++ ys) (λ k. u (suc k)) x))
    ∙ skip xs ys (λ k. u (suc k)) x (λ z w. none z (in_tail y xs z w))
    ∙ (λ t. truth_at ys (λ k. u (moved k t)) x)

skip_copies : (xs ys : List Variable) (u : Numbered) (x : Variable) → ((y : Variable) → Contains xs y → same_variable y x ≡ false)
    → truth_at (with_copies xs ++ ys) u x ≡ truth_at ys (λ k. u (2 * length xs + k)) x
unfolding truth_at
skip_copies [] ys u x none =
    let same : (k : ℕ) → k ≡ 2 * 0 + k = λ k. omega arith in
    λ t. truth_at ys (λ k. u (same k t)) x
skip_copies (y ∷ xs) ys u x none =
    let moved : (k : ℕ) → suc (suc (2 * length xs + k)) ≡ 2 * suc (length xs) + k = λ k. omega arith in
    (λ t. cond (none y (at_head y xs) t) (u 0) (cond (unnamed x t) (u 1) (truth_at (with_copies xs ++ ys) (λ k. u (suc (suc k))) x)))
    ∙ skip_copies xs ys (λ k. u (suc (suc k))) x (λ z w. none z (in_tail y xs z w))
    ∙ (λ t. truth_at ys (λ k. u (moved k t)) x)

first_of : (y : Variable) (ys : List Variable) (u : Numbered) → same_variable y y ≡ true → truth_at (y ∷ ys) u y ≡ u 0
unfolding truth_at
first_of y ys u is = λ t. cond (is t) (u 0) (truth_at ys (λ k. u (suc k)) y)

-- A bit is read among the bits of its owner.
module _ (make : ℕ → Variable) (itself : (b : ℕ) → same_variable (make b) (make b) ≡ true)
    (apart : (a b : ℕ) → a < b → same_variable (make a) (make b) ≡ false) where
  bits_read : (n b : ℕ) (rest : List Variable) (u : Numbered) → b < n → truth_at (bits make n ++ rest) u (make b) ≡ u b
  bits_read zero b rest u lt = absurd (omega arith)
  bits_read (suc n) b rest u lt =
      ap (λ l. truth_at l u (make b)) (append_assoc (bits make n) (make n ∷ []) rest)
      ∙ elim (eq-or-lt_of_le {n = b} {m = n} (omega arith)) [
        | inl same ↦ subst (λ k. truth_at (bits make n ++ (make n ∷ rest)) u (make k) ≡ u k) (sym same) here
        | inr below ↦ bits_read n b (make n ∷ rest) u below
      ]
    where
      here : truth_at (bits make n ++ (make n ∷ rest)) u (make n) ≡ u n
      here =
          skip (bits make n) (make n ∷ rest) u (make n)
          (λ y w. let r = bit_from make n y w in ap (λ z. same_variable z (make n)) r.2 ∙ apart r.0 n r.1)
          ∙ first_of (make n) rest (λ k. u (length (bits make n) + k)) (itself n)
          ∙ (let e : length (bits make n) + 0 ≡ n = omega (arith, length_bits make n) in ap u e)

kept_apart : (p : Sites) (a b : ℕ) → a < b → same_variable (Kept p a) (Kept p b) ≡ false
kept_apart p a b lt = and_right (same_sites p p) (nat_eq a b) (ne_eqb a b (λ e. omega (arith, e)))

input_apart : (j a b : ℕ) → a < b → same_variable (Input j a) (Input j b) ≡ false
input_apart j a b lt = and_right (nat_eq j j) (nat_eq a b) (ne_eqb a b (λ e. omega (arith, e)))

-- bits of memories at places that come one before the other
other_place : (p q : Sites) (a b : ℕ) → IsBefore p q → same_variable (Kept p a) (Kept q b) ≡ false
other_place p q a b before = and_left (same_sites p q) (nat_eq a b) (by (same_sites p q) refl)
  where
    by : (t : Bool) → same_sites p q ≡ t → same_sites p q ≡ false
    by true e = absurd (not_itself q (subst (λ z. IsBefore z q) (sites_told p q e) before))
    by false e = e

module _ (program : ProgramTree) (labels : List ℕ) (same : (k : Kind) → bit_count labels k ≡ kind_bits program k) where
  -- A bit of a memory is read among those of all memories.
  memory_read : (ms : List FlatMemory) → AreRising (map (λ m. m.place.sites) ms) → (u : Numbered) (m b : ℕ) → m < length ms
      → b < bit_count labels (kind_at (map (λ x. x.kind) ms) m)
      → truth_at (memory_variables program (map memory_of ms)) u (Kept (slice_index_or (map (λ x. x.place.sites) ms) m []) b)
      ≡ u (bits_before labels (map (λ x. x.kind) ms) m + b)
  memory_read [] up u m b lt less = absurd (omega arith)
  memory_read (x ∷ ms) up u zero b lt less =
      bits_read (Kept x.place.sites) (kept_itself x.place.sites) (kept_apart x.place.sites) (kind_bits program x.kind) b
      (memory_variables program (map memory_of ms)) u (subst (λ n. b < n) (same x.kind) less)
      ∙ ap u (let e : b ≡ 0 + b = omega arith in e)
  memory_read (x ∷ ms) up u (suc m) b lt less =
      let p = x.place.sites in
      let q = slice_index_or (map (λ (y : FlatMemory). y.place.sites) ms) m [] in
      let n = kind_bits program x.kind in
      let many = length-map ms (λ (y : FlatMemory). y.place.sites) in
      skip (bits (Kept p) n) (memory_variables program (map memory_of ms)) u (Kept q b)
      (λ y w. let r = bit_from (Kept p) n y w in
      ap (λ z. same_variable z (Kept q b)) r.2 ∙ other_place p q r.0 b (up 0 (suc m) (omega arith) (omega (arith, many, lt))))
      ∙ memory_read ms (λ j k less below. up (suc j) (suc k) (omega (arith, less)) (omega (arith, below)))
      (λ k. u (length (bits (Kept p) n) + k)) m b (omega arith) less
      ∙ (let e : length (bits (Kept p) n) + (bits_before labels (map (λ y. y.kind) ms) m + b)
      ≡ bit_count labels x.kind + bits_before labels (map (λ y. y.kind) ms) m + b = omega (arith, length_bits (Kept p) n, same x.kind) in ap u e)

  -- A bit of an input is read among those of all inputs.
  input_read : (i : ℕ) (ks : List Kind) (rest : List Variable) (u : Numbered) (j b : ℕ) → j < length ks → b < bit_count labels (kind_at ks j)
      → truth_at (input_variables program i ks ++ rest) u (Input (i + j) b) ≡ u (bits_before labels ks j + b)
  input_read i [] rest u j b lt less = absurd (omega arith)
  input_read i (k ∷ ks) rest u zero b lt less =
      let here : i + 0 ≡ i = omega arith in
      let n = kind_bits program k in
      ap (λ l. truth_at l u (Input (i + 0) b)) (append_assoc (bits (Input i) n) (input_variables program (i + 1) ks) rest)
      ∙ ap (λ a. truth_at (bits (Input i) n ++ (input_variables program (i + 1) ks ++ rest)) u (Input a b)) here
      ∙ bits_read (Input i) (input_itself i) (input_apart i) n b (input_variables program (i + 1) ks ++ rest) u (subst (λ c. b < c) (same k) less)
      ∙ ap u (let e : b ≡ 0 + b = omega arith in e)
  input_read i (k ∷ ks) rest u (suc j) b lt less =
      let n = kind_bits program k in
      let later = input_variables program (i + 1) ks ++ rest in
      let there : i + suc j ≡ i + 1 + j = omega arith in
      ap (λ l. truth_at l u (Input (i + suc j) b)) (append_assoc (bits (Input i) n) (input_variables program (i + 1) ks) rest)
      ∙ skip (bits (Input i) n) later u (Input (i + suc j) b)
      (λ y w. let r = bit_from (Input i) n y w in
      ap (λ z. same_variable z (Input (i + suc j) b)) r.2
      ∙ and_left (nat_eq i (i + suc j)) (nat_eq r.0 b) (ne_eqb i (i + suc j) (λ e. omega (arith, e))))
      ∙ ap (λ a. truth_at later (λ c. u (length (bits (Input i) n) + c)) (Input a b)) there
      ∙ input_read (i + 1) ks rest (λ c. u (length (bits (Input i) n) + c)) j b (omega arith) less
      ∙ (let e : length (bits (Input i) n) + (bits_before labels ks j + b) ≡ bit_count labels k + bits_before labels ks j + b
      = omega (arith, length_bits (Input i) n, same k) in ap u e)

  length-memories : (ms : List FlatMemory) → length (memory_variables program (map memory_of ms))
      ≡ bits_before labels (map (λ x. x.kind) ms) (length (map (λ x. x.kind) ms))
  length-memories [] = refl
  length-memories (x ∷ ms) =
      let n = kind_bits program x.kind in
      let all = length-append (bits (Kept x.place.sites) n) (memory_variables program (map memory_of ms)) in
      let long = length_bits (Kept x.place.sites) n in
      let here = same x.kind in
      let rest = length-memories ms in
      omega (arith, all, long, here, rest)

  length-inputs : (i : ℕ) (ks : List Kind) → length (input_variables program i ks) ≡ bits_before labels ks (length ks)
  length-inputs i [] = refl
  length-inputs i (k ∷ ks) =
      let n = kind_bits program k in
      let all = length-append (bits (Input i) n) (input_variables program (i + 1) ks) in
      let long = length_bits (Input i) n in
      let here = same k in
      let rest = length-inputs (i + 1) ks in
      omega (arith, all, long, here, rest)

-- Ticks, the main one left out.
abbrev is_tick : Variable → Bool
is_tick (Tick p) = true
is_tick _ = false

abbrev tick_count : List Variable → ℕ
tick_count [] = 0
tick_count (x ∷ xs) = cond (is_tick x) 1 0 + tick_count xs

count-append : (xs ys : List Variable) → tick_count (xs ++ ys) ≡ tick_count xs + tick_count ys
count-append [] ys = omega arith
count-append (x ∷ xs) ys = let h = count-append xs ys in omega (arith, h)

count-copies : (xs : List Variable) → tick_count (with_copies xs) ≡ tick_count xs
count-copies [] = refl
count-copies (x ∷ xs) = let h = count-copies xs in omega (arith, h)

count-ticks : (ps : List Sites) → tick_count (map Tick ps) ≡ length ps
count-ticks [] = refl
count-ticks (p ∷ ps) = let h = count-ticks ps in omega (arith, h)

count-none : (xs : List Variable) → ((y : Variable) → Contains xs y → is_tick y ≡ false) → tick_count xs ≡ 0
count-none [] none = refl
count-none (x ∷ xs) none =
    let h = count-none xs (λ y w. none y (in_tail x xs y w)) in
    (λ i. cond (none x (at_head x xs) i) 1 0 + tick_count xs) ∙ omega (arith, h)

count-bits : (bs : List Bit) → length (tick_places bs) ≡ tick_count (map variable_of bs)
count-bits [] = refl
count-bits (bit.MainTick ∷ bs) = let h = count-bits bs in omega (arith, h)
count-bits (bit.Tick p ∷ bs) = let h = count-bits bs in omega (arith, h)
count-bits (bit.Kept p b ∷ bs) = let h = count-bits bs in omega (arith, h)
count-bits (bit.Next ∷ bs) = let h = count-bits bs in omega (arith, h)
count-bits (bit.Input j b ∷ bs) = let h = count-bits bs in omega (arith, h)
count-bits (bit.Test p s ∷ bs) = let h = count-bits bs in omega (arith, h)

input_no_tick : (y : Variable) → IsInputBit y → is_tick y ≡ false
input_no_tick y (a_bit_of j b is) = ap is_tick is

test_no_tick : (y : Variable) → IsTestBit y → is_tick y ≡ false
test_no_tick y (a_test p side is) = ap is_tick is

tick_no_input : (t : Option Sites) (j b : ℕ) → same_variable (tick_variable t) (Input j b) ≡ false
tick_no_input Nothing j b = refl
tick_no_input (Some p) j b = refl

state_no_input : (s : System) (y : Variable) → IsStateBit s y → (j b : ℕ) → same_variable y (Input j b) ≡ false
state_no_input s y (a_tick t w is) j b = ap (λ z. same_variable z (Input j b)) is ∙ tick_no_input t j b
state_no_input s y (a_bit m c lt less is) j b = ap (λ z. same_variable z (Input j b)) is

module _ (program : ProgramTree) (main : Identifier) (f : Flat) (flat : IsFlatOf program main f) where
  abbrev vs : AreVariables program main (variables_of f)
  vs = flat.variables

  abbrev kinds : List Kind
  kinds = decl_kinds program (node_of program main).inputs

  abbrev labels : List ℕ
  labels = label_counts f

  abbrev ticks : List Variable
  ticks = MainTick ∷ map Tick vs.ticks

  abbrev state : List Variable
  state = ticks ++ memory_variables program vs.memories

  abbrev rest : List Variable
  rest = input_variables program 0 kinds ++ test_variables vs.comparisons

  same : (k : Kind) → bit_count labels k ≡ kind_bits program k
  same = same_bits program main f flat

  memories_are : vs.memories ≡ map memory_of f.memories
  memories_are = one_listing program main vs.memories (map memory_of f.memories) vs.are_memories flat.memories

  rising : AreRising (map (λ m. m.place.sites) f.memories)
  rising = subst AreRising (places_same f.memories) flat.memories.rising

  no_tick : (y : Variable) → Contains (memory_variables program vs.memories) y → is_tick y ≡ false
  no_tick y w =
      let r = of_flat_map (λ (m : MemoryAt). bits (Kept m.place) (kind_bits program m.kind)) vs.memories y w in
      let q = bit_from (Kept r.0.place) (kind_bits program r.0.kind) y r.2 in
      ap is_tick q.2

  -- The ticks are as many as the flat system tells.
  ticks_many : length f.tick_flows ≡ length vs.ticks
  ticks_many =
      ap length (same_text f.tick_flows (numbers_among (places f) (tick_places f.variables)) f.tick_numbers)
      ∙ length-map (tick_places f.variables) (index_of (places f))
      ∙ count-bits f.variables
      ∙ ap tick_count vs.list
      ∙ all
    where
      all : tick_count (with_copies state ++ rest) ≡ length vs.ticks
      all =
          let whole = count-append (with_copies state) rest in
          let copies = count-copies state in
          let parts = count-append ticks (memory_variables program vs.memories) in
          let own = count-ticks vs.ticks in
          let memories = count-none (memory_variables program vs.memories) no_tick in
          let given = count-append (input_variables program 0 kinds) (test_variables vs.comparisons) in
          let inputs = count-none (input_variables program 0 kinds) (λ y w. input_no_tick y (input_bit program main f flat 0 kinds y w)) in
          let tests = count-none (test_variables vs.comparisons) (λ y w. test_no_tick y (test_bit program main f flat y w)) in
          omega (arith, whole, copies, parts, own, memories, given, inputs, tests)

  ticks_long : length ticks ≡ 1 + length f.tick_flows
  ticks_long = let long = length-map vs.ticks Tick in let many = ticks_many in omega (arith, long, many)

  -- Where the bits of the memories begin, and those of the inputs.
  abbrev pub first : ℕ
  first = 2 * (1 + length f.tick_flows)

  abbrev pub behind : ℕ
  behind = first + 2 * bits_before labels (memory_kinds f) (length (memory_kinds f))

  pub kept_placed : (v : Numbered) (m b : ℕ) → m < length f.memories → b < bit_count (label_counts f) (kind_at (memory_kinds f) m)
      → truth_at (variables_of f) v (Kept (slice_index_or (flats.memory_places f) m []) b)
      ≡ v (2 * (1 + length f.tick_flows) + 2 * (bits_before (label_counts f) (memory_kinds f) m + b))
  kept_placed v m b lt less =
      let q = slice_index_or (flats.memory_places f) m [] in
      let x = Kept q b in
      ap (λ l. truth_at l v x) vs.list
      ∙ state_truth state rest v x (λ y w. elim (Contains-append_cases (input_variables program 0 kinds) (test_variables vs.comparisons) y w) [
        | inl u ↦ input_no_kept y (input_bit program main f flat 0 kinds y u) q b
        | inr u ↦ test_no_kept y (test_bit program main f flat y u) q b
      ])
      ∙ skip ticks (memory_variables program vs.memories) (λ i. v (2 * i)) x (λ y w. elim (cons_cases MainTick (map Tick vs.ticks) y w) [
        | inl is ↦ ap (λ z. same_variable z x) (sym is)
        | inr u ↦ let r = from_map Tick vs.ticks y u in ap (λ z. same_variable z x) r.2
      ])
      ∙ ap (λ ms. truth_at (memory_variables program ms) (λ k. v (2 * (length ticks + k))) x) memories_are
      ∙ memory_read program labels same f.memories rising (λ k. v (2 * (length ticks + k))) m b lt less
      ∙ (let e : 2 * (length ticks + (bits_before labels (memory_kinds f) m + b))
      ≡ 2 * (1 + length f.tick_flows) + 2 * (bits_before labels (memory_kinds f) m + b)
      = omega (arith, ticks_long) in ap v e)

  state_long : length state ≡ 1 + length f.tick_flows + bits_before labels (memory_kinds f) (length (memory_kinds f))
  state_long =
      let all = length-append ticks (memory_variables program vs.memories) in
      let long = ticks_long in
      let memories = ap (λ ms. length (memory_variables program ms)) memories_are ∙ length-memories program labels same f.memories in
      omega (arith, all, long, memories)

  pub given_placed : (v : Numbered) (j b : ℕ) → j < length (input_kinds f) → b < bit_count (label_counts f) (kind_at (input_kinds f) j)
      → truth_at (variables_of f) v (Input j b)
      ≡ v (2 * (1 + length f.tick_flows) + 2 * bits_before (label_counts f) (memory_kinds f) (length (memory_kinds f))
      + 1 * (bits_before (label_counts f) (input_kinds f) j + b))
  given_placed v j b lt less =
      let tests = test_variables vs.comparisons in
      let here : j ≡ 0 + j = omega arith in
      ap (λ l. truth_at l v (Input j b)) vs.list
      ∙ skip_copies state rest v (Input j b) (λ y w. state_no_input (system_of f) y (state_bit program main f flat y w) j b)
      ∙ ap (λ ks. truth_at (input_variables program 0 ks ++ tests) (λ k. v (2 * length state + k)) (Input j b)) (sym flat.input_kinds)
      ∙ ap (λ i. truth_at (input_variables program 0 (input_kinds f) ++ tests) (λ k. v (2 * length state + k)) (Input i b)) here
      ∙ input_read program labels same 0 (input_kinds f) tests (λ k. v (2 * length state + k)) j b lt less
      ∙ (let e : 2 * length state + (bits_before labels (input_kinds f) j + b)
      ≡ 2 * (1 + length f.tick_flows) + 2 * bits_before labels (memory_kinds f) (length (memory_kinds f)) + 1 * (bits_before labels (input_kinds f) j + b)
      = omega (arith, state_long) in ap v e)

  -- All of them are among the variables.
  pub room : 2 * (1 + length f.tick_flows) + 2 * bits_before (label_counts f) (memory_kinds f) (length (memory_kinds f))
      + bits_before (label_counts f) (input_kinds f) (length (input_kinds f)) ≤ 4096
  room =
      let few = f.few_variables in
      let count : length (variables_of f) ≡ length f.variables = length-map f.variables variable_of in
      let list = ap length vs.list in
      let whole = length-append (with_copies state) rest in
      let copies = length_copies state in
      let long = state_long in
      let given = length-append (input_variables program 0 kinds) (test_variables vs.comparisons) in
      let inputs = length-inputs program labels same 0 kinds in
      let kinds_same = ap (λ ks. bits_before labels ks (length ks)) flat.input_kinds in
      omega (arith, few, count, list, whole, copies, long, given, inputs, kinds_same)
