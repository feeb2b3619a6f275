-- The memories, ticks, inputs and columns of a program by their numbers in a flat system that is read from it.
use Rattle.std.proofs.Common.{◌≡◌, inl, inr, ℕ, zero, suc, ◌+◌, ◌<◌, Bool, List, [], ◌∷◌, map, length, get_or, refl, sym, ◌∙◌, ap, subst, subst₂, arith, Option}
use Rattle.std.proofs.Common.{Some, None as Nothing}
use Rattle.std.proofs.{lemmas.Simd.map-map, lemmas.List.length-map, lemmas.List.get_or-map, lemmas.List.Elements.Contains-get_or}
use Rattle.std.specs.{Prelude.slice_index_or, List.Contains}
use Rattle.rv_base.specs.declared.value.Value.{Value}
use Rattle.rv_base.specs.declared.value.Value.TheVariants as value
use Rattle.rv_tree.specs.{declared.tree.TypeDecl.TypeDecl, Tree.ProgramTree, Places.Identifier, Places.Sites, Places.index_of, Delays.Delay}
use Rattle.rv_types.specs.{declared.typed.Kind.Kind, Values.label_count, Values.labels_at, Values.operand_kind, Lists.MemoryAt, Lists.memory_at}
use Rattle.rv_types.specs.{Lists.delay_place, Instances.Instance}
use Rattle.rv_types.specs.declared.typed.Kind.TheVariants as kind
use Rattle.rv_types.specs.Values as types
use Rattle.rv_types.specs.Lists as listed
use Rattle.rv_agreement.specs.Trees.{Kept, System, memory_kinds, memory_places, kind_at}
use Rattle.rv_agreement.specs.ProgramAgreement.{IsTick, IsDelay, IsSystemOf, memories_of}
use Rattle.rv_agreement.specs.{Valuations.whole_count, Valuations.width, Agreement.HasKind, Programs.kinds_of, Programs.columns_of}
use Rattle.rv_agreement.specs.Programs.{input_kinds, label_counts}
use Rattle.rv_agreement.specs.{Translation.Numbers, Translation.clock_number, Translation.tick_number}
use Rattle.rv_agreement.proofs.{Systems.from_map, Indexed.indexed}
use Rattle.rv_types.proofs.Members.{cons_cases, in_map, in_tail}
use Rattle.rv_base.proofs.Options.{some_same}

-- the first so many that a function numbers
abbrev pub numbered : {X : Type 0} → ℕ → (ℕ → X) → List X
numbered zero f = []
numbered (suc n) f = f 0 ∷ numbered n (λ j. f (suc j))

pub length-numbered : {X : Type 0} (n : ℕ) (f : ℕ → X) → length (numbered n f) ≡ n
length-numbered zero f = refl
length-numbered (suc n) f = ap suc (length-numbered n (λ j. f (suc j)))

pub numbered_at : {X : Type 0} (n : ℕ) (f : ℕ → X) (j : ℕ) (d : X) → j < n → get_or (numbered n f) j d ≡ f j
numbered_at zero f j d lt = absurd (omega arith)
numbered_at (suc n) f zero d lt = refl
numbered_at (suc n) f (suc j) d lt = numbered_at n (λ i. f (suc i)) j d (omega arith)

-- the number of labels of an enumeration
labels_same : (ds : List TypeDecl) (i : ℕ) → labels_at ds i ≡ slice_index_or (map (λ d. label_count d) ds) i 0
labels_same [] i = refl
labels_same (d ∷ ds) zero = refl
labels_same (d ∷ ds) (suc i) = labels_same ds i

pub has_kind : (program : ProgramTree) (j : Kind) (v : Value) → types.HasKind program j v → HasKind (map (λ d. label_count d) program.types) j v
has_kind program kind.Bool (value.Flag b) has = tt
has_kind program kind.Int (value.Whole z) has = tt
has_kind program (kind.Labels i) (value.Label l) has = subst (λ n. l < n) (labels_same program.types i) has
has_kind program _ _ has = absurd has

module _ (program : ProgramTree) (main : Identifier) (numbers : Numbers) (s : System) (witness : IsSystemOf program main numbers s) where
  abbrev pub m_kinds : List Kind
  m_kinds = kinds_of program main (memories_of s)

  abbrev pub m_places : List Sites
  m_places = listed.memory_places (memories_of s)

  pub kinds_same : memory_kinds s ≡ m_kinds
  kinds_same = sym (map-map (λ (m : MemoryAt). m.kind) (λ m. record { place = m.place; kind = m.kind }) s.memories)

  pub places_same : memory_places s ≡ m_places
  places_same = sym (map-map (λ (m : MemoryAt). m.place) (λ m. record { place = m.place; kind = m.kind }) s.memories)

  pub width_same : width s ≡ columns_of program main (memories_of s)
  width_same = λ t. whole_count (kinds_same t) + whole_count (witness.inputs t)

  -- the memory with a number in the list
  abbrev memory_number : ℕ → MemoryAt
  memory_number m = record { place = slice_index_or (memory_places s) m []; kind = kind_at (memory_kinds s) m }

  listed_at : (ms : List Kept) (m : ℕ) → m < length ms → (d : MemoryAt)
      → get_or (map (λ m. record { place = m.place; kind = m.kind }) ms) m d ≡ record
      { place = slice_index_or (map (λ m. m.place) ms) m []; kind = kind_at (map (λ m. m.kind) ms) m }
  listed_at [] m lt d = absurd (omega arith)
  listed_at (k ∷ ks) zero lt d = refl
  listed_at (k ∷ ks) (suc m) lt d = listed_at ks m (omega arith) d

  long : length (memories_of s) ≡ length s.memories
  long = length-map s.memories (λ m. record { place = m.place; kind = m.kind })

  -- each memory with a number is that of a `pre` or `current`
  pub memory_of : (m : ℕ) → m < length s.memories
      → (i : Instance) × (d : Delay) × IsDelay program main i d × (slice_index_or (memory_places s) m [] ≡ delay_place i d)
      × (kind_at (memory_kinds s) m ≡ operand_kind program i.node d.operand)
  memory_of m lt =
      let o = witness.translated.memories.only (memory_number m) (m, omega (arith, long, lt), listed_at s.memories m lt (memory_number m)) in
      (o.0, o.1, (o.2, o.4), ap (λ a. a.place) o.5, ap (λ a. a.kind) o.5)

  -- and each of these has a number
  pub number_of : (i : Instance) (d : Delay) → IsDelay program main i d
      → (index_of numbers.memories (delay_place i d) < length s.memories)
      × (slice_index_or (memory_places s) (index_of numbers.memories (delay_place i d)) [] ≡ delay_place i d)
      × (kind_at (memory_kinds s) (index_of numbers.memories (delay_place i d)) ≡ operand_kind program i.node d.operand)
  number_of i d is =
      let m = index_of numbers.memories (delay_place i d) in
      let lt : m < length s.memories = witness.translated.memory_there i d is.0 is.1 in
      let w = witness.translated.memories.all i d is.0 tt is.1 in
      let less : w.0 < length s.memories = omega (arith, w.1, long) in
      let there : memory_number w.0 ≡ memory_at program i d = sym (listed_at s.memories w.0 less (memory_at program i d)) ∙ w.2 in
      let within : m < length numbers.memories = omega (arith, lt, ap length witness.translated.memory_numbers, length-map s.memories (λ k. k.place)) in
      let among : Contains numbers.memories (delay_place i d) =
      subst (λ ps. Contains ps (delay_place i d)) (sym witness.translated.memory_numbers)
      (subst (Contains (memory_places s)) (ap (λ a. a.place) there) (Contains-get_or (memory_places s) w.0 [] (rw length-map less))) in
      let here : slice_index_or (memory_places s) m [] ≡ delay_place i d =
      ap (λ ps. slice_index_or ps m []) (sym witness.translated.memory_numbers) ∙ (indexed numbers.memories (delay_place i d) among).1 in
      let same : m ≡ w.0 = witness.well.memories_apart m w.0 lt less (here ∙ sym (ap (λ a. a.place) there)) in
      (lt, here, ap (kind_at (memory_kinds s)) same ∙ ap (λ a. a.kind) there)

  pub place_numbered : (i : Instance) (d : Delay) → IsDelay program main i d → Contains numbers.memories (delay_place i d)
  place_numbered i d is =
      let n = number_of i d is in
      subst (λ ps. Contains ps (delay_place i d)) (sym witness.translated.memory_numbers)
      (subst (Contains (memory_places s)) n.1 (Contains-get_or (memory_places s) (index_of numbers.memories (delay_place i d)) [] (rw length-map n.0)))

  -- the number of the memory of a `pre` or `current` is its own
  pub own_number : (m : ℕ) (i : Instance) (d : Delay) → IsDelay program main i d → m < length s.memories
      → slice_index_or (memory_places s) m [] ≡ delay_place i d
      → index_of numbers.memories (delay_place i d) ≡ m
  own_number m i d is lt at = let n = number_of i d is in witness.well.memories_apart (index_of numbers.memories (delay_place i d)) m n.0 lt (n.1 ∙ sym at)

  abbrev counts : List ℕ
  counts = label_counts program main (memories_of s)

  -- what holds of the memory of each `pre` and `current` holds by its number, and the other way round
  pub by_number : (P : List ℕ → Kind → Sites → ℕ → Type 0) → ((i : Instance) (d : Delay) → IsDelay program main i d
      → P counts (operand_kind program i.node d.operand) (delay_place i d) (index_of numbers.memories (delay_place i d)))
      → (m : ℕ) → m < length s.memories → P s.labels (kind_at (memory_kinds s) m) (slice_index_or (memory_places s) m []) m
  by_number P each m lt =
      let o = memory_of m lt in
      let k = index_of numbers.memories (delay_place o.0 o.1) in
      subst₂ (P s.labels (kind_at (memory_kinds s) m)) (sym o.3) (own_number m o.0 o.1 o.2 lt o.3)
      (subst₂ (λ ls j. P ls j (delay_place o.0 o.1) k) (sym witness.labels) (sym o.4) (each o.0 o.1 o.2))

  pub by_place : (P : List ℕ → Kind → Sites → ℕ → Type 0)
      → ((m : ℕ) → m < length s.memories → P s.labels (kind_at (memory_kinds s) m) (slice_index_or (memory_places s) m []) m)
      → (i : Instance) (d : Delay) → IsDelay program main i d
      → P counts (operand_kind program i.node d.operand) (delay_place i d) (index_of numbers.memories (delay_place i d))
  by_place P each i d is =
      let n = number_of i d is in
      let m = index_of numbers.memories (delay_place i d) in
      subst₂ (λ ls j. P ls j (delay_place i d) m) witness.labels n.2 (subst (λ q. P s.labels (kind_at (memory_kinds s) m) q m) n.1 (each m n.0))

  -- the same of inputs
  pub in_system : (P : List ℕ → Kind → Type 0) (j : ℕ) → P counts (kind_at (input_kinds program main (memories_of s)) j) → P s.labels (kind_at s.inputs j)
  in_system P j h = subst₂ (λ ls ks. P ls (kind_at ks j)) (sym witness.labels) (sym witness.inputs) h

  pub in_program : (P : List ℕ → Kind → Type 0) (j : ℕ) → P s.labels (kind_at s.inputs j) → P counts (kind_at (input_kinds program main (memories_of s)) j)
  in_program P j h = subst₂ (λ ls ks. P ls (kind_at ks j)) witness.labels witness.inputs h

  -- the place of a tick
  ticked_place : (q : Sites) → Contains (Nothing ∷ map Some numbers.ticks) (Some q) → Contains numbers.ticks q
  ticked_place q v = elim (cons_cases Nothing (map Some numbers.ticks) (Some q) v) [
    | inl is ↦ absurd (let e : Nothing ≡ Some q = is in cc)
    | inr rest ↦ let f = from_map Some numbers.ticks (Some q) rest in subst (Contains numbers.ticks) (sym (some_same q f.0 f.2)) f.1
  ]

  -- a tick has a number, and what has one is a tick
  pub tick_at : (k : Option Sites) → Contains s.ticks k → (tick_number numbers k < length s.ticks)
      × (slice_index_or s.ticks (tick_number numbers k) Nothing ≡ k)
  tick_at k w = by k (subst (λ ks. Contains ks k) witness.translated.tick_places w)
    where
      by : (k : Option Sites) → Contains (Nothing ∷ map Some numbers.ticks) k
          → (tick_number numbers k < length s.ticks) × (slice_index_or s.ticks (tick_number numbers k) Nothing ≡ k)
      by Nothing v = let all = witness.translated.tick_places in
          let e = ap length all in (omega (arith, e), ap (λ ks. slice_index_or ks 0 Nothing) all)
      by (Some q) v =
          let n = indexed numbers.ticks q (ticked_place q v) in
          let e = ap length witness.translated.tick_places in
          let next : index_of numbers.ticks q + 1 ≡ suc (index_of numbers.ticks q) = omega arith in
          let here = ap (λ ks. slice_index_or ks (index_of numbers.ticks q + 1) Nothing) witness.translated.tick_places
          ∙ ap (λ m. slice_index_or (Nothing ∷ map Some numbers.ticks) m Nothing) next
          ∙ get_or-map Some numbers.ticks (index_of numbers.ticks q) [] Nothing n.0
          ∙ ap Some n.1 in
          (omega (arith, e, length-map numbers.ticks Some, n.0), here)

  pub tick_numbered : (k : Option Sites) → IsTick program main k → Contains s.ticks k
  tick_numbered k is = subst (λ ks. Contains ks k) (sym witness.translated.tick_places) (by k is)
    where
      by : (k : Option Sites) → IsTick program main k → Contains (Nothing ∷ map Some numbers.ticks) k
      by Nothing is = (0, omega arith, refl)
      by (Some q) is = in_tail Nothing (map Some numbers.ticks) (Some q)
          (in_map Some numbers.ticks q (witness.translated.ticks.all is.0 is.1 q is.2 is.3 is.4 is.5))

  pub is_tick : (m : ℕ) → m < length s.ticks → IsTick program main (slice_index_or s.ticks m Nothing)
  is_tick m lt = by (slice_index_or s.ticks m Nothing) (subst (λ ks. Contains ks (slice_index_or s.ticks m Nothing)) witness.translated.tick_places
      (Contains-get_or s.ticks m Nothing lt))
    where
      by : (k : Option Sites) → Contains (Nothing ∷ map Some numbers.ticks) k → IsTick program main k
      by Nothing w = tt
      by (Some q) w = witness.translated.ticks.only q (ticked_place q w)

  -- the clock of a tick, by the numbers of both
  pub clock_of_tick : (k : ℕ) → k < length s.ticks → slice_index_or s.tick_clocks k Nothing ≡ clock_number numbers (slice_index_or s.ticks k Nothing)
  clock_of_tick k lt =
      ap (λ ks. slice_index_or ks k Nothing) witness.translated.tick_clocks
      ∙ at k (let e = ap length witness.translated.tick_places in omega (arith, lt, e))
      ∙ ap (λ ks. clock_number numbers (slice_index_or ks k Nothing)) (sym witness.translated.tick_places)
    where
      at : (k : ℕ) → k < length (Nothing ∷ map Some numbers.ticks)
          → slice_index_or (Nothing ∷ map (λ q. Some (index_of numbers.flows q)) numbers.ticks) k Nothing ≡ clock_number numbers
          (slice_index_or (Nothing ∷ map Some numbers.ticks) k Nothing)
      at zero lt = refl
      at (suc k) lt =
          let many = length-map numbers.ticks Some in
          let less : k < length numbers.ticks = omega (arith, lt, many) in
          get_or-map (λ q. Some (index_of numbers.flows q)) numbers.ticks k [] Nothing less
          ∙ ap (clock_number numbers) (sym (get_or-map Some numbers.ticks k [] Nothing less))
