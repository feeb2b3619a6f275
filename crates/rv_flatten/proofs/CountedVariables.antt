-- A program has no more diagram variables than are counted.
use Rattle.std.proofs.Common.{◌≡◌, ◌⊎◌, inl, inr, ℕ, zero, suc, ◌+◌, ◌*◌, ◌≤◌, Bool, true, false, ◌&&◌, ◌||◌, cond, nat_eq, List, [], ◌∷◌, ◌++◌, map, flat_map}
use Rattle.std.proofs.Common.{length, get_or, refl, sym, ◌∙◌, ap, subst, arith, Option, Some, length-append, None as Nothing}
use Rattle.std.proofs.lemmas.List.Elements.{Contains-append_left, Contains-append_right, Contains-append_cases}
use Rattle.std.proofs.{lemmas.Bool.le-leb, lemmas.Bool.Decides.nat_tests, lemmas.List.length-map, lemmas.List.map-id, lemmas.List.get_or_default}
use Rattle.std.specs.{Prelude.nat_le, List.Contains}
use Rattle.rv_tree.specs.{declared.tree.Op.Op, declared.tree.TypeDecl.TypeDecl, Tree.Tree, Tree.Node, Tree.Form, Tree.Binary, Tree.NodeTree, Tree.ProgramTree}
use Rattle.rv_tree.specs.{Places.Identifier, Places.Sites, Places.index_of, Places.memory_site, Delays.Delay, Delays.node_delays}
use Rattle.rv_tree.specs.declared.tree.Op.TheVariants as op
use Rattle.rv_types.specs.Instances.{Instance, IsInstance, all_instances, clock_in, node_of}
use Rattle.rv_types.specs.Lists.{AreRising, AreTicks, AreMemories, AreComparisons, AreVariables, IsAny, MemoryAt, ComparisonAt, Compares, Variable, MainTick}
use Rattle.rv_types.specs.Lists.{Tick, Kept, Input, Test, bits, with_copies, memory_variables, input_variables, test_variables, sides_of, memory_places}
use Rattle.rv_types.specs.Lists.{memory_at}
use Rattle.rv_types.specs.Variables.{total, is_integer, is_in, memories, memories_beside, node_parts, kind_bits, memory_bits, tests_of, own_tests, order_tests}
use Rattle.rv_types.specs.Variables.{is_arrow, arrow_clocks, over_instances, ticks, variable_count}
use Rattle.rv_types.specs.{declared.typed.Kind.Kind, declared.typed.Clock.TheVariants.Base, Kinds.decl_kinds, Names.labels_of, Names.texts, Values.label_count}
use Rattle.rv_types.specs.{Values.operand_kind, Needs.IsBefore}
use Rattle.rv_instances.specs.Counts.{integer_memories}
use Rattle.rv_flat.specs.{declared.parts.Bit.Bit, declared.parts.FlatMemory.FlatMemory, Facts.all_few, Facts.integers, Lists.variable_of, Systems.memory_of}
use Rattle.rv_types.proofs.Members.{at_head, cons_cases, in_flat_map, in_map, in_tail, nothing_in}
use Rattle.rv_types.proofs.DifferentPlaces.{total_append, total_map, total_flat_map, total_same, still_different}
use Rattle.rv_types.proofs.{ChainLaws.no_flag, NamePlaces.length_copies, PlaceOrders.not_itself, PlaceOrders.placed}
use Rattle.rv_flat.proofs.TickList.{number_at as number_of_place}

-- Sums.

pub total_less : {X : Type 0} (f g : X → ℕ) (xs : List X) → ((x : X) → Contains xs x → f x ≤ g x) → total f xs ≤ total g xs
total_less f g [] less = omega arith
total_less f g (x ∷ xs) less = omega (arith, total_less f g xs (λ y w. less y (in_tail x xs y w)), less x (at_head x xs))

-- a list around one of its elements
pub around : {X : Type 0} (ys : List X) (x : X) → Contains ys x → (l : List X) × (r : List X) × (ys ≡ l ++ x ∷ r)
around [] x w = nothing_in x w
around (y ∷ ys) x w = elim (cons_cases y ys x w) [
  | inl same ↦ ([], ys, ap (λ z. z ∷ ys) same)
  | inr rest ↦ let s = around ys x rest in (y ∷ s.0, s.1, ap (λ l. y ∷ l) s.2)
]

pub still_there : {X : Type 0} (l r : List X) (x y : X) → Contains (l ++ x ∷ r) y → (x ≡ y → ⊥) → Contains (l ++ r) y
still_there l r x y w other = elim (Contains-append_cases l (x ∷ r) y w) [
  | inl v ↦ Contains-append_left l r y v
  | inr v ↦ elim (cons_cases x r y v) [ inl same ↦ absurd (other same) | inr rest ↦ Contains-append_right l r y rest ]
]

-- A sum over different elements of a list is no more than that over the list.
module _ {X : Type 0} (f : X → ℕ) (key : X → Sites) where
  stands_after : (x : X) (xs : List X) → AreRising (map key (x ∷ xs)) → (y : X) → Contains xs y → IsBefore (key x) (key y)
  stands_after x xs up y v =
      let u = in_map key xs y v in
      subst (IsBefore (key x)) (get_or_default (map key xs) u.0 [] (key y) u.1 ∙ u.2) (up 0 (suc u.0) (omega arith) (omega (arith, u.1)))

  sum_no_more : (xs ys : List X) → AreRising (map key xs) → ((x : X) → Contains xs x → Contains ys x) → total f xs ≤ total f ys
  sum_no_more [] ys up all = omega arith
  sum_no_more (x ∷ xs) ys up all =
      let s = around ys x (all x (at_head x xs)) in
      let fewer = sum_no_more xs (s.0 ++ s.1) (λ j k lt within. up (suc j) (suc k) (omega (arith, lt)) (omega (arith, within)))
      (λ y v. still_there s.0 s.1 x y (subst (λ l. Contains l y) s.2 (all y (in_tail x xs y v)))
      (λ e. not_itself (key y) (subst (λ z. IsBefore z (key y)) (ap key e) (stands_after x xs up y v)))) in
      omega (arith, fewer, ap (total f) s.2, total_append f s.0 (x ∷ s.1), total_append f s.0 s.1)

-- How long the lists of variables are.

pub length_bits : (make : ℕ → Variable) (n : ℕ) → length (bits make n) ≡ n
length_bits make zero = refl
length_bits make (suc n) = omega (arith, length_bits make n, length-append (bits make n) (make n ∷ []))

pub length_memories : (p : ProgramTree) (ms : List MemoryAt) → length (memory_variables p ms) ≡ total (λ (m : MemoryAt). kind_bits p m.kind) ms
length_memories p [] = refl
length_memories p (m ∷ ms) =
    let both = length-append (bits (Kept m.place) (kind_bits p m.kind)) (memory_variables p ms) in
    omega (arith, length_memories p ms, both, length_bits (Kept m.place) (kind_bits p m.kind))

pub length_inputs : (p : ProgramTree) (j : ℕ) (ks : List Kind) → length (input_variables p j ks) ≡ total (kind_bits p) ks
length_inputs p j [] = refl
length_inputs p j (k ∷ ks) =
    let both = length-append (bits (Input j) (kind_bits p k)) (input_variables p (j + 1) ks) in
    omega (arith, length_inputs p (j + 1) ks, both, length_bits (Input j) (kind_bits p k))

abbrev pub tests : ComparisonAt → ℕ
tests c = length (sides_of c.operator)

pub length_tests : (cs : List ComparisonAt) → length (test_variables cs) ≡ total tests cs
length_tests [] = refl
length_tests (c ∷ cs) =
    let both = length-append (map (Test c.place) (sides_of c.operator)) (test_variables cs) in
    omega (arith, length_tests cs, both, length-map (sides_of c.operator) (Test c.place))

-- Ticks.

abbrev pub own_clocks : Instance → Tree → List Sites
own_clocks i e = cond (is_arrow e) (elim (clock_in i Base e) as (λ _. List Sites) [ Nothing ↦ [] | Some p ↦ p ∷ [] ]) []

own_clock : (i : Instance) (e : Tree) (q : Sites) → is_arrow e ≡ true → clock_in i Base e ≡ Some q → Contains (own_clocks i e) q
own_clock i e q arrow at =
    subst (λ b. Contains (cond b (elim (clock_in i Base e) as (λ _. List Sites) [ Nothing ↦ [] | Some p ↦ p ∷ [] ]) []) q) (sym arrow)
    (subst (λ o. Contains (elim o as (λ _. List Sites) [ Nothing ↦ [] | Some p ↦ p ∷ [] ]) q) (sym at) (at_head q []))

arrow_there : (i : Instance) (es : List Tree) (e : Tree) (q : Sites) → Contains es e → is_arrow e ≡ true → clock_in i Base e ≡ Some q
    → Contains (arrow_clocks i es) q
arrow_there i [] e q w arrow at = nothing_in e w
arrow_there i (x ∷ es) e q w arrow at = elim (cons_cases x es e w) [
  | inl same ↦ Contains-append_left (own_clocks i x) (arrow_clocks i es) q (subst (λ y. Contains (own_clocks i y) q) (sym same) (own_clock i e q arrow at))
  | inr rest ↦ Contains-append_right (own_clocks i x) (arrow_clocks i es) q (arrow_there i es e q rest arrow at)
]

pub ones : (qs : List Sites) → total (λ (q : Sites). 1) qs ≡ length qs
ones [] = refl
ones (q ∷ qs) = omega (arith, ones qs)

-- Memories.

abbrev pub site : NodeTree → Delay → ℕ
site n d = memory_site n d.site d.operand

abbrev HasOne : NodeTree → List ℕ → List Delay → Delay → Type 0
HasOne n seen ds d = (is_in seen (site n d) ≡ true) ⊎ ((e : Delay) × Contains (memories_beside n seen ds) e × Contains ds e × (site n e ≡ site n d))

seen_or : (a b : ℕ) (seen : List ℕ) → (nat_eq a b || is_in seen b) ≡ true → (a ≡ b) ⊎ (is_in seen b ≡ true)
seen_or a b seen h = by (nat_eq a b) refl h
  where
    by : (t : Bool) → nat_eq a b ≡ t → (t || is_in seen b) ≡ true → (a ≡ b) ⊎ (is_in seen b ≡ true)
    by true e h = inl (let same : a ≡ b = grind (arith, nat_tests, e) in same)
    by false e h = inr h

-- each `pre` or `current` shares its site with one of these, or with one that was seen
has_one : (n : NodeTree) (seen : List ℕ) (ds : List Delay) (d : Delay) → Contains ds d → HasOne n seen ds d
has_one n seen [] d w = nothing_in d w
has_one n seen (x ∷ ds) d w = by (is_in seen (site n x)) refl (λ s e v. has_one n s ds e v)
  where
    by : (b : Bool) → is_in seen (site n x) ≡ b → ((s : List ℕ) (e : Delay) → Contains ds e → HasOne n s ds e)
        → (is_in seen (site n d) ≡ true) ⊎ ((e : Delay) × Contains (cond b (memories_beside n seen ds) (x ∷ memories_beside n (site n x ∷ seen) ds)) e
        × Contains (x ∷ ds) e × (site n e ≡ site n d))
    by true e again = elim (cons_cases x ds d w) [
      | inl same ↦ inl (subst (λ y. is_in seen (site n y) ≡ true) same e)
      | inr rest ↦ elim (again seen d rest) [ inl old ↦ inl old | inr new ↦ inr (new.0, new.1, in_tail x ds new.0 new.2, new.3) ]
    ]
    by false e again = elim (cons_cases x ds d w) [
      | inl same ↦ inr (x, at_head x (memories_beside n (site n x ∷ seen) ds), at_head x ds, ap (site n) same)
      | inr rest ↦ elim (again (site n x ∷ seen) d rest) [
        | inl old ↦ elim (seen_or (site n x) (site n d) seen old) [
          | inl here ↦ inr (x, at_head x (memories_beside n (site n x ∷ seen) ds), at_head x ds, here)
          | inr there ↦ inl there
        ]
        | inr new ↦ inr (new.0, in_tail x (memories_beside n (site n x ∷ seen) ds) new.0 new.1, in_tail x ds new.0 new.2, new.3)
      ]
    ]

-- one place is that of one memory
one_memory : (ms : List MemoryAt) → AreRising (memory_places ms) → (a b : MemoryAt) → Contains ms a → Contains ms b → a.place ≡ b.place → a ≡ b
one_memory ms up a b v w e =
    let places = memory_places ms in
    let many = length-map ms (λ (m : MemoryAt). m.place) in
    let same : v.0 ≡ w.0 = sym (number_of_place places up v.0 (omega (arith, many, v.1)))
    ∙ ap (index_of places) (placed ms v.0 a v.1 v.2 ∙ e ∙ sym (placed ms w.0 b w.1 w.2)) ∙ number_of_place places up w.0 (omega (arith, many, w.1)) in
    sym v.2 ∙ get_or_default ms v.0 a b v.1 ∙ ap (λ k. get_or ms k b) same ∙ w.2

-- Comparisons.

abbrev comparison_at : Sites → Op → ComparisonAt
comparison_at q o = record { place = q; operator = o }

abbrev own_form : ProgramTree → Instance → Option ℕ → Form → List ComparisonAt
own_form p i (Some s) (Binary o a b) = cond (is_integer (operand_kind p i.node a)) (comparison_at (i.path ++ s ∷ []) o ∷ []) []
own_form p i _ _ = []

abbrev own_comparisons : ProgramTree → Instance → Tree → List ComparisonAt
own_comparisons p i (Node at site form) = own_form p i site form

pub sides_counted : (o : Op) → length (sides_of o) ≡ tests_of o
sides_counted op.Equal = omega arith
sides_counted _ = omega arith

own_few : (p : ProgramTree) (i : Instance) (e : Tree) → total tests (own_comparisons p i e) ≤ own_tests p i.node e
own_few p i (Node at (Some s) (Binary o a b)) = by (is_integer (operand_kind p i.node a))
  where
    by : (t : Bool) → total tests (cond t (comparison_at (i.path ++ s ∷ []) o ∷ []) []) ≤ cond t (tests_of o) 0
    by true = omega (arith, sides_counted o)
    by false = omega arith
own_few p i (Node at Nothing (Binary o a b)) = omega arith
own_few p i _ = omega arith

own_there : (p : ProgramTree) (i : Instance) (e : Tree) (c : ComparisonAt) → Compares p i e c → Contains (own_comparisons p i e) c
own_there p i e c r =
    subst (λ e. Contains (own_comparisons p i e) c) (sym r.4)
    (subst (λ t. Contains (cond t (comparison_at (i.path ++ r.1 ∷ []) c.operator ∷ []) []) c) (sym r.5)
    (subst (λ q. Contains (comparison_at q c.operator ∷ []) c) r.7 (at_head c [])))

-- All together.
module _ (p : ProgramTree) (main : Identifier) (counted : (i : Instance) → IsInstance p main i → Contains (all_instances p main) i) where
  pub ticks_few : (qs : List Sites) → AreTicks p main qs → length qs ≤ length (ticks p main)
  ticks_few qs are =
      let clocks : Instance → List Sites = λ i. arrow_clocks i (node_parts i.node) in
      let few = sum_no_more (λ (q : Sites). 1) (λ (q : Sites). q) qs (ticks p main) (subst AreRising (sym (map-id qs)) are.rising)
      (λ q w. let r = are.only q w in still_different (flat_map clocks (all_instances p main)) q
      (in_flat_map clocks (all_instances p main) r.0 q (counted r.0 r.2) (arrow_there r.0 (node_parts r.0.node) r.1 q r.3 r.4 r.5))) in
      omega (arith, few, ones qs, ones (ticks p main))

  abbrev memories_at : Instance → List MemoryAt
  memories_at i = map (memory_at p i) (memories i.node)

  memory_there : (ms : List MemoryAt) → AreMemories p main IsAny ms → (m : MemoryAt) → Contains ms m → Contains (flat_map memories_at (all_instances p main)) m
  memory_there ms are m w =
      let r = are.only m w in
      elim (has_one r.0.node [] (node_delays r.0.node) r.1 r.4) [
        | inl old ↦ no_flag old
        | inr new ↦
            let same : memory_at p r.0 new.0 ≡ m =
            one_memory ms are.rising (memory_at p r.0 new.0) m (are.all r.0 new.0 r.2 tt new.2) w
            (ap (λ s. r.0.path ++ s ∷ []) new.3 ∙ ap (λ (m : MemoryAt). m.place) (sym r.5)) in
            subst (λ m. Contains (flat_map memories_at (all_instances p main)) m) same
            (in_flat_map memories_at (all_instances p main) r.0 (memory_at p r.0 new.0) (counted r.0 r.2)
            (in_map (memory_at p r.0) (memories r.0.node) new.0 new.1))
      ]

  -- a sum over the types of memories is no more than that over those of all instances
  kinds_few : (f : Kind → ℕ) (ms : List MemoryAt) → AreMemories p main IsAny ms
      → total (λ (m : MemoryAt). f m.kind) ms ≤ over_instances p main (λ n. total (λ d. f (operand_kind p n d.operand)) (memories n))
  kinds_few f ms are =
      let g : MemoryAt → ℕ = λ m. f m.kind in
      let own : NodeTree → ℕ = λ n. total (λ d. f (operand_kind p n d.operand)) (memories n) in
      let few = sum_no_more g (λ (m : MemoryAt). m.place) ms (flat_map memories_at (all_instances p main)) are.rising (memory_there ms are) in
      let b = total_same (λ (i : Instance). total g (memories_at i)) (λ (i : Instance). own i.node) (all_instances p main)
      (λ i w. total_map g (memory_at p i) (memories i.node)) in
      omega (arith, few, total_flat_map g memories_at (all_instances p main), b)

  pub memories_few : (ms : List MemoryAt) → AreMemories p main IsAny ms
      → total (λ (m : MemoryAt). kind_bits p m.kind) ms ≤ over_instances p main (memory_bits p)
  memories_few ms are = kinds_few (kind_bits p) ms are

  -- so there are no more integer memories than are counted
  pub few_integers : (ms : List FlatMemory) → AreMemories p main IsAny (map memory_of ms) → over_instances p main (integer_memories p) ≤ 64
      → integers (map (λ m. m.kind) ms) ≤ 64
  few_integers ms are few =
      let f : Kind → ℕ = λ k. cond (is_integer k) 1 0 in
      omega (arith, few, total_map f (λ (m : FlatMemory). m.kind) ms, total_map (λ (m : MemoryAt). f m.kind) memory_of ms, kinds_few f (map memory_of ms) are)

  abbrev comparisons_at : Instance → List ComparisonAt
  comparisons_at i = flat_map (own_comparisons p i) (node_parts i.node)

  pub tests_few : (cs : List ComparisonAt) → AreComparisons p main cs → total tests cs ≤ over_instances p main (order_tests p)
  tests_few cs are =
      let few = sum_no_more tests (λ (c : ComparisonAt). c.place) cs (flat_map comparisons_at (all_instances p main)) are.rising (λ c w. let r = are.only c w in
      in_flat_map comparisons_at (all_instances p main) r.0 c (counted r.0 r.2)
      (in_flat_map (own_comparisons p r.0) (node_parts r.0.node) r.1 c r.3 (own_there p r.0 r.1 c r.4))) in
      let b = total_less (λ (i : Instance). total tests (comparisons_at i)) (λ (i : Instance). order_tests p i.node) (all_instances p main)
      (λ i v. let c = total_flat_map tests (own_comparisons p i) (node_parts i.node) in
      let d = total_less (λ (e : Tree). total tests (own_comparisons p i e)) (own_tests p i.node) (node_parts i.node) (λ e w. own_few p i e) in
      omega (arith, c, d)) in
      omega (arith, few, total_flat_map tests comparisons_at (all_instances p main), b)

  -- how long the list of all variables is
  pub length_variables : (bs : List Bit) (are : AreVariables p main (map variable_of bs)) → length bs
      ≡ 2 * (1 + length are.ticks + total (λ (m : MemoryAt). kind_bits p m.kind) are.memories)
      + (total (kind_bits p) (decl_kinds p (node_of p main).inputs) + total tests are.comparisons)
  length_variables bs are =
      let state = MainTick ∷ map Tick are.ticks ++ memory_variables p are.memories in
      let given = input_variables p 0 (decl_kinds p (node_of p main).inputs) in
      let whole = sym (length-map bs variable_of) ∙ ap length are.list in
      let parts = length-append (with_copies state) (given ++ test_variables are.comparisons) in
      let rest = length-append given (test_variables are.comparisons) in
      let kept = length-append (map Tick are.ticks) (memory_variables p are.memories) in
      let inputs = length_inputs p 0 (decl_kinds p (node_of p main).inputs) in let memories = length_memories p are.memories in
      omega (arith, whole, parts, rest, kept, inputs, memories, length_copies state, length-map are.ticks Tick, length_tests are.comparisons)

  pub few_variables : (bs : List Bit) → AreVariables p main (map variable_of bs) → variable_count p main ≤ 4096 → length bs ≤ 4096
  few_variables bs are few =
      let kept = memories_few are.memories are.are_memories in
      omega (arith, length_variables bs are, ticks_few are.ticks are.are_ticks, kept, tests_few are.comparisons are.are_comparisons, few)

-- no enumeration has more labels than it may have
pub few_labels : (ds : List TypeDecl) → ((d : TypeDecl) → Contains ds d → label_count d ≤ 256) → all_few 256 (map (λ d. texts (labels_of d)) ds) ≡ true
few_labels [] few = refl
few_labels (d ∷ ds) few =
    let long : length (texts (labels_of d)) ≡ label_count d = length-map (labels_of d) (λ x. x.text) in
    let below = few d (at_head d ds) in
    let here : nat_le (length (texts (labels_of d))) 256 ≡ true = le-leb (length (texts (labels_of d))) 256 (omega (arith, below, long)) in
    ap (λ t. t && all_few 256 (map (λ d. texts (labels_of d)) ds)) here ∙ few_labels ds (λ x w. few x (in_tail d ds x w))
