-- What the memories of a flat system show ends: a memory shows only such as take less of the source.
use Rattle.std.proofs.Common.{◌≡◌, inl, inr, ℕ, zero, suc, ◌+◌, ◌<◌, ◌≤◌, ℤ, Bool, true, false, cond, nat_lt, List, [], ◌∷◌, ◌++◌, map, length, slice_get}
use Rattle.std.proofs.Common.{slice_index_or, refl, sym, ◌∙◌, ap, subst, arith, Option, Some, None as Nothing}
use Rattle.std.proofs.lemmas.List.Elements.{Contains-append_left, Contains-append_right, Contains-append_cases}
use Rattle.std.proofs.{lemmas.Bool.cases_eq, lemmas.Bool.and_from, lemmas.Bool.Decides.nat_tests, lemmas.List.length-map, lemmas.List.get_or-map}
use Rattle.std.proofs.{lemmas.Option.slice_get_within, lemmas.Option.get_or_from_slice_get}
use Rattle.std.specs.List.{Contains}
use Rattle.rv_tree.specs.{declared.tree.Op.Op, Tree.Tree, Tree.Form, Tree.Trees, Tree.ProgramTree, Places.Identifier, Places.Sites, Places.is_flow}
use Rattle.rv_tree.specs.{Places.index_of, Delays.Delay, Delays.delays, Delays.form_delays, Delays.delays_of_all, Delays.node_delays}
use Rattle.rv_tree.specs.declared.tree.Op.TheVariants as op
use Rattle.rv_tree.specs.Tree as tree
use Rattle.rv_types.specs.Instances.{Instance, IsInstance, IsNode}
use Rattle.rv_types.specs.{Lists.delay_place, Scopes.node_scope, Types.is_constant, WellFormed.AreWell}
use Rattle.rv_agreement.specs.{Programs.coefficient, Translation.Numbers}
use Rattle.rv_flat.specs.{declared.parts.Bit.Bit, declared.parts.FlatExpr.FlatExpr, declared.parts.FlatFlow.FlatFlow, declared.parts.FlatInput.FlatInput}
use Rattle.rv_flat.specs.{declared.parts.FlatMemory.FlatMemory, Inlined.all_end, Inlined.ends_within, Inlined.shown_ends, RawTree.RawTree, RawTree.RawForm}
use Rattle.rv_flat.specs.{RawTree.raw_tree, RawTree.all_shown, RawTree.form_all_shown, RawTree.each_all_shown, Systems.memory_places_of}
use Rattle.rv_flatten.specs.Readings.{RawItem, no_raw, raw_memory, raw_of, raws_of, numbers_of, operator, product, IsRead}
use Rattle.rv_flatten.proofs.{OnePlace.one_of_place, Translated.memory_there}
use Rattle.rv_meaning.proofs.Standing.{operand_stands}
use Rattle.rv_base.proofs.Truths.{bits_within, less_told}
use Rattle.rv_types.proofs.{Members.among_from, Members.at_head, Members.cons_cases, Members.index_there, Members.nothing_in}

-- How many expressions an expression is made of.
abbrev mutual
  tree_size : Tree → ℕ
  tree_size (tree.Node at site form) = suc (form_size form)

  form_size : Form → ℕ
  form_size (tree.Not e) = tree_size e
  form_size (tree.Minus e) = tree_size e
  form_size (tree.Pre e) = tree_size e
  form_size (tree.Current e) = tree_size e
  form_size (tree.When e c) = tree_size e
  form_size (tree.Binary o a b) = tree_size a + tree_size b
  form_size (tree.If a b c) = tree_size a + (tree_size b + tree_size c)
  form_size (tree.AtMostOne es) = trees_size es
  form_size (tree.Call f es) = trees_size es
  form_size _ = 0

  trees_size : Trees → ℕ
  trees_size tree.None = 0
  trees_size (tree.More e es) = tree_size e + trees_size es

own_smaller : (site : Option ℕ) (e : Tree) (d : Delay) → Contains (record { site = site; operand = e } ∷ delays e) d
    → (Contains (delays e) d → tree_size d.operand < tree_size e) → tree_size d.operand ≤ tree_size e
own_smaller site e d w again = elim (cons_cases (record { site = site; operand = e }) (delays e) d w) [
  | inl is ↦ subst (λ (c : Delay). tree_size c.operand ≤ tree_size e) is (itself (tree_size e))
  | inr rest ↦ omega (arith, again rest)
]
  where
    itself : (n : ℕ) → n ≤ n
    itself n = omega arith

mutual
  -- what a `pre` or `current` in an expression remembers is smaller than that
  smaller : (e : Tree) (d : Delay) → Contains (delays e) d → tree_size d.operand < tree_size e
  smaller (tree.Node at site form) d w = omega (arith, form_smaller site form d w)

  form_smaller : (site : Option ℕ) (form : Form) (d : Delay) → Contains (form_delays site form) d → tree_size d.operand ≤ form_size form
  form_smaller site (tree.Not e) d w = omega (arith, smaller e d w)
  form_smaller site (tree.Minus e) d w = omega (arith, smaller e d w)
  form_smaller site (tree.Pre e) d w = own_smaller site e d w (smaller e d)
  form_smaller site (tree.Current e) d w = own_smaller site e d w (smaller e d)
  form_smaller site (tree.When e c) d w = omega (arith, smaller e d w)
  form_smaller site (tree.Binary o a b) d w = elim (Contains-append_cases (delays a) (delays b) d w) [
    | inl v ↦ omega (arith, smaller a d v)
    | inr v ↦ omega (arith, smaller b d v)
  ]
  form_smaller site (tree.If a b c) d w = elim (Contains-append_cases (delays a) (delays b ++ delays c) d w) [
    | inl v ↦ omega (arith, smaller a d v)
    | inr v ↦ elim (Contains-append_cases (delays b) (delays c) d v) [
      | inl u ↦ omega (arith, smaller b d u)
      | inr u ↦ omega (arith, smaller c d u)
    ]
  ]
  form_smaller site (tree.AtMostOne es) d w = all_smaller es d w
  form_smaller site (tree.Call f es) d w = all_smaller es d w
  form_smaller site _ d w = nothing_in d w

  all_smaller : (es : Trees) (d : Delay) → Contains (delays_of_all es) d → tree_size d.operand ≤ trees_size es
  all_smaller tree.None d w = nothing_in d w
  all_smaller (tree.More e es) d w = elim (Contains-append_cases (delays e) (delays_of_all es) d w) [
    | inl v ↦ omega (arith, smaller e d v)
    | inr v ↦ omega (arith, all_smaller es d v)
  ]

-- An expression of an instance shows the memories of the `current` in it.
module _ (has : ℕ → Bool) where
  name_shown : (b : Bool) (f g : RawForm) → form_all_shown has f ≡ true → form_all_shown has g ≡ true → form_all_shown has (cond b f g) ≡ true
  name_shown true f g p q = p
  name_shown false f g p q = q

  product_shown : (left : Bool) (y z : ℤ) (f g : RawTree) → all_shown has f ≡ true → all_shown has g ≡ true → form_all_shown has (product left y z f g) ≡ true
  product_shown true y z f g p q = q
  product_shown false y z f g p q = p

  operator_shown : (o : Op) (choice times : RawForm) (f g : RawTree) → form_all_shown has choice ≡ true → form_all_shown has times ≡ true
      → all_shown has f ≡ true → all_shown has g ≡ true → form_all_shown has (operator o choice times f g) ≡ true
  operator_shown op.Arrow choice times f g c t p q = c
  operator_shown op.Times choice times f g c t p q = t
  operator_shown _ choice times f g c t p q = and_from _ _ p q

  module _ (program : ProgramTree) (numbers : Numbers) (i : Instance) where
    -- the memory of a `pre` or `current` has the property
    abbrev HasAt : Delay → Type 0
    HasAt d = has (index_of numbers.memories (delay_place i d)) ≡ true

    mutual
      shown : (e : Tree) → ((d : Delay) → Contains (delays e) d → HasAt d) → all_shown has (raw_of program numbers i e) ≡ true
      shown (tree.Node at site (tree.Named x)) h = name_shown (is_flow i.node x) _ _ refl refl
      shown (tree.Node at site (tree.Not e)) h = shown e h
      shown (tree.Node at site (tree.Minus e)) h = shown e h
      shown (tree.Node at site (tree.Current e)) h = h (record { site = site; operand = e }) (at_head (record { site = site; operand = e }) (delays e))
      shown (tree.Node at site (tree.When e c)) h = shown e h
      shown (tree.Node at site (tree.Binary o a b)) h =
          let left = shown a (λ d w. h d (Contains-append_left (delays a) (delays b) d w)) in
          let right = shown b (λ d w. h d (Contains-append_right (delays a) (delays b) d w)) in
          operator_shown o _ _ (raw_of program numbers i a) (raw_of program numbers i b) (and_from _ _ right left)
          (product_shown (is_constant (node_scope program i.node) a) (coefficient program a) (coefficient program b) (raw_of program numbers i a)
          (raw_of program numbers i b) left right) left right
      shown (tree.Node at site (tree.If a b c)) h =
          let condition = shown a (λ d w. h d (Contains-append_left (delays a) (delays b ++ delays c) d w)) in
          let first = shown b (λ d w. h d (Contains-append_right (delays a) (delays b ++ delays c) d (Contains-append_left (delays b) (delays c) d w))) in
          let second = shown c (λ d w. h d (Contains-append_right (delays a) (delays b ++ delays c) d (Contains-append_right (delays b) (delays c) d w))) in
          and_from _ _ condition (and_from _ _ first second)
      shown (tree.Node at site (tree.AtMostOne es)) h = all_are_shown es h
      shown (tree.Node at site _) h = refl

      all_are_shown : (es : Trees) → ((d : Delay) → Contains (delays_of_all es) d → HasAt d) → each_all_shown has (raws_of program numbers i es) ≡ true
      all_are_shown tree.None h = refl
      all_are_shown (tree.More e es) h =
          and_from _ _ (shown e (λ d w. h d (Contains-append_left (delays e) (delays_of_all es) d w)))
          (all_are_shown es (λ d w. h d (Contains-append_right (delays e) (delays_of_all es) d w)))

abbrev one_if : Bool → ℕ
one_if b = cond b 1 0

-- How many of the first numbers pass a test.
abbrev counted : (ℕ → Bool) → ℕ → ℕ
counted p zero = 0
counted p (suc n) = one_if (p n) + counted p n

within_all : (p : ℕ → Bool) (n : ℕ) → counted p n ≤ n
within_all p zero = omega arith
within_all p (suc n) = by (p n) (within_all p n)
  where
    by : (b : Bool) → counted p n ≤ n → one_if b + counted p n ≤ suc n
    by true h = omega (arith, h)
    by false h = omega (arith, h)

-- one that does not pass is not counted
below_all : (p : ℕ → Bool) (n m : ℕ) → m < n → p m ≡ false → counted p n < n
below_all p zero m lt e = absurd (omega (arith, lt))
below_all p (suc n) m lt e = elim (cases_eq m n) [
  | inl same ↦ let none : one_if (p n) ≡ 0 = ap one_if (ap p (sym same) ∙ e) in omega (arith, within_all p n, none)
  | inr other ↦ by (p n) (below_all p n m (omega (arith, lt, other)) e)
]
  where
    by : (b : Bool) → counted p n < n → one_if b + counted p n < suc n
    by true h = omega (arith, h)
    by false h = omega (arith, h)

-- what passes the one test passes the other
abbrev Implied : (ℕ → Bool) → (ℕ → Bool) → Type 0
Implied p q = (k : ℕ) → p k ≡ true → q k ≡ true

no_more : (p q : ℕ → Bool) → Implied p q → (n : ℕ) → counted p n ≤ counted q n
no_more p q h zero = omega arith
no_more p q h (suc n) = omega (arith, bits_within (p n) (q n) (h n), no_more p q h n)

fewer : (p q : ℕ → Bool) → Implied p q → (n m : ℕ) → m < n → p m ≡ false → q m ≡ true → counted p n < counted q n
fewer p q h zero m lt a b = absurd (omega (arith, lt))
fewer p q h (suc n) m lt a b = elim (cases_eq m n) [
  | inl same ↦
      let none : one_if (p n) ≡ 0 = ap one_if (ap p (sym same) ∙ a) in
      let one : one_if (q n) ≡ 1 = ap one_if (ap q (sym same) ∙ b) in
      omega (arith, none, one, no_more p q h n)
  | inr other ↦ omega (arith, bits_within (p n) (q n) (h n), fewer p q h n m (omega (arith, lt, other)) a b)
]

-- Memories of which each shows only such as have a smaller size.
module _ (sizes : ℕ → ℕ) where
  -- how many are smaller
  abbrev rank : ℕ → ℕ → ℕ
  rank n k = counted (λ j. nat_lt (sizes j) (sizes k)) n

  is_less : (a b : ℕ) → nat_lt a b ≡ true → a < b
  is_less a b e = grind (arith, nat_tests, e)

  not_less : (a : ℕ) → nat_lt a a ≡ false
  not_less a = grind (arith, nat_tests)

  rank_below : (n k : ℕ) → k < n → rank n k < n
  rank_below n k lt = below_all (λ j. nat_lt (sizes j) (sizes k)) n k lt (not_less (sizes k))

  rank_falls : (n j k : ℕ) → j < n → sizes j < sizes k → rank n j < rank n k
  rank_falls n j k lt less =
      fewer (λ i. nat_lt (sizes i) (sizes j)) (λ i. nat_lt (sizes i) (sizes k))
      (λ i e. less_told (sizes i) (sizes k) (omega (arith, is_less (sizes i) (sizes j) e, less)))
      n j lt (not_less (sizes j)) (less_told (sizes j) (sizes k) less)

  module _ (ms : List FlatMemory)
      (falls : (k : ℕ) (m : FlatMemory) → slice_get ms k ≡ Some m → (has : ℕ → Bool) → ((j : ℕ) → j < length ms → sizes j < sizes k → has j ≡ true)
      → all_shown has (raw_tree m.body) ≡ true) where
    -- what a memory shows ends within as many times as there are smaller ones, and once more
    ends : (n k : ℕ) → rank (length ms) k < n → ends_within ms n k ≡ true
    ends zero k lt = absurd (omega (arith, lt))
    ends (suc n) k lt = by (slice_get ms k) refl (ends n)
      where
        by : (o : Option FlatMemory) → slice_get ms k ≡ o → ((j : ℕ) → rank (length ms) j < n → ends_within ms n j ≡ true)
            → shown_ends (ends_within ms n) o ≡ true
        by Nothing e again = refl
        by (Some m) e again = falls k m e (ends_within ms n) (λ j within less. again j (omega (arith, rank_falls (length ms) j k within less, lt)))

    all_of_them : (n : ℕ) → n ≤ length ms → all_end ms n ≡ true
    all_of_them zero le = refl
    all_of_them (suc n) le = and_from _ _ (ends (length ms) n (rank_below (length ms) n (omega (arith, le)))) (all_of_them n (omega (arith, le)))

-- The memories that are read from a program.
module _ (program : ProgramTree) (main : Identifier) (well : AreWell program) (named_main : IsNode program main) (flows : List FlatFlow)
    (memories : List FlatMemory) (inputs : List FlatInput) (variables : List Bit) (assertions : List FlatExpr)
    (read : IsRead program main flows memories inputs variables assertions) where
  below : (k : ℕ) → nat_lt k (length memories) ≡ true → k < length memories
  below k e = grind (arith, nat_tests, e)

  -- the size of what a memory takes
  abbrev sized : (k : ℕ) (b : Bool) → nat_lt k (length memories) ≡ b → ℕ
  sized k true e = tree_size (read.memory k (below k e)).1.operand
  sized k false e = 0

  abbrev size_at : ℕ → ℕ
  size_at k = sized k (nat_lt k (length memories)) refl

  -- it is that of each `pre` and `current` at its place
  size_is : (k : ℕ) (i : Instance) (d : Delay) → k < length memories → IsInstance program main i → Contains (node_delays i.node) d
      → slice_index_or (memory_places_of memories) k [] ≡ delay_place i d → size_at k ≡ tree_size d.operand
  size_is k i d lt is w at = by (nat_lt k (length memories)) refl
    where
      there : (a n : ℕ) → a < n → nat_lt a n ≡ false → ⊥
      there a n lt e = grind (arith, nat_tests, lt, e)

      by : (b : Bool) (e : nat_lt k (length memories) ≡ b) → sized k b e ≡ tree_size d.operand
      by true e =
          let r = read.memory k (below k e) in
          one_of_place program main well named_main ℕ (λ i d. tree_size d.operand) (λ i x. 1) (λ i d x is. ap tree_size is.2) r.0 i r.1 d r.2 is r.3 w
          (sym r.4 ∙ at)
      by false e = absurd (there k (length memories) lt e)

  -- each has a memory, with the number of its place
  pub number_there : (i : Instance) (d : Delay) → IsInstance program main i → Contains (node_delays i.node) d
      → (index_of (memory_places_of memories) (delay_place i d) < length memories)
      × (slice_index_or (memory_places_of memories) (index_of (memory_places_of memories) (delay_place i d)) [] ≡ delay_place i d)
  number_there i d is w =
      let q : Sites = delay_place i d in
      let there = memory_there program main memories read.list i d is w in
      let at = index_there (memory_places_of memories) q (among_from (memory_places_of memories) q there) in
      let many = length-map memories (λ m. m.place.sites) in
      (omega (arith, at.0, many), at.1)

  shows_smaller : (k : ℕ) (m : FlatMemory) → slice_get memories k ≡ Some m → (has : ℕ → Bool)
      → ((j : ℕ) → j < length memories → size_at j < size_at k → has j ≡ true) → all_shown has (raw_tree m.body) ≡ true
  shows_smaller k m e has smaller_have =
      let lt = slice_get_within memories k m e in let r = read.memory k lt in
      let at : slice_index_or (map raw_memory memories) k no_raw ≡ raw_memory m = get_or-map raw_memory memories k m no_raw lt
      ∙ ap raw_memory (get_or_from_slice_get memories k m m e) in
      let body : raw_tree m.body ≡ raw_of program (numbers_of flows memories variables) r.0 r.1.operand = ap (λ (x : RawItem). x.body) (sym at ∙ r.5) in
      subst (λ t. all_shown has t ≡ true) (sym body) (shown has program (numbers_of flows memories variables) r.0 r.1.operand (λ d w.
      let inside : Contains (node_delays r.0.node) d = (operand_stands r.0.node r.1 r.3).delays d w in
      let n : ℕ = index_of (memory_places_of memories) (delay_place r.0 d) in
      let there = number_there r.0 d r.2 inside in let own = size_is k r.0 r.1 lt r.2 r.3 r.4 in
      let other = size_is n r.0 d there.0 r.2 inside there.1 in let less = smaller r.1.operand d w in
      smaller_have n there.0 (omega (arith, own, other, less))))

  -- What they show ends.
  pub memories_end : all_end memories (length memories) ≡ true
  memories_end = all_of_them size_at memories shows_smaller (length memories) (itself (length memories))
    where
      itself : (n : ℕ) → n ≤ n
      itself n = omega arith
