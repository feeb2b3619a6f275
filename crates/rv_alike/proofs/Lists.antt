-- The lists of a program that are in order: there is one of each.
use Rattle.std.proofs.Common.{◌≡◌, ℕ, ◌<◌, ℤ, pos, List, ◌∷◌, ◌++◌, length, map, get_or, sym, ◌∙◌, subst, arith}
use Rattle.std.proofs.{lemmas.Int.ints, lemmas.List.get_or_default}
use Rattle.std.specs.{Prelude.slice_index_or, Prelude.◌<ℤ◌, List.Contains}
use Rattle.rv_tree.specs.{Tree.ProgramTree, Places.Identifier, Places.Sites}
use Rattle.rv_types.specs.Lists.{MemoryAt, AreMemories, IsAny, AreTicks, ComparisonAt, AreComparisons, Variable, MainTick, Tick, with_copies, memory_variables}
use Rattle.rv_types.specs.Lists.{input_variables, test_variables, AreVariables, Column, memory_columns, input_columns, AreColumns}
use Rattle.rv_types.specs.{Kinds.decl_kinds, Instances.node_of}
use Rattle.rv_flat.specs.Thresholds.{AreThresholds}
use Rattle.rv_alike.proofs.Rising.{AreSorted, sorted_by, one_sorted, one_rising, one_places}

module _ (program : ProgramTree) (main : Identifier) where
  pub one_memories : (ms ns : List MemoryAt) → AreMemories program main IsAny ms → AreMemories program main IsAny ns → ms ≡ ns
  one_memories ms ns a b = one_rising (λ (m : MemoryAt). m.place) ms ns a.rising b.rising
      (λ m w. let r = a.only m w in subst (Contains ns) (sym r.5) (b.all r.0 r.1 r.2 tt r.4))
      (λ m w. let r = b.only m w in subst (Contains ms) (sym r.5) (a.all r.0 r.1 r.2 tt r.4))

  pub one_ticks : (ps qs : List Sites) → AreTicks program main ps → AreTicks program main qs → ps ≡ qs
  one_ticks ps qs a b = one_places ps qs a.rising b.rising
      (λ p w. let r = a.only p w in b.all r.0 r.1 p r.2 r.3 r.4 r.5)
      (λ p w. let r = b.only p w in a.all r.0 r.1 p r.2 r.3 r.4 r.5)

  one_comparisons : (cs ds : List ComparisonAt) → AreComparisons program main cs → AreComparisons program main ds → cs ≡ ds
  one_comparisons cs ds a b = one_rising (λ (c : ComparisonAt). c.place) cs ds a.rising b.rising
      (λ c w. let r = a.only c w in b.all r.0 r.1 c r.2 r.3 r.4)
      (λ c w. let r = b.only c w in a.all r.0 r.1 c r.2 r.3 r.4)

  pub one_variables : (vs ws : List Variable) → AreVariables program main vs → AreVariables program main ws → vs ≡ ws
  one_variables vs ws a b =
      let ticks = one_ticks a.ticks b.ticks a.are_ticks b.are_ticks in
      let memories = one_memories a.memories b.memories a.are_memories b.are_memories in
      let comparisons = one_comparisons a.comparisons b.comparisons a.are_comparisons b.are_comparisons in
      a.list
      ∙ (λ i. with_copies (MainTick ∷ map Tick (ticks i) ++ memory_variables program (memories i))
      ++ (input_variables program 0 (decl_kinds program (node_of program main).inputs) ++ test_variables (comparisons i)))
      ∙ sym b.list

  pub one_columns : (cs ds : List Column) → AreColumns program main cs → AreColumns program main ds → cs ≡ ds
  one_columns cs ds a b =
      let memories = one_memories a.memories b.memories a.are_memories b.are_memories in
      a.list ∙ (λ i. memory_columns (memories i) ++ input_columns 0 (decl_kinds program (node_of program main).inputs)) ∙ sym b.list

-- of two integers only one is below the other
below_once : (x y : ℤ) → x <ℤ y → y <ℤ x → ⊥
below_once x y a b = absurd (omega (arith, ints))

one_rising_integers : (xs ys : List ℤ) → ((j k : ℕ) → j < k → k < length xs → slice_index_or xs j (pos 0) <ℤ slice_index_or xs k (pos 0))
    → ((j k : ℕ) → j < k → k < length ys → slice_index_or ys j (pos 0) <ℤ slice_index_or ys k (pos 0))
    → ((z : ℤ) → Contains xs z → Contains ys z) → ((z : ℤ) → Contains ys z → Contains xs z) → xs ≡ ys
one_rising_integers xs ys a b to from =
    one_sorted ℤ (λ x y. x <ℤ y) below_once xs ys (integers_sorted xs a) (integers_sorted ys b) to from
  where
    integers_sorted : (zs : List ℤ) → ((j k : ℕ) → j < k → k < length zs → slice_index_or zs j (pos 0) <ℤ slice_index_or zs k (pos 0))
        → AreSorted ℤ (λ x y. x <ℤ y) zs
    integers_sorted zs rising = sorted_by ℤ (λ x y. x <ℤ y) zs
        (λ j k d less lt.
        subst (λ z. z <ℤ get_or zs k d) (get_or_default zs j (pos 0) d (omega (arith, less, lt)))
        (subst (λ z. get_or zs j (pos 0) <ℤ z) (get_or_default zs k (pos 0) d lt) (rising j k less lt)))

pub one_thresholds : (program : ProgramTree) (xs ys : List ℤ) → AreThresholds program xs → AreThresholds program ys → xs ≡ ys
one_thresholds program xs ys a b = one_rising_integers xs ys a.rising b.rising (λ z w. b.all z (a.only z w)) (λ z w. a.all z (b.only z w))
