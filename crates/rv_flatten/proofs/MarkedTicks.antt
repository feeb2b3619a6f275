-- The ticks of a program are the flows that are marked for the clocks of its `->`.
use Rattle.std.proofs.Common.{◌≡◌, ◌⊎◌, inl, inr, ℕ, zero, suc, ◌+◌, ◌<◌, ◌^◌, Bool, true, false, cond, List, [], ◌∷◌, ◌++◌, map, length, get_or, replicate}
use Rattle.std.proofs.Common.{set, refl, sym, ◌∙◌, ap, subst, arith, length-set, get_or-set_same, get_or-set_other, Option, Some, None as Nothing}
use Rattle.std.proofs.lemmas.List.{get_or-map, length-map, length-replicate}
use Rattle.std.proofs.lemmas.List.Elements.{Contains-append_right, Contains-get_or}
use Rattle.std.proofs.{lemmas.Bool.cases_eq, lemmas.Option.none-some, lemmas.Option.same_Some}
use Rattle.std.specs.List.{Contains}
use Rattle.rv_tree.specs.{Tree.Tree, Tree.NodeTree, Tree.ProgramTree, Places.Identifier, Places.Sites, Places.flows}
use Rattle.rv_types.specs.Instances.{Instance, IsInstance, absolute, clock_in, taken}
use Rattle.rv_types.specs.{declared.typed.Clock.Clock, declared.typed.Clock.TheVariants.Base, declared.typed.Clock.TheVariants.On, Clocks.pace, Needs.IsBefore}
use Rattle.rv_types.specs.{Variables.is_arrow, Variables.node_parts, Lists.AreRising, Lists.AreTicks}
use Rattle.rv_instances.specs.Layouts.{Here, IsHere, IsNumberOf, IsClockPlaced, IsWithin, here_of, node_at, all_places}
use Rattle.rv_instances.specs.{declared.answer.Instance.Instance as Numbered, declared.layout.Layout.Layout, Expanded.IsExpanded, Flowing.place_at}
use Rattle.rv_instances.specs.{Flowing.AreFlowPlaces, Flowing.IsKnownClock, NumberedNeeds.listed, NumberedNeeds.clock_number}
use Rattle.rv_flatten.specs.Arrows.{node_arrows, arrow_numbers, arrow_numbers_to, with_marks, marked_from}
use Rattle.rv_flatten.specs.NodeReaders.{lists_to}
use Rattle.rv_flatten.proofs.InstanceNumbers.{from_lists, in_lists}
use Rattle.rv_instances.proofs.ExpandedLaws.{instance_at, node_is, number_at}
use Rattle.rv_flatten.proofs.{ArrowClocks.node_comes, ArrowClocks.node_only, ArrowClocks.arrow_known, MainNames.is_node}
use Rattle.rv_types.proofs.Members.{at_head, cons_cases, in_flat_map, in_map, in_tail, nothing_in, of_flat_map}
use Rattle.rv_types.proofs.ChainLaws.{no_flag}
use Rattle.rv_base.proofs.Lists.{set_keeps}
use Rattle.rv_meaning.proofs.Acceptable.{formed, typed}

-- Marks.

pub marks_size : (ms : List Bool) (ns : List ℕ) → length (with_marks ms ns) ≡ length ms
marks_size ms [] = refl
marks_size ms (n ∷ ns) = marks_size (set ms n true) ns ∙ length-set ms n true

marks_stay : (ms : List Bool) (ns : List ℕ) (k : ℕ) → get_or ms k false ≡ true → get_or (with_marks ms ns) k false ≡ true
marks_stay ms [] k e = e
marks_stay ms (n ∷ ns) k e = marks_stay (set ms n true) ns k (set_keeps ms n k e)

-- each number is marked
mark_made : (ms : List Bool) (ns : List ℕ) (k : ℕ) → Contains ns k → k < length ms → get_or (with_marks ms ns) k false ≡ true
mark_made ms [] k w lt = nothing_in k w
mark_made ms (n ∷ ns) k w lt = elim (cons_cases n ns k w) [
  | inl same ↦ marks_stay (set ms n true) ns k (ap (λ j. get_or (set ms j true) k false) same ∙ get_or-set_same ms k true false lt)
  | inr rest ↦ let size = length-set ms n true in mark_made (set ms n true) ns k rest (omega (arith, lt, size))
]

-- and no other
mark_only : (ms : List Bool) (ns : List ℕ) (k : ℕ) → get_or (with_marks ms ns) k false ≡ true → (get_or ms k false ≡ true) ⊎ Contains ns k
mark_only ms [] k e = inl e
mark_only ms (n ∷ ns) k e = elim (mark_only (set ms n true) ns k e) [
  | inl before ↦ elim (cases_eq k n) [
    | inl same ↦ inr (subst (λ j. Contains (j ∷ ns) k) same (at_head k ns))
    | inr other ↦ inl (sym (get_or-set_other ms n k true false other) ∙ before)
  ]
  | inr rest ↦ inr (in_tail n ns k rest)
]

none_marked : (n k : ℕ) → get_or (replicate n false) k false ≡ true → ⊥
none_marked zero k e = no_flag e
none_marked (suc n) zero e = no_flag e
none_marked (suc n) (suc k) e = none_marked n k e

-- The numbers that are marked.

some_marked : (j : ℕ) (bs : List Bool) (k : ℕ) → get_or bs k false ≡ true → Contains (marked_from j bs) (j + k)
some_marked j [] k e = no_flag e
some_marked j (b ∷ bs) zero e = subst (λ c. Contains (cond c (j ∷ []) [] ++ marked_from (j + 1) bs) (j + 0)) (sym e)
    (0, omega arith, (let same : j ≡ j + 0 = omega arith in same))
some_marked j (b ∷ bs) (suc k) e =
    let same : (j + 1) + k ≡ j + suc k = omega arith in
    Contains-append_right (cond b (j ∷ []) []) (marked_from (j + 1) bs) (j + suc k)
    (subst (Contains (marked_from (j + 1) bs)) same (some_marked (j + 1) bs k e))

-- the number is one of the flags, and that is set
marked_is : (j : ℕ) (bs : List Bool) (n : ℕ) → Contains (marked_from j bs) n → (k : ℕ) × (k < length bs) × (n ≡ j + k) × (get_or bs k false ≡ true)
marked_is j [] n w = nothing_in n w
marked_is j (true ∷ bs) n w = elim (cons_cases j (marked_from (j + 1) bs) n w) [
  | inl same ↦ (0, omega arith, (omega (arith, same)), refl)
  | inr rest ↦
      let r = marked_is (j + 1) bs n rest in let lt = r.1 in let at = r.2 in
      (suc r.0, omega (arith, lt), omega (arith, at), r.3)
]
marked_is j (false ∷ bs) n w =
    let r = marked_is (j + 1) bs n w in let lt = r.1 in let at = r.2 in
    (suc r.0, omega (arith, lt), omega (arith, at), r.3)

marked_rising : (j : ℕ) (bs : List Bool) (a b : ℕ) → a < b → b < length (marked_from j bs) → get_or (marked_from j bs) a 0 < get_or (marked_from j bs) b 0
marked_rising j [] a b lt less = absurd (omega (arith, less))
marked_rising j (false ∷ bs) a b lt less = marked_rising (j + 1) bs a b lt less
marked_rising j (true ∷ bs) a zero lt less = absurd (omega (arith, lt))
marked_rising j (true ∷ bs) zero (suc b) lt less =
    let within : b < length (marked_from (j + 1) bs) = omega (arith, less) in
    let r = marked_is (j + 1) bs (get_or (marked_from (j + 1) bs) b 0) (Contains-get_or (marked_from (j + 1) bs) b 0 within) in
    omega (arith, r.2)
marked_rising j (true ∷ bs) (suc a) (suc b) lt less = marked_rising (j + 1) bs a b (omega (arith, lt)) (omega (arith, less))

-- The numbers of the clocks of all instances.

arrows_listed : (p : ProgramTree) (instances : List Numbered) (l : Layout) (n : ℕ) → lists_to (arrow_numbers p instances l) n ≡ arrow_numbers_to p instances l n
arrows_listed p instances l zero = refl
arrows_listed p instances l (suc n) = ap (λ ks. ks ++ arrow_numbers p instances l n) (arrows_listed p instances l n)

numbers_there : (p : ProgramTree) (instances : List Numbered) (l : Layout) (n m k : ℕ) → m < n → Contains (arrow_numbers p instances l m) k
    → Contains (arrow_numbers_to p instances l n) k
numbers_there p instances l n m k lt w = subst (λ ks. Contains ks k) (arrows_listed p instances l n) (in_lists (arrow_numbers p instances l) n m k lt w)

numbers_from : (p : ProgramTree) (instances : List Numbered) (l : Layout) (n k : ℕ) → Contains (arrow_numbers_to p instances l n) k
    → (m : ℕ) × (m < n) × Contains (arrow_numbers p instances l m) k
numbers_from p instances l n k w = from_lists (arrow_numbers p instances l) n k (subst (λ ks. Contains ks k) (sym (arrows_listed p instances l n)) w)

-- a number that is listed is there
listed_is : (o : Option ℕ) (k : ℕ) → Contains (listed o) k → o ≡ Some k
listed_is Nothing k w = nothing_in k w
listed_is (Some j) k w = elim (cons_cases j [] k w) [ inl same ↦ ap Some same | inr rest ↦ nothing_in k rest ]

is_listed : (o : Option ℕ) (k : ℕ) → o ≡ Some k → Contains (listed o) k
is_listed o k e = subst (λ c. Contains (listed c) k) (sym e) (at_head k [])

-- The number of the flow of a clock of an instance is placed there.
clock_placed : (p : ProgramTree) (places : List Sites) (i : Instance) (h : Here) → IsHere p places i h → (k : Clock) → IsKnownClock i.node k
    → IsClockPlaced places (clock_number h k) (absolute i k)
clock_placed p places i h here Base known = here.base
clock_placed p places i h here (On s) known = here.flow s known

to_number : (places : List Sites) (o : Option ℕ) (q : Option Sites) (r : Sites) → IsClockPlaced places o q → q ≡ Some r
    → (k : ℕ) × (o ≡ Some k) × (k < length places) × (place_at places k ≡ r)
to_number places Nothing Nothing r h e = absurd (none-some r e)
to_number places (Some k) (Some q) r h e = (k, refl, h.0, h.1 ∙ same_Some q r e)
to_number places Nothing (Some q) r h e = absurd h
to_number places (Some k) Nothing r h e = absurd h

to_place : (places : List Sites) (o : Option ℕ) (q : Option Sites) (k : ℕ) → IsClockPlaced places o q → o ≡ Some k → q ≡ Some (place_at places k)
to_place places Nothing Nothing k h e = absurd (none-some k e)
to_place places (Some j) (Some q) k h e = ap Some (sym h.1 ∙ ap (place_at places) (same_Some j k e))
to_place places Nothing (Some q) k h e = absurd h
to_place places (Some j) Nothing k h e = absurd h

module _ (p : ProgramTree) (main : Identifier) (instances : List Numbered) (l : Layout) (known : IsExpanded p main instances)
    (here : (m : ℕ) (i : Instance) → IsInstance p main i → IsNumberOf p instances m i → IsHere p (all_places p instances) i (here_of l m)) where
  -- a clock of an instance that comes is known
  known_clock : (i : Instance) → IsInstance p main i → (k : Clock) → Contains (node_arrows i.node) k → IsKnownClock i.node k
  known_clock i is k w =
      let named = is_node p main known.declared in
      arrow_known p i.node (typed p main known.well named i is) (formed p main known.well named i is) k w

  -- the number of a tick comes
  tick_comes : (i : Instance) (e : Tree) (q : Sites) → IsInstance p main i → Contains (node_parts i.node) e → is_arrow e ≡ true → clock_in i Base e ≡ Some q
      → (k : ℕ) × Contains (arrow_numbers_to p instances l (length instances)) k × (k < length (all_places p instances))
      × (place_at (all_places p instances) k ≡ q)
  tick_comes i e q is w arrow at =
      let number = number_at p main instances known i is in let m = number.0 in
      let at_m : IsNumberOf p instances m i = (number.1, number.2) in
      let c = taken Base (pace i.node e) in let v = node_comes i.node e w arrow in
      let r = to_number (all_places p instances) (clock_number (here_of l m) c) (absolute i c) q
      (clock_placed p (all_places p instances) i (here_of l m) (here m i is at_m) c (known_clock i is c v)) at in
      let there : Contains (node_arrows (node_at p instances m)) c =
      subst (λ (n : NodeTree). Contains (node_arrows n) c) (sym (node_is p main instances known m i is at_m.1)) v in
      let comes = in_flat_map (λ (d : Clock). listed (clock_number (here_of l m) d)) (node_arrows (node_at p instances m)) c r.0 there
      (is_listed (clock_number (here_of l m) c) r.0 r.1) in
      (r.0, numbers_there p instances l (length instances) m r.0 at_m.0 comes, r.2, r.3)

  -- and what comes is that of a tick
  tick_of : (k : ℕ) → Contains (arrow_numbers_to p instances l (length instances)) k
      → (i : Instance) × (e : Tree) × IsInstance p main i × Contains (node_parts i.node) e × (is_arrow e ≡ true)
      × (clock_in i Base e ≡ Some (place_at (all_places p instances) k))
  tick_of k w =
      let from = numbers_from p instances l (length instances) k w in
      let m = from.0 in let one = instance_at p main instances known m from.1 in let i = one.0 in
      let at_m : IsNumberOf p instances m i = (from.1, one.2) in
      let r = of_flat_map (λ (d : Clock). listed (clock_number (here_of l m) d)) (node_arrows (node_at p instances m)) k from.2 in
      let c = r.0 in
      let there : Contains (node_arrows i.node) c = subst (λ (n : NodeTree). Contains (node_arrows n) c) (node_is p main instances known m i one.1 one.2) r.1 in
      let arrow = node_only i.node c there in
      let placed = clock_placed p (all_places p instances) i (here_of l m) (here m i one.1 at_m) c (known_clock i one.1 c there) in
      let at = to_place (all_places p instances) (clock_number (here_of l m) c) (absolute i c) k placed (listed_is (clock_number (here_of l m) c) k r.2) in
      (i, arrow.0, one.1, arrow.1, arrow.2, ap (absolute i) arrow.3 ∙ at)

  module _ (numbers ticks : List ℕ) (marks : List Bool) (are : numbers ≡ arrow_numbers_to p instances l (length instances))
      (marked : marks ≡ with_marks (replicate (length (all_places p instances)) false) numbers) (found : ticks ≡ marked_from 0 marks) where
    marks_long : length marks ≡ length (all_places p instances)
    marks_long = ap length marked ∙ marks_size (replicate (length (all_places p instances)) false) numbers
        ∙ length-replicate (length (all_places p instances)) false

    -- what is found is a flow
    pub ticks_within : (k : ℕ) → Contains ticks k → k < length (all_places p instances)
    ticks_within k w =
        let r = marked_is 0 marks k (subst (λ ks. Contains ks k) found w) in
        omega (arith, r.1, r.2, marks_long)

    -- that of a tick
    tick_found : (k : ℕ) → Contains ticks k → Contains (arrow_numbers_to p instances l (length instances)) k
    tick_found k w =
        let r = marked_is 0 marks k (subst (λ ks. Contains ks k) found w) in
        let same : r.0 ≡ k = (omega (arith, r.2)) in
        let is : get_or (with_marks (replicate (length (all_places p instances)) false) numbers) k false ≡ true = ap (λ bs. get_or bs k false) (sym marked)
        ∙ ap (λ j. get_or marks j false) (sym same) ∙ r.3 in
        subst (λ ns. Contains ns k) are (elim (mark_only (replicate (length (all_places p instances)) false) numbers k is) [
          | inl before ↦ absurd (none_marked (length (all_places p instances)) k before)
          | inr v ↦ v
        ])

    -- and each is found
    found_tick : (k : ℕ) → k < length (all_places p instances) → Contains (arrow_numbers_to p instances l (length instances)) k → Contains ticks k
    found_tick k lt w =
        let long : length (replicate {A = Bool} (length (all_places p instances)) false) ≡ length (all_places p instances) = length-replicate
        (length (all_places p instances)) false in
        let made = mark_made (replicate (length (all_places p instances)) false) numbers k (subst (λ ns. Contains ns k) (sym are) w)
        (omega (arith, lt, long)) in
        let there = some_marked 0 marks k (ap (λ bs. get_or bs k false) marked ∙ made) in
        let same : 0 + k ≡ k = omega arith in
        subst (λ ks. Contains ks k) (sym found) (subst (Contains (marked_from 0 marks)) same there)

    module _ (placed : AreFlowPlaces p main (all_places p instances)) where
      pub are_ticks : AreTicks p main (map (place_at (all_places p instances)) ticks)
      are_ticks = record {
        rising = rising;
        all = λ i e q is w arrow at.
            let r = tick_comes i e q is w arrow at in
            subst (Contains (map (place_at (all_places p instances)) ticks)) r.3
            (in_map (place_at (all_places p instances)) ticks r.0 (found_tick r.0 r.2 r.1));
        only = λ q w.
            let many = length-map ticks (place_at (all_places p instances)) in
            let less : w.0 < length ticks = (omega (arith, w.1, many)) in
            let k = get_or ticks w.0 0 in
            let r = tick_of k (tick_found k (Contains-get_or ticks w.0 0 less)) in
            let same : place_at (all_places p instances) k ≡ q = sym (get_or-map (place_at (all_places p instances)) ticks w.0 0 q less) ∙ w.2 in
            (r.0, r.1, r.2, r.3, r.4, r.5 ∙ ap Some same);
      }
        where
          rising : AreRising (map (place_at (all_places p instances)) ticks)
          rising j k lt less =
              let many = length-map ticks (place_at (all_places p instances)) in
              let within : k < length ticks = omega (arith, less, many) in
              let before : j < length ticks = omega (arith, lt, within) in
              let numbers_rise : get_or ticks j 0 < get_or ticks k 0 =
              subst (λ ks. get_or ks j 0 < get_or ks k 0) (sym found) (marked_rising 0 marks j k lt (subst (λ ks. k < length ks) found within)) in
              let h = placed.rising (get_or ticks j 0) (get_or ticks k 0) numbers_rise (ticks_within (get_or ticks k 0) (Contains-get_or ticks k 0 within)) in
              subst (λ q. IsBefore q (get_or (map (place_at (all_places p instances)) ticks) k []))
              (sym (get_or-map (place_at (all_places p instances)) ticks j 0 [] before))
              (subst (λ q. IsBefore (place_at (all_places p instances) (get_or ticks j 0)) q)
              (sym (get_or-map (place_at (all_places p instances)) ticks k 0 [] within)) h)

-- The clocks of the `->` of the instance with a number have numbers of 32 bits, where all its flows have.
module _ (p : ProgramTree) (main : Identifier) (instances : List Numbered) (known : IsExpanded p main instances)
  where
    within_room : (n : NodeTree) (first : ℕ) (k : Clock) → first + length (flows n) < 2 ^ 32 → IsKnownClock n k → IsWithin first k
    within_room n first Base room h = tt
    within_room n first (On s) room h = omega (arith, room, h)

    pub arrow_within : (m first : ℕ) (n : NodeTree) (k : Clock) → m < length instances → n ≡ node_at p instances m → first + length (flows n) < 2 ^ 32
        → Contains (node_arrows n) k → IsWithin first k
    arrow_within m first n k lt is room w =
        let one = instance_at p main instances known m lt in let i = one.0 in
        let node : n ≡ i.node = is ∙ node_is p main instances known m i one.1 one.2 in
        let named = is_node p main known.declared in
        within_room n first k room (subst (λ (o : NodeTree). IsKnownClock o k) (sym node)
        (arrow_known p i.node (typed p main known.well named i one.1) (formed p main known.well named i one.1) k
        (subst (λ (o : NodeTree). Contains (node_arrows o) k) node w)))
