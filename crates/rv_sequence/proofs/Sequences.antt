-- An order of the graph of flows is a sequence, and a loop in it is a cycle.
use Rattle.std.proofs.Common.{◌≡◌, ℕ, zero, suc, ◌-◌, ◌<◌, ◌≤◌, inl, inr, List, [], ◌∷◌, ◌++◌, map, length, length-drop, get_or, take, drop, refl, sym, ◌∙◌, ap}
use Rattle.std.proofs.Common.{subst, arith}
use Rattle.std.proofs.{lemmas.List.append-nil, lemmas.List.get_or_default, lemmas.List.take-append-drop, lemmas.List.Elements.Contains-append_cases}
use Rattle.std.proofs.{lemmas.List.Elements.Contains-append_left, lemmas.List.Elements.Contains-append_right, lemmas.Bool.cases_eq, lemmas.Bool.cases_order}
use Rattle.std.specs.List.{Contains}
use Rattle.rv_tree.specs.{Tree.ProgramTree, Places.Identifier, Places.Sites}
use Rattle.rv_types.specs.Instances.{IsFlow}
use Rattle.rv_types.specs.Needs.{Gives, needs_of, IsSequence, IsAmongFirst, Leads, IsCycle, IsBefore, StartsWithLeast}
use Rattle.rv_calls.specs.Graphs.{Graph, edges, IsGraph, IsOrdered, Follows, IsLoop}
use Rattle.rv_sequence.specs.{Cycles.IsCycleFromLeast, FlowGraphs.IsFlowGraph, FlowGraphs.AreTurned}
use Rattle.rv_instances.specs.Flowing.{place_at, AreFlowPlaces}
use Rattle.rv_instances.proofs.{Lists.contains_at, Lists.length_map, Known.map_at}
use Rattle.rv_types.proofs.{Members.cons_cases, Members.in_tail, Members.nothing_in, PlaceOrders.not_both, PlaceOrders.not_itself}
use Rattle.rv_base.proofs.Lists.{from_map, next_of}

-- Loops.

split : (g : Graph) (a : ℕ) (xs : List ℕ) (y : ℕ) (ys : List ℕ) (b : ℕ) → Follows g a (xs ++ y ∷ ys) b → Follows g a xs y × Follows g y ys b
split g a [] y ys b f = (f.0, f.1)
split g a (x ∷ xs) y ys b f = let s = split g x xs y ys b f.1 in ((f.0, s.0), s.1)

join : (g : Graph) (a : ℕ) (xs : List ℕ) (y : ℕ) (ys : List ℕ) (b : ℕ) → Follows g a xs y → Follows g y ys b → Follows g a (xs ++ y ∷ ys) b
join g a [] y ys b f h = (f, h)
join g a (x ∷ xs) y ys b f h = (f.0, join g x xs y ys b f.1 h)

module _ (g : Graph) (graph : IsGraph g) where
  edge_within : (a b : ℕ) → a < length g → Contains (edges g a) b → b < length g
  edge_within a b lt w = let v = contains_at (edges g a) b w in subst (λ k. k < length g) v.2 (graph a v.0 lt v.1)

  follows_within : (a : ℕ) (xs : List ℕ) (b : ℕ) → a < length g → Follows g a xs b → b < length g
  follows_within a [] b lt f = edge_within a b lt f
  follows_within a (x ∷ xs) b lt f = follows_within x xs b (edge_within a x lt f.0) f.1

  between_within : (a : ℕ) (xs : List ℕ) (b c : ℕ) → a < length g → Follows g a xs b → Contains xs c → c < length g
  between_within a [] b c lt f w = nothing_in c w
  between_within a (x ∷ xs) b c lt f w = elim (cons_cases x xs c w) [
    | inl same ↦ subst (λ k. k < length g) same (edge_within a x lt f.0)
    | inr rest ↦ between_within x xs b c (edge_within a x lt f.0) f.1 rest
  ]

  pub loop_within : (xs : List ℕ) → IsLoop g xs → (k : ℕ) → Contains xs k → k < length g
  loop_within [] l k w = absurd l
  loop_within (x ∷ xs) l k w = elim (cons_cases x xs k w) [
    | inl same ↦ subst (λ k. k < length g) same l.0
    | inr rest ↦ between_within x xs x k l.0 l.1 rest
  ]

  pub turned_loop : (front back : List ℕ) → IsLoop g (front ++ back) → IsLoop g (back ++ front)
  turned_loop [] back l = subst (IsLoop g) (sym (append-nil back)) l
  turned_loop (x ∷ xs) [] l = subst (IsLoop g) (append-nil (x ∷ xs)) l
  turned_loop (x ∷ xs) (y ∷ ys) l =
      let s = split g x xs y ys x l.1 in
      (follows_within x xs y l.0 s.0, join g y ys x xs y s.1 s.0)

-- a place has one number
pub one_number : (p : ProgramTree) (main : Identifier) (places : List Sites) → AreFlowPlaces p main places → (j k : ℕ) → j < length places → k < length places
    → place_at places j ≡ place_at places k → j ≡ k
one_number p main places placed j k lt less e = elim (cases_order j k) [
  | inl same ↦ same
  | inr other ↦ absurd (elim other [
    | inl before ↦ not_itself (place_at places k) (subst (λ q. IsBefore q (place_at places k)) e (placed.rising j k before less))
    | inr after ↦ not_itself (place_at places j) (subst (λ q. IsBefore q (place_at places j)) (sym e) (placed.rising k j after lt))
  ])
]

module _ (p : ProgramTree) (main : Identifier) (places : List Sites) (g : Graph) (f : IsFlowGraph p main places g) where
  nth : (order : List ℕ) (k : ℕ) → k < length order → get_or (map (place_at places) order) k [] ≡ place_at places (get_or order k 0)
  nth order k lt = map_at (place_at places) order k [] 0 lt

  pub ordered_sequence : (order : List ℕ) → IsOrdered g order → IsSequence p main (map (place_at places) order)
  ordered_sequence order o = record {
    once = λ j k less lt e.
        let lk = inside k lt in
        let lj : j < length order = omega (arith, lk, less) in
        o.once j k less lk (one_number p main places f.placed (get_or order j 0) (get_or order k 0) (placed_at j lj) (placed_at k lk)
        (sym (nth order j lj) ∙ e ∙ nth order k lk));
    flows = λ q is.
        let w = f.placed.flows q is in
        let v = contains_at order w.0 (o.all w.0 (omega (arith, w.1, f.size))) in
        let less : v.0 < length (map (place_at places) order) = omega (arith, v.1, long) in
        let at = nth order v.0 v.1 ∙ ap (place_at places) v.2 ∙ get_or_default places w.0 [] q w.1 ∙ w.2 in
        (v.0, less, get_or_default (map (place_at places) order) v.0 q [] less ∙ at);
    only = λ k lt. subst (IsFlow p main) (sym (nth order k (inside k lt))) (f.placed.only (get_or order k 0) (placed_at k (inside k lt)));
    after = λ k giver lt gives.
        let lk = inside k lt in
        let needed = f.whole (get_or order k 0) giver (placed_at k lk) (subst (λ q. Gives p main q giver) (nth order k lk) gives) in
        λ i d less. stands k lk (get_or (needs_of p giver) i d) (needed i d less);
  }
    where
      long : length (map (place_at places) order) ≡ length order
      long = length_map (place_at places) order

      inside : (k : ℕ) → k < length (map (place_at places) order) → k < length order
      inside k lt = omega (arith, long)

      placed_at : (k : ℕ) → k < length order → get_or order k 0 < length places
      placed_at k lt = omega (arith, o.only k lt, f.size)

      stands : (k : ℕ) → k < length order → (q : Sites) → ((j : ℕ) × Contains (edges g (get_or order k 0)) j × (place_at places j ≡ q))
          → IsAmongFirst p main (map (place_at places) order) k q
      stands k lk q w =
          let e = contains_at (edges g (get_or order k 0)) w.0 w.1 in
          let v = o.after k e.0 lk e.1 in
          (v.0, v.1, nth order v.0 (omega (arith, v.1, lk)) ∙ ap (place_at places) (v.2 ∙ e.2) ∙ w.2)

  module _ (graph : IsGraph g) where
    leads : (a : ℕ) (rs : List ℕ) (b : ℕ) → a < length g → Follows g a rs b → Leads p main (place_at places a) (map (place_at places) rs) (place_at places b)
    leads a [] b lt w = f.sound a b (omega (arith, lt, f.size)) w
    leads a (r ∷ rs) b lt w = (f.sound a r (omega (arith, lt, f.size)) w.0, leads r rs b (edge_within g graph a r lt w.0) w.1)

    loop_cycle : (xs : List ℕ) → IsLoop g xs → IsCycle p main (map (place_at places) xs)
    loop_cycle [] l = l
    loop_cycle (x ∷ xs) l = leads x xs x l.0 l.1

    least_first : (xs : List ℕ) → IsLoop g xs → ((j : ℕ) → Contains xs j → get_or xs 0 0 ≤ j) → StartsWithLeast (map (place_at places) xs)
    least_first [] l least = tt
    least_first (x ∷ xs) l least = λ q w before.
        let v = from_map (place_at places) xs q w in
        let after : Contains (x ∷ xs) v.0 = in_tail x xs v.0 v.1 in
        let within = loop_within g graph (x ∷ xs) l v.0 after in
        let back : IsBefore (place_at places v.0) (place_at places x) = subst (λ r. IsBefore r (place_at places x)) (sym v.2) before in
        elim (cases_eq x v.0) [
          | inl same ↦ not_itself (place_at places x) (subst (λ k. IsBefore (place_at places k) (place_at places x)) (sym same) back)
          | inr other ↦ not_both (place_at places x) (place_at places v.0)
              (f.placed.rising x v.0 (omega (arith, least v.0 after, other)) (omega (arith, within, f.size))) back
        ]

    pub turned_cycle : (old new : List ℕ) → IsLoop g old → AreTurned old new → IsCycleFromLeast p main (map (place_at places) new)
    turned_cycle old new l t =
        let again = subst (IsLoop g) (sym t.is) (turned_loop g graph t.front t.back (subst (IsLoop g) t.was l)) in
        (loop_cycle new again, least_first new again t.least)

pub turned_within : (g : Graph) → IsGraph g → (old new : List ℕ) → IsLoop g old → AreTurned old new → (k : ℕ) → Contains new k → k < length g
turned_within g graph old new l t = loop_within g graph new (subst (IsLoop g) (sym t.is) (turned_loop g graph t.front t.back (subst (IsLoop g) t.was l)))

-- numbers from the least on, and then those before it
pub turned_from : (numbers new : List ℕ) (k : ℕ) → k < length numbers → ((j : ℕ) → j < length numbers → get_or numbers k 0 ≤ get_or numbers j 0)
    → new ≡ drop k numbers ++ take k numbers → AreTurned numbers new
turned_from numbers new k lt least is =
    let whole : numbers ≡ take k numbers ++ drop k numbers = sym (take-append-drop k numbers) in
    let head : get_or new 0 0 ≡ get_or numbers k 0 =
    ap (λ l. get_or l 0 0) is ∙ ap (λ l. get_or (l ++ take k numbers) 0 0)
    (next_of numbers k (get_or numbers k 0) lt (get_or_default numbers k 0 (get_or numbers k 0) lt)) in
    record {
      front = take k numbers;
      back = drop k numbers;
      was = whole;
      is = is;
      least = λ j w.
          let v = contains_at numbers j (elim (Contains-append_cases (drop k numbers) (take k numbers) j (subst (λ l. Contains l j) is w)) [
            | inl back ↦ subst (λ l. Contains l j) (sym whole) (Contains-append_right (take k numbers) (drop k numbers) j back)
            | inr front ↦ subst (λ l. Contains l j) (sym whole) (Contains-append_left (take k numbers) (drop k numbers) j front)
          ]) in
          omega (arith, least v.0 v.1, v.2, head);
    }

take_whole : (n : ℕ) (xs : List ℕ) → length xs ≤ n → take n xs ≡ xs
take_whole zero [] le = refl
take_whole zero (x ∷ xs) le = absurd (omega (arith, le))
take_whole (suc n) [] le = refl
take_whole (suc n) (x ∷ xs) le = ap (λ l. x ∷ l) (take_whole n xs (omega (arith, le)))

pub rest_whole : (xs : List ℕ) (k : ℕ) → take (length xs - k) (drop k xs) ≡ drop k xs
rest_whole xs k = take_whole (length xs - k) (drop k xs) (omega (arith, length-drop k xs))
