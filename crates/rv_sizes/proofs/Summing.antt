-- Sums over nodes in an order in which each stands after those that it calls.
use Rattle.std.proofs.Common.{◌≡◌, ℕ, zero, suc, ◌+◌, ◌<◌, ◌≤◌, inl, inr, min, List, [], ◌∷◌, length, get_or, set, take, replicate, refl, sym, ◌∙◌, ap, subst}
use Rattle.std.proofs.Common.{arith, slice_get, Some}
use Rattle.std.proofs.lemmas.List.{length-set, length-replicate, get_or-set_same, get_or-set_other, get_or-replicate, take_more}
use Rattle.std.proofs.{lemmas.Bool.cases_eq, lemmas.Option.get_or_from_slice_get}
use Rattle.std.specs.List.{Contains}
use Rattle.rv_calls.specs.{declared.calls.Calling.Calling, Graphs.IsOrdered, Callings.callees, Callings.call_graph}
use Rattle.rv_types.specs.Variables.{total}
use Rattle.rv_base.specs.Limits.{heaviest}
use Rattle.rv_sizes.specs.Totals.{total_at, AreTotals, called_total, AreSummed}
use Rattle.rv_instances.proofs.Lists.{contains_at, length_map}
use Rattle.rv_calls.proofs.Lowering.{edge_of}
use Rattle.rv_types.proofs.{DifferentPlaces.total_append, Members.at_head, Members.in_tail}

-- a sum that stops at a bound, and one more
pub min_step : (m a b x y s : ℕ) → s ≡ min (a + b) m → y ≡ min (s + x) m → y ≡ min (a + (b + (x + 0))) m
min_step m a b x y s is next = omega (arith, is, next)

-- the same over a list, where each part stops at the bound too
pub total_min : {X : Type 0} (m : ℕ) (f g : X → ℕ) (xs : List X) (a : ℕ) → ((x : X) → Contains xs x → f x ≡ min (g x) m)
    → min (a + total f xs) m ≡ min (a + total g xs) m
total_min m f g [] a each = refl
total_min m f g (x ∷ xs) a each = omega (arith, each x (at_head x xs), total_min m f g xs (a + f x) (λ y w. each y (in_tail x xs y w)))

pub called_more : (totals : List ℕ) (own : ℕ) (calls : List Calling) (i : ℕ) (sum next x : ℕ) → i < length calls
    → sum ≡ min (own + called_total totals (take i calls)) heaviest → x ≡ get_or totals (get_or calls i (record { at = 0; site = 0; callee = 0 })).callee 0
    → next ≡ min (sum + x) heaviest
    → next ≡ min (own + called_total totals (take (i + 1) calls)) heaviest
called_more totals own calls i sum next x lt is read more =
    let one : called_total totals (take (i + 1) calls) ≡ called_total totals (take i calls) + (x + 0) =
    ap (called_total totals) (take_more calls i (record { at = 0; site = 0; callee = 0 }) lt)
    ∙ total_append (λ (c : Calling). get_or totals c.callee 0) (take i calls) (get_or calls i (record { at = 0; site = 0; callee = 0 }) ∷ [])
    ∙ ap (λ y. called_total totals (take i calls) + (y + 0)) (sym read) in
    min_step heaviest own (called_total totals (take i calls)) x next sum is more ∙ ap (λ y. min (own + y) heaviest) (sym one)

module _ (own : List ℕ) (t : List (List Calling)) (order : List ℕ) (ordered : IsOrdered (call_graph t) order) where
  size : length (call_graph t) ≡ length t
  size = length_map callees t

  pub summed_start : (n : ℕ) → n ≡ length t → AreSummed own t order 0 (replicate n 0)
  summed_start n is = record {
    size = length-replicate {A = ℕ} n 0 ∙ is;
    capped = λ k lt. omega (arith, get_or-replicate {A = ℕ} n k 0 0 (omega (arith, length-replicate {A = ℕ} n 0, lt)));
    value = λ j levels less. absurd (omega (arith, less));
  }

  -- the callees of a node stand before it
  before : (i : ℕ) → i < length order → (c : Calling) → Contains (get_or t (get_or order i 0) []) c → (j : ℕ) × (j < i) × (get_or order j 0 ≡ c.callee)
  before i lt c w =
      let e = edge_of t (get_or order i 0) c w in
      let n = ordered.after i e.0 lt e.1 in
      (n.0, n.1, n.2 ∙ e.2)

  pub within : (i : ℕ) → i < length order → get_or order i 0 < length t
  within i lt = omega (arith, size, ordered.only i lt)

  pub callees_within : (i : ℕ) → i < length order → (c : Calling) → Contains (get_or t (get_or order i 0) []) c → c.callee < length t
  callees_within i lt c w =
      let b = before i lt c w in
      subst (λ u. u < length t) b.2 (within b.0 (omega (arith, b.1, lt)))

  pub summed_step : (i : ℕ) (totals : List ℕ) (sum : ℕ) → AreSummed own t order i totals → i < length order
      → sum ≡ min (get_or own (get_or order i 0) 0 + called_total totals (get_or t (get_or order i 0) [])) heaviest
      → AreSummed own t order (i + 1) (set totals (get_or order i 0) sum)
  summed_step i totals sum s lt is = record {
    size = length-set totals (get_or order i 0) sum ∙ s.size;
    capped = λ k less. elim (cases_eq k (get_or order i 0)) [
      | inl same ↦ omega (arith, ap (λ (u : ℕ). get_or (set totals (get_or order i 0) sum) u 0) same, here, is)
      | inr other ↦ subst (λ u. u ≤ heaviest) (sym (get_or-set_other totals (get_or order i 0) k sum 0 other))
          (s.capped k (omega (arith, length-set totals (get_or order i 0) sum, less)))
    ];
    value = λ j levels below inside enough. elim (cases_eq j i) [
      | inl same ↦ subst (λ j. j < levels → get_or (set totals (get_or order i 0) sum) (get_or order j 0) 0 ≡ min (total_at own t levels (get_or order j 0))
          heaviest) (sym same) (at_node levels) enough
      | inr other ↦
          let less : j < i = omega (arith, below, other) in
          get_or-set_other totals (get_or order i 0) (get_or order j 0) sum 0 (ordered.once j i less lt)
          ∙ s.value j levels less inside enough
    ];
  }
    where
      in_totals : get_or order i 0 < length totals
      in_totals = subst (λ n. get_or order i 0 < n) (sym s.size) (within i lt)

      here : get_or (set totals (get_or order i 0) sum) (get_or order i 0) 0 ≡ sum
      here = get_or-set_same totals (get_or order i 0) sum 0 in_totals

      at_node : (levels : ℕ) → i < levels → get_or (set totals (get_or order i 0) sum) (get_or order i 0) 0 ≡ min (total_at own t levels (get_or order i 0))
          heaviest
      at_node zero enough = absurd (omega (arith, enough))
      at_node (suc levels) enough = here ∙ is ∙ total_min heaviest (λ (c : Calling). get_or totals c.callee 0) (λ (c : Calling). total_at own t levels c.callee)
          (get_or t (get_or order i 0) []) (get_or own (get_or order i 0) 0)
          (λ c w.
          let b = before i lt c w in
          subst (λ u. get_or totals u 0 ≡ min (total_at own t levels u) heaviest) b.2
          (s.value b.0 levels b.1 (omega (arith, b.1, lt)) (omega (arith, b.1, enough))))

  pub summed_end : (i : ℕ) (totals : List ℕ) → AreSummed own t order i totals → length order ≤ i → AreTotals own t totals
  summed_end i totals s all = record {
    size = s.size;
    value = λ k lt.
        let at = contains_at order k (ordered.all k (omega (arith, size, lt))) in
        subst (λ u. get_or totals u 0 ≡ min (total_at own t (length t) u) heaviest) at.2
        (s.value at.0 (length t) (omega (arith, at.1, all)) at.1 (omega (arith, at.1, ordered.size, size)));
  }

  -- the same with what the code reads
  read_calls : (items : List ℕ) (i : ℕ) (cs calls : List Calling) → items ≡ order → slice_get t (get_or items i 0) ≡ Some cs → calls ≡ cs
      → calls ≡ get_or t (get_or order i 0) []
  read_calls items i cs calls same read is =
      is ∙ sym (get_or_from_slice_get t (get_or items i 0) cs [] read) ∙ ap (λ (l : List ℕ). get_or t (get_or l i 0) []) same

  pub node_within : (items : List ℕ) (i : ℕ) (cs calls : List Calling) (totals : List ℕ) → items ≡ order → i < length items
      → slice_get t (get_or items i 0) ≡ Some cs → calls ≡ cs → AreSummed own t order i totals → (c : Calling) → Contains calls c → c.callee < length totals
  node_within items i cs calls totals same lt read is s c w =
      subst (λ n. c.callee < n) (sym s.size) (callees_within i (subst (λ (l : List ℕ). i < length l) same lt) c
      (subst (λ (l : List Calling). Contains l c) (read_calls items i cs calls same read is) w))

  pub node_step : (items : List ℕ) (i o sum : ℕ) (cs calls : List Calling) (totals new : List ℕ) → items ≡ order → i < length items
      → slice_get own (get_or items i 0) ≡ Some o → slice_get t (get_or items i 0) ≡ Some cs → calls ≡ cs → AreSummed own t order i totals
      → sum ≡ min (o + called_total totals calls) heaviest → new ≡ set totals (get_or items i 0) sum → AreSummed own t order (i + 1) new
  node_step items i o sum cs calls totals new same lt read_own read is s summed set_is =
      let in_order : i < length order = subst (λ (l : List ℕ). i < length l) same lt in
      let has : o ≡ get_or own (get_or order i 0) 0 =
      sym (get_or_from_slice_get own (get_or items i 0) o 0 read_own) ∙ ap (λ (l : List ℕ). get_or own (get_or l i 0) 0) same in
      subst (λ (l : List ℕ). AreSummed own t order (i + 1) l) (sym (set_is ∙ ap (λ (l : List ℕ). set totals (get_or l i 0) sum) same))
      (summed_step i totals sum s in_order (summed ∙ ap (λ o. min (o + called_total totals calls) heaviest) has
      ∙ ap (λ (l : List Calling). min (get_or own (get_or order i 0) 0 + called_total totals l) heaviest) (read_calls items i cs calls same read is)))
