-- A flat system has exactly one row at each state and inputs.
use Rattle.std.proofs.Common.{◌≡◌, ℕ, zero, suc, ◌+◌, ◌<◌, ◌≤◌, cond, List, [], ◌∷◌, ◌++◌, length, refl, sym, ◌∙◌, subst, arith, length-append, inl, inr}
use Rattle.std.proofs.Common.{Option, None as Nothing, Some}
use Rattle.std.proofs.{lemmas.List.get_or_append_left, lemmas.List.get_or_push, lemmas.List.ext_get_or, Math.ListN.length-map, Math.Nat.eq-or-lt_of_le}
use Rattle.rv_base.specs.declared.value.Value.{Value}
use Rattle.rv_agreement.specs.{Agreement.IsNamed, Trees.Item, Trees.System}
use Rattle.rv_flat.specs.FlatInstants.{Row, nth, is_on_at, found_at, flow_items, nth_item, system_of, value_at, IsFlatInstant}
use Rattle.rv_flat.specs.{declared.flat.Flat.Flat, declared.state.State.State, Filling.IsFilled, Systems.flow_item, Tame.IsOver}
use Rattle.rv_flat.proofs.{NamedTicks.clock_named, NamedTicks.over, NamedTicks.same_there, NamedTicks.same_value, Tested.ItemFits, Tested.flow_fits}

-- what a flow has, or that it is absent
abbrev pub item_value : State → List Value → Row → Item → Option Value
item_value now inputs row x = cond (is_on_at row x.clock) (Some (value_at now inputs row x.body)) Nothing

-- an item is over the first flows, its clock too
abbrev pub IsItemOver : ℕ → Item → Type 0
IsItemOver n x = IsNamed n x.clock × IsOver n x.body

pub item_over : (s : System) (n : ℕ) (x : Item) → ItemFits s n x → IsItemOver n x
item_over s n x fit = (clock_named s n x.clock fit.clock, over s n x.clock fit.kind x.body fit.body)

-- an item has the same in two rows that agree on the flows that it is over
pub same_item : (now : State) (inputs : List Value) (row other : Row) (n : ℕ) (x : Item) → IsItemOver n x → ((k : ℕ) → k < n → nth row k ≡ nth other k)
    → item_value now inputs row x ≡ item_value now inputs other x
same_item now inputs row other n x is agree =
    let found = found_at now inputs in
    λ i. cond (same_there found row other n agree x.clock is.0 i) (Some (same_value found row other n agree x.body is.1 i)) Nothing

module _ (f : Flat) (now : State) (inputs : List Value) where
  pub fits_kth : (k : ℕ) → k < length f.flows → ItemFits (system_of f) k (nth_item (flow_items f) k)
  fits_kth k lt =
      subst (λ n. ItemFits (system_of f) n (nth_item (flow_items f) k)) (let e : 0 + k ≡ k = omega arith in e)
      (flow_fits (system_of f) 0 (flow_items f) k f.flows_fit (omega (arith, length-map f.flows (flow_item f.memories))))

  pub over_kth : (k : ℕ) → k < length f.flows → IsItemOver k (nth_item (flow_items f) k)
  over_kth k lt = item_over (system_of f) k (nth_item (flow_items f) k) (fits_kth k lt)

  pub none_filled : IsFilled f now inputs 0 []
  none_filled = record { flows = refl; holds = λ k lt. absurd (omega arith) }

  -- one flow more
  pub one_filled : (n : ℕ) (row : Row) (value : Option Value) → n < length f.flows → value ≡ item_value now inputs row (nth_item (flow_items f) n)
      → IsFilled f now inputs n row → IsFilled f now inputs (n + 1) (row ++ value ∷ [])
  one_filled n row value lt is filled =
      let agree : (k : ℕ) → k < n → nth row k ≡ nth (row ++ value ∷ []) k = λ k less. sym
      (get_or_append_left row (value ∷ []) Nothing k (omega (arith, filled.flows))) in
      record {
        flows = omega (arith, length-append row (value ∷ []), filled.flows);
        holds = λ k less. elim (eq-or-lt_of_le {n = k} {m = n} (omega arith)) [
          | inl at_end ↦ subst (λ j. nth (row ++ value ∷ []) j ≡ item_value now inputs (row ++ value ∷ []) (nth_item (flow_items f) j)) (sym at_end)
              (get_or_push row value Nothing n filled.flows ∙ is
              ∙ same_item now inputs row (row ++ value ∷ []) n (nth_item (flow_items f) n) (over_kth n lt) agree)
          | inr below ↦ sym (agree k below) ∙ filled.holds k below
              ∙ same_item now inputs row (row ++ value ∷ []) k (nth_item (flow_items f) k) (over_kth k (omega arith)) (λ j less. agree j (omega arith))
        ];
      }

  -- a row of so many flows
  filled_row : (n : ℕ) → n ≤ length f.flows → (row : Row) × IsFilled f now inputs n row
  filled_row zero le = ([], none_filled)
  filled_row (suc n) le =
      let before = filled_row n (omega arith) in
      let value = item_value now inputs before.0 (nth_item (flow_items f) n) in
      let one : n + 1 ≡ suc n = omega arith in
      let more = subst (λ k. IsFilled f now inputs k (before.0 ++ value ∷ [])) one (one_filled n before.0 value (omega arith) refl before.1) in
      (before.0 ++ value ∷ [], more)

  -- all flows filled are an instant
  pub instant_filled : (row : Row) → IsFilled f now inputs (length f.flows) row → IsFlatInstant f now inputs row
  instant_filled row filled = record { flows = filled.flows; holds = filled.holds }

  -- two instants agree
  first_agree : (row other : Row) → IsFlatInstant f now inputs row → IsFlatInstant f now inputs other → (n : ℕ) → n ≤ length f.flows → (k : ℕ) → k < n
      → nth row k ≡ nth other k
  first_agree row other a b zero le k less = absurd (omega arith)
  first_agree row other a b (suc n) le k less =
      let before = first_agree row other a b n (omega arith) in
      elim (eq-or-lt_of_le {n = k} {m = n} (omega arith)) [
        | inl same ↦ subst (λ j. nth row j ≡ nth other j) (sym same)
            (a.holds n (omega arith) ∙ same_item now inputs row other n (nth_item (flow_items f) n) (over_kth n (omega arith)) before
            ∙ sym (b.holds n (omega arith)))
        | inr below ↦ before k below
      ]

  pub only_row : (row other : Row) → IsFlatInstant f now inputs row → IsFlatInstant f now inputs other → other ≡ row
  only_row row other a b =
      ext_get_or Nothing other row (b.flows ∙ sym a.flows) (λ k lt. first_agree other row b a (length f.flows) (omega arith) k (omega (arith, b.flows)))

  pub one_row : (row : Row) × IsFlatInstant f now inputs row × ((other : Row) → IsFlatInstant f now inputs other → other ≡ row)
  one_row =
      let filled = filled_row (length f.flows) (omega arith) in
      (filled.0, instant_filled filled.0 filled.1, λ other is. only_row filled.0 other (instant_filled filled.0 filled.1) is)
