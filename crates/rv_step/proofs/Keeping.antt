-- What the memories hold after an instant, memory by memory.
use Rattle.std.proofs.Common.{◌≡◌, ℕ, ◌+◌, false, cond, List, [], ◌∷◌, ◌++◌, get_or, sym, ◌∙◌, subst, arith, length-append, inl, inr}
use Rattle.std.proofs.{lemmas.List.get_or_append_left, lemmas.List.get_or_push, Math.Nat.eq-or-lt_of_le}
use Rattle.rv_base.specs.{declared.value.Value.Value, declared.value.Value.TheVariants.Flag}
use Rattle.rv_flat.specs.FlatInstants.{Row, is_on_at, nth_item, memory_items, value_at}
use Rattle.rv_flat.specs.{declared.flat.Flat.Flat, declared.state.State.State, Filling.IsKept}

-- what a memory holds after an instant
abbrev pub next_value : Flat → State → List Value → Row → ℕ → Value
next_value f now inputs row m = cond (is_on_at row (nth_item (memory_items f) m).clock) (value_at now inputs row (nth_item (memory_items f) m).body)
    (get_or now.kept m (Flag false))

-- one memory more
pub one_kept : (f : Flat) (now : State) (inputs : List Value) (row : Row) (n : ℕ) (kept : List Value) (value : Value) → value ≡ next_value f now inputs row n
    → IsKept f now inputs row n kept → IsKept f now inputs row (n + 1) (kept ++ value ∷ [])
one_kept f now inputs row n kept value is before = record {
  memories = omega (arith, length-append kept (value ∷ []), before.memories);
  holds = λ m less. elim (eq-or-lt_of_le {n = m} {m = n} (omega arith)) [
    | inl at_end ↦ subst (λ j. get_or (kept ++ value ∷ []) j (Flag false) ≡ next_value f now inputs row j) (sym at_end)
        (get_or_push kept value (Flag false) n before.memories ∙ is)
    | inr below ↦ get_or_append_left kept (value ∷ []) (Flag false) m (omega (arith, before.memories)) ∙ before.holds m below
  ];
}
