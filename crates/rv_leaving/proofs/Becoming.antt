-- What the first variables become.
use Rattle.std.proofs.Common.{ℕ, ◌+◌, ◌*◌, ◌<◌, ◌≡◌, List, [], ◌∷◌, ◌++◌, length, sym, ◌∙◌, subst, ⊎_elim, arith}
use Rattle.std.proofs.lemmas.Bool.{cases_lt}
use Rattle.std.proofs.lemmas.List.{length-append, get_or_append_left, get_or_push, get_or_past}
use Rattle.rv_diagram.specs.{declared.Triple.Triple, Nodes.IsRef, Several.ref_at}
use Rattle.rv_symbolic.specs.Linked.{AreRefs}

-- the first x variables become these references
pub record AreBecoming (next by : List ℕ) (x : ℕ) : Type 0 where
  pub size : length by ≡ x
  pub bits : (i : ℕ) → 2 * i < x → i < length next → ref_at by (2 * i) ≡ ref_at next i
  pub found : (nodes : List Triple) → AreRefs nodes next → (y : ℕ) → IsRef nodes (ref_at by y)

pub becoming_more : (next by : List ℕ) (x r : ℕ) → length by ≡ x → ((i : ℕ) → 2 * i < x → i < length next → ref_at by (2 * i) ≡ ref_at next i)
    → ((nodes : List Triple) → AreRefs nodes next → (y : ℕ) → IsRef nodes (ref_at by y))
    → ((i : ℕ) → x ≡ 2 * i → i < length next → r ≡ ref_at next i)
    → ((nodes : List Triple) → AreRefs nodes next → IsRef nodes r) → AreBecoming next (by ++ r ∷ []) (x + 1)
becoming_more next by x r size bits found bit is_ref = record {
  size = omega (arith, length-append by (r ∷ []), size);
  bits = λ i low there. ⊎_elim
      (λ less. get_or_append_left by (r ∷ []) 0 (2 * i) (omega (arith, less, size)) ∙ bits i less there)
      (λ ge. let e : x ≡ 2 * i = omega (arith, low, ge) in get_or_push by r 0 (2 * i) (omega (arith, size, e)) ∙ bit i e there)
      (cases_lt (2 * i) x);
  found = λ nodes refs y. ⊎_elim
      (λ less. subst (IsRef nodes) (sym (get_or_append_left by (r ∷ []) 0 y less)) (found nodes refs y))
      (λ ge. ⊎_elim
      (λ lt. subst (IsRef nodes) (sym (get_or_push by r 0 y (let e : length by ≡ y = omega (arith, lt, ge) in e))) (is_ref nodes refs))
      (λ past. subst (IsRef nodes) (sym (get_or_past (by ++ r ∷ []) y 0 (omega (arith, past, length-append by (r ∷ []))))) (omega arith))
      (cases_lt y (length by + 1)))
      (cases_lt y (length by));
}
