-- Parts that are split, one after another.
use Rattle.std.proofs.Common.{◌≡◌, ◌⊎◌, inl, inr, Bool, ℕ, ◌+◌, ◌*◌, ◌-◌, ◌<◌, ◌≤◌, List, [], ◌∷◌, ◌++◌, length, Some, slice_get, sym, ap, ◌∙◌, subst, ⊎_elim}
use Rattle.std.proofs.Common.{arith, set}
use Rattle.std.proofs.lemmas.Bool.{cases_lt}
use Rattle.std.proofs.lemmas.Option.{none-some}
use Rattle.std.proofs.lemmas.List.{length-set, length-append, get_or_append_left, get_or-set_other}
use Rattle.rv_base.proofs.Lists.{push_got, get_push}
use Rattle.rv_symbolic.proofs.Parting.{kept-append}
use Rattle.rv_diagram.specs.{Nodes.Valuation, Nodes.value_of, declared.frozen.Frozen.Frozen}
use Rattle.rv_split.specs.{Partitions.part_at, Splits.IsSplitAt, Splits.IsReplaced}
use Rattle.rv_walk.specs.Ends.{has}
use Rattle.rv_left.specs.{Meeting.Meets, Meeting.AreApart, Turns.IsOver, Turns.AreOver, Turns.AreMarked, Turns.IsTurned}

module _ (old new : List Frozen) (at : ℕ) where
  pub replaced_longer : (test : Valuation → Bool) → IsReplaced old new at test → length new ≡ length old + 1
  replaced_longer test r = ap length r.parts ∙ length-append (set old at r.yes) (r.no ∷ []) ∙ ap (λ n. n + 1) (length-set old at r.yes)

  pub replaced_before : (test : Valuation → Bool) → IsReplaced old new at test → (k : ℕ) → k < at → part_at new k ≡ part_at old k
  replaced_before test r k low =
      let less : k < length (set old at r.yes) = omega (arith, low, r.there, length-set old at r.yes) in
      ap (λ (l : List Frozen). part_at l k) r.parts
      ∙ get_or_append_left (set old at r.yes) (r.no ∷ []) (record { nodes = []; root = 0 }) k less
      ∙ get_or-set_other old at k r.yes (record { nodes = []; root = 0 }) (λ e. omega (arith, e, low))

  module _ (state : List ℕ) (failing : Frozen) where
    pub longer : IsSplitAt state failing old new at → length new ≡ length old + 1
    longer (inl r) = replaced_longer (value_of failing.nodes failing.root) r
    longer (inr (even, (x, free, r))) = replaced_longer (λ v. v x) r

    before : IsSplitAt state failing old new at → (k : ℕ) → k < at → part_at new k ≡ part_at old k
    before (inl r) = replaced_before (value_of failing.nodes failing.root) r
    before (inr (even, (x, free, r))) = replaced_before (λ v. v x) r

    pub over_after : IsSplitAt state failing old new at → AreOver state failing old at → AreOver state failing new at
    over_after split over k low = subst (IsOver state failing) (sym (before split k low)) (over k low)

pub over_more : (state : List ℕ) (failing : Frozen) (parts : List Frozen) (at : ℕ) → AreOver state failing parts at
    → IsOver state failing (part_at parts at) → AreOver state failing parts (at + 1)
over_more state failing parts at over here k low = ⊎_elim
    (λ less. over k less)
    (λ ge. let e : at ≡ k = omega (arith, ge, low) in subst (λ (n : ℕ). IsOver state failing (part_at parts n)) e here)
    (cases_lt k at)

-- MARKS

module _ (parts : List Frozen) (failing : Frozen) where
  pub marked_none : AreMarked parts failing 0 []
  marked_none = record {
    rising = λ i j k m low here. absurd (none-some k here);
    there = λ i k here. absurd (none-some k here);
    each = λ k low. absurd (omega (arith, low));
  }

  module _ (k : ℕ) (left : List ℕ) (h : AreMarked parts failing k left) where
    pub marked_apart : AreApart (has (part_at parts k)) (has failing) → AreMarked parts failing (k + 1) left
    marked_apart apart = record {
      rising = h.rising;
      there = λ i j here. let p : (j < k) × Meets (has (part_at parts j)) (has failing) = h.there i j here in (omega (arith, p.0), p.1);
      each = λ j low. ⊎_elim
          (λ less. h.each j less)
          (λ ge. let e : k ≡ j = omega (arith, ge, low) in inr (subst (λ (n : ℕ). AreApart (has (part_at parts n)) (has failing)) e apart))
          (cases_lt j k);
    }

    kept : (i j : ℕ) → slice_get left i ≡ Some j → slice_get (left ++ k ∷ []) i ≡ Some j
    kept i j here = kept-append left k j i here

    pub marked_met : Meets (has (part_at parts k)) (has failing) → AreMarked parts failing (k + 1) (left ++ k ∷ [])
    marked_met met = record {
      rising = λ i j m n low here there. rises i j m n low (push_got left k m i here) (push_got left k n j there);
      there = λ i j here. ⊎_elim
          (λ old. let p : (j < k) × Meets (has (part_at parts j)) (has failing) = h.there i j old.1 in (omega (arith, p.0), p.1))
          (λ last. (omega (arith, last.1), subst (λ (n : ℕ). Meets (has (part_at parts n)) (has failing)) last.1 met))
          (push_got left k j i here);
      each = λ j low. ⊎_elim
          (λ less. ⊎_elim (λ old. inl (old.0, kept old.0 j old.1)) (λ apart. inr apart) (h.each j less))
          (λ ge. let e : k ≡ j = omega (arith, ge, low) in
          inl (length left, subst (λ (n : ℕ). slice_get (left ++ k ∷ []) (length left) ≡ Some n) e (get_push left k)))
          (cases_lt j k);
    }
      where
        rises : (i j m n : ℕ) → i < j → ((i < length left) × (slice_get left i ≡ Some m)) ⊎ ((i ≡ length left) × (k ≡ m))
            → ((j < length left) × (slice_get left j ≡ Some n)) ⊎ ((j ≡ length left) × (k ≡ n)) → m < n
        rises i j m n low (inl a) (inl b) = h.rising i j m n low a.1 b.1
        rises i j m n low (inl a) (inr b) = let less : m < k = (h.there i m a.1).0 in omega (arith, less, b.1)
        rises i j m n low (inr a) (inl b) = absurd (omega (arith, a.0, b.0, low))
        rises i j m n low (inr a) (inr b) = absurd (omega (arith, a.0, b.0, low))

-- TURNS

module _ (limit : ℕ) (state : List ℕ) (failing : Frozen) (old new : List Frozen) (at next : ℕ) where
  pub turned_over : IsTurned limit state failing old new at (Some next) → AreOver state failing old at → AreOver state failing new next
  turned_over (inl (step, same, here)) over =
      subst (λ (n : ℕ). AreOver state failing new n) (sym step)
      (subst (λ (l : List Frozen). AreOver state failing l (at + 1)) (sym same) (over_more state failing old at over here))
  turned_over (inr (step, split)) over =
      subst (λ (n : ℕ). AreOver state failing new n) (sym step) (over_after old new at state failing split over)

  pub turned_within : at < length old → IsTurned limit state failing old new at (Some next) → next ≤ length new
  turned_within low (inl (step, same, here)) = let size : length new ≡ length old = ap length same in omega (arith, low, step, size)
  turned_within low (inr (step, split)) = let size : length new ≡ length old + 1 = longer old new at state failing split in omega (arith, low, step, size)

  pub turned_less : (most : ℕ) → at < length old → length new ≤ most → IsTurned limit state failing old new at (Some next)
      → 2 * (most - length new) + (length new - next) < 2 * (most - length old) + (length old - at)
  turned_less most low few (inl (step, same, here)) = let size : length new ≡ length old = ap length same in omega (arith, low, step, size, few)
  turned_less most low few (inr (step, split)) =
      let size : length new ≡ length old + 1 = longer old new at state failing split in omega (arith, low, step, size, few)
