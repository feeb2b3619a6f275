-- What is shown of the rows that are handed in.
use Rattle.std.proofs.Common.{◌≡◌, ◌≢◌, ◌⊎◌, ℕ, ◌≤◌, ◌<◌, ◌^◌, ℤ, pos, ◌+ℤ◌, ◌-ℤ◌, ◌*ℤ◌, ◌≤ℤ◌, ◌<ℤ◌, List, [], ◌∷◌, length, slice_get, Some}
use Rattle.std.proofs.Common.{arith, ap, sym, ◌∙◌, inl, inr, subst}
use Rattle.std.proofs.{lemmas.Int.ints, Math.IntN.*ℤ-zero, lemmas.Bool.cases_lt, lemmas.List.get_or_past, lemmas.List.get_or_default}
use Rattle.std.proofs.lemmas.List.Elements.{Contains-get_or}
use Rattle.std.specs.List.{Contains}
use Rattle.rv_rows.specs.{declared.linear.Row.Row, declared.linear.Form.Form, declared.farkas.Weight.Weight, declared.farkas.Multipliers.Multipliers}
use Rattle.rv_rows.specs.{Rows.coefficient, Rows.row_at, Tight.Fits}
use Rattle.rv_seek.specs.Pairs.{HasRanges}
use Rattle.rv_poly.specs.Images.{IsNarrow}
use Rattle.rv_poly.proofs.EliminateLemmas.{number_within}
use Rattle.rv_proofs.proofs.Moved.{zero_or}
use Rattle.rv_accel.specs.Turns.{IsReset, IsCourse}
use Rattle.rv_accel.specs.Pairs.{gain, IsLevelled}
use Rattle.rv_accel.specs.Shown.{IsShownAfter, MentionsReset, IsPinned, StaysTrue, IsMovedRow, IsPairOf}
use Rattle.rv_accel.specs.Around.{IsUsable, IsDown, IsFirst, IsAround}
use Rattle.rv_accel.proofs.{SumLemmas.dot-ext, PairLemmas.cone_level, PairLemmas.cone_pairs, ConeLemmas.sum-holds, ConeLemmas.sum-level, ConeLemmas.copy-holds}
use Rattle.rv_accel.proofs.TurnLemmas.{pair-shown, unit-proves, unit-ranges, moved-shown, level-shown, pinned-shown, pinned-gain}

-- a premise by its number is among the premises
pub there : (given : List Row) (i : ℕ) (r : Row) → i < length given → row_at given i ≡ r → Contains given r
there given i r l e = subst (λ q. Contains given q) e (Contains-get_or given i (record { coefficients = []; bound = pos 0 }) l)

-- the numbers of a row that is cut to the memories
pub cut-same : (width : ℕ) (r s : Row) → IsNarrow width r → length s.coefficients ≡ width → ((k : ℕ) → k < width → coefficient k s ≡ coefficient k r)
    → (k : ℕ) → coefficient k s ≡ coefficient k r
cut-same width r s narrow size below k = go (cases_lt k width)
  where
    go : (k < width) ⊎ (width ≤ k) → coefficient k s ≡ coefficient k r
    go (inl l) = below k l
    go (inr l) = get_or_past s.coefficients k (pos 0) (omega arith) ∙ sym (narrow k l)

silent : (updates : List Form) (r : Row) → ¬ MentionsReset updates r → (k : ℕ) (f : Form) → slice_get updates k ≡ Some f → IsReset f → coefficient k r ≡ pos 0
silent updates r kept k f e z = go (zero_or (coefficient k r))
  where
    go : (coefficient k r ≡ pos 0) ⊎ (coefficient k r ≢ pos 0) → coefficient k r ≡ pos 0
    go (inl h) = h
    go (inr n) = absurd (kept (k, f, e, z, n))

same-silent : (updates : List Form) (r s : Row) → ((k : ℕ) → coefficient k s ≡ coefficient k r) → ¬ MentionsReset updates r → ¬ MentionsReset updates s
same-silent updates r s same kept (k, f, e, z, n) = kept (k, f, e, z, (λ h. n (same k ∙ h)))

same-pinned : (updates : List Form) (r s : Row) → ((k : ℕ) → coefficient k s ≡ coefficient k r) → s.bound ≡ r.bound → IsPinned updates r → IsPinned updates s
same-pinned updates r s same bound p = record {
  column = p.column;
  form = p.form;
  there = p.there;
  reset = p.reset;
  others = λ j d. same j ∙ p.others j d;
  bound = bound ∙ p.bound ∙ ap (λ z. z *ℤ p.form.constant) (sym (same p.column));
}

module _ (given : List Row) (updates : List Form) (t : List ℤ) (course : IsCourse updates t) where
  pub sum-around : (p q r : Row) (u v : Weight) (m : Multipliers) → IsUsable updates p → IsUsable updates q → pos 0 <ℤ gain t p → gain t q <ℤ pos 0
      → u.premise < length given → v.premise < length given → row_at given u.premise ≡ p → row_at given v.premise ≡ q
      → u.by ≡ pos 0 -ℤ gain t q → v.by ≡ gain t p → length r.coefficients ≡ length t → IsLevelled t p q r → IsPairOf u v m → HasRanges (length given) m
      → IsAround given updates t r m
  sum-around p q r u v m up uq hp hq lu lv ep eq eu ev size level pair ranges = record {
    shown = pair-shown given t p q r u v m ep eq eu ev level pair ranges;
    width = size;
    stays = inl ((λ s. quiet s), let e = sum-level t p q r level in omega (arith, ints));
    cone = λ x c. (sum-holds t x p q r level).1 (cone_pairs t x given c p q (there given u.premise p lu ep) (there given v.premise q lv eq) hp hq);
  }
    where
      quiet : MentionsReset updates r → ⊥
      quiet (k, f, e, z, n) = n (level.coefficients k
          ∙ (λ i. ((pos 0 -ℤ gain t q) *ℤ silent updates p up.kept k f e z i) +ℤ (gain t p *ℤ silent updates q uq.kept k f e z i))
          ∙ (λ i. *ℤ-zero (pos 0 -ℤ gain t q) i +ℤ *ℤ-zero (gain t p) i))

  pub level-around : (r s : Row) (m : Multipliers) (place : ℕ) → IsDown updates t r → place < length given → row_at given place ≡ r → gain t r ≤ℤ pos 0
      → length s.coefficients ≡ length t → ((k : ℕ) → coefficient k s ≡ coefficient k r) → s.bound ≡ r.bound
      → m.divisor ≡ pos 1 → m.weights ≡ record { premise = place; by = pos 1 } ∷ [] → IsAround given updates t s m
  level-around r s m place down l e low size same bound divisor weights = record {
    shown = record {
      proves = unit-proves given m place divisor weights r s e same (let b = bound in omega (arith, ints));
      ranges = unit-ranges given m place divisor weights (length given) l;
    };
    width = size;
    stays = stays down.kinds;
    cone = λ x c. copy-holds x s r (λ k. sym (same k)) (sym bound) (cone_level t x given c r (there given place r l e) low);
  }
    where
      gain_is : gain t s ≡ gain t r
      gain_is = dot-ext t s.coefficients r.coefficients same

      stays : (¬ MentionsReset updates r) ⊎ (IsPinned updates r × (gain t r ≡ pos 0)) → StaysTrue updates t s
      stays (inl kept) = inl ((λ h. same-silent updates r s same kept h), rw gain_is low)
      stays (inr p) = inr (same-pinned updates r s same bound (p.0))

  pub moved-first : (r s : Row) (m : Multipliers) (place : ℕ) → IsUsable updates r → place < length given → row_at given place ≡ r
      → length s.coefficients ≡ length t → Fits s → IsMovedRow t r s → m.divisor ≡ pos 1 → m.weights ≡ record { premise = place; by = pos 1 } ∷ []
      → IsFirst given updates t s m
  moved-first r s m place usable l e size fits moved divisor weights = record {
    shown = moved-shown updates t course r usable.narrow usable.kept given place e l m divisor weights s moved;
    width = size;
    down = record {
      fits = fits;
      narrow = λ k h. moved.coefficients k ∙ usable.narrow k h;
      kinds = inl (λ h. same-silent updates r s moved.coefficients usable.kept h);
    };
    origin = inr (r, there given place r l e, moved);
  }

  pub pinned-first : (s : Row) (m : Multipliers) → length s.coefficients ≡ length t → Fits s → IsPinned updates s → m.divisor ≡ pos 1 → m.weights ≡ []
      → IsFirst given updates t s m
  pinned-first s m size fits p divisor weights = record {
    shown = pinned-shown updates t course s p given m divisor weights;
    width = size;
    down = record {
      fits = fits;
      narrow = λ k h. let e = course.direction.size in get_or_past s.coefficients k (pos 0) (omega arith);
      kinds = inr (p, pinned-gain updates t course s p);
    };
    origin = inl p;
  }

  pub kept-shown : (r : Row) (m : Multipliers) (place : ℕ) → IsNarrow (length updates) r → ¬ MentionsReset updates r → StaysTrue updates t r
      → place < length given
      → row_at given place ≡ r → m.divisor ≡ pos 1 → m.weights ≡ record { premise = place; by = pos 1 } ∷ [] → IsShownAfter given updates r m
  kept-shown r m place narrow kept stays l e divisor weights = level-shown updates t course r narrow kept given place e l m divisor weights (low stays)
    where
      low : StaysTrue updates t r → gain t r ≤ℤ pos 0
      low (inl h) = h.1
      low (inr p) = let e = pinned-gain updates t course r p in omega (arith, ints)

-- a copy is within the limits where the row is
pub copy-fits : (r s : Row) → Fits r → ((k : ℕ) → coefficient k s ≡ coefficient k r) → s.bound ≡ r.bound → Fits s
copy-fits r s f same bound = record {
  coefficients = λ i d l. rw (get_or_default s.coefficients i d (pos 0) l, same i) (number_within (2 ^ 30) r.coefficients f.coefficients i);
  bound = rw bound f.bound;
}
