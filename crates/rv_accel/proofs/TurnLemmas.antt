-- Rows after a turn, and proofs by one premise, by two and by none.
use Rattle.std.proofs.Common.{◌≡◌, ◌≢◌, ◌⊎◌, ℕ, ◌≤◌, ◌<◌, ℤ, pos, ◌+ℤ◌, ◌-ℤ◌, ◌*ℤ◌, ◌≤ℤ◌, ◌<ℤ◌, List, [], ◌∷◌, map, length, get_or}
use Rattle.std.proofs.Common.{arith, refl, ap, sym, ◌∙◌, inl, inr}
use Rattle.std.proofs.{lemmas.Int.ints, Math.IntN.*ℤ-zero, lemmas.Bool.cases_lt, lemmas.Option.slice_get-get_or}
use Rattle.std.proofs.{lemmas.Option.get_or_from_slice_get, lemmas.Option.slice_get_within}
use Rattle.std.proofs.lemmas.List.{get_or-map, get_or_past}
use Rattle.std.proofs.lemmas.List.Elements.{All-cons, All-nil, All-weaker}
use Rattle.rv_rows.specs.{declared.linear.Row.Row, declared.linear.Form.Form, declared.farkas.Weight.Weight, declared.farkas.Multipliers.Multipliers}
use Rattle.rv_rows.specs.{Rows.dot, Rows.coefficient, Rows.row_at, Forms.number, Forms.forms_width, Forms.IsSubstituted, Multipliers.Proves}
use Rattle.rv_rows.specs.{Multipliers.weighted}
use Rattle.rv_seek.specs.Pairs.{HasRanges, WeightInRange}
use Rattle.rv_poly.specs.Images.{IsNarrow}
use Rattle.rv_proofs.proofs.Moved.{zero_or, dot-read}
use Rattle.rv_accel.specs.Turns.{IsOwn, IsReset, IsCourse}
use Rattle.rv_accel.specs.Pairs.{gain, IsLevelled}
use Rattle.rv_accel.specs.Shown.{IsShownAfter, IsShownBefore, MentionsReset, IsPinned, IsMovedRow, IsPairOf}
use Rattle.rv_accel.proofs.SumLemmas.{dot-ext, dot-pick, dot-alone, fill, fill-at, length-fill}

one : (z : ℤ) → pos 1 *ℤ z ≡ z
one z = omega (arith, ints)

-- The multipliers with the weight 1 on one premise.
module _ (given : List Row) (m : Multipliers) (place : ℕ) (divisor : m.divisor ≡ pos 1)
    (weights : m.weights ≡ record { premise = place; by = pos 1 } ∷ []) where
  unit-sum : (f : Row → ℤ) → weighted f given m.weights ≡ f (row_at given place)
  unit-sum f = ap (λ ws. weighted f given ws) weights ∙ plus (f (row_at given place))
    where
      plus : (z : ℤ) → (pos 1 *ℤ z) +ℤ pos 0 ≡ z
      plus z = omega (arith, ints)

  pub unit-proves : (r new : Row) → row_at given place ≡ r → ((k : ℕ) → coefficient k new ≡ coefficient k r) → r.bound ≤ℤ new.bound → Proves given new m
  unit-proves r new there same low = record {
    positive = rw divisor (omega (arith, ints));
    none_negative = rw weights (All-cons (λ w. pos 0 ≤ℤ w.by) (record { premise = place; by = pos 1 }) [] (omega (arith, ints)) (All-nil (λ w. pos 0 ≤ℤ w.by)));
    sides = λ k. unit-sum (coefficient k) ∙ ap (coefficient k) there ∙ sym (same k) ∙ sym (one (coefficient k new)) ∙ ap (λ d. d *ℤ coefficient k new)
        (sym divisor);
    bounds = below _ _ _ _ (unit-sum (λ q. q.bound) ∙ ap (λ (q : Row). q.bound) there) divisor low;
  }
    where
      below : (s b d c : ℤ) → s ≡ b → d ≡ pos 1 → b ≤ℤ c → s <ℤ (d *ℤ (c +ℤ pos 1))
      below s b d c e f l = rw f (let x = one (c +ℤ pos 1) in omega (arith, ints))

  pub unit-ranges : (n : ℕ) → place < n → HasRanges n m
  unit-ranges n l = record {
    positive = rw divisor (omega (arith, ints));
    divisor = rw divisor (omega (arith, ints));
    most = let e = ap length weights in omega arith;
    weights = rw weights (All-cons (WeightInRange n) (record { premise = place; by = pos 1 }) []
        (record { positive = omega (arith, ints); most = omega (arith, ints); premise = l }) (All-nil (WeightInRange n)));
    rising = λ i j d h k. let e = ap length weights in absurd (omega arith);
  }

-- Those without a weight.
module _ (given : List Row) (m : Multipliers) (divisor : m.divisor ≡ pos 1) (weights : m.weights ≡ []) where
  pub none-proves : (new : Row) → ((k : ℕ) → coefficient k new ≡ pos 0) → pos 0 ≤ℤ new.bound → Proves given new m
  none-proves new nil low = record {
    positive = rw divisor (omega (arith, ints));
    none_negative = rw weights (All-nil (λ w. pos 0 ≤ℤ w.by));
    sides = λ k. ap (λ ws. weighted (coefficient k) given ws) weights ∙ sym (ap (λ z. m.divisor *ℤ z) (nil k) ∙ *ℤ-zero m.divisor);
    bounds = below _ _ _ (ap (λ ws. weighted (λ q. q.bound) given ws) weights) divisor low;
  }
    where
      below : (s d c : ℤ) → s ≡ pos 0 → d ≡ pos 1 → pos 0 ≤ℤ c → s <ℤ (d *ℤ (c +ℤ pos 1))
      below s d c e f l = rw f (let x = one (c +ℤ pos 1) in omega (arith, ints))

  pub none-ranges : (n : ℕ) → HasRanges n m
  none-ranges n = record {
    positive = rw divisor (omega (arith, ints));
    divisor = rw divisor (omega (arith, ints));
    most = let e = ap length weights in omega arith;
    weights = rw weights (All-nil (WeightInRange n));
    rising = λ i j d h k. let e = ap length weights in absurd (omega arith);
  }

-- Those with two.
pub pair-shown : (given : List Row) (t : List ℤ) (p q r : Row) (u v : Weight) (m : Multipliers) → row_at given u.premise ≡ p → row_at given v.premise ≡ q
    → u.by ≡ pos 0 -ℤ gain t q → v.by ≡ gain t p → IsLevelled t p q r → IsPairOf u v m → HasRanges (length given) m → IsShownBefore given r m
pair-shown given t p q r u v m ep eq eu ev level pair ranges = record {
  proves = record {
    positive = rw pair.divisor (omega (arith, ints));
    none_negative = All-weaker (WeightInRange (length given)) (λ w. pos 0 ≤ℤ w.by) (λ w h. let x = h.positive in omega (arith, ints)) m.weights ranges.weights;
    sides = λ k. sum (coefficient k) ∙ sym (level.coefficients k) ∙ sym (one (coefficient k r)) ∙ ap (λ d. d *ℤ coefficient k r) (sym pair.divisor);
    bounds = below _ _ _ (sum (λ s. s.bound) ∙ sym level.bound) pair.divisor;
  };
  ranges = ranges;
}
  where
    sum : (f : Row → ℤ) → weighted f given m.weights ≡ ((pos 0 -ℤ gain t q) *ℤ f p) +ℤ (gain t p *ℤ f q)
    sum f = pair.sums f given ∙ (λ i. (eu i *ℤ f (ep i)) +ℤ (ev i *ℤ f (eq i)))

    below : (s b d : ℤ) → s ≡ b → d ≡ pos 1 → s <ℤ (d *ℤ (b +ℤ pos 1))
    below s b d e f = rw f (let x = one (b +ℤ pos 1) in omega (arith, ints))

module _ (updates : List Form) (t : List ℤ) (course : IsCourse updates t) where
  none_form : Form
  none_form = record { coefficients = []; constant = pos 0 }

  form : ℕ → Form
  form k = get_or updates k none_form

  columns : ℕ → List ℤ
  columns k = map (λ f. number k f.coefficients) updates

  -- A row over the memories that has none that is reset.
  module _ (r : Row) (narrow : IsNarrow (length updates) r) (kept : ¬ MentionsReset updates r) where
    own : (k : ℕ) → coefficient k r ≢ pos 0 → (k < length updates) × IsOwn k (get_or updates k none_form)
    own k n = go (cases_lt k (length updates))
      where
        kind : k < length updates → IsOwn k (get_or updates k none_form) ⊎ IsReset (get_or updates k none_form) → (k < length updates) ×
            IsOwn k (get_or updates k none_form)
        kind l (inl o) = (l, o)
        kind l (inr z) = absurd (kept (k, get_or updates k none_form, slice_get-get_or updates k none_form l, z, n))

        go : (k < length updates) ⊎ (length updates ≤ k) → (k < length updates) × IsOwn k (get_or updates k none_form)
        go (inl l) = kind l (course.turns k (get_or updates k none_form) (slice_get-get_or updates k none_form l))
        go (inr l) = absurd (n (narrow k l))

    turned : (k : ℕ) → dot r.coefficients (map (λ f. number k f.coefficients) updates) ≡ coefficient k r
    turned k = dot-pick r.coefficients (map (λ f. number k f.coefficients) updates) k
        (λ n. let o = own k n in get_or-map (λ f. number k f.coefficients) updates k none_form (pos 0) (o.0) ∙ (o.1).one)
        (λ j n d. let o = own j n in get_or-map (λ f. number k f.coefficients) updates j none_form (pos 0) (o.0) ∙ (o.1).others k (λ e. d (sym e)))

    pub constants : dot r.coefficients (map (λ f. f.constant) updates) ≡ gain t r
    constants = dot-read r.coefficients (map (λ f. f.constant) updates) t
        (λ k n. let o = own k n in get_or-map (λ f. f.constant) updates k none_form (pos 0) (o.0)
        ∙ sym (course.direction.own k (get_or updates k none_form) (slice_get-get_or updates k none_form (o.0)) (o.1)))

    past : (k : ℕ) → forms_width updates ≤ k → coefficient k r ≡ pos 0
    past k l = go (zero_or (coefficient k r))
      where
        differ : (z : ℤ) → z ≡ pos 1 → z ≡ pos 0 → ⊥
        differ z e f = omega (arith, ints)

        go : (coefficient k r ≡ pos 0) ⊎ (coefficient k r ≢ pos 0) → coefficient k r ≡ pos 0
        go (inl e) = e
        go (inr n) =
            let o = own k n in
            let w = course.widths k none_form (o.0) in
            absurd (differ (number k (get_or updates k none_form).coefficients) (o.1).one
            (get_or_past (get_or updates k none_form).coefficients k (pos 0) (omega arith)))

    pub before : ℤ → Row
    before b = record { coefficients = fill (forms_width updates) r.coefficients; bound = b }

    pub before-same : (b : ℤ) (k : ℕ) → coefficient k (before b) ≡ coefficient k r
    unfolding before
    before-same b k = fill-at (forms_width updates) r.coefficients past k

    -- the row after a turn is itself, with a bound that the gain is taken from
    pub before-is : (s : Row) → ((k : ℕ) → coefficient k s ≡ coefficient k r) → IsSubstituted s updates (before (s.bound -ℤ gain t r))
    unfolding before
    before-is s same = record {
      width = length-fill (forms_width updates) r.coefficients;
      coefficients = λ k. before-same (s.bound -ℤ gain t r) k ∙ sym (turned k)
          ∙ sym (dot-ext (map (λ f. number k f.coefficients) updates) s.coefficients r.coefficients same);
      bound = ap (λ z. s.bound -ℤ z) (sym constants ∙ sym (dot-ext (map (λ f. f.constant) updates) s.coefficients r.coefficients same));
    }

    module _ (given : List Row) (place : ℕ) (there : row_at given place ≡ r) (inside : place < length given) (m : Multipliers)
        (divisor : m.divisor ≡ pos 1) (weights : m.weights ≡ record { premise = place; by = pos 1 } ∷ []) where
      -- a premise proves itself moved, after a turn
      pub moved-shown : (s : Row) → IsMovedRow t r s → IsShownAfter given updates s m
      unfolding before
      moved-shown s moved = record {
        before = before (s.bound -ℤ gain t r);
        substituted = before-is s moved.coefficients;
        proves = unit-proves given m place divisor weights r (before (s.bound -ℤ gain t r)) there (before-same (s.bound -ℤ gain t r))
            (up _ _ _ moved.bound);
        ranges = unit-ranges given m place divisor weights (length given) inside;
      }
        where
          up : (s b g : ℤ) → s ≡ b +ℤ g → b ≤ℤ (s -ℤ g)
          up s b g e = omega (arith, ints)

      -- and a premise that does not gain proves itself
      pub level-shown : gain t r ≤ℤ pos 0 → IsShownAfter given updates r m
      unfolding before
      level-shown low = record {
        before = before (r.bound -ℤ gain t r);
        substituted = before-is r (λ k. refl);
        proves = unit-proves given m place divisor weights r (before (r.bound -ℤ gain t r)) there (before-same (r.bound -ℤ gain t r)) (up _ _ low);
        ranges = unit-ranges given m place divisor weights (length given) inside;
      }
        where
          up : (b g : ℤ) → g ≤ℤ pos 0 → b ≤ℤ (b -ℤ g)
          up b g l = omega (arith, ints)

  -- A row that bounds a memory that is reset.
  module _ (r : Row) (pinned : IsPinned updates r) where
    form-is : get_or updates pinned.column none_form ≡ pinned.form
    form-is = get_or_from_slice_get updates pinned.column pinned.form none_form pinned.there

    inside : pinned.column < length updates
    inside = slice_get_within updates pinned.column pinned.form pinned.there

    column-zero : (k : ℕ) → dot r.coefficients (map (λ f. number k f.coefficients) updates) ≡ pos 0
    column-zero k =
        dot-alone r.coefficients (map (λ f. number k f.coefficients) updates) pinned.column pinned.others
        ∙ ap (λ z. coefficient pinned.column r *ℤ z) (get_or-map (λ f. number k f.coefficients) updates pinned.column none_form (pos 0) inside
        ∙ ap (λ f. number k f.coefficients) form-is ∙ pinned.reset k)
        ∙ *ℤ-zero (coefficient pinned.column r)

    constant-is : dot r.coefficients (map (λ f. f.constant) updates) ≡ r.bound
    constant-is =
        dot-alone r.coefficients (map (λ f. f.constant) updates) pinned.column pinned.others
        ∙ ap (λ z. coefficient pinned.column r *ℤ z) (get_or-map (λ f. f.constant) updates pinned.column none_form (pos 0) inside ∙ ap
        (λ f. f.constant) form-is)
        ∙ sym pinned.bound

    pub pinned-gain : gain t r ≡ pos 0
    pinned-gain =
        dot-alone r.coefficients t pinned.column pinned.others
        ∙ ap (λ z. coefficient pinned.column r *ℤ z) (course.direction.reset pinned.column pinned.form pinned.there pinned.reset)
        ∙ *ℤ-zero (coefficient pinned.column r)

    pub pinned-shown : (given : List Row) (m : Multipliers) → m.divisor ≡ pos 1 → m.weights ≡ [] → IsShownAfter given updates r m
    pinned-shown given m divisor weights = record {
      before = record { coefficients = fill (forms_width updates) []; bound = r.bound -ℤ r.bound };
      substituted = record {
        width = length-fill (forms_width updates) [];
        coefficients = λ k. fill-at (forms_width updates) [] (λ j l. refl) k ∙ sym (column-zero k);
        bound = ap (λ z. r.bound -ℤ z) (sym constant-is);
      };
      proves = none-proves given m divisor weights (record { coefficients = fill (forms_width updates) []; bound = r.bound -ℤ r.bound })
          (λ k. fill-at (forms_width updates) [] (λ j l. refl) k) (none r.bound);
      ranges = none-ranges given m divisor weights (length given);
    }
      where
        none : (b : ℤ) → pos 0 ≤ℤ (b -ℤ b)
        none b = omega (arith, ints)
