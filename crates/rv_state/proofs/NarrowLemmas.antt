-- Rows with few coefficients.
use Rattle.std.proofs.Common.{◌≡◌, ◌≢◌, ℕ, zero, suc, ◌+◌, ◌<◌, ◌≤◌, ℤ, pos, negsuc, List, [], ◌∷◌, ◌++◌, length, take, get_or, All, Some, slice_get, arith}
use Rattle.std.proofs.Common.{refl, sym, ap, ◌∙◌, subst, ◌⊎◌, inl, inr}
use Rattle.std.proofs.lemmas.List.{take_more, length-take-le, length-append, get_or_append_left, get_or_push}
use Rattle.std.proofs.lemmas.List.Elements.{All-append, All-cons, All-nil, Contains-append_left, Contains-push, Contains-push_cases}
use Rattle.std.proofs.{lemmas.Bool.cases_lt, lemmas.Option.slice_get_within, lemmas.Option.get_or_from_slice_get}
use Rattle.std.specs.List.{Contains}
use Rattle.rv_rows.specs.{declared.linear.Row.Row, Rows.Holds, Tight.Fits}
use Rattle.rv_poly.specs.{Points.HasPoint, Polys.IsPoly}
use Rattle.rv_state.specs.Narrow.{present, support, IsNotedRow, IsNarrowed, SpansNarrow}
use Rattle.rv_state.proofs.JoinLemmas.{one-width}

pub present-none : present (pos 0) ≡ 0
unfolding present
present-none = refl

pub present-some : (z : ℤ) → z ≢ pos 0 → present z ≡ 1
unfolding present
present-some (pos zero) some = absurd (some refl)
present-some _ some = refl

present-most : (z : ℤ) → present z ≤ 1
unfolding present
present-most (pos zero) = omega arith
present-most (pos (suc n)) = omega arith
present-most (negsuc n) = omega arith

pub support-none : support [] ≡ 0
unfolding support
support-none = refl

support-most : (xs : List ℤ) → support xs ≤ length xs
unfolding support
support-most [] = omega arith
support-most (x ∷ xs) = omega (arith, present-most x, support-most xs)

pub support-push : (xs : List ℤ) (c : ℤ) → support (xs ++ c ∷ []) ≡ support xs + present c
unfolding support
support-push [] c = omega arith
support-push (x ∷ xs) c = ap (λ n. present x + n) (support-push xs c) ∙ omega arith

-- the support of one number more
pub support-more : (xs : List ℤ) (n : ℕ) → n < length xs → support (take (n + 1) xs) ≡ support (take n xs) + present (get_or xs n (pos 0))
support-more xs n l = ap support (take_more xs n (pos 0) l) ∙ support-push (take n xs) (get_or xs n (pos 0))

pub support-few : (xs : List ℤ) (n : ℕ) → n < length xs → support (take n xs) + present (get_or xs n (pos 0)) ≤ length xs
support-few xs n l = omega (arith, support-more xs n l, support-most (take (n + 1) xs), length-take-le (n + 1) xs (omega (arith, l)))

-- what is so of each old row is so of each new one
pub each-narrowed : (P : Row → Type 0) (most : ℕ) (old new : List Row) → IsNarrowed most old new → All P old → All P new
each-narrowed P most old new n h i d l =
    let (j, within, same) = n.from i d l in
    subst P (sym same) (h j d within)

-- one row more
pub narrowed-more : (most : ℕ) (old rows new : List Row) (n : ℕ) (r : Row) → slice_get old n ≡ Some r → IsNarrowed most (take n old) rows
    → IsNotedRow most r rows new → IsNarrowed most (take (n + 1) old) new
narrowed-more most old rows new n r at h noted = go noted
  where
    within : n < length old
    within = slice_get_within old n r at

    longer : take (n + 1) old ≡ take n old ++ r ∷ []
    longer = take_more old n r within ∙ ap (λ y. take n old ++ y ∷ []) (get_or_from_slice_get old n r r at)

    size : length (take n old) ≡ n
    size = length-take-le n old (omega (arith, within))

    keeps : (j : ℕ) (d : Row) → j < length (take n old) → get_or (take (n + 1) old) j d ≡ get_or (take n old) j d
    keeps j d l = ap (λ xs. get_or xs j d) longer ∙ get_or_append_left (take n old) (r ∷ []) d j l

    last : (d : Row) → get_or (take (n + 1) old) n d ≡ r
    last d = ap (λ xs. get_or xs n d) longer ∙ get_or_push (take n old) r d n size

    count : length (take (n + 1) old) ≡ n + 1
    count = length-take-le (n + 1) old (omega (arith, within))

    there : (i : ℕ) (d : Row) → i < length rows → (j : ℕ) × (j < length (take (n + 1) old)) × (get_or rows i d ≡ get_or (take (n + 1) old) j d)
    there i d l = let (j, low, same) = h.from i d l in (j, omega (arith, low, size, count), same ∙ sym (keeps j d low))

    among : (q : Row) → Contains (take (n + 1) old) q → Contains (take n old) q ⊎ (r ≡ q)
    among q w = Contains-push_cases (take n old) r q (subst (λ (xs : List Row). Contains xs q) longer w)

    go : IsNotedRow most r rows new → IsNarrowed most (take (n + 1) old) new
    go (inr (more, same)) = subst (λ (xs : List Row). IsNarrowed most (take (n + 1) old) xs) (sym same) (record {
      few = omega (arith, h.few, size, count);
      from = there;
      narrow = h.narrow;
      kept = λ q w few. kept q few (among q w);
    })
      where
        kept : (q : Row) → support q.coefficients ≤ most → Contains (take n old) q ⊎ (r ≡ q) → Contains rows q
        kept q few (inl front) = h.kept q front few
        kept q few (inr is) = let e = ap (λ (x : Row). support x.coefficients) is in absurd (omega (arith, more, few, e))
    go (inl (small, same)) = subst (λ (xs : List Row). IsNarrowed most (take (n + 1) old) xs) (sym same) (record {
      few = omega (arith, h.few, size, count, length-append rows (r ∷ []));
      from = λ i d l. from i d l (cases_lt i (length rows));
      narrow = All-append (λ q. support q.coefficients ≤ most) rows (r ∷ []) h.narrow
          (All-cons (λ q. support q.coefficients ≤ most) r [] small (All-nil (λ q. support q.coefficients ≤ most)));
      kept = λ q w few. kept q few (among q w);
    })
      where
        kept : (q : Row) → support q.coefficients ≤ most → Contains (take n old) q ⊎ (r ≡ q) → Contains (rows ++ r ∷ []) q
        kept q few (inl front) = Contains-append_left rows (r ∷ []) q (h.kept q front few)
        kept q few (inr is) = subst (λ (x : Row). Contains (rows ++ r ∷ []) x) is (Contains-push rows r)

        from : (i : ℕ) (d : Row) → i < length (rows ++ r ∷ []) → (i < length rows) ⊎ (length rows ≤ i)
            → (j : ℕ) × (j < length (take (n + 1) old)) × (get_or (rows ++ r ∷ []) i d ≡ get_or (take (n + 1) old) j d)
        from i d l (inl low) =
            let (j, below, same) = there i d low in (j, below, get_or_append_left rows (r ∷ []) d i low ∙ same)
        from i d l (inr past) =
            let e : length rows ≡ i = omega (arith, l, past, length-append rows (r ∷ [])) in
            (n, omega (arith, count), get_or_push rows r d i e ∙ sym (last d))

-- what few rows span, as what they were taken out of
pub spans-narrowed : (most : ℕ) (old new : List Row) (width : ℕ) → IsNarrowed most old new → IsPoly old → All (λ r. length r.coefficients ≡ width) old
    → SpansNarrow most new width
spans-narrowed most old new width n poly widths =
    let same : All (λ r. length r.coefficients ≡ width) new = each-narrowed (λ r. length r.coefficients ≡ width) most old new n widths in
    record {
      poly = record {
        widths = one-width new width same;
        fits = each-narrowed Fits most old new n poly.fits;
        few = omega (arith, n.few, poly.few);
      };
      widths = same;
      narrow = n.narrow;
    }

-- no point is lost
pub points-narrowed : (most : ℕ) (old new : List Row) → IsNarrowed most old new → (point : List ℤ) → HasPoint old point → HasPoint new point
points-narrowed most old new n point h = each-narrowed (λ r. Holds r point) most old new n h

-- each row is one of those that it was taken out of
pub only-narrowed : (most : ℕ) (old new : List Row) → IsNarrowed most old new → (r : Row) → Contains new r → Contains old r
only-narrowed most old new n r w =
    let (j, within, same) = n.from w.0 r w.1 in
    (j, within, sym same ∙ w.2)
