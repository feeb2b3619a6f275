-- Points with further numbers, and the updated points of moves.
use Rattle.std.proofs.Common.{◌≡◌, ◌⊎◌, ℕ, zero, suc, ◌+◌, ◌≤◌, ◌<◌, ℤ, pos, ◌+ℤ◌, ◌*ℤ◌, List, [], ◌∷◌, ◌++◌, length, get_or, replicate, All, arith, refl, ap}
use Rattle.std.proofs.Common.{sym, ◌∙◌, subst, inl, inr}
use Rattle.std.proofs.lemmas.Bool.{cases_lt}
use Rattle.std.proofs.lemmas.List.{length-append, length-replicate, get_or_append_left, get_or-append-add, get_or_past}
use Rattle.rv_rows.specs.{declared.linear.Row.Row, declared.linear.Form.Form, Rows.dot, Rows.Holds, Forms.number, Forms.value, Forms.values}
use Rattle.rv_poly.specs.{Points.HasPoint, Images.IsImage, Images.AreMoves, Images.IsNarrow}
use Rattle.rv_proofs.proofs.Moved.{dot-read}
use Rattle.rv_proofs.specs.declared.report.Case.{Case}
use Rattle.rv_state.specs.States.{IsUpdated}

dot-append : (cs xs ys : List ℤ) → length cs ≤ length xs → dot cs (xs ++ ys) ≡ dot cs xs
dot-append [] xs ys l = refl
dot-append (c ∷ cs) [] ys l = absurd (omega arith)
dot-append (c ∷ cs) (x ∷ xs) ys l = ap (λ z. (c *ℤ x) +ℤ z) (dot-append cs xs ys (omega arith))

-- rows do not see the numbers beyond their width
wide-point : (rows : List Row) (width : ℕ) (point further : List ℤ) → All (λ r. length r.coefficients ≡ width) rows → length point ≡ width → HasPoint rows point
    → HasPoint rows (point ++ further)
wide-point rows width point further widths size h i d l =
    let w = widths i d l in
    let e : dot (get_or rows i d).coefficients (point ++ further) ≡ dot (get_or rows i d).coefficients point = dot-append (get_or rows i d).coefficients point
    further (omega arith) in
    rw e (h i d l)

-- what contains each updated point of longer points does so with the inputs apart
pub updated-there : (own p : List Row) (c : Case) → All (λ r. length r.coefficients ≡ length c.updates) own
    → ((point : List ℤ) → HasPoint own point → HasPoint c.rows point → HasPoint p (values c.updates point))
    → (inputs : ℕ) (new : List ℤ) → IsUpdated own c inputs new → HasPoint p new
updated-there own p c widths contains inputs new u =
    subst (λ (x : List ℤ). HasPoint p x) (sym u.updated)
    (contains (u.point ++ u.further) (wide-point own (length c.updates) u.point u.further widths u.size u.has) u.meets)

-- the first n numbers, 0 where there is none
padded : ℕ → List ℤ → List ℤ
padded zero xs = []
padded (suc n) [] = pos 0 ∷ padded n []
padded (suc n) (x ∷ xs) = x ∷ padded n xs

length-padded : (n : ℕ) (xs : List ℤ) → length (padded n xs) ≡ n
unfolding padded
length-padded zero xs = refl
length-padded (suc n) [] = ap suc (length-padded n [])
length-padded (suc n) (x ∷ xs) = ap suc (length-padded n xs)

number-padded : (n : ℕ) (xs : List ℤ) (k : ℕ) → k < n → number k (padded n xs) ≡ number k xs
unfolding padded
number-padded zero xs k l = absurd (omega arith)
number-padded (suc n) [] zero l = refl
number-padded (suc n) [] (suc k) l = number-padded n [] k (omega arith)
number-padded (suc n) (x ∷ xs) zero l = refl
number-padded (suc n) (x ∷ xs) (suc k) l = number-padded n xs k (omega arith)

values-same : (updates : List Form) (xs ys : List ℤ) → ((k : ℕ) (d : Form) → k < length updates → value (get_or updates k d) xs ≡ value (get_or updates k d) ys)
    → values updates xs ≡ values updates ys
values-same [] xs ys h = refl
values-same (f ∷ fs) xs ys h =
    ap (λ (z : ℤ). z ∷ values fs xs) (h 0 f (omega arith))
    ∙ ap (λ (zs : List ℤ). value f ys ∷ zs) (values-same fs xs ys (λ k d l. h (suc k) d (omega arith)))

-- An updated point of moves, of any length, is one with as many inputs as are wanted.
module _ (own : List Row) (c : Case) (widths : All (λ r. length r.coefficients ≡ length c.updates) own) (moves : AreMoves c.updates)
    (narrow : All (IsNarrow (length c.updates)) c.rows) (inputs : ℕ) (new : List ℤ) (i : IsImage (own ++ c.rows) c.updates new) where
  first : List ℤ
  first = padded (length c.updates) i.point

  zeros : List ℤ
  zeros = replicate inputs (pos 0)

  first-at : (k : ℕ) → k < length c.updates → number k first ≡ number k i.point
  unfolding first
  first-at k l = number-padded (length c.updates) i.point k l

  both-at : (k : ℕ) → k < length c.updates → number k (first ++ zeros) ≡ number k i.point
  unfolding first
  both-at k l =
      let e = length-padded (length c.updates) i.point in
      get_or_append_left (padded (length c.updates) i.point) zeros (pos 0) k (omega arith) ∙ number-padded (length c.updates) i.point k l

  -- numbers that are 0 beyond the columns do not see what is there
  same : (cs xs : List ℤ) → ((k : ℕ) → length c.updates ≤ k → number k cs ≡ pos 0) → ((k : ℕ) → k < length c.updates → number k xs ≡ number k i.point)
      → dot cs xs ≡ dot cs i.point
  same cs xs none at = dot-read cs xs i.point (λ k n. go k n (cases_lt k (length c.updates)))
    where
      go : (k : ℕ) → (number k cs ≡ pos 0 → ⊥) → (k < length c.updates) ⊎ (length c.updates ≤ k) → number k xs ≡ number k i.point
      go k n (inl l) = at k l
      go k n (inr m) = absurd (n (none k m))

  own-holds : HasPoint own first
  own-holds j d l =
      let w = widths j d l in
      let e : dot (get_or own j d).coefficients first ≡ dot (get_or own j d).coefficients i.point =
      same (get_or own j d).coefficients first (λ k m. get_or_past (get_or own j d).coefficients k (pos 0) (omega arith)) first-at in
      let a : get_or (own ++ c.rows) j d ≡ get_or own j d = get_or_append_left own c.rows d j l in
      let h : Holds (get_or (own ++ c.rows) j d) i.point = i.has j d (omega (arith, length-append own c.rows)) in
      rw e (subst (λ (r : Row). Holds r i.point) a h)

  rows-hold : HasPoint c.rows (first ++ zeros)
  rows-hold j d l =
      let e : dot (get_or c.rows j d).coefficients (first ++ zeros) ≡ dot (get_or c.rows j d).coefficients i.point =
      same (get_or c.rows j d).coefficients (first ++ zeros) (narrow j d l) both-at in
      let a : get_or (own ++ c.rows) (length own + j) d ≡ get_or c.rows j d = get_or-append-add own c.rows j d in
      let h : Holds (get_or (own ++ c.rows) (length own + j) d) i.point = i.has (length own + j) d (omega (arith, length-append own c.rows)) in
      rw e (subst (λ (r : Row). Holds r i.point) a h)

  pub image-updated : IsUpdated own c inputs new
  unfolding first zeros
  image-updated = record {
    point = first;
    further = zeros;
    size = length-padded (length c.updates) i.point;
    count = length-replicate inputs (pos 0);
    has = own-holds;
    meets = rows-hold;
    updated = i.updated ∙ sym (values-same c.updates (first ++ zeros) i.point (λ k d l. ap (λ z. z +ℤ (get_or c.updates k d).constant)
        (same (get_or c.updates k d).coefficients (first ++ zeros) (λ n m. (moves k d l).1 n (λ e. omega arith)) both-at)));
  }
