-- Rows without those that show nothing.
use Rattle.std.proofs.Common.{◌≡◌, ◌⊎◌, ℕ, ◌+◌, ℤ, pos, negsuc, ◌+ℤ◌, ◌≤ℤ◌, ◌<ℤ◌, Bool, true, false, List, [], ◌∷◌, ◌++◌, take}
use Rattle.std.proofs.Common.{slice_get, Some}
use Rattle.std.proofs.Common.{arith, refl, sym, ap, ◌∙◌, subst, inl, inr}
use Rattle.std.proofs.{lemmas.Int.ints, lemmas.Int.by_lt_z}
use Rattle.std.proofs.lemmas.List.{append-nil, append_assoc, get_or_default}
use Rattle.std.proofs.lemmas.List.Elements.{Contains-append_left, Contains-push, Contains-push_cases, All-push}
use Rattle.std.specs.List.{Contains}
use Rattle.rv_rows.specs.Multipliers.{ShowsAtOnce, AreShutAtOnce, by_none, by_one}
use Rattle.rv_rows.specs.{declared.linear.Row.Row, Rows.coefficient, Rows.row_at}
use Rattle.rv_diagram.specs.{declared.Triple.Triple, Nodes.Valuation, Nodes.value_of}
use Rattle.rv_pairs.specs.{Shown.SumShows, Telling.IsZero, Telling.AreMet, Telling.Tells, declared.labels.Labelled.Labelled}
use Rattle.rv_pairs.specs.Labels.{active, row_where, IsLabel, AreLabels}
use Rattle.rv_pairs.proofs.Counting.{active_more, active_push}
use Rattle.rv_pairs.proofs.Pairing.{nothing, shown_cases, shown_still, shown_alone, shown_paired}

pub tells_none : Tells [] []
tells_none = record { among = λ r h. h; others = λ r h. inl h; same = λ met w. (λ s. s, λ s. s) }

pub met_first : (rows : List Row) (r : Row) → AreMet (rows ++ r ∷ []) → AreMet rows
met_first rows r met x has zero = met x (Contains-append_left rows (r ∷ []) x has) zero

-- a row with a left side of zeros and a bound that is met shows nothing
module _ (rows told : List Row) (r : Row) (t : Tells rows told) where
  by_zero : (w : Row) → IsZero r → pos 0 ≤ℤ r.bound → SumShows r nothing w → ShowsAtOnce rows w
  by_zero w zero met s = by_none (λ k. none (coefficient k w) (coefficient k r) (coefficient k nothing) (s.sides k) (zero k) refl)
      (less r.bound w.bound met s.bounds)
    where
      none : (x y z : ℤ) → x ≡ y +ℤ z → y ≡ pos 0 → z ≡ pos 0 → x ≡ pos 0
      none x y z e f g = omega (arith, ints)

      less : (x y : ℤ) → pos 0 ≤ℤ x → (x +ℤ pos 0) ≤ℤ y → pos 0 ≤ℤ y
      less x y m l = omega (arith, ints)

  by_other : (w q : Row) → IsZero r → pos 0 ≤ℤ r.bound → SumShows q r w → SumShows q nothing w
  by_other w q zero met s = record {
    sides = λ k. alike (coefficient k w) (coefficient k q) (coefficient k r) (coefficient k nothing) (s.sides k) (zero k) refl;
    bounds = less q.bound r.bound w.bound met s.bounds;
  }
    where
      alike : (x y z u : ℤ) → x ≡ y +ℤ z → z ≡ pos 0 → u ≡ pos 0 → x ≡ y +ℤ u
      alike x y z u e f g = omega (arith, ints)

      less : (x y z : ℤ) → pos 0 ≤ℤ y → (x +ℤ y) ≤ℤ z → (x +ℤ pos 0) ≤ℤ z
      less x y z m l = omega (arith, ints)

  alone_in : (w q : Row) → Contains rows q → SumShows q nothing w → ShowsAtOnce rows w
  alone_in w q (i, low, is) s =
      let e : q ≡ row_at rows i = sym (get_or_default rows i nothing q low ∙ is) in
      by_one i low (λ k. plain (coefficient k w) (coefficient k q) (coefficient k nothing) (s.sides k) refl ∙ ap (coefficient k) e)
      (subst (λ (x : Row). x.bound ≤ℤ w.bound) e (low_bound q.bound w.bound s.bounds))
    where
      plain : (x y z : ℤ) → x ≡ y +ℤ z → z ≡ pos 0 → x ≡ y
      plain x y z e f = omega (arith, ints)

      low_bound : (x y : ℤ) → (x +ℤ pos 0) ≤ℤ y → x ≤ℤ y
      low_bound x y l = omega (arith, ints)

  skipped : (w : Row) → IsZero r → pos 0 ≤ℤ r.bound → ShowsAtOnce (rows ++ r ∷ []) w → ShowsAtOnce rows w
  skipped w zero met h = go (shown_cases rows r w h)
    where
      go : ShowsAtOnce rows w ⊎ (SumShows r nothing w ⊎ ((q : Row) × Contains rows q × SumShows q r w)) → ShowsAtOnce rows w
      go (inl s) = s
      go (inr (inl s)) = by_zero w zero met s
      go (inr (inr (q, has, s))) = alone_in w q has (by_other w q zero met s)

  pub tells_skip : IsZero r → Tells (rows ++ r ∷ []) told
  tells_skip zero = record {
    among = λ x has. Contains-append_left rows (r ∷ []) x (t.among x has);
    others = λ x has. go x (Contains-push_cases rows r x has);
    same = λ met w. (
      λ h. shown_still rows r w ((t.same (met_first rows r met) w).0 h),
      λ h. (t.same (met_first rows r met) w).1 (skipped w zero (met r (Contains-push rows r) zero) h),
    );
  }
    where
      go : (x : Row) → Contains rows x ⊎ (r ≡ x) → Contains told x ⊎ IsZero x
      go x (inl has) = t.others x has
      go x (inr e) = inr (subst IsZero e zero)

  pub tells_more : Tells (rows ++ r ∷ []) (told ++ r ∷ [])
  tells_more = record {
    among = λ x has. wider x (Contains-push_cases told r x has);
    others = λ x has. other x (Contains-push_cases rows r x has);
    same = λ met w. (
      λ h. to met w (shown_cases told r w h),
      λ h. from met w (shown_cases rows r w h),
    );
  }
    where
      wider : (x : Row) → Contains told x ⊎ (r ≡ x) → Contains (rows ++ r ∷ []) x
      wider x (inl has) = Contains-append_left rows (r ∷ []) x (t.among x has)
      wider x (inr e) = subst (Contains (rows ++ r ∷ [])) e (Contains-push rows r)

      other : (x : Row) → Contains rows x ⊎ (r ≡ x) → Contains (told ++ r ∷ []) x ⊎ IsZero x
      other x (inl has) = left x (t.others x has)
        where
          left : (x : Row) → Contains told x ⊎ IsZero x → Contains (told ++ r ∷ []) x ⊎ IsZero x
          left x (inl h) = inl (Contains-append_left told (r ∷ []) x h)
          left x (inr z) = inr z
      other x (inr e) = inl (subst (Contains (told ++ r ∷ [])) e (Contains-push told r))

      to : AreMet (rows ++ r ∷ []) → (w : Row) → ShowsAtOnce told w ⊎ (SumShows r nothing w ⊎ ((q : Row) × Contains told q × SumShows q r w))
          → ShowsAtOnce (rows ++ r ∷ []) w
      to met w (inl s) = shown_still rows r w ((t.same (met_first rows r met) w).0 s)
      to met w (inr (inl s)) = shown_alone rows r w s
      to met w (inr (inr (q, has, s))) = shown_paired rows r w q (t.among q has) s

      turn : (w q : Row) → SumShows q r w → IsZero q → pos 0 ≤ℤ q.bound → SumShows r nothing w
      turn w q s zero met = record {
        sides = λ k. alike (coefficient k w) (coefficient k q) (coefficient k r) (coefficient k nothing) (s.sides k) (zero k) refl;
        bounds = less q.bound r.bound w.bound met s.bounds;
      }
        where
          alike : (x y z u : ℤ) → x ≡ y +ℤ z → y ≡ pos 0 → u ≡ pos 0 → x ≡ z +ℤ u
          alike x y z u e f g = omega (arith, ints)

          less : (x y z : ℤ) → pos 0 ≤ℤ x → (x +ℤ y) ≤ℤ z → (y +ℤ pos 0) ≤ℤ z
          less x y z m l = omega (arith, ints)

      from : AreMet (rows ++ r ∷ []) → (w : Row) → ShowsAtOnce rows w ⊎ (SumShows r nothing w ⊎ ((q : Row) × Contains rows q × SumShows q r w))
          → ShowsAtOnce (told ++ r ∷ []) w
      from met w (inl s) = shown_still told r w ((t.same (met_first rows r met) w).1 s)
      from met w (inr (inl s)) = shown_alone told r w s
      from met w (inr (inr (q, has, s))) = pick (t.others q has)
        where
          pick : Contains told q ⊎ IsZero q → ShowsAtOnce (told ++ r ∷ []) w
          pick (inl h) = shown_paired told r w q h s
          pick (inr zero) = shown_alone told r w (turn w q s zero (met q (Contains-append_left rows (r ∷ []) q has) zero))

-- more rows, which both lists have
pub tells_all : (rows told given : List Row) → Tells rows told → Tells (rows ++ given) (told ++ given)
tells_all rows told [] t = subst (λ (xs : List Row). Tells xs (told ++ [])) (sym (append-nil rows)) (subst (Tells rows) (sym (append-nil told)) t)
tells_all rows told (r ∷ given) t =
    subst (λ (xs : List Row). Tells xs (told ++ r ∷ given)) (append_assoc rows (r ∷ []) given)
    (subst (Tells ((rows ++ r ∷ []) ++ given)) (append_assoc told (r ∷ []) given)
    (tells_all (rows ++ r ∷ []) (told ++ r ∷ []) given (tells_more rows told r t)))

pub tells_where : (b : Bool) (rows told : List Row) (r : Row) → Tells rows told → Tells (rows ++ row_where b r) (told ++ row_where b r)
tells_where true rows told r t = tells_more rows told r t
tells_where false rows told r t = subst (λ (xs : List Row). Tells xs (told ++ [])) (sym (append-nil rows)) (subst (Tells rows) (sym (append-nil told)) t)

pub skips_where : (b : Bool) (rows told : List Row) (r : Row) → IsZero r → Tells rows told → Tells (rows ++ row_where b r) told
skips_where true rows told r zero t = tells_skip rows told r t zero
skips_where false rows told r zero t = subst (λ (xs : List Row). Tells xs told) (sym (append-nil rows)) t

-- rows that are not shut at once are met
pub open_met : (rows : List Row) → ¬ AreShutAtOnce rows → AreMet rows
open_met rows never r (i, low, is) zero = by_lt_z r.bound (pos 0) (λ (l : r.bound <ℤ pos 0). absurd (never (shut l))) (λ (l : pos 0 ≤ℤ r.bound). l)
  where
    e : r ≡ row_at rows i
    e = sym (get_or_default rows i nothing r low ∙ is)

    down : (x : ℤ) → x <ℤ pos 0 → x ≤ℤ negsuc 0
    down x l = omega (arith, ints)

    shut : r.bound <ℤ pos 0 → AreShutAtOnce rows
    shut l = by_one i low (λ k. sym (zero k) ∙ ap (coefficient k) e) (subst (λ (x : Row). x.bound ≤ℤ negsuc 0) e (down r.bound l))

-- one labelled row more, which is told or not
pub told_more : (nodes : List Triple) (labels : List Labelled) (n : ℕ) (l : Labelled) (told new : List Labelled) (v : Valuation) → slice_get labels n ≡ Some l
    → Tells (active nodes (take n labels) v) (active nodes told v) → (new ≡ told ++ l ∷ []) ⊎ ((new ≡ told) × IsZero l.row)
    → Tells (active nodes (take (n + 1) labels) v) (active nodes new v)
told_more nodes labels n l told new v at t (inl e) =
    subst (λ (rs : List Row). Tells rs (active nodes new v)) (sym (active_more nodes labels n l v at))
    (subst (λ (ls : List Labelled). Tells (active nodes (take n labels) v ++ row_where (value_of nodes l.under v) l.row) (active nodes ls v)) (sym e)
    (subst (Tells (active nodes (take n labels) v ++ row_where (value_of nodes l.under v) l.row)) (sym (active_push nodes told l v))
    (tells_where (value_of nodes l.under v) (active nodes (take n labels) v) (active nodes told v) l.row t)))
told_more nodes labels n l told new v at t (inr (e, zero)) =
    subst (λ (rs : List Row). Tells rs (active nodes new v)) (sym (active_more nodes labels n l v at))
    (subst (λ (ls : List Labelled). Tells (active nodes (take n labels) v ++ row_where (value_of nodes l.under v) l.row) (active nodes ls v)) (sym e)
    (skips_where (value_of nodes l.under v) (active nodes (take n labels) v) (active nodes told v) l.row zero t))

pub labels_told : (nodes : List Triple) (told new : List Labelled) (l : Labelled) → AreLabels nodes told → IsLabel nodes l
    → (new ≡ told ++ l ∷ []) ⊎ ((new ≡ told) × IsZero l.row) → AreLabels nodes new
labels_told nodes told new l are is (inl e) = subst (AreLabels nodes) (sym e) (All-push (IsLabel nodes) told l are is)
labels_told nodes told new l are is (inr (e, zero)) = subst (AreLabels nodes) (sym e) are
