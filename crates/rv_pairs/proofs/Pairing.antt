-- What rows show at once with one row more.
use Rattle.std.proofs.Common.{◌≡◌, ◌↔◌, ◌⊎◌, ℕ, ◌+◌, ◌<◌, ◌≤◌, ℤ, pos, ◌+ℤ◌, ◌≤ℤ◌, Bool, true, false, List, [], ◌∷◌, ◌++◌, length, take}
use Rattle.std.proofs.Common.{slice_get, Some}
use Rattle.std.proofs.Common.{arith, refl, sym, ap, ◌∙◌, subst, inl, inr, length-append}
use Rattle.std.proofs.lemmas.List.{append-nil, get_or_append_left, get_or_push, get_or_default, get_or_past, take_all}
use Rattle.std.proofs.lemmas.List.Elements.{Contains-get_or, Contains-append_left, Contains-push, Contains-push_cases, All-take, All-weaker, All-contains}
use Rattle.std.proofs.{lemmas.Int.ints, lemmas.Bool.cases_lt}
use Rattle.std.specs.List.{Contains}
use Rattle.rv_rows.specs.Multipliers.{ShowsAtOnce, by_none, by_one, by_two}
use Rattle.rv_rows.specs.{declared.linear.Row.Row, Rows.coefficient, Rows.row_at, Forms.number}
use Rattle.rv_diagram.specs.{declared.Triple.Triple, Nodes.Valuation, Nodes.Diagrams, Nodes.IsRef, Nodes.value_of, Growing.Extends}
use Rattle.rv_seek.specs.Least.{bounded}
use Rattle.rv_pairs.specs.{declared.hints.Hint.Hint, Hints.AreHints, Hints.IsHintAt, Hints.IsHinted, Hints.AreHintsOf}
use Rattle.rv_pairs.specs.Shown.{IsSumOf, SumShows, BothShow, ShowsWith}
use Rattle.rv_pairs.specs.{declared.labels.Labelled.Labelled, Labels.active, Labels.row_where, Labels.IsLabel, Labels.AreLabels}
use Rattle.rv_pairs.proofs.Counting.{active_more, active_stays, has_cases, has_last}

-- the row of no premise
abbrev pub nothing : Row
nothing = record { coefficients = []; bound = pos 0 }

-- columns past the widths
pub sum_past : (numbers : List ℤ) (a b : Row) (width : ℕ) → length numbers ≤ width → length a.coefficients ≤ width → length b.coefficients ≤ width
    → ((k : ℕ) → k < width → number k numbers ≡ coefficient k a +ℤ coefficient k b) → IsSumOf numbers a b
sum_past numbers a b width l m n below k = go (cases_lt k width)
  where
    none : (x y z : ℤ) → x ≡ pos 0 → y ≡ pos 0 → z ≡ pos 0 → x ≡ y +ℤ z
    none x y z e f g = omega (arith, ints)

    go : (k < width) ⊎ (width ≤ k) → number k numbers ≡ coefficient k a +ℤ coefficient k b
    go (inl less) = below k less
    go (inr more) = none (number k numbers) (coefficient k a) (coefficient k b) (get_or_past numbers k (pos 0) (omega (arith, l, more)))
        (get_or_past a.coefficients k (pos 0) (omega (arith, m, more))) (get_or_past b.coefficients k (pos 0) (omega (arith, n, more)))

pub sum_more : (numbers : List ℤ) (a b : Row) (n : ℕ) → ((k : ℕ) → k < n → number k numbers ≡ coefficient k a +ℤ coefficient k b)
    → number n numbers ≡ coefficient n a +ℤ coefficient n b → (k : ℕ) → k < n + 1 → number k numbers ≡ coefficient k a +ℤ coefficient k b
sum_more numbers a b n below here k l = go (cases_lt k n)
  where
    go : (k < n) ⊎ (n ≤ k) → number k numbers ≡ coefficient k a +ℤ coefficient k b
    go (inl less) = below k less
    go (inr more) =
        let e : n ≡ k = omega (arith, l, more) in subst (λ (i : ℕ). number i numbers ≡ coefficient i a +ℤ coefficient i b) e here

pub no_label : Labelled
no_label = record { row = nothing; under = 0 }

-- no rows at all
pub shown_by_none : (w : Row) → ShowsAtOnce [] w ↔ SumShows nothing nothing w
shown_by_none w = (to, λ s. by_none s.sides s.bounds)
  where
    to : ShowsAtOnce [] w → SumShows nothing nothing w
    to (by_none sides bound) = record { sides = sides; bounds = bound }
    to (by_one i l sides bound) = absurd (omega (arith, l))
    to (by_two i j l m sides bound) = absurd (omega (arith, m))

module _ (rows : List Row) (r w : Row) where
  before : (i : ℕ) → i < length rows → row_at (rows ++ r ∷ []) i ≡ row_at rows i
  before i l = get_or_append_left rows (r ∷ []) nothing i l

  last : (i : ℕ) → i ≡ length rows → row_at (rows ++ r ∷ []) i ≡ r
  last i e = get_or_push rows r nothing i (sym e)

  plus_none : (x y : ℤ) → x ≡ y → x ≡ y +ℤ pos 0
  plus_none x y e = omega (arith, ints)

  less_none : (x y : ℤ) → x ≤ℤ y → (x +ℤ pos 0) ≤ℤ y
  less_none x y l = omega (arith, ints)

  pub shown_cases : ShowsAtOnce (rows ++ r ∷ []) w → ShowsAtOnce rows w ⊎ (SumShows r nothing w ⊎ ((q : Row) × Contains rows q × SumShows q r w))
  shown_cases (by_none sides bound) = inl (by_none sides bound)
  shown_cases (by_one i l sides bound) = go (cases_lt i (length rows))
    where
      go : (i < length rows) ⊎ (length rows ≤ i) → ShowsAtOnce rows w ⊎ (SumShows r nothing w ⊎ ((q : Row) × Contains rows q × SumShows q r w))
      go (inl m) = inl (by_one i m (λ k. sides k ∙ ap (coefficient k) (before i m)) (subst (λ (x : Row). x.bound ≤ℤ w.bound) (before i m) bound))
      go (inr m) =
          let e : row_at (rows ++ r ∷ []) i ≡ r = last i (omega (arith, l, m, length-append rows (r ∷ []))) in
          inr (inl (record {
            sides = λ k. plus_none (coefficient k w) (coefficient k r) (sides k ∙ ap (coefficient k) e);
            bounds = less_none r.bound w.bound (subst (λ (x : Row). x.bound ≤ℤ w.bound) e bound);
          }))
  shown_cases (by_two i j l m sides bound) = go (cases_lt j (length rows))
    where
      go : (j < length rows) ⊎ (length rows ≤ j) → ShowsAtOnce rows w ⊎ (SumShows r nothing w ⊎ ((q : Row) × Contains rows q × SumShows q r w))
      go (inl n) =
          let first = before i (omega (arith, l, n)) in
          inl (by_two i j l n
          (λ k. sides k ∙ ap (λ (x : Row). coefficient k x +ℤ coefficient k (row_at (rows ++ r ∷ []) j)) first
          ∙ ap (λ (x : Row). coefficient k (row_at rows i) +ℤ coefficient k x) (before j n))
          (subst (λ (x : Row). ((row_at rows i).bound +ℤ x.bound) ≤ℤ w.bound) (before j n)
          (subst (λ (x : Row). (x.bound +ℤ (row_at (rows ++ r ∷ []) j).bound) ≤ℤ w.bound) first bound)))
      go (inr n) =
          let e : row_at (rows ++ r ∷ []) j ≡ r = last j (omega (arith, m, n, length-append rows (r ∷ []))) in
          let low : i < length rows = omega (arith, l, m, length-append rows (r ∷ [])) in
          let first = before i low in
          inr (inr (
            row_at rows i,
            Contains-get_or rows i nothing low,
            record {
              sides = λ k. sides k ∙ ap (λ (x : Row). coefficient k x +ℤ coefficient k (row_at (rows ++ r ∷ []) j)) first
                  ∙ ap (λ (x : Row). coefficient k (row_at rows i) +ℤ coefficient k x) e;
              bounds = subst (λ (x : Row). ((row_at rows i).bound +ℤ x.bound) ≤ℤ w.bound) e
                  (subst (λ (x : Row). (x.bound +ℤ (row_at (rows ++ r ∷ []) j).bound) ≤ℤ w.bound) first bound);
            },
          ))

  pub shown_still : ShowsAtOnce rows w → ShowsAtOnce (rows ++ r ∷ []) w
  shown_still (by_none sides bound) = by_none sides bound
  shown_still (by_one i l sides bound) =
      let e = sym (before i l) in
      by_one i (omega (arith, l, length-append rows (r ∷ []))) (λ k. sides k ∙ ap (coefficient k) e) (subst (λ (x : Row). x.bound ≤ℤ w.bound) e bound)
  shown_still (by_two i j l m sides bound) =
      let first = sym (before i (omega (arith, l, m))) in
      let second = sym (before j m) in
      by_two i j l (omega (arith, m, length-append rows (r ∷ [])))
      (λ k. sides k ∙ ap (λ (x : Row). coefficient k x +ℤ coefficient k (row_at rows j)) first
      ∙ ap (λ (x : Row). coefficient k (row_at (rows ++ r ∷ []) i) +ℤ coefficient k x) second)
      (subst (λ (x : Row). ((row_at (rows ++ r ∷ []) i).bound +ℤ x.bound) ≤ℤ w.bound) second
      (subst (λ (x : Row). (x.bound +ℤ (row_at rows j).bound) ≤ℤ w.bound) first bound))

  pub shown_alone : SumShows r nothing w → ShowsAtOnce (rows ++ r ∷ []) w
  shown_alone s =
      let e = sym (last (length rows) refl) in
      by_one (length rows) (omega (arith, length-append rows (r ∷ [])))
      (λ k. drop (coefficient k w) (coefficient k r) (s.sides k) ∙ ap (coefficient k) e)
      (subst (λ (x : Row). x.bound ≤ℤ w.bound) e (low r.bound w.bound s.bounds))
    where
      drop : (x y : ℤ) → x ≡ y +ℤ pos 0 → x ≡ y
      drop x y e = omega (arith, ints)

      low : (x y : ℤ) → (x +ℤ pos 0) ≤ℤ y → x ≤ℤ y
      low x y l = omega (arith, ints)

  pub shown_paired : (q : Row) → Contains rows q → SumShows q r w → ShowsAtOnce (rows ++ r ∷ []) w
  shown_paired q (i, l, is) s =
      let first : q ≡ row_at (rows ++ r ∷ []) i = sym (before i l ∙ get_or_default rows i nothing q l ∙ is) in
      let second : r ≡ row_at (rows ++ r ∷ []) (length rows) = sym (last (length rows) refl) in
      by_two i (length rows) l (omega (arith, length-append rows (r ∷ [])))
      (λ k. s.sides k ∙ ap (λ (x : Row). coefficient k x +ℤ coefficient k r) first
      ∙ ap (λ (x : Row). coefficient k (row_at (rows ++ r ∷ []) i) +ℤ coefficient k x) second)
      (subst (λ (x : Row). ((row_at (rows ++ r ∷ []) i).bound +ℤ x.bound) ≤ℤ w.bound) second
      (subst (λ (x : Row). (x.bound +ℤ r.bound) ≤ℤ w.bound) first s.bounds))

-- in a store that has grown
pub both_stays : (old new : Diagrams) (v : Valuation) (a b : Labelled) (w : Row) → Extends old new → IsLabel old.nodes a → IsLabel old.nodes b
    → BothShow new.nodes v a b w ↔ BothShow old.nodes v a b w
both_stays old new v a b w e one other = (
  λ h. record { one = sym first ∙ h.one; other = sym second ∙ h.other; shows = h.shows },
  λ h. record { one = first ∙ h.one; other = second ∙ h.other; shows = h.shows },
)
  where
    first : value_of new.nodes a.under v ≡ value_of old.nodes a.under v
    first = e.kept a.under (let u = one.under in omega (arith, u)) v

    second : value_of new.nodes b.under v ≡ value_of old.nodes b.under v
    second = e.kept b.under (let u = other.under in omega (arith, u)) v

pub with_stays : (old new : Diagrams) (v : Valuation) (labels : List Labelled) (n : ℕ) (l : Labelled) (w : Row) → Extends old new → AreLabels old.nodes labels
    → IsLabel old.nodes l → ShowsWith new.nodes v labels n l w ↔ ShowsWith old.nodes v labels n l w
with_stays old new v labels n l w e are is = (
  λ h. record { here = sym kept ∙ h.here; first = h.first; among = subst (λ (rs : List Row). Contains rs h.first) same h.among; shows = h.shows },
  λ h. record { here = kept ∙ h.here; first = h.first; among = subst (λ (rs : List Row). Contains rs h.first) (sym same) h.among; shows = h.shows },
)
  where
    kept : value_of new.nodes l.under v ≡ value_of old.nodes l.under v
    kept = e.kept l.under (let u = is.under in omega (arith, u)) v

    same : active new.nodes (take n labels) v ≡ active old.nodes (take n labels) v
    same = active_stays old new (take n labels) e (All-take (IsLabel old.nodes) n labels are) v

-- none of the first 0 rows
pub with_none : (nodes : List Triple) (v : Valuation) (labels : List Labelled) (l : Labelled) (w : Row) → ShowsWith nodes v labels 0 l w → ⊥
with_none nodes v labels l w h = let (i, low, is) = h.among in absurd (omega (arith, low))

-- one of the first n rows, or the next
module _ (nodes : List Triple) (v : Valuation) (labels : List Labelled) (n : ℕ) (x l : Labelled) (w : Row) (at : slice_get labels n ≡ Some x) where
  next : active nodes (take (n + 1) labels) v ≡ active nodes (take n labels) v ++ row_where (value_of nodes x.under v) x.row
  next = active_more nodes labels n x v at

  with_cases : ShowsWith nodes v labels (n + 1) l w → ShowsWith nodes v labels n l w ⊎ BothShow nodes v x l w
  with_cases h = go (has_cases (value_of nodes x.under v) (active nodes (take n labels) v) x.row h.first
      (subst (λ (rs : List Row). Contains rs h.first) next h.among))
    where
      go : Contains (active nodes (take n labels) v) h.first ⊎ ((value_of nodes x.under v ≡ true) × (x.row ≡ h.first))
          → ShowsWith nodes v labels n l w ⊎ BothShow nodes v x l w
      go (inl has) = inl (record { here = h.here; first = h.first; among = has; shows = h.shows })
      go (inr (on, same)) = inr (record { one = on; other = h.here; shows = subst (λ (q : Row). SumShows q l.row w) (sym same) h.shows })

  with_still : ShowsWith nodes v labels n l w → ShowsWith nodes v labels (n + 1) l w
  with_still h = record {
    here = h.here;
    first = h.first;
    among = subst (λ (rs : List Row). Contains rs h.first) (sym next)
        (Contains-append_left (active nodes (take n labels) v) (row_where (value_of nodes x.under v) x.row) h.first h.among);
    shows = h.shows;
  }

  with_next : BothShow nodes v x l w → ShowsWith nodes v labels (n + 1) l w
  with_next h = record {
    here = h.other;
    first = x.row;
    among = subst (λ (rs : List Row). Contains rs x.row) (sym next) (has_last (value_of nodes x.under v) (active nodes (take n labels) v) x.row h.one);
    shows = h.shows;
  }

  pub with_more : (P Q R : Type 0) → Q ↔ (P ⊎ ShowsWith nodes v labels n l w) → R ↔ (Q ⊎ BothShow nodes v x l w)
      → R ↔ (P ⊎ ShowsWith nodes v labels (n + 1) l w)
  with_more P Q R one two = (λ r. to (two.0 r), from)
    where
      inside : P ⊎ ShowsWith nodes v labels n l w → P ⊎ ShowsWith nodes v labels (n + 1) l w
      inside (inl p) = inl p
      inside (inr s) = inr (with_still s)

      to : Q ⊎ BothShow nodes v x l w → P ⊎ ShowsWith nodes v labels (n + 1) l w
      to (inl q) = inside (one.0 q)
      to (inr b) = inr (with_next b)

      later : ShowsWith nodes v labels n l w ⊎ BothShow nodes v x l w → R
      later (inl s) = two.1 (inl (one.1 (inr s)))
      later (inr b) = two.1 (inr b)

      from : P ⊎ ShowsWith nodes v labels (n + 1) l w → R
      from (inl p) = two.1 (inl (one.1 (inl p)))
      from (inr s) = later (with_cases s)

-- a row at a place, alone and with those before it
module _ (nodes : List Triple) (v : Valuation) (labels : List Labelled) (n : ℕ) (l zero : Labelled) (w : Row) (at : slice_get labels n ≡ Some l)
    (is_zero : zero.row ≡ nothing) (counts : value_of nodes zero.under v ≡ true) where
  abbrev rows : List Row
  rows = active nodes (take n labels) v

  row_cases : (b : Bool) → value_of nodes l.under v ≡ b → ShowsAtOnce (rows ++ row_where b l.row) w
      → ShowsAtOnce rows w ⊎ (BothShow nodes v l zero w ⊎ ShowsWith nodes v labels n l w)
  row_cases false off h = inl (subst (λ (rs : List Row). ShowsAtOnce rs w) (append-nil rows) h)
  row_cases true on h = go (shown_cases rows l.row w h)
    where
      go : ShowsAtOnce rows w ⊎ (SumShows l.row nothing w ⊎ ((q : Row) × Contains rows q × SumShows q l.row w))
          → ShowsAtOnce rows w ⊎ (BothShow nodes v l zero w ⊎ ShowsWith nodes v labels n l w)
      go (inl s) = inl s
      go (inr (inl s)) = inr (inl (record { one = on; other = counts; shows = subst (λ (q : Row). SumShows l.row q w) (sym is_zero) s }))
      go (inr (inr (q, has, s))) = inr (inr (record { here = on; first = q; among = has; shows = s }))

  row_back : (b : Bool) → value_of nodes l.under v ≡ b → ShowsAtOnce rows w ⊎ (BothShow nodes v l zero w ⊎ ShowsWith nodes v labels n l w)
      → ShowsAtOnce (rows ++ row_where b l.row) w
  row_back true on (inl s) = shown_still rows l.row w s
  row_back true on (inr (inl s)) = shown_alone rows l.row w (subst (λ (q : Row). SumShows l.row q w) is_zero s.shows)
  row_back true on (inr (inr s)) = shown_paired rows l.row w s.first s.among s.shows
  row_back false off (inl s) = subst (λ (rs : List Row). ShowsAtOnce rs w) (sym (append-nil rows)) s
  row_back false off (inr (inl s)) = let never : false ≡ true = sym off ∙ s.one in cc
  row_back false off (inr (inr s)) = let never : false ≡ true = sym off ∙ s.here in cc

  pub row_more : (A B C : Type 0) → ShowsAtOnce rows w ↔ A → B ↔ (A ⊎ BothShow nodes v l zero w) → C ↔ (B ⊎ ShowsWith nodes v labels n l w)
      → ShowsAtOnce (active nodes (take (n + 1) labels) v) w ↔ C
  row_more A B C base one two = (
    λ h. to (row_cases (value_of nodes l.under v) refl (subst (λ (rs : List Row). ShowsAtOnce rs w) (active_more nodes labels n l v at) h)),
    λ h. subst (λ (rs : List Row). ShowsAtOnce rs w) (sym (active_more nodes labels n l v at))
        (row_back (value_of nodes l.under v) refl (from (two.0 h))),
  )
    where
      to : ShowsAtOnce rows w ⊎ (BothShow nodes v l zero w ⊎ ShowsWith nodes v labels n l w) → C
      to (inl s) = two.1 (inl (one.1 (inl (base.0 s))))
      to (inr (inl s)) = two.1 (inl (one.1 (inr s)))
      to (inr (inr s)) = two.1 (inr s)

      back : A ⊎ BothShow nodes v l zero w → ShowsAtOnce rows w ⊎ (BothShow nodes v l zero w ⊎ ShowsWith nodes v labels n l w)
      back (inl a) = inl (base.1 a)
      back (inr s) = inr (inl s)

      from : B ⊎ ShowsWith nodes v labels n l w → ShowsAtOnce rows w ⊎ (BothShow nodes v l zero w ⊎ ShowsWith nodes v labels n l w)
      from (inl b) = back (one.0 b)
      from (inr s) = inr (inr s)

-- THE LOOPS

-- rows that do not sum to the numbers
pub both_not : (nodes : List Triple) (v : Valuation) (a b : Labelled) (numbers : List ℤ) (z : ℤ) (A : Type 0) → ¬ IsSumOf numbers a.row b.row
    → A ↔ (A ⊎ BothShow nodes v a b (bounded numbers z))
both_not nodes v a b numbers z A never = (λ x. inl x, from)
  where
    from : A ⊎ BothShow nodes v a b (bounded numbers z) → A
    from (inl x) = x
    from (inr s) = absurd (never s.shows.sides)

-- none of the first 0 rows shows anything
pub with_first : (nodes : List Triple) (v : Valuation) (labels : List Labelled) (l : Labelled) (w : Row) (A : Type 0) → A ↔ (A ⊎ ShowsWith nodes v labels 0 l w)
with_first nodes v labels l w A = (λ x. inl x, from)
  where
    from : A ⊎ ShowsWith nodes v labels 0 l w → A
    from (inl x) = x
    from (inr s) = absurd (with_none nodes v labels l w s)

pub either_as : (A P Q B : Type 0) → P ↔ Q → B ↔ (A ⊎ P) → B ↔ (A ⊎ Q)
either_as A P Q B same h = (λ b. to (h.0 b), λ x. h.1 (from x))
  where
    to : A ⊎ P → A ⊎ Q
    to (inl a) = inl a
    to (inr p) = inr (same.0 p)

    from : A ⊎ Q → A ⊎ P
    from (inl a) = inl a
    from (inr q) = inr (same.1 q)

pub by_both : (A B C : Type 0) → A ↔ B → B ↔ C → A ↔ C
by_both A B C f g = (λ a. g.0 (f.0 a), λ x. f.1 (g.1 x))

-- no rows: two that are none, and no bound before
pub hints_none : (nodes : List Triple) (v : Valuation) (a b : Labelled) (numbers : List ℤ) (z : ℤ) (A B : Type 0) → (A → ⊥) → a.row ≡ nothing → b.row ≡ nothing
    → value_of nodes a.under v ≡ true → value_of nodes b.under v ≡ true → B ↔ (A ⊎ BothShow nodes v a b (bounded numbers z))
    → ShowsAtOnce [] (bounded numbers z) ↔ B
hints_none nodes v a b numbers z A B never is_a is_b on_a on_b h = (
  λ s. h.1 (inr (record {
    one = on_a;
    other = on_b;
    shows = subst (λ (x : Row). SumShows x b.row (bounded numbers z)) (sym is_a)
        (subst (λ (x : Row). SumShows nothing x (bounded numbers z)) (sym is_b) ((shown_by_none (bounded numbers z)).0 s));
  })),
  λ x. from (h.0 x),
)
  where
    from : A ⊎ BothShow nodes v a b (bounded numbers z) → ShowsAtOnce [] (bounded numbers z)
    from (inl x) = absurd (never x)
    from (inr s) = (shown_by_none (bounded numbers z)).1 (subst (λ (x : Row). SumShows nothing x (bounded numbers z)) is_b
        (subst (λ (x : Row). SumShows x b.row (bounded numbers z)) is_a s.shows))

pub hints_all : (nodes : List Triple) (labels : List Labelled) (n : ℕ) (numbers : List ℤ) (s : List Hint) → n ≡ length labels
    → AreHintsOf nodes (take n labels) numbers s → AreHintsOf nodes labels numbers s
hints_all nodes labels n numbers s e h =
    subst (λ (ls : List Labelled). AreHintsOf nodes ls numbers s) (take_all n labels (omega (arith, e))) h

pub turned : (A B : Type 0) → A ↔ B → B ↔ A
turned A B h = (h.1, h.0)

-- no hints, and hints in a store that has grown
pub hinted_none : (nodes : List Triple) (hints : List Hint) (v : Valuation) (z : ℤ) → hints ≡ [] → IsHinted nodes hints v z → ⊥
hinted_none nodes hints v z e (h, has, is) = let (i, low, same) = subst (λ (hs : List Hint). Contains hs h) e has in absurd (omega (arith, low))

pub hints_stay : (old new : Diagrams) (hints : List Hint) → Extends old new → AreHints old.nodes hints → AreHints new.nodes hints
hints_stay old new hints e are = All-weaker (λ (h : Hint). IsRef old.nodes h.one × IsRef old.nodes h.other)
    (λ (h : Hint). IsRef new.nodes h.one × IsRef new.nodes h.other)
    (λ h (one, other). (omega (arith, one, e.longer), omega (arith, other, e.longer))) hints are

pub hint_kept : (old new : Diagrams) (h : Hint) (v : Valuation) (z : ℤ) → Extends old new → IsRef old.nodes h.one → IsRef old.nodes h.other
    → IsHintAt new.nodes v z h ↔ IsHintAt old.nodes v z h
hint_kept old new h v z e one other = (
  λ s. record { one = sym first ∙ s.one; other = sym second ∙ s.other; low = s.low },
  λ s. record { one = first ∙ s.one; other = second ∙ s.other; low = s.low },
)
  where
    first : value_of new.nodes h.one v ≡ value_of old.nodes h.one v
    first = e.kept h.one (omega (arith, one)) v

    second : value_of new.nodes h.other v ≡ value_of old.nodes h.other v
    second = e.kept h.other (omega (arith, other)) v

pub hinted_stays : (old new : Diagrams) (hints : List Hint) (v : Valuation) (z : ℤ) → Extends old new → AreHints old.nodes hints
    → IsHinted new.nodes hints v z ↔ IsHinted old.nodes hints v z
hinted_stays old new hints v z e are = (
  λ (h, has, s). (h, has, (kept h has).0 s),
  λ (h, has, s). (h, has, (kept h has).1 s),
)
  where
    kept : (h : Hint) → Contains hints h → IsHintAt new.nodes v z h ↔ IsHintAt old.nodes v z h
    kept h has = let (one, other) = All-contains (λ (x : Hint). IsRef old.nodes x.one × IsRef old.nodes x.other) hints h are has in
        hint_kept old new h v z e one other

-- one hint more
pub hinted_push : (nodes : List Triple) (hints : List Hint) (last : Hint) (v : Valuation) (z : ℤ)
    → IsHinted nodes (hints ++ last ∷ []) v z ↔ (IsHinted nodes hints v z ⊎ IsHintAt nodes v z last)
hinted_push nodes hints last v z = (λ (h, has, s). split h s (Contains-push_cases hints last h has), from)
  where
    split : (h : Hint) → IsHintAt nodes v z h → Contains hints h ⊎ (last ≡ h) → IsHinted nodes hints v z ⊎ IsHintAt nodes v z last
    split h s (inl has) = inl (h, has, s)
    split h s (inr e) = inr (subst (IsHintAt nodes v z) (sym e) s)

    from : IsHinted nodes hints v z ⊎ IsHintAt nodes v z last → IsHinted nodes (hints ++ last ∷ []) v z
    from (inl (h, has, s)) = (h, Contains-append_left hints (last ∷ []) h has, s)
    from (inr s) = (last, Contains-push hints last, s)

-- both rows, as a hint, and where the hints have it already
pub both_hint : (nodes : List Triple) (v : Valuation) (a b : Labelled) (numbers : List ℤ) (bound z : ℤ) (hints : List Hint) → IsSumOf numbers a.row b.row
    → bound ≡ a.row.bound +ℤ b.row.bound
    → IsHinted nodes (hints ++ record { bound = bound; one = a.under; other = b.under } ∷ []) v z
    ↔ (IsHinted nodes hints v z ⊎ BothShow nodes v a b (bounded numbers z))
both_hint nodes v a b numbers bound z hints sum is = (
  λ h. to ((hinted_push nodes hints last v z).0 h),
  λ h. (hinted_push nodes hints last v z).1 (from h),
)
  where
    last : Hint
    last = record { bound = bound; one = a.under; other = b.under }

    to : IsHinted nodes hints v z ⊎ IsHintAt nodes v z last → IsHinted nodes hints v z ⊎ BothShow nodes v a b (bounded numbers z)
    to (inl h) = inl h
    to (inr s) = inr (record { one = s.one; other = s.other; shows = record { sides = sum; bounds = subst (λ (x : ℤ). x ≤ℤ z) is s.low } })

    from : IsHinted nodes hints v z ⊎ BothShow nodes v a b (bounded numbers z) → IsHinted nodes hints v z ⊎ IsHintAt nodes v z last
    from (inl h) = inl h
    from (inr s) = inr (record { one = s.one; other = s.other; low = subst (λ (x : ℤ). x ≤ℤ z) (sym is) s.shows.bounds })

pub both_covered : (nodes : List Triple) (v : Valuation) (a b : Labelled) (numbers : List ℤ) (bound z : ℤ) (hints : List Hint)
    → bound ≡ a.row.bound +ℤ b.row.bound
    → (value_of nodes a.under v ≡ true → value_of nodes b.under v ≡ true → bound ≤ℤ z → IsHinted nodes hints v z)
    → IsHinted nodes hints v z ↔ (IsHinted nodes hints v z ⊎ BothShow nodes v a b (bounded numbers z))
both_covered nodes v a b numbers bound z hints is covers = (λ h. inl h, from)
  where
    from : IsHinted nodes hints v z ⊎ BothShow nodes v a b (bounded numbers z) → IsHinted nodes hints v z
    from (inl h) = h
    from (inr s) = covers s.one s.other (subst (λ (x : ℤ). x ≤ℤ z) (sym is) s.shows.bounds)
