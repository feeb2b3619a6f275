-- Rows that count at a valuation.
use Rattle.std.proofs.Common.{◌≡◌, ◌≢◌, ℕ, zero, suc, ◌+◌, ◌<◌, ◌≤◌, ◌^◌, Bool, true, false, cond, List, [], ◌∷◌, ◌++◌, length, map, take, drop, slice_get}
use Rattle.std.proofs.Common.{Some, if◌then◌else◌}
use Rattle.std.proofs.Common.{pos, arith, refl, sym, ap, ◌∙◌, subst, ◌⊎◌, inl, inr}
use Rattle.std.proofs.lemmas.List.{append-nil, append_assoc, map-append, take-append-drop}
use Rattle.std.proofs.lemmas.List.Elements.{All-weaker, All-head, All-tail, All-push, filter-append, Contains-push_cases, Contains-push}
use Rattle.std.proofs.lemmas.List.Elements.{Contains-append_left}
use Rattle.std.proofs.{lemmas.Bool.cases_eq, lemmas.Bool.cases_lt, lemmas.Bool.false_from_ne_true, lemmas.Option.slice_get-get_or}
use Rattle.std.proofs.{lemmas.Option.get_or_from_slice_get, lemmas.Option.slice_get_within}
use Rattle.std.specs.List.{filter, Contains}
use Rattle.rv_rows.specs.{declared.linear.Row.Row, Rows.row_at, Rows.RowWithin}
use Rattle.rv_diagram.specs.{declared.Triple.Triple, Nodes.Valuation, Nodes.Diagrams, Nodes.IsRef, Nodes.value_of, Growing.Extends}
use Rattle.rv_proofs.specs.Systems.{System, IsSystem, held_row}
use Rattle.rv_proofs.proofs.Rooms.{premise_of_test}
use Rattle.rv_cases.specs.{Conditions.is_in, Conditions.AreAnswers, Questions.AreTestAnswers}
use Rattle.rv_base.proofs.Lists.{take_push}
use Rattle.rv_pairs.specs.{declared.labels.Labelled.Labelled, Labels.active, Labels.row_where, Labels.IsLabel, Labels.AreLabels}

-- one row more
one_active : (nodes : List Triple) (l : Labelled) (v : Valuation) → active nodes (l ∷ []) v ≡ row_where (value_of nodes l.under v) l.row
one_active nodes l v = go (value_of nodes l.under v)
  where
    go : (b : Bool) → map (λ (x : Labelled). x.row) (cond b (l ∷ []) []) ≡ row_where b l.row
    go true = refl
    go false = refl

pub active_push : (nodes : List Triple) (labels : List Labelled) (l : Labelled) (v : Valuation)
    → active nodes (labels ++ l ∷ []) v ≡ active nodes labels v ++ row_where (value_of nodes l.under v) l.row
active_push nodes labels l v =
    ap (λ (ls : List Labelled). map (λ (x : Labelled). x.row) ls) (filter-append (λ (x : Labelled). value_of nodes x.under v) labels (l ∷ []))
    ∙ map-append (λ (x : Labelled). x.row) (filter (λ (x : Labelled). value_of nodes x.under v) labels)
    (filter (λ (x : Labelled). value_of nodes x.under v) (l ∷ []))
    ∙ ap (λ (rs : List Row). active nodes labels v ++ rs) (one_active nodes l v)

pub active_more : (nodes : List Triple) (labels : List Labelled) (n : ℕ) (l : Labelled) (v : Valuation) → slice_get labels n ≡ Some l
    → active nodes (take (n + 1) labels) v ≡ active nodes (take n labels) v ++ row_where (value_of nodes l.under v) l.row
active_more nodes labels n l v at =
    ap (λ (ls : List Labelled). active nodes ls v) (sym (take_push labels (take n labels) n l refl at)) ∙ active_push nodes (take n labels) l v

-- a row is among those with one row more
pub has_cases : (b : Bool) (rows : List Row) (r q : Row) → Contains (rows ++ row_where b r) q → Contains rows q ⊎ ((b ≡ true) × (r ≡ q))
has_cases true rows r q has = go (Contains-push_cases rows r q has)
  where
    go : Contains rows q ⊎ (r ≡ q) → Contains rows q ⊎ ((true ≡ true) × (r ≡ q))
    go (inl h) = inl h
    go (inr e) = inr (refl, e)
has_cases false rows r q has = inl (subst (λ (rs : List Row). Contains rs q) (append-nil rows) has)

pub has_last : (b : Bool) (rows : List Row) (r : Row) → b ≡ true → Contains (rows ++ row_where b r) r
has_last true rows r e = Contains-push rows r
has_last false rows r e = cc

-- a row that counts is among those that do
pub active_has : (nodes : List Triple) (labels : List Labelled) (i : ℕ) (l : Labelled) (v : Valuation) → slice_get labels i ≡ Some l
    → value_of nodes l.under v ≡ true → Contains (active nodes labels v) l.row
active_has nodes labels i l v at on =
    subst (λ (ls : List Labelled). Contains (active nodes ls v) l.row) (take-append-drop (i + 1) labels)
    (subst (λ (rs : List Row). Contains rs l.row) (sym (active_append (take (i + 1) labels) (drop (i + 1) labels)))
    (Contains-append_left (active nodes (take (i + 1) labels) v) (active nodes (drop (i + 1) labels) v) l.row
    (subst (λ (rs : List Row). Contains rs l.row) (sym (active_more nodes labels i l v at))
    (has_last (value_of nodes l.under v) (active nodes (take i labels) v) l.row on))))
  where
    active_append : (xs ys : List Labelled) → active nodes (xs ++ ys) v ≡ active nodes xs v ++ active nodes ys v
    active_append xs ys =
        ap (λ (ls : List Labelled). map (λ (x : Labelled). x.row) ls) (filter-append (λ (x : Labelled). value_of nodes x.under v) xs ys)
        ∙ map-append (λ (x : Labelled). x.row) (filter (λ (x : Labelled). value_of nodes x.under v) xs) (filter (λ (x : Labelled). value_of nodes x.under v) ys)

-- in a store that has grown
pub label_stays : (old new : Diagrams) (l : Labelled) → Extends old new → IsLabel old.nodes l → IsLabel new.nodes l
label_stays old new l e is = record { under = let u = is.under in let m = e.longer in omega (arith, u, m); row = is.row }

pub labels_stay : (old new : Diagrams) (labels : List Labelled) → Extends old new → AreLabels old.nodes labels → AreLabels new.nodes labels
labels_stay old new labels e are = All-weaker (IsLabel old.nodes) (IsLabel new.nodes) (λ l is. label_stays old new l e is) labels are

pub active_stays : (old new : Diagrams) (labels : List Labelled) → Extends old new → AreLabels old.nodes labels → (v : Valuation)
    → active new.nodes labels v ≡ active old.nodes labels v
active_stays old new [] e are v = refl
active_stays old new (l ∷ ls) e are v = go (value_of new.nodes l.under v) (value_of old.nodes l.under v)
    (e.kept l.under (let u = (All-head (IsLabel old.nodes) l ls are).under in omega (arith, u)) v)
    (active_stays old new ls e (All-tail (IsLabel old.nodes) l ls are) v)
  where
    go : (a b : Bool) → a ≡ b → active new.nodes ls v ≡ active old.nodes ls v
        → map (λ (x : Labelled). x.row) (cond a (l ∷ filter (λ (x : Labelled). value_of new.nodes x.under v) ls)
        (filter (λ (x : Labelled). value_of new.nodes x.under v) ls))
        ≡ map (λ (x : Labelled). x.row) (cond b (l ∷ filter (λ (x : Labelled). value_of old.nodes x.under v) ls)
        (filter (λ (x : Labelled). value_of old.nodes x.under v) ls))
    go true true same h = ap (λ (rs : List Row). l.row ∷ rs) h
    go false false same h = h
    go true false same h = cc
    go false true same h = cc

-- THE ROWS OF A TEST

-- the rows of the first n answers that are given
abbrev pub answered : (ℕ → Bool) → (ℕ → Row) → ℕ → List Row
answered p f zero = []
answered p f (suc n) = answered p f n ++ row_where (p n) (f n)

pub answered_more : (p : ℕ → Bool) (f : ℕ → Row) (n : ℕ) (rows : List Row) (b : Bool) (r : Row) → rows ≡ answered p f n → b ≡ p n → r ≡ f n
    → rows ++ row_where b r ≡ answered p f (n + 1)
answered_more p f n rows b r e g h =
    let next : suc n ≡ n + 1 = omega arith in
    ap (λ (rs : List Row). rs ++ row_where b r) e ∙ ap (λ (x : Bool). answered p f n ++ row_where x r) g
    ∙ ap (λ (x : Row). answered p f n ++ row_where (p n) x) h ∙ ap (answered p f) next

none_answered : (p : ℕ → Bool) (f : ℕ → Row) (n : ℕ) → ((k : ℕ) → k < n → p k ≡ false) → answered p f n ≡ []
none_answered p f zero none = refl
none_answered p f (suc n) none =
    ap (λ (b : Bool). answered p f n ++ row_where b (f n)) (none n (omega arith)) ∙ append-nil (answered p f n)
    ∙ none_answered p f n (λ k l. none k (omega (arith, l)))

one_answered : (p : ℕ → Bool) (f : ℕ → Row) (j n : ℕ) → j < n → p j ≡ true → ((k : ℕ) → k < n → k ≢ j → p k ≡ false) → answered p f n ≡ f j ∷ []
one_answered p f j zero l here others = absurd (omega (arith, l))
one_answered p f j (suc n) l here others = go (cases_eq n j) (λ (m : j < n). one_answered p f j n m here (λ k low. others k (omega (arith, low))))
  where
    go : (n ≡ j) ⊎ (n ≢ j) → (j < n → answered p f n ≡ f j ∷ []) → answered p f (suc n) ≡ f j ∷ []
    go (inl e) before =
        ap (λ (rs : List Row). rs ++ row_where (p n) (f n)) (none_answered p f n
        (λ k m. others k (omega (arith, m)) (λ (same : k ≡ j). absurd (omega (arith, m, same, e)))))
        ∙ ap (λ (b : Bool). [] ++ row_where b (f n)) (ap p e ∙ here) ∙ ap (λ (k : ℕ). f k ∷ []) e
    go (inr ne) before =
        ap (λ (b : Bool). answered p f n ++ row_where b (f n)) (others n (omega arith) ne) ∙ append-nil (answered p f n)
        ∙ before (omega (arith, l, ne))

-- the one answer of a test gives its row, or none where it is absent
pub answered_row : (s : System) (nodes : List Triple) (t : ℕ) (answers : List ℕ) (rows : List Row) (v : Valuation) → AreAnswers nodes answers
    → length answers ≡ length rows + 1 → AreTestAnswers s nodes t answers rows
    → answered (λ k. is_in nodes answers (k + 1) v) (row_at rows) (length rows) ≡ held_row (s.row v t)
answered_row s nodes t answers rows v are many is = let (i, low, here) = are.covered v in go i low here
  where
    apart : (i j : ℕ) → i ≢ j → i < length answers → j < length answers → is_in nodes answers i v ≡ true → is_in nodes answers j v ≡ false
    apart i j ne l m here = false_from_ne_true (is_in nodes answers j v) (λ there. part (cases_lt i j) there)
      where
        part : (i < j) ⊎ (j ≤ i) → is_in nodes answers j v ≡ true → ⊥
        part (inl less) there = are.apart i j less m v here there
        part (inr more) there = are.apart j i (omega (arith, more, ne)) l v there here

    go : (i : ℕ) → i < length answers → is_in nodes answers i v ≡ true
        → answered (λ k. is_in nodes answers (k + 1) v) (row_at rows) (length rows) ≡ held_row (s.row v t)
    go zero low here =
        none_answered (λ k. is_in nodes answers (k + 1) v) (row_at rows) (length rows)
        (λ k l. apart 0 (k + 1) (λ (e : 0 ≡ k + 1). absurd (omega (arith, e))) low (omega (arith, l, many)) here)
        ∙ ap held_row (sym (is.absent v here))
    go (suc j) low here =
        let next : suc j ≡ j + 1 = omega arith in
        let here_next : is_in nodes answers (j + 1) v ≡ true = subst (λ (k : ℕ). is_in nodes answers k v ≡ true) next here in
        let inside : j < length rows = omega (arith, low, many) in
        one_answered (λ k. is_in nodes answers (k + 1) v) (row_at rows) j (length rows) inside here_next
        (λ k l ne. apart (j + 1) (k + 1) (λ (e : j + 1 ≡ k + 1). ne (omega (arith, e))) (omega (arith, low)) (omega (arith, l, many)) here_next)
        ∙ ap held_row (sym (is.present j (row_at rows j) v (slice_get-get_or rows j (record { coefficients = []; bound = pos 0 }) inside) here_next))

-- a row of a test that is given somewhere has small numbers
pub given_small : (s : System) (nodes : List Triple) (t : ℕ) (answers : List ℕ) (rows : List Row) → IsSystem s → t < s.tests
    → AreTestAnswers s nodes t answers rows → (i : ℕ) (v : Valuation) → i < length rows → is_in nodes answers (i + 1) v ≡ true
    → RowWithin (2 ^ 60) (row_at rows i)
given_small s nodes t answers rows system low is i v inside here =
    premise_of_test s (row_at rows i) (system.rows v t (row_at rows i) low
    (is.present i (row_at rows i) v (slice_get-get_or rows i (record { coefficients = []; bound = pos 0 }) inside) here))

-- ONE ROW ADDED

pub label_added : (nodes : List Triple) (labels news : List Labelled) (under : ℕ) (row copy : Row) → news ≡ labels ++ record { row = copy; under = under } ∷ []
    → copy ≡ row → AreLabels nodes labels → IsRef nodes under → RowWithin (2 ^ 60) row → AreLabels nodes news
label_added nodes labels news under row copy is same are found small =
    subst (AreLabels nodes) (sym is) (All-push (IsLabel nodes) labels (record { row = copy; under = under }) are
    (record { under = found; row = subst (RowWithin (2 ^ 60)) (sym same) small }))

pub rows_added : (nodes : List Triple) (labels news : List Labelled) (under : ℕ) (row copy : Row) (v : Valuation)
    → news ≡ labels ++ record { row = copy; under = under } ∷ [] → copy ≡ row
    → active nodes news v ≡ active nodes labels v ++ row_where (value_of nodes under v) row
rows_added nodes labels news under row copy v is same =
    ap (λ (ls : List Labelled). active nodes ls v) is ∙ active_push nodes labels (record { row = copy; under = under }) v
    ∙ ap (λ (r : Row). active nodes labels v ++ row_where (value_of nodes under v) r) same

pub none_added : (b : Bool) (rows : List Row) (row : Row) → b ≡ false → rows ≡ rows ++ row_where b row
none_added true rows row e = cc
none_added false rows row e = sym (append-nil rows)

pub answer_added : (p : ℕ → Bool) (f : ℕ → Row) (n : ℕ) (first now next : List Row) (b : Bool) (r : Row) → now ≡ first ++ answered p f n
    → next ≡ now ++ row_where b r → b ≡ p n → r ≡ f n → next ≡ first ++ answered p f (n + 1)
answer_added p f n first now next b r is more e g =
    more ∙ ap (λ (rs : List Row). rs ++ row_where b r) is ∙ append_assoc first (answered p f n) (row_where b r)
    ∙ ap (λ (rs : List Row). first ++ rs) (answered_more p f n (answered p f n) b r refl e g)

pub given_added : (on : Bool) (given first now next : List Row) (n : ℕ) (r : Row) → slice_get given n ≡ Some r
    → now ≡ first ++ (if on then take n given else []) → next ≡ now ++ row_where on r → next ≡ first ++ (if on then take (n + 1) given else [])
given_added true given first now next n r at is more =
    more ∙ ap (λ (rs : List Row). rs ++ r ∷ []) is ∙ append_assoc first (take n given) (r ∷ [])
    ∙ ap (λ (rs : List Row). first ++ rs) (take_push given (take n given) n r refl at)
given_added false given first now next n r at is more = more ∙ append-nil now ∙ is

pub premises_are : (b tick : Bool) (rows tests given all : List Row) → rows ≡ tests ++ (if b then given else []) → b ≡ tick → all ≡ given
    → rows ≡ (if tick then tests ++ all else tests)
premises_are true true rows tests given all is same e = is ∙ ap (λ (rs : List Row). tests ++ rs) (sym e)
premises_are false false rows tests given all is same e = is ∙ append-nil tests
premises_are true false rows tests given all is same e = cc
premises_are false true rows tests given all is same e = cc

pub label_at : (nodes : List Triple) (labels : List Labelled) (i : ℕ) (l : Labelled) → slice_get labels i ≡ Some l → AreLabels nodes labels → IsLabel nodes l
label_at nodes labels i l at are = subst (IsLabel nodes) (get_or_from_slice_get labels i l l at) (are i l (slice_get_within labels i l at))
