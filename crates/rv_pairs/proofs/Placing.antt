-- Places of labelled rows under the keys of their left sides.
use Rattle.std.proofs.Common.{◌≡◌, ◌≢◌, ◌↔◌, ℕ, zero, suc, ◌+◌, ◌<◌, ◌≤◌, Bool, true, false, List, [], ◌∷◌, ◌++◌, length, take, slice_get, get_or, Some}
use Rattle.std.proofs.Common.{arith, refl, sym, ap, ◌∙◌, subst, ◌⊎◌, inl, inr}
use Rattle.std.proofs.lemmas.List.{append-nil, take_all, get_or-set_same, get_or-set_other, length-set, length_push, get_or_push, get_or_append_left}
use Rattle.std.proofs.lemmas.List.Elements.{Contains-push, Contains-append_left}
use Rattle.std.proofs.{lemmas.Bool.cases_lt, lemmas.Bool.cases_eq, lemmas.Option.same_Some, lemmas.Option.slice_get-get_or}
use Rattle.std.proofs.{lemmas.Option.slice_get_read}
use Rattle.std.proofs.lemmas.Option.{slice_get_within, get_or_from_slice_get}
use Rattle.std.specs.{List.Contains, Prelude.slice_set}
use Rattle.rv_diagram.specs.{declared.Triple.Triple, Nodes.Valuation, Nodes.Diagrams, Nodes.value_of, Growing.Extends}
use Rattle.rv_rows.specs.{declared.linear.Row.Row, Multipliers.ShowsAtOnce}
use Rattle.rv_pairs.specs.{declared.labels.Labelled.Labelled, Labels.active, Labels.row_where, Labels.IsLabel, Labels.AreLabels}
use Rattle.rv_pairs.specs.{Keys.IsKey, Keys.AreIndexed, Keys.AreKeys, Keys.places_at, Shown.IsSumOf, Shown.SumShows, Shown.BothShow, Shown.ShowsBefore}
use Rattle.rv_pairs.specs.{Shown.ShowsWith}
use Rattle.rv_pairs.proofs.{Counting.active_more, Counting.has_cases, Counting.has_last, Counting.label_at, Keying.key_same, Pairing.both_stays}
use Rattle.rv_pairs.proofs.{Pairing.no_label, Pairing.shown_still, Pairing.shown_paired}

-- one row more is noted under its key
pub indexed_more : (labels : List Labelled) (n : ℕ) (places new : List (List ℕ)) (key : ℕ) (l : Labelled) → slice_get labels n ≡ Some l
    → IsKey l.row.coefficients key → AreIndexed labels n places → new ≡ slice_set places key (places_at places key ++ n ∷ []) → AreIndexed labels (n + 1) new
indexed_more labels n places new key l at is are same = record {
  size = ap length same ∙ length-set places key (places_at places key ++ n ∷ []) ∙ are.size;
  complete = λ i k x low there has. subst (λ (ps : List (List ℕ)). Contains (places_at ps k) i) (sym same)
      (go i k x low there has (cases_eq k key) (cases_lt i n));
}
  where
    put : List (List ℕ)
    put = slice_set places key (places_at places key ++ n ∷ [])

    here : places_at put key ≡ places_at places key ++ n ∷ []
    here = get_or-set_same places key (places_at places key ++ n ∷ []) [] (let s = are.size in let b = is.below in omega (arith, s, b))

    go : (i k : ℕ) (x : Labelled) → i < n + 1 → slice_get labels i ≡ Some x → IsKey x.row.coefficients k → (k ≡ key) ⊎ (k ≢ key) → (i < n) ⊎ (n ≤ i)
        → Contains (places_at put k) i
    go i k x low there has (inl e) (inl m) =
        subst (λ (j : ℕ). Contains (places_at put j) i) (sym e)
        (subst (λ (ps : List ℕ). Contains ps i) (sym here)
        (Contains-append_left (places_at places key) (n ∷ []) i (subst (λ (j : ℕ). Contains (places_at places j) i) e (are.complete i k x m there has))))
    go i k x low there has (inr ne) (inl m) =
        subst (λ (ps : List ℕ). Contains ps i) (sym (get_or-set_other places key k (places_at places key ++ n ∷ []) [] ne)) (are.complete i k x m there has)
    go i k x low there has side (inr m) =
        let e : i ≡ n = omega (arith, low, m) in
        let one : x ≡ l = same_Some x l (sym there ∙ ap (slice_get labels) e ∙ at) in
        let same_key : k ≡ key = key_same l.row.coefficients k key (subst (λ (y : Labelled). IsKey y.row.coefficients k) one has) is in
        subst (λ (j : ℕ). Contains (places_at put j) i) (sym same_key)
        (subst (λ (ps : List ℕ). Contains ps i) (sym here)
        (subst (λ (j : ℕ). Contains (places_at places key ++ n ∷ []) j) (sym e) (Contains-push (places_at places key) n)))

pub keys_more : (labels : List Labelled) (n key : ℕ) (keys : List ℕ) (l : Labelled) → slice_get labels n ≡ Some l → IsKey l.row.coefficients key
    → AreKeys labels n keys → AreKeys labels (n + 1) (keys ++ key ∷ [])
keys_more labels n key keys l at is are = record {
  size = let s = are.size in omega (arith, s, length_push keys key);
  each = λ i k x there here. go i k x there here (cases_lt i n);
}
  where
    go : (i k : ℕ) (x : Labelled) → slice_get (keys ++ key ∷ []) i ≡ Some k → slice_get labels i ≡ Some x → (i < n) ⊎ (n ≤ i) → IsKey x.row.coefficients k
    go i k x there here (inl low) =
        let s = are.size in
        let old : get_or (keys ++ key ∷ []) i k ≡ get_or keys i k = get_or_append_left keys (key ∷ []) k i (omega (arith, low, s)) in
        let e : get_or keys i k ≡ k = sym old ∙ get_or_from_slice_get (keys ++ key ∷ []) i k k there in
        are.each i k x (slice_get_read keys (length keys) i k refl (omega (arith, low, s)) (sym e)) here
    go i k x there here (inr up) =
        let s = are.size in
        let low = slice_get_within (keys ++ key ∷ []) i k there in
        let e : i ≡ n = omega (arith, up, low, s, length_push keys key) in
        let same_key : k ≡ key = sym (get_or_from_slice_get (keys ++ key ∷ []) i k key there) ∙ get_or_push keys key key i (s ∙ sym e) in
        let one : x ≡ l = same_Some x l (sym here ∙ ap (slice_get labels) e ∙ at) in
        subst (λ (y : Labelled). IsKey y.row.coefficients k) (sym one) (subst (IsKey l.row.coefficients) (sym same_key) is)

pub keys_none : (labels : List Labelled) (keys : List ℕ) → keys ≡ [] → AreKeys labels 0 keys
keys_none labels keys e = record {
  size = ap length e;
  each = λ i k l there here. let low = slice_get_within keys i k there in let n = ap length e in absurd (omega (arith, low, n));
}

pub indexed_none : (labels : List Labelled) (places : List (List ℕ)) → length places ≡ 4096 → AreIndexed labels 0 places
indexed_none labels places size = record { size = size; complete = λ i k l low. absurd (omega (arith, low)) }

-- one of the first m places of the list shows the wanted row together with this one
abbrev pub ShowsListed : List Triple → Valuation → List Labelled → ℕ → Labelled → Row → List ℕ → ℕ → Type 0
ShowsListed nodes v labels n l w others m =
    (j : ℕ) × (i : ℕ) × (j < m) × (slice_get others j ≡ Some i) × ShowsBefore nodes v labels i n l w

module _ (nodes : List Triple) (v : Valuation) (labels : List Labelled) where
  -- a row that counts among the first n is that of a place
  pub active_from : (n : ℕ) (r : Row) → n ≤ length labels → Contains (active nodes (take n labels) v) r
      → (i : ℕ) × (x : Labelled) × (i < n) × (slice_get labels i ≡ Some x) × (value_of nodes x.under v ≡ true) × (x.row ≡ r)
  active_from zero r l has = let (i, low, e) = has in absurd (omega (arith, low))
  active_from (suc n) r l has = go (has_cases (value_of nodes here.under v) (active nodes (take n labels) v) here.row r
      (subst (λ (rs : List Row). Contains rs r) (ap (λ (k : ℕ). active nodes (take k labels) v) more ∙ active_more nodes labels n here v at) has))
      (λ (h : Contains (active nodes (take n labels) v) r). active_from n r (omega (arith, l)) h)
    where
      more : suc n ≡ n + 1
      more = omega arith

      here : Labelled
      here = get_or labels n no_label

      at : slice_get labels n ≡ Some here
      at = slice_get-get_or labels n no_label (omega (arith, l))

      go : Contains (active nodes (take n labels) v) r ⊎ ((value_of nodes here.under v ≡ true) × (here.row ≡ r))
          → (Contains (active nodes (take n labels) v) r
          → (i : ℕ) × (x : Labelled) × (i < n) × (slice_get labels i ≡ Some x) × (value_of nodes x.under v ≡ true) × (x.row ≡ r))
          → (i : ℕ) × (x : Labelled) × (i < suc n) × (slice_get labels i ≡ Some x) × (value_of nodes x.under v ≡ true) × (x.row ≡ r)
      go (inl h) before = let (i, x, low, there, on, e) = before h in (i, x, omega (arith, low), there, on, e)
      go (inr (on, e)) before = (n, here, omega arith, at, on, e)

  -- and the other way round
  pub active_to : (n i : ℕ) (x : Labelled) → n ≤ length labels → i < n → slice_get labels i ≡ Some x → value_of nodes x.under v ≡ true
      → Contains (active nodes (take n labels) v) x.row
  active_to zero i x l low there on = absurd (omega (arith, low))
  active_to (suc n) i x l low there on =
      subst (λ (rs : List Row). Contains rs x.row) (sym (ap (λ (k : ℕ). active nodes (take k labels) v) more ∙ active_more nodes labels n here v at))
      (go (cases_lt i n) (λ (m : i < n). active_to n i x (omega (arith, l)) m there on))
    where
      more : suc n ≡ n + 1
      more = omega arith

      here : Labelled
      here = get_or labels n no_label

      at : slice_get labels n ≡ Some here
      at = slice_get-get_or labels n no_label (omega (arith, l))

      go : (i < n) ⊎ (n ≤ i) → (i < n → Contains (active nodes (take n labels) v) x.row)
          → Contains (active nodes (take n labels) v ++ row_where (value_of nodes here.under v) here.row) x.row
      go (inl m) before = Contains-append_left (active nodes (take n labels) v) (row_where (value_of nodes here.under v) here.row) x.row (before m)
      go (inr m) before =
          let e : i ≡ n = omega (arith, low, m) in
          let one : x ≡ here = same_Some x here (sym there ∙ ap (slice_get labels) e ∙ at) in
          subst (λ (y : Labelled). Contains (active nodes (take n labels) v ++ row_where (value_of nodes here.under v) here.row) y.row) (sym one)
          (has_last (value_of nodes here.under v) (active nodes (take n labels) v) here.row (subst (λ (y : Labelled). value_of nodes y.under v ≡ true) one on))

  -- what the first rows show all of them do
  shown_from : (d m : ℕ) (w : Row) → length labels ≤ m + d → ShowsAtOnce (active nodes (take m labels) v) w → ShowsAtOnce (active nodes labels v) w
  shown_from zero m w l s = subst (λ (ls : List Labelled). ShowsAtOnce (active nodes ls v) w) (take_all m labels (omega (arith, l))) s
  shown_from (suc d) m w l s = go (λ (more : ShowsAtOnce (active nodes (take (m + 1) labels) v) w). shown_from d (m + 1) w (omega (arith, l)) more)
      (cases_lt m (length labels))
    where
      here : Labelled
      here = get_or labels m no_label

      still : (b : Bool) → ShowsAtOnce (active nodes (take m labels) v ++ row_where b here.row) w
      still true = shown_still (active nodes (take m labels) v) here.row w s
      still false = subst (λ (rs : List Row). ShowsAtOnce rs w) (sym (append-nil (active nodes (take m labels) v))) s

      go : (ShowsAtOnce (active nodes (take (m + 1) labels) v) w → ShowsAtOnce (active nodes labels v) w) → (m < length labels) ⊎ (length labels ≤ m)
          → ShowsAtOnce (active nodes labels v) w
      go next (inr k) = subst (λ (ls : List Labelled). ShowsAtOnce (active nodes ls v) w) (take_all m labels k) s
      go next (inl k) = next (subst (λ (rs : List Row). ShowsAtOnce rs w)
          (sym (active_more nodes labels m here v (slice_get-get_or labels m no_label k))) (still (value_of nodes here.under v)))

  pub before_shows : (i n : ℕ) (l : Labelled) (w : Row) → slice_get labels n ≡ Some l → value_of nodes l.under v ≡ true → ShowsBefore nodes v labels i n l w
      → ShowsAtOnce (active nodes labels v) w
  before_shows i n l w at on (low, (x, there, both)) =
      let inside : n < length labels = slice_get_within labels n l at in
      let among : Contains (active nodes (take n labels) v) x.row = active_to n i x (omega (arith, inside)) low there both.one in
      shown_from (length labels) (n + 1) w (omega arith) (subst (λ (rs : List Row). ShowsAtOnce rs w) (sym (active_more nodes labels n l v at))
      (go (value_of nodes l.under v) on among both.shows))
    where
      go : (b : Bool) → b ≡ true → Contains (active nodes (take n labels) v) x.row → SumShows x.row l.row w
          → ShowsAtOnce (active nodes (take n labels) v ++ row_where b l.row) w
      go true e among s = shown_paired (active nodes (take n labels) v) l.row w x.row among s
      go false e among s = cc

  -- the row at one place
  pub before_none : (A : Type 0) (i n : ℕ) (l : Labelled) (w : Row) → n ≤ i → A ↔ (A ⊎ ShowsBefore nodes v labels i n l w)
  before_none A i n l w m = (λ a. inl a, from)
    where
      from : A ⊎ ShowsBefore nodes v labels i n l w → A
      from (inl a) = a
      from (inr (low, shows)) = absurd (omega (arith, low, m))

  pub before_one : (A B : Type 0) (i n : ℕ) (x l : Labelled) (w : Row) → i < n → slice_get labels i ≡ Some x → B ↔ (A ⊎ BothShow nodes v x l w)
      → B ↔ (A ⊎ ShowsBefore nodes v labels i n l w)
  before_one A B i n x l w low at h = (λ b. to (h.0 b), from)
    where
      to : A ⊎ BothShow nodes v x l w → A ⊎ ShowsBefore nodes v labels i n l w
      to (inl a) = inl a
      to (inr s) = inr (low, (x, at, s))

      from : A ⊎ ShowsBefore nodes v labels i n l w → B
      from (inl a) = h.1 (inl a)
      from (inr (m, (y, there, s))) = h.1 (inr (subst (λ (z : Labelled). BothShow nodes v z l w) (same_Some y x (sym there ∙ at)) s))

  module _ (n : ℕ) (l : Labelled) (w : Row) (inside : n < length labels) (others : List ℕ) where
    pub listed_none : (A : Type 0) → A ↔ (A ⊎ ShowsListed nodes v labels n l w others 0)
    listed_none A = (λ a. inl a, from)
      where
        from : A ⊎ ShowsListed nodes v labels n l w others 0 → A
        from (inl a) = a
        from (inr (j, i, low, there, shows)) = absurd (omega (arith, low))

    pub listed_more : (A B C : Type 0) (m i : ℕ) → slice_get others m ≡ Some i → B ↔ (A ⊎ ShowsListed nodes v labels n l w others m)
        → C ↔ (B ⊎ ShowsBefore nodes v labels i n l w)
        → C ↔ (A ⊎ ShowsListed nodes v labels n l w others (m + 1))
    listed_more A B C m i there one two = (λ c. to (two.0 c), from)
      where
        wider : A ⊎ ShowsListed nodes v labels n l w others m → A ⊎ ShowsListed nodes v labels n l w others (m + 1)
        wider (inl a) = inl a
        wider (inr (j, k, low, is, shows)) = inr (j, k, omega (arith, low), is, shows)

        to : B ⊎ ShowsBefore nodes v labels i n l w → A ⊎ ShowsListed nodes v labels n l w others (m + 1)
        to (inl b) = wider (one.0 b)
        to (inr s) = inr (m, i, omega arith, there, s)

        pick : (j k : ℕ) → slice_get others j ≡ Some k → ShowsBefore nodes v labels k n l w → (j < m) ⊎ (m ≤ j) → j < m + 1 → C
        pick j k is shows (inl low) q = two.1 (inl (one.1 (inr (j, k, low, is, shows))))
        pick j k is shows (inr up) q =
            let e : j ≡ m = omega (arith, up, q) in
            let same : k ≡ i = same_Some k i (sym is ∙ ap (slice_get others) e ∙ there) in
            two.1 (inr (subst (λ (x : ℕ). ShowsBefore nodes v labels x n l w) same shows))

        from : A ⊎ ShowsListed nodes v labels n l w others (m + 1) → C
        from (inl a) = two.1 (inl (one.1 (inl a)))
        from (inr (j, k, low, is, shows)) = pick j k is shows (cases_lt j m) low

    -- where the list has each place whose row can show it, that is what the rows before show
    pub listed_all : (A B : Type 0) → ((i : ℕ) (x : Labelled) → slice_get labels i ≡ Some x → IsSumOf w.coefficients x.row l.row → Contains others i)
        → (m : ℕ) → m ≡ length others → B ↔ (A ⊎ ShowsListed nodes v labels n l w others m) → B ↔ (A ⊎ ShowsWith nodes v labels n l w)
    listed_all A B complete m e h = (λ b. to (h.0 b), from)
      where
        to : A ⊎ ShowsListed nodes v labels n l w others m → A ⊎ ShowsWith nodes v labels n l w
        to (inl a) = inl a
        to (inr (j, i, low, is, (earlier, (x, there, both)))) = inr (record {
          here = both.other;
          first = x.row;
          among = active_to n i x (omega (arith, inside)) earlier there both.one;
          shows = both.shows;
        })

        from : A ⊎ ShowsWith nodes v labels n l w → B
        from (inl a) = h.1 (inl a)
        from (inr s) =
            let (i, x, low, there, on, same) = active_from n s.first (omega (arith, inside)) s.among in
            let shows : SumShows x.row l.row w = subst (λ (r : Row). SumShows r l.row w) (sym same) s.shows in
            let (j, k, is) = complete i x there shows.sides in
            h.1 (inr (
              j,
              i,
              omega (arith, k, e),
              slice_get_read others (length others) j i refl k (sym is),
              (low, (x, there, record { one = on; other = s.here; shows = shows })),
            ))

-- in a store that has grown
pub before_stays : (old new : Diagrams) (v : Valuation) (labels : List Labelled) (i n : ℕ) (l : Labelled) (w : Row) → Extends old new
    → AreLabels old.nodes labels → IsLabel old.nodes l → ShowsBefore new.nodes v labels i n l w ↔ ShowsBefore old.nodes v labels i n l w
before_stays old new v labels i n l w e are is = (
  λ (low, (x, at, s)). (low, (x, at, (both_stays old new v x l w e (label_at old.nodes labels i x at are) is).0 s)),
  λ (low, (x, at, s)). (low, (x, at, (both_stays old new v x l w e (label_at old.nodes labels i x at are) is).1 s)),
)
