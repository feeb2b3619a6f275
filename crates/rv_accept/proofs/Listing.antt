-- Elements of lists by number, and the implications of a list of rows.
use Rattle.std.proofs.Common.{ℕ, zero, suc, ◌+◌, ◌<◌, ◌≡◌, ◌≢◌, ◌↔◌, ◌⊎◌, pos, List, [], ◌∷◌, ◌++◌, length, All, refl, sym, ap, ◌∙◌, subst, ⊎_elim, inl, inr}
use Rattle.std.proofs.Common.{arith, Some, slice_get, get_or}
use Rattle.std.proofs.lemmas.List.Elements.{All-get_or}
use Rattle.std.proofs.lemmas.Option.{none-some, same_Some, slice_get_within, slice_get-get_or, get_or_from_slice_get}
use Rattle.std.specs.List.{Contains}
use Rattle.rv_rows.specs.{declared.linear.Row.Row, declared.farkas.Multipliers.Multipliers, Rows.coefficient}
use Rattle.rv_proofs.specs.Scopes.{Wanted, before, after, Implication, each, NamesTest, NeedsUpdate}
use Rattle.rv_accept.specs.Needs.{SomeAt, IsNamed, IsNeeded, Names}
use Rattle.rv_base.proofs.Lists.{item_at}

module _ {X : Type 0} where
  pub get_left : (xs ys : List X) (n : ℕ) (x : X) → slice_get xs n ≡ Some x → slice_get (xs ++ ys) n ≡ Some x
  get_left [] ys n x h = absurd (none-some x h)
  get_left (y ∷ xs) ys zero x h = h
  get_left (y ∷ xs) ys (suc n) x h = get_left xs ys n x h

  pub get_right : (xs ys : List X) (n k : ℕ) (x : X) → n ≡ length xs + k → slice_get ys k ≡ Some x → slice_get (xs ++ ys) n ≡ Some x
  get_right [] ys n k x e h = let same : k ≡ n = omega arith in subst (λ (m : ℕ). slice_get ys m ≡ Some x) same h
  get_right (y ∷ xs) ys zero k x e h = absurd (omega arith)
  get_right (y ∷ xs) ys (suc n) k x e h = get_right xs ys n k x (omega arith) h

  pub get_cases : (xs ys : List X) (n : ℕ) (x : X) → slice_get (xs ++ ys) n ≡ Some x
      → (slice_get xs n ≡ Some x) ⊎ ((k : ℕ) × (n ≡ length xs + k) × (slice_get ys k ≡ Some x))
  get_cases [] ys n x h = inr (n, omega arith, h)
  get_cases (y ∷ xs) ys zero x h = inl h
  get_cases (y ∷ xs) ys (suc n) x h = ⊎_elim (λ l. inl l) (λ (k, e, at). inr (k, omega (arith, e), at)) (get_cases xs ys n x h)

  pub some_append : (so : X → Type 0) (xs ys : List X) → (SomeAt so xs ⊎ SomeAt so ys) ↔ SomeAt so (xs ++ ys)
  some_append so xs ys = (
    λ h. ⊎_elim (λ (n, x, at, is). (n, x, get_left xs ys n x at, is)) (λ (k, x, at, is). (length xs + k, x, get_right xs ys (length xs + k) k x refl at, is)) h,
    λ (n, x, at, is). ⊎_elim (λ l. inl (n, x, l, is)) (λ (k, e, r). inr (k, x, r, is)) (get_cases xs ys n x at),
  )

  pub all_at : (P : X → Type 0) (xs : List X) → All P xs → (n : ℕ) (x : X) → slice_get xs n ≡ Some x → P x
  all_at P xs all n x at = subst P (get_or_from_slice_get xs n x x at) (All-get_or P xs n x (slice_get_within xs n x at) all)

  pub all_from : (P : X → Type 0) (xs : List X) → ((n : ℕ) (x : X) → slice_get xs n ≡ Some x → P x) → All P xs
  all_from P xs h k d low = h k (get_or xs k d) (slice_get-get_or xs k d low)

  pub contains_get : (xs : List X) (x : X) → Contains xs x → (n : ℕ) × (slice_get xs n ≡ Some x)
  contains_get xs x (k, low, e) = (k, slice_get-get_or xs k x low ∙ ap (λ (z : X). Some z) e)

  pub get_contains : (xs : List X) (n : ℕ) (x : X) → slice_get xs n ≡ Some x → Contains xs x
  get_contains xs n x at = (n, slice_get_within xs n x at, get_or_from_slice_get xs n x x at)

-- the implication of one row
abbrev pub asks : (Row → Wanted) → List Row → Row → Multipliers → Implication
asks want given r m = record { given = given; wanted = want r; by = m }

module _ (want : Row → Wanted) (given : List Row) where
  pub each_at : (rs : List Row) (ms : List Multipliers) (n : ℕ) (r : Row) (m : Multipliers) → slice_get rs n ≡ Some r → slice_get ms n ≡ Some m
      → slice_get (each want given rs ms) n ≡ Some (asks want given r m)
  each_at [] ms n r m a b = absurd (none-some r a)
  each_at (x ∷ rs) [] n r m a b = absurd (none-some m b)
  each_at (x ∷ rs) (y ∷ ms) zero r m a b = ap (λ (z : Row). Some (asks want given z y)) (same_Some x r a)
      ∙ ap (λ (z : Multipliers). Some (asks want given r z)) (same_Some y m b)
  each_at (x ∷ rs) (y ∷ ms) (suc n) r m a b = each_at rs ms n r m a b

  pub each_parts : (rs : List Row) (ms : List Multipliers) (n : ℕ) (i : Implication) → slice_get (each want given rs ms) n ≡ Some i
      → (r : Row) × (m : Multipliers) × (slice_get rs n ≡ Some r) × (slice_get ms n ≡ Some m) × (asks want given r m ≡ i)
  each_parts [] ms n i h = absurd (none-some i h)
  each_parts (x ∷ rs) [] n i h = absurd (none-some i h)
  each_parts (x ∷ rs) (y ∷ ms) zero i h = (x, y, refl, refl, same_Some (asks want given x y) i h)
  each_parts (x ∷ rs) (y ∷ ms) (suc n) i h = each_parts rs ms n i h

  pub length_each : (rs : List Row) (ms : List Multipliers) → length ms ≡ length rs → length (each want given rs ms) ≡ length rs
  length_each [] ms e = refl
  length_each (x ∷ rs) [] e = absurd (omega arith)
  length_each (x ∷ rs) (y ∷ ms) e = ap (λ n. suc n) (length_each rs ms (omega arith))

  -- a test is named by some of these implications where some of the multipliers name it
  pub named_each : (rs : List Row) (ms : List Multipliers) (t : ℕ) → length ms ≡ length rs
      → SomeAt (λ m. Names (length given) m t) ms ↔ IsNamed (each want given rs ms) t
  named_each rs ms t size = (to, from)
    where
      to : SomeAt (λ m. Names (length given) m t) ms → IsNamed (each want given rs ms) t
      to (n, m, at, (p, w, there, is)) =
          let low : n < length ms = slice_get_within ms n m at in
          let (r, got) = item_at rs n (omega arith) in
          (n, asks want given r m, each_at rs ms n r m got at, (w, get_contains m.weights p w there, is))

      from : IsNamed (each want given rs ms) t → SomeAt (λ m. Names (length given) m t) ms
      from (n, i, at, named) =
          let (r, m, got, by, e) = each_parts rs ms n i at in
          let (w, inside, is) = subst (λ (x : Implication). NamesTest x t) (sym e) named in
          let (p, there) = contains_get m.weights w inside in
          (n, m, by, (p, w, there, is))

-- a memory is needed by some of these implications where it is in some of the rows
pub needed_each : (given rs : List Row) (ms : List Multipliers) (k : ℕ) → length ms ≡ length rs
    → SomeAt (λ r. coefficient k r ≢ pos 0) rs ↔ IsNeeded (each after given rs ms) k
needed_each given rs ms k size = (to, from)
  where
    to : SomeAt (λ r. coefficient k r ≢ pos 0) rs → IsNeeded (each after given rs ms) k
    to (n, r, at, is) =
        let low : n < length rs = slice_get_within rs n r at in
        let (m, got) = item_at ms n (omega arith) in
        (n, asks after given r m, each_at after given rs ms n r m at got, is)

    from : IsNeeded (each after given rs ms) k → SomeAt (λ r. coefficient k r ≢ pos 0) rs
    from (n, i, at, need) =
        let (r, m, got, by, e) = each_parts after given rs ms n i at in
        (n, r, got, subst (λ (x : Implication). NeedsUpdate x.wanted k) (sym e) need)

-- rows that are proved before the updates need none
pub needed_never : (given rs : List Row) (ms : List Multipliers) (k : ℕ) → IsNeeded (each before given rs ms) k → ⊥
needed_never given rs ms k (n, i, at, need) =
    let (r, m, got, by, e) = each_parts before given rs ms n i at in
    subst (λ (x : Implication). NeedsUpdate x.wanted k) (sym e) need
