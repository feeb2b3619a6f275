-- Sums over forms.
use Rattle.std.proofs.Common.{◌≡◌, ◌↔◌, ℕ, suc, zero, ◌+◌, ◌*◌, ◌≤◌, ◌<◌, ◌^◌, ℤ, pos, ◌+ℤ◌, ◌-ℤ◌, ◌*ℤ◌, ◌≤ℤ◌, List, [], ◌∷◌, ◌++◌, All, map, length, take}
use Rattle.std.proofs.Common.{get_or, add-one, slice_get, Some, arith, refl, ap, sym, ◌∙◌, ◌⊎◌, inl, inr}
use Rattle.std.proofs.Math.IntN.{*ℤ-zero, zero-*ℤ, +ℤ_assoc}
use Rattle.std.proofs.lemmas.List.{length-map, get_or_past, get_or-map, get_or_append_left, get_or_push}
use Rattle.std.proofs.lemmas.List.Elements.{All-head, All-tail, All-map}
use Rattle.std.proofs.{Math.ListN.length-append, lemmas.Int.ints, lemmas.Int.unsigned_abs-mul, lemmas.Bool.cases_lt, lemmas.Option.get_or_from_slice_get}
use Rattle.std.specs.Int.RustNames.{unsigned_abs}
use Rattle.rv_rows.specs.Forms.{number, value, values, IsSubstituted, SumsStay, CanSubstitute, forms_width}
use Rattle.rv_rows.specs.{declared.linear.Row.Row, declared.linear.Form.Form, Rows.dot, Rows.Holds}
use Rattle.rv_rows.proofs.IntLemmas.{mul_add, add_mul, mul_assoc_int, abs-product, add_swap}
use Rattle.rv_rows.proofs.{RowLemmas.dot-cons, RowLemmas.get_or-tail, RowLemmas.dot-none, RowLemmas.tail_of, TightLemmas.dot-scale}

-- one turn of a loop that pushes f of the index
pub pushed : (f : ℕ → ℤ) (xs : List ℤ) (y : ℤ) (i : ℕ) → length xs ≡ i → ((k : ℕ) → k < i → get_or xs k (pos 0) ≡ f k) → y ≡ f i
    → (k : ℕ) → k < i + 1 → get_or (xs ++ y ∷ []) k (pos 0) ≡ f k
pushed f xs y i len done here k l = go (cases_lt k i)
  where
    go : (k < i) ⊎ (i ≤ k) → get_or (xs ++ y ∷ []) k (pos 0) ≡ f k
    go (inl m) = get_or_append_left xs (y ∷ []) (pos 0) k (omega arith) ∙ done k m
    go (inr m) = let e : k ≡ i = omega arith in rw e (get_or_push xs y (pos 0) i len ∙ here)

-- one more product
dot-take : (cs xs : List ℤ) (i : ℕ) → i < length cs → i < length xs → dot (take (suc i) cs) xs ≡ dot (take i cs) xs +ℤ
    (get_or cs i (pos 0) *ℤ get_or xs i (pos 0))
dot-take [] xs i h k = absurd (omega arith)
dot-take (c ∷ cs) [] i h k = absurd (omega arith)
dot-take (c ∷ cs) (x ∷ xs) zero h k = omega (arith, ints)
dot-take (c ∷ cs) (x ∷ xs) (suc i) h k = rw (dot-take cs xs i (omega arith) (omega arith))
    (sym (+ℤ_assoc (c *ℤ x) (dot (take i cs) xs) (get_or cs i (pos 0) *ℤ get_or xs i (pos 0))))

-- one turn of a loop over a product of two lists
module _ (cs xs : List ℤ) (i : ℕ) (s t c x : ℤ) (in_cs : i < length cs) (in_xs : i < length xs)
    (c_is : get_or cs i (pos 0) ≡ c) (x_is : get_or xs i (pos 0) ≡ x) (so_far : s ≡ dot (take i cs) xs) where
  pub dot-more : dot (take (i + 1) cs) xs ≡ s +ℤ (c *ℤ x)
  dot-more = rw (add-one, so_far, sym c_is, sym x_is) (dot-take cs xs i in_cs in_xs)

  pub sum-room : SumsStay cs xs → unsigned_abs s + unsigned_abs c * unsigned_abs x < 2 ^ 127
  sum-room room =
      let a : unsigned_abs s < 2 ^ 110 = rw so_far (room i) in
      let b : unsigned_abs (s +ℤ (c *ℤ x)) < 2 ^ 110 = rw (sym dot-more) (room (i + 1)) in
      let p = abs-product s (c *ℤ x) in
      let q = unsigned_abs-mul c x in
      omega arith

dot-zeros : (cs xs : List ℤ) → All (λ z. z ≡ pos 0) xs → dot cs xs ≡ pos 0
dot-zeros [] xs h = refl
dot-zeros (c ∷ cs) [] h = refl
dot-zeros (c ∷ cs) (x ∷ xs) h = rw (All-head (λ z. z ≡ pos 0) x xs h, dot-zeros cs xs (All-tail (λ z. z ≡ pos 0) x xs h), *ℤ-zero c) refl

dot-add : (A : Type 0) (f g : A → ℤ) (cs : List ℤ) (as' : List A) → dot cs (map (λ a. f a +ℤ g a) as') ≡ dot cs (map f as') +ℤ dot cs (map g as')
dot-add A f g [] as' = refl
dot-add A f g (c ∷ cs) [] = refl
dot-add A f g (c ∷ cs) (a ∷ as') = rw (mul_add c (f a) (g a), dot-add A f g cs as') (add_swap (c *ℤ f a) (c *ℤ g a) (dot cs (map f as')) (dot cs (map g as')))

dot-mul : (A : Type 0) (f : A → ℤ) (x : ℤ) (cs : List ℤ) (as' : List A) → dot cs (map (λ a. f a *ℤ x) as') ≡ dot cs (map f as') *ℤ x
dot-mul A f x [] as' = sym (zero-*ℤ x)
dot-mul A f x (c ∷ cs) [] = sym (zero-*ℤ x)
dot-mul A f x (c ∷ cs) (a ∷ as') = rw (dot-mul A f x cs as', add_mul (c *ℤ f a) (dot cs (map f as')) x, mul_assoc_int c (f a) x) refl

dot-same : (A : Type 0) (f g : A → ℤ) (cs : List ℤ) (as' : List A) → ((a : A) → f a ≡ g a) → dot cs (map f as') ≡ dot cs (map g as')
dot-same A f g [] as' e = refl
dot-same A f g (c ∷ cs) [] e = refl
dot-same A f g (c ∷ cs) (a ∷ as') e = rw (e a, dot-same A f g cs as' e) refl

-- the coefficients of a substituted row at a point
dot-dot : (A : Type 0) (ys : List ℤ) (g : A → List ℤ) (cs : List ℤ) (as' : List A) (ds : List ℤ)
    → ((k : ℕ) → get_or ds k (pos 0) ≡ dot cs (map (λ a. get_or (g a) k (pos 0)) as')) → dot ds ys ≡ dot cs (map (λ a. dot (g a) ys) as')
dot-dot A [] g cs as' ds h = dot-none ds ∙ sym (dot-same A (λ a. dot (g a) []) (λ a. pos 0 *ℤ pos 0) cs as' (λ a. dot-none (g a))
    ∙ dot-mul A (λ a. pos 0) (pos 0) cs as' ∙ *ℤ-zero (dot cs (map (λ a. pos 0) as')))
dot-dot A (y ∷ ys) g cs as' ds h =
    let rest = dot-dot A ys (λ a. tail_of (g a)) cs as' (tail_of ds)
    (λ k. get_or-tail ds k ∙ h (k + 1) ∙ dot-same A (λ a. get_or (g a) (k + 1) (pos 0)) (λ a. get_or (tail_of (g a)) k (pos 0)) cs as'
    (λ a. sym (get_or-tail (g a) k))) in
    dot-cons ds y ys
    ∙ ap (λ z. (z *ℤ y) +ℤ dot (tail_of ds) ys) (h 0)
    ∙ ap (λ z. (dot cs (map (λ a. get_or (g a) 0 (pos 0)) as') *ℤ y) +ℤ z) rest
    ∙ ap (λ z. z +ℤ dot cs (map (λ a. dot (tail_of (g a)) ys) as')) (sym (dot-mul A (λ a. get_or (g a) 0 (pos 0)) y cs as'))
    ∙ sym (dot-add A (λ a. get_or (g a) 0 (pos 0) *ℤ y) (λ a. dot (tail_of (g a)) ys) cs as')
    ∙ dot-same A (λ a. (get_or (g a) 0 (pos 0) *ℤ y) +ℤ dot (tail_of (g a)) ys) (λ a. dot (g a) (y ∷ ys)) cs as' (λ a. sym (dot-cons (g a) y ys))

-- coefficients that are the sums of others
dot-sum : (xs as' bs cs : List ℤ) → ((k : ℕ) → get_or cs k (pos 0) ≡ get_or as' k (pos 0) +ℤ get_or bs k (pos 0)) → dot cs xs ≡ dot as' xs +ℤ dot bs xs
dot-sum [] as' bs cs h = dot-none cs ∙ sym (ap (λ z. z +ℤ dot bs []) (dot-none as') ∙ ap (λ z. pos 0 +ℤ z) (dot-none bs))
dot-sum (x ∷ xs) as' bs cs h =
    dot-cons cs x xs
    ∙ ap (λ z. (z *ℤ x) +ℤ dot (tail_of cs) xs) (h 0)
    ∙ ap (λ z. z +ℤ dot (tail_of cs) xs) (add_mul (get_or as' 0 (pos 0)) (get_or bs 0 (pos 0)) x)
    ∙ ap (λ z. ((get_or as' 0 (pos 0) *ℤ x) +ℤ (get_or bs 0 (pos 0) *ℤ x)) +ℤ z)
    (dot-sum xs (tail_of as') (tail_of bs) (tail_of cs) (λ k. get_or-tail cs k ∙ h (k + 1) ∙ ap (λ z. z +ℤ get_or bs (k + 1) (pos 0)) (sym (get_or-tail as' k))
    ∙ ap (λ z. get_or (tail_of as') k (pos 0) +ℤ z) (sym (get_or-tail bs k))))
    ∙ add_swap (get_or as' 0 (pos 0) *ℤ x) (get_or bs 0 (pos 0) *ℤ x) (dot (tail_of as') xs) (dot (tail_of bs) xs)
    ∙ ap (λ z. z +ℤ ((get_or bs 0 (pos 0) *ℤ x) +ℤ dot (tail_of bs) xs)) (sym (dot-cons as' x xs))
    ∙ ap (λ z. dot as' (x ∷ xs) +ℤ z) (sym (dot-cons bs x xs))

pub sum_value : (a b : Form) (cs : List ℤ) → ((k : ℕ) → number k cs ≡ number k a.coefficients +ℤ number k b.coefficients)
    → (point : List ℤ) → value (record { coefficients = cs; constant = a.constant +ℤ b.constant }) point ≡ value a point +ℤ value b point
sum_value a b cs sums point =
    ap (λ z. z +ℤ (a.constant +ℤ b.constant)) (dot-sum point a.coefficients b.coefficients cs sums)
    ∙ add_swap (dot a.coefficients point) (dot b.coefficients point) a.constant b.constant

pub multiple_value : (by : ℤ) (a : Form) (cs : List ℤ) → ((k : ℕ) → number k cs ≡ by *ℤ number k a.coefficients)
    → (point : List ℤ) → value (record { coefficients = cs; constant = by *ℤ a.constant }) point ≡ by *ℤ value a point
multiple_value by a cs products point =
    ap (λ z. z +ℤ (by *ℤ a.constant)) (dot-scale point by cs a.coefficients products)
    ∙ sym (mul_add by (dot a.coefficients point) a.constant)

pub substituted_same : (old new : Row) (forms : List Form) → IsSubstituted old forms new → (point : List ℤ)
    → Holds new point ↔ Holds old (values forms point)
substituted_same old new forms s point =
    let e : dot new.coefficients point ≡ dot old.coefficients (map (λ f. dot f.coefficients point) forms) = dot-dot Form point
    (λ f. f.coefficients) old.coefficients forms new.coefficients s.coefficients in
    let a = dot-add Form (λ f. dot f.coefficients point) (λ f. f.constant) old.coefficients forms in
    let b = s.bound in
    ((λ h. moved _ _ _ _ _ _ e a b h), (λ h. moved_back _ _ _ _ _ _ e a b h))
  where
    moved : (n o k b t v : ℤ) → n ≡ o → v ≡ o +ℤ k → t ≡ b -ℤ k → n ≤ℤ t → v ≤ℤ b
    moved n o k b t v e a c h = omega (arith, ints)

    moved_back : (n o k b t v : ℤ) → n ≡ o → v ≡ o +ℤ k → t ≡ b -ℤ k → v ≤ℤ b → n ≤ℤ t
    moved_back n o k b t v e a c h = omega (arith, ints)

-- what the columns below the width say of all columns
pub columns_all : (cs ds : List ℤ) (forms : List Form) (width : ℕ) → length ds ≡ width → All (λ f. length f.coefficients ≡ width) forms
    → ((k : ℕ) → k < width → number k ds ≡ dot cs (map (λ f. number k f.coefficients) forms))
    → (k : ℕ) → number k ds ≡ dot cs (map (λ f. number k f.coefficients) forms)
columns_all cs ds forms width len widths below k = go (cases_lt k width)
  where
    all_zero : width ≤ k → All (λ z. z ≡ pos 0) (map (λ f. number k f.coefficients) forms)
    all_zero l = All-map (λ z. z ≡ pos 0) (λ f. number k f.coefficients) forms
        (λ j d m. let e = widths j d m in get_or_past (get_or forms j d).coefficients k (pos 0) (omega arith))

    go : (k < width) ⊎ (width ≤ k) → number k ds ≡ dot cs (map (λ f. number k f.coefficients) forms)
    go (inl l) = below k l
    go (inr l) = get_or_past ds k (pos 0) (omega arith) ∙ sym (dot-zeros cs (map (λ f. number k f.coefficients) forms) (all_zero l))

-- one turn of a loop over the coefficients and the forms
module _ (f : Form → ℤ) (cs : List ℤ) (forms : List Form) (i : ℕ) (s c : ℤ) (form : Form) (same : length cs ≡ length forms) (inside : i < length cs)
    (c_read : slice_get cs i ≡ Some c) (read : slice_get forms i ≡ Some form) where
  f_is : get_or (map f forms) i (pos 0) ≡ f form
  f_is = get_or-map f forms i form (pos 0) (omega arith) ∙ ap f (get_or_from_slice_get forms i form form read)

  c_is : get_or cs i (pos 0) ≡ c
  c_is = get_or_from_slice_get cs i c (pos 0) c_read

  in_map : i < length (map f forms)
  in_map = rw length-map (omega arith)

  pub form-room : (x : ℤ) → x ≡ f form → s ≡ dot (take i cs) (map f forms) → SumsStay cs (map f forms)
      → unsigned_abs s + unsigned_abs c * unsigned_abs x < 2 ^ 127
  form-room x e so_far room = sum-room cs (map f forms) i s s c x inside in_map c_is (f_is ∙ sym e) so_far room

  pub form-kept : (x t : ℤ) → x ≡ f form → t ≡ s +ℤ (c *ℤ x) → s ≡ dot (take i cs) (map f forms) → t ≡ dot (take (i + 1) cs) (map f forms)
  form-kept x t e is so_far = is ∙ sym (dot-more cs (map f forms) i s t c x inside in_map c_is (f_is ∙ sym e) so_far)

pub length-pushed : (xs : List ℤ) (y : ℤ) (i : ℕ) → length xs ≡ i → length (xs ++ y ∷ []) ≡ i + 1
length-pushed xs y i e = omega (arith, length-append xs (y ∷ []), e)

pub substituted : (old : Row) (forms : List Form) (ds : List ℤ) (width : ℕ) (b k : ℤ) → CanSubstitute old forms
    → width ≡ forms_width forms → length ds ≡ width → ((j : ℕ) → j < width → number j ds ≡ dot old.coefficients (map (λ f. number j f.coefficients) forms))
    → k ≡ dot old.coefficients (map (λ f. f.constant) forms) → b ≡ old.bound -ℤ k
    → IsSubstituted old forms (record { coefficients = ds; bound = b })
substituted old forms ds width b k can w len below k_is b_is = record {
  width = len ∙ w;
  coefficients = columns_all old.coefficients ds forms width len (rw w can.widths) below;
  bound = b_is ∙ ap (λ z. old.bound -ℤ z) k_is;
}
