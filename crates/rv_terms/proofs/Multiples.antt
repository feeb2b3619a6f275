-- Multiples of forms: by 0 all are one, by another number different forms have different multiples.
use Rattle.std.proofs.Common.{ℕ, ◌*◌, ◌<◌, ◌≡◌, ◌≢◌, ◌⊎◌, ℤ, pos, ◌+ℤ◌, ◌-ℤ◌, ◌*ℤ◌, List, [], ◌∷◌, length, refl, sym, ap, ◌∙◌, ◌++◌, subst, ⊎_elim, inl, inr}
use Rattle.std.proofs.Common.{arith, get_or, drop, true, mul-pos}
use Rattle.std.proofs.{lemmas.Int.ints, lemmas.Int.unsigned_abs-mul, lemmas.Bool.cases_eq, Math.IntN.zero-*ℤ}
use Rattle.std.specs.Int.RustNames.{unsigned_abs}
use Rattle.rv_rows.specs.{declared.linear.Form.Form, Arithmetic.times, Arithmetic.form_times}
use Rattle.rv_rows.proofs.IntLemmas.{mul_add}
use Rattle.rv_diagram.specs.declared.Triple.{Triple}
use Rattle.rv_terms.specs.{declared.parted.Part.Part, Parts.part_at, Parts.holds, Parts.form_at, Parts.IsTerm, Parts.IsTermOf}
use Rattle.rv_terms.proofs.{Combining.form_width, Adding.IsPlaced, Adding.placed_last, Sums.length-multiple, Finding.leaf_made}
use Rattle.rv_base.proofs.Numbers.{size_zero}

no_product : (a b : ℕ) → a ≢ 0 → a * b ≡ 0 → b ≡ 0
no_product a b off h = ⊎_elim (λ e. e) (λ some. let p : 0 < a * b = mul-pos (omega arith) (omega arith) in absurd (omega arith)) (cases_eq b 0)

apart : (x y : ℤ) → y +ℤ (x -ℤ y) ≡ x
apart x y = omega (arith, ints)

equal_from : (x y : ℤ) → x -ℤ y ≡ pos 0 → x ≡ y
equal_from x y h = omega (arith, ints)

nothing_left : (p q r : ℤ) → p ≡ q +ℤ r → p ≡ q → r ≡ pos 0
nothing_left p q r h e = omega (arith, ints)

pub cancel : (by x y : ℤ) → by ≢ pos 0 → by *ℤ x ≡ by *ℤ y → x ≡ y
cancel by x y off e =
    let whole : by *ℤ x ≡ (by *ℤ y) +ℤ (by *ℤ (x -ℤ y)) = ap (λ z. by *ℤ z) (sym (apart x y)) ∙ mul_add by y (x -ℤ y) in
    let none : by *ℤ (x -ℤ y) ≡ pos 0 = nothing_left (by *ℤ x) (by *ℤ y) (by *ℤ (x -ℤ y)) whole e in
    let sizes : unsigned_abs by * unsigned_abs (x -ℤ y) ≡ 0 = sym (unsigned_abs-mul by (x -ℤ y)) ∙ ap unsigned_abs none in
    equal_from x y (size_zero (x -ℤ y) (no_product (unsigned_abs by) (unsigned_abs (x -ℤ y)) (λ h. off (size_zero by h)) sizes))

times_differ : (by : ℤ) → by ≢ pos 0 → (xs ys : List ℤ) → times by xs ≡ times by ys → xs ≡ ys
times_differ by off [] [] h = refl
times_differ by off [] (y ∷ ys) h = let e : length (times by []) ≡ length (times by (y ∷ ys)) = ap length h in absurd (omega arith)
times_differ by off (x ∷ xs) [] h = let e : length (times by (x ∷ xs)) ≡ length (times by []) = ap length h in absurd (omega arith)
times_differ by off (x ∷ xs) (y ∷ ys) h =
    let first : x ≡ y = cancel by x y off (ap (λ (l : List ℤ). get_or l 0 (pos 0)) h) in
    let rest : xs ≡ ys = times_differ by off xs ys (ap (λ (l : List ℤ). drop 1 l) h) in
    λ i. first i ∷ rest i

pub multiples_differ : (by : ℤ) (f g : Form) → by ≢ pos 0 → form_times by f ≡ form_times by g → f ≡ g
multiples_differ by f g off h =
    let numbers : f.coefficients ≡ g.coefficients = times_differ by off f.coefficients g.coefficients (ap (λ (x : Form). x.coefficients) h) in
    let constant : f.constant ≡ g.constant = cancel by f.constant g.constant off (ap (λ (x : Form). x.constant) h) in
    λ i. record { coefficients = numbers i; constant = constant i }

times_nothing : (xs ys : List ℤ) → length xs ≡ length ys → times (pos 0) xs ≡ times (pos 0) ys
times_nothing [] [] h = refl
times_nothing [] (y ∷ ys) h = absurd (omega arith)
times_nothing (x ∷ xs) [] h = absurd (omega arith)
times_nothing (x ∷ xs) (y ∷ ys) h =
    let first : pos 0 *ℤ x ≡ pos 0 *ℤ y = zero-*ℤ x ∙ sym (zero-*ℤ y) in
    let rest : times (pos 0) xs ≡ times (pos 0) ys = times_nothing xs ys (omega arith) in
    λ i. first i ∷ rest i

nothing_same : (f g : Form) → length f.coefficients ≡ length g.coefficients → form_times (pos 0) f ≡ form_times (pos 0) g
nothing_same f g same =
    let numbers : times (pos 0) f.coefficients ≡ times (pos 0) g.coefficients = times_nothing f.coefficients g.coefficients same in
    let constant : pos 0 *ℤ f.constant ≡ pos 0 *ℤ g.constant = zero-*ℤ f.constant ∙ sym (zero-*ℤ g.constant) in
    λ i. record { coefficients = numbers i; constant = constant i }

pub some_part : (nodes : List Triple) (width : ℕ) (a : List Part) → IsTerm nodes width a → 0 < length a
some_part nodes width a t = let c : (i : ℕ) × (i < length a) × (holds nodes a i (λ k. true) ≡ true) = t.covers (λ k. true) in omega (arith, c.1)

-- a term times 0
pub nothing_made : (nodes : List Triple) (width : ℕ) (a : List Part) → IsTerm nodes width a
    → IsTermOf nodes width (λ v. form_times (pos 0) (form_at nodes a v)) ((record { under = 1; form = form_times (pos 0) (part_at a 0).form }) ∷ [])
nothing_made nodes width a t =
    let form : Form = form_times (pos 0) (part_at a 0).form in
    let wide : length (part_at a 0).form.coefficients ≡ width = t.widths 0 (some_part nodes width a t) in
    let size : length form.coefficients ≡ width = length-multiple (pos 0) (part_at a 0).form ∙ wide in
    let made : IsTermOf nodes width (λ v. form) ((record { under = 1; form = form }) ∷ []) =
    subst (λ n. IsTermOf nodes n (λ v. form) ((record { under = 1; form = form }) ∷ [])) size (leaf_made nodes form) in
    record {
      term = made.term;
      width_is = made.width_is;
      filled = made.filled;
      exact = λ v. made.exact v ∙ nothing_same (part_at a 0).form (form_at nodes a v) (wide ∙ sym (form_width nodes width a t v));
    }

-- after a part has been put at the end, each has the form that it had, or the new one
pub push_forms : (before : List Part) (new : Part) (f : Form) → new.form ≡ f → (j : ℕ) → j < length (before ++ new ∷ [])
    → ((j < length before) × (part_at (before ++ new ∷ []) j ≡ part_at before j)) ⊎ ((part_at (before ++ new ∷ []) j).form ≡ f)
push_forms before new f is j low =
    let p : IsPlaced before (before ++ new ∷ []) (length before) new = placed_last before new in
    ⊎_elim
    (λ e. inr (ap (λ k. (part_at (before ++ new ∷ []) k).form) e ∙ ap (λ (x : Part). x.form) p.is ∙ is))
    (λ off. inl (p.others j low off))
    (cases_eq j (length before))
