-- A left side that is moved column by column, and what is shown of it after the updates.
use Rattle.std.proofs.Common.{◌≡◌, ◌⊎◌, ℕ, zero, suc, ◌+◌, ◌*◌, ◌<◌, ◌≤◌, ◌^◌, ℤ, pos, ◌+ℤ◌, ◌-ℤ◌, ◌*ℤ◌, ◌≤ℤ◌, Bool, true, ◌&&◌, List, [], ◌∷◌, ◌++◌, length}
use Rattle.std.proofs.Common.{map, take, get_or, All, Option, Some, slice_get}
use Rattle.std.proofs.Common.{arith, refl, sym, ap, ◌∙◌, subst, inl, inr}
use Rattle.std.proofs.{lemmas.Int.ints, lemmas.Int.unsigned_abs-mul, lemmas.Bool.cases_lt, lemmas.Bool.cases_eq, lemmas.Bool.and_parts, lemmas.Bool.and_from}
use Rattle.std.proofs.{Math.IntN.zero-*ℤ, Math.IntN.+ℤ_assoc, lemmas.Option.get_or_from_slice_get, lemmas.Option.slice_get_within}
use Rattle.std.proofs.lemmas.List.{length-map, get_or-map, get_or_past, take_all}
use Rattle.std.proofs.lemmas.List.Elements.{All-weaker, All-from_get_or}
use Rattle.std.specs.Int.RustNames.{unsigned_abs}
use Rattle.rv_base.specs.Limits.{heaviest}
use Rattle.rv_rows.specs.Multipliers.{ShowsAtOnce, by_none, by_one, by_two}
use Rattle.rv_rows.specs.{declared.linear.Row.Row, declared.linear.Form.Form, Rows.coefficient, Rows.dot}
use Rattle.rv_rows.specs.{Forms.number, Forms.FormWithin, Forms.IsSubstituted, Forms.forms_width, Forms.IsSum, Forms.IsMultiple, Forms.CanAdd, Forms.CanScale}
use Rattle.rv_rows.specs.Arithmetic.{zeros}
use Rattle.rv_diagram.specs.{declared.Triple.Triple, Nodes.Valuation, Nodes.Diagrams, Nodes.IsRef, Nodes.value_of, Growing.Extends}
use Rattle.rv_proofs.specs.Systems.{System, IsSystem, updates_of}
use Rattle.rv_proofs.specs.Implied.{form_at}
use Rattle.rv_proofs.proofs.Claims.{updates_long, update_at}
use Rattle.rv_seek.specs.Least.{bounded, at_most}
use Rattle.rv_cases.specs.{declared.asking.Questions.Questions, Conditions.is_in, Conditions.AreAnswers, Questions.AreQuestions}
use Rattle.rv_cases.specs.Questions.{memory_answers, forms_at}
use Rattle.rv_pairs.specs.{declared.labels.Labelled.Labelled, Labels.active}
use Rattle.rv_pairs.specs.Moves.{IsMoved, IsMovedIn, HoldsAfter, HoldsAmong}
use Rattle.rv_pairs.specs.{Labels.AreLabels, Risen.ShowForm}
use Rattle.rv_ends.specs.Risen.{IsRisen}
use Rattle.rv_ends.proofs.Risen.{risen_as, risen_both}
use Rattle.rv_pairs.proofs.Counting.{active_stays}

-- a row with the same left side and a greater bound is shown too
shown_more : (rows : List Row) (a b : Row) → ((k : ℕ) → coefficient k b ≡ coefficient k a) → a.bound ≤ℤ b.bound → ShowsAtOnce rows a → ShowsAtOnce rows b
shown_more rows a b same l (by_none sides bound) = by_none (λ k. same k ∙ sides k) (omega (arith, ints))
shown_more rows a b same l (by_one i m sides bound) = by_one i m (λ k. same k ∙ sides k) (omega (arith, ints))
shown_more rows a b same l (by_two i j m n sides bound) = by_two i j m n (λ k. same k ∙ sides k) (omega (arith, ints))

-- one more product
dot_take : (cs xs : List ℤ) (i : ℕ) → i < length cs → i < length xs → dot (take (suc i) cs) xs ≡ dot (take i cs) xs +ℤ
    (get_or cs i (pos 0) *ℤ get_or xs i (pos 0))
dot_take [] xs i h k = absurd (omega arith)
dot_take (c ∷ cs) [] i h k = absurd (omega arith)
dot_take (c ∷ cs) (x ∷ xs) zero h k = omega (arith, ints)
dot_take (c ∷ cs) (x ∷ xs) (suc i) h k = rw (dot_take cs xs i (omega arith) (omega arith))
    (sym (+ℤ_assoc (c *ℤ x) (dot (take i cs) xs) (get_or cs i (pos 0) *ℤ get_or xs i (pos 0))))

dot_next : (cs xs : List ℤ) (i : ℕ) (c x : ℤ) → i < length cs → i < length xs → number i cs ≡ c → get_or xs i (pos 0) ≡ x
    → dot (take (i + 1) cs) xs ≡ dot (take i cs) xs +ℤ (c *ℤ x)
dot_next cs xs i c x l m e g =
    let next : i + 1 ≡ suc i = omega arith in
    ap (λ (n : ℕ). dot (take n cs) xs) next ∙ dot_take cs xs i l m
    ∙ ap (λ (z : ℤ). dot (take i cs) xs +ℤ (z *ℤ get_or xs i (pos 0))) e ∙ ap (λ (z : ℤ). dot (take i cs) xs +ℤ (c *ℤ z)) g

-- columns whose number is 0 add nothing
dot_skip : (cs xs : List ℤ) (first column : ℕ) → first ≤ column → column ≤ length cs → length xs ≡ length cs
    → ((k : ℕ) → first ≤ k → k < column → number k cs ≡ pos 0) → dot (take column cs) xs ≡ dot (take first cs) xs
dot_skip cs xs first zero l m e none = let same : 0 ≡ first = omega (arith, l) in ap (λ (n : ℕ). dot (take n cs) xs) same
dot_skip cs xs first (suc c) l m e none = go (cases_eq first (suc c))
    (λ (low : first ≤ c). dot_skip cs xs first c low (omega (arith, m)) e (λ k a b. none k a (omega (arith, b))))
  where
    plus : (d : ℤ) → d +ℤ pos 0 ≡ d
    plus d = omega (arith, ints)

    none_more : (d z x : ℤ) → z ≡ pos 0 → d +ℤ (z *ℤ x) ≡ d
    none_more d z x e = ap (λ (y : ℤ). d +ℤ (y *ℤ x)) e ∙ ap (λ (y : ℤ). d +ℤ y) (zero-*ℤ x) ∙ plus d

    go : (first ≡ suc c) ⊎ (first ≡ suc c → ⊥) → (first ≤ c → dot (take c cs) xs ≡ dot (take first cs) xs) → dot (take (suc c) cs) xs ≡ dot (take first cs) xs
    go (inl same) before = ap (λ (n : ℕ). dot (take n cs) xs) (sym same)
    go (inr ne) before =
        let low : first ≤ c = omega (arith, l, ne) in
        dot_take cs xs c (omega (arith, m)) (omega (arith, m, e))
        ∙ none_more (dot (take c cs) xs) (number c cs) (get_or xs c (pos 0)) (none c low (omega arith)) ∙ before low

module _ (s : System) (v : Valuation) where
  width_of : (h : Form → ℤ) → length (map h (updates_of s v)) ≡ s.memories
  width_of h = length-map (updates_of s v) h ∙ updates_long s v s.memories

  pub moved_skip : (numbers : List ℤ) (first column : ℕ) (f : Form) → length numbers ≡ s.memories → first ≤ column → column ≤ length numbers
      → ((k : ℕ) → first ≤ k → k < column → number k numbers ≡ pos 0) → IsMoved s v (take first numbers) f → IsMoved s v (take column numbers) f
  moved_skip numbers first column f many l m none is = record {
    width = is.width;
    coefficients = λ k. is.coefficients k ∙ sym (dot_skip numbers (map (λ (g : Form). number k g.coefficients) (updates_of s v)) first column l m
        (width_of (λ (g : Form). number k g.coefficients) ∙ sym many) none);
    constant = is.constant ∙ sym (dot_skip numbers (map (λ (g : Form). g.constant) (updates_of s v)) first column l m
        (width_of (λ (g : Form). g.constant) ∙ sym many) none);
  }

  at_update : (h : Form → ℤ) (column : ℕ) → column < s.memories → get_or (map h (updates_of s v)) column (pos 0) ≡ h (s.update v column)
  at_update h column low =
      let d : Form = record { coefficients = []; constant = pos 0 } in
      get_or-map h (updates_of s v) column d (pos 0) (omega (arith, low, updates_long s v s.memories)) ∙ ap h (update_at s v d s.memories column low)

  pub moved_next : (numbers : List ℤ) (column : ℕ) (by : ℤ) (f other g : Form) → length numbers ≡ s.memories → column < length numbers
      → number column numbers ≡ by → s.update v column ≡ other → length g.coefficients ≡ length f.coefficients
      → ((k : ℕ) → number k g.coefficients ≡ number k f.coefficients +ℤ (by *ℤ number k other.coefficients))
      → g.constant ≡ f.constant +ℤ (by *ℤ other.constant)
      → IsMoved s v (take column numbers) f → IsMoved s v (take (column + 1) numbers) g
  moved_next numbers column by f other g many low is_by becomes wide sides constant is = record {
    width = wide ∙ is.width;
    coefficients = λ k. sides k ∙ ap (λ (x : ℤ). x +ℤ (by *ℤ number k other.coefficients)) (is.coefficients k)
        ∙ sym (dot_next numbers (map (λ (h : Form). number k h.coefficients) (updates_of s v)) column by (number k other.coefficients) low
        (omega (arith, low, many, width_of (λ (h : Form). number k h.coefficients))) is_by
        (at_update (λ (h : Form). number k h.coefficients) column (omega (arith, low, many))
        ∙ ap (λ (h : Form). number k h.coefficients) becomes));
    constant = constant ∙ ap (λ (x : ℤ). x +ℤ (by *ℤ other.constant)) is.constant
        ∙ sym (dot_next numbers (map (λ (h : Form). h.constant) (updates_of s v)) column by other.constant low
        (omega (arith, low, many, width_of (λ (h : Form). h.constant))) is_by
        (at_update (λ (h : Form). h.constant) column (omega (arith, low, many)) ∙ ap (λ (h : Form). h.constant) becomes));
  }

  -- the width of the updates
  first_width : (fs : List Form) → 0 < length fs → forms_width fs ≡ length (form_at fs 0).coefficients
  first_width [] l = absurd (omega (arith, l))
  first_width (f ∷ fs) l = refl

  updates_width : IsSystem s → 0 < s.memories → forms_width (updates_of s v) ≡ s.columns
  updates_width is some =
      first_width (updates_of s v) (omega (arith, some, updates_long s v s.memories))
      ∙ ap (λ (f : Form). length f.coefficients) (update_at s v (record { coefficients = []; constant = pos 0 }) s.memories 0 some)
      ∙ (is.updates v 0 some).wide

  -- what is shown of the sum is shown of the left side after the updates
  pub shown_after : (numbers : List ℤ) (f : Form) (rows : List Row) (z : ℤ) → IsSystem s → 0 < s.memories → IsMoved s v numbers f
      → ShowsAtOnce rows (at_most f z) → (new : Row) × IsSubstituted (bounded numbers z) (updates_of s v) new × ShowsAtOnce rows new
  shown_after numbers f rows z system some is shows = (
    at_most f z,
    record { width = is.width ∙ sym (updates_width system some); coefficients = is.coefficients; bound = ap (λ (c : ℤ). z -ℤ c) is.constant },
    shows,
  )

  pub after_shown : (numbers : List ℤ) (f : Form) (rows : List Row) (z : ℤ) → IsMoved s v numbers f
      → (new : Row) × IsSubstituted (bounded numbers z) (updates_of s v) new × ShowsAtOnce rows new → ShowsAtOnce rows (at_most f z)
  after_shown numbers f rows z is (new, sub, shows) = shown_more rows new (at_most f z) (λ k. is.coefficients k ∙ sym (sub.coefficients k))
      (same new.bound z f.constant (dot numbers (map (λ (g : Form). g.constant) (updates_of s v))) sub.bound is.constant) shows
    where
      same : (n z c d : ℤ) → n ≡ z -ℤ d → c ≡ d → n ≤ℤ (z -ℤ c)
      same n z c d e g = omega (arith, ints)

  -- and so is each greater bound
  pub after_up : (numbers : List ℤ) (rows : List Row) (a b : ℤ) → a ≤ℤ b
      → (new : Row) × IsSubstituted (bounded numbers a) (updates_of s v) new × ShowsAtOnce rows new
      → (new : Row) × IsSubstituted (bounded numbers b) (updates_of s v) new × ShowsAtOnce rows new
  after_up numbers rows a b l (new, sub, shows) = (
    bounded new.coefficients (b -ℤ dot numbers (map (λ (g : Form). g.constant) (updates_of s v))),
    record { width = sub.width; coefficients = sub.coefficients; bound = refl },
    shown_more rows new (bounded new.coefficients (b -ℤ dot numbers (map (λ (g : Form). g.constant) (updates_of s v)))) (λ k. refl)
        (up new.bound a b (dot numbers (map (λ (g : Form). g.constant) (updates_of s v))) sub.bound l) shows,
  )
    where
      up : (n a b d : ℤ) → n ≡ a -ℤ d → a ≤ℤ b → n ≤ℤ (b -ℤ d)
      up n a b d e l = omega (arith, ints)

-- the form that is 0 is the sum of no updates
pub zeros_long : (n : ℕ) → length (zeros n) ≡ n
zeros_long zero = refl
zeros_long (suc n) = omega (arith, zeros_long n)

zeros_at : (n k : ℕ) → number k (zeros n) ≡ pos 0
zeros_at zero k = refl
zeros_at (suc n) zero = refl
zeros_at (suc n) (suc k) = zeros_at n k

pub moved_none : (s : System) (v : Valuation) (numbers : List ℤ) (columns : ℕ) (f : Form) → f ≡ record { coefficients = zeros columns; constant = pos 0 }
    → columns ≡ s.columns → IsMoved s v (take 0 numbers) f
moved_none s v numbers columns f is wide = record {
  width = ap (λ (g : Form). length g.coefficients) is ∙ zeros_long columns ∙ wide;
  coefficients = λ k. ap (λ (g : Form). number k g.coefficients) is ∙ zeros_at columns k;
  constant = ap (λ (g : Form). g.constant) is;
}

-- NUMBERS THAT STAY SMALL

pub product_small : (n : ℕ) (by x : ℤ) → unsigned_abs by ≤ 1 → unsigned_abs x ≤ n → unsigned_abs (by *ℤ x) ≤ n
product_small n by x one l = go (unsigned_abs by) one (unsigned_abs-mul by x)
  where
    go : (m : ℕ) → m ≤ 1 → unsigned_abs (by *ℤ x) ≡ m * unsigned_abs x → unsigned_abs (by *ℤ x) ≤ n
    go zero low e = omega (arith, e)
    go (suc zero) low e = omega (arith, e, l)
    go (suc (suc m)) low e = absurd (omega (arith, low))

pub form_wider : (m n : ℕ) (f : Form) → m ≤ n → FormWithin m f → FormWithin n f
form_wider m n f l (sides, constant) = (
  All-weaker (λ (c : ℤ). unsigned_abs c ≤ m) (λ (c : ℤ). unsigned_abs c ≤ n) (λ c k. omega (arith, l, k)) f.coefficients sides,
  omega (arith, l, constant),
)

-- the number of a column is small, also past the end
pub number_small : (n : ℕ) (cs : List ℤ) (k : ℕ) → All (λ c. unsigned_abs c ≤ n) cs → unsigned_abs (number k cs) ≤ n
number_small n cs k h = go (cases_lt k (length cs))
  where
    go : (k < length cs) ⊎ (length cs ≤ k) → unsigned_abs (number k cs) ≤ n
    go (inl low) = h k (pos 0) low
    go (inr high) = subst (λ (c : ℤ). unsigned_abs c ≤ n) (sym (get_or_past cs k (pos 0) high)) (omega arith)

pub zeros_more : (n : ℕ) → zeros n ++ pos 0 ∷ [] ≡ zeros (n + 1)
zeros_more n = go n ∙ ap zeros (next n)
  where
    next : (n : ℕ) → suc n ≡ n + 1
    next n = omega arith

    go : (n : ℕ) → zeros n ++ pos 0 ∷ [] ≡ zeros (suc n)
    go zero = refl
    go (suc n) = ap (λ (l : List ℤ). pos 0 ∷ l) (go n)

pub can_scale : (n : ℕ) (by : ℤ) (f : Form) → unsigned_abs by ≤ 1 → FormWithin n f → n < 2 ^ 110 → CanScale by f
can_scale n by f one (sides, constant) l = record {
  coefficients = λ k. let m = product_small n by (number k f.coefficients) one (number_small n f.coefficients k sides) in omega (arith, m, l);
  constant = let m = product_small n by f.constant one constant in omega (arith, m, l);
}

abs_sum : (a b : ℤ) (m n : ℕ) → unsigned_abs a ≤ m → unsigned_abs b ≤ n → unsigned_abs (a +ℤ b) ≤ m + n
abs_sum a b m n l k = omega (arith, ints)

pub can_add : (m n : ℕ) (a b : Form) → FormWithin m a → FormWithin n b → m + n < 2 ^ 110 → CanAdd a b
can_add m n a b (sides, constant) (others, other) l = record {
  coefficients = λ k. let h = abs_sum (number k a.coefficients) (number k b.coefficients) m n (number_small m a.coefficients k sides)
      (number_small n b.coefficients k others) in omega (arith, h, l);
  constant = let h = abs_sum a.constant b.constant m n constant other in omega (arith, h, l);
}

pub scaled_within : (n : ℕ) (by : ℤ) (f g : Form) → unsigned_abs by ≤ 1 → FormWithin n f → IsMultiple by f g → FormWithin n g
scaled_within n by f g one (sides, constant) is = (
  All-from_get_or (λ (c : ℤ). unsigned_abs c ≤ n) g.coefficients (pos 0) (λ k l. subst (λ (c : ℤ). unsigned_abs c ≤ n) (sym (is.coefficients k))
      (product_small n by (number k f.coefficients) one (number_small n f.coefficients k sides))),
  subst (λ (c : ℤ). unsigned_abs c ≤ n) (sym is.constant) (product_small n by f.constant one constant),
)

pub added_within : (m n : ℕ) (a b f : Form) → FormWithin m a → FormWithin n b → IsSum a b f → FormWithin (m + n) f
added_within m n a b f (sides, constant) (others, other) is = (
  All-from_get_or (λ (c : ℤ). unsigned_abs c ≤ m + n) f.coefficients (pos 0)
      (λ k l. subst (λ (c : ℤ). unsigned_abs c ≤ m + n) (sym (is.coefficients k)) (abs_sum (number k a.coefficients) (number k b.coefficients) m n
      (number_small m a.coefficients k sides) (number_small n b.coefficients k others))),
  subst (λ (c : ℤ). unsigned_abs c ≤ m + n) (sym is.constant) (abs_sum a.constant b.constant m n constant other),
)

-- WHERE BOTH REFERENCES ARE TRUE

pub form_shows : (s : System) (nodes : List Triple) (labels : List Labelled) (taken inside : ℕ) (numbers : List ℤ) (first column : ℕ) (f : Form) (z : ℤ)
    → IsSystem s → 0 < s.memories → length numbers ≡ s.memories → first ≤ column → column ≡ length numbers
    → ((k : ℕ) → first ≤ k → k < column → number k numbers ≡ pos 0) → IsMovedIn s nodes inside numbers first f → ShowForm nodes labels taken inside f z
    → HoldsAfter s nodes labels taken inside numbers z
form_shows s nodes labels taken inside numbers first column f z system some many l e none moved h v there on =
    shown_after s v numbers f (active nodes labels v) z system some
    (subst (λ (ns : List ℤ). IsMoved s v ns f) (take_all column numbers (omega (arith, e)))
    (moved_skip s v numbers first column f many l (omega (arith, e)) none (moved v on))) (h v there on)

pub shows_form : (s : System) (nodes : List Triple) (labels : List Labelled) (taken inside : ℕ) (numbers : List ℤ) (first column : ℕ) (f : Form) (z : ℤ)
    → length numbers ≡ s.memories → first ≤ column → column ≡ length numbers
    → ((k : ℕ) → first ≤ k → k < column → number k numbers ≡ pos 0) → IsMovedIn s nodes inside numbers first f
    → HoldsAfter s nodes labels taken inside numbers z → ShowForm nodes labels taken inside f z
shows_form s nodes labels taken inside numbers first column f z many l e none moved h v there on =
    after_shown s v numbers f (active nodes labels v) z
    (subst (λ (ns : List ℤ). IsMoved s v ns f) (take_all column numbers (omega (arith, e)))
    (moved_skip s v numbers first column f many l (omega (arith, e)) none (moved v on))) (h v there on)

-- one answer more
pub holds_up : (s : System) (nodes : List Triple) (labels : List Labelled) (taken inside : ℕ) (numbers : List ℤ) (answers : List ℕ) (n : ℕ) (a b : ℤ) → a ≤ℤ b
    → HoldsAmong s nodes labels taken inside numbers answers n a → HoldsAmong s nodes labels taken inside numbers answers n b
holds_up s nodes labels taken inside numbers answers n a b l h i low v there on here =
    after_up s v numbers (active nodes labels v) a b l (h i low v there on here)

-- the next answer, in a later store where `one` is where it is given and the reference true
pub answer_holds : (s : System) (old new : Diagrams) (labels : List Labelled) (taken inside one : ℕ) (numbers : List ℤ) (answers : List ℕ) (n : ℕ) (z : ℤ)
    → Extends old new → AreLabels old.nodes labels → IsRef old.nodes taken
    → ((v : Valuation) → value_of new.nodes one v ≡ (value_of old.nodes inside v && is_in old.nodes answers n v))
    → HoldsAfter s new.nodes labels taken one numbers z → (v : Valuation) → value_of old.nodes taken v ≡ true → value_of old.nodes inside v ≡ true
    → is_in old.nodes answers n v ≡ true
    → (row : Row) × IsSubstituted (bounded numbers z) (updates_of s v) row × ShowsAtOnce (active old.nodes labels v) row
answer_holds s old new labels taken inside one numbers answers n z e are found both h v there on here =
    let (row, sub, shows) = h v (e.kept taken (omega (arith, found)) v ∙ there)
    (both v ∙ and_from (value_of old.nodes inside v) (is_in old.nodes answers n v) on here) in
    (row, sub, subst (λ (rs : List Row). ShowsAtOnce rs row) (active_stays old new labels e are v) shows)

pub holds_answer : (s : System) (old new : Diagrams) (labels : List Labelled) (taken inside one : ℕ) (numbers : List ℤ) (answers : List ℕ) (n : ℕ) (z : ℤ)
    → Extends old new → AreLabels old.nodes labels → IsRef old.nodes taken
    → ((v : Valuation) → value_of new.nodes one v ≡ (value_of old.nodes inside v && is_in old.nodes answers n v))
    → ((v : Valuation) → value_of old.nodes taken v ≡ true → value_of old.nodes inside v ≡ true → is_in old.nodes answers n v ≡ true
    → (row : Row) × IsSubstituted (bounded numbers z) (updates_of s v) row × ShowsAtOnce (active old.nodes labels v) row)
    → HoldsAfter s new.nodes labels taken one numbers z
holds_answer s old new labels taken inside one numbers answers n z e are found both h v there on =
    let parts : (value_of old.nodes inside v ≡ true) × (is_in old.nodes answers n v ≡ true) = and_parts (value_of old.nodes inside v)
    (is_in old.nodes answers n v) (sym (both v) ∙ on) in
    let (row, sub, shows) = h v (sym (e.kept taken (omega (arith, found)) v) ∙ there) parts.0 parts.1 in
    (row, sub, subst (λ (rs : List Row). ShowsAtOnce rs row) (sym (active_stays old new labels e are v)) shows)

pub answers_risen : (s : System) (old new : Diagrams) (labels : List Labelled) (taken inside one : ℕ) (numbers : List ℤ) (answers : List ℕ) (n : ℕ)
    (thresholds : List ℤ) (limit held : ℤ) (next : Option ℤ) → Extends old new → AreLabels old.nodes labels → IsRef old.nodes taken
    → ((v : Valuation) → value_of new.nodes one v ≡ (value_of old.nodes inside v && is_in old.nodes answers n v))
    → IsRisen thresholds (HoldsAmong s old.nodes labels taken inside numbers answers n) (Some limit) (Some held)
    → IsRisen thresholds (HoldsAfter s new.nodes labels taken one numbers) (Some held) next
    → IsRisen thresholds (HoldsAmong s old.nodes labels taken inside numbers answers (n + 1)) (Some limit) next
answers_risen s old new labels taken inside one numbers answers n thresholds limit held next e are found both before step =
    risen_as thresholds (λ b. HoldsAmong s old.nodes labels taken inside numbers answers n b × HoldsAfter s new.nodes labels taken one numbers b)
    (HoldsAmong s old.nodes labels taken inside numbers answers (n + 1)) (Some limit) next
    (λ b (first, last) i low. go b first last i low (cases_lt i n))
    (λ b h. ((λ i low. h i (omega (arith, low))), holds_answer s old new labels taken inside one numbers answers n b e are found both (h n (omega arith))))
    (risen_both thresholds (HoldsAmong s old.nodes labels taken inside numbers answers n) (HoldsAfter s new.nodes labels taken one numbers) (Some limit)
    (Some held) next (λ a b l h. holds_up s old.nodes labels taken inside numbers answers n a b l h) before step)
  where
    go : (b : ℤ) → HoldsAmong s old.nodes labels taken inside numbers answers n b → HoldsAfter s new.nodes labels taken one numbers b → (i : ℕ) → i < n + 1
        → (i < n) ⊎ (n ≤ i) → (v : Valuation) → value_of old.nodes taken v ≡ true → value_of old.nodes inside v ≡ true
        → is_in old.nodes answers i v ≡ true
        → (row : Row) × IsSubstituted (bounded numbers b) (updates_of s v) row × ShowsAtOnce (active old.nodes labels v) row
    go b first last i low (inl less) = first i less
    go b first last i low (inr more) =
        let same : n ≡ i = omega (arith, low, more) in
        subst (λ (k : ℕ). (v : Valuation) → value_of old.nodes taken v ≡ true → value_of old.nodes inside v ≡ true → is_in old.nodes answers k v ≡ true
        → (row : Row) × IsSubstituted (bounded numbers b) (updates_of s v) row × ShowsAtOnce (active old.nodes labels v) row) same
        (answer_holds s old new labels taken inside one numbers answers n b e are found both last)

-- all answers
pub all_answers : (s : System) (nodes : List Triple) (labels : List Labelled) (taken inside : ℕ) (numbers : List ℤ) (answers : List ℕ) (n : ℕ) (z : ℤ)
    → AreAnswers nodes answers → n ≡ length answers → HoldsAmong s nodes labels taken inside numbers answers n z
    → HoldsAfter s nodes labels taken inside numbers z
all_answers s nodes labels taken inside numbers answers n z are e h v there on =
    let (i, low, here) = are.covered v in h i (omega (arith, low, e)) v there on here

pub each_answer : (s : System) (nodes : List Triple) (labels : List Labelled) (taken inside : ℕ) (numbers : List ℤ) (answers : List ℕ) (n : ℕ) (z : ℤ)
    → HoldsAfter s nodes labels taken inside numbers z → HoldsAmong s nodes labels taken inside numbers answers n z
each_answer s nodes labels taken inside numbers answers n z h i low v there on here = h v there on

-- the sum with one memory more, where its answer is given
pub moved_on : (s : System) (old : Diagrams) (q : Questions) (new : List Triple) (inside here first column place : ℕ) (side : List ℤ) (form other g : Form)
    (by : ℤ)
    → AreQuestions s old q → length side ≡ s.memories → column < length side → first ≤ column
    → ((k : ℕ) → first ≤ k → k < column → number k side ≡ pos 0) → number column side ≡ by → slice_get (forms_at q.forms column) place ≡ Some other
    → ((v : Valuation) → value_of new here v ≡ (value_of old.nodes inside v && is_in old.nodes (memory_answers q column) place v))
    → length g.coefficients ≡ length form.coefficients
    → ((v : Valuation) → value_of new here v ≡ true → (k : ℕ) → number k g.coefficients ≡ number k form.coefficients +ℤ (by *ℤ number k other.coefficients))
    → ((v : Valuation) → value_of new here v ≡ true → g.constant ≡ form.constant +ℤ (by *ℤ other.constant))
    → IsMovedIn s old.nodes inside side first form → IsMovedIn s new here side (column + 1) g
moved_on s old q new inside here first column place side form other g by asked many low l none is_by at both wide sides constant moved v on =
    let parts : (value_of old.nodes inside v ≡ true) × (is_in old.nodes (memory_answers q column) place v ≡ true) =
    and_parts (value_of old.nodes inside v) (is_in old.nodes (memory_answers q column) place v) (sym (both v) ∙ on) in
    moved_next s v side column by form other g many low is_by ((asked.updates column (omega (arith, low, many))).becomes place other v at parts.1) wide
    (sides v on) (constant v on) (moved_skip s v side first column form many l (omega (arith, low)) none (moved v parts.0))

-- a form whose answer is given somewhere
pub form_given : (s : System) (old : Diagrams) (q : Questions) (new : List Triple) (inside here column place : ℕ) (other form : Form) (v : Valuation)
    → IsSystem s
    → AreQuestions s old q → column < s.memories → slice_get (forms_at q.forms column) place ≡ Some other
    → ((w : Valuation) → value_of new here w ≡ (value_of old.nodes inside w && is_in old.nodes (memory_answers q column) place w))
    → length form.coefficients ≡ s.columns → value_of new here v ≡ true
    → FormWithin heaviest other × (length other.coefficients ≡ length form.coefficients)
form_given s old q new inside here column place other form v system asked low at both wide on =
    let parts : (value_of old.nodes inside v ≡ true) × (is_in old.nodes (memory_answers q column) place v ≡ true) =
    and_parts (value_of old.nodes inside v) (is_in old.nodes (memory_answers q column) place v) (sym (both v) ∙ on) in
    let becomes : s.update v column ≡ other = (asked.updates column low).becomes place other v at parts.1 in
    subst (λ (g : Form). FormWithin heaviest g × (length g.coefficients ≡ length form.coefficients)) becomes
    ((system.updates v column low).small, (system.updates v column low).wide ∙ sym wide)

-- an answer of a memory, and where it is given
pub answer_found : (s : System) (old : Diagrams) (q : Questions) (column place r : ℕ) → AreQuestions s old q → column < s.memories
    → slice_get (memory_answers q column) place ≡ Some r → IsRef old.nodes r
answer_found s old q column place r asked low at =
    subst (IsRef old.nodes) (get_or_from_slice_get (memory_answers q column) place r 0 at)
    ((asked.answers.one (length q.rows + column) (omega (arith, asked.answers.many, asked.many_memories, low))).found place
    (slice_get_within (memory_answers q column) place r at))

pub answer_both : (s : System) (old mid : Diagrams) (q : Questions) (new : List Triple) (inside here column place r : ℕ) → Extends old mid
    → AreQuestions s old q
    → column < s.memories → slice_get (memory_answers q column) place ≡ Some r → IsRef old.nodes inside
    → ((v : Valuation) → value_of new here v ≡ (value_of mid.nodes inside v && value_of mid.nodes r v))
    → (v : Valuation) → value_of new here v ≡ (value_of old.nodes inside v && is_in old.nodes (memory_answers q column) place v)
answer_both s old mid q new inside here column place r e asked low at found means v =
    means v ∙ ap (λ (x : Bool). x && value_of mid.nodes r v) (e.kept inside (omega (arith, found)) v)
    ∙ ap (λ (x : Bool). value_of old.nodes inside v && x)
    (e.kept r (let is = answer_found s old q column place r asked low at in omega (arith, is)) v)
    ∙ ap (λ (k : ℕ). value_of old.nodes inside v && value_of old.nodes k v) (sym (get_or_from_slice_get (memory_answers q column) place r 0 at))

pub answers_long : (s : System) (old : Diagrams) (q : Questions) (column : ℕ) → AreQuestions s old q → column < s.memories
    → length (memory_answers q column) ≡ length (forms_at q.forms column)
answers_long s old q column asked low = asked.answers.memories column (omega (arith, asked.many_memories, low))

pub zeros_within : (n : ℕ) (f : Form) → f ≡ record { coefficients = zeros n; constant = pos 0 } → FormWithin 0 f
zeros_within n f is = (
  All-from_get_or (λ (c : ℤ). unsigned_abs c ≤ 0) f.coefficients (pos 0)
      (λ k l. subst (λ (c : ℤ). unsigned_abs c ≤ 0) (sym (ap (λ (g : Form). number k g.coefficients) is ∙ zeros_at n k)) (omega arith)),
  subst (λ (c : ℤ). unsigned_abs c ≤ 0) (sym (ap (λ (g : Form). g.constant) is)) (omega arith),
)
