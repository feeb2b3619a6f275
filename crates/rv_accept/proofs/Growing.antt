-- Stores that grow, and sets that are gathered.
use Rattle.std.proofs.Common.{ℕ, ◌+◌, ◌<◌, ◌≤◌, ◌≡◌, ◌↔◌, ◌⊎◌, Bool, true, false, not, ◌&&◌, ◌||◌, List, [], ◌∷◌, length, refl, sym, ap, ◌∙◌, subst, ⊎_elim}
use Rattle.std.proofs.Common.{inl, inr, arith, Some, slice_get, Result, Ok, Err, IfOk, if◌then◌else◌}
use Rattle.std.proofs.lemmas.Bool.{cases_lt, or_cases, and_from, and_parts, or_left, or_right}
use Rattle.std.proofs.lemmas.Option.{same_Some}
use Rattle.rv_diagram.specs.Nodes.{Valuation, Diagrams, IsRef, Answers, choice, value_of}
use Rattle.rv_diagram.specs.Growing.{Extends}
use Rattle.rv_proofs.specs.{Scopes.IsIn, declared.certificate.Location.Location, declared.certificate.Entry.Entry}
use Rattle.rv_accept.specs.Steps.{has}
use Rattle.rv_base.proofs.Truths.{clash, of_not_true}

pub found_later : (a b : Diagrams) (r : ℕ) → Extends a b → IsRef a.nodes r → IsRef b.nodes r
found_later a b r e h = let k : length a.nodes ≤ length b.nodes = e.longer in omega arith

-- TRUTH VALUES

pub and_not : (x y z : Bool) → z ≡ (x && not y) → (z ≡ true) ↔ ((x ≡ true) × (y ≡ false))
and_not x y z e = (λ h. let p = and_parts x (not y) (sym e ∙ h) in (p.0, of_not_true y p.1), λ (a, b). e ∙ and_from x (not y) a (ap not b))

if_not : (x y z : Bool) → z ≡ false → (if y then z else x) ≡ (x && not y)
if_not true true z e = e
if_not false true z e = e
if_not true false z e = refl
if_not false false z e = refl

-- the choice of nothing where the second is true is the first without the second
pub cut_means : {E : Type 0} (o : Result ℕ E) (a b : Diagrams) (x y none : ℕ) → ((v : Valuation) → value_of a.nodes none v ≡ false)
    → IfOk o (λ r. Answers a b (choice a.nodes y none x) r)
    → IfOk o (λ r. (v : Valuation) → value_of b.nodes r v ≡ (value_of a.nodes x v && not (value_of a.nodes y v)))
cut_means (Err f) a b x y none off ok = ok
cut_means (Ok r) a b x y none off ok = λ v. ok.means v ∙ if_not (value_of a.nodes x v) (value_of a.nodes y v) (value_of a.nodes none v) (off v)

-- WHAT IS GATHERED

empty_or : {A : Type 0} (xs : List A) → (xs ≡ []) ⊎ (¬ (xs ≡ []))
empty_or [] = inl refl
empty_or (x ∷ xs) = inr (λ e. let n : length (x ∷ xs) ≡ 0 = ap (λ l. length l) e in absurd (omega arith))

abbrev pub Some-below : ℕ → (ℕ → Type 0) → Type 0
Some-below n P = (j : ℕ) × (j < n) × P j

pub some_none : (P : ℕ → Type 0) (x : Bool) → x ≡ false → (x ≡ true) ↔ Some-below 0 P
some_none P x e = (λ h. absurd (clash x h e), λ (j, low, h). absurd (omega (arith, low)))

pub some_more : (P : ℕ → Type 0) (x y z : Bool) (i : ℕ) → z ≡ (x || y) → (y ≡ true) ↔ P i → (x ≡ true) ↔ Some-below i P → (z ≡ true) ↔ Some-below (i + 1) P
some_more P x y z i e here before = (to, from)
  where
    to : z ≡ true → Some-below (i + 1) P
    to h = ⊎_elim (λ a. let (j, low, p) = before.0 a in (j, omega (arith, low), p)) (λ b. (i, omega arith, here.0 b)) (or_cases x y (sym e ∙ h))

    from : Some-below (i + 1) P → z ≡ true
    from (j, low, p) = e ∙ ⊎_elim (λ less. or_left x y (before.1 (j, less, p))) (λ ge. let same : j ≡ i = omega (arith, low) in or_right x y (here.1
        (subst P same p))) (cases_lt j i)

pub some_other : (P : ℕ → Type 0) (x z : Bool) (i : ℕ) → z ≡ x → ¬ P i → (x ≡ true) ↔ Some-below i P → (z ≡ true) ↔ Some-below (i + 1) P
some_other P x z i e none before = (
  λ h. let (j, low, p) = before.0 (sym e ∙ h) in (j, omega (arith, low), p),
  λ (j, low, p). e ∙ ⊎_elim (λ less. before.1 (j, less, p)) (λ ge. let same : j ≡ i = omega (arith, low) in absurd (none (subst P same p))) (cases_lt j i),
)

-- the valuation meets the condition of entry j
abbrev pub Met : List Entry → Valuation → ℕ → Type 0
Met entries v j = (e : Entry) × (slice_get entries j ≡ Some e) × IsIn e.condition v

pub met_here : (entries : List Entry) (v : Valuation) (j : ℕ) (e : Entry) → slice_get entries j ≡ Some e → IsIn e.condition v ↔ Met entries v j
met_here entries v j e at = (λ h. (e, at, h), λ (f, there, h). subst (λ (x : Entry). IsIn x.condition v) (same_Some f e (sym there ∙ at)) h)

-- location k has an empty `entry` and the control state
abbrev pub Entered : List Location → Valuation → ℕ → Type 0
Entered locations v k = (l : Location) × (slice_get locations k ≡ Some l) × (l.entry ≡ []) × IsIn l.control v

pub entered_here : (locations : List Location) (v : Valuation) (k : ℕ) (l : Location) → slice_get locations k ≡ Some l → l.entry ≡ []
    → IsIn l.control v ↔ Entered locations v k
entered_here locations v k l at empty = (
  λ h. (l, at, empty, h),
  λ (m, there, e, h). subst (λ (x : Location). IsIn x.control v) (same_Some m l (sym there
      ∙ at)) h,
)

pub not_entered : (locations : List Location) (v : Valuation) (k : ℕ) (l : Location) → slice_get locations k ≡ Some l → ¬ (l.entry ≡ [])
    → ¬ Entered locations v k
not_entered locations v k l at some (m, there, e, h) = some (subst (λ (x : Location). x.entry ≡ []) (same_Some m l (sym there ∙ at)) e)

-- what a location adds
pub entered_more : (locations : List Location) (v : Valuation) (k : ℕ) (l : Location) (x z : Bool) → slice_get locations k ≡ Some l
    → (l.entry ≡ [] → z ≡ (x || has l.control v)) → ((¬ (l.entry ≡ [])) → z ≡ x)
    → (x ≡ true) ↔ Some-below k (Entered locations v) → (z ≡ true) ↔ Some-below (k + 1) (Entered locations v)
entered_more locations v k l x z at empty other before = ⊎_elim
    (λ e. some_more (Entered locations v) x (has l.control v) z k (empty e) (entered_here locations v k l at e) before)
    (λ n. some_other (Entered locations v) x z k (other n) (not_entered locations v k l at n) before) (empty_or l.entry)
