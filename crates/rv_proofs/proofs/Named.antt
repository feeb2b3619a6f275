-- Multipliers look at the premises that they name alone.
use Rattle.std.proofs.Common.{◌≡◌, ℕ, zero, suc, ◌-◌, ◌<◌, ◌≤◌, ℤ, pos, List, [], ◌∷◌, ◌++◌, length, get_or, All, Option, Some, None, arith, refl, ap, sym, ◌∙◌}
use Rattle.std.proofs.Common.{◌⊎◌, inl, inr, unwrap_or}
use Rattle.std.proofs.lemmas.List.{get_or_append_left, get_or-append_right, get_or_push, length_push}
use Rattle.std.proofs.lemmas.List.Elements.{All-head, All-tail, All-append, All-push, All-nil, Contains-get_or}
use Rattle.std.proofs.{lemmas.Bool.cases_lt, lemmas.Int.ints}
use Rattle.rv_diagram.specs.Nodes.{Valuation}
use Rattle.rv_rows.specs.{declared.linear.Row.Row, declared.farkas.Weight.Weight, declared.farkas.Multipliers.Multipliers, Rows.Holds, Rows.coefficient}
use Rattle.rv_rows.specs.{Rows.row_at, Multipliers.weighted, Multipliers.Proves, Multipliers.Refutes}
use Rattle.rv_rows.proofs.RowLemmas.{proves_sound, refutes_sound}
use Rattle.rv_proofs.specs.{Systems.System, Systems.Agrees, Runs.AllHold, Scopes.IsInScope, Scopes.Implication, Scopes.NamesTest, Implied.AreTestRows}
use Rattle.rv_proofs.specs.{declared.certificate.Location.Location, declared.certificate.Entry.Entry}

-- the weights name the same rows in both lists
abbrev pub NameSame : List Row → List Row → List Weight → Type 0
NameSame p q ws = All (λ w. row_at p w.premise ≡ row_at q w.premise) ws

pub weighted-named : (f : Row → ℤ) (p q : List Row) (ws : List Weight) → NameSame p q ws → weighted f p ws ≡ weighted f q ws
weighted-named f p q [] h = refl
weighted-named f p q (w ∷ ws) h =
    let here : row_at p w.premise ≡ row_at q w.premise = All-head (λ u. row_at p u.premise ≡ row_at q u.premise) w ws h in
    let rest = weighted-named f p q ws (All-tail (λ u. row_at p u.premise ≡ row_at q u.premise) w ws h) in
    rw (here, rest) refl

pub Proves-named : (p q : List Row) (r : Row) (m : Multipliers) → NameSame p q m.weights → Proves p r m → Proves q r m
Proves-named p q r m h k = record {
  positive = k.positive;
  none_negative = k.none_negative;
  sides = λ n. sym (weighted-named (coefficient n) p q m.weights h) ∙ k.sides n;
  bounds = let b = k.bounds in rw (weighted-named (λ u. u.bound) p q m.weights h) at b;
}

pub Refutes-named : (p q : List Row) (m : Multipliers) → NameSame p q m.weights → Refutes p m → Refutes q m
Refutes-named p q m h k = record {
  divisor = k.divisor;
  none_negative = k.none_negative;
  sides = λ n. sym (weighted-named (coefficient n) p q m.weights h) ∙ k.sides n;
  bounds = let b = k.bounds in rw (weighted-named (λ u. u.bound) p q m.weights h) at b;
}

-- the rows of the first n tests, `0 <= 0` for those that are absent
abbrev nothing : Row
nothing = record { coefficients = []; bound = pos 0 }

abbrev pub held : System → Valuation → ℕ → List Row
held s v zero = []
held s v (suc n) = held s v n ++ unwrap_or (s.row v n) nothing ∷ []

held-length : (s : System) (v : Valuation) (n : ℕ) → length (held s v n) ≡ n
held-length s v zero = refl
held-length s v (suc n) = omega (arith, length_push (held s v n) (unwrap_or (s.row v n) nothing), held-length s v n)

held-at : (s : System) (v : Valuation) (n t : ℕ) → t < n → get_or (held s v n) t nothing ≡ unwrap_or (s.row v t) nothing
held-at s v zero t h = absurd (omega arith)
held-at s v (suc n) t h = go (held-at s v n t) (cases_lt t n)
  where
    go : (t < n → get_or (held s v n) t nothing ≡ unwrap_or (s.row v t) nothing) → (t < n) ⊎ (n ≤ t)
        → get_or (held s v (suc n)) t nothing ≡ unwrap_or (s.row v t) nothing
    go before (inl l) = get_or_append_left (held s v n) (unwrap_or (s.row v n) nothing ∷ []) nothing t (omega (arith, held-length s v n)) ∙ before l
    go before (inr l) = let e : t ≡ n = omega arith in rw e (get_or_push (held s v n) (unwrap_or (s.row v n) nothing) nothing n (held-length s v n))

nothing-holds : (point : List ℤ) → Holds nothing point
nothing-holds point = omega (arith, ints)

held-all : (s : System) (v : Valuation) (point : List ℤ) → Agrees s v point → (n : ℕ) → n ≤ s.tests → AllHold (held s v n) point
held-all s v point a zero h = All-nil (λ r. Holds r point)
held-all s v point a (suc n) h = All-push (λ r. Holds r point) (held s v n) (unwrap_or (s.row v n) nothing) (held-all s v point a n (omega arith))
    (go (s.row v n) refl)
  where
    go : (o : Option Row) → s.row v n ≡ o → Holds (unwrap_or o nothing) point
    go None e = nothing-holds point
    go (Some r) e = a.rows n r (omega arith) e

-- the premises of an implication and those that hold at a point, where the multipliers name them
module _ (s : System) (l : Location) (e : Entry) (i : Implication) (rows : List Row) (v : Valuation)
    (are : AreTestRows s l e i rows) (scope : IsInScope s l e v) where
  name_same : NameSame (i.given ++ rows) (i.given ++ held s v s.tests) i.by.weights
  name_same k d h = go (cases_lt (get_or i.by.weights k d).premise (length i.given))
    where
      go : ((get_or i.by.weights k d).premise < length i.given) ⊎ (length i.given ≤ (get_or i.by.weights k d).premise)
          → row_at (i.given ++ rows) (get_or i.by.weights k d).premise ≡ row_at (i.given ++ held s v s.tests) (get_or i.by.weights k d).premise
      go (inl less) =
          get_or_append_left i.given rows nothing (get_or i.by.weights k d).premise less
          ∙ sym (get_or_append_left i.given (held s v s.tests) nothing (get_or i.by.weights k d).premise less)
      go (inr more) =
          let t : ℕ = (get_or i.by.weights k d).premise - length i.given in
          let named : NamesTest i t = (get_or i.by.weights k d, Contains-get_or i.by.weights k d h, omega arith) in
          let settled = are.settled t named in
          let here : s.row v t ≡ Some (row_at rows t) = settled.same v scope in
          let known : t < s.tests = settled.known in
          get_or-append_right i.given rows (length i.given) (get_or i.by.weights k d).premise nothing refl more
          ∙ sym (ap (λ o. unwrap_or o nothing) here)
          ∙ sym (held-at s v s.tests t known)
          ∙ sym (get_or-append_right i.given (held s v s.tests) (length i.given) (get_or i.by.weights k d).premise nothing refl more)

  module _ (point : List ℤ) (a : Agrees s v point) (given : AllHold i.given point) where
    premises-hold : AllHold (i.given ++ held s v s.tests) point
    premises-hold = All-append (λ r. Holds r point) i.given (held s v s.tests) given (held-all s v point a s.tests (omega arith))

    pub proved-holds : (r : Row) → Proves (i.given ++ rows) r i.by → Holds r point
    proved-holds r p = proves_sound (i.given ++ held s v s.tests) r i.by (Proves-named _ _ r i.by name_same p) point premises-hold

    pub refuted-none : Refutes (i.given ++ rows) i.by → ⊥
    refuted-none p = refutes_sound (i.given ++ held s v s.tests) i.by (Refutes-named _ _ i.by name_same p) point premises-hold
