-- The counter of nesting counts what the definition of nesting says.
use Rattle.std.proofs.Common.{◌≡◌, ℕ, ◌+◌, ◌≤◌, List, [], ◌∷◌, ◌++◌, refl, sym, ap, subst, arith}
use Rattle.std.specs.Prelude.{◌<◌}
use Rattle.rv_syntax.specs.Nesting.{Weight, Operator, Opening, Closing, Parting, Plain, Parts, weight, past, past_weight, nesting, limit, IsShallow}
use Rattle.rv_syntax.specs.{declared.token.Token.Token, Limited.Counts, Limited.counts, Limited.count}
use Rattle.rv_syntax.proofs.Shallow.{IsWithin, IsTooDeep}

abbrev savings : List ℕ → List ℕ
savings [] = []
savings (m ∷ ms) = nesting (m ∷ ms) ∷ savings ms

-- the counter where the innermost part has n operator tokens and the outer parts these
abbrev counted : ℕ → List ℕ → Counts
counted n ms = counts (nesting (n ∷ ms)) (savings ms)

abbrev Follows : Weight → ℕ → List ℕ → Type 0
Follows w n ms = (m : ℕ) × (more : List ℕ) × (past_weight w (n ∷ ms) ≡ m ∷ more) × (count w (counted n ms) ≡ counted m more)

-- an operator token is one more in the innermost part
one-more : (n : ℕ) (ms : List ℕ) → counts (nesting (n ∷ ms) + 1) (savings ms) ≡ counted (n + 1) ms
one-more n ms = ap (λ x. counts x (savings ms)) (omega arith)

opened : (n : ℕ) (ms : List ℕ) → counts (nesting (n ∷ ms) + 1) (nesting (n ∷ ms) ∷ savings ms) ≡ counted 0 (n ∷ ms)
opened n ms = ap (λ x. counts x (nesting (n ∷ ms) ∷ savings ms)) (omega arith)

follows-close : (n : ℕ) (ms : List ℕ) → Follows Closing n ms
follows-close n [] = (n, [], refl, refl)
follows-close n (m ∷ ms) = (m, ms, refl, refl)

follows-part : (n : ℕ) (ms : List ℕ) → Follows Parting n ms
follows-part n [] = (n, [], refl, refl)
follows-part n (m ∷ ms) = (0, m ∷ ms, refl, opened m ms)

follows : (w : Weight) (n : ℕ) (ms : List ℕ) → Follows w n ms
follows Operator n ms = (n + 1, ms, refl, one-more n ms)
follows Opening n ms = (0, n ∷ ms, refl, opened n ms)
follows Closing n ms = follows-close n ms
follows Parting n ms = follows-part n ms
follows Plain n ms = (n, ms, refl, refl)

within-from : (ts : List Token) (n : ℕ) (ms : List ℕ) → IsShallow (n ∷ ms) ts → IsWithin (counted n ms) ts
within-from [] n ms h = tt
within-from (t ∷ ts) n ms h =
    let f = follows (weight t) n ms in (
      subst (λ c. c.now ≤ limit) (sym f.3) (subst (λ p. nesting p ≤ limit) f.2 h.0),
      subst (λ c. IsWithin c ts) (sym f.3) (within-from ts f.0 f.1 (subst (λ p. IsShallow p ts) f.2 h.1)),
    )

shallow-from : (ts : List Token) (n : ℕ) (ms : List ℕ) → IsWithin (counted n ms) ts → IsShallow (n ∷ ms) ts
shallow-from [] n ms h = tt
shallow-from (t ∷ ts) n ms h =
    let f = follows (weight t) n ms in (
      subst (λ p. nesting p ≤ limit) (sym f.2) (subst (λ c. c.now ≤ limit) f.3 h.0),
      subst (λ p. IsShallow p ts) (sym f.2) (shallow-from ts f.0 f.1 (subst (λ c. IsWithin c ts) f.3 h.1)),
    )

pub from-shallow : (ts : List Token) → IsShallow (0 ∷ []) ts → IsWithin (counts 0 []) ts
from-shallow ts h = within-from ts 0 [] h

pub to-shallow : (ts : List Token) → IsWithin (counts 0 []) ts → IsShallow (0 ∷ []) ts
to-shallow ts h = shallow-from ts 0 [] h

-- the parts behind some tokens
abbrev pub past_all : List Token → Parts → Parts
past_all [] ns = ns
past_all (t ∷ ts) ns = past_all ts (past t ns)

deep-from : (front : List Token) (t : Token) (n : ℕ) (ms : List ℕ) → IsTooDeep (counted n ms) front t → limit < nesting (past_all (front ++ t ∷ []) (n ∷ ms))
deep-from [] t n ms h =
    let f = follows (weight t) n ms in
    subst (λ p. limit < nesting p) (sym f.2) (subst (λ c. limit < c.now) f.3 h)
deep-from (x ∷ front) t n ms h =
    let f = follows (weight x) n ms in
    subst (λ p. limit < nesting (past_all (front ++ t ∷ []) p)) (sym f.2) (deep-from front t f.0 f.1 (subst (λ c. IsTooDeep c front t) f.3 h.1))

pub to-deep : (front : List Token) (t : Token) → IsTooDeep (counts 0 []) front t → limit < nesting (past_all (front ++ t ∷ []) (0 ∷ []))
to-deep front t h = deep-from front t 0 [] h
