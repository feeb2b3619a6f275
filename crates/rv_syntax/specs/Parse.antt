-- Readers of tokens, and how rules are read: each gives a value and the tokens after it, or why it stops and the
-- tokens from the first one on that it stops at.
use Rattle.std.specs.Prelude.{ℕ, zero, suc, Bool, false, cond, List, [], ◌∷◌, length, Option, Some, None, Result, Ok, Err}
use Rattle.rv_syntax.specs.{declared.fault.Why.Why, declared.fault.Why.TheVariants.Offends, declared.token.Token.Token}

abbrev pub Reading : Type 0 → Type 0
Reading A = Result (A × List Token) (Why × List Token)

abbrev pub Parse : Type 0 → Type 0
Parse A = List Token → Reading A

abbrev pub bind : {A B : Type 0} → Reading A → (A → Parse B) → Reading B
bind (Ok x) f = f x.0 x.1
bind (Err e) f = Err e

abbrev pub then : {A B : Type 0} → Parse A → (A → Parse B) → Parse B
then p f ts = bind (p ts) f

abbrev pub done : {A : Type 0} → A → Parse A
done a ts = Ok (a, ts)

abbrev pub stop : {A : Type 0} → Parse A
stop ts = Err (Offends, ts)

abbrev pub one_of : {A : Type 0} → Option A → Token → List Token → Reading A
one_of (Some a) t ts = Ok (a, ts)
one_of None t ts = Err (Offends, t ∷ ts)

-- one token
abbrev pub one : {A : Type 0} → (Token → Option A) → Parse A
one f [] = Err (Offends, [])
one f (t ∷ ts) = one_of (f t) t ts

abbrev pub starts : (Token → Bool) → List Token → Bool
starts test [] = false
starts test (t ∷ ts) = test t

abbrev pub choose : {A : Type 0} → (Token → Bool) → Parse A → Parse A → Parse A
choose test p q ts = cond (starts test ts) (p ts) (q ts)

-- what comes after a turn of a loop, which gave a value or ends the loop
abbrev pub after_turn : {A : Type 0} → Parse (List A) → Option A → Parse (List A)
after_turn p None = done []
after_turn p (Some a) = then p (λ more. done (a ∷ more))

-- turns as long as there is a token to begin with, at most so many
unfoldable pub turns : {A : Type 0} → (Token → Bool) → Parse (Option A) → ℕ → Parse (List A)
turns test p zero = stop
turns test p (suc n) = choose test (then p (after_turn (turns test p n))) (done [])

-- turns as long as there is a token to begin with, up to one that gives nothing
abbrev pub loop : {A : Type 0} → (Token → Bool) → Parse (Option A) → Parse (List A)
loop test p ts = turns test p (suc (length ts)) ts

abbrev pub found : {A : Type 0} → Parse A → Parse (Option A)
found p = then p (λ a. done (Some a))

-- as long as there is a token to begin with
abbrev pub many : {A : Type 0} → (Token → Bool) → Parse A → Parse (List A)
many test p = loop test (found p)

-- one, where there is a token to begin with
abbrev pub maybe : {A : Type 0} → (Token → Bool) → Parse A → Parse (Option A)
maybe test p = choose test (found p) (done None)
