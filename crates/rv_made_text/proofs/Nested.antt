-- The nesting of a made source is shallow: each equation begins and ends outside expressions.
use Rattle.std.proofs.Common.{◌≡◌, ℕ, zero, suc, ◌&&◌, Bool, true, List, [], ◌∷◌, ◌++◌, refl, sym, ap, ◌∙◌, subst}
use Rattle.std.proofs.lemmas.Bool.{and_parts, leb-true}
use Rattle.std.specs.Prelude.{codes, nat_le}
use Rattle.rv_syntax.specs.declared.token.Token.{Token}
use Rattle.rv_syntax.specs.Nesting.{Standing, Outside, behind, behind_all, depth, limit, IsShallowText}
use Rattle.rv_made_text.proofs.Tokens.{named, declared_end, declaration_tokens, declared_tokens, local_tokens, call_tokens, call_at, calls_tokens, front_tokens}
use Rattle.rv_made_text.proofs.Tokens.{seen_tokens, calls_at, ok_at, ok_tokens, made_tokens}

-- the same, as a test
abbrev is_shallow : Standing → List Token → Bool
is_shallow s [] = true
is_shallow s (t ∷ ts) = nat_le (depth (behind t s)) limit && is_shallow (behind t s) ts

tested : (s : Standing) (ts : List Token) → is_shallow s ts ≡ true → IsShallowText s ts
tested s [] h = tt
tested s (t ∷ ts) h =
    let both = and_parts (nat_le (depth (behind t s)) limit) (is_shallow (behind t s) ts) h in
    (leb-true (depth (behind t s)) limit both.0, tested (behind t s) ts both.1)

-- tokens that are shallow and leave one outside expressions, where one was
abbrev Closes : List Token → Type 0
Closes ts = IsShallowText Outside ts × (behind_all ts Outside ≡ Outside)

shallow-both : (s : Standing) (ts us : List Token) → IsShallowText s ts → IsShallowText (behind_all ts s) us → IsShallowText s (ts ++ us)
shallow-both s [] us h k = k
shallow-both s (t ∷ ts) us h k = (h.0, shallow-both (behind t s) ts us h.1 k)

behind-both : (s : Standing) (ts us : List Token) → behind_all (ts ++ us) s ≡ behind_all us (behind_all ts s)
behind-both s [] us = refl
behind-both s (t ∷ ts) us = behind-both (behind t s) ts us

closes-both : (ts us : List Token) → Closes ts → Closes us → Closes (ts ++ us)
closes-both ts us h k = (
  shallow-both Outside ts us h.0 (subst (λ s. IsShallowText s us) (sym h.1) k.0),
  behind-both Outside ts us ∙ ap (behind_all us) h.1 ∙ k.1,
)

declared-closes : (n : ℕ) → Closes (declared_tokens n)
declared-closes zero = (tt, refl)
declared-closes (suc n) = closes-both (declared_tokens n) (declaration_tokens n) (declared-closes n) (tested Outside (declaration_tokens n) refl, refl)

local-closes : (n : ℕ) → Closes (local_tokens n)
local-closes n =
    let first : List Token = named (codes "seen") 111 ∷ [] in
    closes-both first (declared_tokens n) (tested Outside first refl, refl) (declared-closes n)

calls-close : (at n : ℕ) → Closes (calls_tokens at n)
calls-close at zero = (tt, refl)
calls-close at (suc n) =
    closes-both (calls_tokens at n) (call_tokens (call_at at n) n) (calls-close at n) (tested Outside (call_tokens (call_at at n) n) refl, refl)

pub made-shallow : (n : ℕ) → IsShallowText Outside (made_tokens n)
made-shallow n =
    let seen : List Token = seen_tokens (declared_end n) in
    let calls : List Token = calls_tokens (calls_at n) n in
    let ok : List Token = ok_tokens (ok_at n) n in
    (closes-both front_tokens (local_tokens n ++ (seen ++ (calls ++ ok))) (tested Outside front_tokens refl, refl)
    (closes-both (local_tokens n) (seen ++ (calls ++ ok)) (local-closes n)
    (closes-both seen (calls ++ ok) (tested Outside seen refl, refl)
    (closes-both calls ok (calls-close (calls_at n) n) (tested Outside ok refl, refl))))).0
