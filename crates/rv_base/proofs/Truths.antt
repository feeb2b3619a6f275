-- Truth values: what a conjunction, a disjunction and a choice say of their parts.
use Rattle.std.proofs.Common.{◌≡◌, ◌⊎◌, Bool, true, false, ◌||◌, refl, inl, inr, sym, ℕ, ◌<◌, nat_lt, arith, ◌≤◌, cond}
use Rattle.std.proofs.lemmas.Bool.Decides.{nat_tests}
use Rattle.std.specs.Prelude.{not, ◌&&◌, if◌then◌else◌}

pub clash : (b : Bool) → b ≡ true → b ≡ false → ⊥
clash b e f = cc

pub either_then : (a b : Bool) → (a || b) ≡ true → (a ≡ true) ⊎ ((a ≡ false) × (b ≡ true))
either_then true b e = inl refl
either_then false b e = inr (refl, e)

pub both_of : (a b : Bool) → (a && b) ≡ true → (a ≡ true) × (b ≡ true)
both_of true b e = (refl, e)
both_of false b e = cc

pub all_three : (a b c : Bool) → a ≡ true → b ≡ true → c ≡ true → (a && (b && c)) ≡ true
all_three true true true p q r = refl
all_three true true false p q r = r
all_three true false c p q r = q
all_three false b c p q r = p

pub of_not_false : (b : Bool) → not b ≡ false → b ≡ true
of_not_false true e = refl
of_not_false false e = cc

pub covered : (a b : Bool) → (a && not b) ≡ false → b ≡ (a || b)
covered true true e = refl
covered true false e = cc
covered false b e = refl

pub none_new : (a b : Bool) → (a ≡ true → b ≡ true) → (a && not b) ≡ false
none_new true true h = refl
none_new true false h = let e : false ≡ true = h refl in cc
none_new false b h = refl

pub or_true : (b : Bool) → (b || true) ≡ true
or_true true = refl
or_true false = refl

pub of_not_true : (b : Bool) → not b ≡ true → b ≡ false
of_not_true true e = sym e
of_not_true false e = refl

pub less_told : (m n : ℕ) → m < n → nat_lt m n ≡ true
less_told m n lt = grind (arith, nat_tests, lt)

pub and_false : (b : Bool) → (b && false) ≡ false
and_false true = refl
and_false false = refl

pub and_first : (a b : Bool) → (a && b) ≡ true → a ≡ true
and_first true b e = refl
and_first false b e = e

pub and_second : (a b : Bool) → (a && b) ≡ true → b ≡ true
and_second true b e = e
and_second false b e = cc

pub or_false_is : (b c : Bool) → c ≡ false → b ≡ (b || c)
or_false_is true c e = refl
or_false_is false c e = sym e

pub or_false : (a : Bool) → (a || false) ≡ a
or_false true = refl
or_false false = refl

-- nothing where the second is true, else the first
pub without_is : (a b n : Bool) → n ≡ false → (if b then n else a) ≡ (a && not b)
without_is true true n is = is
without_is false true n is = is
without_is true false n is = refl
without_is false false n is = refl

pub or_assoc : (a b c : Bool) → ((a || b) || c) ≡ (a || (b || c))
or_assoc true b c = refl
or_assoc false b c = refl

pub bit_most : (b : Bool) → cond b 1 0 ≤ 1
bit_most true = omega arith
bit_most false = omega arith

pub bits_within : (a b : Bool) → (a ≡ true → b ≡ true) → cond a 1 0 ≤ cond b 1 0
bits_within true true h = omega arith
bits_within true false h = let e : false ≡ true = h refl in cc
bits_within false true h = omega arith
bits_within false false h = omega arith

pub and_assoc : (a b c : Bool) → ((a && b) && c) ≡ (a && (b && c))
and_assoc true b c = refl
and_assoc false b c = refl
