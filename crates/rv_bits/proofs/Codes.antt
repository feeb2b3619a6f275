-- Numbers and their bits.
use Rattle.std.proofs.Common.{◌≡◌, ◌⊎◌, ℕ, zero, suc, ◌+◌, ◌*◌, ◌/◌, ◌%◌, ◌^◌, ◌<◌, ◌≤◌, Bool, true, false, ◌&&◌, ◌||◌, cond, nat_eq, nat_le, nat_lt, refl, sym}
use Rattle.std.proofs.Common.{◌∙◌, ap, subst, arith, add_comm, inl, inr}
use Rattle.std.proofs.lemmas.Bool.{leb-true, le-leb, ltb-true, lt-ltb, eqb-true, eqb-false, eq-eqb, ne_eqb, cases_Bool, cases_lt, and_parts, and_from}
use Rattle.std.proofs.{Math.Nat.pow-succ', Math.Nat.mod-eq_of_lt, Math.Nat.eq-or-lt_of_le, Math.Arith.mod-mul, lemmas.Nat.pow_pos, lemmas.Nat.Bits.bit_at-lt}
use Rattle.std.proofs.{lemmas.Nat.Bits.bit_at_above, lemmas.Nat.Bits.same_from_bits}
use Rattle.std.specs.Int.{bit_at}
use Rattle.rv_types.specs.Variables.{bits_for}
use Rattle.rv_meaning.specs.Codes.{code}
use Rattle.rv_bits.specs.Bits.{bit_of, is_same, are_same}
use Rattle.rv_agreement.proofs.Spelled.{below_power, code_below, code_bits, enough, one_bit}
use Rattle.rv_diagram.proofs.Several.{same_truth}

le_alike : (a b c d : ℕ) → (a ≤ b → c ≤ d) → (c ≤ d → a ≤ b) → nat_le a b ≡ nat_le c d
le_alike a b c d f g = same_truth (nat_le a b) (nat_le c d) (λ e. le-leb c d (f (leb-true a b e))) (λ e. le-leb a b (g (leb-true c d e)))

-- the first bits of a number spell what is left of it
pub code_of_bits : (n l : ℕ) → code n (bit_of l) ≡ l % 2 ^ n
code_of_bits zero l = omega arith
code_of_bits (suc n) l =
    let rest = code_of_bits n l in
    let bit = one_bit (bit_at l n) (2 ^ n) (bit_at-lt l n) in
    let two : 0 < 2 = omega arith in
    let whole : l % (2 * 2 ^ n) ≡ (l / 2 ^ n % 2) * 2 ^ n + l % 2 ^ n = mod-mul l two (pow_pos n) in
    let parts : l % 2 ^ suc n ≡ (l / 2 ^ n % 2) * 2 ^ n + l % 2 ^ n = ap (λ m. l % m) (pow-succ' 2 n) ∙ whole in
    (λ i. rest i + bit i) ∙ add_comm (l % 2 ^ n) (bit_at l n * 2 ^ n) ∙ sym parts

-- each label has a code
pub label_coded : (count l : ℕ) → l < count → code (bits_for count) (bit_of l) ≡ l
label_coded count l lt =
    let whole : count ≤ 2 ^ (0 + count) = let same : count ≡ 0 + count = omega arith in subst (λ n. count ≤ 2 ^ n) same (below_power count) in
    let le = enough count 0 count whole in
    let within : l < 2 ^ bits_for count = omega arith in
    code_of_bits (bits_for count) l ∙ mod-eq_of_lt within

-- the bits of a code
pub bit_of_code : (n : ℕ) (f : ℕ → Bool) (b : ℕ) → b < n → bit_of (code n f) b ≡ f b
bit_of_code n f b lt = code_bits n (bit_of (code n f)) f (code_of_bits n (code n f) ∙ mod-eq_of_lt (code_below n f)) b lt

-- a number below a power of two has no bit from there on
pub bit_past : (l n b : ℕ) → l < 2 ^ n → n ≤ b → bit_of l b ≡ false
bit_past l n b small le = ap (λ k. nat_eq k 1) (bit_at_above l n b small le)

-- Numbers are equal where all their bits are.

bit_from : (l m b : ℕ) → bit_of l b ≡ bit_of m b → bit_at l b ≡ bit_at m b
bit_from l m b e = by (cases_Bool (bit_of l b))
  where
    by : (bit_of l b ≡ true) ⊎ (bit_of l b ≡ false) → bit_at l b ≡ bit_at m b
    by (inl on) =
        let p : bit_at l b ≡ 1 = eqb-true (bit_at l b) 1 on in
        let q : bit_at m b ≡ 1 = eqb-true (bit_at m b) 1 (sym e ∙ on) in
        p ∙ sym q
    by (inr off) =
        let p : bit_at l b ≡ 1 → ⊥ = eqb-false (bit_at l b) 1 off in
        let q : bit_at m b ≡ 1 → ⊥ = eqb-false (bit_at m b) 1 (sym e ∙ off) in
        let s : bit_at l b < 2 = bit_at-lt l b in
        let t : bit_at m b < 2 = bit_at-lt m b in
        let zero_left : bit_at l b ≡ 0 = by_two (bit_at l b) s p in
        zero_left ∙ sym (by_two (bit_at m b) t q)
      where
        by_two : (n : ℕ) → n < 2 → (n ≡ 1 → ⊥) → n ≡ 0
        by_two zero lt ne = refl
        by_two (suc zero) lt ne = absurd (ne (omega arith))
        by_two (suc (suc n)) lt ne = absurd (omega arith)

same_from : (a b : Bool) → is_same a b ≡ true → a ≡ b
same_from true true e = refl
same_from true false e = sym e
same_from false true e = e
same_from false false e = refl

same_to : (a b : Bool) → a ≡ b → is_same a b ≡ true
same_to true true e = refl
same_to true false e = sym e
same_to false true e = e
same_to false false e = refl

are_same_from : (n : ℕ) (f g : ℕ → Bool) → are_same n f g ≡ true → (b : ℕ) → b < n → f b ≡ g b
are_same_from zero f g e b lt = absurd (omega arith)
are_same_from (suc n) f g e b lt =
    let parts = and_parts (are_same n f g) (is_same (f n) (g n)) e in
    elim (eq-or-lt_of_le {n = b} {m = n} (omega arith)) [
      | inl same ↦ subst (λ j. f j ≡ g j) (sym same) (same_from (f n) (g n) parts.1)
      | inr below ↦ are_same_from n f g parts.0 b below
    ]

are_same_to : (n : ℕ) (f g : ℕ → Bool) → ((b : ℕ) → b < n → f b ≡ g b) → are_same n f g ≡ true
are_same_to zero f g same = refl
are_same_to (suc n) f g same = and_from (are_same n f g) (is_same (f n) (g n)) (are_same_to n f g (λ b lt. same b (omega arith)))
    (same_to (f n) (g n) (same n (omega arith)))

-- two numbers by their bits, of which those from n on are false
pub same_numbers : (n l m : ℕ) (f g : ℕ → Bool) → ((b : ℕ) → f b ≡ bit_of l b) → ((b : ℕ) → g b ≡ bit_of m b) → ((b : ℕ) → n ≤ b → f b ≡ false)
    → ((b : ℕ) → n ≤ b → g b ≡ false)
    → are_same n f g ≡ nat_eq l m
same_numbers n l m f g left right none_left none_right = same_truth (are_same n f g) (nat_eq l m)
    (λ e. eq-eqb l m (same_from_bits l m (λ b. bit_from l m b (sym (left b) ∙ at (are_same_from n f g e) b ∙ right b))))
    (λ e. are_same_to n f g (λ b lt. left b ∙ ap (λ k. bit_of k b) (eqb-true l m e) ∙ sym (right b)))
  where
    at : ((b : ℕ) → b < n → f b ≡ g b) → (b : ℕ) → f b ≡ g b
    at below b = elim (cases_lt b n) [ inl lt ↦ below b lt | inr le ↦ none_left b le ∙ sym (none_right b le) ]

-- COMPARING

-- codes of one bit more
pub code_within : (n : ℕ) (f g : ℕ → Bool) → cond (f n) (g n && nat_le (code n f) (code n g)) (g n || nat_le (code n f) (code n g)) ≡ nat_le (code (suc n) f)
    (code (suc n) g)
code_within n f g = by (f n) (g n) (code_below n f) (code_below n g)
  where
    by : (p q : Bool) → code n f < 2 ^ n → code n g < 2 ^ n
        → cond p (q && nat_le (code n f) (code n g)) (q || nat_le (code n f) (code n g)) ≡ nat_le (code n f + cond p (2 ^ n) 0) (code n g + cond q (2 ^ n) 0)
    by true true l m = le_alike (code n f) (code n g) (code n f + 2 ^ n) (code n g + 2 ^ n) (λ h. omega arith) (λ h. omega arith)
    by true false l m = same_truth false (nat_le (code n f + 2 ^ n) (code n g + 0)) (λ e. let bad : false ≡ true = e in absurd (grind arith))
        (λ e. let h : code n f + 2 ^ n ≤ code n g + 0 = leb-true (code n f + 2 ^ n) (code n g + 0) e in absurd (omega arith))
    by false true l m = sym (le-leb (code n f + 0) (code n g + 2 ^ n) (omega arith))
    by false false l m = le_alike (code n f) (code n g) (code n f + 0) (code n g + 0) (λ h. omega arith) (λ h. omega arith)

-- at most the last label is below the number of labels
pub within_below : (a last count : ℕ) → count ≡ last + 1 → nat_le a last ≡ nat_lt a count
within_below a last count e = same_truth (nat_le a last) (nat_lt a count)
    (λ h. let le : a ≤ last = leb-true a last h in lt-ltb a count (omega arith))
    (λ h. let lt : a < count = ltb-true a count h in le-leb a last (omega arith))

-- COUNTING

-- one more: none where there were none, and one at the most where there were none, or no more than one and this is not true
pub none_more : (count : ℕ) (b : Bool) → cond b false (nat_eq count 0) ≡ nat_eq (count + cond b 1 0) 0
none_more count true = sym (ne_eqb (count + 1) 0 (λ e. omega arith))
none_more count false = let e : count ≡ count + 0 = omega arith in ap (λ n. nat_eq n 0) e

pub most_more : (count : ℕ) (b : Bool) → cond b (nat_eq count 0) (nat_le count 1) ≡ nat_le (count + cond b 1 0) 1
most_more count true = same_truth (nat_eq count 0) (nat_le (count + 1) 1)
    (λ e. let h : count ≡ 0 = eqb-true count 0 e in le-leb (count + 1) 1 (omega arith))
    (λ e. let h : count + 1 ≤ 1 = leb-true (count + 1) 1 e in eq-eqb count 0 (omega arith))
most_more count false = let e : count ≡ count + 0 = omega arith in ap (λ n. nat_le n 1) e
