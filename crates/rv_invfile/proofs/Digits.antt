-- What each digit passes, and the signs between them, the texts of numbers and places pass.
use Rattle.std.proofs.Common.{◌≡◌, ◌+◌, ◌<◌, ℕ, zero, suc, Bool, true, false, cond, List, [], ◌∷◌, ◌++◌, refl, ap, ◌∙◌, arith}
use Rattle.std.proofs.lemmas.Bool.{lt-ltb}
use Rattle.std.specs.Prelude.{◌&&◌, ◌/◌, ◌%◌, ◌==◌, ℤ, pos, negsuc, decimal, flat_map, if◌then◌else◌}
use Rattle.std.specs.{List.list_all, Fmt.digits, Fmt.digits_onto, Fmt.digit_glyph, Fmt.signed_decimal}
use Rattle.rv_invfile.specs.Texts.{dotted}
use Rattle.rv_base.proofs.Truths.{and_first, and_second}

glyph : (d : ℕ) → d < 10 → digit_glyph false d ≡ 48 + d
glyph d h = ap (λ b. cond b (48 + d) (87 + d)) (lt-ltb d 10 h)

pub joined-all : (passes : ℕ → Bool) (x y : List ℕ) → list_all passes x ≡ true → list_all passes y ≡ true → list_all passes (x ++ y) ≡ true
joined-all passes [] y h k = k
joined-all passes (b ∷ x) y h k =
    ap (λ c. c && list_all passes (x ++ y)) (and_first (passes b) (list_all passes x) h)
    ∙ joined-all passes x y (and_second (passes b) (list_all passes x) h) k

either : (passes : ℕ → Bool) (b : Bool) (x y : List ℕ) → list_all passes x ≡ true → list_all passes y ≡ true → list_all passes (if b then x else y) ≡ true
either passes true x y h k = h
either passes false x y h k = k

module _ (passes : ℕ → Bool) (digit : (d : ℕ) → d < 10 → passes (48 + d) ≡ true) where
  one-passes : (d : ℕ) (acc : List ℕ) → d < 10 → list_all passes acc ≡ true → list_all passes (digit_glyph false d ∷ acc) ≡ true
  one-passes d acc h k = ap (λ b. list_all passes (b ∷ acc)) (glyph d h) ∙ ap (λ c. c && list_all passes acc) (digit d h) ∙ k

  onto-passes : (k n : ℕ) (acc : List ℕ) → list_all passes acc ≡ true → list_all passes (digits_onto k 10 false n acc) ≡ true
  onto-passes zero n acc h = h
  onto-passes (suc k) n acc h =
      let more = one-passes (n % 10) acc (omega arith) h in
      either passes (n / 10 == 0) (digit_glyph false (n % 10) ∷ acc) (digits_onto k 10 false (n / 10) (digit_glyph false (n % 10) ∷ acc)) more
      (onto-passes k (n / 10) (digit_glyph false (n % 10) ∷ acc) more)

  pub decimal-all : (n : ℕ) → list_all passes (decimal n) ≡ true
  unfolding digits
  decimal-all n = onto-passes 64 n [] refl

  pub signed-all : passes 45 ≡ true → (z : ℤ) → list_all passes (signed_decimal z) ≡ true
  signed-all minus (pos n) = decimal-all n
  signed-all minus (negsuc n) = ap (λ c. c && list_all passes (decimal (suc n))) minus ∙ decimal-all (suc n)

  points-all : passes 46 ≡ true → (sites : List ℕ) → list_all passes (flat_map (λ s. 46 ∷ decimal s) sites) ≡ true
  points-all point [] = refl
  points-all point (s ∷ ss) =
      ap (λ c. c && list_all passes (decimal s ++ flat_map (λ s. 46 ∷ decimal s) ss)) point
      ∙ joined-all passes (decimal s) (flat_map (λ s. 46 ∷ decimal s) ss) (decimal-all s) (points-all point ss)

  pub dotted-all : passes 46 ≡ true → (sites : List ℕ) → list_all passes (dotted sites) ≡ true
  dotted-all point [] = refl
  dotted-all point (s ∷ ss) = joined-all passes (decimal s) (flat_map (λ s. 46 ∷ decimal s) ss) (decimal-all s) (points-all point ss)
