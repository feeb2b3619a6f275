-- The tokens of a text, from one place to the next.
use Rattle.std.proofs.Common.{◌≡◌, ℕ, zero, suc, ◌+◌, ◌-◌, ◌<◌, ◌≤◌, Bool, List, [], ◌∷◌, ◌++◌, length, drop, take, refl, sym, ap, ◌∙◌, arith}
use Rattle.std.proofs.lemmas.List.{length-drop, drop-drop, drop_all}
use Rattle.rv_syntax.specs.{declared.lexer.Shape.Shape, Lexing.cut, Lexing.emitted, Lexing.kind_of, Lexing.first_token, Lexing.ends_in_tel, Lexing.lex}

-- the bytes that are read are passed
pub lex-skip : (k : ℕ) (tel : Bool) (at : ℕ) (bs : List ℕ) → lex k tel at bs ≡ lex 0 tel (at + k) (drop k bs)
unfolding lex
lex-skip zero tel at bs = ap (λ n. lex 0 tel n bs) (omega arith)
lex-skip (suc k) tel at [] = refl
lex-skip (suc k) tel at (b ∷ bs) = lex-skip k tel (at + 1) bs ∙ ap (λ n. lex 0 tel n (drop k bs)) (omega arith)

lex-first : (tel : Bool) (at : ℕ) (b : ℕ) (bs : List ℕ) (n : ℕ) → (cut (b ∷ bs)).1 ≡ suc n
    → lex 0 tel at (b ∷ bs) ≡ first_token tel at (b ∷ bs) ++ lex 0 (ends_in_tel tel (cut (b ∷ bs)).0) (at + suc n) (drop (suc n) (b ∷ bs))
unfolding lex
lex-first tel at b bs n e =
    ap (λ m. first_token tel at (b ∷ bs) ++ lex (m - 1) (ends_in_tel tel (cut (b ∷ bs)).0) (at + 1) bs) e
    ∙ ap (λ m. first_token tel at (b ∷ bs) ++ lex m (ends_in_tel tel (cut (b ∷ bs)).0) (at + 1) bs) (omega arith)
    ∙ ap (λ l. first_token tel at (b ∷ bs) ++ l) (lex-skip n (ends_in_tel tel (cut (b ∷ bs)).0) (at + 1) bs)
    ∙ ap (λ m. first_token tel at (b ∷ bs) ++ lex 0 (ends_in_tel tel (cut (b ∷ bs)).0) m (drop n bs)) (omega arith)

-- the token, or none, of what begins a text, and the tokens after it
pub lex-from : (tel : Bool) (at : ℕ) (text : List ℕ) (n : ℕ) → 0 < length text → (cut text).1 ≡ suc n
    → lex 0 tel at text ≡ first_token tel at text ++ lex 0 (ends_in_tel tel (cut text).0) (at + suc n) (drop (suc n) text)
lex-from tel at [] n h e = absurd (omega arith)
lex-from tel at (b ∷ bs) n h e = lex-first tel at b bs n e

-- the same at a place in a text, where what begins there has this shape and length
pub piece-at : (bytes : List ℕ) (tel : Bool) (at : ℕ) (k : Shape × ℕ) → at < length bytes → k ≡ cut (drop at bytes) → 0 < k.1
    → lex 0 tel at (drop at bytes) ≡ emitted (kind_of tel k.0 (take k.1 (drop at bytes))) at ++ lex 0 (ends_in_tel tel k.0) (at + k.1) (drop (at + k.1) bytes)
piece-at bytes tel at k h e p =
    let some : 0 < length (drop at bytes) = omega (arith, length-drop at bytes) in
    let n : k.1 ≡ suc (k.1 - 1) = omega arith in
    lex-from tel at (drop at bytes) (k.1 - 1) some (ap (λ x. x.1) (sym e) ∙ n)
    ∙ ap (λ x. emitted (kind_of tel x.0 (take x.1 (drop at bytes))) at ++ lex 0 (ends_in_tel tel x.0) (at + suc (k.1 - 1))
    (drop (suc (k.1 - 1)) (drop at bytes))) (sym e)
    ∙ ap (λ m. emitted (kind_of tel k.0 (take k.1 (drop at bytes))) at ++ lex 0 (ends_in_tel tel k.0) (at + m) (drop m (drop at bytes))) (sym n)
    ∙ ap (λ l. emitted (kind_of tel k.0 (take k.1 (drop at bytes))) at ++ lex 0 (ends_in_tel tel k.0) (at + k.1) l) (drop-drop k.1 at bytes)

pub lex-past : (bytes : List ℕ) (tel : Bool) (at n : ℕ) → length bytes ≤ n → lex 0 tel at (drop n bytes) ≡ []
unfolding lex
lex-past bytes tel at n h = ap (lex 0 tel at) (drop_all n bytes h)
