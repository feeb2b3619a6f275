-- The token of a name that another byte follows.
use Rattle.std.proofs.Common.{◌≡◌, ℕ, suc, ◌+◌, ◌≤◌, Bool, true, false, cond, ◌||◌, List, [], ◌∷◌, ◌++◌, length, take, drop, refl, ap, ◌∙◌, arith, one-add}
use Rattle.std.proofs.{Math.Seq.take-append_seam, Math.Seq.drop-append_seam, lemmas.Bool.and_parts, lemmas.Bool.leb-true, lemmas.Bool.ne_eqb}
use Rattle.std.specs.{Prelude.◌==◌, Prelude.nat_le, Char.is_ascii_digit, Int.is_in_range}
use Rattle.rv_syntax.specs.declared.lexer.Shape.{Shape}
use Rattle.rv_syntax.specs.Lexing.{is_space, is_letter, is_word_byte, word_len, number_len, other, word, cut, declaration_word, expression_word, is_left_out}
use Rattle.rv_syntax.specs.Lexing.{is_left_out_too, emitted, kind_of, ends_in_tel, lex}
use Rattle.rv_syntax.specs.declared.lexer.Shape.TheVariants as shape
use Rattle.rv_syntax.proofs.{Lexed.lex-from, LongestCut.widen}
use Rattle.rv_made_text.proofs.{Numerals.AreDigits, Tokens.named}

-- bytes that a name goes on with
abbrev pub GoOn : List ℕ → Type 0
GoOn [] = Unit {0}
GoOn (b ∷ bs) = (is_word_byte b ≡ true) × GoOn bs

digit-goes-on : (b : ℕ) → is_ascii_digit b ≡ true → is_word_byte b ≡ true
digit-goes-on b h = ap (λ x. ((x || is_in_range 65 90 b) || is_in_range 97 122 b) || b == 95) h

pub digits-go-on : (bs : List ℕ) → AreDigits bs → GoOn bs
digits-go-on [] h = tt
digits-go-on (b ∷ bs) h = (digit-goes-on b h.0, digits-go-on bs h.1)

-- they are counted up to a byte that ends the name
counted : (ws : List ℕ) (c : ℕ) (rest : List ℕ) → GoOn ws → is_word_byte c ≡ false → word_len (ws ++ c ∷ rest) ≡ length ws
counted [] c rest h e = ap (λ x. cond x (1 + word_len rest) 0) e
counted (b ∷ bs) c rest h e =
    ap (λ x. cond x (1 + word_len (bs ++ c ∷ rest)) 0) h.0
    ∙ one-add (word_len (bs ++ c ∷ rest))
    ∙ ap suc (counted bs c rest h.1 e)

-- what is cut off is the whole name
cut-name : (b : ℕ) (bs : List ℕ) (c : ℕ) (rest : List ℕ) → is_space b ≡ false → is_letter b ≡ true → GoOn bs → is_word_byte c ≡ false
    → word (b ∷ bs) ≡ shape.Name → cut (b ∷ bs ++ c ∷ rest) ≡ (shape.Name, suc (length bs))
unfolding cut
cut-name b bs c rest s l h e name =
    let text : List ℕ = b ∷ bs ++ c ∷ rest in
    let goes : is_word_byte b ≡ true = widen (is_in_range 48 57 b) (is_in_range 65 90 b) (is_in_range 97 122 b) (b == 95) l in
    let long : word_len text ≡ suc (length bs) = counted (b ∷ bs) c rest (goes, h) e in
    let number : Shape × ℕ = cond (is_ascii_digit b) (shape.Number, number_len text) (other text) in
    ap (λ x. cond x (shape.Blank, 1) (cond (is_letter b) (word (take (word_len text) text), word_len text) number)) s
    ∙ ap (λ x. cond x (word (take (word_len text) text), word_len text) number) l
    ∙ ap (λ n. (word (take n text), n)) long
    ∙ ap (λ w. (word (b ∷ w), suc (length bs))) (take-append_seam bs (c ∷ rest))
    ∙ ap (λ x. (x, suc (length bs))) name

pub lex-name : (tel : Bool) (at : ℕ) (b : ℕ) (bs : List ℕ) (c : ℕ) (rest : List ℕ) → is_space b ≡ false → is_letter b ≡ true → GoOn bs
    → is_word_byte c ≡ false → word (b ∷ bs) ≡ shape.Name
    → lex 0 tel at (b ∷ bs ++ c ∷ rest) ≡ named (b ∷ bs) at ∷ lex 0 false (at + length (b ∷ bs)) (c ∷ rest)
lex-name tel at b bs c rest s l h e name =
    let text : List ℕ = b ∷ bs ++ c ∷ rest in
    let m : ℕ = length bs in
    let is : cut text ≡ (shape.Name, suc m) = cut-name b bs c rest s l h e name in
    lex-from tel at text m (omega arith) (ap (λ k. k.1) is)
    ∙ ap (λ k. emitted (kind_of tel k.0 (take k.1 text)) at ++ lex 0 (ends_in_tel tel k.0) (at + suc m) (drop (suc m) text)) is
    ∙ ap (λ w. named (b ∷ w) at ∷ lex 0 false (at + suc m) (drop m (bs ++ c ∷ rest))) (take-append_seam bs (c ∷ rest))
    ∙ ap (λ r. named (b ∷ bs) at ∷ lex 0 false (at + suc m) r) (drop-append_seam bs (c ∷ rest))

-- `b` and a numeral are a name
pub numbered-name : (d : ℕ) (ds : List ℕ) → is_ascii_digit d ≡ true → word (98 ∷ d ∷ ds) ≡ shape.Name
unfolding declaration_word expression_word is_left_out is_left_out_too
numbered-name d ds h =
    let low : d ≤ 57 = leb-true d 57 (and_parts (nat_le 48 d) (nat_le d 57) h).1 in
    let differ : (d == 111) ≡ false = ne_eqb d 111 (λ same. omega arith) in
    rw differ refl

pub seen-name : word (115 ∷ 101 ∷ 101 ∷ 110 ∷ []) ≡ shape.Name
unfolding declaration_word expression_word is_left_out is_left_out_too
seen-name = refl

pub a-name : word (97 ∷ []) ≡ shape.Name
unfolding declaration_word expression_word is_left_out is_left_out_too
a-name = refl
