-- The tokens of a text: names are words, and numbers are at most 2^40 + 1. And what a rule derives from such tokens.
use Rattle.std.proofs.Common.{◌≡◌, ℕ, zero, suc, ◌+◌, ◌-◌, ◌<◌, Bool, true, false, cond, nat_le, List, [], ◌∷◌, ◌++◌, length, take, get_or, refl, sym, ap, ◌∙◌}
use Rattle.std.proofs.Common.{subst, arith, inl, inr, one-add}
use Rattle.std.proofs.{lemmas.Bool.cases_Bool, lemmas.Bool.Decides.nat_tests}
use Rattle.std.specs.Prelude.{◌&&◌, ◌||◌, ◌==◌, ⊤, Option, Some, slice_index, None as Nothing}
use Rattle.std.specs.{Char.is_ascii_digit, Int.is_in_range, List.Contains, List.prefix_len, Str.Parse.digits_value}
use Rattle.rv_base.specs.Limits.{too_heavy}
use Rattle.rv_tree.specs.Words.{is_name_byte, is_name}
use Rattle.rv_syntax.specs.Lexing.{bracket, close_len, closed_or, comment_len, comment_or, cut, emitted, ends_in_tel, fixed_or, is_letter, is_space}
use Rattle.rv_syntax.specs.Lexing.{is_word_byte, kept, kind_of, lex, number_len, opens, operator, or_else, or_single, other, pair, rare, single, word, word_len}
use Rattle.rv_syntax.specs.{declared.lexer.Comment.Comment, declared.lexer.Shape.Shape, declared.token.Kind.Kind, declared.token.Mark.Mark}
use Rattle.rv_syntax.specs.{declared.token.Token.Token, Rules.Each, Rules.Gives, Rules.OneOf, Rules.Part, Rules.Word}
use Rattle.rv_syntax.specs.declared.lexer.Comment.TheVariants as comment
use Rattle.rv_syntax.specs.declared.lexer.Shape.TheVariants as shape
use Rattle.rv_syntax.specs.declared.token.Kind.TheVariants as kind
use Rattle.rv_syntax.specs.declared.token.Mark.TheVariants as mark

-- ---- Tokens.
-- a name is a word, and a number is as it is kept
abbrev pub is_fine : Kind → Bool
is_fine (kind.Name w) = is_name w
is_fine (kind.Number n) = nat_le n too_heavy
is_fine _ = true

abbrev pub AreFine : List Token → Type 0
AreFine [] = ⊤
AreFine (t ∷ ts) = (is_fine t.kind ≡ true) × AreFine ts

pub fine-left : (a b : List Token) → AreFine (a ++ b) → AreFine a
fine-left [] b h = tt
fine-left (t ∷ a) b h = (h.0, fine-left a b h.1)

pub fine-right : (a b : List Token) → AreFine (a ++ b) → AreFine b
fine-right [] b h = h
fine-right (t ∷ a) b h = fine-right a b h.1

-- ---- Words of a text.
shuffled : (a b c e : Bool) → (((a || b) || c) || e) ≡ true → (((a || b) || e) || c) ≡ true
shuffled true b c e h = refl
shuffled false true c e h = refl
shuffled false false c true h = refl
shuffled false false true false h = refl
shuffled false false false false h = cc

byte-plain : (b : ℕ) → is_word_byte b ≡ true → is_name_byte b ≡ true
byte-plain b h = shuffled (is_in_range 48 57 b) (is_in_range 65 90 b) (is_in_range 97 122 b) (b == 95) h

pub len-more : (p : ℕ → Bool) (b : ℕ) (bs : List ℕ) → p b ≡ true → prefix_len p (b ∷ bs) ≡ suc (prefix_len p bs)
len-more p b bs e = ap (λ c. cond c (1 + prefix_len p bs) 0) e ∙ one-add (prefix_len p bs)

pub len-none : (p : ℕ → Bool) (b : ℕ) (bs : List ℕ) → p b ≡ false → prefix_len p (b ∷ bs) ≡ 0
len-none p b bs e = ap (λ c. cond c (1 + prefix_len p bs) 0) e

word-plain : (bs : List ℕ) → is_name (take (word_len bs) bs) ≡ true
word-plain [] = refl
word-plain (b ∷ bs) =
    elim (cases_Bool (is_word_byte b)) [
      | inl e ↦ subst (λ n. is_name (take n (b ∷ bs)) ≡ true) (sym (len-more is_word_byte b bs e))
          (ap (λ c. c && is_name (take (word_len bs) bs)) (byte-plain b e) ∙ word-plain bs)
      | inr e ↦ subst (λ n. is_name (take n (b ∷ bs)) ≡ true) (sym (len-none is_word_byte b bs e)) refl
    ]

-- ---- Shapes.
kept-fine : (n : ℕ) → nat_le (kept n) too_heavy ≡ true
kept-fine n = grind (arith, nat_tests)

abbrev pub IsFineOption : Option Kind → Type 0
IsFineOption Nothing = ⊤
IsFineOption (Some k) = is_fine k ≡ true

-- what has this shape is no name
abbrev pub IsOther : Shape → Type 0
IsOther shape.Name = ⊥
IsOther _ = ⊤

either : (c : Bool) (s r : Shape) → IsOther s → IsOther r → IsOther (cond c s r)
either true s r h k = h
either false s r h k = k

fixed-other : (o : Option Mark) (s : Shape) → IsOther s → IsOther (fixed_or o s)
fixed-other Nothing s h = h
fixed-other (Some m) s h = tt

rare-other : (b : ℕ) → IsOther (rare b)
rare-other b = either (b == 46) shape.Point (cond (b == 91 || b == 93 || b == 94 || b == 124) shape.LeftOut shape.Bad) tt
    (either (b == 91 || b == 93 || b == 94 || b == 124) shape.LeftOut shape.Bad tt tt)

single-other : (b : ℕ) → IsOther (single b)
single-other b = fixed-other (or_else (operator b) (bracket b)) (rare b) (rare-other b)

closed-other : (o : Option ℕ) (n : ℕ) → IsOther (closed_or o n).0
closed-other Nothing n = tt
closed-other (Some m) n = tt

comment-other : (c : Comment) (bs : List ℕ) → IsOther (comment_len c bs).0
comment-other comment.Line bs = tt
comment-other (comment.Until c) bs = closed-other (close_len c bs) (length bs)

-- of what begins with two bytes, by what they are
pair-of : (c d e f g h : Bool) → Option Shape
pair-of c d e f g h =
    cond c (Some (shape.Fixed mark.Arrow)) (cond d (Some (shape.Fixed mark.Implies))
    (cond e (Some (shape.Fixed mark.Differs)) (cond f (Some (shape.Fixed mark.AtMost))
    (cond g (Some (shape.Fixed mark.AtLeast)) (cond h (Some shape.LeftOut) Nothing)))))

single-or : (c d e f g h : Bool) (a : ℕ) → IsOther (or_single (pair-of c d e f g h) a).0
unfolding pair-of
single-or true d e f g h a = tt
single-or false true e f g h a = tt
single-or false false true f g h a = tt
single-or false false false true g h a = tt
single-or false false false false true h a = tt
single-or false false false false false true a = tt
single-or false false false false false false a = single-other a

pair-other : (a b : ℕ) → IsOther (or_single (pair a b) a).0
unfolding pair-of
pair-other a b = single-or (a == 45 && b == 62) (a == 61 && b == 62) (a == 60 && b == 62) (a == 60 && b == 61) (a == 62 && b == 61)
    ((a == 60 && b == 60) || (a == 62 && b == 62) || (a == 58 && b == 58)) a

comment-or : (o : Option Comment) (a b : ℕ) (bs : List ℕ) → IsOther (comment_or o a b bs).0
comment-or (Some c) a b bs = comment-other c bs
comment-or Nothing a b bs = pair-other a b

other-other : (text : List ℕ) → IsOther (other text).0
other-other [] = tt
other-other (a ∷ []) = single-other a
other-other (a ∷ b ∷ bs) = comment-or (opens a b) a b bs

other-fine : (tel : Bool) (s : Shape) (w : List ℕ) → IsOther s → IsFineOption (kind_of tel s w)
other-fine tel shape.Blank w h = tt
other-fine tel shape.Name w h = absurd h
other-fine tel shape.Number w h = kept-fine (digits_value 10 w)
other-fine true shape.Point w h = refl
other-fine _ _ w h = refl

plain-fine : (tel : Bool) (s : Shape) (w : List ℕ) → is_name w ≡ true → IsFineOption (kind_of tel s w)
plain-fine tel shape.Blank w h = tt
plain-fine tel shape.Name w h = h
plain-fine tel shape.Number w h = kept-fine (digits_value 10 w)
plain-fine true shape.Point w h = refl
plain-fine _ _ w h = refl

abbrev pub IsCut : Bool → List ℕ → Shape × ℕ → Type 0
IsCut tel text k = IsFineOption (kind_of tel k.0 (take k.1 text))

cut-by : (tel : Bool) (text : List ℕ) (c d e : Bool) → IsCut tel text (cond c (shape.Blank, 1)
    (cond d (word (take (word_len text) text), word_len text) (cond e (shape.Number, number_len text) (other text))))
cut-by tel text true d e = tt
cut-by tel text false true e = plain-fine tel (word (take (word_len text) text)) (take (word_len text) text) (word-plain text)
cut-by tel text false false true = kept-fine (digits_value 10 (take (number_len text) text))
cut-by tel text false false false = other-fine tel (other text).0 (take (other text).1 text) (other-other text)

cut-fine : (tel : Bool) (text : List ℕ) → IsCut tel text (cut text)
unfolding cut
cut-fine tel text = cut-by tel text (is_space (slice_index text 0)) (is_letter (slice_index text 0)) (is_ascii_digit (slice_index text 0))

emitted-fine : (o : Option Kind) (at : ℕ) (ts : List Token) → IsFineOption o → AreFine ts → AreFine (emitted o at ++ ts)
emitted-fine Nothing at ts h k = k
emitted-fine (Some x) at ts h k = (h, k)

pub lex-fine : (skip : ℕ) (tel : Bool) (at : ℕ) (bs : List ℕ) → AreFine (lex skip tel at bs)
unfolding lex
lex-fine skip tel at [] = tt
lex-fine (suc skip) tel at (b ∷ bs) = lex-fine skip tel (at + 1) bs
lex-fine zero tel at (b ∷ bs) =
    emitted-fine (kind_of tel (cut (b ∷ bs)).0 (take (cut (b ∷ bs)).1 (b ∷ bs))) at (lex ((cut (b ∷ bs)).1 - 1) (ends_in_tel tel (cut (b ∷ bs)).0) (at + 1) bs)
    (cut-fine tel (b ∷ bs)) (lex-fine ((cut (b ∷ bs)).1 - 1) (ends_in_tel tel (cut (b ∷ bs)).0) (at + 1) bs)

-- ---- Rules.
-- what a rule derives from such tokens is so
abbrev pub Keeps : {A : Type 0} → (A → List Token → Type 0) → (A → Type 0) → Type 0
Keeps {A = A} L Q = (a : A) (ts : List Token) → L a ts → AreFine ts → Q a

abbrev pub Every : {A : Type 0} → (A → Type 0) → List A → Type 0
Every Q [] = ⊤
Every Q (a ∷ more) = Q a × Every Q more

pub any : {A : Type 0} (L : A → List Token → Type 0) → Keeps L (λ a. ⊤)
any L a ts h f = tt

pub gives : {B : Type 0} {b : B} (Q : B → Type 0) → Q b → Keeps (Gives b) Q
gives Q q c ts h f = subst Q (sym h.1) q

pub after-word : {B : Type 0} (m : Mark) {L : B → List Token → Type 0} {Q : B → Type 0} → Keeps L Q → Keeps (Word m L) Q
after-word m k b ts h f = let g = subst AreFine h.2 f in k b h.1 h.3 g.1

pub parts : {A B : Type 0} {L : A → List Token → Type 0} {M : A → B → List Token → Type 0} {Q : A → Type 0} {R : B → Type 0} → Keeps L Q
    → ((a : A) → Q a → Keeps (M a) R) → Keeps (Part L M) R
parts k l b ts h f = let g = subst AreFine h.3 f in l h.0 (k h.0 h.1 h.4 (fine-left h.1 h.2 g)) b h.2 h.5 (fine-right h.1 h.2 g)

pub one-of : {A : Type 0} {L M : A → List Token → Type 0} {Q : A → Type 0} → Keeps L Q → Keeps M Q → Keeps (OneOf L M) Q
one-of k l a ts (inl h) f = k a ts h f
one-of k l a ts (inr h) f = l a ts h f

pub each : {A : Type 0} {L : A → List Token → Type 0} {Q : A → Type 0} → Keeps L Q → Keeps (Each L) (Every Q)
each k [] ts h f = tt
each k (a ∷ more) ts h f = let g = subst AreFine h.2 f in (k a h.0 h.3 (fine-left h.0 h.1 g), each k more h.1 h.4 (fine-right h.0 h.1 g))

-- ---- Each of a list.
pub joined-every : {A : Type 0} (Q : A → Type 0) (xs ys : List A) → Every Q xs → Every Q ys → Every Q (xs ++ ys)
joined-every Q [] ys h k = k
joined-every Q (x ∷ xs) ys h k = (h.0, joined-every Q xs ys h.1 k)

every-at : {A : Type 0} (Q : A → Type 0) (xs : List A) (i : ℕ) (d : A) → i < length xs → Every Q xs → Q (get_or xs i d)
every-at Q [] i d lt h = absurd (omega (arith, lt))
every-at Q (x ∷ xs) zero d lt h = h.0
every-at Q (x ∷ xs) (suc i) d lt h = every-at Q xs i d (omega (arith, lt)) h.1

pub every-of : {A : Type 0} (Q : A → Type 0) (xs : List A) (x : A) → Contains xs x → Every Q xs → Q x
every-of Q xs x w h = subst Q w.2 (every-at Q xs w.0 x w.1 h)
