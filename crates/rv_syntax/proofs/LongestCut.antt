-- A piece of a text is the longest front that is one, and a text is made up of such pieces.
use Rattle.std.proofs.Common.{◌≡◌, ℕ, zero, suc, ◌+◌, ◌-◌, ◌<◌, ◌≤◌, Bool, true, false, cond, ◌||◌, List, [], ◌∷◌, ◌++◌, length, take, drop, refl, sym, ap, ◌∙◌}
use Rattle.std.proofs.Common.{subst, inl, inr, arith}
use Rattle.std.proofs.lemmas.Bool.{cases_Bool, cases_lt, and_from, and_left, and_right, eq-eqb, ne_eqb, cond-true, cond-false}
use Rattle.std.proofs.lemmas.List.{length-append, length-drop, length-take-le, take-append-drop}
use Rattle.std.proofs.{Math.Seq.take-length, Math.Seq.take-append_seam, Math.Seq.drop-append_seam, lemmas.List.Sums.prefix_len-le-length}
use Rattle.std.specs.{Prelude.Option, Prelude.Some, Prelude.None, Prelude.◌==◌, List.prefix_len, Int.is_in_range, Char.is_ascii_digit}
use Rattle.rv_syntax.specs.Lexing.{is_space, is_letter, is_word_byte, is_in_line, word_len, number_len, line_len, word, pair, or_single, opens, close_len}
use Rattle.rv_syntax.specs.Lexing.{closed_or, two_more, comment_or, other, cut, kind_of, emitted, ends_in_tel, lex, tokens}
use Rattle.rv_syntax.specs.Longest.{every, if_none, if_every, closed_at, comment_of, comment_or_pair, pair_of, other_of, one_piece, IsLongest, flat, AreLongest}
use Rattle.rv_syntax.specs.Longest.{or_bad, shape_of, tokens_of, AreTokens}
use Rattle.rv_syntax.specs.{declared.token.Token.Token, declared.lexer.Shape.Shape, declared.lexer.Comment.Comment}
use Rattle.rv_syntax.specs.declared.lexer.Shape.TheVariants as shape
use Rattle.rv_syntax.specs.declared.lexer.Comment.TheVariants as comment
use Rattle.rv_syntax.proofs.{Closing.close-fits, Closing.close-take, Lexed.lex-from, Lexed.lex-past, FineTokens.len-more, FineTokens.len-none}

-- the front of bytes that pass a test, and a longer one
every-front : (p : ℕ → Bool) (bs : List ℕ) → every p (take (prefix_len p bs) bs) ≡ true
every-front p [] = refl
every-front p (b ∷ bs) =
    elim (cases_Bool (p b)) [
      | inl e ↦ ap (λ n. every p (take n (b ∷ bs))) (len-more p b bs e) ∙ and_from _ _ e (every-front p bs)
      | inr e ↦ ap (λ n. every p (take n (b ∷ bs))) (len-none p b bs e)
    ]

every-longer : (p : ℕ → Bool) (bs : List ℕ) (m : ℕ) → prefix_len p bs < m → m ≤ length bs → every p (take m bs) ≡ false
every-longer p (b ∷ bs) (suc m) h l =
    elim (cases_Bool (p b)) [
      | inl e ↦ and_right _ _ (every-longer p bs m (omega (arith, len-more p b bs e)) (omega arith))
      | inr e ↦ and_left _ _ e
    ]
every-longer p _ _ h l = absurd (omega arith)

front-is : (p : ℕ → Bool) (bs : List ℕ) (s : Shape) → if_every p (take (prefix_len p bs) bs) s ≡ Some s
front-is p bs s = cond-true (every p (take (prefix_len p bs) bs)) (Some s) None (every-front p bs)

longer-is : (p : ℕ → Bool) (bs : List ℕ) (s : Shape) (m : ℕ) → prefix_len p bs < m → m ≤ length bs → if_every p (take m bs) s ≡ None
longer-is p bs s m h l = cond-false (every p (take m bs)) (Some s) None (every-longer p bs m h l)

pub widen : (a b c d : Bool) → ((b || c) || d) ≡ true → (((a || b) || c) || d) ≡ true
widen true b c d h = refl
widen false b c d h = h

letter-word : (b : ℕ) → is_letter b ≡ true → is_word_byte b ≡ true
letter-word b h = widen (is_in_range 48 57 b) (is_in_range 65 90 b) (is_in_range 97 122 b) (b == 95) h

-- what a piece is, by its first byte
abbrev no_word : ℕ → List ℕ → Option Shape
no_word b bs = cond (is_ascii_digit b) (if_every is_ascii_digit bs shape.Number) (other_of b bs)

abbrev no_space : ℕ → List ℕ → Option Shape
no_space b bs = cond (is_letter b) (if_every is_word_byte bs (word (b ∷ bs))) (no_word b bs)

at-space : (b : ℕ) (bs : List ℕ) → is_space b ≡ true → one_piece (b ∷ bs) ≡ if_none bs shape.Blank
at-space b bs h = cond-true (is_space b) (if_none bs shape.Blank) (no_space b bs) h

at-word : (b : ℕ) (bs : List ℕ) → is_space b ≡ false → is_letter b ≡ true → one_piece (b ∷ bs) ≡ if_every is_word_byte bs (word (b ∷ bs))
at-word b bs s h = cond-false (is_space b) (if_none bs shape.Blank) (no_space b bs) s
    ∙ cond-true (is_letter b) (if_every is_word_byte bs (word (b ∷ bs))) (no_word b bs) h

no-word : (b : ℕ) (bs : List ℕ) → is_space b ≡ false → is_letter b ≡ false → one_piece (b ∷ bs) ≡ no_word b bs
no-word b bs s h = cond-false (is_space b) (if_none bs shape.Blank) (no_space b bs) s
    ∙ cond-false (is_letter b) (if_every is_word_byte bs (word (b ∷ bs))) (no_word b bs) h

at-number : (b : ℕ) (bs : List ℕ) → is_space b ≡ false → is_letter b ≡ false → is_ascii_digit b ≡ true
    → one_piece (b ∷ bs) ≡ if_every is_ascii_digit bs shape.Number
at-number b bs s e h = no-word b bs s e ∙ cond-true (is_ascii_digit b) (if_every is_ascii_digit bs shape.Number) (other_of b bs) h

at-other : (b : ℕ) (bs : List ℕ) → is_space b ≡ false → is_letter b ≡ false → is_ascii_digit b ≡ false → one_piece (b ∷ bs) ≡ other_of b bs
at-other b bs s e h = no-word b bs s e ∙ cond-false (is_ascii_digit b) (if_every is_ascii_digit bs shape.Number) (other_of b bs) h

-- white space
longer-space : (b : ℕ) (bs : List ℕ) → is_space b ≡ true → (m : ℕ) → 1 < m → m ≤ length (b ∷ bs) → one_piece (take m (b ∷ bs)) ≡ None
longer-space b (c ∷ cs) e (suc (suc m)) h l = at-space b (c ∷ take m cs) e
longer-space b _ e _ h l = absurd (omega arith)

longest-space : (b : ℕ) (bs : List ℕ) → is_space b ≡ true → IsLongest (b ∷ bs) (shape.Blank, 1)
longest-space b bs e = (omega arith, at-space b [] e, longer-space b bs e)

-- words
longer-word : (b : ℕ) (bs : List ℕ) → is_space b ≡ false → is_letter b ≡ true → (m : ℕ) → word_len (b ∷ bs) < m → m ≤ length (b ∷ bs)
    → one_piece (take m (b ∷ bs)) ≡ None
longer-word b bs s e zero h l = absurd (omega arith)
longer-word b bs s e (suc m) h l =
    let more : word_len (b ∷ bs) ≡ suc (word_len bs) = len-more is_word_byte b bs (letter-word b e) in
    let from : word_len bs < m = omega arith in
    let to : m ≤ length bs = omega arith in
    at-word b (take m bs) s e ∙ longer-is is_word_byte bs (word (b ∷ take m bs)) m from to

longest-word : (b : ℕ) (bs : List ℕ) → is_space b ≡ false → is_letter b ≡ true
    → IsLongest (b ∷ bs) (word (take (word_len (b ∷ bs)) (b ∷ bs)), word_len (b ∷ bs))
longest-word b bs s e =
    let n : word_len (b ∷ bs) ≡ suc (word_len bs) = len-more is_word_byte b bs (letter-word b e) in (
      prefix_len-le-length is_word_byte (b ∷ bs),
      ap (λ k. one_piece (take k (b ∷ bs))) n
          ∙ at-word b (take (word_len bs) bs) s e
          ∙ front-is is_word_byte bs (word (b ∷ take (word_len bs) bs))
          ∙ ap (λ k. Some (word (take k (b ∷ bs)))) (sym n),
      longer-word b bs s e,
    )

-- numbers
longer-number : (b : ℕ) (bs : List ℕ) → is_space b ≡ false → is_letter b ≡ false → is_ascii_digit b ≡ true → (m : ℕ) → number_len (b ∷ bs) < m
    → m ≤ length (b ∷ bs) → one_piece (take m (b ∷ bs)) ≡ None
longer-number b bs s e d zero h l = absurd (omega arith)
longer-number b bs s e d (suc m) h l =
    let more : number_len (b ∷ bs) ≡ suc (number_len bs) = len-more is_ascii_digit b bs d in
    let from : number_len bs < m = omega arith in
    let to : m ≤ length bs = omega arith in
    at-number b (take m bs) s e d ∙ longer-is is_ascii_digit bs shape.Number m from to

longest-number : (b : ℕ) (bs : List ℕ) → is_space b ≡ false → is_letter b ≡ false → is_ascii_digit b ≡ true
    → IsLongest (b ∷ bs) (shape.Number, number_len (b ∷ bs))
longest-number b bs s e d = (
  prefix_len-le-length is_ascii_digit (b ∷ bs),
  ap (λ k. one_piece (take k (b ∷ bs))) (len-more is_ascii_digit b bs d) ∙ at-number b (take (number_len bs) bs) s e d
      ∙ front-is is_ascii_digit bs shape.Number,
  longer-number b bs s e d,
)

-- comments
at-comment : (b c : ℕ) (bs : List ℕ) (o : Comment) → is_space b ≡ false → is_letter b ≡ false → is_ascii_digit b ≡ false → opens b c ≡ Some o
    → one_piece (b ∷ c ∷ bs) ≡ comment_of o bs
at-comment b c bs o s e d h = at-other b (c ∷ bs) s e d ∙ ap (λ x. comment_or_pair x b c bs) h

longer-comment : (b c : ℕ) (cs : List ℕ) (o : Comment) (n : ℕ) → is_space b ≡ false → is_letter b ≡ false → is_ascii_digit b ≡ false → opens b c ≡ Some o
    → ((m : ℕ) → n < m → m ≤ length cs → comment_of o (take m cs) ≡ None)
    → (m : ℕ) → 2 + n < m → m ≤ length (b ∷ c ∷ cs) → one_piece (take m (b ∷ c ∷ cs)) ≡ None
longer-comment b c cs o n s e d h f (suc (suc m)) a l =
    let from : n < m = omega arith in
    let to : m ≤ length cs = omega arith in
    at-comment b c (take m cs) o s e d h ∙ f m from to
longer-comment b c cs o n s e d h f _ a l = absurd (omega arith)

longest-comment : (b c : ℕ) (cs : List ℕ) (o : Comment) (k : Shape × ℕ) → is_space b ≡ false → is_letter b ≡ false → is_ascii_digit b ≡ false
    → opens b c ≡ Some o
    → k.1 ≤ length cs → comment_of o (take k.1 cs) ≡ Some k.0 → ((m : ℕ) → k.1 < m → m ≤ length cs → comment_of o (take m cs) ≡ None)
    → IsLongest (b ∷ c ∷ cs) (two_more k)
longest-comment b c cs o k s e d h within is f =
    let two : 2 + k.1 ≡ suc (suc k.1) = omega arith in (
      omega arith,
      ap (λ n. one_piece (take n (b ∷ c ∷ cs))) two ∙ at-comment b c (take k.1 cs) o s e d h ∙ is,
      longer-comment b c cs o k.1 s e d h f,
    )

closed-is : (x : ℕ) (cs : List ℕ) (n : ℕ) → close_len x cs ≡ Some n → comment_of (comment.Until x) (take n cs) ≡ Some shape.Blank
closed-is x cs n h =
    let same : n ≤ n = omega arith in
    ap (λ o. closed_at o (length (take n cs))) (close-take x cs n n h same)
    ∙ ap (λ l. closed_at (Some n) l) (length-take-le n cs (close-fits x cs n h))
    ∙ cond-true (n == n) (Some shape.Blank) None (eq-eqb n n refl)

closed-longer : (x : ℕ) (cs : List ℕ) (n : ℕ) → close_len x cs ≡ Some n → (m : ℕ) → n < m → m ≤ length cs → comment_of (comment.Until x) (take m cs) ≡ None
closed-longer x cs n h m a l =
    let less : n ≤ m = omega arith in
    let differ = λ (e : n ≡ m). let no : ⊥ = omega arith in no in
    ap (λ o. closed_at o (length (take m cs))) (close-take x cs n m h less)
    ∙ ap (λ k. closed_at (Some n) k) (length-take-le m cs l)
    ∙ cond-false (n == m) (Some shape.Blank) None (ne_eqb n m differ)

longest-until : (b c x : ℕ) (cs : List ℕ) (o : Option ℕ) → is_space b ≡ false → is_letter b ≡ false → is_ascii_digit b ≡ false
    → opens b c ≡ Some (comment.Until x) → close_len x cs ≡ o
    → IsLongest (b ∷ c ∷ cs) (two_more (closed_or o (length cs)))
longest-until b c x cs (Some n) s e d h p =
    longest-comment b c cs (comment.Until x) (shape.Blank, n) s e d h (close-fits x cs n p) (closed-is x cs n p) (closed-longer x cs n p)
longest-until b c x cs None s e d h p =
    longest-comment b c cs (comment.Until x) (shape.Bad, length cs) s e d h (omega arith)
    (ap (λ l. closed_at (close_len x l) (length l)) (take-length cs) ∙ ap (λ o. closed_at o (length cs)) p)
    (λ m a l. absurd (omega arith))

longest-opened : (b c : ℕ) (cs : List ℕ) (o : Comment) → is_space b ≡ false → is_letter b ≡ false → is_ascii_digit b ≡ false → opens b c ≡ Some o
    → IsLongest (b ∷ c ∷ cs) (comment_or (Some o) b c cs)
longest-opened b c cs comment.Line s e d h =
    longest-comment b c cs comment.Line (shape.Blank, line_len cs) s e d h (prefix_len-le-length is_in_line cs) (front-is is_in_line cs shape.Blank)
    (longer-is is_in_line cs shape.Blank)
longest-opened b c cs (comment.Until x) s e d h = longest-until b c x cs (close_len x cs) s e d h refl

-- symbols
at-pair : (b c : ℕ) (bs : List ℕ) → is_space b ≡ false → is_letter b ≡ false → is_ascii_digit b ≡ false → opens b c ≡ None
    → one_piece (b ∷ c ∷ bs) ≡ pair_of (pair b c) bs
at-pair b c bs s e d h = at-other b (c ∷ bs) s e d ∙ ap (λ x. comment_or_pair x b c bs) h

beyond-two : (b c : ℕ) (cs : List ℕ) → is_space b ≡ false → is_letter b ≡ false → is_ascii_digit b ≡ false → opens b c ≡ None → (m : ℕ) → 2 < m
    → m ≤ length (b ∷ c ∷ cs) → one_piece (take m (b ∷ c ∷ cs)) ≡ None
beyond-two b c (x ∷ xs) s e d o (suc (suc (suc k))) h l = at-pair b c (x ∷ take k xs) s e d o
beyond-two b c _ s e d o _ h l = absurd (omega arith)

beyond-one : (b c : ℕ) (cs : List ℕ) → is_space b ≡ false → is_letter b ≡ false → is_ascii_digit b ≡ false → opens b c ≡ None → pair b c ≡ None
    → (m : ℕ) → 1 < m → m ≤ length (b ∷ c ∷ cs) → one_piece (take m (b ∷ c ∷ cs)) ≡ None
beyond-one b c cs s e d o p (suc (suc zero)) h l = at-pair b c [] s e d o ∙ p
beyond-one b c cs s e d o p (suc (suc (suc k))) h l = beyond-two b c cs s e d o (suc (suc (suc k))) (omega arith) l
beyond-one b c cs s e d o p _ h l = absurd (omega arith)

longest-pair : (b c : ℕ) (cs : List ℕ) → is_space b ≡ false → is_letter b ≡ false → is_ascii_digit b ≡ false → opens b c ≡ None → (p : Option Shape)
    → pair b c ≡ p → IsLongest (b ∷ c ∷ cs) (or_single p b)
longest-pair b c cs s e d o (Some k) p = (omega arith, at-pair b c [] s e d o ∙ p, beyond-two b c cs s e d o)
longest-pair b c cs s e d o None p = (omega arith, at-other b [] s e d, beyond-one b c cs s e d o p)

longest-two : (b c : ℕ) (cs : List ℕ) → is_space b ≡ false → is_letter b ≡ false → is_ascii_digit b ≡ false → (o : Option Comment) → opens b c ≡ o
    → IsLongest (b ∷ c ∷ cs) (comment_or o b c cs)
longest-two b c cs s e d (Some o) h = longest-opened b c cs o s e d h
longest-two b c cs s e d None h = longest-pair b c cs s e d h (pair b c) refl

longest-other : (b : ℕ) (bs : List ℕ) → is_space b ≡ false → is_letter b ≡ false → is_ascii_digit b ≡ false → IsLongest (b ∷ bs) (other (b ∷ bs))
longest-other b [] s e d = (omega arith, at-other b [] s e d, λ m h l. absurd (omega arith))
longest-other b (c ∷ cs) s e d = longest-two b c cs s e d (opens b c) refl

-- what begins a text is cut by longest match
longest-cut : (b : ℕ) (bs : List ℕ) (s l d : Bool) → is_space b ≡ s → is_letter b ≡ l → is_ascii_digit b ≡ d
    → IsLongest (b ∷ bs) (cond s (shape.Blank, 1) (cond l (word (take (word_len (b ∷ bs)) (b ∷ bs)), word_len (b ∷ bs))
    (cond d (shape.Number, number_len (b ∷ bs)) (other (b ∷ bs)))))
longest-cut b bs true l d s e f = longest-space b bs s
longest-cut b bs false true d s e f = longest-word b bs s e
longest-cut b bs false false true s e f = longest-number b bs s e f
longest-cut b bs false false false s e f = longest-other b bs s e f

pub cut-longest : (text : List ℕ) → 0 < length text → IsLongest text (cut text)
unfolding cut
cut-longest [] h = absurd (omega arith)
cut-longest (b ∷ bs) h = longest-cut b bs (is_space b) (is_letter b) (is_ascii_digit b) refl refl refl

-- A piece is not empty.
longest-some : (text : List ℕ) (k : Shape × ℕ) (n : ℕ) → k.1 ≡ n → one_piece (take k.1 text) ≡ Some k.0 → 0 < n
longest-some text k zero e h = let no : None ≡ Some k.0 = ap (λ n. one_piece (take n text)) (sym e) ∙ h in cc
longest-some text k (suc n) e h = omega arith

-- The tokens of a text are those of its pieces.
abbrev Pieces : Bool → ℕ → List ℕ → Type 0
Pieces tel at text = (ws : List (List ℕ)) × (flat ws ≡ text) × AreLongest ws × (lex 0 tel at text ≡ tokens_of tel at ws)

first-piece : (tel : Bool) (at : ℕ) (text : List ℕ) (k : Shape × ℕ) → 0 < length text → k ≡ cut text → IsLongest text k → 0 < k.1
    → Pieces (ends_in_tel tel k.0) (at + k.1) (drop k.1 text) → Pieces tel at text
first-piece tel at text k some is longest more rest =
    let w : List ℕ = take k.1 text in
    let len : length w ≡ k.1 = length-take-le k.1 text longest.0 in
    let whole : w ++ flat rest.0 ≡ text = ap (λ l. w ++ l) rest.1 ∙ take-append-drop k.1 text in
    let pair : k ≡ (k.0, length w) = ap (λ n. (k.0, n)) (sym len) in
    let n : k.1 ≡ suc (k.1 - 1) = omega arith in
    let here : shape_of w ≡ k.0 = ap or_bad longest.1 in (
      w ∷ rest.0,
      whole,
      ((k.0, subst (λ t. IsLongest t (k.0, length w)) (sym whole) (subst (λ q. IsLongest text q) pair longest)), rest.2),
      lex-from tel at text (k.1 - 1) some (ap (λ x. x.1) (sym is) ∙ n)
          ∙ ap (λ x. emitted (kind_of tel x.0 (take x.1 text)) at ++ lex 0 (ends_in_tel tel x.0) (at + suc (k.1 - 1)) (drop (suc (k.1 - 1)) text)) (sym is)
          ∙ ap (λ m. emitted (kind_of tel k.0 w) at ++ lex 0 (ends_in_tel tel k.0) (at + m) (drop m text)) (sym n)
          ∙ ap (λ l. emitted (kind_of tel k.0 w) at ++ l) rest.3
          ∙ ap (λ s. emitted (kind_of tel s w) at ++ tokens_of (ends_in_tel tel s) (at + k.1) rest.0) (sym here)
          ∙ ap (λ m. emitted (kind_of tel (shape_of w) w) at ++ tokens_of (ends_in_tel tel (shape_of w)) (at + m) rest.0) (sym len),
    )

pieces-within : (fuel : ℕ) (tel : Bool) (at : ℕ) (text : List ℕ) → length text ≤ fuel → Pieces tel at text
pieces-within fuel tel at [] h = ([], refl, tt, lex-past [] tel at 0 (omega arith))
pieces-within zero tel at (b ∷ bs) h = absurd (omega arith)
pieces-within (suc fuel) tel at (b ∷ bs) h =
    let longest : IsLongest (b ∷ bs) (cut (b ∷ bs)) = cut-longest (b ∷ bs) (omega arith) in
    let more : 0 < (cut (b ∷ bs)).1 = longest-some (b ∷ bs) (cut (b ∷ bs)) (cut (b ∷ bs)).1 refl longest.1 in
    let less : length (drop (cut (b ∷ bs)).1 (b ∷ bs)) ≤ fuel = omega (arith, length-drop (cut (b ∷ bs)).1 (b ∷ bs)) in
    first-piece tel at (b ∷ bs) (cut (b ∷ bs)) (omega arith) refl longest more
    (pieces-within fuel (ends_in_tel tel (cut (b ∷ bs)).0) (at + (cut (b ∷ bs)).1) (drop (cut (b ∷ bs)).1 (b ∷ bs)) less)

pub in-pieces : (text : List ℕ) → AreTokens text (tokens text)
in-pieces text = pieces-within (length text) false 0 text (omega arith)

-- Two longest pieces at the front of a text are one, and so there is one list of them.
longest-below : (text : List ℕ) (n m : ℕ) (s r : Shape) → IsLongest text (s, n) → IsLongest text (r, m) → n < m → ⊥
longest-below text n m s r x y h = let no : None ≡ Some r = sym (x.2 m h y.0) ∙ y.1 in cc

longest-same : (text : List ℕ) (n m : ℕ) (s r : Shape) → IsLongest text (s, n) → IsLongest text (r, m) → n ≡ m
longest-same text n m s r x y =
    elim (cases_lt n m) [
      | inl h ↦ absurd (longest-below text n m s r x y h)
      | inr h ↦ elim (cases_lt m n) [
        | inl g ↦ absurd (longest-below text m n r s y x g)
        | inr g ↦ omega arith
      ]
    ]

longest-fills : (w more : List ℕ) (s : Shape) → IsLongest (w ++ more) (s, length w) → 0 < length (w ++ more)
longest-fills w more s x =
    let some : 0 < length w = longest-some (w ++ more) (s, length w) (length w) refl x.1 in
    omega (arith, length-append w more)

one-list : (ws vs : List (List ℕ)) → AreLongest ws → AreLongest vs → flat ws ≡ flat vs → ws ≡ vs
one-list [] [] x y e = refl
one-list [] (v ∷ vs) x y e = let none : 0 ≡ length (v ++ flat vs) = ap length e in absurd (omega (arith, longest-fills v (flat vs) y.0.0 y.0.1))
one-list (w ∷ ws) [] x y e = let none : length (w ++ flat ws) ≡ 0 = ap length e in absurd (omega (arith, longest-fills w (flat ws) x.0.0 x.0.1))
one-list (w ∷ ws) (v ∷ vs) x y e =
    let n : length w ≡ length v = longest-same (v ++ flat vs) (length w) (length v) x.0.0 y.0.0 (subst (λ t. IsLongest t (x.0.0, length w)) e x.0.1) y.0.1 in
    let here : w ≡ v = sym (take-append_seam w (flat ws)) ∙ ap (take (length w)) e ∙ ap (λ k. take k (v ++ flat vs)) n ∙ take-append_seam v (flat vs) in
    let more : flat ws ≡ flat vs = sym (drop-append_seam w (flat ws)) ∙ ap (drop (length w)) e ∙ ap (λ k. drop k (v ++ flat vs)) n
    ∙ drop-append_seam v (flat vs) in
    ap (λ l. l ∷ ws) here ∙ ap (λ l. v ∷ l) (one-list ws vs x.1 y.1 more)

pub only-pieces : (text : List ℕ) (ts : List Token) → AreTokens text ts → ts ≡ tokens text
only-pieces text ts a =
    let b : AreTokens text (tokens text) = in-pieces text in
    let same : a.0 ≡ b.0 = one-list a.0 b.0 a.2 b.2 (a.1 ∙ sym b.1) in
    a.3 ∙ ap (tokens_of false 0) same ∙ sym b.3
