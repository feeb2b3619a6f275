-- The pieces of a text: its white space, comments and tokens, each the longest at its place.
use Rattle.std.specs.Prelude.{◌≡◌, ◌<◌, ◌≤◌, ℕ, ◌+◌, Bool, true, false, ◌&&◌, ◌==◌, cond, List, [], ◌∷◌, ◌++◌, take, length, Option, Some, None}
use Rattle.std.specs.Char.{is_ascii_digit}
use Rattle.rv_syntax.specs.Lexing.{is_space, is_letter, is_word_byte, is_in_line, word, single, pair, opens, close_len, kind_of, emitted, ends_in_tel}
use Rattle.rv_syntax.specs.{declared.token.Token.Token, declared.lexer.Shape.Shape, declared.lexer.Comment.Comment}
use Rattle.rv_syntax.specs.declared.lexer.Shape.TheVariants as shape
use Rattle.rv_syntax.specs.declared.lexer.Comment.TheVariants as comment

abbrev pub every : (ℕ → Bool) → List ℕ → Bool
every test [] = true
every test (b ∷ bs) = test b && every test bs

abbrev pub if_none : List ℕ → Shape → Option Shape
if_none [] s = Some s
if_none (b ∷ bs) s = None

abbrev pub if_every : (ℕ → Bool) → List ℕ → Shape → Option Shape
if_every test bs s = cond (every test bs) (Some s) None

-- closed at the end, never, or before the end
abbrev pub closed_at : Option ℕ → ℕ → Option Shape
closed_at None len = Some shape.Bad
closed_at (Some n) len = cond (n == len) (Some shape.Blank) None

-- A comment, by the bytes after the two that open it. Its closer is the first, and stands at its end. One that
-- is never closed is no token, with all that follows.
abbrev pub comment_of : Comment → List ℕ → Option Shape
comment_of comment.Line bs = if_every is_in_line bs shape.Blank
comment_of (comment.Until c) bs = closed_at (close_len c bs) (length bs)

abbrev pub pair_of : Option Shape → List ℕ → Option Shape
pair_of s [] = s
pair_of s (b ∷ bs) = None

abbrev pub comment_or_pair : Option Comment → ℕ → ℕ → List ℕ → Option Shape
comment_or_pair (Some c) a b bs = comment_of c bs
comment_or_pair None a b bs = pair_of (pair a b) bs

abbrev pub other_of : ℕ → List ℕ → Option Shape
other_of a [] = Some (single a)
other_of a (b ∷ bs) = comment_or_pair (opens a b) a b bs

-- The shape of bytes that are one piece: one byte of white space, a word, a number, a comment, a symbol, or one
-- byte of no token.
abbrev pub one_piece : List ℕ → Option Shape
one_piece [] = None
one_piece (b ∷ bs) =
    cond (is_space b) (if_none bs shape.Blank)
    (cond (is_letter b) (if_every is_word_byte bs (word (b ∷ bs)))
    (cond (is_ascii_digit b) (if_every is_ascii_digit bs shape.Number) (other_of b bs)))

-- The front of this length is one piece of this shape, and no longer front is one piece.
abbrev pub IsLongest : List ℕ → Shape × ℕ → Type 0
IsLongest text k =
    (k.1 ≤ length text) × (one_piece (take k.1 text) ≡ Some k.0)
    × ((m : ℕ) → k.1 < m → m ≤ length text → one_piece (take m text) ≡ None)

abbrev pub flat : List (List ℕ) → List ℕ
flat [] = []
flat (w ∷ ws) = w ++ flat ws

-- Each of these is the longest piece at the front of what is left of the text that they make up.
abbrev pub AreLongest : List (List ℕ) → Type 0
AreLongest [] = Unit {0}
AreLongest (w ∷ ws) = ((s : Shape) × IsLongest (w ++ flat ws) (s, length w)) × AreLongest ws

abbrev pub or_bad : Option Shape → Shape
or_bad (Some s) = s
or_bad None = shape.Bad

abbrev pub shape_of : List ℕ → Shape
shape_of w = or_bad (one_piece w)

-- The tokens of pieces: of each its own, or none where it is white space or a comment. A `.` is known by the
-- token before it.
abbrev pub tokens_of : Bool → ℕ → List (List ℕ) → List Token
tokens_of tel at [] = []
tokens_of tel at (w ∷ ws) = emitted (kind_of tel (shape_of w) w) at ++ tokens_of (ends_in_tel tel (shape_of w)) (at + length w) ws

-- These are the tokens of this text, cut by longest match.
abbrev pub AreTokens : List ℕ → List Token → Type 0
AreTokens text ts = (ws : List (List ℕ)) × (flat ws ≡ text) × AreLongest ws × (ts ≡ tokens_of false 0 ws)
