-- The tokens of a text.
use Rattle.std.specs.Prelude.{◌≡◌, ℕ, zero, suc, ◌+◌, ◌-◌, ◌<◌, min, Bool, true, false, not, ◌&&◌, ◌||◌, cond, ◌==◌, List, [], ◌∷◌, ◌++◌, length, take}
use Rattle.std.specs.Prelude.{slice_index, Option, Some, None, codes}
use Rattle.std.specs.Char.{is_ascii_alphabetic, is_ascii_alphanumeric, is_ascii_digit}
use Rattle.std.specs.{List.prefix_len, Str.bytes_eq, Str.IsAscii, Str.Parse.digits_value}
use Rattle.rv_base.specs.Limits.{too_heavy}
use Rattle.rv_syntax.specs.{declared.token.Mark.Mark, declared.token.Kind.Kind, declared.token.Token.Token, declared.lexer.Shape.Shape}
use Rattle.rv_syntax.specs.{declared.lexer.Comment.Comment}
use Rattle.rv_syntax.specs.declared.token.Mark.TheVariants as mark
use Rattle.rv_syntax.specs.declared.token.Kind.TheVariants as kind
use Rattle.rv_syntax.specs.declared.lexer.Shape.TheVariants as shape
use Rattle.rv_syntax.specs.declared.lexer.Comment.TheVariants as comment

-- white space: space, tab, line feed, form feed and carriage return
abbrev pub is_space : ℕ → Bool
is_space b = b == 32 || b == 9 || b == 10 || b == 12 || b == 13

-- what a name begins with: an ASCII letter or `_`
abbrev pub is_letter : ℕ → Bool
is_letter b = is_ascii_alphabetic b || b == 95

-- what a name goes on with: also digits
abbrev pub is_word_byte : ℕ → Bool
is_word_byte b = is_ascii_alphanumeric b || b == 95

-- all bytes but a line feed
abbrev pub is_in_line : ℕ → Bool
is_in_line b = not (b == 10)

-- how many bytes at the front belong to a word, to a number, and to the line
abbrev pub word_len : List ℕ → ℕ
word_len = prefix_len is_word_byte

abbrev pub number_len : List ℕ → ℕ
number_len = prefix_len is_ascii_digit

abbrev pub line_len : List ℕ → ℕ
line_len = prefix_len is_in_line

abbrev pub is : List ℕ → List ℕ → Bool
is w text = bytes_eq w text

-- the reserved words of declarations
unfoldable pub declaration_word : List ℕ → Option Mark
declaration_word w =
    cond (is w (codes "node")) (Some mark.Node)
    (cond (is w (codes "returns")) (Some mark.Returns)
    (cond (is w (codes "var")) (Some mark.Var)
    (cond (is w (codes "let")) (Some mark.Let)
    (cond (is w (codes "tel")) (Some mark.Tel)
    (cond (is w (codes "const")) (Some mark.Const)
    (cond (is w (codes "type")) (Some mark.Type)
    (cond (is w (codes "enum")) (Some mark.Enum)
    (cond (is w (codes "bool")) (Some mark.Bool)
    (cond (is w (codes "int")) (Some mark.Int)
    (cond (is w (codes "assert")) (Some mark.Assert) None))))))))))

-- the reserved words of expressions
unfoldable pub expression_word : List ℕ → Option Mark
expression_word w =
    cond (is w (codes "if")) (Some mark.If)
    (cond (is w (codes "then")) (Some mark.Then)
    (cond (is w (codes "else")) (Some mark.Else)
    (cond (is w (codes "true")) (Some mark.True)
    (cond (is w (codes "false")) (Some mark.False)
    (cond (is w (codes "not")) (Some mark.Not)
    (cond (is w (codes "and")) (Some mark.And)
    (cond (is w (codes "or")) (Some mark.Or)
    (cond (is w (codes "xor")) (Some mark.Xor)
    (cond (is w (codes "pre")) (Some mark.Pre)
    (cond (is w (codes "when")) (Some mark.When)
    (cond (is w (codes "current")) (Some mark.Current)
    (cond (is w (codes "div")) (Some mark.Div)
    (cond (is w (codes "mod")) (Some mark.Mod) None)))))))))))))

abbrev pub or_else : Option Mark → Option Mark → Option Mark
or_else (Some m) o = Some m
or_else None o = o

-- the reserved words
abbrev pub fixed_word : List ℕ → Option Mark
fixed_word w = or_else (declaration_word w) (expression_word w)

-- the words that are left out of the language
unfoldable pub is_left_out : List ℕ → Bool
is_left_out w =
    is w (codes "real") || is w (codes "float") || is w (codes "function") || is w (codes "package") || is w (codes "model")
    || is w (codes "extern") || is w (codes "unsafe") || is w (codes "include")

unfoldable pub is_left_out_too : List ℕ → Bool
is_left_out_too w =
    is w (codes "struct") || is w (codes "merge") || is w (codes "fby") || is w (codes "nor") || is w (codes "operator")
    || is w (codes "with") || is w (codes "automaton") || is w (codes "subrange")

abbrev pub shape_of : Option Mark → Bool → Shape
shape_of (Some m) b = shape.Fixed m
shape_of None true = shape.LeftOut
shape_of None false = shape.Name

-- A word is a name where it is neither reserved nor left out.
abbrev pub word : List ℕ → Shape
word w = shape_of (fixed_word w) (is_left_out w || is_left_out_too w)

-- the symbols of two bytes: `->` `=>` `<>` `<=` `>=`, and `<<` `>>` `::`, which are left out
abbrev pub pair : ℕ → ℕ → Option Shape
pair a b =
    cond (a == 45 && b == 62) (Some (shape.Fixed mark.Arrow))
    (cond (a == 61 && b == 62) (Some (shape.Fixed mark.Implies))
    (cond (a == 60 && b == 62) (Some (shape.Fixed mark.Differs))
    (cond (a == 60 && b == 61) (Some (shape.Fixed mark.AtMost))
    (cond (a == 62 && b == 61) (Some (shape.Fixed mark.AtLeast))
    (cond ((a == 60 && b == 60) || (a == 62 && b == 62) || (a == 58 && b == 58)) (Some shape.LeftOut) None)))))

-- `<` `>` `=` `+` `-` `*` `/` `#`
abbrev pub operator : ℕ → Option Mark
operator b =
    cond (b == 60) (Some mark.Less)
    (cond (b == 62) (Some mark.Greater)
    (cond (b == 61) (Some mark.Equal)
    (cond (b == 43) (Some mark.Plus)
    (cond (b == 45) (Some mark.Minus)
    (cond (b == 42) (Some mark.Times)
    (cond (b == 47) (Some mark.Slash)
    (cond (b == 35) (Some mark.Hash) None)))))))

-- `(` `)` `,` `;` `:` `{` `}`
abbrev pub bracket : ℕ → Option Mark
bracket b =
    cond (b == 40) (Some mark.Open)
    (cond (b == 41) (Some mark.Close)
    (cond (b == 44) (Some mark.Comma)
    (cond (b == 59) (Some mark.Semi)
    (cond (b == 58) (Some mark.Colon)
    (cond (b == 123) (Some mark.OpenBrace)
    (cond (b == 125) (Some mark.CloseBrace) None))))))

-- `.`, and `[` `]` `^` `|`, which are left out; any other byte begins no token
abbrev pub rare : ℕ → Shape
rare b = cond (b == 46) shape.Point (cond (b == 91 || b == 93 || b == 94 || b == 124) shape.LeftOut shape.Bad)

abbrev pub fixed_or : Option Mark → Shape → Shape
fixed_or (Some m) s = shape.Fixed m
fixed_or None s = s

-- a symbol of one byte
abbrev pub single : ℕ → Shape
single b = fixed_or (or_else (operator b) (bracket b)) (rare b)

abbrev pub or_single : Option Shape → ℕ → Shape × ℕ
or_single (Some s) a = (s, 2)
or_single None a = (single a, 1)

-- what two bytes open: a comment to the end of the line, `--`, or to the next `*)` or `*/`
abbrev pub opens : ℕ → ℕ → Option Comment
opens a b =
    cond (a == 45 && b == 45) (Some comment.Line)
    (cond (a == 40 && b == 42) (Some (comment.Until 41))
    (cond (a == 47 && b == 42) (Some (comment.Until 47)) None))

abbrev pub is_first : ℕ → List ℕ → Bool
is_first c [] = false
is_first c (b ∷ bs) = b == c

abbrev pub one_later : Option ℕ → Option ℕ
one_later None = None
one_later (Some n) = Some (n + 1)

-- how many bytes there are up to the first `*` that is followed by this byte, both included
abbrev pub close_len : ℕ → List ℕ → Option ℕ
close_len c [] = None
close_len c (b ∷ bs) = cond (b == 42 && is_first c bs) (Some 2) (one_later (close_len c bs))

abbrev pub closed_or : Option ℕ → ℕ → Shape × ℕ
closed_or (Some n) len = (shape.Blank, n)
closed_or None len = (shape.Bad, len)

-- The length of a comment without its first two bytes, from the bytes after them. One that is never closed
-- takes all of them.
abbrev pub comment_len : Comment → List ℕ → Shape × ℕ
comment_len comment.Line bs = (shape.Blank, line_len bs)
comment_len (comment.Until c) bs = closed_or (close_len c bs) (length bs)

abbrev pub two_more : Shape × ℕ → Shape × ℕ
two_more k = (k.0, 2 + k.1)

abbrev pub comment_or : Option Comment → ℕ → ℕ → List ℕ → Shape × ℕ
comment_or (Some c) a b bs = two_more (comment_len c bs)
comment_or None a b bs = or_single (pair a b) a

-- what begins with neither white space nor a letter nor a digit: a comment, else a symbol, the longer first
abbrev pub other : List ℕ → Shape × ℕ
other [] = (shape.Bad, 0)
other (a ∷ []) = (single a, 1)
other (a ∷ b ∷ bs) = comment_or (opens a b) a b bs

-- The shape and the length of what begins a text that is not empty: a byte of white space, a word or a number
-- as long as it goes, a comment or a symbol.
unfoldable pub cut : List ℕ → Shape × ℕ
cut text =
    cond (is_space (slice_index text 0)) (shape.Blank, 1)
    (cond (is_letter (slice_index text 0)) (word (take (word_len text) text), word_len text)
    (cond (is_ascii_digit (slice_index text 0)) (shape.Number, number_len text) (other text)))

-- A number is kept up to 2^40, and a larger one as 2^40 + 1.
abbrev pub kept : ℕ → ℕ
kept n = min n too_heavy

abbrev pub point : Bool → Kind
point true = kind.Fixed mark.Dot
point false = kind.LeftOut

-- The kind of the token that these bytes are, if they are one, which stands behind `tel` or not.
abbrev pub kind_of : Bool → Shape → List ℕ → Option Kind
kind_of tel shape.Blank w = None
kind_of tel shape.Name w = Some (kind.Name w)
kind_of tel shape.Number w = Some (kind.Number (kept (digits_value 10 w)))
kind_of tel (shape.Fixed m) w = Some (kind.Fixed m)
kind_of tel shape.Point w = Some (point tel)
kind_of tel shape.LeftOut w = Some kind.LeftOut
kind_of tel shape.Bad w = Some kind.Bad

abbrev pub emitted : Option Kind → ℕ → List Token
emitted None at = []
emitted (Some k) at = record { kind = k; at = at } ∷ []

abbrev pub is_tel : Mark → Bool
is_tel mark.Tel = true
is_tel _ = false

-- whether the last token is `tel`, behind what has this shape
abbrev pub ends_in_tel : Bool → Shape → Bool
ends_in_tel tel shape.Blank = tel
ends_in_tel tel (shape.Fixed m) = is_tel m
ends_in_tel tel shape.Name = false
ends_in_tel tel shape.Number = false
ends_in_tel tel shape.Point = false
ends_in_tel tel shape.LeftOut = false
ends_in_tel tel shape.Bad = false

-- The token, or none, that begins a text, which stands at the offset.
abbrev pub first_token : Bool → ℕ → List ℕ → List Token
first_token tel at text = emitted (kind_of tel (cut text).0 (take (cut text).1 text)) at

-- The tokens of a text from the offset on, whose first bytes up to a count are read, and before which the last
-- token is `tel` or not.
unfoldable pub lex : ℕ → Bool → ℕ → List ℕ → List Token
lex skip tel at [] = []
lex (suc skip) tel at (b ∷ bs) = lex skip tel (at + 1) bs
lex zero tel at (b ∷ bs) = first_token tel at (b ∷ bs) ++ lex ((cut (b ∷ bs)).1 - 1) (ends_in_tel tel (cut (b ∷ bs)).0) (at + 1) bs

-- the tokens of a whole text
abbrev pub tokens : List ℕ → List Token
tokens text = lex 0 false 0 text

-- the bytes of a name are ASCII, and those of a number are digits
abbrev pub AreDigits : List ℕ → Type 0
AreDigits w = (i : ℕ) → i < length w → is_ascii_digit (slice_index w i) ≡ true

abbrev pub IsPlain : Shape → List ℕ → Type 0
IsPlain shape.Blank w = Unit {0}
IsPlain shape.Name w = IsAscii w
IsPlain shape.Number w = AreDigits w
IsPlain (shape.Fixed m) w = Unit {0}
IsPlain shape.Point w = Unit {0}
IsPlain shape.LeftOut w = Unit {0}
IsPlain shape.Bad w = Unit {0}
