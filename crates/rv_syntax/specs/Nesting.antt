-- The nesting at a token of an expression.
use Rattle.std.specs.Prelude.{◌≡◌, ◌≤◌, ℕ, ◌+◌, ◌-◌, List, [], ◌∷◌, length}
use Rattle.rv_syntax.specs.Grammar.{Written, spelling, syntax_of, IsGrammatical}
use Rattle.rv_syntax.specs.{declared.token.Mark.Mark, declared.token.Kind.Kind, declared.token.Token.Token}
use Rattle.rv_syntax.specs.declared.token.Mark.TheVariants as mark
use Rattle.rv_syntax.specs.declared.token.Kind.TheVariants as kind
use Rattle.rv_tree.specs.Tree.{Tree}

-- What a token is to the nesting: an operator token, a bracket that opens or closes, a comma, or nothing. The operator
-- tokens are the operators, `if` and `#`; `then` and `else` are none.
pub data Weight : Type 0 where
  Operator : Weight
  Opening : Weight
  Closing : Weight
  Parting : Weight
  Plain : Weight

abbrev pub mark_weight : Mark → Weight
mark_weight mark.Arrow = Operator
mark_weight mark.Implies = Operator
mark_weight mark.Or = Operator
mark_weight mark.Xor = Operator
mark_weight mark.And = Operator
mark_weight mark.Equal = Operator
mark_weight mark.Differs = Operator
mark_weight mark.Less = Operator
mark_weight mark.AtMost = Operator
mark_weight mark.Greater = Operator
mark_weight mark.AtLeast = Operator
mark_weight mark.Plus = Operator
mark_weight mark.Minus = Operator
mark_weight mark.Times = Operator
mark_weight mark.Slash = Operator
mark_weight mark.Div = Operator
mark_weight mark.Mod = Operator
mark_weight mark.When = Operator
mark_weight mark.Not = Operator
mark_weight mark.Pre = Operator
mark_weight mark.Current = Operator
mark_weight mark.If = Operator
mark_weight mark.Hash = Operator
mark_weight mark.Open = Opening
mark_weight mark.Close = Closing
mark_weight mark.Comma = Parting
mark_weight _ = Plain

abbrev pub kind_weight : Kind → Weight
kind_weight (kind.Fixed m) = mark_weight m
kind_weight (kind.Name x) = Plain
kind_weight (kind.Number n) = Plain
kind_weight kind.LeftOut = Plain
kind_weight kind.Bad = Plain

abbrev pub weight : Token → Weight
weight t = kind_weight t.kind

-- The operator tokens read so far of the current part of each open bracket, innermost first, and last those
-- of the whole expression.
abbrev pub Parts : Type 0
Parts = List ℕ

abbrev pub one_more : Parts → Parts
one_more [] = []
one_more (n ∷ ns) = (n + 1) ∷ ns

abbrev pub outer : Parts → Parts
outer [] = []
outer (n ∷ []) = n ∷ []
outer (n ∷ m ∷ ns) = m ∷ ns

abbrev pub next_part : Parts → Parts
next_part [] = []
next_part (n ∷ []) = n ∷ []
next_part (n ∷ m ∷ ns) = 0 ∷ m ∷ ns

-- A bracket opens a part and closes it, a comma begins the next part of the innermost bracket, and an operator token
-- belongs to the innermost part. Where no bracket is open, a comma and a bracket that closes change nothing.
abbrev pub past_weight : Weight → Parts → Parts
past_weight Operator ns = one_more ns
past_weight Opening ns = 0 ∷ ns
past_weight Closing ns = outer ns
past_weight Parting ns = next_part ns
past_weight Plain ns = ns

abbrev pub past : Token → Parts → Parts
past t ns = past_weight (weight t) ns

abbrev pub total : List ℕ → ℕ
total [] = 0
total (n ∷ ns) = n + total ns

-- The nesting: how many brackets are open, and the operator tokens of their current parts and of the whole.
abbrev pub nesting : Parts → ℕ
nesting ns = (length ns - 1) + total ns

abbrev pub limit : ℕ
limit = 200

-- The nesting is at most the limit at each of the tokens.
abbrev pub IsShallow : Parts → List Token → Type 0
IsShallow ns [] = Unit {0}
IsShallow ns (t ∷ ts) = (nesting (past t ns) ≤ limit) × IsShallow (past t ns) ts

-- the whole expression, before its first token
abbrev pub outside : Parts
outside = 0 ∷ []

-- The tokens are an expression with this tree, whatever its nesting.
abbrev pub IsExprOf : Tree → List Token → Type 0
IsExprOf t ts = (w : Written) × IsGrammatical w × (spelling w ≡ ts) × (syntax_of w ≡ t)

-- Where the tokens of a text stand: outside expressions, or in one, by its parts so far. An expression stands behind
-- `=` or `assert`, up to the next `;`. (So does what a declared type is, where no token counts.)
pub data Standing : Type 0 where
  Outside : Standing
  Inside : Parts → Standing

abbrev pub opened_by : Mark → Standing
opened_by mark.Equal = Inside outside
opened_by mark.Assert = Inside outside
opened_by _ = Outside

abbrev pub opened : Kind → Standing
opened (kind.Fixed m) = opened_by m
opened (kind.Name x) = Outside
opened (kind.Number n) = Outside
opened kind.LeftOut = Outside
opened kind.Bad = Outside

abbrev pub gone_on : Mark → Token → Parts → Standing
gone_on mark.Semi t ns = Outside
gone_on _ t ns = Inside (past t ns)

abbrev pub gone_on_by : Kind → Token → Parts → Standing
gone_on_by (kind.Fixed m) t ns = gone_on m t ns
gone_on_by (kind.Name x) t ns = Inside (past t ns)
gone_on_by (kind.Number n) t ns = Inside (past t ns)
gone_on_by kind.LeftOut t ns = Inside (past t ns)
gone_on_by kind.Bad t ns = Inside (past t ns)

-- where one stands behind a token
abbrev pub behind : Token → Standing → Standing
behind t Outside = opened t.kind
behind t (Inside ns) = gone_on_by t.kind t ns

abbrev pub behind_all : List Token → Standing → Standing
behind_all [] s = s
behind_all (t ∷ ts) s = behind_all ts (behind t s)

-- the nesting there, which is 0 outside expressions
abbrev pub depth : Standing → ℕ
depth Outside = 0
depth (Inside ns) = nesting ns

-- The nesting is at none of the tokens above the limit.
abbrev pub IsShallowText : Standing → List Token → Type 0
IsShallowText s [] = Unit {0}
IsShallowText s (t ∷ ts) = (depth (behind t s) ≤ limit) × IsShallowText (behind t s) ts
