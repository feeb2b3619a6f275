-- Words and symbols, told apart by number.
use Rattle.std.specs.Prelude.{ℕ, Bool, true, false, cond, nat_eq, Option, Some, None, ⊤}
use Rattle.rv_syntax.specs.{declared.token.Mark.Mark, declared.token.Kind.Kind, declared.token.Token.Token}
use Rattle.rv_syntax.specs.declared.token.Mark.TheVariants as mark
use Rattle.rv_syntax.specs.declared.token.Kind.TheVariants as kind
use Rattle.rv_tree.specs.declared.tree.Name.{Name}

abbrev pub number_of : Mark → ℕ
number_of mark.Node = 0
number_of mark.Returns = 1
number_of mark.Var = 2
number_of mark.Let = 3
number_of mark.Tel = 4
number_of mark.Const = 5
number_of mark.Type = 6
number_of mark.Enum = 7
number_of mark.Bool = 8
number_of mark.Int = 9
number_of mark.If = 10
number_of mark.Then = 11
number_of mark.Else = 12
number_of mark.True = 13
number_of mark.False = 14
number_of mark.Not = 15
number_of mark.And = 16
number_of mark.Or = 17
number_of mark.Xor = 18
number_of mark.Pre = 19
number_of mark.When = 20
number_of mark.Current = 21
number_of mark.Assert = 22
number_of mark.Div = 23
number_of mark.Mod = 24
number_of mark.Arrow = 25
number_of mark.Implies = 26
number_of mark.Differs = 27
number_of mark.AtMost = 28
number_of mark.AtLeast = 29
number_of mark.Less = 30
number_of mark.Greater = 31
number_of mark.Equal = 32
number_of mark.Plus = 33
number_of mark.Minus = 34
number_of mark.Times = 35
number_of mark.Slash = 36
number_of mark.Open = 37
number_of mark.Close = 38
number_of mark.Comma = 39
number_of mark.Semi = 40
number_of mark.Colon = 41
number_of mark.OpenBrace = 42
number_of mark.CloseBrace = 43
number_of mark.Hash = 44
number_of mark.Dot = 45

abbrev pub kind_is : Mark → Kind → Bool
kind_is m (kind.Fixed f) = nat_eq (number_of f) (number_of m)
kind_is m (kind.Name x) = false
kind_is m (kind.Number n) = false
kind_is m kind.LeftOut = false
kind_is m kind.Bad = false

-- whether a token is this word or symbol
abbrev pub is_mark : Mark → Token → Bool
is_mark m t = kind_is m t.kind

abbrev pub has_mark : Mark → Token → Option ⊤
has_mark m t = cond (is_mark m t) (Some tt) None

-- the offset of a token that is this word or symbol
abbrev pub mark_at : Mark → Token → Option ℕ
mark_at m t = cond (is_mark m t) (Some t.at) None

abbrev pub kind_named : Kind → Bool
kind_named (kind.Name x) = true
kind_named (kind.Fixed m) = false
kind_named (kind.Number n) = false
kind_named kind.LeftOut = false
kind_named kind.Bad = false

-- whether a token is a name
abbrev pub is_name : Token → Bool
is_name t = kind_named t.kind

-- the name that a token is
abbrev pub kind_name : Kind → ℕ → Option Name
kind_name (kind.Name x) at = Some (record { text = x; at = at })
kind_name (kind.Fixed m) at = None
kind_name (kind.Number n) at = None
kind_name kind.LeftOut at = None
kind_name kind.Bad at = None

abbrev pub name_of : Token → Option Name
name_of t = kind_name t.kind t.at
