-- Reading an expression a token at a time, without a limit on nesting.
use Rattle.std.specs.Prelude.{ℕ, Bool, true, false, not, ◌&&◌, cond, nat_le, ◌==◌, List, [], ◌∷◌, ◌++◌, Option, Some, None, Result, Ok, Err}
use Rattle.rv_syntax.specs.Grammar.{Leaf, Yes, No, Count, Called, Callee, Function, Hash, Just, Applied, Joined, Sampled, Chosen, Invoked, leaf_level, level_of}
use Rattle.rv_syntax.specs.Grammar.{left_level, right_level}
use Rattle.rv_syntax.specs.{declared.token.Mark.Mark, declared.token.Kind.Kind, declared.token.Token.Token, declared.operator.Prefix.Prefix}
use Rattle.rv_syntax.specs.{declared.parser.Start.Start, declared.parser.Next.Next, Marks.name_of}
use Rattle.rv_syntax.specs.declared.token.Mark.TheVariants as mark
use Rattle.rv_syntax.specs.declared.token.Kind.TheVariants as kind
use Rattle.rv_tree.specs.{declared.tree.Name.Name, declared.tree.Op.Op, Tree.Tree, Tree.Node, Tree.Form}
use Rattle.rv_tree.specs.declared.tree.Op.TheVariants as op
use Rattle.rv_syntax.specs.declared.operator.Prefix.TheVariants as prefixed
use Rattle.rv_syntax.specs.declared.parser.Start.TheVariants as start
use Rattle.rv_syntax.specs.declared.parser.Next.TheVariants as next
use Rattle.rv_tree.specs.Tree as tree

-- what a token is where an operand is wanted
abbrev pub mark_start : Mark → ℕ → Start
mark_start mark.True at = start.Operand
mark_start mark.False at = start.Operand
mark_start mark.Not at = start.Before prefixed.Not at
mark_start mark.Minus at = start.Before prefixed.Minus at
mark_start mark.Pre at = start.Before prefixed.Pre at
mark_start mark.Current at = start.Before prefixed.Current at
mark_start mark.Open at = start.Opens
mark_start mark.If at = start.Asks at
mark_start mark.Hash at = start.Counts at
mark_start _ at = start.Other

abbrev pub kind_start : Kind → ℕ → Start
kind_start (kind.Name x) at = start.Operand
kind_start (kind.Number n) at = start.Operand
kind_start (kind.Fixed m) at = mark_start m at
kind_start kind.LeftOut at = start.Other
kind_start kind.Bad at = start.Other

abbrev pub start_of : Token → Start
start_of t = kind_start t.kind t.at

-- what a token is after an operand
abbrev pub mark_next : Mark → ℕ → Next
mark_next mark.Arrow at = next.Between op.Arrow at
mark_next mark.Implies at = next.Between op.Implies at
mark_next mark.Or at = next.Between op.Or at
mark_next mark.Xor at = next.Between op.Xor at
mark_next mark.And at = next.Between op.And at
mark_next mark.Equal at = next.Between op.Equal at
mark_next mark.Differs at = next.Between op.Differs at
mark_next mark.Less at = next.Between op.Less at
mark_next mark.AtMost at = next.Between op.AtMost at
mark_next mark.Greater at = next.Between op.Greater at
mark_next mark.AtLeast at = next.Between op.AtLeast at
mark_next mark.Plus at = next.Between op.Plus at
mark_next mark.Minus at = next.Between op.Minus at
mark_next mark.Times at = next.Between op.Times at
mark_next mark.Slash at = next.Between op.Slash at
mark_next mark.Div at = next.Between op.Div at
mark_next mark.Mod at = next.Between op.Mod at
mark_next mark.When at = next.Gates at
mark_next mark.Open at = next.Opens
mark_next mark.Close at = next.Closes
mark_next mark.Comma at = next.Separates
mark_next mark.Then at = next.Answers
mark_next mark.Else at = next.Otherwise
mark_next _ at = next.Other

abbrev pub kind_next : Kind → ℕ → Next
kind_next (kind.Fixed m) at = mark_next m at
kind_next (kind.Name x) at = next.Other
kind_next (kind.Number n) at = next.Other
kind_next kind.LeftOut at = next.Other
kind_next kind.Bad at = next.Other

abbrev pub next_of : Token → Next
next_of t = kind_next t.kind t.at

-- the leaf of a token that is an operand
abbrev pub mark_leaf : Mark → Leaf
mark_leaf mark.True = Yes
mark_leaf _ = No

abbrev pub kind_leaf : Kind → Leaf
kind_leaf (kind.Name x) = Called x
kind_leaf (kind.Number n) = Count n
kind_leaf (kind.Fixed m) = mark_leaf m
kind_leaf kind.LeftOut = No
kind_leaf kind.Bad = No

abbrev pub leaf_of : Token → Leaf
leaf_of t = kind_leaf t.kind

abbrev pub leaf_tree : Token → Tree
leaf_tree t = Just (leaf_of t) t.at

-- what has been read and waits for an operand: a bracket; a prefix; an operator after its left operand; an `if`, its
-- first part and `then`, its two parts and `else`; and a call with the arguments before the one that is wanted
pub data Frame : Type 0 where
  Brackets : Frame
  Under : Prefix → (at : ℕ) → Frame
  After : Op → (at : ℕ) → Tree → Frame
  Asked : (at : ℕ) → Frame
  Answered : (at : ℕ) → Tree → Frame
  Else : (at : ℕ) → Tree → Tree → Frame
  Within : Callee → List Tree → Frame

-- the level of the operand that is wanted
abbrev pub need_of : Frame → ℕ
need_of Brackets = 0
need_of (Under p at) = 9
need_of (After o at t) = right_level o
need_of (Asked at) = 0
need_of (Answered at a) = 0
need_of (Else at a b) = 0
need_of (Within f ts) = 0

abbrev pub need : List Frame → ℕ
need [] = 0
need (f ∷ s) = need_of f

-- an operand: its level, whether it is open, and its tree
pub record Held : Type 0 where
  pub grade : ℕ
  pub ends_open : Bool
  pub body : Tree

abbrev pub held : ℕ → Bool → Tree → Held
held n b t = record { grade = n; ends_open = b; body = t }

-- an operand that is closed, and may stand wherever an operand may
abbrev pub whole : Tree → Held
whole t = held 10 false t

-- the operand of a token
abbrev pub leaf_held : Token → Held
leaf_held t = held (leaf_level (leaf_of t)) false (leaf_tree t)

-- An operand is wanted, or there is one; or after an operand and `when` a name is wanted, or after `#` a bracket.
pub data State : Type 0 where
  Want : List Frame → State
  Have : Held → List Frame → State
  Clock : (at : ℕ) → Tree → List Frame → State
  Hashed : (at : ℕ) → List Frame → State

pub data Move : Type 0 where
  To : State → Move
  Ends : Tree → Move
  Fails : Move

-- the node that is called, where this is its name
abbrev pub form_name : Form → List ℕ
form_name (tree.Named x) = x
form_name _ = []

abbrev pub callee_of : Tree → Callee
callee_of (Node at site form) = Function (record { text = form_name form; at = at })

-- whether the token goes on with this operand where one of level k is wanted
abbrev pub accepts : Next → ℕ → Held → Bool
accepts (next.Between o at) k h = not h.ends_open && (nat_le k (level_of o) && nat_le (left_level o) h.grade)
accepts (next.Gates at) k h = not h.ends_open && (nat_le k 8 && nat_le 8 h.grade)
accepts next.Opens k h = h.grade == 11
accepts next.Closes k h = false
accepts next.Separates k h = false
accepts next.Answers k h = false
accepts next.Otherwise k h = false
accepts next.Other k h = false

abbrev pub taken : Next → Held → List Frame → Move
taken (next.Between o at) h s = To (Want (After o at h.body ∷ s))
taken (next.Gates at) h s = To (Clock at h.body s)
taken next.Opens h s = To (Want (Within (callee_of h.body) [] ∷ s))
taken next.Closes h s = Fails
taken next.Separates h s = Fails
taken next.Answers h s = Fails
taken next.Otherwise h s = Fails
taken next.Other h s = Fails

-- an operand with what the frame puts before it, where that needs no further token
abbrev pub wrapped : Frame → Held → Option Held
wrapped Brackets h = None
wrapped (Under p at) h = Some (held 9 h.ends_open (Applied p at h.body))
wrapped (After o at l) h = Some (held (level_of o) h.ends_open (Joined o at l h.body))
wrapped (Asked at) h = None
wrapped (Answered at a) h = None
wrapped (Else at a b) h = Some (held 10 true (Chosen at a b h.body))
wrapped (Within f ts) h = None

-- what the token does where the frame waits for one after its operand
abbrev pub closed : Next → Tree → List Frame → Move
closed next.Closes t s = To (Have (whole t) s)
closed _ t s = Fails

abbrev pub answered : Next → ℕ → Tree → List Frame → Move
answered next.Answers at t s = To (Want (Answered at t ∷ s))
answered _ at t s = Fails

abbrev pub otherwise : Next → ℕ → Tree → Tree → List Frame → Move
otherwise next.Otherwise at a t s = To (Want (Else at a t ∷ s))
otherwise _ at a t s = Fails

abbrev pub argued : Next → Callee → List Tree → Tree → List Frame → Move
argued next.Separates f ts t s = To (Want (Within f (ts ++ t ∷ []) ∷ s))
argued next.Closes f ts t s = To (Have (whole (Invoked f (ts ++ t ∷ []))) s)
argued _ f ts t s = Fails

abbrev pub awaited : Next → Frame → Tree → List Frame → Move
awaited r Brackets t s = closed r t s
awaited r (Under p at) t s = Fails
awaited r (After o at l) t s = Fails
awaited r (Asked at) t s = answered r at t s
awaited r (Answered at a) t s = otherwise r at a t s
awaited r (Else at a b) t s = Fails
awaited r (Within f ts) t s = argued r f ts t s

abbrev pub onward : Option Held → (Held → Move) → Move → Move
onward (Some h) go m = go h
onward None go m = m

-- What a token does after an operand. The frames are left from the innermost, up to one that the token goes on with
-- or that waits for it.
abbrev pub settle : Next → Held → List Frame → Move
settle r h [] = cond (accepts r 0 h) (taken r h []) (Ends h.body)
settle r h (f ∷ s) = cond (accepts r (need_of f) h) (taken r h (f ∷ s)) (onward (wrapped f h) (λ g. settle r g s) (awaited r f h.body s))

-- what a token does where an operand is wanted
abbrev pub begin : Start → Held → List Frame → Move
begin start.Operand h s = To (Have h s)
begin (start.Before p at) h s = To (Want (Under p at ∷ s))
begin start.Opens h s = To (Want (Brackets ∷ s))
begin (start.Asks at) h s = To (Want (Asked at ∷ s))
begin (start.Counts at) h s = To (Hashed at s)
begin start.Other h s = Fails

-- where the name of a clock is wanted
abbrev pub clocked : Option Name → ℕ → Tree → List Frame → Move
clocked (Some x) at t s = To (Have (held 8 false (Sampled at t x)) s)
clocked None at t s = Fails

-- where the bracket after `#` is wanted
abbrev pub opened : Start → ℕ → List Frame → Move
opened start.Opens at s = To (Want (Within (Hash at) [] ∷ s))
opened _ at s = Fails

abbrev pub step : State → Token → Move
step (Want s) t = begin (start_of t) (leaf_held t) s
step (Have h s) t = settle (next_of t) h s
step (Clock at e s) t = clocked (name_of t) at e s
step (Hashed at s) t = opened (start_of t) at s

-- what the end of the text does
abbrev pub finish : State → Move
finish (Want s) = Fails
finish (Have h s) = settle next.Other h s
finish (Clock at t s) = Fails
finish (Hashed at s) = Fails

-- The tree of the longest expression and the tokens after it, or the tokens from the offending one on.
abbrev pub Reading : Type 0
Reading = Result (Tree × List Token) (List Token)

abbrev pub at_end : Move → Reading
at_end (To st) = Err []
at_end (Ends t) = Ok (t, [])
at_end Fails = Err []

abbrev pub going : Move → (State → Reading) → List Token → Reading
going (To st) go ts = go st
going (Ends t) go ts = Ok (t, ts)
going Fails go ts = Err ts

unfoldable pub run : State → List Token → Reading
run st [] = at_end (finish st)
run st (t ∷ ts) = going (step st t) (λ q. run q ts) (t ∷ ts)

-- what the next token is, in either place
abbrev pub starting : List Token → Start
starting [] = start.Other
starting (t ∷ ts) = start_of t

abbrev pub following : List Token → Next
following [] = next.Other
following (t ∷ ts) = next_of t
