-- The grammar of expressions: what is written, with its brackets and offsets; its tokens; and its tree.
use Rattle.std.specs.Prelude.{◌≡◌, ◌≤◌, ℕ, ◌+◌, Bool, true, false, cond, nat_le, ◌==◌, List, [], ◌∷◌, ◌++◌, None as Nothing}
use Rattle.rv_syntax.specs.{declared.token.Mark.Mark, declared.token.Kind.Kind, declared.token.Token.Token, declared.operator.Prefix.Prefix}
use Rattle.rv_syntax.specs.declared.token.Mark.TheVariants as mark
use Rattle.rv_syntax.specs.declared.token.Kind.TheVariants as kind
use Rattle.rv_tree.specs.{declared.tree.Name.Name, declared.tree.Op.Op, Tree.Tree, Tree.Node, Tree.Form, Tree.trees}
use Rattle.rv_tree.specs.declared.tree.Op.TheVariants as op
use Rattle.rv_syntax.specs.declared.operator.Prefix.TheVariants as prefixed
use Rattle.rv_tree.specs.Tree as tree

-- a literal or a name
pub data Leaf : Type 0 where
  Yes : Leaf
  No : Leaf
  Count : ℕ → Leaf
  Called : List ℕ → Leaf

-- what arguments are given to: a node by its name, or `#`, by which at most one of them is true
pub data Callee : Type 0 where
  Function : Name → Callee
  Hash : (at : ℕ) → Callee

-- an expression as it is written, each of its tokens with its offset
mutual
  pub data Written : Type 0 where
    Atom : Leaf → (at : ℕ) → Written
    InBrackets : (open_at : ℕ) → Written → (close_at : ℕ) → Written
    Before : Prefix → (at : ℕ) → Written → Written
    Between : Op → (at : ℕ) → Written → Written → Written
    Gated : Written → (at : ℕ) → Name → Written
    If : (if_at : ℕ) → Written → (then_at : ℕ) → Written → (else_at : ℕ) → Written → Written
    Given : Callee → (open_at : ℕ) → Front → Written → (close_at : ℕ) → Written

  -- the arguments before the last one, each with the comma after it
  pub data Front : Type 0 where
    NoneBefore : Front
    Then : Front → Written → (comma_at : ℕ) → Front

abbrev pub fixed : Mark → ℕ → Token
fixed m at = record { kind = kind.Fixed m; at = at }

abbrev pub leaf_kind : Leaf → Kind
leaf_kind Yes = kind.Fixed mark.True
leaf_kind No = kind.Fixed mark.False
leaf_kind (Count n) = kind.Number n
leaf_kind (Called x) = kind.Name x

abbrev pub leaf_token : Leaf → ℕ → Token
leaf_token l at = record { kind = leaf_kind l; at = at }

abbrev pub name_token : Name → Token
name_token x = record { kind = kind.Name x.text; at = x.at }

abbrev pub callee_token : Callee → Token
callee_token (Function x) = name_token x
callee_token (Hash at) = fixed mark.Hash at

abbrev pub prefix_mark : Prefix → Mark
prefix_mark prefixed.Not = mark.Not
prefix_mark prefixed.Minus = mark.Minus
prefix_mark prefixed.Pre = mark.Pre
prefix_mark prefixed.Current = mark.Current

abbrev pub op_mark : Op → Mark
op_mark op.Arrow = mark.Arrow
op_mark op.Implies = mark.Implies
op_mark op.Or = mark.Or
op_mark op.Xor = mark.Xor
op_mark op.And = mark.And
op_mark op.Equal = mark.Equal
op_mark op.Differs = mark.Differs
op_mark op.Less = mark.Less
op_mark op.AtMost = mark.AtMost
op_mark op.Greater = mark.Greater
op_mark op.AtLeast = mark.AtLeast
op_mark op.Plus = mark.Plus
op_mark op.Minus = mark.Minus
op_mark op.Times = mark.Times
op_mark op.Slash = mark.Slash
op_mark op.Div = mark.Div
op_mark op.Mod = mark.Mod

-- the tokens of what is written
abbrev mutual
  pub spelling : Written → List Token
  spelling (Atom l at) = leaf_token l at ∷ []
  spelling (InBrackets a w b) = fixed mark.Open a ∷ (spelling w ++ fixed mark.Close b ∷ [])
  spelling (Before p at w) = fixed (prefix_mark p) at ∷ spelling w
  spelling (Between o at a b) = spelling a ++ fixed (op_mark o) at ∷ spelling b
  spelling (Gated w at x) = spelling w ++ fixed mark.When at ∷ name_token x ∷ []
  spelling (If i a t b e c) = fixed mark.If i ∷ (spelling a ++ fixed mark.Then t ∷ (spelling b ++ fixed mark.Else e ∷ spelling c))
  spelling (Given f a front w b) = callee_token f ∷ fixed mark.Open a ∷ (front_spelling front ++ (spelling w ++ fixed mark.Close b ∷ []))

  pub front_spelling : Front → List Token
  front_spelling NoneBefore = []
  front_spelling (Then front w at) = front_spelling front ++ (spelling w ++ fixed mark.Comma at ∷ [])

abbrev pub leaf_form : Leaf → Form
leaf_form Yes = tree.True
leaf_form No = tree.False
leaf_form (Count n) = tree.Number n
leaf_form (Called x) = tree.Named x

abbrev pub prefix_form : Prefix → Tree → Form
prefix_form prefixed.Not t = tree.Not t
prefix_form prefixed.Minus t = tree.Minus t
prefix_form prefixed.Pre t = tree.Pre t
prefix_form prefixed.Current t = tree.Current t

-- The nodes of a tree, which have no site yet.
abbrev pub Just : Leaf → ℕ → Tree
Just l at = Node at Nothing (leaf_form l)

abbrev pub Applied : Prefix → ℕ → Tree → Tree
Applied p at t = Node at Nothing (prefix_form p t)

abbrev pub Joined : Op → ℕ → Tree → Tree → Tree
Joined o at a b = Node at Nothing (tree.Binary o a b)

abbrev pub Sampled : ℕ → Tree → Name → Tree
Sampled at t x = Node at Nothing (tree.When t x)

abbrev pub Chosen : ℕ → Tree → Tree → Tree → Tree
Chosen at a b c = Node at Nothing (tree.If a b c)

abbrev pub Invoked : Callee → List Tree → Tree
Invoked (Function x) ts = Node x.at Nothing (tree.Call x.text (trees ts))
Invoked (Hash at) ts = Node at Nothing (tree.AtMostOne (trees ts))

-- The tree of what is written: brackets leave nothing, and each node has the offset of its operator, its prefix,
-- its `when`, `if` or `#`, or else of its first token.
abbrev mutual
  pub syntax_of : Written → Tree
  syntax_of (Atom l at) = Just l at
  syntax_of (InBrackets a w b) = syntax_of w
  syntax_of (Before p at w) = Applied p at (syntax_of w)
  syntax_of (Between o at a b) = Joined o at (syntax_of a) (syntax_of b)
  syntax_of (Gated w at x) = Sampled at (syntax_of w) x
  syntax_of (If i a t b e c) = Chosen i (syntax_of a) (syntax_of b) (syntax_of c)
  syntax_of (Given f a front w b) = Invoked f (front_trees front ++ syntax_of w ∷ [])

  pub front_trees : Front → List Tree
  front_trees NoneBefore = []
  front_trees (Then front w at) = front_trees front ++ syntax_of w ∷ []

-- The table of levels, weakest first, and how the operators of a level group: 1 and 2 to the right, 5 not
-- at all, the others to the left.
abbrev pub level_of : Op → ℕ
level_of op.Arrow = 1
level_of op.Implies = 2
level_of op.Or = 3
level_of op.Xor = 3
level_of op.And = 4
level_of op.Equal = 5
level_of op.Differs = 5
level_of op.Less = 5
level_of op.AtMost = 5
level_of op.Greater = 5
level_of op.AtLeast = 5
level_of op.Plus = 6
level_of op.Minus = 6
level_of op.Times = 7
level_of op.Slash = 7
level_of op.Div = 7
level_of op.Mod = 7

pub data Side : Type 0 where
  ToLeft : Side
  ToRight : Side
  Alone : Side

abbrev pub side : ℕ → Side
side n = cond (nat_le n 2) ToRight (cond (n == 5) Alone ToLeft)

abbrev pub left_by : Side → ℕ → ℕ
left_by ToLeft n = n
left_by ToRight n = n + 1
left_by Alone n = n + 1

abbrev pub right_by : Side → ℕ → ℕ
right_by ToLeft n = n + 1
right_by ToRight n = n
right_by Alone n = n + 1

-- the least level of an operand on the left, and of one on the right
abbrev pub left_level : Op → ℕ
left_level o = left_by (side (level_of o)) (level_of o)

abbrev pub right_level : Op → ℕ
right_level o = right_by (side (level_of o)) (level_of o)

abbrev pub leaf_level : Leaf → ℕ
leaf_level Yes = 10
leaf_level No = 10
leaf_level (Count n) = 10
leaf_level (Called x) = 11

-- The level of what is written: `when` has level 8, a prefix 9, and what may stand wherever an operand may 10. A
-- name alone is of level 11, so that a bracket after it opens a call.
abbrev pub level : Written → ℕ
level (Atom l at) = leaf_level l
level (InBrackets a w b) = 10
level (Before p at w) = 9
level (Between o at a b) = level_of o
level (Gated w at x) = 8
level (If i a t b e c) = 10
level (Given f a front w b) = 10

-- An `if` without brackets is open, and so is what has an open last operand: it reaches as far to the right as it can.
abbrev pub is_open : Written → Bool
is_open (Atom l at) = false
is_open (InBrackets a w b) = false
is_open (Before p at w) = is_open w
is_open (Between o at a b) = is_open b
is_open (Gated w at x) = false
is_open (If i a t b e c) = true
is_open (Given f a front w b) = false

-- Each operand binds as tightly as its place wants, and an operand with a token after it that goes on with it is closed.
abbrev mutual
  pub IsGrammatical : Written → Type 0
  IsGrammatical (Atom l at) = Unit {0}
  IsGrammatical (InBrackets a w b) = IsGrammatical w
  IsGrammatical (Before p at w) = (9 ≤ level w) × IsGrammatical w
  IsGrammatical (Between o at a b) = (left_level o ≤ level a) × (is_open a ≡ false) × (right_level o ≤ level b) × IsGrammatical a × IsGrammatical b
  IsGrammatical (Gated w at x) = (8 ≤ level w) × (is_open w ≡ false) × IsGrammatical w
  IsGrammatical (If i a t b e c) = IsGrammatical a × IsGrammatical b × IsGrammatical c
  IsGrammatical (Given f a front w b) = AreGrammatical front × IsGrammatical w

  pub AreGrammatical : Front → Type 0
  AreGrammatical NoneBefore = Unit {0}
  AreGrammatical (Then front w at) = AreGrammatical front × IsGrammatical w
