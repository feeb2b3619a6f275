-- The integer literals of the tree of a text. A literal above 2^40 is kept as 2^40 + 1.
use Rattle.std.specs.{Prelude.⊤, Prelude.◌≤◌, List.Contains}
use Rattle.rv_base.specs.Limits.{too_heavy}
use Rattle.rv_tree.specs.Tree.{Tree, Node, Form, True, False, Number, Named, Not, Minus, Pre, Current, When, Binary, If, AtMostOne, Call, Trees, None, More}
use Rattle.rv_tree.specs.Tree.{EquationTree, AssertionTree, ConstantTree, NodeTree, ProgramTree}

-- Each literal of an expression is at most 2^40 + 1.
abbrev mutual
  pub IsSmall : Tree → Type 0
  IsSmall (Node at site form) = IsSmallForm form

  pub IsSmallForm : Form → Type 0
  IsSmallForm True = ⊤
  IsSmallForm False = ⊤
  IsSmallForm (Number v) = v ≤ too_heavy
  IsSmallForm (Named x) = ⊤
  IsSmallForm (Not e) = IsSmall e
  IsSmallForm (Minus e) = IsSmall e
  IsSmallForm (Pre e) = IsSmall e
  IsSmallForm (Current e) = IsSmall e
  IsSmallForm (When e c) = IsSmall e
  IsSmallForm (Binary o a b) = IsSmall a × IsSmall b
  IsSmallForm (If a b c) = IsSmall a × IsSmall b × IsSmall c
  IsSmallForm (AtMostOne es) = AreSmall es
  IsSmallForm (Call f es) = AreSmall es

  pub AreSmall : Trees → Type 0
  AreSmall None = ⊤
  AreSmall (More e es) = IsSmall e × AreSmall es

-- Each literal of the constants, equations and assertions of a program is at most 2^40 + 1.
pub record HasSmallLiterals (p : ProgramTree) : Type 0 where
  pub constants : (c : ConstantTree) → Contains p.constants c → IsSmall c.body
  pub equations : (n : NodeTree) (q : EquationTree) → Contains p.nodes n → Contains n.equations q → IsSmall q.right
  pub assertions : (n : NodeTree) (a : AssertionTree) → Contains p.nodes n → Contains n.assertions a → IsSmall a.body
