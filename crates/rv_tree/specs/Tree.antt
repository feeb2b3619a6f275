-- The tree of a program without where its parts lie in memory: all definitions recurse over it.
use Rattle.std.specs.Prelude.{ℕ, List, [], ◌∷◌, map, Option}
use Rattle.rv_tree.specs.{declared.tree.Op.Op, declared.tree.Name.Name, declared.tree.TypeName.TypeName, declared.tree.TypeDecl.TypeDecl}
use Rattle.rv_tree.specs.{declared.tree.Decl.Decl, declared.tree.ConstDecl.ConstDecl, declared.tree.Equation.Equation, declared.tree.Assertion.Assertion}
use Rattle.rv_tree.specs.{declared.tree.Program.Program, declared.tree.Expr.Expr, declared.tree.ExprForm.TheOpen.ExprForm-F}
use Rattle.rv_tree.specs.{declared.tree.ExprForm.TheFolds.fold-Expr}
use Rattle.rv_tree.specs.declared.tree.Node as declared
use Rattle.rv_tree.specs.declared.tree.ExprForm.TheOpen as step

-- an expression: its offset, its site where it has one, and what it is made of
mutual
  pub data Tree : Type 0 where
    Node : (at : ℕ) (site : Option ℕ) (form : Form) → Tree

  pub data Form : Type 0 where
    True : Form
    False : Form
    Number : ℕ → Form
    Named : List ℕ → Form
    Not : Tree → Form
    Minus : Tree → Form
    Pre : Tree → Form
    Current : Tree → Form
    When : Tree → Name → Form
    Binary : Op → Tree → Tree → Form
    If : Tree → Tree → Tree → Form
    AtMostOne : Trees → Form
    Call : List ℕ → Trees → Form

  pub data Trees : Type 0 where
    None : Trees
    More : Tree → Trees → Trees

abbrev pub trees : List Tree → Trees
trees [] = None
trees (t ∷ ts) = More t (trees ts)

abbrev pub form_of : ExprForm-F Form Tree → Form
form_of step.True = True
form_of step.False = False
form_of (step.Number n) = Number n
form_of (step.Named x) = Named x
form_of (step.Not e) = Not e
form_of (step.Minus e) = Minus e
form_of (step.Pre e) = Pre e
form_of (step.Current e) = Current e
form_of (step.When e c) = When e c
form_of (step.Binary o a b) = Binary o a b
form_of (step.If a b c) = If a b c
form_of (step.AtMostOne es) = AtMostOne (trees es)
form_of (step.Call f es) = Call f (trees es)

-- the tree that an expression is
abbrev pub tree_of : Expr → Tree
tree_of = fold-Expr Form Tree form_of (λ e. Node e.at e.site e.form)

-- an equation, by its left sides and its right side
pub record EquationTree : Type 0 where
  pub lefts : List Name
  pub right : Tree

-- an assertion, by its offset, its site and what is assumed
pub record AssertionTree : Type 0 where
  pub at : ℕ
  pub site : ℕ
  pub body : Tree

-- a constant, with its type where that is written
pub record ConstantTree : Type 0 where
  pub name : Name
  pub kind : Option TypeName
  pub body : Tree

-- a node
pub record NodeTree : Type 0 where
  pub name : Name
  pub inputs : List Decl
  pub outputs : List Decl
  pub locals : List Decl
  pub equations : List EquationTree
  pub assertions : List AssertionTree

-- a program
pub record ProgramTree : Type 0 where
  pub types : List TypeDecl
  pub constants : List ConstantTree
  pub nodes : List NodeTree

abbrev pub equation_tree : Equation → EquationTree
equation_tree q = record { lefts = q.lefts; right = tree_of q.right }

abbrev pub assertion_tree : Assertion → AssertionTree
assertion_tree a = record { at = a.at; site = a.site; body = tree_of a.body }

abbrev pub constant_tree : ConstDecl → ConstantTree
constant_tree c = record { name = c.name; kind = c.kind; body = tree_of c.body }

abbrev pub node_tree : declared.Node → NodeTree
node_tree n = record {
  name = n.name;
  inputs = n.inputs;
  outputs = n.outputs;
  locals = n.locals;
  equations = map equation_tree n.equations;
  assertions = map assertion_tree n.assertions;
}

-- the tree that a program is
abbrev pub program_tree : Program → ProgramTree
program_tree p = record {
  types = p.types;
  constants = map constant_tree p.constants;
  nodes = map node_tree p.nodes;
}
