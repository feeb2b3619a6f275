-- The literals in the tree of a text are those of its tokens: each is at most 2^40 + 1.
use Rattle.std.proofs.Common.{◌≡◌, ℕ, ◌≤◌, true, false, nat_le, List, [], ◌∷◌, ◌++◌, map, sym, subst, arith}
use Rattle.std.proofs.lemmas.Bool.Decides.{nat_tests}
use Rattle.std.specs.{Prelude.⊤, List.Contains}
use Rattle.rv_base.specs.Limits.{too_heavy}
use Rattle.rv_tree.specs.Sites.{sited, sited_node, sited_trees, sited_equation, sited_assertion, site_at, with_sites}
use Rattle.rv_tree.specs.Tree.{Tree, Node, Form, Trees, trees, EquationTree, AssertionTree, ConstantTree, NodeTree, ProgramTree}
use Rattle.rv_tree.specs.Tree as tree
use Rattle.rv_syntax.specs.Grammar.{Leaf, Count, Callee, Function, Hash, Written, Atom, InBrackets, Before, Between, Gated, If, Given, Front, NoneBefore, Then}
use Rattle.rv_syntax.specs.Grammar.{fixed, leaf_token, op_mark, name_token, spelling, front_spelling, syntax_of, front_trees, Just, Applied, Invoked}
use Rattle.rv_syntax.specs.ProgramText.{IsBody, IsConstant, IsConstants, IsItem, IsNode, IsProgram, IsRight, IsSection, IsTextOf, Item, Equates, Assumes}
use Rattle.rv_syntax.specs.ProgramText.{Section, Types, Constants, OneNode, equations_of, assertions_of, constants_of, nodes_of}
use Rattle.rv_syntax.specs.{Literals.IsSmall, Literals.IsSmallForm, Literals.AreSmall, Literals.HasSmallLiterals, declared.operator.Prefix.Prefix}
use Rattle.rv_syntax.specs.{Lexing.tokens, Nesting.IsExprOf}
use Rattle.rv_syntax.specs.declared.operator.Prefix.TheVariants as prefixed
use Rattle.rv_syntax.specs.declared.token.Mark.TheVariants as mark
use Rattle.rv_syntax.proofs.FineTokens.{AreFine, fine-left, fine-right, Keeps, Every, any, gives, after-word, parts, one-of, each, lex-fine, joined-every}
use Rattle.rv_syntax.proofs.FineTokens.{every-of}
use Rattle.rv_base.proofs.Lists.{from_map}

-- ---- Expressions.
number-small : (n : ℕ) → nat_le n too_heavy ≡ true → n ≤ too_heavy
number-small n h = grind (arith, nat_tests)

leaf-small : (l : Leaf) (at : ℕ) → AreFine (leaf_token l at ∷ []) → IsSmall (Just l at)
leaf-small (Count n) at f = number-small n f.0
leaf-small _ at f = tt

applied-small : (p : Prefix) (at : ℕ) (t : Tree) → IsSmall t → IsSmall (Applied p at t)
applied-small prefixed.Not at t h = h
applied-small _ at t h = h

trees-small : (ts : List Tree) → Every IsSmall ts → AreSmall (trees ts)
trees-small [] h = tt
trees-small (t ∷ ts) h = (h.0, trees-small ts h.1)

invoked-small : (g : Callee) (ts : List Tree) → Every IsSmall ts → IsSmall (Invoked g ts)
invoked-small (Function x) ts h = trees-small ts h
invoked-small (Hash at) ts h = trees-small ts h

mutual
  written-small : (w : Written) → AreFine (spelling w) → IsSmall (syntax_of w)
  written-small (Atom l at) f = leaf-small l at f
  written-small (InBrackets a w b) f = written-small w (fine-left (spelling w) (fixed mark.Close b ∷ []) f.1)
  written-small (Before p at w) f = applied-small p at (syntax_of w) (written-small w f.1)
  written-small (Between o at a b) f = (
    written-small a (fine-left (spelling a) (fixed (op_mark o) at ∷ spelling b) f),
    written-small b (fine-right (spelling a) (fixed (op_mark o) at ∷ spelling b) f).1,
  )
  written-small (Gated w at x) f = written-small w (fine-left (spelling w) (fixed mark.When at ∷ name_token x ∷ []) f)
  written-small (If i a t b e c) f =
      let g = fine-right (spelling a) (fixed mark.Then t ∷ (spelling b ++ fixed mark.Else e ∷ spelling c)) f.1 in (
        written-small a (fine-left (spelling a) (fixed mark.Then t ∷ (spelling b ++ fixed mark.Else e ∷ spelling c)) f.1),
        written-small b (fine-left (spelling b) (fixed mark.Else e ∷ spelling c) g.1),
        written-small c (fine-right (spelling b) (fixed mark.Else e ∷ spelling c) g.1).1,
      )
  written-small (Given callee a front w b) f =
      let g = fine-right (front_spelling front) (spelling w ++ fixed mark.Close b ∷ []) f.1.1 in
      invoked-small callee (front_trees front ++ syntax_of w ∷ [])
      (joined-every IsSmall (front_trees front) (syntax_of w ∷ [])
      (front-small front (fine-left (front_spelling front) (spelling w ++ fixed mark.Close b ∷ []) f.1.1))
      (written-small w (fine-left (spelling w) (fixed mark.Close b ∷ []) g), tt))

  front-small : (front : Front) → AreFine (front_spelling front) → Every IsSmall (front_trees front)
  front-small NoneBefore f = tt
  front-small (Then front w at) f =
      let g = fine-right (front_spelling front) (spelling w ++ fixed mark.Comma at ∷ []) f in
      joined-every IsSmall (front_trees front) (syntax_of w ∷ [])
      (front-small front (fine-left (front_spelling front) (spelling w ++ fixed mark.Comma at ∷ []) f))
      (written-small w (fine-left (spelling w) (fixed mark.Comma at ∷ []) g), tt)

expression : Keeps IsExprOf IsSmall
expression t ts h f = subst IsSmall h.3 (written-small h.0 (subst AreFine (sym h.2) f))

right : Keeps IsRight IsSmall
right = after-word mark.Equal (parts expression (λ e p. after-word mark.Semi (gives _ p)))

-- ---- Constants.
abbrev pub IsSmallConstant : ConstantTree → Type 0
IsSmallConstant c = IsSmall c.body

constant : Keeps IsConstant IsSmallConstant
constant = parts (any _) (λ x u. parts (any _) (λ k v. parts right (λ e p. gives _ p)))

constants : Keeps IsConstants (Every IsSmallConstant)
constants = after-word mark.Const (parts constant (λ c p. parts (each constant) (λ more q. gives _ (p, q))))

-- ---- Nodes.
abbrev pub IsSmallEquation : EquationTree → Type 0
IsSmallEquation q = IsSmall q.right

abbrev pub IsSmallAssertion : AssertionTree → Type 0
IsSmallAssertion a = IsSmall a.body

abbrev pub IsSmallItem : Item → Type 0
IsSmallItem (Equates q) = IsSmallEquation q
IsSmallItem (Assumes a) = IsSmallAssertion a

item : Keeps IsItem IsSmallItem
item = one-of (parts (any _) (λ xs u. parts right (λ e p. gives _ p))) (parts (any _) (λ at u. parts expression (λ e p. after-word mark.Semi (gives _ p))))

body : Keeps IsBody (Every IsSmallItem)
body = after-word mark.Let (parts (each item) (λ items p. after-word mark.Tel (parts (any _) (λ end u. gives _ p))))

equations-small : (items : List Item) → Every IsSmallItem items → Every IsSmallEquation (equations_of items)
equations-small [] h = tt
equations-small (Equates q ∷ more) h = (h.0, equations-small more h.1)
equations-small (Assumes a ∷ more) h = equations-small more h.1

assertions-small : (items : List Item) → Every IsSmallItem items → Every IsSmallAssertion (assertions_of items)
assertions-small [] h = tt
assertions-small (Equates q ∷ more) h = assertions-small more h.1
assertions-small (Assumes a ∷ more) h = (h.0, assertions-small more h.1)

abbrev pub IsSmallNode : NodeTree → Type 0
IsSmallNode n = Every IsSmallEquation n.equations × Every IsSmallAssertion n.assertions

node : Keeps IsNode IsSmallNode
node = parts (any _) (λ x u. parts (any _) (λ ins v. parts (any _) (λ outs w. parts (any _) (λ vars z. parts body (λ items p.
    gives _ (equations-small items p, assertions-small items p))))))

-- ---- Programs.
abbrev pub IsSmallSection : Section → Type 0
IsSmallSection (Types ds) = ⊤
IsSmallSection (Constants cs) = Every IsSmallConstant cs
IsSmallSection (OneNode n) = IsSmallNode n

section : Keeps IsSection IsSmallSection
section = one-of (parts (any _) (λ ds u. gives _ tt)) (one-of (parts constants (λ cs p. gives _ p)) (parts node (λ n p. gives _ p)))

abbrev pub IsSmallProgram : ProgramTree → Type 0
IsSmallProgram p = Every IsSmallConstant p.constants × Every IsSmallNode p.nodes

constants-small : (sections : List Section) → Every IsSmallSection sections → Every IsSmallConstant (constants_of sections)
constants-small [] h = tt
constants-small (Constants cs ∷ more) h = joined-every IsSmallConstant cs (constants_of more) h.0 (constants-small more h.1)
constants-small (_ ∷ more) h = constants-small more h.1

nodes-small : (sections : List Section) → Every IsSmallSection sections → Every IsSmallNode (nodes_of sections)
nodes-small [] h = tt
nodes-small (OneNode n ∷ more) h = (h.0, nodes-small more h.1)
nodes-small (_ ∷ more) h = nodes-small more h.1

program : Keeps IsProgram IsSmallProgram
program = parts (each section) (λ sections p. gives _ (constants-small sections p, nodes-small sections p))

-- ---- Sites change no literal.
module _ (f : ℕ → ℕ) where
  mutual
    sited-small : (t : Tree) → IsSmall t → IsSmall (sited f t)
    sited-small (Node at site form) h = sited-form at form h

    sited-form : (at : ℕ) (form : Form) → IsSmallForm form → IsSmall (sited_node f at form)
    sited-form at (tree.Number v) h = h
    sited-form at (tree.Not e) h = sited-small e h
    sited-form at (tree.Minus e) h = sited-small e h
    sited-form at (tree.Pre e) h = sited-small e h
    sited-form at (tree.Current e) h = sited-small e h
    sited-form at (tree.When e c) h = sited-small e h
    sited-form at (tree.Binary o a b) h = (sited-small a h.0, sited-small b h.1)
    sited-form at (tree.If a b c) h = (sited-small a h.0, sited-small b h.1, sited-small c h.2)
    sited-form at (tree.AtMostOne es) h = sited-all es h
    sited-form at (tree.Call g es) h = sited-all es h
    sited-form at _ h = tt

    sited-all : (es : Trees) → AreSmall es → AreSmall (sited_trees f es)
    sited-all tree.None h = tt
    sited-all (tree.More e es) h = (sited-small e h.0, sited-all es h.1)

  equations-sited : (qs : List EquationTree) → Every IsSmallEquation qs → Every IsSmallEquation (map (sited_equation f) qs)
  equations-sited [] h = tt
  equations-sited (q ∷ qs) h = (sited-small q.right h.0, equations-sited qs h.1)

  assertions-sited : (rest : List AssertionTree) → Every IsSmallAssertion rest → Every IsSmallAssertion (map (sited_assertion f) rest)
  assertions-sited [] h = tt
  assertions-sited (a ∷ rest) h = (sited-small a.body h.0, assertions-sited rest h.1)

node-sited : (n : NodeTree) → IsSmallNode n → IsSmallNode (with_sites n)
node-sited n h = (equations-sited (site_at n) n.equations h.0, assertions-sited (site_at n) n.assertions h.1)

pub small-text : (bytes : List ℕ) (t : ProgramTree) → IsTextOf bytes t → HasSmallLiterals t
small-text bytes t h =
    let p : ProgramTree = h.0 in
    let small : IsSmallProgram p = program p (tokens bytes) h.2 (lex-fine 0 false 0 bytes) in
    let of_node : (n : NodeTree) → Contains (map with_sites p.nodes) n → IsSmallNode n = λ n inside.
    let from = from_map with_sites p.nodes n inside in
    subst IsSmallNode from.2 (node-sited from.0 (every-of IsSmallNode p.nodes from.0 from.1 small.1)) in
    subst HasSmallLiterals (sym h.1) record {
      constants = λ c inside. every-of IsSmallConstant p.constants c inside small.0;
      equations = λ n q inside at. every-of IsSmallEquation n.equations q at (of_node n inside).0;
      assertions = λ n a inside at. every-of IsSmallAssertion n.assertions a at (of_node n inside).1;
    }
