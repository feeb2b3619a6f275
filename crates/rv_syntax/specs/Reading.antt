-- How the rules of a program's text are read: everywhere one token decides.
use Rattle.std.specs.Prelude.{⊤, Bool, true, false, ◌||◌, List, [], ◌∷◌, ◌++◌, map, Option, Some, None as Nothing}
use Rattle.rv_syntax.specs.Marks.{is_mark, is_name, has_mark, mark_at, name_of}
use Rattle.rv_syntax.specs.Parse.{Reading, Parse, bind, then, done, one, choose, loop, many, maybe}
use Rattle.rv_syntax.specs.ProgramText.{type_of, constant_of, all_flows, joined, Item, Equates, Assumes, equation_of, assertion_of, equations_of, assertions_of}
use Rattle.rv_syntax.specs.ProgramText.{node_of, Section, Types, Constants, OneNode, program_of}
use Rattle.rv_syntax.specs.{declared.token.Mark.Mark, declared.token.Token.Token, declared.rules.Signature.Signature, Reads.expression}
use Rattle.rv_syntax.specs.declared.token.Mark.TheVariants as mark
use Rattle.rv_tree.specs.Tree.{equation_tree, assertion_tree, Tree, EquationTree, AssertionTree, ConstantTree, NodeTree, ProgramTree}
use Rattle.rv_tree.specs.{declared.tree.Name.Name, declared.tree.Decl.Decl, declared.tree.TypeName.TypeName, declared.tree.TypeBody.TypeBody}
use Rattle.rv_tree.specs.{declared.tree.TypeDecl.TypeDecl, Groups.Group, Groups.flows_of}
use Rattle.rv_tree.specs.declared.tree.TypeName.TheVariants as type_name
use Rattle.rv_tree.specs.declared.tree.TypeBody.TheVariants as body_of
use Rattle.rv_syntax.specs.declared.rules.Group as written
use Rattle.rv_syntax.specs.declared.rules.Local as local_written
use Rattle.rv_syntax.specs.declared.rules.Statement as statement_written
use Rattle.rv_syntax.specs.declared.rules.Statement.TheVariants as statement
use Rattle.rv_syntax.specs.declared.rules.Body as body_written

-- this word or symbol, and then the rest
abbrev pub word : {B : Type 0} → Mark → Parse B → Parse B
word m p = then (one (has_mark m)) (λ _. p)

-- this word or symbol alone
abbrev pub only : Mark → Parse ⊤
only m = word m (done tt)

-- names with commas between them
unfoldable pub next_name : Parse Name
next_name = word mark.Comma (one name_of)

unfoldable pub next_names : Parse (List Name)
next_names = many (is_mark mark.Comma) next_name

unfoldable pub names : Parse (List Name)
names = then (one name_of) (λ x. then next_names (λ more. done (x ∷ more)))

-- types
unfoldable pub kind : Parse TypeName
kind = choose (is_mark mark.Bool) (word mark.Bool (done type_name.Bool))
    (choose (is_mark mark.Int) (word mark.Int (done type_name.Int)) (then (one name_of) (λ x. done (type_name.Named x))))

unfoldable pub enumeration : Parse TypeBody
enumeration = word mark.Enum (word mark.OpenBrace (then names (λ xs. word mark.CloseBrace (done (body_of.Labels xs)))))

unfoldable pub type_body : Parse TypeBody
type_body = choose (is_mark mark.Enum) enumeration (then kind (λ k. done (body_of.Alias k)))

unfoldable pub one_type : Parse TypeDecl
one_type = then (one name_of) (λ x. word mark.Equal (then type_body (λ body. word mark.Semi (done (type_of x body)))))

unfoldable pub next_types : Parse (List TypeDecl)
next_types = many is_name one_type

unfoldable pub types : Parse (List TypeDecl)
types = word mark.Type (then one_type (λ d. then next_types (λ more. done (d ∷ more))))

-- constants
unfoldable pub right : Parse Tree
right = word mark.Equal (then expression (λ e. word mark.Semi (done e)))

unfoldable pub written_kind : Parse (Option TypeName)
written_kind = maybe (is_mark mark.Colon) (word mark.Colon kind)

unfoldable pub constant : Parse ConstantTree
constant = then (one name_of) (λ x. then written_kind (λ k. then right (λ e. done (constant_of x k e))))

unfoldable pub next_constants : Parse (List ConstantTree)
next_constants = many is_name constant

unfoldable pub constants : Parse (List ConstantTree)
constants = word mark.Const (then constant (λ c. then next_constants (λ more. done (c ∷ more))))

-- flows
unfoldable pub group : Parse Group
group = then names (λ xs. word mark.Colon (then kind (λ k. done (xs, k))))

-- a semicolon, with a group where there is one
unfoldable pub next_group : Parse (Option Group)
next_group = word mark.Semi (maybe is_name group)

unfoldable pub next_groups : Parse (List Group)
next_groups = loop (is_mark mark.Semi) next_group

unfoldable pub decls : Parse (List Decl)
decls = then group (λ g. then next_groups (λ more. done (all_flows (g ∷ more))))

unfoldable pub clock : Parse Name
clock = word mark.When (one name_of)

unfoldable pub plain_local : Parse (List Decl)
plain_local = then group (λ g. then (maybe (is_mark mark.When) clock) (λ c. word mark.Semi (done (flows_of g c))))

unfoldable pub bracketed_local : Parse (List Decl)
bracketed_local = word mark.Open (then group (λ g. word mark.Close (then clock (λ c. word mark.Semi (done (flows_of g (Some c)))))))

unfoldable pub local : Parse (List Decl)
local = choose is_name plain_local bracketed_local

-- a name or an opening bracket
abbrev pub begins_local : Token → Bool
begins_local t = is_name t || is_mark mark.Open t

unfoldable pub next_locals : Parse (List (List Decl))
next_locals = many begins_local local

unfoldable pub var : Parse (List Decl)
var = word mark.Var (then local (λ ds. then next_locals (λ more. done (joined (ds ∷ more)))))

unfoldable pub vars : Parse (List (List Decl))
vars = many (is_mark mark.Var) var

-- equations and assertions
unfoldable pub lefts : Parse (List Name)
lefts = choose is_name names (word mark.Open (then names (λ xs. word mark.Close (done xs))))

unfoldable pub equation : Parse Item
equation = then lefts (λ xs. then right (λ e. done (Equates (equation_of xs e))))

unfoldable pub assertion : Parse Item
assertion = then (one (mark_at mark.Assert)) (λ at. then expression (λ e. word mark.Semi (done (Assumes (assertion_of at e)))))

unfoldable pub item : Parse Item
item = choose (is_mark mark.Assert) assertion equation

abbrev pub begins_item : Token → Bool
begins_item t = begins_local t || is_mark mark.Assert t

unfoldable pub items : Parse (List Item)
items = many begins_item item

-- a node
unfoldable pub title : Parse Name
title = word mark.Node (one name_of)

unfoldable pub inputs : Parse (List Decl)
inputs = word mark.Open (then decls (λ ds. word mark.Close (done ds)))

unfoldable pub outputs : Parse (List Decl)
outputs = word mark.Returns (then inputs (λ ds. then (maybe (is_mark mark.Semi) (only mark.Semi)) (λ _. done ds)))

abbrev pub ends_node : Token → Bool
ends_node t = is_mark mark.Semi t || is_mark mark.Dot t

unfoldable pub node_end : Parse (Option ⊤)
node_end = maybe ends_node (choose (is_mark mark.Semi) (only mark.Semi) (only mark.Dot))

unfoldable pub body : Parse (List Item)
body = word mark.Let (then items (λ is. word mark.Tel (then node_end (λ _. done is))))

abbrev pub signature_of : Name → List Decl → List Decl → Signature
signature_of x ins outs = record { name = x; inputs = ins; outputs = outs }

unfoldable pub signature : Parse Signature
signature = then title (λ x. then inputs (λ ins. then outputs (λ outs. done (signature_of x ins outs))))

unfoldable pub node : Parse NodeTree
node = then title (λ x. then inputs (λ ins. then outputs (λ outs. then vars (λ vs. then body (λ is. done (node_of x ins outs vs is))))))

-- a program
unfoldable pub section : Parse Section
section = choose (is_mark mark.Type) (then types (λ ds. done (Types ds)))
    (choose (is_mark mark.Const) (then constants (λ cs. done (Constants cs))) (then node (λ n. done (OneNode n))))

abbrev pub any : Token → Bool
any t = true

-- up to the end of the text
unfoldable pub sections : Parse (List Section)
sections = many any section

unfoldable pub program : Parse ProgramTree
program = then sections (λ ss. done (program_of ss))

-- ---- What is read, with what was found before.
abbrev pub mapped : {A B : Type 0} → (A → B) → Reading A → Reading B
mapped f r = bind r (λ a. done (f a))

abbrev pub with_front : {A : Type 0} → List A → Reading (List A) → Reading (List A)
with_front front r = mapped (λ more. front ++ more) r

-- one more statement of a node's body, and one more section of a program
pub record Statements : Type 0 where
  pub equations : List EquationTree
  pub assertions : List AssertionTree

abbrev pub with_item : Statements → Item → Statements
with_item s (Equates q) = record { equations = s.equations ++ q ∷ []; assertions = s.assertions }
with_item s (Assumes a) = record { equations = s.equations; assertions = s.assertions ++ a ∷ [] }

abbrev pub with_items : Statements → List Item → Statements
with_items s [] = s
with_items s (i ∷ more) = with_items (with_item s i) more

abbrev pub statements_of : List Item → Statements
statements_of items = record { equations = equations_of items; assertions = assertions_of items }

abbrev pub with_section : ProgramTree → Section → ProgramTree
with_section p (Types ds) = record { types = p.types ++ ds; constants = p.constants; nodes = p.nodes }
with_section p (Constants cs) = record { types = p.types; constants = p.constants ++ cs; nodes = p.nodes }
with_section p (OneNode n) = record { types = p.types; constants = p.constants; nodes = p.nodes ++ n ∷ [] }

abbrev pub with_sections : ProgramTree → List Section → ProgramTree
with_sections p [] = p
with_sections p (s ∷ more) = with_sections (with_section p s) more

-- what the code's own values stand for
abbrev pub group_of : written.Group → Group
group_of g = (g.names, g.kind)

abbrev pub some_group : Option written.Group → Option Group
some_group (Some g) = Some (group_of g)
some_group Nothing = Nothing

abbrev pub flows : local_written.Local → List Decl
flows l = flows_of (group_of l.group) l.clock

abbrev pub item_of : statement_written.Statement → Item
item_of (statement.Equation q) = Equates (equation_tree q)
item_of (statement.Assertion a) = Assumes (assertion_tree a)

abbrev pub statements : body_written.Body → Statements
statements b = record { equations = map equation_tree b.equations; assertions = map assertion_tree b.assertions }

abbrev pub taken : Bool → Option ⊤
taken true = Some tt
taken false = Nothing
