-- The grammar of a program's text.
--     program  = { types | consts | node }
--     types    = 'type' NAME '=' typebody ';' { NAME '=' typebody ';' }
--     typebody = 'enum' '{' NAME { ',' NAME } '}' | kind
--     kind     = 'bool' | 'int' | NAME
--     consts   = 'const' constant { constant }
--     constant = NAME [ ':' kind ] '=' expr ';'
--     node     = 'node' NAME '(' decls ')' 'returns' '(' decls ')' [ ';' ]
--                { 'var' local { local } } 'let' { equation } 'tel' [ ';' | '.' ]
--     decls    = group { ';' group } [ ';' ]
--     group    = NAME { ',' NAME } ':' kind
--     local    = group [ 'when' NAME ] ';' | '(' group ')' 'when' NAME ';'
--     equation = lefts '=' expr ';' | 'assert' expr ';'
--     lefts    = NAME { ',' NAME } | '(' NAME { ',' NAME } ')'
use Rattle.std.specs.Prelude.{◌≡◌, ℕ, List, [], ◌∷◌, ◌++◌, map, Option, Some, None as Nothing}
use Rattle.rv_syntax.specs.declared.token.Mark.TheVariants as mark
use Rattle.rv_syntax.specs.declared.token.Kind.TheVariants as kind
use Rattle.rv_syntax.specs.Rules.{Gives, Word, Only, Marked, Maybe, Part, OneOf, Each}
use Rattle.rv_syntax.specs.{declared.token.Token.Token, Lexing.tokens, Nesting.IsExprOf, Nesting.Outside, Nesting.IsShallowText}
use Rattle.rv_tree.specs.Tree.{Tree, EquationTree, AssertionTree, ConstantTree, NodeTree, ProgramTree}
use Rattle.rv_tree.specs.{declared.tree.Name.Name, declared.tree.Decl.Decl, declared.tree.TypeName.TypeName, Groups.Group, Groups.flows_of}
use Rattle.rv_tree.specs.{declared.tree.TypeBody.TypeBody, declared.tree.TypeDecl.TypeDecl, Sites.with_sites}
use Rattle.rv_tree.specs.declared.tree.TypeName.TheVariants as type_name
use Rattle.rv_tree.specs.declared.tree.TypeBody.TheVariants as type_body

-- a name, with the offset of its token
abbrev pub IsName : Name → List Token → Type 0
IsName x ts = ts ≡ record { kind = kind.Name x.text; at = x.at } ∷ []

-- NAME { ',' NAME }
abbrev pub IsNames : List Name → List Token → Type 0
IsNames = Part IsName (λ x. Part (Each (Word mark.Comma IsName)) (λ more. Gives (x ∷ more)))

-- kind = 'bool' | 'int' | NAME
abbrev pub IsKind : TypeName → List Token → Type 0
IsKind = OneOf (Word mark.Bool (Gives type_name.Bool)) (OneOf (Word mark.Int (Gives type_name.Int)) (Part IsName (λ x. Gives (type_name.Named x))))

-- 'enum' '{' NAME { ',' NAME } '}'
abbrev pub IsEnumeration : TypeBody → List Token → Type 0
IsEnumeration = Word mark.Enum (Word mark.OpenBrace (Part IsNames (λ xs. Word mark.CloseBrace (Gives (type_body.Labels xs)))))

-- typebody = 'enum' '{' NAME { ',' NAME } '}' | kind
abbrev pub IsTypeBody : TypeBody → List Token → Type 0
IsTypeBody = OneOf IsEnumeration (Part IsKind (λ k. Gives (type_body.Alias k)))

abbrev pub type_of : Name → TypeBody → TypeDecl
type_of x body = record { name = x; body = body }

-- NAME '=' typebody ';'
abbrev pub IsType : TypeDecl → List Token → Type 0
IsType = Part IsName (λ x. Word mark.Equal (Part IsTypeBody (λ body. Word mark.Semi (Gives (type_of x body)))))

-- types = 'type' NAME '=' typebody ';' { NAME '=' typebody ';' }
abbrev pub IsTypes : List TypeDecl → List Token → Type 0
IsTypes = Word mark.Type (Part IsType (λ d. Part (Each IsType) (λ more. Gives (d ∷ more))))

-- '=' expr ';'
abbrev pub IsRight : Tree → List Token → Type 0
IsRight = Word mark.Equal (Part IsExprOf (λ e. Word mark.Semi (Gives e)))

abbrev pub constant_of : Name → Option TypeName → Tree → ConstantTree
constant_of x k e = record { name = x; kind = k; body = e }

-- constant = NAME [ ':' kind ] '=' expr ';'
abbrev pub IsConstant : ConstantTree → List Token → Type 0
IsConstant = Part IsName (λ x. Part (Maybe (Word mark.Colon IsKind)) (λ k. Part IsRight (λ e. Gives (constant_of x k e))))

-- consts = 'const' constant { constant }
abbrev pub IsConstants : List ConstantTree → List Token → Type 0
IsConstants = Word mark.Const (Part IsConstant (λ c. Part (Each IsConstant) (λ more. Gives (c ∷ more))))

-- group = NAME { ',' NAME } ':' kind
abbrev pub IsGroup : Group → List Token → Type 0
IsGroup = Part IsNames (λ xs. Word mark.Colon (Part IsKind (λ k. Gives (xs, k))))

abbrev pub all_flows : List Group → List Decl
all_flows [] = []
all_flows (group ∷ more) = flows_of group Nothing ++ all_flows more

-- decls = group { ';' group } [ ';' ]
abbrev pub IsDecls : List Decl → List Token → Type 0
IsDecls = Part IsGroup (λ group. Part (Each (Word mark.Semi IsGroup)) (λ more. Part (Maybe (Only mark.Semi)) (λ end. Gives (all_flows (group ∷ more)))))

-- 'when' NAME
abbrev pub IsClock : Name → List Token → Type 0
IsClock = Word mark.When IsName

-- local = group [ 'when' NAME ] ';' | '(' group ')' 'when' NAME ';'
abbrev pub IsLocal : List Decl → List Token → Type 0
IsLocal = OneOf
    (Part IsGroup (λ group. Part (Maybe IsClock) (λ clock. Word mark.Semi (Gives (flows_of group clock)))))
    (Word mark.Open (Part IsGroup (λ group. Word mark.Close (Part IsClock (λ clock. Word mark.Semi (Gives (flows_of group (Some clock))))))))

abbrev pub joined : {A : Type 0} → List (List A) → List A
joined [] = []
joined (xs ∷ more) = xs ++ joined more

-- 'var' local { local }
abbrev pub IsVar : List Decl → List Token → Type 0
IsVar = Word mark.Var (Part IsLocal (λ ds. Part (Each IsLocal) (λ more. Gives (joined (ds ∷ more)))))

-- lefts = NAME { ',' NAME } | '(' NAME { ',' NAME } ')'
abbrev pub IsLefts : List Name → List Token → Type 0
IsLefts = OneOf IsNames (Word mark.Open (Part IsNames (λ xs. Word mark.Close (Gives xs))))

-- an equation, or an assertion, which has no site yet
pub data Item : Type 0 where
  Equates : EquationTree → Item
  Assumes : AssertionTree → Item

abbrev pub equation_of : List Name → Tree → EquationTree
equation_of xs e = record { lefts = xs; right = e }

abbrev pub assertion_of : ℕ → Tree → AssertionTree
assertion_of at e = record { at = at; site = 0; body = e }

-- equation = lefts '=' expr ';' | 'assert' expr ';'
abbrev pub IsItem : Item → List Token → Type 0
IsItem = OneOf
    (Part IsLefts (λ xs. Part IsRight (λ e. Gives (Equates (equation_of xs e)))))
    (Part (Marked mark.Assert) (λ at. Part IsExprOf (λ e. Word mark.Semi (Gives (Assumes (assertion_of at e))))))

abbrev pub equations_of : List Item → List EquationTree
equations_of [] = []
equations_of (Equates q ∷ more) = q ∷ equations_of more
equations_of (Assumes a ∷ more) = equations_of more

abbrev pub assertions_of : List Item → List AssertionTree
assertions_of [] = []
assertions_of (Equates q ∷ more) = assertions_of more
assertions_of (Assumes a ∷ more) = a ∷ assertions_of more

-- 'node' NAME
abbrev pub IsTitle : Name → List Token → Type 0
IsTitle = Word mark.Node IsName

-- '(' decls ')'
abbrev pub IsInputs : List Decl → List Token → Type 0
IsInputs = Word mark.Open (Part IsDecls (λ ds. Word mark.Close (Gives ds)))

-- 'returns' '(' decls ')' [ ';' ]
abbrev pub IsOutputs : List Decl → List Token → Type 0
IsOutputs = Word mark.Returns (Part IsInputs (λ ds. Part (Maybe (Only mark.Semi)) (λ end. Gives ds)))

-- 'let' { equation } 'tel' [ ';' | '.' ]
abbrev pub IsBody : List Item → List Token → Type 0
IsBody = Word mark.Let (Part (Each IsItem) (λ items. Word mark.Tel (Part (Maybe (OneOf (Only mark.Semi) (Only mark.Dot))) (λ end. Gives items))))

abbrev pub node_of : Name → List Decl → List Decl → List (List Decl) → List Item → NodeTree
node_of x inputs outputs locals items = record {
  name = x;
  inputs = inputs;
  outputs = outputs;
  locals = joined locals;
  equations = equations_of items;
  assertions = assertions_of items;
}

-- node = 'node' NAME '(' decls ')' 'returns' '(' decls ')' [ ';' ] { 'var' local { local } } 'let' { equation } 'tel' [ ';' | '.' ]
abbrev pub IsNode : NodeTree → List Token → Type 0
IsNode = Part IsTitle (λ x. Part IsInputs (λ ins. Part IsOutputs (λ outs. Part (Each IsVar)
    (λ vars. Part IsBody (λ items. Gives (node_of x ins outs vars items))))))

-- one of the three that a program is made of
pub data Section : Type 0 where
  Types : List TypeDecl → Section
  Constants : List ConstantTree → Section
  OneNode : NodeTree → Section

-- types | consts | node
abbrev pub IsSection : Section → List Token → Type 0
IsSection = OneOf (Part IsTypes (λ ds. Gives (Types ds))) (OneOf (Part IsConstants (λ cs. Gives (Constants cs))) (Part IsNode (λ n. Gives (OneNode n))))

abbrev pub types_of : List Section → List TypeDecl
types_of [] = []
types_of (Types ds ∷ more) = ds ++ types_of more
types_of (Constants cs ∷ more) = types_of more
types_of (OneNode n ∷ more) = types_of more

abbrev pub constants_of : List Section → List ConstantTree
constants_of [] = []
constants_of (Types ds ∷ more) = constants_of more
constants_of (Constants cs ∷ more) = cs ++ constants_of more
constants_of (OneNode n ∷ more) = constants_of more

abbrev pub nodes_of : List Section → List NodeTree
nodes_of [] = []
nodes_of (Types ds ∷ more) = nodes_of more
nodes_of (Constants cs ∷ more) = nodes_of more
nodes_of (OneNode n ∷ more) = n ∷ nodes_of more

abbrev pub program_of : List Section → ProgramTree
program_of sections = record { types = types_of sections; constants = constants_of sections; nodes = nodes_of sections }

-- program = { types | consts | node }
-- The grammar derives these tokens with this tree, whose expressions and assertions have no sites yet.
abbrev pub IsProgram : ProgramTree → List Token → Type 0
IsProgram = Part (Each IsSection) (λ sections. Gives (program_of sections))

-- a program whose nodes have their sites
abbrev pub program_with_sites : ProgramTree → ProgramTree
program_with_sites p = record { types = p.types; constants = p.constants; nodes = map with_sites p.nodes }

-- The tree of these bytes: the grammar derives their tokens with a program, the nesting is at no token above the
-- limit, and the tree is that program with the sites of its nodes.
abbrev pub IsTextOf : List ℕ → ProgramTree → Type 0
IsTextOf bytes t = (p : ProgramTree) × (t ≡ program_with_sites p) × IsProgram p (tokens bytes) × IsShallowText Outside (tokens bytes)
