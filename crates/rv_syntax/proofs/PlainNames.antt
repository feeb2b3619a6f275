-- The names in the tree of a text are words: each is that of a token.
use Rattle.std.proofs.Common.{◌≡◌, true, false, List, [], ◌∷◌, map, sym, subst, ℕ}
use Rattle.std.specs.Prelude.{⊤, None as Nothing}
use Rattle.rv_tree.specs.{declared.tree.Decl.Decl, declared.tree.Name.Name, declared.tree.TypeBody.TypeBody, declared.tree.TypeBody.TheVariants.Alias}
use Rattle.rv_tree.specs.{declared.tree.TypeBody.TheVariants.Labels, declared.tree.TypeDecl.TypeDecl, declared.tree.TypeName.TypeName, Groups.Group}
use Rattle.rv_tree.specs.{Groups.flow, Groups.flows_of, Sites.with_sites, Tree.NodeTree, Tree.ProgramTree, Words.is_name, Words.HasPlainNames}
use Rattle.rv_syntax.specs.declared.token.Mark.TheVariants as mark
use Rattle.rv_syntax.specs.ProgramText.{IsDecls, IsEnumeration, IsGroup, IsInputs, IsName, IsNames, IsNode, IsProgram, IsSection, IsTextOf, IsType, IsTypeBody}
use Rattle.rv_syntax.specs.ProgramText.{IsTypes, Section, Types, Constants, OneNode, all_flows, nodes_of, types_of}
use Rattle.rv_syntax.specs.{Lexing.tokens}
use Rattle.rv_syntax.proofs.FineTokens.{AreFine, Keeps, Every, any, gives, after-word, parts, one-of, each, lex-fine, joined-every, every-of}
use Rattle.rv_base.proofs.Lists.{from_map}

-- ---- Names.
abbrev pub IsPlainName : Name → Type 0
IsPlainName x = is_name x.text ≡ true

name : Keeps IsName IsPlainName
name x ts h f = let g = subst AreFine h f in g.0

names : Keeps IsNames (Every IsPlainName)
names = parts name (λ x p. parts (each (after-word mark.Comma name)) (λ more q. gives _ (p, q)))

-- ---- Types.
abbrev pub HasLabels : TypeBody → Type 0
HasLabels (Alias t) = ⊤
HasLabels (Labels xs) = Every IsPlainName xs

abbrev pub IsPlainType : TypeDecl → Type 0
IsPlainType d = HasLabels d.body

enumeration : Keeps IsEnumeration HasLabels
enumeration = after-word mark.Enum (after-word mark.OpenBrace (parts names (λ xs p. after-word mark.CloseBrace (gives _ p))))

type-body : Keeps IsTypeBody HasLabels
type-body = one-of enumeration (parts (any _) (λ k u. gives _ tt))

one-type : Keeps IsType IsPlainType
one-type = parts (any _) (λ x u. after-word mark.Equal (parts type-body (λ body p. after-word mark.Semi (gives _ p))))

types : Keeps IsTypes (Every IsPlainType)
types = after-word mark.Type (parts one-type (λ d p. parts (each one-type) (λ more q. gives _ (p, q))))

-- ---- Nodes.
abbrev pub IsPlainDecl : Decl → Type 0
IsPlainDecl d = is_name d.name.text ≡ true

abbrev pub IsPlainGroup : Group → Type 0
IsPlainGroup g = Every IsPlainName g.0

flows-plain : (k : TypeName) (xs : List Name) → Every IsPlainName xs → Every IsPlainDecl (map (flow k Nothing) xs)
flows-plain k [] h = tt
flows-plain k (x ∷ xs) h = (h.0, flows-plain k xs h.1)

all-plain : (groups : List Group) → Every IsPlainGroup groups → Every IsPlainDecl (all_flows groups)
all-plain [] h = tt
all-plain (g ∷ more) h = joined-every IsPlainDecl (flows_of g Nothing) (all_flows more) (flows-plain g.1 g.0 h.0) (all-plain more h.1)

group : Keeps IsGroup IsPlainGroup
group = parts names (λ xs p. after-word mark.Colon (parts (any _) (λ k u. gives _ p)))

decls : Keeps IsDecls (Every IsPlainDecl)
decls = parts group (λ g p. parts (each (after-word mark.Semi group)) (λ more q. parts (any _) (λ end u. gives _ (all-plain (g ∷ more) (p, q)))))

inputs : Keeps IsInputs (Every IsPlainDecl)
inputs = after-word mark.Open (parts decls (λ ds p. after-word mark.Close (gives _ p)))

abbrev pub IsPlainNode : NodeTree → Type 0
IsPlainNode n = IsPlainName n.name × Every IsPlainDecl n.inputs

node : Keeps IsNode IsPlainNode
node = parts (after-word mark.Node name) (λ x p. parts inputs (λ ins q. parts (any _) (λ outs u. parts (any _) (λ vars v. parts (any _) (λ items w.
    gives _ (p, q))))))

-- ---- Programs.
abbrev pub IsPlainSection : Section → Type 0
IsPlainSection (Types ds) = Every IsPlainType ds
IsPlainSection (Constants cs) = ⊤
IsPlainSection (OneNode n) = IsPlainNode n

section : Keeps IsSection IsPlainSection
section = one-of (parts types (λ ds p. gives _ p)) (one-of (parts (any _) (λ cs u. gives _ tt)) (parts node (λ n p. gives _ p)))

abbrev pub IsPlainProgram : ProgramTree → Type 0
IsPlainProgram p = Every IsPlainType p.types × Every IsPlainNode p.nodes

types-plain : (sections : List Section) → Every IsPlainSection sections → Every IsPlainType (types_of sections)
types-plain [] h = tt
types-plain (Types ds ∷ more) h = joined-every IsPlainType ds (types_of more) h.0 (types-plain more h.1)
types-plain (_ ∷ more) h = types-plain more h.1

nodes-plain : (sections : List Section) → Every IsPlainSection sections → Every IsPlainNode (nodes_of sections)
nodes-plain [] h = tt
nodes-plain (OneNode n ∷ more) h = (h.0, nodes-plain more h.1)
nodes-plain (_ ∷ more) h = nodes-plain more h.1

program : Keeps IsProgram IsPlainProgram
program = parts (each section) (λ sections p. gives _ (types-plain sections p, nodes-plain sections p))

pub plain-text : (bytes : List ℕ) (t : ProgramTree) → IsTextOf bytes t → HasPlainNames t
plain-text bytes t h =
    let p : ProgramTree = h.0 in
    let plain : IsPlainProgram p = program p (tokens bytes) h.2 (lex-fine 0 false 0 bytes) in
    subst HasPlainNames (sym h.1) record {
      labels = λ d inside xs is x at. every-of IsPlainName xs x at (subst HasLabels is (every-of IsPlainType p.types d inside plain.0));
      nodes = λ n inside.
          let from = from_map with_sites p.nodes n inside in
          subst (λ (m : NodeTree). is_name m.name.text ≡ true) from.2 (every-of IsPlainNode p.nodes from.0 from.1 plain.1).0;
      inputs = λ n d inside at.
          let from = from_map with_sites p.nodes n inside in
          every-of IsPlainDecl n.inputs d at (subst (λ (m : NodeTree). Every IsPlainDecl m.inputs) from.2
          (every-of IsPlainNode p.nodes from.0 from.1 plain.1).1);
    }
