-- A constant, by the tables of what stands before it.
use Rattle.std.specs.Prelude.{◌≡◌, ℕ, cond, List, [], ◌++◌, map, reverse, Option, Some, None as Nothing}
use Rattle.rv_tree.specs.{declared.tree.Name.Name, declared.tree.TypeName.TypeName, Tree.ConstantTree, Tree.ProgramTree, Places.Identifier}
use Rattle.rv_types.specs.Names.{type_names, constant_names, label_names, node_names, repeated}
use Rattle.rv_types.specs.Types.{Scope, Signature, same_kind, kind_of, expression_types}
use Rattle.rv_types.specs.{declared.typed.Kind.Kind, declared.view.Label.Label, declared.fault.NameFault.NameFault, Parts.offset_of, Kinds.written_kind}
use Rattle.rv_types.specs.{Scopes.clash_unless, Scopes.constant_kinds_of, Scopes.signature_of, TypeTables.declared_kinds, TypeTables.places_from}

-- a type where it is the declared one, or none is declared; names of types mean these
abbrev pub as_declared_by : (Identifier → Option Kind) → Option TypeName → Option Kind → Option Kind
as_declared_by named Nothing k = k
as_declared_by named (Some t) Nothing = Nothing
as_declared_by named (Some t) (Some k) = cond (same_kind k (written_kind named t)) (Some k) Nothing

-- where a declared type is not that of the body
abbrev pub declared_clash : (Identifier → Option Kind) → ℕ → Option TypeName → Option Kind → List NameFault
declared_clash named at Nothing k = []
declared_clash named at (Some t) k = clash_unless at (written_kind named t) k

-- what breaks a rule of types in a constant, of the scope of its body
abbrev pub constant_types_by : (Identifier → Option Kind) → Scope → ConstantTree → List NameFault
constant_types_by named s c = expression_types s c.body ++ declared_clash named (offset_of c.body) c.kind (kind_of s c.body)

-- These are the tables of what a program declares, whose names are different.
pub record AreTablesOf (p : ProgramTree) (types : List Name) (kinds : List Kind) (constants labels : List Name) (places : List Label) : Type 0 where
  pub type_table : types ≡ type_names p
  pub kind_table : kinds ≡ declared_kinds (reverse p.types)
  pub constant_table : constants ≡ constant_names p
  pub label_table : labels ≡ label_names p
  pub place_table : places ≡ places_from 0 p.types
  pub different_types : repeated [] (type_names p) ≡ []
  pub different_constants : repeated [] (constant_names p) ≡ []

-- And these are those of its nodes: the types of constants, and what nodes take and give.
pub record AreNodeTablesOf (p : ProgramTree) (constant_kinds : List (Option Kind)) (nodes : List Name) (signatures : List Signature) : Type 0 where
  pub constant_kind_table : constant_kinds ≡ constant_kinds_of p (reverse p.constants)
  pub node_table : nodes ≡ node_names p
  pub signature_table : signatures ≡ map (signature_of p) p.nodes
