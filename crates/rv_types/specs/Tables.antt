-- What names stand for, by tables: what is known of each name stands at the number of its declaration.
use Rattle.std.specs.Prelude.{ℕ, Bool, false, not, ◌&&◌, cond, List, [], Option, Some, slice_get, None as Nothing}
use Rattle.rv_tree.specs.{declared.tree.Name.Name, Places.Identifier, Places.index_of, declared.tree.Op.Op}
use Rattle.rv_types.specs.Types.{Signature, Scope, suits}
use Rattle.rv_types.specs.{declared.typed.Kind.Kind, declared.typed.Kind.TheVariants.Labels, declared.view.Label.Label, Names.texts, Names.is_declared}
use Rattle.rv_tree.specs.declared.tree.Op.TheVariants as op

-- what a table has for a name
abbrev pub entry_in : {A : Type 0} → List Name → List A → Identifier → Option A
entry_in names entries x = cond (is_declared names x) (slice_get entries (index_of (texts names) x)) Nothing

abbrev pub type_of_label : Option Label → Option Kind
type_of_label Nothing = Nothing
type_of_label (Some l) = Some (Labels l.declaration)

-- the type of a constant where there is one of the name so far, otherwise that of a label
abbrev pub constant_or : Option (Option Kind) → Option Kind → Option Kind
constant_or Nothing label = label
constant_or (Some k) label = k

abbrev pub value_in : List Name → List (Option Kind) → List Name → List Label → Identifier → Option Kind
value_in constants kinds labels places x = constant_or (entry_in constants kinds x) (type_of_label (entry_in labels places x))

-- the type of a flow where there is one of the name, otherwise another
abbrev pub flow_or : Option Kind → Option Kind → Option Kind
flow_or Nothing other = other
flow_or (Some k) other = Some k

-- The tables by which an expression is read: of flows, of constants with their types so far, of labels, and of nodes.
-- `moves` is as in a scope. In a constant there are no flows and no nodes.
pub record Tables : Type 0 where
  pub flows : List Name
  pub flow_kinds : List Kind
  pub constants : List Name
  pub constant_kinds : List (Option Kind)
  pub labels : List Name
  pub places : List Label
  pub nodes : List Name
  pub signatures : List Signature
  pub moves : Bool

abbrev pub scope_of : Tables → Scope
scope_of t = record {
  kind = λ x. flow_or (entry_in t.flows t.flow_kinds x) (value_in t.constants t.constant_kinds t.labels t.places x);
  clock = λ x. entry_in t.flows t.flow_kinds x;
  callee = λ f. entry_in t.nodes t.signatures f;
  fixed = λ x. not (is_declared t.flows x);
  moves = t.moves;
}

abbrev pub takes_in : Option Signature → List Kind
takes_in Nothing = []
takes_in (Some g) = g.takes

-- an operand of the type that is wanted at a number; false past the end
abbrev pub suits_where : Option Kind → Option Kind → Bool
suits_where Nothing found = false
suits_where (Some k) found = suits k found

abbrev pub suits_at : List Kind → ℕ → Option Kind → Bool
suits_at wanted number found = suits_where (slice_get wanted number) found

-- whether an operator between two constants gives a constant
abbrev pub stays_constant : Op → Bool → Bool → Bool
stays_constant op.Arrow a b = false
stays_constant _ a b = a && b
