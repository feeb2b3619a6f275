-- What tells the type of an expression, without a look at more than one of its operands.
use Rattle.std.specs.Prelude.{unwrap_or, Option, Some, slice_get, None as Nothing}
use Rattle.rv_tree.specs.Tree.{Tree, Form, Node, True, False, Number, Named, Not, Minus, Pre, Current, When, Binary, If, AtMostOne, Call}
use Rattle.rv_tree.specs.{declared.tree.Op.Op, Places.Identifier}
use Rattle.rv_tree.specs.declared.tree.Op.TheVariants as op
use Rattle.rv_types.specs.{declared.typed.Kind.Kind, Types.Scope, Types.Signature}
use Rattle.rv_types.specs.declared.typed.Kind.TheVariants as kind

-- the type that an operator gives whatever its operands are; `->` gives that of its operands
abbrev pub kind_given : Op → Option Kind
kind_given op.Arrow = Nothing
kind_given op.Plus = Some kind.Int
kind_given op.Minus = Some kind.Int
kind_given op.Times = Some kind.Int
kind_given op.Slash = Some kind.Int
kind_given op.Div = Some kind.Int
kind_given op.Mod = Some kind.Int
kind_given _ = Some kind.Bool

-- the type itself, the name of a flow, constant or label, or the name of the node that is called
pub data Telling : Type 0 where
  Itself : Kind → Telling
  OfName : Identifier → Telling
  OfCallee : Identifier → Telling

-- What tells the type of an expression. Of operands that have its type the first one does.
abbrev mutual
  pub telling : Tree → Telling
  telling (Node at site form) = form_telling form

  pub form_telling : Form → Telling
  form_telling True = Itself kind.Bool
  form_telling False = Itself kind.Bool
  form_telling (Number n) = Itself kind.Int
  form_telling (Named x) = OfName x
  form_telling (Not e) = Itself kind.Bool
  form_telling (Minus e) = Itself kind.Int
  form_telling (Pre e) = telling e
  form_telling (Current e) = telling e
  form_telling (When e c) = telling e
  form_telling (Binary o a b) = elim (kind_given o) as (λ _. Telling) [ Nothing ↦ telling a | Some k ↦ Itself k ]
  form_telling (If a b c) = telling b
  form_telling (AtMostOne es) = Itself kind.Bool
  form_telling (Call f es) = OfCallee f

-- the type of the first output of a node
abbrev pub first_output : Option Signature → Option Kind
first_output Nothing = Nothing
first_output (Some g) = slice_get g.gives 0

module _ (s : Scope) where
  -- the type that is told, where names stand for what they do in a scope
  abbrev pub meant : Telling → Option Kind
  meant (Itself k) = Some k
  meant (OfName x) = s.kind x
  meant (OfCallee f) = first_output (s.callee f)

  -- The type that the head of an expression tells, `Bool` where it tells none. Of an expression that has a type it is that; of
  -- another it says nothing.
  abbrev pub head_kind : Tree → Kind
  head_kind e = unwrap_or (meant (telling e)) kind.Bool
