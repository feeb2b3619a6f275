-- The types of expressions, and where they clash: one table of rules gives both.
use Rattle.std.specs.Prelude.{ℕ, Bool, true, false, ◌&&◌, ◌||◌, cond, nat_eq, List, [], ◌∷◌, Option, Some, None as Nothing}
use Rattle.rv_tree.specs.Tree.{Tree, Form, Trees, Node, True, False, Number, Named, Not, Minus, Pre, Current, When, Binary, If, AtMostOne, Call, None, More}
use Rattle.rv_tree.specs.{declared.tree.Op.Op, Places.Identifier}
use Rattle.rv_tree.specs.declared.tree.Op.TheVariants as op
use Rattle.rv_types.specs.declared.typed.Kind.TheVariants.{Bool as Boolean, Int, Labels}
use Rattle.rv_types.specs.declared.fault.NameFault.TheVariants.{TypeClash, Nonlinear}
use Rattle.rv_types.specs.declared.fault.Verdict.TheVariants.{Has, Silent, Clashes, Multiplies}
use Rattle.rv_types.specs.{declared.typed.Kind.Kind, declared.fault.NameFault.NameFault, declared.fault.Verdict.Verdict, Parts.faults}

-- A `Verdict` on an expression: it has a type; it has none, since a part has none; the parts have types and its own
-- rule fails, by a clash or by a product that is not linear.

abbrev pub kind_in : Verdict → Option Kind
kind_in (Has k) = Some k
kind_in _ = Nothing

-- the fault of a verdict on the expression at an offset
abbrev pub fault_in : ℕ → Verdict → List NameFault
fault_in at (Has k) = []
fault_in at Silent = []
fault_in at Clashes = TypeClash at ∷ []
fault_in at Multiplies = Nonlinear at ∷ []

-- Two enumerations differ.
abbrev pub same_kind : Kind → Kind → Bool
same_kind Boolean Boolean = true
same_kind Int Int = true
same_kind (Labels n) (Labels m) = nat_eq n m
same_kind _ _ = false

-- what has a type where a rule is met, and clashes otherwise
abbrev pub where_met : Bool → Kind → Verdict
where_met met k = cond met (Has k) Clashes

-- a rule of one operand, of two, of three: it is tried where all have types
abbrev pub one_of : (Kind → Verdict) → Option Kind → Verdict
one_of rule Nothing = Silent
one_of rule (Some k) = rule k

abbrev pub two_of : (Kind → Kind → Verdict) → Option Kind → Option Kind → Verdict
two_of rule Nothing _ = Silent
two_of rule (Some j) Nothing = Silent
two_of rule (Some j) (Some k) = rule j k

abbrev pub three_of : (Kind → Kind → Kind → Verdict) → Option Kind → Option Kind → Option Kind → Verdict
three_of rule Nothing _ _ = Silent
three_of rule (Some i) Nothing _ = Silent
three_of rule (Some i) (Some j) Nothing = Silent
three_of rule (Some i) (Some j) (Some k) = rule i j k

abbrev pub both_are : Kind → Kind → Kind → Bool
both_are wanted j k = same_kind j wanted && same_kind k wanted

-- whether each operand has a type
abbrev pub all_typed : List (Option Kind) → Bool
all_typed [] = true
all_typed (Nothing ∷ ks) = false
all_typed (Some k ∷ ks) = all_typed ks

-- an operand of this type, where it has one
abbrev pub suits : Kind → Option Kind → Bool
suits wanted Nothing = true
suits wanted (Some k) = same_kind k wanted

abbrev pub all_suit : Kind → List (Option Kind) → Bool
all_suit wanted [] = true
all_suit wanted (k ∷ ks) = suits wanted k && all_suit wanted ks

-- as many operands as types are wanted, each of its type
abbrev pub fit : List Kind → List (Option Kind) → Bool
fit [] [] = true
fit (wanted ∷ ws) (k ∷ ks) = suits wanted k && fit ws ks
fit _ _ = false

-- The rules.

-- an operator between two operands; `moves` says whether `->` may stand here, `scaled` whether an operand is constant
abbrev pub binary_rule : Bool → Bool → Op → Kind → Kind → Verdict
binary_rule moves scaled op.Arrow j k = where_met (moves && same_kind j k) j
binary_rule moves scaled op.Implies j k = where_met (both_are Boolean j k) Boolean
binary_rule moves scaled op.Or j k = where_met (both_are Boolean j k) Boolean
binary_rule moves scaled op.Xor j k = where_met (both_are Boolean j k) Boolean
binary_rule moves scaled op.And j k = where_met (both_are Boolean j k) Boolean
binary_rule moves scaled op.Equal j k = where_met (same_kind j k) Boolean
binary_rule moves scaled op.Differs j k = where_met (same_kind j k) Boolean
binary_rule moves scaled op.Less j k = where_met (both_are Int j k) Boolean
binary_rule moves scaled op.AtMost j k = where_met (both_are Int j k) Boolean
binary_rule moves scaled op.Greater j k = where_met (both_are Int j k) Boolean
binary_rule moves scaled op.AtLeast j k = where_met (both_are Int j k) Boolean
binary_rule moves scaled op.Plus j k = where_met (both_are Int j k) Int
binary_rule moves scaled op.Minus j k = where_met (both_are Int j k) Int
binary_rule moves scaled op.Times j k = cond (both_are Int j k) (cond scaled (Has Int) Multiplies) Clashes
binary_rule moves scaled op.Slash j k = Multiplies
binary_rule moves scaled op.Div j k = Multiplies
binary_rule moves scaled op.Mod j k = Multiplies

abbrev pub not_rule : Kind → Verdict
not_rule k = where_met (same_kind k Boolean) Boolean

abbrev pub minus_rule : Kind → Verdict
minus_rule k = where_met (same_kind k Int) Int

-- `pre` and `current` keep the type
abbrev pub memory_rule : Bool → Kind → Verdict
memory_rule moves k = where_met moves k

-- `E when C` in a node, of the types of both; in a constant C is not looked up
abbrev pub when_rule : Kind → Kind → Verdict
when_rule j c = where_met (same_kind c Boolean) j

abbrev pub when_of : Bool → Option Kind → Option Kind → Verdict
when_of moves j c = cond moves (two_of when_rule j c) (one_of (λ k. Clashes) j)

abbrev pub if_rule : Kind → Kind → Kind → Verdict
if_rule i j k = where_met (same_kind i Boolean && same_kind j k) j

abbrev pub at_most_one_of : List (Option Kind) → Verdict
at_most_one_of ks = cond (all_typed ks) (where_met (all_suit Boolean ks) Boolean) Silent

-- the one output of a call that stands in an expression
abbrev pub sole : List Kind → Verdict
sole [] = Clashes
sole (k ∷ []) = Has k
sole (k ∷ _) = Clashes

-- what a node takes and gives: the types of its inputs and of its outputs
pub record Signature : Type 0 where
  pub takes : List Kind
  pub gives : List Kind

-- a call of a node, by the types of its arguments; a name that no node has is refused before
abbrev pub call_rule : Option Signature → List (Option Kind) → Verdict
call_rule Nothing ks = Silent
call_rule (Some g) ks = cond (all_typed ks) (cond (fit g.takes ks) (sole g.gives) Clashes) Silent

-- a call, which clashes in a constant
abbrev pub call_of : Bool → Option Signature → List (Option Kind) → Verdict
call_of moves g ks = cond moves (call_rule g ks) (cond (all_typed ks) Clashes Silent)

-- What the names in an expression stand for. `kind` is the type of a flow, constant or label; `clock` is the type of
-- the flow after `when`; `callee` is what a node takes and gives; `fixed` says whether a name is a constant or label;
-- `moves` whether `pre`, `->`, `when`, `current` and calls may stand here, as in a node and not in a constant.
pub record Scope : Type 0 where
  pub kind : Identifier → Option Kind
  pub clock : Identifier → Option Kind
  pub callee : Identifier → Option Signature
  pub fixed : Identifier → Bool
  pub moves : Bool

-- A constant expression: literals, labels and constants under operators other than `pre`, `->`, `when`, `current`
-- and calls.
module _ (s : Scope) where
  abbrev mutual
    pub is_constant : Tree → Bool
    is_constant (Node at site form) = is_constant_form form

    pub is_constant_form : Form → Bool
    is_constant_form True = true
    is_constant_form False = true
    is_constant_form (Number n) = true
    is_constant_form (Named x) = s.fixed x
    is_constant_form (Not e) = is_constant e
    is_constant_form (Minus e) = is_constant e
    is_constant_form (Pre e) = false
    is_constant_form (Current e) = false
    is_constant_form (When e c) = false
    is_constant_form (Binary op.Arrow a b) = false
    is_constant_form (Binary _ a b) = is_constant a && is_constant b
    is_constant_form (If a b c) = is_constant a && (is_constant b && is_constant c)
    is_constant_form (AtMostOne es) = are_constant es
    is_constant_form (Call f es) = false

    pub are_constant : Trees → Bool
    are_constant None = true
    are_constant (More e es) = is_constant e && are_constant es

module _ (s : Scope) where
  abbrev mutual
    -- the verdict on an expression
    pub verdict : Tree → Verdict
    verdict (Node at site form) = form_verdict form

    pub form_verdict : Form → Verdict
    form_verdict True = Has Boolean
    form_verdict False = Has Boolean
    form_verdict (Number n) = Has Int
    form_verdict (Named x) = one_of Has (s.kind x)
    form_verdict (Not e) = one_of not_rule (kind_in (verdict e))
    form_verdict (Minus e) = one_of minus_rule (kind_in (verdict e))
    form_verdict (Pre e) = one_of (memory_rule s.moves) (kind_in (verdict e))
    form_verdict (Current e) = one_of (memory_rule s.moves) (kind_in (verdict e))
    form_verdict (When e c) = when_of s.moves (kind_in (verdict e)) (s.clock c.text)
    form_verdict (Binary o a b) = two_of (binary_rule s.moves (is_constant s a || is_constant s b) o) (kind_in (verdict a)) (kind_in (verdict b))
    form_verdict (If a b c) = three_of if_rule (kind_in (verdict a)) (kind_in (verdict b)) (kind_in (verdict c))
    form_verdict (AtMostOne es) = at_most_one_of (kinds_of_all es)
    form_verdict (Call f es) = call_of s.moves (s.callee f) (kinds_of_all es)

    -- the types of operands or arguments, in order
    pub kinds_of_all : Trees → List (Option Kind)
    kinds_of_all None = []
    kinds_of_all (More e es) = kind_in (verdict e) ∷ kinds_of_all es

  -- the type of an expression, where it has one
  abbrev pub kind_of : Tree → Option Kind
  kind_of e = kind_in (verdict e)

  -- the fault of types that an expression has of its own
  abbrev pub own_type_fault : Tree → List NameFault
  own_type_fault (Node at site form) = fault_in at (form_verdict form)

  -- and those of its parts
  abbrev pub expression_types : Tree → List NameFault
  expression_types = faults own_type_fault
