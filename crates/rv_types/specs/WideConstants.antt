-- The least offset of what is too wide in constants.
use Rattle.std.specs.Prelude.{ℕ, min, cond, nat_lt, List, [], ◌∷◌, Option, Some, None as Nothing}
use Rattle.rv_base.specs.{declared.value.Value.Value, Limits.heaviest}
use Rattle.rv_tree.specs.Tree.{Tree, Node, Form, True, False, Number, Named, Not, Minus, Pre, Current, When, Binary, If, AtMostOne, Call, Trees, None, More}
use Rattle.rv_tree.specs.Tree.{ConstantTree, ProgramTree}
use Rattle.rv_tree.specs.Places.{Identifier}
use Rattle.rv_types.specs.{Constants.form_weight, Scopes.constant_value_after}

-- the lesser of two offsets
abbrev pub lesser : Option ℕ → Option ℕ → Option ℕ
lesser Nothing b = b
lesser (Some a) Nothing = Some a
lesser (Some a) (Some b) = Some (min a b)

-- the offset of an expression of a weight, where that is above 2^40
abbrev pub wide_at : ℕ → ℕ → Option ℕ
wide_at at weight = cond (nat_lt heaviest weight) (Some at) Nothing

module _ (known : Identifier → Value) where
  -- The least offset of what is too wide in the body of a constant, where the names of constants have these values.
  abbrev mutual
    pub first_wide : Tree → Option ℕ
    first_wide (Node at site form) = lesser (wide_at at (form_weight known form)) (wide_below form)

    pub wide_below : Form → Option ℕ
    wide_below True = Nothing
    wide_below False = Nothing
    wide_below (Number n) = Nothing
    wide_below (Named x) = Nothing
    wide_below (Not e) = first_wide e
    wide_below (Minus e) = first_wide e
    wide_below (Pre e) = first_wide e
    wide_below (Current e) = first_wide e
    wide_below (When e c) = first_wide e
    wide_below (Binary o a b) = lesser (first_wide a) (first_wide b)
    wide_below (If a b c) = lesser (first_wide a) (lesser (first_wide b) (first_wide c))
    wide_below (AtMostOne es) = first_wide_of_all es
    wide_below (Call f es) = first_wide_of_all es

    pub first_wide_of_all : Trees → Option ℕ
    first_wide_of_all None = Nothing
    first_wide_of_all (More e es) = lesser (first_wide e) (first_wide_of_all es)

-- the same in some constants, the last of them first
abbrev pub first_wide_constant : ProgramTree → List ConstantTree → Option ℕ
first_wide_constant p [] = Nothing
first_wide_constant p (c ∷ before) = lesser (first_wide_constant p before) (first_wide (constant_value_after p before) c.body)
