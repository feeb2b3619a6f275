-- The types of the operands of `pre` and `current`: of a list of these, and in the order in which a walk over the
-- expressions of a node comes to them.
use Rattle.std.specs.Prelude.{List, [], ◌∷◌, ◌++◌, map, flat_map, unwrap_or}
use Rattle.rv_tree.specs.{Delays.Delay, Tree.Tree, Tree.Node, Tree.Form, Tree.True, Tree.False, Tree.Number, Tree.Named, Tree.Not, Tree.Minus, Tree.Pre}
use Rattle.rv_tree.specs.{Tree.Current, Tree.When, Tree.Binary, Tree.If, Tree.AtMostOne, Tree.Call, Tree.Trees, Tree.None, Tree.More, Tree.NodeTree}
use Rattle.rv_types.specs.{declared.typed.Kind.Kind, Types.Scope, Types.kind_of}
use Rattle.rv_types.specs.declared.typed.Kind.TheVariants as kind

-- the type of the operand of one; `Bool` where it has none
abbrev pub delayed_kind : Scope → Delay → Kind
delayed_kind s d = unwrap_or (kind_of s d.operand) kind.Bool

abbrev pub delayed_kinds : Scope → List Delay → List Kind
delayed_kinds s ds = map (delayed_kind s) ds

module _ (s : Scope) where
  abbrev mutual
    -- the types of the operands of the `pre` and `current` of an expression, each before those that stand in it; `Bool` where
    -- one has none
    pub delayed_in : Tree → List Kind
    delayed_in (Node at site form) = form_delayed form

    pub form_delayed : Form → List Kind
    form_delayed True = []
    form_delayed False = []
    form_delayed (Number v) = []
    form_delayed (Named x) = []
    form_delayed (Not e) = delayed_in e
    form_delayed (Minus e) = delayed_in e
    form_delayed (Pre e) = unwrap_or (kind_of s e) kind.Bool ∷ delayed_in e
    form_delayed (Current e) = unwrap_or (kind_of s e) kind.Bool ∷ delayed_in e
    form_delayed (When e c) = delayed_in e
    form_delayed (Binary o a b) = delayed_in a ++ delayed_in b
    form_delayed (If a b c) = delayed_in a ++ (delayed_in b ++ delayed_in c)
    form_delayed (AtMostOne es) = delayed_in_all es
    form_delayed (Call f es) = delayed_in_all es

    pub delayed_in_all : Trees → List Kind
    delayed_in_all None = []
    delayed_in_all (More e es) = delayed_in e ++ delayed_in_all es

  -- those of all expressions of a node
  abbrev pub node_delayed : NodeTree → List Kind
  node_delayed n = flat_map (λ q. delayed_in q.right) n.equations ++ flat_map (λ a. delayed_in a.body) n.assertions
