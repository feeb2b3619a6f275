-- What a flat system keeps in its type beside what makes it well formed: the flows of its ticks, its counts, and weights within
-- their limit.
use Rattle.std.specs.Prelude.{ℕ, ◌+◌, ◌*◌, max, nat_abs, Bool, true, ◌&&◌, nat_le, cond, List, [], ◌∷◌, ◌++◌, map, length, slice_index_or}
use Rattle.rv_base.specs.{declared.value.Value.Value, declared.value.Value.TheVariants.Whole, Limits.heaviest}
use Rattle.rv_tree.specs.{declared.tree.Op.Op, Places.Sites, Places.is_among, Places.index_of}
use Rattle.rv_tree.specs.declared.tree.Op.TheVariants as op
use Rattle.rv_types.specs.{declared.typed.Kind.Kind, Variables.total, Variables.is_integer}
use Rattle.rv_agreement.specs.Trees.{FlatTree, Node, TreeForm, FlatTrees, Constant, Flow, Memory, Ticked, Input, Not, Binary, Scale, If, AtMostOne, When}
use Rattle.rv_agreement.specs.Trees.{Current, None, More, Item}

-- the clock of each tick is that of a flow
abbrev pub ticks_known : List Sites → List Sites → Bool
ticks_known places [] = true
ticks_known places (p ∷ ps) = is_among places p && ticks_known places ps

-- the numbers of the flows at some places
abbrev pub numbers_among : List Sites → List Sites → List ℕ
numbers_among places ps = map (index_of places) ps

-- how many of some types are that of integers
abbrev pub integers : List Kind → ℕ
integers ks = total (λ k. cond (is_integer k) 1 0) ks

-- no enumeration has more labels
abbrev pub all_few : ℕ → List (List (List ℕ)) → Bool
all_few limit [] = true
all_few limit (ls ∷ rest) = nat_le (length ls) limit && all_few limit rest

-- Weights: a bound on the magnitude of an integer in terms of what memories and inputs hold.

abbrev pub constant_weight : Value → ℕ
constant_weight (Whole z) = nat_abs z
constant_weight _ = 0

abbrev pub weight_under : Op → ℕ → ℕ → ℕ
weight_under op.Plus v w = v + w
weight_under op.Minus v w = v + w
weight_under _ v w = 0

-- where the flows have these weights
module _ (flows : List ℕ) where
  abbrev mutual
    pub flat_weight : FlatTree → ℕ
    flat_weight (Node at form) = form_flat_weight form

    pub form_flat_weight : TreeForm → ℕ
    form_flat_weight (Constant v) = constant_weight v
    form_flat_weight (Flow k) = slice_index_or flows k 0
    form_flat_weight (Memory m) = 1
    form_flat_weight (Ticked t) = 0
    form_flat_weight (Input j) = 1
    form_flat_weight (Not e) = 0
    form_flat_weight (Binary o a b) = weight_under o (flat_weight a) (flat_weight b)
    form_flat_weight (Scale n e) = nat_abs n * flat_weight e
    form_flat_weight (If c a b) = max (flat_weight a) (flat_weight b)
    form_flat_weight (AtMostOne es) = 0
    form_flat_weight (When c e) = flat_weight e
    form_flat_weight (Current m k e) = max (flat_weight e) 1

  -- no part is above the limit
  abbrev mutual
    pub is_light : FlatTree → Bool
    is_light (Node at form) = nat_le (form_flat_weight form) heaviest && form_is_light form

    pub form_is_light : TreeForm → Bool
    form_is_light (Not e) = is_light e
    form_is_light (Binary o a b) = is_light a && is_light b
    form_is_light (Scale n e) = nat_le (nat_abs n) heaviest && is_light e
    form_is_light (If c a b) = is_light c && (is_light a && is_light b)
    form_is_light (AtMostOne es) = all_light es
    form_is_light (When c e) = is_light e
    form_is_light (Current m k e) = is_light e
    form_is_light _ = true

    pub all_light : FlatTrees → Bool
    all_light None = true
    all_light (More e es) = is_light e && all_light es

-- the weights of flows, after those of earlier ones
abbrev pub weights_after : List ℕ → List Item → List ℕ
weights_after ws [] = ws
weights_after ws (x ∷ xs) = weights_after (ws ++ flat_weight ws x.body ∷ []) xs

abbrev pub flow_weights : List Item → List ℕ
flow_weights flows = weights_after [] flows

abbrev pub items_light : List ℕ → List Item → Bool
items_light ws [] = true
items_light ws (x ∷ xs) = is_light ws x.body && items_light ws xs
