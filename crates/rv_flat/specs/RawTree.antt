-- A flat expression without where its parts lie in memory. `Current m` names its memory alone.
use Rattle.std.specs.Prelude.{ℕ, ℤ, Bool, true, ◌&&◌, List, [], ◌∷◌}
use Rattle.rv_base.specs.declared.value.Value.{Value}
use Rattle.rv_tree.specs.{declared.tree.Op.Op, Places.Sites}
use Rattle.rv_flat.specs.{declared.parts.FlatExpr.FlatExpr, declared.parts.FlatForm.TheOpen.FlatForm-F, declared.parts.FlatForm.TheFolds.fold-FlatExpr}
use Rattle.rv_flat.specs.declared.parts.FlatForm.TheOpen as step

mutual
  pub data RawTree : Type 0 where
    Node : (at : Sites) (form : RawForm) → RawTree

  pub data RawForm : Type 0 where
    Constant : Value → RawForm
    Flow : ℕ → RawForm
    Memory : ℕ → RawForm
    Ticked : ℕ → RawForm
    Input : ℕ → RawForm
    Not : RawTree → RawForm
    Binary : Op → RawTree → RawTree → RawForm
    Scale : ℤ → RawTree → RawForm
    If : RawTree → RawTree → RawTree → RawForm
    AtMostOne : RawTrees → RawForm
    When : ℕ → RawTree → RawForm
    Current : ℕ → RawForm

  pub data RawTrees : Type 0 where
    None : RawTrees
    More : RawTree → RawTrees → RawTrees

abbrev pub raw_trees : List RawTree → RawTrees
raw_trees [] = None
raw_trees (t ∷ ts) = More t (raw_trees ts)

abbrev pub form_of : FlatForm-F RawForm RawTree → RawForm
form_of (step.Constant v) = Constant v
form_of (step.Flow k) = Flow k
form_of (step.Memory m) = Memory m
form_of (step.Ticked k) = Ticked k
form_of (step.Input j) = Input j
form_of (step.Not e) = Not e
form_of (step.Binary o a b) = Binary o a b
form_of (step.Scale n e) = Scale n e
form_of (step.If c a b) = If c a b
form_of (step.AtMostOne es) = AtMostOne (raw_trees es)
form_of (step.When c e) = When c e
form_of (step.Current m) = Current m

-- the tree that a flat expression is
abbrev pub raw_tree : FlatExpr → RawTree
raw_tree = fold-FlatExpr RawForm RawTree form_of (λ e. Node e.at.sites e.form)

-- whether all memories that `current` names in it have a property
module _ (has : ℕ → Bool) where
  abbrev mutual
    pub all_shown : RawTree → Bool
    all_shown (Node at form) = form_all_shown form

    pub form_all_shown : RawForm → Bool
    form_all_shown (Constant v) = true
    form_all_shown (Flow k) = true
    form_all_shown (Memory m) = true
    form_all_shown (Ticked k) = true
    form_all_shown (Input j) = true
    form_all_shown (Not e) = all_shown e
    form_all_shown (Binary o a b) = all_shown a && all_shown b
    form_all_shown (Scale z e) = all_shown e
    form_all_shown (If c a b) = all_shown c && (all_shown a && all_shown b)
    form_all_shown (AtMostOne es) = each_all_shown es
    form_all_shown (When c e) = all_shown e
    form_all_shown (Current m) = has m

    pub each_all_shown : RawTrees → Bool
    each_all_shown None = true
    each_all_shown (More e es) = all_shown e && each_all_shown es
