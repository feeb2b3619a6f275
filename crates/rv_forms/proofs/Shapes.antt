-- The tree of an expression by its form.
use Rattle.std.proofs.Common.{◌≡◌, ℕ, ◌≤◌, ℤ, sym, ◌∙◌, ap, arith}
use Rattle.rv_tree.specs.declared.tree.Op.{Op}
use Rattle.rv_agreement.specs.Trees.{FlatTree, Node, TreeForm, FlatTrees, Flow, Input, Not, Binary, Scale, If, AtMostOne, When, Current, None, More}
use Rattle.rv_flat.specs.declared.parts.FlatForm.TheViews.{rolls-Flow, rolls-Input, rolls-Binary, rolls-Scale}
use Rattle.rv_flat.specs.declared.parts.FlatForm.TheFolds.{fold-FlatForm, fold_out-FlatExpr, fold-roll-FlatForm}
use Rattle.rv_flat.specs.RawTree.{RawTree, RawForm, raw_tree, form_of}
use Rattle.rv_flat.specs.Tame.{IsOver, FormIsOver, AreOver}
use Rattle.rv_flat.specs.{declared.parts.FlatExpr.FlatExpr, declared.parts.FlatForm.FlatForm, Inlined.inlined, Inlined.table_of}
use Rattle.rv_flat.specs.declared.parts.FlatForm.TheOpen as step
use Rattle.rv_flat.specs.declared.parts.FlatForm.TheVariants as form
use Rattle.rv_flat.specs.RawTree as raw
use Rattle.rv_bits.specs.{declared.around.Around.Around, Reads.tree_in}
use Rattle.rv_bits.proofs.Fitting.{named_more}

abbrev raw_form : FlatForm → RawForm
raw_form = fold-FlatForm RawForm RawTree form_of (λ e. raw.Node e.at.sites e.form)

raw_out : (e : FlatExpr) → raw_tree e ≡ raw.Node e.at.sites (raw_form e.form)
raw_out e = fold_out-FlatExpr RawForm RawTree form_of (λ e. raw.Node e.at.sites e.form) e

whole : (x : Around) (e : FlatExpr) (shape : RawForm) → raw_form e.form ≡ shape
    → tree_in x e ≡ inlined (table_of x.flat.now.memories) (raw.Node e.at.sites shape)
whole x e shape is = ap (inlined (table_of x.flat.now.memories)) (raw_out e ∙ ap (raw.Node e.at.sites) is)

pub tree_flow : (x : Around) (e : FlatExpr) (n : ℕ) → e.form ≡ form.Flow n → tree_in x e ≡ Node e.at.sites (Flow n)
tree_flow x e n is = whole x e (raw.Flow n)
    (ap raw_form (is ∙ sym (rolls-Flow n)) ∙ fold-roll-FlatForm RawForm RawTree form_of (λ e. raw.Node e.at.sites e.form) (step.Flow n))

pub tree_input : (x : Around) (e : FlatExpr) (n : ℕ) → e.form ≡ form.Input n → tree_in x e ≡ Node e.at.sites (Input n)
tree_input x e n is = whole x e (raw.Input n)
    (ap raw_form (is ∙ sym (rolls-Input n)) ∙ fold-roll-FlatForm RawForm RawTree form_of (λ e. raw.Node e.at.sites e.form) (step.Input n))

pub tree_binary : (x : Around) (e : FlatExpr) (o : Op) (a b : FlatExpr) → e.form ≡ form.Binary o a b
    → tree_in x e ≡ Node e.at.sites (Binary o (tree_in x a) (tree_in x b))
tree_binary x e o a b is = whole x e (raw.Binary o (raw_tree a) (raw_tree b))
    (ap raw_form (is ∙ sym (rolls-Binary o a b)) ∙ fold-roll-FlatForm RawForm RawTree form_of (λ e. raw.Node e.at.sites e.form) (step.Binary o a b))

pub tree_scale : (x : Around) (e : FlatExpr) (z : ℤ) (a : FlatExpr) → e.form ≡ form.Scale z a → tree_in x e ≡ Node e.at.sites (Scale z (tree_in x a))
tree_scale x e z a is = whole x e (raw.Scale z (raw_tree a))
    (ap raw_form (is ∙ sym (rolls-Scale z a)) ∙ fold-roll-FlatForm RawForm RawTree form_of (λ e. raw.Node e.at.sites e.form) (step.Scale z a))

-- an expression over the first flows is one over more flows
module _ (n m : ℕ) (le : n ≤ m) where
  mutual
    pub over_more : (e : FlatTree) → IsOver n e → IsOver m e
    over_more (Node at form) is = form_over_more form is

    form_over_more : (form : TreeForm) → FormIsOver n form → FormIsOver m form
    form_over_more (Flow k) is = omega arith
    form_over_more (Not e) is = over_more e is
    form_over_more (Binary o a b) is = (over_more a is.0, over_more b is.1)
    form_over_more (Scale z e) is = over_more e is
    form_over_more (If c a b) is = (over_more c is.0, (over_more a is.1.0, over_more b is.1.1))
    form_over_more (AtMostOne es) is = all_over_more es is
    form_over_more (When c e) is = over_more e is
    form_over_more (Current k c e) is = (named_more n m le c is.0, over_more e is.1)
    form_over_more _ is = tt

    all_over_more : (es : FlatTrees) → AreOver n es → AreOver m es
    all_over_more None is = tt
    all_over_more (More e es) is = (over_more e is.0, all_over_more es is.1)
