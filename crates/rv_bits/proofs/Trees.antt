-- The tree of an expression by its form.
use Rattle.std.proofs.Common.{◌≡◌, ℕ, List, map, sym, ◌∙◌, ap}
use Rattle.rv_base.specs.declared.value.Value.{Value}
use Rattle.rv_agreement.specs.Trees.{Node, Constant, Memory, Ticked, Not, If, AtMostOne, When}
use Rattle.rv_flat.specs.declared.parts.FlatForm.TheFolds.{fold-FlatForm, fold_out-FlatExpr, fold-roll-FlatForm}
use Rattle.rv_flat.specs.declared.parts.FlatForm.TheViews.{rolls-Constant, rolls-Memory, rolls-Ticked, rolls-Not, rolls-If, rolls-AtMostOne, rolls-When}
use Rattle.rv_flat.specs.RawTree.{RawTree, RawForm, raw_tree, raw_trees, form_of}
use Rattle.rv_flat.specs.{declared.parts.FlatExpr.FlatExpr, declared.parts.FlatForm.FlatForm, Inlined.inlined, Inlined.table_of}
use Rattle.rv_flat.specs.declared.parts.FlatForm.TheOpen as step
use Rattle.rv_flat.specs.declared.parts.FlatForm.TheVariants as form
use Rattle.rv_flat.specs.RawTree as raw
use Rattle.rv_bits.specs.{declared.around.Around.Around, Reads.tree_in, Reads.trees_in}

abbrev raw_form : FlatForm → RawForm
raw_form = fold-FlatForm RawForm RawTree form_of (λ e. raw.Node e.at.sites e.form)

raw_out : (e : FlatExpr) → raw_tree e ≡ raw.Node e.at.sites (raw_form e.form)
raw_out e = fold_out-FlatExpr RawForm RawTree form_of (λ e. raw.Node e.at.sites e.form) e

whole : (x : Around) (e : FlatExpr) (shape : RawForm) → raw_form e.form ≡ shape
    → tree_in x e ≡ inlined (table_of x.flat.now.memories) (raw.Node e.at.sites shape)
whole x e shape is = ap (inlined (table_of x.flat.now.memories)) (raw_out e ∙ ap (raw.Node e.at.sites) is)

pub tree_constant : (x : Around) (e : FlatExpr) (v : Value) → e.form ≡ form.Constant v → tree_in x e ≡ Node e.at.sites (Constant v)
tree_constant x e v is = whole x e (raw.Constant v) (ap raw_form (is ∙ sym (rolls-Constant v))
    ∙ fold-roll-FlatForm RawForm RawTree form_of (λ e. raw.Node e.at.sites e.form) (step.Constant v))

pub tree_memory : (x : Around) (e : FlatExpr) (m : ℕ) → e.form ≡ form.Memory m → tree_in x e ≡ Node e.at.sites (Memory m)
tree_memory x e m is = whole x e (raw.Memory m) (ap raw_form (is ∙ sym (rolls-Memory m))
    ∙ fold-roll-FlatForm RawForm RawTree form_of (λ e. raw.Node e.at.sites e.form) (step.Memory m))

pub tree_ticked : (x : Around) (e : FlatExpr) (n : ℕ) → e.form ≡ form.Ticked n → tree_in x e ≡ Node e.at.sites (Ticked n)
tree_ticked x e n is = whole x e (raw.Ticked n) (ap raw_form (is ∙ sym (rolls-Ticked n))
    ∙ fold-roll-FlatForm RawForm RawTree form_of (λ e. raw.Node e.at.sites e.form) (step.Ticked n))

pub tree_not : (x : Around) (e a : FlatExpr) → e.form ≡ form.Not a → tree_in x e ≡ Node e.at.sites (Not (tree_in x a))
tree_not x e a is = whole x e (raw.Not (raw_tree a)) (ap raw_form (is ∙ sym (rolls-Not a))
    ∙ fold-roll-FlatForm RawForm RawTree form_of (λ e. raw.Node e.at.sites e.form) (step.Not a))

pub tree_if : (x : Around) (e c a b : FlatExpr) → e.form ≡ form.If c a b → tree_in x e ≡ Node e.at.sites (If (tree_in x c) (tree_in x a) (tree_in x b))
tree_if x e c a b is = whole x e (raw.If (raw_tree c) (raw_tree a) (raw_tree b))
    (ap raw_form (is ∙ sym (rolls-If c a b)) ∙ fold-roll-FlatForm RawForm RawTree form_of (λ e. raw.Node e.at.sites e.form) (step.If c a b))

pub tree_most : (x : Around) (e : FlatExpr) (es : List FlatExpr) → e.form ≡ form.AtMostOne es → tree_in x e ≡ Node e.at.sites (AtMostOne (trees_in x es))
tree_most x e es is = whole x e (raw.AtMostOne (raw_trees (map raw_tree es)))
    (ap raw_form (is ∙ sym (rolls-AtMostOne es)) ∙ fold-roll-FlatForm RawForm RawTree form_of (λ e. raw.Node e.at.sites e.form) (step.AtMostOne es))

pub tree_when : (x : Around) (e : FlatExpr) (n : ℕ) (a : FlatExpr) → e.form ≡ form.When n a → tree_in x e ≡ Node e.at.sites (When n (tree_in x a))
tree_when x e n a is = whole x e (raw.When n (raw_tree a)) (ap raw_form (is ∙ sym (rolls-When n a))
    ∙ fold-roll-FlatForm RawForm RawTree form_of (λ e. raw.Node e.at.sites e.form) (step.When n a))
