-- Over the integers the one text of instants is the meaning of expressions at an instant.
use Rattle.std.proofs.Common.{◌≡◌, ℕ, ◌+◌, ℤ, negsuc, ◌*ℤ◌, Bool, true, false, not, cond, refl, sym, ◌∙◌, ap, unwrap_or, Option, Some, None as Nothing}
use Rattle.std.proofs.Math.IntN.{*ℤ_comm}
use Rattle.std.specs.Prelude.{nat_le}
use Rattle.rv_base.specs.{declared.value.Value.Value, declared.value.Value.TheVariants.Flag, declared.value.Value.TheVariants.Whole}
use Rattle.rv_tree.specs.{declared.tree.Op.Op, Tree.Tree, Tree.Form, Tree.Trees, Tree.ProgramTree, Places.Identifier, Places.Sites, Places.is_flow}
use Rattle.rv_tree.specs.declared.tree.Op.TheVariants as op
use Rattle.rv_tree.specs.Tree as tree
use Rattle.rv_types.specs.Instances.{Instance, place, clock_in, output_place}
use Rattle.rv_types.specs.{declared.typed.Clock.TheVariants.Base, Types.is_constant, Scopes.node_scope, Scopes.constant_value}
use Rattle.rv_meaning.specs.Meaning.{held, is_on, is_true, number, operate, kept_place}
use Rattle.rv_meaning.specs.{Runs.Instant, Runs.cell, Instants.State, Instants.is_on_in, Instants.now, Instants.form_now, Instants.trues_now}
use Rattle.rv_agreement.specs.{Evaluation.integers, Programs.found_of, Programs.coefficient, Programs.operation, Programs.is_there, Programs.meant}
use Rattle.rv_agreement.specs.{Programs.form_meant, Programs.trues_meant, Programs.HasProducts, Programs.FormHasProducts, Programs.AllHaveProducts}
use Rattle.rv_agreement.specs.Evaluation as by
use Rattle.rv_rows.proofs.FormValues.{less_times}

pub held_same : (o : Option Value) → by.held Value integers o ≡ held o
held_same Nothing = refl
held_same (Some v) = refl

pub on_same : (o : Option Value) → by.is_on Value integers o ≡ is_on o
on_same Nothing = refl
on_same (Some v) = refl

turned : (b : Bool) (x y : Value) → cond b y x ≡ cond (not b) x y
turned true x y = refl
turned false x y = refl

-- an operator, by what its choice and its product are
operator_same : (o : Op) (first : Bool) (choice product a b : Value) → choice ≡ cond first a b → (o ≡ op.Times → product ≡ Whole (number a *ℤ number b))
    → operation o choice product (operate o false a b) ≡ operate o first a b
operator_same op.Arrow first choice product a b chosen times = chosen
operator_same op.Times first choice product a b chosen times = times refl
operator_same _ first choice product a b chosen times = refl

product_same : (c : Bool) (y z : ℤ) (a b : Value) → (c ≡ true → number a ≡ y) → (c ≡ false → number b ≡ z)
    → cond c (Whole (y *ℤ number b)) (Whole (z *ℤ number a)) ≡ Whole (number a *ℤ number b)
product_same true y z a b left right = ap (λ n. Whole (n *ℤ number b)) (sym (left refl))
product_same false y z a b left right = ap (λ n. Whole (n *ℤ number a)) (sym (right refl)) ∙ ap Whole (*ℤ_comm (number b) (number a))

module _ (program : ProgramTree) (state : State) (inputs : ℕ → Value) (row : Instant) (i : Instance) where
  abbrev has : Tree → Value
  has = meant Value integers program (found_of state inputs) (cell row) i

  pub there_same : (k : Option Sites) → is_there Value integers program (found_of state inputs) (cell row) k ≡ is_on_in row k
  there_same Nothing = refl
  there_same (Some q) = on_same (cell row q)

  named_same : (x : Identifier) (b : Bool) → cond b (by.held Value integers (cell row (place i x))) (constant_value program x) ≡ cond b
      (held (cell row (place i x))) (constant_value program x)
  named_same x true = held_same (cell row (place i x))
  named_same x false = refl

  mutual
    pub meant_same : (e : Tree) → HasProducts program state row i e → has e ≡ now program state row i e
    meant_same (tree.Node at site form) products = form_same site form products

    form_same : (site : Option ℕ) (form : Form) → FormHasProducts program state row i site form
        → form_meant Value integers program (found_of state inputs) (cell row) i site form ≡ form_now program state row i site form
    form_same site (tree.Named x) products = named_same x (is_flow i.node x)
    form_same site (tree.Not e) products = ap (λ v. Flag (not (is_true v))) (meant_same e products)
    form_same site (tree.Minus e) products = ap (λ v. Whole (negsuc 0 *ℤ number v)) (meant_same e products)
        ∙ ap Whole (less_times (number (now program state row i e)))
    form_same site (tree.Current e) products = λ t. cond (there_same (clock_in i Base e) t) (meant_same e products t) (state.kept (kept_place i site e))
    form_same site (tree.When e c) products = meant_same e products
    form_same site (tree.Binary o a b) products =
        let k = clock_in i Base (tree.Node 0 site (tree.Binary o a b)) in
        let c = is_constant (node_scope program i.node) a in
        let left = meant_same a products.0 in
        let right = meant_same b products.1 in
        (λ t. operation o (cond (state.ticked k) (right t) (left t)) (cond c (Whole (coefficient program a *ℤ number (right t)))
        (Whole (coefficient program b *ℤ number (left t)))) (operate o false (left t) (right t)))
        ∙ operator_same o _ _ _ _ _ (turned (state.ticked k) (now program state row i a) (now program state row i b))
        (λ times. product_same c (coefficient program a) (coefficient program b) (now program state row i a) (now program state row i b) (products.2 times)
        (products.3 times))
    form_same site (tree.If a b c) products = λ t. cond (is_true (meant_same a products.0 t)) (meant_same b products.1 t) (meant_same c products.2 t)
    form_same site (tree.AtMostOne es) products = ap (λ n. Flag (nat_le n 1)) (trues_same es products)
    form_same site (tree.Call f args) products = held_same (cell row (output_place program i (unwrap_or site 0) f 0))
    form_same site _ products = refl

    trues_same : (es : Trees) → AllHaveProducts program state row i es
        → trues_meant Value integers program (found_of state inputs) (cell row) i es ≡ trues_now program state row i es
    trues_same tree.None products = refl
    trues_same (tree.More e es) products = λ t. cond (is_true (meant_same e products.0 t)) 1 0 + trues_same es products.1 t
