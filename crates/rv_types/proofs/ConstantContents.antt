-- A constant expression that has a type has a value of that type.
use Rattle.std.proofs.Common.{◌≡◌, ℕ, suc, ◌+◌, ◌<◌, max, Bool, true, false, cond, ◌||◌, List, [], ◌∷◌, reverse, length, nat_abs, Option, Some, refl, sym, ◌∙◌}
use Rattle.std.proofs.Common.{ap, subst, arith, true≢false, None as Nothing}
use Rattle.std.proofs.{lemmas.Option.cond_some}
use Rattle.std.specs.Prelude.{ℤ, pos, nat_le}
use Rattle.rv_base.specs.declared.value.Value.TheVariants.{Flag, Label, Whole}
use Rattle.rv_base.specs.{declared.value.Value.Value, Limits.heaviest, Limits.too_heavy}
use Rattle.rv_tree.specs.{declared.tree.Name.Name, declared.tree.Op.Op, declared.tree.TypeDecl.TypeDecl, declared.tree.TypeName.TypeName, Tree.Tree, Tree.Node}
use Rattle.rv_tree.specs.{Tree.Form, Tree.True, Tree.False, Tree.Number, Tree.Named, Tree.Not, Tree.Minus, Tree.Pre, Tree.Current, Tree.When, Tree.Binary}
use Rattle.rv_tree.specs.{Tree.If, Tree.AtMostOne, Tree.Call, Tree.ConstantTree, Tree.ProgramTree, Places.Identifier, Places.is_same}
use Rattle.rv_tree.specs.declared.tree.Op.TheVariants as op
use Rattle.rv_types.specs.Kinds.{LabelPlace, number_from, label_from, label_of, kind_in_program}
use Rattle.rv_types.specs.Types.{same_kind, binary_rule}
use Rattle.rv_types.specs.Types.{kind_in, kind_of, form_verdict, kinds_of_all, is_constant}
use Rattle.rv_types.specs.Constants.{counted, counted_part, value_under, weight_under, value_of, form_value, weight_of, flag_in, whole_in}
use Rattle.rv_types.specs.Scopes.{constant_scope, label_kind, label_value, as_declared, constant_kind_after, constant_value_after, constant_kind}
use Rattle.rv_types.specs.Scopes.{constant_value}
use Rattle.rv_types.specs.{declared.typed.Kind.Kind, Names.labels_of, Values.HasKind, Values.labels_at}
use Rattle.rv_types.specs.declared.typed.Kind.TheVariants as kind
use Rattle.rv_types.proofs.Verdicts.{met_kind, two_kinds, named_kind, suited_kind, memory_kind, when_kind, if_kinds, most_kind, product_kind, call_kind}

module _ (p : ProgramTree) where
  flag_kind : (b : Bool) (k : Kind) → kind.Bool ≡ k → HasKind p k (Flag b)
  flag_kind b k e = subst (λ j. HasKind p j (Flag b)) e tt

  counted_kind : (weight : ℕ) (z : ℤ) (k : Kind) → kind.Int ≡ k → HasKind p k (counted weight z)
  counted_kind weight z k e = subst (λ j. HasKind p j (counted weight z)) e (by (nat_le weight heaviest))
    where
      by : (b : Bool) → HasKind p kind.Int (cond b (Whole z) (Whole (pos too_heavy)))
      by true = tt
      by false = tt

  part_kind : (weight : ℕ) (k : Kind) (v : Value) → HasKind p k v → HasKind p k (counted_part weight v)
  part_kind weight k (Flag b) h = h
  part_kind weight k (Label l) h = h
  part_kind weight kind.Int (Whole z) h = counted_kind weight z kind.Int refl
  part_kind weight _ (Whole z) h = absurd h

  chosen_kind : (k : Kind) (b : Bool) (v w : Value) → HasKind p k v → HasKind p k w → HasKind p k (cond b v w)
  chosen_kind k true v w g h = g
  chosen_kind k false v w g h = h

  under_kind : (scaled : Bool) (o : Op) (i j k : Kind) (weight : ℕ) (v w : Value) → kind_in (binary_rule false scaled o i j) ≡ Some k
      → HasKind p k (value_under weight o v w)
  under_kind scaled op.Arrow i j k weight v w e = cc
  under_kind scaled op.Plus i j k weight v w e = counted_kind weight _ k (met_kind _ kind.Int k e).1
  under_kind scaled op.Minus i j k weight v w e = counted_kind weight _ k (met_kind _ kind.Int k e).1
  under_kind scaled op.Times i j k weight v w e = counted_kind weight _ k (product_kind _ scaled k e).1
  under_kind scaled op.Slash i j k weight v w e = cc
  under_kind scaled op.Div i j k weight v w e = cc
  under_kind scaled op.Mod i j k weight v w e = cc
  under_kind scaled _ i j k weight v w e = flag_kind _ k (met_kind _ kind.Bool k e).1

  -- where each name's value is of its type, so is that of each expression
  module _ (kinds : Identifier → Option Kind) (values : Identifier → Value) (known : (x : Identifier) (k : Kind) → kinds x ≡ Some k → HasKind p k (values x))
    where
      mutual
        value_kind : (e : Tree) (k : Kind) → kind_of (constant_scope kinds) e ≡ Some k → HasKind p k (value_of values e)
        value_kind (Node at site form) k e = form_kind form k e

        form_kind : (form : Form) (k : Kind) → kind_in (form_verdict (constant_scope kinds) form) ≡ Some k → HasKind p k (form_value values form)
        form_kind True k e = flag_kind true k (let same : kind.Bool ≡ k = cc in same)
        form_kind False k e = flag_kind false k (let same : kind.Bool ≡ k = cc in same)
        form_kind (Number n) k e = counted_kind n (pos n) k (let same : kind.Int ≡ k = cc in same)
        form_kind (Named x) k e = known x k (named_kind (kinds x) k e)
        form_kind (Not t) k e = flag_kind _ k (suited_kind kind.Bool (kind_of (constant_scope kinds) t) k e).1
        form_kind (Minus t) k e = counted_kind _ _ k (suited_kind kind.Int (kind_of (constant_scope kinds) t) k e).1
        form_kind (Pre t) k e = absurd (true≢false (sym (memory_kind false (kind_of (constant_scope kinds) t) k e).0))
        form_kind (Current t) k e = absurd (true≢false (sym (memory_kind false (kind_of (constant_scope kinds) t) k e).0))
        form_kind (When t c) k e = absurd (true≢false (sym (when_kind false (kind_of (constant_scope kinds) t) Nothing k e).0))
        form_kind (Binary o a b) k e =
            let scaled = is_constant (constant_scope kinds) a || is_constant (constant_scope kinds) b in
            let weight = weight_under o (nat_abs (whole_in (value_of values a))) (weight_of values a) (weight_of values b) in
            let h = two_kinds (binary_rule false scaled o) (kind_of (constant_scope kinds) a) (kind_of (constant_scope kinds) b) k e in
            under_kind scaled o h.0 h.1 k weight (value_of values a) (value_of values b) h.4
        form_kind (If a b c) k e =
            let h = if_kinds (kind_of (constant_scope kinds) a) (kind_of (constant_scope kinds) b) (kind_of (constant_scope kinds) c) k e in
            part_kind (max (weight_of values b) (weight_of values c)) k (cond (flag_in (value_of values a)) (value_of values b) (value_of values c))
            (chosen_kind k (flag_in (value_of values a)) (value_of values b) (value_of values c) (value_kind b k h.1) (value_kind c k h.2))
        form_kind (AtMostOne es) k e = flag_kind _ k (most_kind (kinds_of_all (constant_scope kinds) es) k e).2
        form_kind (Call f es) k e = absurd (true≢false (sym (call_kind false Nothing (kinds_of_all (constant_scope kinds) es) k e).0))

  -- Labels.

  number_below : (k : ℕ) (xs : List Name) (x : Identifier) (n : ℕ) → number_from k xs x ≡ Some n → n < k + length xs
  number_below k [] x n e = cc
  number_below k (y ∷ ys) x n e = (elim (is_same y.text x) as (λ b. cond b (Some k) (number_from (k + 1) ys x) ≡ Some n → n < k + suc (length ys)) [
    | true ↦ (λ e. let same : k ≡ n = cc in omega (arith, same))
    | false ↦ (λ e. let lt = number_below (k + 1) ys x n e in omega (arith, lt))
  ]) e

  -- a label among the declarations of a program from a number on
  label_below : (all ds : List TypeDecl) (i : ℕ) → ((j : ℕ) → labels_at all (i + j) ≡ labels_at ds j) → (x : Identifier) (l : LabelPlace)
      → label_from i ds x ≡ Some l → l.number < labels_at all l.declaration
  label_below all [] i at x l e = cc
  label_below all (d ∷ ds) i at x l e =
      by (number_from 0 (labels_of d) x) refl e (label_below all ds (i + 1) (λ j. ap (labels_at all) (let n : i + 1 + j ≡ i + suc j = omega arith in n)
      ∙ at (suc j)) x l)
    where
      by : (o : Option ℕ) → number_from 0 (labels_of d) x ≡ o
          → elim o as (λ _. Option LabelPlace) [ Nothing ↦ label_from (i + 1) ds x | Some k ↦ Some (record { declaration = i; number = k }) ] ≡ Some l
          → (label_from (i + 1) ds x ≡ Some l → l.number < labels_at all l.declaration) → l.number < labels_at all l.declaration
      by Nothing is e more = more e
      by (Some k) is e more =
          let same : record { declaration = i; number = k } ≡ l = cc in
          let lt = number_below 0 (labels_of d) x k is in
          let many : labels_at all i ≡ length (labels_of d) = ap (labels_at all) (let n : i ≡ i + 0 = omega arith in n) ∙ at 0 in
          let less : k < labels_at all i = omega (arith, lt, many) in
          subst (λ (l : LabelPlace). l.number < labels_at all l.declaration) same less

  label_has : (x : Identifier) (k : Kind) → label_kind p x ≡ Some k → HasKind p k (label_value p x)
  label_has x k e = by (label_of p x) (λ l is. label_below p.types p.types 0 (λ j. ap (labels_at p.types) (let n : 0 + j ≡ j = omega arith in n)) x l is) e
    where
      by : (o : Option LabelPlace) → ((l : LabelPlace) → o ≡ Some l → l.number < labels_at p.types l.declaration)
          → elim o as (λ _. Option Kind) [ Nothing ↦ Nothing | Some l ↦ Some (kind.Labels l.declaration) ] ≡ Some k
          → HasKind p k (elim o as (λ _. Value) [ Nothing ↦ Flag false | Some l ↦ Label l.number ])
      by Nothing below e = cc
      by (Some l) below e = let same : kind.Labels l.declaration ≡ k = cc in subst (λ j. HasKind p j (Label l.number)) same (below l refl)

  -- Constants.

  declared_kind : (d : Option TypeName) (o : Option Kind) (k : Kind) → as_declared p d o ≡ Some k → o ≡ Some k
  declared_kind Nothing o k e = e
  declared_kind (Some t) Nothing k e = cc
  declared_kind (Some t) (Some j) k e = ap Some (cond_some (same_kind j (kind_in_program p t)) j k e).1

  pub contents_after : (cs : List ConstantTree) (x : Identifier) (k : Kind) → constant_kind_after p cs x ≡ Some k → HasKind p k (constant_value_after p cs x)
  contents_after [] x k e = label_has x k e
  contents_after (c ∷ before) x k e = (elim (is_same c.name.text x) as
      (λ b. cond b (as_declared p c.kind (kind_of (constant_scope (constant_kind_after p before)) c.body)) (constant_kind_after p before x) ≡ Some k
      → HasKind p k (cond b (value_of (constant_value_after p before) c.body) (constant_value_after p before x))) [
        | true ↦ (λ e. value_kind _ _ (contents_after before) c.body k (declared_kind c.kind _ k e))
        | false ↦ (λ e. contents_after before x k e)
      ]) e

  -- each constant and label that has a type has a value of it
  pub contents : (x : Identifier) (k : Kind) → constant_kind p x ≡ Some k → HasKind p k (constant_value p x)
  contents = contents_after (reverse p.constants)
