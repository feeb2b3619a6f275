-- An expression of each form read into a term, by what its parts were read into.
use Rattle.std.proofs.Common.{◌≡◌, ℕ, ◌<◌, ◌≤◌, ℤ, pos, true, false, List, length, refl, sym, ◌∙◌, subst, arith, Option, Some, Result, Ok, Err, IfOk, OnOk}
use Rattle.std.specs.Prelude.{slice_get}
use Rattle.rv_base.specs.{declared.value.Value.Value, Limits.heaviest}
use Rattle.rv_tree.specs.{declared.tree.Op.Op, Places.Sites}
use Rattle.rv_tree.specs.declared.tree.Op.TheVariants as op
use Rattle.rv_meaning.specs.Meaning.{number as whole_number}
use Rattle.rv_rows.specs.{declared.linear.Form.Form, Arithmetic.constant_form, Arithmetic.form_sum, Arithmetic.form_times}
use Rattle.rv_diagram.specs.{declared.Triple.Triple, Nodes.Valuation, Nodes.Diagrams, Nodes.Grows}
use Rattle.rv_diagram.proofs.Growing.{extends_refl, grows_extends}
use Rattle.rv_terms.specs.{declared.parted.Part.Part, declared.parted.Term.Term, Parts.form_at, Parts.IsTerm, Parts.IsTermOf}
use Rattle.rv_agreement.specs.Trees.{FlatTree, Node, Binary, Not, AtMostOne, Ticked}
use Rattle.rv_flat.specs.{declared.parts.FlatExpr.FlatExpr, declared.parts.FlatMemory.FlatMemory, Facts.is_light, Tame.IsOver}
use Rattle.rv_flat.specs.declared.parts.FlatForm.TheVariants as form
use Rattle.rv_control.proofs.Weighed.{light_weight}
use Rattle.rv_bits.specs.{declared.around.Around.Around, Reads.tree_in, Reads.trees_in}
use Rattle.rv_bits.proofs.Trees.{tree_constant, tree_memory, tree_ticked, tree_not, tree_most}
use Rattle.rv_forms.specs.Terms.{columns_of, weights_of, weight_in, parts_at, IsWithin, GivesTerm, ReadsAs, AreWholes, IsReady}
use Rattle.rv_forms.specs.{declared.over.Wholes.Wholes, Columns.gives_whole, Columns.combined_form}
use Rattle.rv_forms.proofs.Showing.{reads_constant, reads_none, no_tick, no_not, no_most, no_operator, reads_flow, reads_memory, reads_input}
use Rattle.rv_forms.proofs.{Bounds.within_more, Flowing.memory_low, Kept.width_first, Shapes.tree_flow, Shapes.tree_input}
use Rattle.rv_base.proofs.Lists.{within_got}

-- a term of the columns of the flat system
pub zero_here : (x : Around) (w : Wholes) (d : Diagrams) (parts : List Part) → AreWholes x.flat.now d.nodes w
    → ((nodes : List Triple) → IsTermOf nodes w.columns (λ v. constant_form w.columns (pos 0)) parts)
    → IsTermOf d.nodes (columns_of x.flat.now) (λ v. constant_form (columns_of x.flat.now) (pos 0)) parts
zero_here x w d parts are is = subst (λ n. IsTermOf d.nodes n (λ v. constant_form n (pos 0)) parts) are.columns (is d.nodes)

-- each flow that is read as a term is read as references
pub few_read : (x : Around) (w : Wholes) (d : Diagrams) (shown : List (Option (List ℕ))) (known : List (Option Term)) → IsReady d x w shown known
    → length w.flows ≤ length x.read.now.on
few_read x w d shown known ready = let few = ready.wholes.few_flows in let all = ready.complete in omega (arith, few, all)

-- the terms have a place for each memory
pub low_kept : (x : Around) (w : Wholes) (d : Diagrams) (shown : List (Option (List ℕ))) (known : List (Option Term)) (m : ℕ) (memory : FlatMemory)
    → IsReady d x w shown known → slice_get x.flat.now.memories m ≡ Some memory → (m < length w.kept) × (m < length known)
low_kept x w d shown known m memory ready is =
    let low = memory_low x.flat.now m memory is in
    let here = within_got x.flat.now.memories m memory is in
    let many = ready.wholes.many_kept in
    let size = ready.in_terms.size in
    (omega (arith, low, many), omega (arith, here, size))

module _ (x : Around) (w : Wholes) (d : Diagrams) (shown : List (Option (List ℕ))) (known : List (Option Term)) (e : FlatExpr) (parts : List Part)
    (ready : IsReady d x w shown known) where
  abbrev Zero : Type 0
  Zero = (nodes : List Triple) → IsTermOf nodes w.columns (λ v. constant_form w.columns (pos 0)) parts

  abbrev Done : Type 0
  Done = ReadsAs x.flat.now d d (tree_in x e) parts

  as_tree : (t : FlatTree) → tree_in x e ≡ t → ReadsAs x.flat.now d d t parts → Done
  as_tree t is r = subst (λ (u : FlatTree). ReadsAs x.flat.now d d u parts) (sym is) r

  pub constant_step : (c : Value) → e.form ≡ form.Constant c
      → ((nodes : List Triple) → IsTermOf nodes w.columns (λ v. constant_form w.columns (whole_number c)) parts) → Done
  constant_step c is made = as_tree _ (tree_constant x e c is) (reads_constant x.flat.now d e.at.sites c parts
      (subst (λ n. IsTermOf d.nodes n (λ v. constant_form n (whole_number c)) parts) ready.wholes.columns (made d.nodes)))

  pub flow_step : (n : ℕ) → e.form ≡ form.Flow n → IsOver (length w.flows) (tree_in x e) → (n < length w.flows → parts ≡ parts_at w.flows n) → Done
  flow_step n is over found =
      let lt : n < length w.flows = subst (IsOver (length w.flows)) (tree_flow x e n is) over in
      let few = ready.wholes.few_flows in
      let all = ready.complete in
      as_tree _ (tree_flow x e n is)
      (reads_flow x.flat.now d e.at.sites n x.read.now w parts ready.around.flows ready.wholes lt (omega (arith, lt, few, all)) (found lt))

  pub memory_step : (m : ℕ) → e.form ≡ form.Memory m → (m < length w.kept → parts ≡ parts_at w.kept m) → (length w.kept ≤ m → Zero) → Done
  memory_step m is found past = as_tree _ (tree_memory x e m is)
      (reads_memory x.flat.now d e.at.sites m x.tables.now w parts ready.around.tables ready.wholes found (λ le. zero_here x w d parts ready.wholes (past le)))

  pub input_step : (j : ℕ) → e.form ≡ form.Input j → (j < length w.given → parts ≡ parts_at w.given j) → (length w.given ≤ j → Zero) → Done
  input_step j is found past = as_tree _ (tree_input x e j is)
      (reads_input x.flat.now d e.at.sites j x.tables.now w parts ready.around.tables ready.wholes found (λ le. zero_here x w d parts ready.wholes (past le)))

  pub tick_step : (n : ℕ) → e.form ≡ form.Ticked n → Zero → Done
  tick_step n is made = as_tree _ (tree_ticked x e n is)
      (reads_none x.flat.now d (Node e.at.sites (Ticked n)) parts (zero_here x w d parts ready.wholes made) (no_tick x.flat.now e.at.sites n))

  pub not_step : (a : FlatExpr) → e.form ≡ form.Not a → Zero → Done
  not_step a is made = as_tree _ (tree_not x e a is)
      (reads_none x.flat.now d (Node e.at.sites (Not (tree_in x a))) parts (zero_here x w d parts ready.wholes made)
      (no_not x.flat.now e.at.sites (tree_in x a)))

  pub most_step : (es : List FlatExpr) → e.form ≡ form.AtMostOne es → Zero → Done
  most_step es is made = as_tree _ (tree_most x e es is)
      (reads_none x.flat.now d (Node e.at.sites (AtMostOne (trees_in x es))) parts (zero_here x w d parts ready.wholes made)
      (no_most x.flat.now e.at.sites (trees_in x es)))

-- what an operator that gives no integer is read into
pub operator_step : (x : Around) (w : Wholes) (d : Diagrams) (shown : List (Option (List ℕ))) (known : List (Option Term)) (o : Op) (a b : FlatExpr)
    (parts : List Part)
    → IsReady d x w shown known → gives_whole o ≡ false → ((nodes : List Triple) → IsTermOf nodes w.columns (λ v. constant_form w.columns (pos 0)) parts)
    → (at : Sites) → ReadsAs x.flat.now d d (Node at (Binary o (tree_in x a) (tree_in x b))) parts
operator_step x w d shown known o a b parts ready none made at =
    reads_none x.flat.now d (Node at (Binary o (tree_in x a) (tree_in x b))) parts (zero_here x w d parts ready.wholes made)
    (no_operator x.flat.now at o (tree_in x a) (tree_in x b) none)

-- no part is above the heaviest weight
pub light_within : (x : Around) (d : Diagrams) (t : FlatTree) (parts : List Part) → is_light (weights_of x.flat.now) t ≡ true
    → IsWithin d.nodes (columns_of x.flat.now) (weight_in x.flat.now t) parts → IsWithin d.nodes (columns_of x.flat.now) heaviest parts
light_within x d t parts light is = within_more d.nodes (columns_of x.flat.now) (weight_in x.flat.now t) heaviest parts
    (light_weight (weights_of x.flat.now) t light) is

pub ok_with : {A E : Type 0} (o : Result A E) (P : A → Type 0) (Q : Type 0) (R : A → Type 0) → ((r : A) → P r → Q → R r) → IfOk o P → OnOk o Q → IfOk o R
ok_with (Ok r) P Q R g h k = g r h k
ok_with (Err e) P Q R g h k = h

-- one width for all
pub same_width : (nodes : List Triple) (k columns : ℕ) (parts : List Part) → IsTerm nodes k parts → IsTerm nodes columns parts → k ≡ columns
same_width nodes k columns parts a b = sym (width_first nodes k parts a) ∙ width_first nodes columns parts b

-- a term that is there already
pub given_term : (d : Diagrams) (columns n : ℕ) (g : Valuation → Form) (parts : List Part) → IsWithin d.nodes columns n parts
    → ((v : Valuation) → form_at d.nodes parts v ≡ g v) → GivesTerm d d columns g parts
given_term d columns n g parts is same = record {
  extends = extends_refl d;
  is = record { term = is.term; width_is = width_first d.nodes columns parts is.term; filled = is.filled; exact = same };
}

-- a term that a call gave
pub made_term : (a b : Diagrams) (k columns : ℕ) (g h : Valuation → Form) (parts : List Part) → Grows a b → IsTermOf b.nodes k g parts → k ≡ columns
    → ((v : Valuation) → g v ≡ h v) → GivesTerm a b columns h parts
made_term a b k columns g h parts grows is same forms = record {
  extends = grows_extends a b grows;
  is = subst (λ n. IsTermOf b.nodes n h parts) same
      (record { term = is.term; width_is = is.width_is; filled = is.filled; exact = λ v. is.exact v ∙ forms v });
}

pub combined_other : (o : Op) (f g : Form) → (o ≡ op.Minus → ⊥) → form_sum f g ≡ combined_form o f g
combined_other op.Minus f g none = absurd (none refl)
combined_other _ f g none = refl

pub on_map : {A E : Type 0} (o : Result A E) (P Q : Type 0) → (P → Q) → OnOk o P → OnOk o Q
on_map (Ok r) P Q f h = f h
on_map (Err e) P Q f h = h

-- a multiple, by the number and the width that it has
pub multiple_as : (nodes : List Triple) (k columns : ℕ) (z y : ℤ) (inner parts : List Part) → k ≡ columns → z ≡ y
    → IsTermOf nodes k (λ v. form_times z (form_at nodes inner v)) parts → IsTermOf nodes columns (λ v. form_times y (form_at nodes inner v)) parts
multiple_as nodes k columns z y inner parts width number is =
    subst (λ n. IsTermOf nodes n (λ v. form_times y (form_at nodes inner v)) parts) width
    (subst (λ (u : ℤ). IsTermOf nodes k (λ v. form_times u (form_at nodes inner v)) parts) number is)
