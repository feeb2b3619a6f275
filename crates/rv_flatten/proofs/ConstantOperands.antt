-- A constant expression whose parts are light has at each instant the value that it counts as.
use Rattle.std.proofs.Common.{◌≡◌, ℕ, suc, ◌+◌, ◌*◌, ◌≤◌, max, ℤ, pos, ◌+ℤ◌, ◌-ℤ◌, ◌*ℤ◌, neg_ℤ, nat_abs, Bool, true, false, not, ◌&&◌, ◌||◌, cond, nat_le}
use Rattle.std.proofs.Common.{int_lt, int_le, List, refl, sym, ◌∙◌, ap, arith, Option, Some}
use Rattle.std.proofs.{lemmas.Int.ints, lemmas.Option.none-some, lemmas.Bool.Decides.nat_tests}
use Rattle.std.specs.Ordering.{int_eq}
use Rattle.rv_base.specs.declared.value.Value.TheVariants.{Flag, Label, Whole}
use Rattle.rv_base.specs.{declared.value.Value.Value, Limits.heaviest, Limits.too_heavy}
use Rattle.rv_tree.specs.Tree.{Tree, Node, True, False, Number, Named, Not, Minus, Pre, Current, When, Binary, If, AtMostOne, Call, Trees, None, More}
use Rattle.rv_tree.specs.Tree.{NodeTree, ProgramTree}
use Rattle.rv_tree.specs.{declared.tree.Op.Op, Places.Identifier, Places.Sites, Places.is_flow}
use Rattle.rv_tree.specs.declared.tree.Op.TheVariants as op
use Rattle.rv_types.specs.Types.{kind_in, binary_rule, is_constant, is_constant_form, are_constant}
use Rattle.rv_types.specs.Constants.{flag_in, whole_in, counted, counted_part, same_bool, same_int, same_value, value_under, none_true, at_most_one, value_of}
use Rattle.rv_types.specs.Constants.{flags_of_all, weight_of}
use Rattle.rv_types.specs.Instances.{Instance, place, clock_in, IsArgument, head, tail}
use Rattle.rv_types.specs.{declared.typed.Kind.Kind, Scopes.node_scope, Scopes.constant_value, declared.typed.Clock.TheVariants.Base}
use Rattle.rv_types.specs.declared.typed.Kind.TheVariants as kind
use Rattle.rv_types.specs.Constants as constants
use Rattle.rv_meaning.specs.Meaning.{is_true, number, is_equal, held, operate}
use Rattle.rv_meaning.specs.{Runs.Instant, Runs.cell, Instants.State, Instants.now, Instants.trues_now}
use Rattle.rv_instances.specs.Weights.{constant_size, weight, form_weight}
use Rattle.rv_flatten.proofs.Standing.{Stands, as_child, of_not, of_minus, of_left, of_right, of_condition, of_first, of_second, of_operand}
use Rattle.rv_flat.proofs.TypedParts.{IsTyped, not_typed, minus_typed, binary_typed, if_typed, most_typed}
use Rattle.rv_base.proofs.Truths.{both_of, of_not_true}
use Rattle.rv_types.proofs.ChainLaws.{no_flag}

-- Both words for the truth and the number of a value are one.
pub same_truth : (v : Value) → is_true v ≡ flag_in v
same_truth (Flag b) = refl
same_truth (Label l) = refl
same_truth (Whole z) = refl

pub same_number : (v : Value) → number v ≡ whole_in v
same_number (Flag b) = refl
same_number (Label l) = refl
same_number (Whole z) = refl

-- a light integer counts as itself
pub counts_as_itself : (w : ℕ) (z : ℤ) → w ≤ heaviest → Whole z ≡ counted w z
counts_as_itself w z le = by (nat_le w heaviest) refl
  where
    by : (b : Bool) → nat_le w heaviest ≡ b → Whole z ≡ cond b (Whole z) (Whole (pos too_heavy))
    by true e = refl
    by false e = no_flag (sym e ∙ (let h : nat_le w heaviest ≡ true = grind (arith, nat_tests) in h))

part_itself : (w : ℕ) (v : Value) → w ≤ heaviest → v ≡ counted_part w v
part_itself w (Whole z) le = counts_as_itself w z le
part_itself w _ le = refl

same_alike : (a b : Bool) → cond a b (not b) ≡ same_bool a b
same_alike true b = refl
same_alike false b = refl

unlike : (a b : Bool) → cond a (not b) b ≡ not (same_bool a b)
unlike true b = refl
unlike false true = refl
unlike false false = refl

same_integers : (y z : ℤ) → int_eq y z ≡ same_int y z
same_integers y z = grind (arith, ints)

same_equality : (v w : Value) → is_equal v w ≡ same_value v w
same_equality (Flag a) (Flag b) = same_alike a b
same_equality (Flag a) (Label m) = refl
same_equality (Flag a) (Whole z) = refl
same_equality (Label l) (Flag b) = refl
same_equality (Label l) (Label m) = refl
same_equality (Label l) (Whole z) = refl
same_equality (Whole y) (Flag b) = refl
same_equality (Whole y) (Label m) = refl
same_equality (Whole y) (Whole z) = same_integers y z

-- an operator between two values that is light, and is no `->`, has the value that it counts as
operates : (first scaled : Bool) (o : Op) (i j k : Kind) (w : ℕ) (u v : Value) → w ≤ heaviest → (o ≡ op.Arrow → ⊥)
    → kind_in (binary_rule true scaled o i j) ≡ Some k → operate o first u v ≡ value_under w o u v
operates first scaled op.Arrow i j k w u v le n t = absurd (n refl)
operates first scaled op.Implies i j k w u v le n t = λ e. Flag (not (same_truth u e) || same_truth v e)
operates first scaled op.Or i j k w u v le n t = λ e. Flag (same_truth u e || same_truth v e)
operates first scaled op.Xor i j k w u v le n t = (λ e. Flag (cond (same_truth u e) (not (same_truth v e)) (same_truth v e)))
    ∙ ap Flag (unlike (flag_in u) (flag_in v))
operates first scaled op.And i j k w u v le n t = λ e. Flag (same_truth u e && same_truth v e)
operates first scaled op.Equal i j k w u v le n t = ap Flag (same_equality u v)
operates first scaled op.Differs i j k w u v le n t = ap (λ b. Flag (not b)) (same_equality u v)
operates first scaled op.Less i j k w u v le n t = λ e. Flag (int_lt (same_number u e) (same_number v e))
operates first scaled op.AtMost i j k w u v le n t = λ e. Flag (int_le (same_number u e) (same_number v e))
operates first scaled op.Greater i j k w u v le n t = λ e. Flag (int_lt (same_number v e) (same_number u e))
operates first scaled op.AtLeast i j k w u v le n t = λ e. Flag (int_le (same_number v e) (same_number u e))
operates first scaled op.Plus i j k w u v le n t = (λ e. Whole (same_number u e +ℤ same_number v e)) ∙ counts_as_itself w (whole_in u +ℤ whole_in v) le
operates first scaled op.Minus i j k w u v le n t = (λ e. Whole (same_number u e -ℤ same_number v e)) ∙ counts_as_itself w (whole_in u -ℤ whole_in v) le
operates first scaled op.Times i j k w u v le n t = (λ e. Whole (same_number u e *ℤ same_number v e)) ∙ counts_as_itself w (whole_in u *ℤ whole_in v) le
operates first scaled _ i j k w u v le n t = absurd (none-some k t)

negated : (z : ℤ) → pos 0 -ℤ z ≡ neg_ℤ z
negated z = omega (arith, ints)

-- no more than one of some truths, counted and found
no_trues : (b : Bool) (n : ℕ) (bs : List Bool) → nat_le n 0 ≡ none_true bs → nat_le (cond b 1 0 + n) 0 ≡ (not b && none_true bs)
no_trues true n bs e = grind (arith, nat_tests)
no_trues false n bs e = grind (arith, nat_tests, e)

one_true : (b : Bool) (n : ℕ) (bs : List Bool) → nat_le n 0 ≡ none_true bs → nat_le n 1 ≡ at_most_one bs
    → nat_le (cond b 1 0 + n) 1 ≡ cond b (none_true bs) (at_most_one bs)
one_true true n bs none one = (let h : nat_le (1 + n) 1 ≡ nat_le n 0 = grind (arith, nat_tests) in h) ∙ none
one_true false n bs none one = (let h : nat_le (0 + n) 1 ≡ nat_le n 1 = grind (arith, nat_tests) in h) ∙ one

-- no `->` is constant
no_arrow : (o : Op) (a b : Tree) (program : ProgramTree) (n : NodeTree) → is_constant_form (node_scope program n) (Binary o a b) ≡ true
    → (o ≡ op.Arrow → ⊥) × (is_constant (node_scope program n) a ≡ true) × (is_constant (node_scope program n) b ≡ true)
no_arrow op.Arrow a b program n e = no_flag e
no_arrow _ a b program n e = let h = both_of _ _ e in (λ q. cc, h.0, h.1)

module _ (program : ProgramTree) (flows : Sites → ℕ) (i : Instance) where
  abbrev known : Identifier → Value
  known = constant_value program

  abbrev IsConstant : Tree → Type 0
  IsConstant e = is_constant (node_scope program i.node) e ≡ true

  -- the weight of an operator between constant operands
  operator_weight : (site : Option ℕ) (o : Op) (a b : Tree) → (o ≡ op.Arrow → ⊥) → IsConstant a → weight program flows i a ≡ weight_of known a
      → weight program flows i b ≡ weight_of known b → form_weight program flows i site (Binary o a b) ≡ constants.form_weight known (Binary o a b)
  operator_weight site op.Arrow a b n c p q = absurd (n refl)
  operator_weight site op.Plus a b n c p q = λ e. p e + q e
  operator_weight site op.Minus a b n c p q = λ e. p e + q e
  operator_weight site op.Times a b n c p q = ap (λ t. cond t (constant_size program a * weight program flows i b)
      (constant_size program b * weight program flows i a)) c ∙ ap (λ w. constant_size program a * w) q
  operator_weight site _ a b n c p q = refl

  mutual
    -- a constant expression weighs the same as in a constant's body
    pub weighs : (e : Tree) → IsConstant e → weight program flows i e ≡ weight_of known e
    weighs (Node at site (Named x)) c = ap (λ b. cond b (flows (place i x)) (nat_abs (whole_in (known x)))) (of_not_true (is_flow i.node x) c)
    weighs (Node at site (Minus e)) c = weighs e c
    weighs (Node at site (Pre e)) c = no_flag c
    weighs (Node at site (Current e)) c = no_flag c
    weighs (Node at site (When e x)) c = no_flag c
    weighs (Node at site (Binary o a b)) c = let h = no_arrow o a b program i.node c in operator_weight site o a b h.0 h.1 (weighs a h.1) (weighs b h.2)
    weighs (Node at site (If a b d)) c =
        let h = both_of (is_constant (node_scope program i.node) a) (is_constant (node_scope program i.node) b && is_constant (node_scope program i.node) d)
        c in
        let g = both_of (is_constant (node_scope program i.node) b) (is_constant (node_scope program i.node) d) h.1 in
        λ e. max (weighs b g.0 e) (weighs d g.1 e)
    weighs (Node at site (Call f es)) c = no_flag c
    weighs (Node at site _) c = refl

  -- where the parts of what stands in the instance are light
  module _ (state : State) (row : Instant) (light : (e : Tree) → Stands i.node e → weight program flows i e ≤ heaviest) where
    -- so it weighs no more than is counted
    counted_weight : (e : Tree) → Stands i.node e → IsConstant e → weight_of known e ≤ heaviest
    counted_weight e s c = omega (arith, light e s, weighs e c)

    -- a choice, where either part has the value that it counts as
    chosen : (b c : Bool) (u v x y : Value) → b ≡ c → u ≡ x → v ≡ y → cond b u v ≡ cond c x y
    chosen b c u v x y p q r = λ e. cond (p e) (q e) (r e)

    mutual
      -- a constant expression that stands in the instance has at each instant the value that it counts as
      pub constant_now : (e : Tree) (k : Kind) → Stands i.node e → IsTyped program i.node e k → IsConstant e → now program state row i e ≡ value_of known e
      constant_now (Node at site True) k s t c = refl
      constant_now (Node at site False) k s t c = refl
      constant_now (Node at site (Number n)) k s t c = counts_as_itself n (pos n) (counted_weight (Node at site (Number n)) s c)
      constant_now (Node at site (Named x)) k s t c = ap (λ b. cond b (held (cell row (place i x))) (known x)) (of_not_true (is_flow i.node x) c)
      constant_now (Node at site (Not e)) k s t c =
          let h = constant_now e kind.Bool (as_child s of_not) (not_typed program i.node at site e k t).0 c in
          ap (λ v. Flag (not (is_true v))) h ∙ ap (λ b. Flag (not b)) (same_truth (value_of known e))
      constant_now (Node at site (Minus e)) k s t c =
          let h = constant_now e kind.Int (as_child s of_minus) (minus_typed program i.node at site e k t).0 c in
          ap (λ v. Whole (pos 0 -ℤ number v)) h ∙ ap (λ z. Whole (pos 0 -ℤ z)) (same_number (value_of known e))
          ∙ ap Whole (negated (whole_in (value_of known e)))
          ∙ counts_as_itself (weight_of known e) (neg_ℤ (whole_in (value_of known e))) (counted_weight (Node at site (Minus e)) s c)
      constant_now (Node at site (Binary o a b)) k s t c =
          let h = no_arrow o a b program i.node c in let r = binary_typed program i.node at site o a b k t in
          let p = constant_now a r.left (as_child s of_left) r.left_is h.1 in
          let q = constant_now b r.right (as_child s of_right) r.right_is h.2 in
          (λ e. operate o (not (state.ticked (clock_in i Base (Node 0 site (Binary o a b))))) (p e) (q e))
          ∙ operates (not (state.ticked (clock_in i Base (Node 0 site (Binary o a b)))))
          (is_constant (node_scope program i.node) a || is_constant (node_scope program i.node) b) o r.left r.right k
          (weight_of known (Node at site (Binary o a b))) (value_of known a) (value_of known b) (counted_weight (Node at site (Binary o a b)) s c) h.0 r.rule
      constant_now (Node at site (If a b d)) k s t c =
          let h = both_of (is_constant (node_scope program i.node) a) (is_constant (node_scope program i.node) b && is_constant (node_scope program i.node) d)
          c in
          let g = both_of (is_constant (node_scope program i.node) b) (is_constant (node_scope program i.node) d) h.1 in
          let r = if_typed program i.node at site a b d k t in
          let p = constant_now a kind.Bool (as_child s of_condition) r.0 h.0 in
          chosen (is_true (now program state row i a)) (flag_in (value_of known a)) (now program state row i b) (now program state row i d) (value_of known b)
          (value_of known d) (ap is_true p ∙ same_truth (value_of known a))
          (constant_now b k (as_child s of_first) r.1 g.0) (constant_now d k (as_child s of_second) r.2 g.1)
          ∙ part_itself (weight_of known (Node at site (If a b d))) (cond (flag_in (value_of known a)) (value_of known b) (value_of known d))
          (counted_weight (Node at site (If a b d)) s c)
      constant_now (Node at site (AtMostOne es)) k s t c =
          ap Flag (constants_now es (λ j e arg. as_child s (of_operand j arg)) (most_typed program i.node at site es k t).0 c).1
      constant_now (Node at site _) k s t c = no_flag c

      -- so have the operands of a `#`
      constants_now : (es : Trees) → ((j : ℕ) (e : Tree) → IsArgument es j e → Stands i.node e)
          → ((j : ℕ) (e : Tree) → IsArgument es j e → IsTyped program i.node e kind.Bool) → are_constant (node_scope program i.node) es ≡ true
          → (nat_le (trues_now program state row i es) 0 ≡ none_true (flags_of_all known es))
          × (nat_le (trues_now program state row i es) 1 ≡ at_most_one (flags_of_all known es))
      constants_now None s t c = (refl, refl)
      constants_now (More e es) s t c =
          let h = both_of (is_constant (node_scope program i.node) e) (are_constant (node_scope program i.node) es) c in
          let rest = constants_now es (λ j a arg. s (suc j) a (tail arg)) (λ j a arg. t (suc j) a (tail arg)) h.1 in
          let p : is_true (now program state row i e) ≡ flag_in (value_of known e) = ap is_true (constant_now e kind.Bool (s 0 e head) (t 0 e head) h.0)
          ∙ same_truth (value_of known e) in
          let n : ℕ = trues_now program state row i es in (
            ap (λ b. nat_le (cond b 1 0 + n) 0) p ∙ no_trues (flag_in (value_of known e)) n (flags_of_all known es) rest.0,
            ap (λ b. nat_le (cond b 1 0 + n) 1) p ∙ one_true (flag_in (value_of known e)) n (flags_of_all known es) rest.0 rest.1,
          )
