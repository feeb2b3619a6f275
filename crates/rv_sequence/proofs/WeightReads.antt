-- What the weight of an expression of an instance reads, and that nothing else matters to it.
use Rattle.std.proofs.Common.{◌≡◌, ℕ, zero, suc, ◌+◌, ◌*◌, ◌≤◌, inl, inr, min, max, Bool, true, false, not, ◌&&◌, ◌||◌, cond, length, refl, sym, ◌∙◌, ap, arith}
use Rattle.std.proofs.Common.{Option, Some, nat_abs, None as Nothing, unwrap_or}
use Rattle.std.proofs.Math.Nat.{mul-le-mul_left}
use Rattle.std.specs.List.{Contains}
use Rattle.rv_base.specs.{declared.value.Value.Value, Limits.too_heavy}
use Rattle.rv_tree.specs.Tree.{Tree, Node, Form, Named, Not, Minus, Current, When, Binary, If, AtMostOne, Call, Trees, None, More, ProgramTree}
use Rattle.rv_tree.specs.{declared.tree.Op.Op, Places.Identifier, Places.Sites, Places.is_flow}
use Rattle.rv_tree.specs.declared.tree.Op.TheVariants as op
use Rattle.rv_types.specs.Constants.{whole_in, value_of, form_value, form_weight}
use Rattle.rv_types.specs.Instances.{CallTree, calls, Instance, place, node_of, output_place}
use Rattle.rv_types.specs.Types.{Scope, is_constant, is_constant_form, are_constant}
use Rattle.rv_types.specs.{declared.weighing.Weighed.Weighed, ConstantParts.constant_part, Scopes.node_scope, Scopes.constant_value, Scopes.is_fixed}
use Rattle.rv_instances.specs.Weights.{constant_size, weight, form_weight as exact_weight}
use Rattle.rv_sequence.specs.Weighing.{Weighing, product_of, weight_in, form_weight_in}
use Rattle.rv_instances.proofs.Lists.{nat_split}

-- Numbers that count to 2^40 + 1.

scaled : (k v : ℕ) → min (k * v) too_heavy ≡ min (k * min v too_heavy) too_heavy
scaled zero v = omega arith
scaled (suc k) v = elim (nat_split too_heavy v) [
  | inl above ↦
      let b = mul-le-mul_left (suc k) (let h : too_heavy ≤ v = omega (arith, above) in h) in
      let is : min v too_heavy ≡ too_heavy = omega (arith, above) in
      omega (arith, b, ap (λ (n : ℕ). suc k * n) is, mul_at_least k)
  | inr below ↦ ap (λ n. min (suc k * n) too_heavy) (let e : v ≡ min v too_heavy = omega (arith, below) in e)
]
  where
    mul_at_least : (k : ℕ) → too_heavy ≤ suc k * too_heavy
    mul_at_least k = let h = mul-le-mul_left too_heavy (let l : 1 ≤ suc k = omega arith in l) in omega (arith, h)

pub times_capped : (k v w : ℕ) → min v too_heavy ≡ min w too_heavy → min (k * v) too_heavy ≡ min (k * w) too_heavy
times_capped k v w e = scaled k v ∙ ap (λ n. min (k * n) too_heavy) e ∙ sym (scaled k w)

pub plus_capped : (a b v w : ℕ) → min a too_heavy ≡ min v too_heavy → min b too_heavy ≡ min w too_heavy → min (a + b) too_heavy ≡ min (v + w) too_heavy
plus_capped a b v w e f = omega (arith, e, f)

pub max_capped : (a b v w : ℕ) → min a too_heavy ≡ min v too_heavy → min b too_heavy ≡ min w too_heavy → min (max a b) too_heavy ≡ min (max v w) too_heavy
max_capped a b v w e f = omega (arith, e, f)

-- Which names are fixed decides what is constant.

module _ (s t : Scope) (same : (x : Identifier) → s.fixed x ≡ t.fixed x) where
  mutual
    pub same_constant : (e : Tree) → is_constant s e ≡ is_constant t e
    same_constant (Node at site form) = same_form form

    same_form : (form : Form) → is_constant_form s form ≡ is_constant_form t form
    same_form (Named x) = same x
    same_form (Not e) = same_constant e
    same_form (Minus e) = same_constant e
    same_form (Binary op.Arrow a b) = refl
    same_form (Binary _ a b) = λ i. same_constant a i && same_constant b i
    same_form (If i a b) = λ j. same_constant i j && (same_constant a j && same_constant b j)
    same_form (AtMostOne es) = all_same es
    same_form _ = refl

    all_same : (es : Trees) → are_constant s es ≡ are_constant t es
    all_same None = refl
    all_same (More e es) = λ i. same_constant e i && all_same es i

-- What is read.

module _ (p : ProgramTree) (i : Instance) (P : Sites → Type 0) where
  -- one operand of a product is constant
  abbrev pub IsScaled : Op → Tree → Tree → Type 0
  IsScaled op.Times a b = (is_constant (node_scope p i.node) a || is_constant (node_scope p i.node) b) ≡ true
  IsScaled _ a b = Unit {0}

  -- The flows on which the weight of an expression depends have the property. Its calls are calls of the node with one
  -- output, and of each product one operand is constant.
  abbrev mutual
    pub Reads : Tree → Type 0
    Reads (Node at site form) = FormReads at site form

    pub FormReads : ℕ → Option ℕ → Form → Type 0
    FormReads at site (Named x) = is_flow i.node x ≡ true → P (place i x)
    FormReads at site (Minus e) = Reads e
    FormReads at site (Current e) = Reads e
    FormReads at site (When e c) = Reads e
    FormReads at site (Binary o a b) = IsScaled o a b × Reads a × Reads b
    FormReads at site (If c a b) = Reads a × Reads b
    FormReads at site (Call f es) = Contains (calls i.node) (record { at = at; site = unwrap_or site 0; name = f; args = es })
        × (length (node_of p f).outputs ≡ 1) × P (output_place p i (unwrap_or site 0) f 0)
    FormReads at site _ = Unit {0}

-- Weights of the same flows are the same.
module _ (p : ProgramTree) (i : Instance) (P : Sites → Type 0) (flows others : Sites → ℕ) (same : (q : Sites) → P q → flows q ≡ others q) where
  mutual
    pub same_weight : (e : Tree) → Reads p i P e → weight p flows i e ≡ weight p others i e
    same_weight (Node at site form) r = form_same at site form r

    form_same : (at : ℕ) (site : Option ℕ) (form : Form) → FormReads p i P at site form → exact_weight p flows i site form ≡ exact_weight p others i site form
    form_same at site (Named x) r = named (is_flow i.node x) refl
      where
        named : (b : Bool) → is_flow i.node x ≡ b
            → cond b (flows (place i x)) (nat_abs (whole_in (constant_value p x))) ≡ cond b (others (place i x)) (nat_abs (whole_in (constant_value p x)))
        named true e = same (place i x) (r e)
        named false e = refl
    form_same at site (Minus e) r = same_weight e r
    form_same at site (Current e) r = ap (max 1) (same_weight e r)
    form_same at site (When e c) r = same_weight e r
    form_same at site (Binary op.Times a b) r = λ j. cond (is_constant (node_scope p i.node) a) (constant_size p a * same_weight b r.2 j)
        (constant_size p b * same_weight a r.1 j)
    form_same at site (Binary op.Plus a b) r = λ j. same_weight a r.1 j + same_weight b r.2 j
    form_same at site (Binary op.Minus a b) r = λ j. same_weight a r.1 j + same_weight b r.2 j
    form_same at site (Binary op.Arrow a b) r = λ j. max (same_weight a r.1 j) (same_weight b r.2 j)
    form_same at site (If c a b) r = λ j. max (same_weight a r.0 j) (same_weight b r.1 j)
    form_same at site (Call f es) r = same (output_place p i (unwrap_or site 0) f 0) r.2
    form_same at site _ r = refl

-- what is known of an expression where it is constant
constant_known : (s : Scope) (k : Identifier → Value) (e : Tree) → is_constant s e ≡ true
    → (c : Weighed) × (constant_part s k e ≡ Some c) × (c.value ≡ value_of k e)
constant_known s k (Node at site form) e = (
  record { value = form_value k form; weight = min (form_weight k form) too_heavy },
  ap (λ b. cond b (Some (record { value = form_value k form; weight = min (form_weight k form) too_heavy })) Nothing) e,
  refl,
)

constant_unknown : (s : Scope) (k : Identifier → Value) (e : Tree) → is_constant s e ≡ false → constant_part s k e ≡ Nothing
constant_unknown s k (Node at site form) e = ap (λ b. cond b (Some (record { value = form_value k form; weight = min (form_weight k form) too_heavy })) Nothing)
    e

product_capped : (p : ProgramTree) (i : Instance) (w : Weighing) → ((x : Identifier) → w.scope.fixed x ≡ is_fixed i.node x) → w.known ≡ constant_value p
    → (a b : Tree) (v u x y : ℕ) → (is_constant (node_scope p i.node) a || is_constant (node_scope p i.node) b) ≡ true
    → min v too_heavy ≡ min x too_heavy → min u too_heavy ≡ min y too_heavy
    → min (product_of (constant_part w.scope w.known a) (constant_part w.scope w.known b) v u) too_heavy ≡ min
    (cond (is_constant (node_scope p i.node) a) (constant_size p a * y) (constant_size p b * x)) too_heavy
product_capped p i w fixed known a b v u x y one e f =
    chosen (is_constant (node_scope p i.node) a) (is_constant (node_scope p i.node) b) (constant a) (constant b) one
  where
    size : (e : Tree) → nat_abs (whole_in (value_of w.known e)) ≡ constant_size p e
    size e = ap (λ (k : Identifier → Value). nat_abs (whole_in (value_of k e))) known

    constant : (e : Tree) → is_constant w.scope e ≡ is_constant (node_scope p i.node) e
    constant e = same_constant w.scope (node_scope p i.node) fixed e

    chosen : (j k : Bool) → is_constant w.scope a ≡ j → is_constant w.scope b ≡ k → (j || k) ≡ true
        → min (product_of (constant_part w.scope w.known a) (constant_part w.scope w.known b) v u) too_heavy ≡ min
        (cond j (constant_size p a * y) (constant_size p b * x)) too_heavy
    chosen true k c d one =
        let left = constant_known w.scope w.known a c in
        ap (λ o. min (product_of o (constant_part w.scope w.known b) v u) too_heavy) left.1
        ∙ ap (λ (z : Value). min (nat_abs (whole_in z) * u) too_heavy) left.2
        ∙ ap (λ n. min (n * u) too_heavy) (size a) ∙ times_capped (constant_size p a) u y f
    chosen false true c d one =
        let right = constant_known w.scope w.known b d in
        (λ j. min (product_of (constant_unknown w.scope w.known a c j) (right.1 j) v u) too_heavy)
        ∙ ap (λ (z : Value). min (nat_abs (whole_in z) * v) too_heavy) right.2
        ∙ ap (λ n. min (n * v) too_heavy) (size b) ∙ times_capped (constant_size p b) v x e
    chosen false false c d one = cc

-- Tables that count to 2^40 + 1 give the weights that do.
module _ (p : ProgramTree) (i : Instance) (P : Sites → Type 0) (flows : Sites → ℕ) (w : Weighing)
    (fixed : (x : Identifier) → w.scope.fixed x ≡ is_fixed i.node x) (known : w.known ≡ constant_value p)
    (flow : (x : Identifier) → is_flow i.node x ≡ true → P (place i x) → min (w.flow x) too_heavy ≡ min (flows (place i x)) too_heavy)
    (output : (c : CallTree) → Contains (calls i.node) c → length (node_of p c.name).outputs ≡ 1 → P (output_place p i c.site c.name 0)
    → min (w.output c.site) too_heavy ≡ min (flows (output_place p i c.site c.name 0)) too_heavy) where
  mutual
    pub capped_weight : (e : Tree) → Reads p i P e → min (weight_in w e) too_heavy ≡ min (weight p flows i e) too_heavy
    capped_weight (Node at site form) r = form_capped at site form r

    form_capped : (at : ℕ) (site : Option ℕ) (form : Form) → FormReads p i P at site form
        → min (form_weight_in w site form) too_heavy ≡ min (exact_weight p flows i site form) too_heavy
    form_capped at site (Named x) r = ap (λ b. min (cond b (nat_abs (whole_in (w.known x))) (w.flow x)) too_heavy) (fixed x) ∙ named (is_flow i.node x) refl
      where
        named : (b : Bool) → is_flow i.node x ≡ b → min (cond (not b) (nat_abs (whole_in (w.known x))) (w.flow x)) too_heavy ≡ min
            (cond b (flows (place i x)) (nat_abs (whole_in (constant_value p x)))) too_heavy
        named true e = flow x e (r e)
        named false e = ap (λ (k : Identifier → Value). min (nat_abs (whole_in (k x))) too_heavy) known
    form_capped at site (Minus e) r = capped_weight e r
    form_capped at site (Current e) r = max_capped 1 (weight_in w e) 1 (weight p flows i e) refl (capped_weight e r)
    form_capped at site (When e c) r = capped_weight e r
    form_capped at site (Binary op.Times a b) r = product_capped p i w fixed known a b (weight_in w a) (weight_in w b) (weight p flows i a)
        (weight p flows i b) r.0 (capped_weight a r.1) (capped_weight b r.2)
    form_capped at site (Binary op.Plus a b) r = plus_capped (weight_in w a) (weight_in w b) (weight p flows i a) (weight p flows i b) (capped_weight a r.1)
        (capped_weight b r.2)
    form_capped at site (Binary op.Minus a b) r = plus_capped (weight_in w a) (weight_in w b) (weight p flows i a) (weight p flows i b) (capped_weight a r.1)
        (capped_weight b r.2)
    form_capped at site (Binary op.Arrow a b) r = max_capped (weight_in w a) (weight_in w b) (weight p flows i a) (weight p flows i b) (capped_weight a r.1)
        (capped_weight b r.2)
    form_capped at site (If c a b) r = max_capped (weight_in w a) (weight_in w b) (weight p flows i a) (weight p flows i b) (capped_weight a r.0)
        (capped_weight b r.1)
    form_capped at site (Call f es) r = output (record { at = at; site = unwrap_or site 0; name = f; args = es }) r.0 r.1 r.2
    form_capped at site _ r = refl
