-- The enumerations that types name are declared, and values of types fit the labels of a flat system.
use Rattle.std.proofs.Common.{◌≡◌, ℕ, zero, suc, ◌+◌, ◌<◌, Bool, true, false, ◌||◌, cond, nat_lt, List, [], ◌∷◌, map, length, reverse, slice_get, refl}
use Rattle.std.proofs.Common.{sym, ◌∙◌, ap, subst, arith, unwrap_or, Option, Some, None as Nothing}
use Rattle.std.proofs.lemmas.Option.{none-some, same_Some, slice_get-map}
use Rattle.std.proofs.{lemmas.Bool.Decides.nat_tests, lemmas.Bool.eq-eqb, lemmas.List.length-reverse}
use Rattle.std.specs.Option.{option_map}
use Rattle.rv_base.specs.declared.value.Value.{Value}
use Rattle.rv_base.specs.declared.value.Value.TheVariants.{Flag, Label, Whole}
use Rattle.rv_tree.specs.Tree.{Tree, Node, Number, Named, Not, Minus, Pre, Current, When, Binary, If, AtMostOne, Call, NodeTree, ProgramTree}
use Rattle.rv_tree.specs.{declared.tree.TypeName.TypeName, declared.tree.TypeBody.TypeBody, declared.tree.TypeDecl.TypeDecl, declared.tree.Decl.Decl}
use Rattle.rv_tree.specs.{declared.tree.Op.Op, Places.Identifier, Places.is_same, Places.is_flow, Places.site_of}
use Rattle.rv_tree.specs.declared.tree.TypeName.TheVariants as written
use Rattle.rv_tree.specs.declared.tree.TypeBody.TheVariants as body
use Rattle.rv_tree.specs.declared.tree.Op.TheVariants as op
use Rattle.rv_types.specs.{Kinds.written_kind, Kinds.declared_kind, Kinds.kind_after, Kinds.kind_in_program, Kinds.decl_kinds, Kinds.flow_kind, Types.kind_in}
use Rattle.rv_types.specs.{Types.same_kind, Types.both_are, Types.one_of, Types.binary_rule, declared.typed.Kind.Kind, declared.fault.Verdict.TheVariants.Has}
use Rattle.rv_types.specs.{declared.fault.Verdict.TheVariants.Clashes, declared.fault.Verdict.TheVariants.Multiplies, Names.decls, Names.labels_of, Names.texts}
use Rattle.rv_types.specs.{Scopes.value_kind, Scopes.constant_kind, Scopes.constant_value, Values.HasKind, Values.labels_at, WellFormed.AreWell}
use Rattle.rv_types.specs.declared.typed.Kind.TheVariants as kind
use Rattle.rv_agreement.specs.Checks.{enumerations, all_kinds, any_of, constant_fits}
use Rattle.rv_flat.proofs.TypedParts.{IsTyped, minus_typed, not_typed, pre_typed, current_typed, when_typed, binary_typed, if_typed, most_typed, call_typed}
use Rattle.rv_flat.proofs.Typing.{counted}
use Rattle.rv_flatten.proofs.FlowKinds.{signature_is}
use Rattle.rv_types.proofs.Verdicts.{met_kind}
use Rattle.rv_base.proofs.Truths.{or_true}

-- a type is one of so many enumerations, or a Boolean or an integer
abbrev pub IsBelow : ℕ → Kind → Type 0
IsBelow n (kind.Labels i) = i < n
IsBelow n _ = Unit {0}

more_below : (n : ℕ) (k : Kind) → IsBelow n k → IsBelow (suc n) k
more_below n (kind.Labels i) h = omega (arith, h)
more_below n _ h = tt

-- where every type that is named is below, what is written is
written_below : (n : ℕ) (named : Identifier → Option Kind) → ((t : Identifier) (k : Kind) → named t ≡ Some k → IsBelow n k) → (t : TypeName)
    → IsBelow n (written_kind named t)
written_below n named each written.Bool = tt
written_below n named each written.Int = tt
written_below n named each (written.Named t) = by (named t.text) refl
  where
    by : (o : Option Kind) → named t.text ≡ o → IsBelow n (unwrap_or o kind.Bool)
    by Nothing e = tt
    by (Some k) e = each t.text k e

declared_below : (n : ℕ) (named : Identifier → Option Kind) → ((t : Identifier) (k : Kind) → named t ≡ Some k → IsBelow n k) → (b : TypeBody)
    → IsBelow (suc n) (declared_kind named n b)
declared_below n named each (body.Alias t) = more_below n (written_kind named t) (written_below n named each t)
declared_below n named each (body.Labels xs) = omega arith

after_below : (before : List TypeDecl) (t : Identifier) (k : Kind) → kind_after before t ≡ Some k → IsBelow (length before) k
after_below [] t k e = absurd (none-some k e)
after_below (d ∷ before) t k e = by (is_same d.name.text t) (λ u j f. after_below before u j f) e
  where
    by : (b : Bool) → ((u : Identifier) (j : Kind) → kind_after before u ≡ Some j → IsBelow (length before) j)
        → cond b (Some (declared_kind (kind_after before) (length before) d.body)) (kind_after before t) ≡ Some k → IsBelow (suc (length before)) k
    by true each e = subst (IsBelow (suc (length before))) (same_Some _ k e) (declared_below (length before) (kind_after before) each d.body)
    by false each e = more_below (length before) k (each t k e)

-- a product is of integers, of which one is constant
pub product_rule : (b scaled : Bool) (k : Kind) → kind_in (cond b (cond scaled (Has kind.Int) Multiplies) Clashes) ≡ Some k
    → (b ≡ true) × (scaled ≡ true) × (kind.Int ≡ k)
product_rule true true k e = (refl, refl, same_Some kind.Int k e)
product_rule true false k e = absurd (none-some k e)
product_rule false scaled k e = absurd (none-some k e)

pub product_scaled : (scaled : Bool) (o : Op) (l r k : Kind) → kind_in (binary_rule true scaled o l r) ≡ Some k → o ≡ op.Times → scaled ≡ true
product_scaled scaled o l r k e times = (product_rule (both_are kind.Int l r) scaled k (sym (ap (λ u. kind_in (binary_rule true scaled u l r)) times) ∙ e)).1

module _ (program : ProgramTree) where
  -- an enumeration is declared
  abbrev pub IsDeclared : Kind → Type 0
  IsDeclared = IsBelow (length program.types)

  in_program : (t : TypeName) → IsDeclared (kind_in_program program t)
  in_program t = subst (λ n. IsBelow n (kind_in_program program t)) (length-reverse program.types)
      (written_below (length (reverse program.types)) (kind_after (reverse program.types)) (after_below (reverse program.types)) t)

  of_decls : (ds : List Decl) (s : ℕ) (k : Kind) → slice_get (decl_kinds program ds) s ≡ Some k → IsDeclared k
  of_decls ds s k e = by (slice_get ds s) (sym (slice_get-map (λ d. kind_in_program program d.kind) ds s) ∙ e)
    where
      by : (o : Option Decl) → option_map (λ d. kind_in_program program d.kind) o ≡ Some k → IsDeclared k
      by Nothing e = absurd (none-some k e)
      by (Some d) e = subst IsDeclared (same_Some _ k e) (in_program d.kind)

  -- of a value of an enumeration that is declared
  labels_within : (ds : List TypeDecl) (i l : ℕ) → l < labels_at ds i → i < length ds
  labels_within [] i l lt = absurd (omega (arith, lt))
  labels_within (d ∷ ds) zero l lt = omega arith
  labels_within (d ∷ ds) (suc i) l lt = omega (arith, labels_within ds i l lt)

  of_value : (k : Kind) (v : Value) → HasKind program k v → IsDeclared k
  of_value kind.Bool v h = tt
  of_value kind.Int v h = tt
  of_value (kind.Labels i) (Label l) h = labels_within program.types i l h
  of_value (kind.Labels i) (Flag b) h = absurd h
  of_value (kind.Labels i) (Whole z) h = absurd h

  module _ (well : AreWell program) (n : NodeTree) where
    of_name : (x : Identifier) (b : Bool) (k : Kind) → cond b (flow_kind program n x) (constant_kind program x) ≡ Some k → IsDeclared k
    of_name x true k e = of_decls (decls n) (site_of n x) k e
    of_name x false k e = of_value k (constant_value program x) (well.values x k e)

    one_has : (o : Option Kind) (k : Kind) → kind_in (one_of Has o) ≡ Some k → o ≡ Some k
    one_has Nothing k e = absurd (none-some k e)
    one_has (Some j) k e = e

    of_rule : (scaled : Bool) (o : Op) (i j k : Kind) → IsDeclared i → kind_in (binary_rule true scaled o i j) ≡ Some k → IsDeclared k
    of_rule scaled op.Arrow i j k h e = subst IsDeclared (met_kind (same_kind i j) i k e).1 h
    of_rule scaled op.Equal i j k h e = subst IsDeclared (met_kind (same_kind i j) kind.Bool k e).1 tt
    of_rule scaled op.Differs i j k h e = subst IsDeclared (met_kind (same_kind i j) kind.Bool k e).1 tt
    of_rule scaled op.Less i j k h e = subst IsDeclared (met_kind (both_are kind.Int i j) kind.Bool k e).1 tt
    of_rule scaled op.AtMost i j k h e = subst IsDeclared (met_kind (both_are kind.Int i j) kind.Bool k e).1 tt
    of_rule scaled op.Greater i j k h e = subst IsDeclared (met_kind (both_are kind.Int i j) kind.Bool k e).1 tt
    of_rule scaled op.AtLeast i j k h e = subst IsDeclared (met_kind (both_are kind.Int i j) kind.Bool k e).1 tt
    of_rule scaled op.Plus i j k h e = subst IsDeclared (met_kind (both_are kind.Int i j) kind.Int k e).1 tt
    of_rule scaled op.Minus i j k h e = subst IsDeclared (met_kind (both_are kind.Int i j) kind.Int k e).1 tt
    of_rule scaled op.Times i j k h e = subst IsDeclared (product_rule (both_are kind.Int i j) scaled k e).2 tt
    of_rule scaled op.Slash i j k h e = absurd (none-some k e)
    of_rule scaled op.Div i j k h e = absurd (none-some k e)
    of_rule scaled op.Mod i j k h e = absurd (none-some k e)
    of_rule scaled _ i j k h e = subst IsDeclared (met_kind (both_are kind.Bool i j) kind.Bool k e).1 tt

    mutual
      -- the type of an expression of a node
      pub kind_declared : (e : Tree) (k : Kind) → IsTyped program n e k → IsDeclared k
      kind_declared (Node at site (Number v)) k t = subst IsDeclared (same_Some kind.Int k t) tt
      kind_declared (Node at site (Named x)) k t = of_name x (is_flow n x) k (one_has (value_kind program n x) k t)
      kind_declared (Node at site (Not e)) k t = subst IsDeclared (not_typed program n at site e k t).1 tt
      kind_declared (Node at site (Minus e)) k t = subst IsDeclared (minus_typed program n at site e k t).1 tt
      kind_declared (Node at site (Pre e)) k t = kind_declared e k (pre_typed program n at site e k t)
      kind_declared (Node at site (Current e)) k t = kind_declared e k (current_typed program n at site e k t)
      kind_declared (Node at site (When e c)) k t = kind_declared e k (when_typed program n at site e c k t).0
      kind_declared (Node at site (Binary o a b)) k t = let r = binary_typed program n at site o a b k t in
          of_rule _ o r.left r.right k (kind_declared a r.left r.left_is) r.rule
      kind_declared (Node at site (If a b c)) k t = kind_declared b k (if_typed program n at site a b c k t).1
      kind_declared (Node at site (AtMostOne es)) k t = subst IsDeclared (most_typed program n at site es k t).1 tt
      kind_declared (Node at site (Call f es)) k t =
          let r = call_typed program n at site f es k t in
          of_decls _ 0 k (ap (λ l. slice_get l 0) (signature_is program f r.signature r.known ∙ r.gives))
      kind_declared (Node at site _) k t = subst IsDeclared (same_Some kind.Bool k t) tt

-- a type is itself
pub kind_itself : (k : Kind) → same_kind k k ≡ true
kind_itself (kind.Labels n) = eq-eqb n n refl
kind_itself _ = refl

-- what holds of a type that is declared holds of one of all
among_enumerations : (test : Kind → Bool) (i n from : ℕ) → i < n → test (kind.Labels (from + i)) ≡ true → any_of test (enumerations from n) ≡ true
among_enumerations test i zero from lt e = absurd (omega (arith, lt))
among_enumerations test zero (suc n) from lt e =
    let same : from + 0 ≡ from = omega arith in
    ap (λ b. b || any_of test (enumerations (from + 1) n)) (sym (ap (λ m. test (kind.Labels m)) same) ∙ e)
among_enumerations test (suc i) (suc n) from lt e =
    let same : from + suc i ≡ (from + 1) + i = omega arith in
    ap (λ b. test (kind.Labels from) || b) (among_enumerations test i n (from + 1) (omega (arith, lt)) (sym (ap (λ m. test (kind.Labels m)) same) ∙ e))
    ∙ or_true (test (kind.Labels from))

pub among_kinds : (labels : List ℕ) (test : Kind → Bool) (k : Kind) → IsBelow (length labels) k → test k ≡ true → any_of test (all_kinds labels) ≡ true
among_kinds labels test kind.Bool h e = ap (λ b. b || (test kind.Int || any_of test (enumerations 0 (length labels)))) e
among_kinds labels test kind.Int h e = ap (λ b. test kind.Bool || (b || any_of test (enumerations 0 (length labels)))) e ∙ or_true (test kind.Bool)
among_kinds labels test (kind.Labels i) h e =
    let same : 0 + i ≡ i = omega arith in
    ap (λ b. test kind.Bool || (test kind.Int || b)) (among_enumerations test i (length labels) 0 h (ap (λ m. test (kind.Labels m)) same ∙ e))
    ∙ ap (λ b. test kind.Bool || b) (or_true (test kind.Int)) ∙ or_true (test kind.Bool)

-- a value of a type fits the labels
pub value_fits : (program : ProgramTree) (k : Kind) (v : Value) → HasKind program k v
    → constant_fits (map (λ ls. length ls) (map (λ d. texts (labels_of d)) program.types)) k v ≡ true
value_fits program kind.Bool (Flag b) h = refl
value_fits program kind.Bool (Label l) h = absurd h
value_fits program kind.Bool (Whole z) h = absurd h
value_fits program kind.Int (Flag b) h = absurd h
value_fits program kind.Int (Label l) h = absurd h
value_fits program kind.Int (Whole z) h = refl
value_fits program (kind.Labels i) (Flag b) h = absurd h
value_fits program (kind.Labels i) (Whole z) h = absurd h
value_fits program (kind.Labels i) (Label l) h = by l (labels_at program.types i) _ (sym (counted program.types i)) h
  where
    by : (l m n : ℕ) → m ≡ n → l < m → nat_lt l n ≡ true
    by l m n e lt = grind (arith, nat_tests, e, lt)
