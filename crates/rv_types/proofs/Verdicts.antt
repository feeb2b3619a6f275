-- What the type of an expression says of its operands: the rules of types, read backwards.
use Rattle.std.proofs.Common.{◌≡◌, Bool, true, false, ◌&&◌, cond, List, [], ◌∷◌, refl, sym, ◌∙◌, ap, Option, Some, None as Nothing}
use Rattle.std.proofs.{lemmas.Bool.eqb-true, lemmas.Option.none-some, lemmas.Option.same_Some}
use Rattle.rv_types.specs.Types.{Signature, kind_in, same_kind, where_met, one_of, two_of, three_of, memory_rule, when_rule, when_of, if_rule, all_typed}
use Rattle.rv_types.specs.Types.{all_suit, at_most_one_of, fit, sole, call_of}
use Rattle.rv_types.specs.declared.fault.Verdict.TheVariants.{Has, Silent, Clashes, Multiplies}
use Rattle.rv_types.specs.{declared.typed.Kind.Kind, declared.fault.Verdict.Verdict}
use Rattle.rv_types.specs.declared.typed.Kind.TheVariants as kind
use Rattle.rv_base.proofs.Truths.{both_of}

pub kind_same : (j k : Kind) → same_kind j k ≡ true → j ≡ k
kind_same kind.Bool kind.Bool e = refl
kind_same kind.Int kind.Int e = refl
kind_same (kind.Labels n) (kind.Labels m) e = ap kind.Labels (eqb-true n m e)
kind_same _ _ e = cc

-- a rule that is met gives its type
pub met_kind : (met : Bool) (j k : Kind) → kind_in (where_met met j) ≡ Some k → (met ≡ true) × (j ≡ k)
met_kind true j k e = (refl, same_Some j k e)
met_kind false j k e = absurd (none-some k e)

-- what has a type by a rule of one operand, of two, of three, has operands of types
pub one_kind : (rule : Kind → Verdict) (a : Option Kind) (k : Kind) → kind_in (one_of rule a) ≡ Some k → (j : Kind) × (a ≡ Some j) × (kind_in (rule j) ≡ Some k)
one_kind rule Nothing k e = absurd (none-some k e)
one_kind rule (Some j) k e = (j, refl, e)

pub two_kinds : (rule : Kind → Kind → Verdict) (a b : Option Kind) (k : Kind) → kind_in (two_of rule a b) ≡ Some k
    → (i : Kind) × (j : Kind) × (a ≡ Some i) × (b ≡ Some j) × (kind_in (rule i j) ≡ Some k)
two_kinds rule (Some i) (Some j) k e = (i, j, refl, refl, e)
two_kinds rule _ _ k e = absurd (none-some k e)

pub three_kinds : (rule : Kind → Kind → Kind → Verdict) (a b c : Option Kind) (k : Kind) → kind_in (three_of rule a b c) ≡ Some k
    → (h : Kind) × (i : Kind) × (j : Kind) × (a ≡ Some h) × (b ≡ Some i) × (c ≡ Some j) × (kind_in (rule h i j) ≡ Some k)
three_kinds rule (Some h) (Some i) (Some j) k e = (h, i, j, refl, refl, refl, e)
three_kinds rule _ _ _ k e = absurd (none-some k e)

-- a name
pub named_kind : (o : Option Kind) (k : Kind) → kind_in (one_of Has o) ≡ Some k → o ≡ Some k
named_kind Nothing k e = absurd (none-some k e)
named_kind (Some j) k e = e

-- `not` and `-`, which want one type and give it
pub suited_kind : (wanted : Kind) (o : Option Kind) (k : Kind) → kind_in (one_of (λ j. where_met (same_kind j wanted) wanted) o) ≡ Some k
    → (o ≡ Some wanted) × (wanted ≡ k)
suited_kind wanted o k e =
    let r = one_kind (λ j. where_met (same_kind j wanted) wanted) o k e in
    let m = met_kind (same_kind r.0 wanted) wanted k r.2 in
    (r.1 ∙ ap Some (kind_same r.0 wanted m.0), m.1)

-- `pre` and `current`
pub memory_kind : (moves : Bool) (o : Option Kind) (k : Kind) → kind_in (one_of (memory_rule moves) o) ≡ Some k → (moves ≡ true) × (o ≡ Some k)
memory_kind moves o k e =
    let r = one_kind (memory_rule moves) o k e in
    let m = met_kind moves r.0 k r.2 in
    (m.0, r.1 ∙ ap Some m.1)

pub when_kind : (moves : Bool) (o c : Option Kind) (k : Kind) → kind_in (when_of moves o c) ≡ Some k → (moves ≡ true) × (o ≡ Some k) × (c ≡ Some kind.Bool)
when_kind true o c k e =
    let r = two_kinds when_rule o c k e in
    let m = met_kind (same_kind r.1 kind.Bool) r.0 k r.4 in
    (refl, r.2 ∙ ap Some m.1, r.3 ∙ ap Some (kind_same r.1 kind.Bool m.0))
when_kind false o c k e = let r = one_kind (λ j. Clashes) o k e in absurd (none-some k r.2)

pub if_kinds : (a b c : Option Kind) (k : Kind) → kind_in (three_of if_rule a b c) ≡ Some k → (a ≡ Some kind.Bool) × (b ≡ Some k) × (c ≡ Some k)
if_kinds a b c k e =
    let r = three_kinds if_rule a b c k e in
    let m = met_kind (same_kind r.0 kind.Bool && same_kind r.1 r.2) r.1 k r.6 in
    let both = both_of (same_kind r.0 kind.Bool) (same_kind r.1 r.2) m.0 in
    (r.3 ∙ ap Some (kind_same r.0 kind.Bool both.0), r.4 ∙ ap Some m.1, r.5 ∙ ap Some (sym (kind_same r.1 r.2 both.1) ∙ m.1))

-- `#`
pub most_kind : (ks : List (Option Kind)) (k : Kind) → kind_in (at_most_one_of ks) ≡ Some k
    → (all_typed ks ≡ true) × (all_suit kind.Bool ks ≡ true) × (kind.Bool ≡ k)
most_kind ks k e = by (all_typed ks) e
  where
    by : (b : Bool) → kind_in (cond b (where_met (all_suit kind.Bool ks) kind.Bool) Silent) ≡ Some k
        → (b ≡ true) × (all_suit kind.Bool ks ≡ true) × (kind.Bool ≡ k)
    by true e = let m = met_kind (all_suit kind.Bool ks) kind.Bool k e in (refl, m.0, m.1)
    by false e = absurd (none-some k e)

-- a product
pub product_kind : (met scaled : Bool) (k : Kind) → kind_in (cond met (cond scaled (Has kind.Int) Multiplies) Clashes) ≡ Some k
    → (scaled ≡ true) × (kind.Int ≡ k)
product_kind true true k e = (refl, same_Some kind.Int k e)
product_kind _ _ k e = absurd (none-some k e)

-- a call: the node that it names takes its arguments and gives one output
pub record Called (g : Option Signature) (ks : List (Option Kind)) (k : Kind) : Type 0 where
  pub signature : Signature
  pub known : g ≡ Some signature
  pub typed : all_typed ks ≡ true
  pub fits : fit signature.takes ks ≡ true
  pub gives : signature.gives ≡ k ∷ []

sole_kind : (ks : List Kind) (k : Kind) → kind_in (sole ks) ≡ Some k → ks ≡ k ∷ []
sole_kind (j ∷ []) k e = ap (λ l. l ∷ []) (same_Some j k e)
sole_kind _ k e = absurd (none-some k e)

-- A call that has a type does not stand in a constant.
pub call_kind : (moves : Bool) (g : Option Signature) (ks : List (Option Kind)) (k : Kind) → kind_in (call_of moves g ks) ≡ Some k
    → (moves ≡ true) × Called g ks k
call_kind false g ks k e = absurd (by (all_typed ks) e)
  where
    by : (b : Bool) → kind_in (cond b Clashes Silent) ≡ Some k → ⊥
    by true e = none-some k e
    by false e = none-some k e
call_kind true Nothing ks k e = absurd (none-some k e)
call_kind true (Some g) ks k e = (refl, by (all_typed ks) (fit g.takes ks) refl refl e)
  where
    by : (b c : Bool) → all_typed ks ≡ b → fit g.takes ks ≡ c → kind_in (cond b (cond c (sole g.gives) Clashes) Silent) ≡ Some k → Called (Some g) ks k
    by true true t f e = record { signature = g; known = refl; typed = t; fits = f; gives = sole_kind g.gives k e }
    by _ _ t f e = absurd (none-some k e)

-- of some types that are all known, the first is, and so are the rest
pub first_typed : (o : Option Kind) (ks : List (Option Kind)) → all_typed (o ∷ ks) ≡ true → ((k : Kind) × (o ≡ Some k)) × (all_typed ks ≡ true)
first_typed Nothing ks e = cc
first_typed (Some k) ks e = ((k, refl), e)
