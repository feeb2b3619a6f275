-- An expression without a fault whose names are known has a type.
use Rattle.std.proofs.Common.{◌≡◌, ℕ, Bool, true, false, cond, ◌&&◌, ◌||◌, List, [], ◌∷◌, refl, Option, Some, is_some, None as Nothing}
use Rattle.rv_tree.specs.Tree.{Tree, Node, Form, Named, Not, Minus, Pre, Current, When, Binary, If, AtMostOne, Call, Trees, None, More}
use Rattle.rv_tree.specs.{declared.tree.Op.Op, Places.Identifier}
use Rattle.rv_tree.specs.declared.tree.Op.TheVariants as op
use Rattle.rv_types.specs.declared.fault.Verdict.TheVariants.{Has, Silent, Clashes, Multiplies}
use Rattle.rv_types.specs.Types.{Scope, Signature, kind_in, fault_in, same_kind, where_met, one_of, two_of, three_of, all_typed, all_suit, fit, binary_rule}
use Rattle.rv_types.specs.Types.{both_are, not_rule, minus_rule, memory_rule, when_rule, when_of, if_rule, at_most_one_of, sole, call_of, form_verdict, kind_of}
use Rattle.rv_types.specs.Types.{kinds_of_all, own_type_fault, expression_types, is_constant}
use Rattle.rv_types.specs.{declared.typed.Kind.Kind, declared.fault.Verdict.Verdict, Names.own_uses, Names.uses, Parts.faults_below, Parts.faults_of_all}
use Rattle.rv_types.specs.declared.typed.Kind.TheVariants as kind
use Rattle.rv_types.proofs.RightNames.{both_empty, met}

-- a rule that is not broken gives a type
abbrev IsTypedUnless : ℕ → Verdict → Type 0
IsTypedUnless at v = fault_in at v ≡ [] → is_some (kind_in v) ≡ true

where_typed : (at : ℕ) (b : Bool) (k : Kind) → IsTypedUnless at (where_met b k)
where_typed at true k e = refl
where_typed at false k e = cc

product_typed : (at : ℕ) (b c : Bool) → IsTypedUnless at (cond b (cond c (Has kind.Int) Multiplies) Clashes)
product_typed at true true e = refl
product_typed at _ _ e = cc

binary_typed : (at : ℕ) (moves scaled : Bool) (o : Op) (j k : Kind) → IsTypedUnless at (binary_rule moves scaled o j k)
binary_typed at moves scaled op.Times j k e = product_typed at (both_are kind.Int j k) scaled e
binary_typed at moves scaled op.Slash j k e = cc
binary_typed at moves scaled op.Div j k e = cc
binary_typed at moves scaled op.Mod j k e = cc
binary_typed at moves scaled _ j k e = where_typed at _ _ e

one_typed : (at : ℕ) (rule : Kind → Verdict) → ((k : Kind) → IsTypedUnless at (rule k)) → (a : Option Kind) → is_some a ≡ true
    → IsTypedUnless at (one_of rule a)
one_typed at rule each Nothing h e = cc
one_typed at rule each (Some k) h e = each k e

two_typed : (at : ℕ) (rule : Kind → Kind → Verdict) → ((j k : Kind) → IsTypedUnless at (rule j k)) → (a b : Option Kind) → is_some a ≡ true → is_some b ≡ true
    → IsTypedUnless at (two_of rule a b)
two_typed at rule each (Some j) (Some k) g h e = each j k e
two_typed at rule each _ _ g h e = cc

three_typed : (at : ℕ) (a b c : Option Kind) → is_some a ≡ true → is_some b ≡ true → is_some c ≡ true → IsTypedUnless at (three_of if_rule a b c)
three_typed at (Some i) (Some j) (Some k) f g h e = where_typed at (same_kind i kind.Bool && same_kind j k) j e
three_typed at _ _ _ f g h e = cc

when_typed : (at : ℕ) (moves : Bool) (a b : Option Kind) → is_some a ≡ true → (moves ≡ true → is_some b ≡ true) → IsTypedUnless at (when_of moves a b)
when_typed at true a b g h e = two_typed at when_rule (λ j k. where_typed at (same_kind k kind.Bool) j) a b g (h refl) e
when_typed at false a b g h e = one_typed at (λ k. Clashes) (λ k f. cc) a g e

most_typed : (at : ℕ) (ks : List (Option Kind)) → all_typed ks ≡ true → IsTypedUnless at (at_most_one_of ks)
most_typed at ks h = by (all_typed ks) h
  where
    by : (b : Bool) → b ≡ true → IsTypedUnless at (cond b (where_met (all_suit kind.Bool ks) kind.Bool) Silent)
    by true h e = where_typed at (all_suit kind.Bool ks) kind.Bool e
    by false h e = cc

-- a call: its node is known, and its arguments fit
pub record IsFitting (g : Option Signature) (ks : List (Option Kind)) : Type 0 where
  pub signature : Signature
  pub known : g ≡ Some signature
  pub fits : fit signature.takes ks ≡ true
  pub typed : all_typed ks ≡ true

sole_typed : (at : ℕ) (ks : List Kind) → IsTypedUnless at (sole ks)
sole_typed at (k ∷ []) e = refl
sole_typed at _ e = cc

called_typed : (at : ℕ) (b c : Bool) (gives : List Kind) → b ≡ true → fault_in at (cond b (cond c (sole gives) Clashes) Silent) ≡ []
    → (c ≡ true) × (is_some (kind_in (cond b (cond c (sole gives) Clashes) Silent)) ≡ true)
called_typed at true true gives h e = (refl, sole_typed at gives e)
called_typed at _ _ gives h e = cc

no_call : {G : Type 0} (at : ℕ) (b : Bool) → b ≡ true → fault_in at (cond b Clashes Silent) ≡ [] → G
no_call at true h e = cc
no_call at false h e = cc

pub call_fits : (at : ℕ) (moves : Bool) (g : Option Signature) (ks : List (Option Kind)) → all_typed ks ≡ true → (moves ≡ true → is_some g ≡ true)
    → fault_in at (call_of moves g ks) ≡ [] → IsFitting g ks × (is_some (kind_in (call_of moves g ks)) ≡ true)
call_fits at false g ks typed known e = no_call at (all_typed ks) typed e
call_fits at true Nothing ks typed known e = let no : false ≡ true = known refl in cc
call_fits at true (Some g) ks typed known e =
    let h = called_typed at (all_typed ks) (fit g.takes ks) g.gives typed e in
    (record { signature = g; known = refl; fits = h.0; typed = typed }, h.1)

head_typed : (k : Option Kind) (ks : List (Option Kind)) → is_some k ≡ true → all_typed ks ≡ true → all_typed (k ∷ ks) ≡ true
head_typed Nothing ks h more = cc
head_typed (Some k) ks h more = more

module _ (s : Scope) (values clocks nodes : Identifier → Bool)
    (known_value : (x : Identifier) → values x ≡ true → is_some (s.kind x) ≡ true)
    (known_clock : (x : Identifier) → s.moves ≡ true → clocks x ≡ true → is_some (s.clock x) ≡ true)
    (known_node : (f : Identifier) → s.moves ≡ true → nodes f ≡ true → is_some (s.callee f) ≡ true)
  where
    value_typed : (at : ℕ) (a : Option Kind) → is_some a ≡ true → IsTypedUnless at (one_of Has a)
    value_typed at a h = one_typed at Has (λ k e. refl) a h

    mutual
      pub typed : (t : Tree) → expression_types s t ≡ [] → uses values clocks nodes t ≡ [] → is_some (kind_of s t) ≡ true
      typed (Node at site form) e u =
          let t = both_empty _ _ e in
          let v = both_empty _ _ u in
          form_typed at site form t.0 t.1 v.0 v.1

      form_typed : (at : ℕ) (site : Option ℕ) (form : Form) → fault_in at (form_verdict s form) ≡ [] → faults_below (own_type_fault s) form ≡ []
          → own_uses values clocks nodes (Node at site form) ≡ [] → faults_below (own_uses values clocks nodes) form ≡ []
          → is_some (kind_in (form_verdict s form)) ≡ true
      form_typed at site (Named x) o e p u = value_typed at (s.kind x) (known_value x (met _ _ p)) o
      form_typed at site (Not t) o e p u = one_typed at not_rule (λ k. where_typed at (same_kind k kind.Bool) kind.Bool) (kind_of s t) (typed t e u) o
      form_typed at site (Minus t) o e p u = one_typed at minus_rule (λ k. where_typed at (same_kind k kind.Int) kind.Int) (kind_of s t) (typed t e u) o
      form_typed at site (Pre t) o e p u = one_typed at (memory_rule s.moves) (λ k. where_typed at s.moves k) (kind_of s t) (typed t e u) o
      form_typed at site (Current t) o e p u = one_typed at (memory_rule s.moves) (λ k. where_typed at s.moves k) (kind_of s t) (typed t e u) o
      form_typed at site (When t c) o e p u = when_typed at s.moves (kind_of s t) (s.clock c.text) (typed t e u)
          (λ m. known_clock c.text m (met _ _ p)) o
      form_typed at site (Binary q a b) o e p u =
          let t = both_empty _ _ e in
          let v = both_empty _ _ u in
          two_typed at (binary_rule s.moves (is_constant s a || is_constant s b) q) (binary_typed at s.moves (is_constant s a || is_constant s b) q)
          (kind_of s a) (kind_of s b) (typed a t.0 v.0) (typed b t.1 v.1) o
      form_typed at site (If i a b) o e p u =
          let t = both_empty _ _ e in
          let f = both_empty _ _ t.1 in
          let v = both_empty _ _ u in
          let w = both_empty _ _ v.1 in
          three_typed at (kind_of s i) (kind_of s a) (kind_of s b) (typed i t.0 v.0) (typed a f.0 w.0) (typed b f.1 w.1) o
      form_typed at site (AtMostOne es) o e p u = most_typed at (kinds_of_all s es) (arguments_typed es e u) o
      form_typed at site (Call f es) o e p u = (call_fits at s.moves (s.callee f) (kinds_of_all s es) (arguments_typed es e u)
          (λ m. known_node f m (met _ _ p)) o).1
      form_typed at site _ o e p u = refl

      pub arguments_typed : (es : Trees) → faults_of_all (own_type_fault s) es ≡ [] → faults_of_all (own_uses values clocks nodes) es ≡ []
          → all_typed (kinds_of_all s es) ≡ true
      arguments_typed None e u = refl
      arguments_typed (More t ts) e u =
          let f = both_empty _ _ e in
          let v = both_empty _ _ u in
          head_typed (kind_of s t) (kinds_of_all s ts) (typed t f.0 v.0) (arguments_typed ts f.1 v.1)
