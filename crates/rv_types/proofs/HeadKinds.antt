-- What is told of an expression is its type, where it has one; so is what its head tells.
use Rattle.std.proofs.Common.{◌≡◌, Bool, ◌&&◌, ◌||◌, ◌∙◌, ap, unwrap_or, slice_get, List, Some, None as Nothing}
use Rattle.std.proofs.lemmas.Option.{none-some}
use Rattle.rv_tree.specs.Tree.{Tree, Form, Node, Named, Not, Minus, Pre, Current, When, Binary, If, AtMostOne, Call}
use Rattle.rv_tree.specs.declared.tree.Op.{Op}
use Rattle.rv_tree.specs.declared.tree.Op.TheVariants as op
use Rattle.rv_types.specs.Heads.{kind_given, Telling, Itself, telling, form_telling, first_output, meant, head_kind}
use Rattle.rv_types.specs.Types.{Scope, kind_in, same_kind, both_are, binary_rule, is_constant, kind_of, form_verdict, kinds_of_all}
use Rattle.rv_types.specs.declared.typed.Kind.{Kind}
use Rattle.rv_types.specs.declared.typed.Kind.TheVariants as kind
use Rattle.rv_types.proofs.Verdicts.{met_kind, two_kinds, named_kind, suited_kind, memory_kind, when_kind, if_kinds, most_kind, product_kind, call_kind}

module _ (s : Scope) where
  -- an operator's result
  by_operator : (scaled : Bool) (o : Op) (left : Telling) (i j k : Kind) → meant s left ≡ Some i → kind_in (binary_rule s.moves scaled o i j) ≡ Some k
      → meant s (elim (kind_given o) as (λ _. Telling) [ Nothing ↦ left | Some r ↦ Itself r ]) ≡ Some k
  by_operator scaled op.Arrow left i j k h e = h ∙ ap Some (met_kind (s.moves && same_kind i j) i k e).1
  by_operator scaled op.Plus left i j k h e = ap Some (met_kind _ kind.Int k e).1
  by_operator scaled op.Minus left i j k h e = ap Some (met_kind _ kind.Int k e).1
  by_operator scaled op.Times left i j k h e = ap Some (product_kind (both_are kind.Int i j) scaled k e).1
  by_operator scaled op.Slash left i j k h e = absurd (none-some k e)
  by_operator scaled op.Div left i j k h e = absurd (none-some k e)
  by_operator scaled op.Mod left i j k h e = absurd (none-some k e)
  by_operator scaled _ left i j k h e = ap Some (met_kind _ kind.Bool k e).1

  mutual
    -- what is told of an expression with a type is its type
    pub told_right : (e : Tree) (k : Kind) → kind_of s e ≡ Some k → meant s (telling e) ≡ Some k
    told_right (Node at site form) k h = form_right form k h

    form_right : (form : Form) (k : Kind) → kind_in (form_verdict s form) ≡ Some k → meant s (form_telling form) ≡ Some k
    form_right (Named x) k h = named_kind (s.kind x) k h
    form_right (Not e) k h = ap Some (suited_kind kind.Bool (kind_of s e) k h).1
    form_right (Minus e) k h = ap Some (suited_kind kind.Int (kind_of s e) k h).1
    form_right (Pre e) k h = told_right e k (memory_kind s.moves (kind_of s e) k h).1
    form_right (Current e) k h = told_right e k (memory_kind s.moves (kind_of s e) k h).1
    form_right (When e c) k h = told_right e k (when_kind s.moves (kind_of s e) (s.clock c.text) k h).1
    form_right (Binary o a b) k h =
        let scaled = is_constant s a || is_constant s b in
        let r = two_kinds (binary_rule s.moves scaled o) (kind_of s a) (kind_of s b) k h in
        by_operator scaled o (telling a) r.0 r.1 k (told_right a r.0 r.2) r.4
    form_right (If a b c) k h = told_right b k (if_kinds (kind_of s a) (kind_of s b) (kind_of s c) k h).1
    form_right (AtMostOne es) k h = ap Some (most_kind (kinds_of_all s es) k h).2
    form_right (Call f es) k h =
        let call = (call_kind s.moves (s.callee f) (kinds_of_all s es) k h).1 in
        ap first_output call.known ∙ ap (λ (ks : List Kind). slice_get ks 0) call.gives
    form_right _ k h = h

  -- what the head tells is the type of an expression that has one
  pub head_is : (e : Tree) (k : Kind) → kind_of s e ≡ Some k → head_kind s e ≡ k
  head_is e k h = ap (λ o. unwrap_or o kind.Bool) (told_right e k h)
