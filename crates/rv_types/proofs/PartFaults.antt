-- Where an expression has no fault, neither have its calls and what it remembers.
use Rattle.std.proofs.Common.{◌≡◌, ℕ, List, [], ◌++◌, Option, unwrap_or}
use Rattle.std.proofs.lemmas.List.Elements.{All-nil, All-cons, All-append, All-contains}
use Rattle.std.specs.List.{All, Contains}
use Rattle.rv_tree.specs.Tree.{Tree, Node, Form, Not, Minus, Pre, Current, When, Binary, If, AtMostOne, Call, Trees, None, More}
use Rattle.rv_tree.specs.Delays.{Delay, delays, form_delays, delays_of_all}
use Rattle.rv_types.specs.Instances.{CallTree, calls_in, form_calls, calls_in_all, IsArgument, head, tail}
use Rattle.rv_types.specs.{declared.fault.NameFault.NameFault, Parts.faults, Parts.faults_below, Parts.faults_of_all}
use Rattle.rv_types.proofs.RightNames.{both_empty}

module _ (own : Tree → List NameFault) where
  -- a call without a fault, and none in its arguments
  pub record IsRightCall (c : CallTree) : Type 0 where
    pub site : Option ℕ
    pub here : own (Node c.at site (Call c.name c.args)) ≡ []
    pub below : faults_of_all own c.args ≡ []

  abbrev IsRightDelay : Delay → Type 0
  IsRightDelay d = faults own d.operand ≡ []

  -- calls without a fault, and operands
  abbrev AreRight : List CallTree → List Delay → Type 0
  AreRight cs ds = All IsRightCall cs × All IsRightDelay ds

  none : AreRight [] []
  none = (All-nil IsRightCall, All-nil IsRightDelay)

  both : (cs es : List CallTree) (ds fs : List Delay) → AreRight cs ds → AreRight es fs → AreRight (cs ++ es) (ds ++ fs)
  both cs es ds fs r s = (All-append IsRightCall cs es r.0 s.0, All-append IsRightDelay ds fs r.1 s.1)

  mutual
    right : (t : Tree) → faults own t ≡ [] → AreRight (calls_in t) (delays t)
    right (Node at site form) e = let s = both_empty _ _ e in form_right at site form s.0 s.1

    form_right : (at : ℕ) (site : Option ℕ) (form : Form) → own (Node at site form) ≡ [] → faults_below own form ≡ []
        → AreRight (form_calls at site form) (form_delays site form)
    form_right at site (Not t) o e = right t e
    form_right at site (Minus t) o e = right t e
    form_right at site (Pre t) o e = let r = right t e in (r.0, All-cons IsRightDelay (record { site = site; operand = t }) (delays t) e r.1)
    form_right at site (Current t) o e = let r = right t e in (r.0, All-cons IsRightDelay (record { site = site; operand = t }) (delays t) e r.1)
    form_right at site (When t x) o e = right t e
    form_right at site (Binary p a b) o e = let s = both_empty _ _ e in both _ _ _ _ (right a s.0) (right b s.1)
    form_right at site (If i a b) o e =
        let s = both_empty _ _ e in
        let t = both_empty _ _ s.1 in
        both _ _ _ _ (right i s.0) (both _ _ _ _ (right a t.0) (right b t.1))
    form_right at site (AtMostOne es) o e = all_right es e
    form_right at site (Call f es) o e =
        let r = all_right es e in
        let c : CallTree = record { at = at; site = unwrap_or site 0; name = f; args = es } in
        (All-cons IsRightCall c (calls_in_all es) (record { site = site; here = o; below = e }) r.0, r.1)
    form_right at site _ o e = none

    all_right : (es : Trees) → faults_of_all own es ≡ [] → AreRight (calls_in_all es) (delays_of_all es)
    all_right None e = none
    all_right (More t ts) e = let s = both_empty _ _ e in both _ _ _ _ (right t s.0) (all_right ts s.1)

  pub calls_right : (t : Tree) → faults own t ≡ [] → (c : CallTree) → Contains (calls_in t) c → IsRightCall c
  calls_right t e c w = All-contains IsRightCall (calls_in t) c (right t e).0 w

  pub calls_of_all_right : (es : Trees) → faults_of_all own es ≡ [] → (c : CallTree) → Contains (calls_in_all es) c → IsRightCall c
  calls_of_all_right es e c w = All-contains IsRightCall (calls_in_all es) c (all_right es e).0 w

  pub delays_right : (t : Tree) → faults own t ≡ [] → (d : Delay) → Contains (delays t) d → faults own d.operand ≡ []
  delays_right t e d w = All-contains IsRightDelay (delays t) d (right t e).1 w

  pub delays_of_all_right : (es : Trees) → faults_of_all own es ≡ [] → (d : Delay) → Contains (delays_of_all es) d → faults own d.operand ≡ []
  delays_of_all_right es e d w = All-contains IsRightDelay (delays_of_all es) d (all_right es e).1 w

  -- nor have arguments
  pub argument_right : (es : Trees) (j : ℕ) (t : Tree) → faults_of_all own es ≡ [] → IsArgument es j t → faults own t ≡ []
  argument_right _ _ t e (head {es}) = (both_empty _ _ e).0
  argument_right _ _ t e (tail {e = b} {es} w) = argument_right es _ t (both_empty _ _ e).1 w
