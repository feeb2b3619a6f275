-- What stands in a node that keeps the rules is free or on a clock.
use Rattle.std.proofs.Common.{◌≡◌, ℕ, List, [], ◌∷◌, length, refl, sym, ap, subst, arith, unwrap_or, Option}
use Rattle.std.proofs.lemmas.List.Elements.{Contains-append_left}
use Rattle.std.specs.List.{Contains}
use Rattle.rv_tree.specs.Tree.{Tree, Node, Form, Call, Trees, EquationTree, NodeTree, ProgramTree}
use Rattle.rv_tree.specs.{declared.tree.Name.Name, Places.site_of}
use Rattle.rv_types.specs.Instances.{CallTree, calls, calls_in, calls_in_all, calls_in_equations, calls_in_assertions, alone, IsArgument, head, tail, clock_of}
use Rattle.rv_types.specs.Instances.{clock_of_args, taken}
use Rattle.rv_types.specs.{Clocks.seen, Clocks.meet, Clocks.pace}
use Rattle.rv_types.specs.{Clocks.pace_of_all, declared.typed.Clock.TheVariants.Base, Names.texts}
use Rattle.rv_types.specs.{ToldPaces.IsTimed, Variables.parts, Variables.parts_of_all, WellFormed.IsWellFormed}
use Rattle.rv_types.proofs.ToldPaces.{seen_is, grounded_is, current_is, joined, operands, when_is}
use Rattle.rv_types.proofs.{Members.at_head, TypedParts.right_calls}
use Rattle.rv_instances.specs.Weights.{weighed_of_several, weighed_under}
use Rattle.rv_types.proofs.Suiting.{suits_timed}
use Rattle.rv_flatten.proofs.Standing.{Stands, as_right, as_argument, as_assertion, as_child, IsChild, of_not, of_minus, of_pre, of_current, of_when, of_left}
use Rattle.rv_flatten.proofs.Standing.{of_right, of_condition, of_first, of_second, of_operand, of_argument}

module _ (program : ProgramTree) (n : NodeTree) (formed : IsWellFormed program n) where
  argument_timed : (es : Trees) (j : ℕ) (e : Tree) → IsArgument es j e → IsTimed (pace_of_all n es) → IsTimed (pace n e)
  argument_timed _ _ e (head {es = es}) t = (seen_is (pace n e) (joined (seen (pace n e)) (pace_of_all n es) t).left).0
  argument_timed _ _ e (tail {e = b} {es = es} {j = j} arg) t = argument_timed es j e arg (joined (seen (pace n b)) (pace_of_all n es) t).right

  -- an operand or argument of what is free or on a clock is so
  child_timed : (at : ℕ) (site : Option ℕ) (form : Form) (e : Tree) → IsChild e form → IsTimed (pace n (Node at site form)) → IsTimed (pace n e)
  child_timed at site _ e of_not t = (seen_is (pace n e) t).0
  child_timed at site _ e of_minus t = (seen_is (pace n e) t).0
  child_timed at site _ e of_pre t = (seen_is (pace n e) (grounded_is (seen (pace n e)) t)).0
  child_timed at site _ e of_current t = (seen_is (pace n e) (current_is n (seen (pace n e)) t)).0
  child_timed at site _ e (of_when c) t = (seen_is (pace n e) (when_is n (seen (pace n e)) (site_of n c.text) t).0).0
  child_timed at site _ e (of_left {o = o} {b = b}) t = (seen_is (pace n e) (operands o (seen (pace n e)) (seen (pace n b)) t).left).0
  child_timed at site _ e (of_right {o = o} {a = a}) t = (seen_is (pace n e) (operands o (seen (pace n a)) (seen (pace n e)) t).right).0
  child_timed at site _ e (of_condition {b = b} {c = c}) t = (seen_is (pace n e) (joined (seen (pace n e)) (meet (seen (pace n b)) (seen (pace n c))) t).left).0
  child_timed at site _ e (of_first {a = a} {c = c}) t =
      (seen_is (pace n e) (joined (seen (pace n e)) (seen (pace n c)) (joined (seen (pace n a)) (meet (seen (pace n e)) (seen (pace n c))) t).right).left).0
  child_timed at site _ e (of_second {a = a} {b = b}) t =
      (seen_is (pace n e) (joined (seen (pace n b)) (seen (pace n e)) (joined (seen (pace n a)) (meet (seen (pace n b)) (seen (pace n e))) t).right).right).0
  child_timed at site _ e (of_operand {es = es} j arg) t = argument_timed es j e arg t
  child_timed at site _ e (of_argument {es = es} j arg) t = argument_timed es j e arg (grounded_is (pace_of_all n es) t)

  -- a right side that stands as a whole has one left side
  right_timed : (q : EquationTree) → Contains n.equations q → weighed_under q.lefts q.right ≡ parts q.right → IsTimed (pace n q.right)
  right_timed q w whole = by q.lefts refl whole
    where
      several : (length q.lefts ≡ 1 → ⊥) → weighed_of_several q.right ≡ parts q.right → ⊥
      several other whole =
          let call = formed.sides q w other in
          let same : parts_of_all call.3 ≡ Node call.0 call.1 (Call call.2 call.3) ∷ parts_of_all call.3 = subst (λ (e : Tree). weighed_of_several e ≡ parts e)
          call.4 whole in
          omega (arith, ap length same)

      by : (ls : List Name) → q.lefts ≡ ls → weighed_under ls q.right ≡ parts q.right → IsTimed (pace n q.right)
      by (x ∷ []) e whole = suits_timed (clock_of n x.text) (pace n q.right) (formed.body_clock x.text q.right (alone q w (ap texts e)))
      by _ e whole = absurd (several (λ one. omega (arith, ap length e, one)) whole)

  pub stands_timed : (e : Tree) → Stands n e → IsTimed (pace n e)
  stands_timed _ (as_right q w whole) = right_timed q w whole
  stands_timed _ (as_argument q at j site f args e w is arg) =
      let c : CallTree = record { at = at; site = unwrap_or site 0; name = f; args = args } in
      let of_right_side : Contains (calls_in q.right) c = subst (λ (t : Tree). Contains (calls_in t) c) (sym is) (at_head c (calls_in_all args)) in
      let there : Contains (calls n) c = Contains-append_left (calls_in_equations n.equations) (calls_in_assertions n.assertions) c
      (right_calls n.equations q c w of_right_side) in
      suits_timed (clock_of_args n args) (pace n e) (formed.argument_clock c j e there arg)
  stands_timed _ (as_assertion a w) = suits_timed (taken Base (pace n a.body)) (pace n a.body) (formed.assertion_clock a w)
  stands_timed _ (as_child {at = at} {site = site} {form = form} {e = e} s child) = child_timed at site form e child (stands_timed (Node at site form) s)
