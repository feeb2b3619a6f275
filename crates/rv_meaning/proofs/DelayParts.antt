-- The delays of an argument, of a right side and of an assertion are among those of all arguments, and of the node.
use Rattle.std.proofs.Common.{ℕ, List, [], ◌∷◌, sym, subst, inl, inr}
use Rattle.std.proofs.lemmas.List.Elements.{Contains-append_left, Contains-append_right}
use Rattle.std.specs.List.{Contains}
use Rattle.rv_tree.specs.Tree.{Tree, Trees, EquationTree, AssertionTree, NodeTree}
use Rattle.rv_tree.specs.Delays.{Delay, delays, delays_of_all, delays_in_equations, delays_in_assertions, node_delays}
use Rattle.rv_types.specs.Instances.{IsArgument, head, tail}
use Rattle.rv_types.proofs.Members.{cons_cases, nothing_in}

-- an argument's delays are among those of the arguments
pub argument_within : (es : Trees) (j : ℕ) (a : Tree) (d : Delay) → IsArgument es j a → Contains (delays a) d → Contains (delays_of_all es) d
argument_within _ _ a d (head {es = es}) w = Contains-append_left (delays a) (delays_of_all es) d w
argument_within _ _ a d (tail {e = e} {es = es} {j = j} p) w = Contains-append_right (delays e) (delays_of_all es) d (argument_within es j a d p w)

-- the delays of an equation's right side are among those of the equations
pub equation_within : (qs : List EquationTree) (q : EquationTree) (d : Delay) → Contains qs q → Contains (delays q.right) d
    → Contains (delays_in_equations qs) d
equation_within [] q d w inner = nothing_in q w
equation_within (r ∷ qs) q d w inner = elim (cons_cases r qs q w) [
  | inl is ↦ Contains-append_left (delays r.right) (delays_in_equations qs) d (subst (λ (q : EquationTree). Contains (delays q.right) d) (sym is) inner)
  | inr there ↦ Contains-append_right (delays r.right) (delays_in_equations qs) d (equation_within qs q d there inner)
]

-- and those of an assertion among those of the assertions
pub assertion_within : (qs : List AssertionTree) (q : AssertionTree) (d : Delay) → Contains qs q → Contains (delays q.body) d
    → Contains (delays_in_assertions qs) d
assertion_within [] q d w inner = nothing_in q w
assertion_within (r ∷ qs) q d w inner = elim (cons_cases r qs q w) [
  | inl is ↦ Contains-append_left (delays r.body) (delays_in_assertions qs) d (subst (λ (q : AssertionTree). Contains (delays q.body) d) (sym is) inner)
  | inr there ↦ Contains-append_right (delays r.body) (delays_in_assertions qs) d (assertion_within qs q d there inner)
]

-- the delays of an equation are delays of the node
pub of_equation : (n : NodeTree) (q : EquationTree) (d : Delay) → Contains n.equations q → Contains (delays q.right) d → Contains (node_delays n) d
of_equation n q d w inner = Contains-append_left (delays_in_equations n.equations) (delays_in_assertions n.assertions) d
    (equation_within n.equations q d w inner)

-- and so are those of an assertion
pub of_assertion : (n : NodeTree) (a : AssertionTree) (d : Delay) → Contains n.assertions a → Contains (delays a.body) d → Contains (node_delays n) d
of_assertion n a d w inner = Contains-append_right (delays_in_equations n.equations) (delays_in_assertions n.assertions) d
    (assertion_within n.assertions a d w inner)
