-- The calls that stand within an expression.
use Rattle.rv_tree.specs.Tree.{AssertionTree, EquationTree, NodeTree, Trees, Tree}
use Rattle.rv_tree.specs.Delays.{Delay, delays, delays_in_assertions, delays_in_equations, node_delays}
use Rattle.rv_types.proofs.Members.{in_parts, of_parts}
use Rattle.rv_types.specs.Instances.{CallTree, IsArgument, calls, calls_in_all, calls_in_assertions, calls_in_equations, calls_in, head, tail}
use Rattle.rv_types.specs.Variables.{parts_of_all, parts}
use Rattle.std.proofs.Common.{List, inl, inr, refl, ℕ, ◌⊎◌}
use Rattle.std.proofs.lemmas.List.Elements.{Contains-append_cases, Contains-append_left, Contains-append_right}
use Rattle.std.specs.List.{Contains}

-- The parts of an argument, of an operand of a delay and of an argument of a call are parts.
pub argument_parts : (es : Trees) (j : ℕ) (e x : Tree) → IsArgument es j e → Contains (parts e) x → Contains (parts_of_all es) x
argument_parts _ _ e x (head {es = es}) w = Contains-append_left (parts e) (parts_of_all es) x w
argument_parts _ _ e x (tail {e = b} {es = es} arg) w = Contains-append_right (parts b) (parts_of_all es) x (argument_parts es _ e x arg w)

-- the calls in an argument
pub in_argument : (es : Trees) (j : ℕ) (e : Tree) (d : CallTree) → IsArgument es j e → Contains (calls_in e) d → Contains (calls_in_all es) d
in_argument _ _ e d (head {es = es}) w = Contains-append_left (calls_in e) (calls_in_all es) d w
in_argument _ _ e d (tail {e = t} {es = es} {j = j} rest) w = Contains-append_right (calls_in t) (calls_in_all es) d (in_argument es j e d rest w)

pub of_right : (qs : List EquationTree) (d : CallTree) → Contains (calls_in_equations qs) d → (q : EquationTree) × Contains qs q × Contains (calls_in q.right) d
of_right qs d w = of_parts (λ (q : EquationTree). calls_in q.right) calls_in_equations refl (λ q qs. refl) qs d w

-- and in an assertion
pub in_body : (qs : List AssertionTree) (q : AssertionTree) (d : CallTree) → Contains qs q → Contains (calls_in q.body) d → Contains (calls_in_assertions qs) d
in_body qs q d w v = in_parts (λ (a : AssertionTree). calls_in a.body) calls_in_assertions refl (λ a qs. refl) qs q d w v

-- an equation whose right side is such, or an assertion that is
abbrev pub HasSide : NodeTree → (Tree → Type 0) → Type 0
HasSide n P = ((q : EquationTree) × Contains n.equations q × P q.right) ⊎ ((a : AssertionTree) × Contains n.assertions a × P a.body)

-- a call of a node stands in one of them
pub of_node : (n : NodeTree) (c : CallTree) → Contains (calls n) c → HasSide n (λ t. Contains (calls_in t) c)
of_node n c w = elim (Contains-append_cases (calls_in_equations n.equations) (calls_in_assertions n.assertions) c w) [
  | inl v ↦ inl (of_right n.equations c v)
  | inr v ↦ inr (of_parts (λ (a : AssertionTree). calls_in a.body) calls_in_assertions refl (λ a rest. refl) n.assertions c v)
]

-- and so does what a node remembers
pub delay_of_node : (n : NodeTree) (d : Delay) → Contains (node_delays n) d → HasSide n (λ t. Contains (delays t) d)
delay_of_node n d w = elim (Contains-append_cases (delays_in_equations n.equations) (delays_in_assertions n.assertions) d w) [
  | inl v ↦ inl (of_parts (λ (q : EquationTree). delays q.right) delays_in_equations refl (λ q qs. refl) n.equations d v)
  | inr v ↦ inr (of_parts (λ (a : AssertionTree). delays a.body) delays_in_assertions refl (λ a rest. refl) n.assertions d v)
]
