-- The instances: each has one of the two nodes.
use Rattle.std.proofs.{Common.◌≡◌, Common.ℕ, Common.[], Common.inl, Common.inr, Common.sym, Common.ap, Common.subst, lemmas.List.Elements.Contains-append_cases}
use Rattle.std.specs.{Prelude.codes, List.Contains}
use Rattle.rv_tree.specs.Tree.{EquationTree, NodeTree}
use Rattle.rv_types.specs.Instances.{CallTree, calls_in, calls_in_equations, calls, node_of, Instance, IsInstance, is_main, is_callee}
use Rattle.rv_meaning.proofs.NameLemmas.{none_in}
use Rattle.rv_make.specs.Chains.{Offsets, link_node, main_node, chain_program}
use Rattle.rv_made_safe.proofs.Equations.{IsMainEquation, sees, calls as gives, tells, main_equation}
use Rattle.rv_types.proofs.{Members.cons_cases, CallsWithin.of_right}

-- one of the two nodes
pub data IsChainNode (o : Offsets) (n : ℕ) : NodeTree → Type 0 where
  is_main_node : IsChainNode o n (main_node o n)
  is_link_node : IsChainNode o n (link_node o.link)

module _ (o : Offsets) (n : ℕ) where
  -- all calls are of the node `link`
  called : (q : EquationTree) → IsMainEquation o n q → (c : CallTree) → Contains (calls_in q.right) c → c.name ≡ codes "link"
  called _ sees c w = absurd (none_in c w)
  called _ (gives i) c w = elim (cons_cases _ [] c w) [
    | inl is ↦ ap (λ (d : CallTree). d.name) (sym is)
    | inr none ↦ absurd (none_in c none)
  ]
  called _ tells c w = absurd (none_in c w)

  callee_node : (m : NodeTree) → IsChainNode o n m → (c : CallTree) → Contains (calls m) c → IsChainNode o n (node_of (chain_program o n) c.name)
  callee_node _ is_main_node c w = elim (Contains-append_cases (calls_in_equations (main_node o n).equations) [] c w) [
    | inl here ↦
        let r = of_right (main_node o n).equations c here in
        let name = called r.0 (main_equation o n r.0 r.1) c r.2 in
        subst (λ f. IsChainNode o n (node_of (chain_program o n) f)) (sym name) is_link_node
    | inr none ↦ absurd (none_in c none)
  ]
  callee_node _ is_link_node c w = absurd (none_in c w)

  pub instance_node : (i : Instance) → IsInstance (chain_program o n) (codes "main") i → IsChainNode o n i.node
  instance_node _ is_main = is_main_node
  instance_node _ (is_callee {i = i} c inside w) = callee_node i.node (instance_node i inside) c w
