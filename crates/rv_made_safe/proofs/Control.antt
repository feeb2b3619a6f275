-- No integers: all flows and all operands of memories are Boolean.
use Rattle.std.proofs.Common.{◌≡◌, ℕ, List, [], ◌∷◌, inl, inr, ◌∙◌, sym, ap}
use Rattle.std.proofs.lemmas.List.Elements.{Contains-append_cases}
use Rattle.std.specs.{Prelude.codes, List.Contains}
use Rattle.rv_tree.specs.Tree.{EquationTree, NodeTree}
use Rattle.rv_tree.specs.{declared.tree.Decl.Decl, Delays.Delay, Delays.delays, Delays.delays_in_equations, Delays.node_delays}
use Rattle.rv_types.specs.declared.typed.Kind.TheVariants as kind
use Rattle.rv_types.specs.{Names.decls, Values.operand_kind}
use Rattle.rv_meaning.specs.Integers.{IsControl}
use Rattle.rv_meaning.proofs.NameLemmas.{none_in}
use Rattle.rv_make.specs.Chains.{Offsets, link_node, main_node, chain_program}
use Rattle.rv_made_safe.proofs.Equations.{IsMainEquation, sees, calls, tells, main_equation}
use Rattle.rv_made_safe.proofs.Flows.{IsPlain, plain_link, plain_main, no_integer}
use Rattle.rv_made_safe.proofs.Nodes.{IsChainNode, is_main_node, is_link_node, instance_node}
use Rattle.rv_types.proofs.Members.{at_head, cons_cases, in_tail}

-- Delays.

-- a `pre` in some equations stands in one of them
delay_of : (qs : List EquationTree) (d : Delay) → Contains (delays_in_equations qs) d → (q : EquationTree) × Contains qs q × Contains (delays q.right) d
delay_of [] d w = absurd (none_in d w)
delay_of (q ∷ qs) d w = elim (Contains-append_cases (delays q.right) (delays_in_equations qs) d w) [
  | inl here ↦ (q, at_head q qs, here)
  | inr later ↦ let r = delay_of qs d later in (r.0, in_tail q qs r.0 r.1, r.2)
]

module _ (o : Offsets) (n : ℕ) where
  -- in the main node the one of `seen`
  delayed_main : (q : EquationTree) → IsMainEquation o n q → (d : Delay) → Contains (delays q.right) d
      → operand_kind (chain_program o n) (main_node o n) d.operand ≡ kind.Bool
  delayed_main _ sees d w = elim (cons_cases _ [] d w) [
    | inl is ↦ ap (λ (e : Delay). operand_kind (chain_program o n) (main_node o n) e.operand) (sym is)
    | inr none ↦ absurd (none_in d none)
  ]
  delayed_main _ (calls i) d w = absurd (none_in d w)
  delayed_main _ tells d w = absurd (none_in d w)

  -- the operand of each `pre` is Boolean
  delayed : (m : NodeTree) → IsChainNode o n m → (d : Delay) → Contains (node_delays m) d → operand_kind (chain_program o n) m d.operand ≡ kind.Bool
  delayed _ is_main_node d w = elim (Contains-append_cases (delays_in_equations (main_node o n).equations) [] d w) [
    | inl here ↦ let r = delay_of (main_node o n).equations d here in delayed_main r.0 (main_equation o n r.0 r.1) d r.2
    | inr none ↦ absurd (none_in d none)
  ]
  delayed _ is_link_node d w = elim (cons_cases _ [] d w) [
    | inl is ↦ ap (λ (e : Delay). operand_kind (chain_program o n) (link_node o.link) e.operand) (sym is)
    | inr none ↦ absurd (none_in d none)
  ]

  -- all flows are Boolean
  plain : (m : NodeTree) → IsChainNode o n m → (d : Decl) → Contains (decls m) d → IsPlain d
  plain _ is_main_node = plain_main o n
  plain _ is_link_node = plain_link o.link

  pub control : IsControl (chain_program o n) (codes "main")
  control = record {
    flows = λ i x inside w e. no_integer (chain_program o n) i.node (plain i.node (instance_node o n i inside)) x e;
    delays = λ i d inside w e. let is = delayed i.node (instance_node o n i inside) d w in absurd (cc (sym is ∙ e));
  }
