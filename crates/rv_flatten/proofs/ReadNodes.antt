-- The tables of the flows of nodes, and those of instances.
use Rattle.std.proofs.Common.{◌≡◌, ℕ, ◌<◌, List, length, get_or, sym, ◌∙◌, ap, subst, arith, slice_get, Some}
use Rattle.std.proofs.{lemmas.List.length-map, lemmas.List.get_or-map, lemmas.Option.get_or_from_slice_get}
use Rattle.rv_tree.specs.Tree.{ProgramTree}
use Rattle.rv_types.specs.{declared.reading.NodeTables.NodeTables, declared.reading.ProgramTables.ProgramTables, Instances.no_node, Scopes.node_scope}
use Rattle.rv_types.specs.{Types.Scope}
use Rattle.rv_instances.specs.Expanded.{IsKnown, no_instance, program_of, main_of}
use Rattle.rv_instances.specs.{declared.answer.Instance.Instance as Numbered, declared.expanded.Expanded.Expanded, Layouts.node_at}
use Rattle.rv_flatten.specs.NodeReaders.{AreOwnTables, scope_by}
use Rattle.rv_flatten.proofs.InstanceNumbers.{made_of, node_within}

module _ (x : Expanded) (known : IsKnown x) (tables : ProgramTables) (owns : List NodeTables) (are : AreOwnTables (program_of x) tables owns) (m : ℕ)
    (v : Numbered) (lt : m < length x.instances.now) (is : slice_get x.instances.now m ≡ Some v) where
  abbrev p : ProgramTree
  p = program_of x

  node_in : v.node < length p.nodes
  node_in =
      subst (λ (i : Numbered). i.node < length p.nodes) (get_or_from_slice_get x.instances.now m v no_instance is)
      (node_within p (main_of x) x.instances.now known.expanded m lt)

  -- the node of an instance is one of those
  pub own_within : v.node < length owns
  own_within = omega (arith, node_in, length-map owns (scope_by tables), length-map p.nodes (node_scope p), ap length are)

  pub own_read : (n : NodeTables) → slice_get owns v.node ≡ Some n → scope_by tables n ≡ node_scope p (node_at p x.instances.now m)
  own_read n at =
      ap (scope_by tables) (sym (get_or_from_slice_get owns v.node n n at)) ∙ sym (made_of (scope_by tables) owns v.node n)
      ∙ ap (λ (l : List Scope). get_or l v.node (scope_by tables n)) are ∙ get_or-map (node_scope p) p.nodes v.node no_node (scope_by tables n) node_in
      ∙ ap (λ (i : Numbered). node_scope p (get_or p.nodes i.node no_node)) (sym (get_or_from_slice_get x.instances.now m v no_instance is))
