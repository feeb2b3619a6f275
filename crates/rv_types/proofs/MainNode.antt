-- The main node, by its number.
use Rattle.std.proofs.Common.{◌≡◌, ℕ, ◌+◌, true, false, cond, List, [], ◌∷◌, map, Some, refl, sym, ap, ◌∙◌, slice_get, add-one, None as Nothing}
use Rattle.rv_tree.specs.{Tree.NodeTree, Tree.ProgramTree, Places.Identifier, Places.is_same, Places.index_of}
use Rattle.rv_types.specs.{declared.fault.NameFault.NameFault, Names.texts, Names.node_names, Kinds.node_among, Scopes.observer_faults}
use Rattle.rv_types.specs.{NodeTypes.observer_fault_of}

node_at : (ns : List NodeTree) (x : Identifier) → node_among ns x ≡ slice_get ns (index_of (texts (map (λ n. n.name) ns)) x)
node_at [] x = refl
node_at (n ∷ ns) x = elim (is_same n.name.text x) as
    (λ b. cond b (Some n) (node_among ns x) ≡ slice_get (n ∷ ns) (cond b 0 (index_of (texts (map (λ n. n.name) ns)) x + 1)))
    [ true ↦ refl | false ↦ node_at ns x ∙ sym (ap (slice_get (n ∷ ns)) (add-one (index_of (texts (map (λ n. n.name) ns)) x))) ]

-- the faults of the main node are those of the node at its number
pub main_faults : (p : ProgramTree) (x : Identifier) (k : ℕ) (m : NodeTree) → k ≡ index_of (texts (node_names p)) x → slice_get p.nodes k ≡ Some m
    → observer_faults p x ≡ observer_fault_of p m
main_faults p x k m e h =
    ap (λ o. elim o as (λ _. List NameFault) [ Nothing ↦ [] | Some m ↦ observer_fault_of p m ]) (node_at p.nodes x ∙ ap (slice_get p.nodes) (sym e) ∙ h)
