-- The nodes of an expanded program, gone through by their clocks.
use Rattle.std.proofs.Common.{◌≡◌, ℕ, ◌+◌, ◌<◌, ◌≤◌, List, [], ◌∷◌, ◌++◌, map, length, get_or, take, refl, sym, ◌∙◌, ap, subst}
use Rattle.std.proofs.lemmas.List.{map-append, take_more, take_all}
use Rattle.std.specs.List.{Contains}
use Rattle.rv_tree.specs.declared.tree.Node as declared
use Rattle.rv_tree.specs.Tree.{NodeTree, node_tree}
use Rattle.rv_types.specs.{declared.reading_clocks.NodeClocks.NodeClocks, Names.repeated, Known.flow_names}
use Rattle.rv_instances.specs.{declared.expanded.Expanded.Expanded, Expanded.IsKnown, Expanded.program_of}
use Rattle.rv_instances.proofs.Known.{flows_once}
use Rattle.rv_types.proofs.Members.{in_map}

module _ (x : Expanded) (known : IsKnown x) where
  -- the node of one of the clocks is one of the program, and its flows have different names
  pub clocked_once : (k : ℕ) (c : NodeClocks) → k < length x.clocks → get_or x.clocks k c ≡ c → repeated [] (flow_names (node_tree c.node.now)) ≡ []
  clocked_once k c lt is =
      let there = subst (λ (ns : List declared.Node). Contains ns c.node.now) known.clocks (in_map (λ (c : NodeClocks). c.node.now) x.clocks c (k, lt, is)) in
      flows_once (program_of x) known.expanded.named (node_tree c.node.now) (in_map node_tree x.program.now.nodes c.node.now there)

  -- what is made of each of them is made of each node
  pub each_node : {Y : Type 0} (f : NodeTree → Y) (k : ℕ) → length x.clocks ≤ k
      → map (λ (c : NodeClocks). f (node_tree c.node.now)) (take k x.clocks) ≡ map f (program_of x).nodes
  each_node f k le = ap (map (λ (c : NodeClocks). f (node_tree c.node.now))) (take_all k x.clocks le) ∙ by x.clocks
      ∙ ap (λ (ns : List declared.Node). map f (map node_tree ns)) known.clocks
    where
      by : (cs : List NodeClocks) → map (λ (c : NodeClocks). f (node_tree c.node.now)) cs ≡ map f (map node_tree (map (λ (c : NodeClocks). c.node.now) cs))
      by [] = refl
      by (c ∷ cs) = ap (λ l. f (node_tree c.node.now) ∷ l) (by cs)

-- what is made of one more element of a list
pub one_more : {X Y : Type 0} (f : X → Y) (xs : List X) (k : ℕ) (x : X) (ys new : List Y) (y : Y) → k < length xs → get_or xs k x ≡ x → new ≡ ys ++ y ∷ []
    → ys ≡ map f (take k xs) → y ≡ f x → new ≡ map f (take (k + 1) xs)
one_more f xs k x ys new y lt is grown so_far found =
    grown ∙ (λ i. so_far i ++ found i ∷ []) ∙ sym (map-append f (take k xs) (x ∷ [])) ∙ ap (λ z. map f (take k xs ++ z ∷ [])) (sym is)
    ∙ ap (map f) (sym (take_more xs k x lt))
