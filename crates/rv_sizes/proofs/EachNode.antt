-- One node more in a loop over the nodes of a program.
use Rattle.std.proofs.Common.{◌≡◌, ℕ, ◌+◌, ◌<◌, ◌≤◌, ◌^◌, arith, List, [], ◌∷◌, ◌++◌, map, length, get_or, drop, sym, ◌∙◌, ap, subst}
use Rattle.std.proofs.lemmas.List.{append_assoc}
use Rattle.std.specs.List.{Contains}
use Rattle.rv_tree.specs.declared.tree.Node as declared
use Rattle.rv_base.specs.Limits.{source_limit}
use Rattle.rv_tree.specs.{Bounded.IsBounded, Places.flows, Tree.NodeTree, Tree.ProgramTree, Tree.node_tree}
use Rattle.rv_types.proofs.Members.{in_map}
use Rattle.rv_base.proofs.Lists.{next_of}

-- its flows are few
pub flows_few : (p : ProgramTree) → IsBounded p → (n : NodeTree) → Contains p.nodes n → length (flows n) < 2 ^ 32
flows_few p bounded n w = let few : length (flows n) ≤ source_limit = bounded.node_flows n w in omega (arith, few)

-- what is read of the nodes is one of them
pub read_node : (xs items : List declared.Node) → items ≡ xs → (k : ℕ) (x : declared.Node) → k < length items → x ≡ get_or items k x
    → Contains (map node_tree xs) (node_tree x)
read_node xs items same k x within is = in_map node_tree xs x (subst (λ (l : List declared.Node). Contains l x) same (k, within, sym is))

module _ (xs : List declared.Node) (k : ℕ) (x : declared.Node) (within : k < length xs) (is : x ≡ get_or xs k x) where
  rest : drop k xs ≡ x ∷ drop (k + 1) xs
  rest = next_of xs k x within is

  -- its part comes next
  pub one_more : {B : Type 0} (f : NodeTree → B) (ys : List B) (y : B) (all : List B) → ys ++ map f (map node_tree (drop k xs)) ≡ all → y ≡ f (node_tree x)
      → (ys ++ y ∷ []) ++ map f (map node_tree (drop (k + 1) xs)) ≡ all
  one_more f ys y all so_far found =
      append_assoc ys (y ∷ []) (map f (map node_tree (drop (k + 1) xs)))
      ∙ ap (λ z. ys ++ z ∷ map f (map node_tree (drop (k + 1) xs))) found
      ∙ ap (λ l. ys ++ map f (map node_tree l)) (sym rest)
      ∙ so_far
