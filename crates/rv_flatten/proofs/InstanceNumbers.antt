-- The instances of an expanded program by their numbers, and what is found of them, one after the other.
use Rattle.std.proofs.Common.{◌≡◌, inl, inr, ℕ, zero, suc, ◌<◌, true, List, [], ◌∷◌, map, length, get_or, refl, ap, subst, arith}
use Rattle.std.proofs.lemmas.List.Elements.{Contains-append_left, Contains-append_right, Contains-append_cases, Contains-get_or}
use Rattle.std.proofs.{lemmas.Bool.cases_eq}
use Rattle.std.specs.List.{Contains}
use Rattle.rv_tree.specs.{Tree.NodeTree, Tree.ProgramTree, Places.Identifier, Places.is_among}
use Rattle.rv_types.specs.{Names.texts, Instances.IsNode}
use Rattle.rv_instances.specs.{declared.answer.Instance.Instance as Numbered, Expanded.IsExpanded, Expanded.no_instance}
use Rattle.rv_flatten.specs.NodeReaders.{lists_to}
use Rattle.rv_instances.proofs.ExpandedLaws.{of_nodes}
use Rattle.rv_types.proofs.{Members.nothing_in}

-- Lists.

-- what is in the list of an earlier number is in the lists of all, and nothing else
pub in_lists : {X : Type 0} (own : ℕ → List X) (n m : ℕ) (x : X) → m < n → Contains (own m) x → Contains (lists_to own n) x
in_lists own zero m x lt w = absurd (omega (arith, lt))
in_lists own (suc n) m x lt w = elim (cases_eq m n) [
  | inl same ↦ Contains-append_right (lists_to own n) (own n) x (subst (λ k. Contains (own k) x) same w)
  | inr other ↦ Contains-append_left (lists_to own n) (own n) x (in_lists own n m x (omega (arith, lt, other)) w)
]

pub from_lists : {X : Type 0} (own : ℕ → List X) (n : ℕ) (x : X) → Contains (lists_to own n) x → (m : ℕ) × (m < n) × Contains (own m) x
from_lists own zero x w = nothing_in x w
from_lists own (suc n) x w = elim (Contains-append_cases (lists_to own n) (own n) x w) [
  | inl before ↦ let r = from_lists own n x before in (r.0, (omega (arith, r.1)), r.2)
  | inr here ↦ (n, omega arith, here)
]

-- what is made of the element at a number, also past the end
pub made_of : {X Y : Type 0} (f : X → Y) (xs : List X) (k : ℕ) (d : X) → get_or (map f xs) k (f d) ≡ f (get_or xs k d)
made_of f [] k d = refl
made_of f (x ∷ xs) zero d = refl
made_of f (x ∷ xs) (suc k) d = made_of f xs k d

-- Names.

-- the names of nodes
pub name_texts : (ns : List NodeTree) → texts (map (λ (n : NodeTree). n.name) ns) ≡ map (λ (n : NodeTree). n.name.text) ns
name_texts [] = refl
name_texts (n ∷ ns) = ap (λ l. n.name.text ∷ l) (name_texts ns)

module _ (p : ProgramTree) (main : Identifier) (instances : List Numbered) (known : IsExpanded p main instances) where
  pub is_node : IsNode p main
  is_node = subst (λ (xs : List Identifier). is_among xs main ≡ true) (name_texts p.nodes) known.declared

  -- the node of an instance is among the numbers of nodes
  pub node_within : (m : ℕ) → m < length instances → (get_or instances m no_instance).node < length p.nodes
  node_within m lt = of_nodes p main instances known (get_or instances m no_instance) (Contains-get_or instances m no_instance lt)
