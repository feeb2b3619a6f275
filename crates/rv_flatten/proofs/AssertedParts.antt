-- The assertions of a flat system, made one instance after the other.
use Rattle.std.proofs.Common.{◌≡◌, inl, inr, ℕ, ◌+◌, ◌<◌, List, [], ◌∷◌, ◌++◌, map, length, refl, sym, ◌∙◌, ap, subst, arith}
use Rattle.std.proofs.lemmas.Bool.{cases_eq}
use Rattle.std.proofs.lemmas.List.Elements.{Contains-append_left, Contains-append_right, Contains-append_cases}
use Rattle.std.specs.List.{Contains}
use Rattle.rv_tree.specs.{declared.tree.Assertion.Assertion, Tree.AssertionTree, Tree.NodeTree, Tree.assertion_tree, Tree.node_tree}
use Rattle.rv_tree.specs.declared.tree.Node as declared
use Rattle.rv_types.specs.Instances.{Instance, IsInstance}
use Rattle.rv_instances.specs.Expanded.{IsKnown, program_of, main_of}
use Rattle.rv_instances.specs.{declared.expanded.Expanded.Expanded, Layouts.IsNumberOf, Layouts.node_at}
use Rattle.rv_flat.specs.{declared.parts.FlatExpr.FlatExpr, RawTree.RawTree, RawTree.raw_tree}
use Rattle.rv_flatten.specs.{Building.AreAsserted, Readings.assertion_of}
use Rattle.rv_agreement.specs.Translation.{Numbers}
use Rattle.rv_types.proofs.Members.{in_map, nothing_in}
use Rattle.rv_base.proofs.Lists.{from_map}
use Rattle.rv_instances.proofs.ExpandedLaws.{instance_at, node_is}

-- of no instance, none
pub none_asserted : (x : Expanded) (numbers : Numbers) (es : List FlatExpr) → es ≡ [] → AreAsserted x numbers 0 es
none_asserted x numbers es none = record {
  all = λ m i a lt is at w. absurd (omega (arith, lt));
  only = λ e w. nothing_in e (subst (λ (l : List FlatExpr). Contains (map raw_tree l) e) none w);
}

-- what is made of trees is made of what they are the trees of
pub made_of_trees : {Y : Type 0} (f : AssertionTree → Y) (xs : List Assertion)
    → map (λ (a : Assertion). f (assertion_tree a)) xs ≡ map f (map assertion_tree xs)
made_of_trees f [] = refl
made_of_trees f (a ∷ xs) = ap (λ l. f (assertion_tree a) ∷ l) (made_of_trees f xs)

module _ (x : Expanded) (known : IsKnown x) where
  -- the assertions of the node with the number of an instance
  pub assertions_at : (m : ℕ) (i : Instance) (n : declared.Node) (items : List Assertion) → IsInstance (program_of x) (main_of x) i
      → IsNumberOf (program_of x) x.instances.now m i
      → items ≡ n.assertions → node_tree n ≡ node_at (program_of x) x.instances.now m → map assertion_tree items ≡ i.node.assertions
  assertions_at m i n items is at same tree =
      ap (map assertion_tree) same ∙ ap (λ (n : NodeTree). n.assertions) (tree ∙ node_is (program_of x) (main_of x) x.instances.now known.expanded m i is at.1)

  -- those of one more instance
  pub instance_more : (numbers : Numbers) (m : ℕ) (had new : List FlatExpr) → m < length x.instances.now
      → ((i : Instance) → IsInstance (program_of x) (main_of x) i → IsNumberOf (program_of x) x.instances.now m i
      → map raw_tree new ≡ map raw_tree had ++ map (assertion_of (program_of x) numbers i) i.node.assertions)
      → AreAsserted x numbers m had → AreAsserted x numbers (m + 1) new
  instance_more numbers m had new lt grown before = record { all = every; only = alone }
    where
      here : (i : Instance) × IsInstance (program_of x) (main_of x) i × IsNumberOf (program_of x) x.instances.now m i
      here = let r = instance_at (program_of x) (main_of x) x.instances.now known.expanded m lt in (r.0, r.1, (lt, r.2))

      from_here : map raw_tree new ≡ map raw_tree had ++ map (assertion_of (program_of x) numbers here.0) here.0.node.assertions
      from_here = grown here.0 here.1 here.2

      every : (k : ℕ) (i : Instance) (a : AssertionTree) → k < m + 1 → IsInstance (program_of x) (main_of x) i → IsNumberOf (program_of x) x.instances.now k i
          → Contains i.node.assertions a → Contains (map raw_tree new) (assertion_of (program_of x) numbers i a)
      every k i a less is at w = elim (cases_eq k m) [
        | inl same ↦
            subst (λ l. Contains l (assertion_of (program_of x) numbers i a))
            (sym (grown i is (subst (λ n. IsNumberOf (program_of x) x.instances.now n i) same at)))
            (Contains-append_right (map raw_tree had) (map (assertion_of (program_of x) numbers i) i.node.assertions) (assertion_of (program_of x) numbers i a)
            (in_map (assertion_of (program_of x) numbers i) i.node.assertions a w))
        | inr other ↦
            subst (λ l. Contains l (assertion_of (program_of x) numbers i a)) (sym from_here)
            (Contains-append_left (map raw_tree had) (map (assertion_of (program_of x) numbers here.0) here.0.node.assertions)
            (assertion_of (program_of x) numbers i a) (before.all k i a (omega (arith, less, other)) is at w))
      ]

      alone : (e : RawTree) → Contains (map raw_tree new) e → (i : Instance) × (a : AssertionTree) × IsInstance (program_of x) (main_of x) i
          × Contains i.node.assertions a × (e ≡ assertion_of (program_of x) numbers i a)
      alone e w = elim (Contains-append_cases (map raw_tree had) (map (assertion_of (program_of x) numbers here.0) here.0.node.assertions) e
          (subst (λ l. Contains l e) from_here w)) [
            | inl earlier ↦ before.only e earlier
            | inr own ↦ let r = from_map (assertion_of (program_of x) numbers here.0) here.0.node.assertions e own in (here.0, r.0, here.1, r.1, sym r.2)
          ]
