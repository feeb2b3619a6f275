-- Where the flows of instances begin, and how many there are.
use Rattle.std.proofs.Common.{◌≡◌, inl, inr, ℕ, suc, ◌+◌, ◌<◌, ◌≤◌, ◌^◌, List, [], length, get_or, slice_get, Some, sym, ◌∙◌, ap, subst, arith}
use Rattle.std.proofs.{lemmas.Bool.cases_lt, lemmas.List.get_or_past, lemmas.List.Elements.Contains-get_or, lemmas.Option.get_or_from_slice_get}
use Rattle.rv_tree.specs.{Tree.NodeTree, Tree.ProgramTree, Bounded.IsBounded, Bounded.most, Places.Identifier, Places.flows}
use Rattle.rv_types.specs.Instances.{no_node, main_instance, is_main}
use Rattle.rv_instances.specs.Layouts.{flows_before, all_laid, all_places}
use Rattle.rv_instances.specs.{declared.answer.Instance.Instance as Numbered, declared.layout.Laid.Laid, Expanded.IsExpanded, Flowing.flow_count}
use Rattle.rv_instances.proofs.LaidFlows.{few_before, laid_is, places_size}

-- the flows of a node are few
node_few : (p : ProgramTree) → IsBounded p → (k : ℕ) → length (flows (get_or p.nodes k no_node)) ≤ most
node_few p bounded k = elim (cases_lt k (length p.nodes)) [
  | inl lt ↦ bounded.node_flows (get_or p.nodes k no_node) (Contains-get_or p.nodes k no_node lt)
  | inr past ↦ subst (λ (n : NodeTree). length (flows n) ≤ most) (sym (get_or_past p.nodes k no_node (omega (arith, past)))) (omega arith)
]

module _ (p : ProgramTree) (main : Identifier) (instances : List Numbered) (known : IsExpanded p main instances) where
  -- there is an instance
  pub some_instance : 0 < length instances
  some_instance = let w = known.all.all (main_instance p main) is_main in omega (arith, w.1)

  -- all flows have numbers of 32 bits
  pub few_flows : length (all_places p instances) < 2 ^ 32
  few_flows =
      let few = few_before (flow_count p instances) most (length instances)
      (λ k lt. node_few p known.bounded (get_or instances k (record { path = []; node = 0 })).node) in
      omega (arith, places_size p instances, few, known.few)

  -- the flows of the last instance end where all do
  pub last_end : (laid : List Laid) (m : ℕ) (l : Laid) (count : ℕ) → suc m ≡ length instances → laid ≡ all_laid p instances (length instances)
      → slice_get laid m ≡ Some l → count ≡ flow_count p instances m → l.first + count ≡ length (all_places p instances)
  last_end laid m l count next are is many =
      let first : l.first ≡ flows_before (flow_count p instances) m = ap (λ (x : Laid). x.first)
      (sym (get_or_from_slice_get laid m l l is) ∙ ap (λ (ls : List Laid). get_or ls m l) are
      ∙ laid_is p instances (length instances) m l (omega (arith, next))) in
      (λ t. first t + many t) ∙ ap (flows_before (flow_count p instances)) next ∙ sym (places_size p instances)
