-- The numbers of an instance are those of its places.
use Rattle.std.proofs.Common.{◌≡◌, ℕ, ◌+◌, ◌<◌, List, [], ◌∷◌, ◌++◌, length, get_or, sym, ◌∙◌, ap, subst}
use Rattle.rv_tree.specs.{Tree.NodeTree, Tree.ProgramTree, Places.Identifier, Places.Sites}
use Rattle.rv_types.specs.Instances.{Instance, callee, node_of, IsInstance, is_callee}
use Rattle.rv_instances.specs.Layouts.{flows_before, laid_at, IsPlaced, IsHere, IsLayout, callee_or_main, here_of, all_places}
use Rattle.rv_instances.specs.{declared.answer.Instance.Instance as Numbered, declared.layout.Laid.Laid, declared.layout.Layout.Layout, AllInstances.numbered}
use Rattle.rv_instances.specs.{Expanded.IsExpanded, Expanded.no_instance, Flowing.flow_count}
use Rattle.rv_instances.proofs.{BaseClocks.callee_number, BaseClocks.site_placed, BaseClocks.callee_placed, ExpandedLaws.node_is, LaidFlows.laid_is}

module _ (p : ProgramTree) (main : Identifier) (instances : List Numbered) (known : IsExpanded p main instances) (l : Layout)
    (laid_out : IsLayout p main instances l) where
  pub laid_there : (m : ℕ) → m < length instances → get_or l.laid m (record { first = 0; output = 0 }) ≡ laid_at p instances m
  laid_there m lt = ap (λ (ls : List Laid). get_or ls m (record { first = 0; output = 0 })) laid_out.laid
      ∙ laid_is p instances (length instances) m (record { first = 0; output = 0 }) lt

  laid_placed : (m s : ℕ) (q : Sites) → m < length instances → IsPlaced (all_places p instances) (flows_before (flow_count p instances) m + s) q
      → IsPlaced (all_places p instances) ((get_or l.laid m (record { first = 0; output = 0 })).first + s) q
  laid_placed m s q lt = subst (λ k. IsPlaced (all_places p instances) (k + s) q) (sym (ap (λ (x : Laid). x.first) (laid_there m lt)))

  pub is_here : (m : ℕ) (i : Instance) → m < length instances → IsInstance p main i → get_or instances m no_instance ≡ numbered p i
      → IsHere p (all_places p instances) i (here_of l m)
  is_here m i lt is e = record {
    flow = λ s less. laid_placed m s (i.path ++ s ∷ []) lt (site_placed p main instances known m i s lt is e less);
    base = laid_out.base m lt i is e;
    callee = λ c j w less.
        laid_placed (callee_or_main l.callees m c.site) j (i.path ++ c.site ∷ j ∷ [])
        (callee_number p main instances known l.callees laid_out.callees m i c lt is e w).0
        (callee_placed p main instances known l.callees laid_out.callees m i c j lt is e w less);
    output = λ c w.
        let to = callee_number p main instances known l.callees laid_out.callees m i c lt is e w in
        let k = callee_or_main l.callees m c.site in
        let there = laid_there k to.0 in
        ap (λ (x : Laid). x.output) there ∙ ap (λ (n : NodeTree). flows_before (flow_count p instances) k + length n.inputs)
        (node_is p main instances known k (callee p i c) (is_callee c is w) to.1)
        ∙ ap (λ j. j + length (node_of p c.name).inputs) (sym (ap (λ (x : Laid). x.first) there));
  }
