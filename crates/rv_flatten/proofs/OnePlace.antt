-- Two `pre` or `current` with one place are alike: both are one of one instance, or both operands name one flow of it.
use Rattle.std.proofs.Common.{◌≡◌, sym, ◌∙◌, ap, subst, None as Nothing}
use Rattle.std.specs.List.{Contains}
use Rattle.rv_tree.specs.{Tree.Tree, Tree.Node, Tree.Named, Tree.ProgramTree, Places.Identifier}
use Rattle.rv_tree.specs.{Places.memory_site, Delays.Delay, Delays.node_delays}
use Rattle.rv_types.specs.{Instances.Instance, Instances.IsInstance, Instances.IsNode, Lists.delay_place, WellFormed.AreWell}
use Rattle.rv_agreement.specs.{Translation.Numbers}
use Rattle.rv_flatten.specs.Readings.{RawItem, raw_delay}
use Rattle.rv_instances.proofs.FlowPlaces.{snoc_parts}
use Rattle.rv_meaning.proofs.{Acceptable.node_in, Defined.same_instance, States.IsName, States.same_memory}

module _ (program : ProgramTree) (main : Identifier) (well : AreWell program) (named : IsNode program main) where
  -- What is told of each `pre` and `current`, and where its operand is the name of a flow by that flow alone, is one for all
  -- that have one place.
  module _ (X : Type 0) (told : Instance → Delay → X) (of_flow : Instance → Identifier → X)
      (by_name : (i : Instance) (d : Delay) (x : Identifier) → IsName i.node d.operand x → told i d ≡ of_flow i x) where
    pub one_of_place : (i j : Instance) (d e : Delay) → IsInstance program main i → IsInstance program main j → Contains (node_delays i.node) d
        → Contains (node_delays j.node) e → delay_place i d ≡ delay_place j e → told i d ≡ told j e
    one_of_place i j d e a b w v same =
        let r = snoc_parts i.path j.path (memory_site i.node d.site d.operand) (memory_site j.node e.site e.operand) same in
        let one = same_instance program main well named i j a b r.0 in
        let within : Contains (node_delays j.node) d = subst (λ (i : Instance). Contains (node_delays i.node) d) one w in
        let site : memory_site j.node d.site d.operand ≡ memory_site j.node e.site e.operand = ap (λ (i : Instance). memory_site i.node d.site d.operand)
        (sym one) ∙ r.1 in
        ap (λ (i : Instance). told i d) one
        ∙ same_memory j.node (well.numbered j.node (node_in program main well named j b)) (told j) (λ x s. of_flow j x) (by_name j) d e within v site

  -- so both take the same, as it is made
  pub one_raw : (numbers : Numbers) (i j : Instance) (d e : Delay) → IsInstance program main i → IsInstance program main j → Contains (node_delays i.node) d
      → Contains (node_delays j.node) e → delay_place i d ≡ delay_place j e → raw_delay program numbers i d ≡ raw_delay program numbers j e
  one_raw numbers = one_of_place RawItem (raw_delay program numbers) (λ i x. raw_delay program numbers i
      (record { site = Nothing; operand = Node 0 Nothing (Named x) }))
      (λ i d x is. ap (λ (t : Tree). raw_delay program numbers i (record { site = Nothing; operand = t })) is.2)
