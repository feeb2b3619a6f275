-- The calls of instances as they are listed.
use Rattle.std.proofs.Common.{◌≡◌, ℕ, ◌<◌, List, map, length, get_or, slice_get, Some, sym, ◌∙◌, ap, subst}
use Rattle.std.proofs.lemmas.Option.{get_or_from_slice_get}
use Rattle.std.specs.List.{Contains}
use Rattle.rv_tree.specs.{Tree.NodeTree, Tree.ProgramTree, Places.Identifier}
use Rattle.rv_types.specs.Instances.{CallTree, calls, Instance, clock_of_args, IsInstance}
use Rattle.rv_instances.specs.Expanded.{IsExpanded, IsCallOf, ToldCall, told, calls_told, no_instance}
use Rattle.rv_instances.specs.{declared.answer.Instance.Instance as Numbered, declared.timed.ClockedCall.ClockedCall, declared.layout.Laid.Laid}
use Rattle.rv_instances.specs.{AllInstances.numbered, Layouts.node_at, Layouts.laid_at, Layouts.all_laid, Layouts.flows_before}
use Rattle.rv_instances.specs.Flowing.{flow_count}
use Rattle.rv_instances.proofs.{ExpandedLaws.instance_at, ExpandedLaws.node_is, LaidFlows.laid_is, ToldCalls.call_listed, ToldCalls.listed_call}

module _ (p : ProgramTree) (main : Identifier) (instances : List Numbered) (known : IsExpanded p main instances) (m : ℕ) (lt : m < length instances)
    (listed : List ClockedCall) (are : map told listed ≡ calls_told (node_at p instances m)) where
  pub call_of : (j : ℕ) (x : ClockedCall) → j < length listed → x ≡ get_or listed j x → IsCallOf p main instances m x
  call_of j x within is =
      let v = instance_at p main instances known m lt in
      let node = node_is p main instances known m v.0 v.1 v.2 in
      let c = call_listed (node_at p instances m) listed are j x within is in
      record {
        i = v.0;
        is = v.1;
        at = v.2;
        call = c.0;
        there = subst (λ (n : NodeTree). Contains (calls n) c.0) node c.1;
        site = ap (λ (t : ToldCall). t.site) c.2;
        clock = ap (λ (t : ToldCall). t.clock) c.2 ∙ ap (λ (n : NodeTree). clock_of_args n c.0.args) node;
        arguments = ap (λ (t : ToldCall). t.arguments) c.2;
      }

  -- and each call is listed
  pub listed_of : (i : Instance) (c : CallTree) → IsInstance p main i → get_or instances m no_instance ≡ numbered p i → Contains (calls i.node) c
      → (j : ℕ) × (j < length listed) × ((x : ClockedCall) → (get_or listed j x).site ≡ c.site)
  listed_of i c is e w =
      let node = node_is p main instances known m i is e in
      let v = listed_call (node_at p instances m) listed are c (subst (λ (n : NodeTree). Contains (calls n) c) (sym node) w) in
      (v.0, v.1, λ x. ap (λ (t : ToldCall). t.site) (v.2 x))

-- what the layout has of an instance
laid_read : (p : ProgramTree) (instances : List Numbered) (laid : List Laid) (m : ℕ) (l : Laid) → m < length instances
    → laid ≡ all_laid p instances (length instances) → slice_get laid m ≡ Some l → l ≡ laid_at p instances m
laid_read p instances laid m l lt are is =
    sym (get_or_from_slice_get laid m l l is) ∙ ap (λ (ls : List Laid). get_or ls m l) are ∙ laid_is p instances (length instances) m l lt

pub first_read : (p : ProgramTree) (instances : List Numbered) (laid : List Laid) (m : ℕ) (l : Laid) → m < length instances
    → laid ≡ all_laid p instances (length instances) → slice_get laid m ≡ Some l → l.first ≡ flows_before (flow_count p instances) m
first_read p instances laid m l lt are is = ap (λ (l : Laid). l.first) (laid_read p instances laid m l lt are is)
