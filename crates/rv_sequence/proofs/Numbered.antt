-- What a sequence by numbers gives.
use Rattle.std.proofs.Common.{◌≡◌, ℕ, ◌<◌, ◌∙◌, List, map, length, slice_index_or, Result, Ok, Err, IfOk, sym, subst, ap}
use Rattle.std.proofs.lemmas.List.{get_or_default}
use Rattle.std.specs.List.{Contains}
use Rattle.rv_tree.specs.{Tree.ProgramTree, Places.Identifier}
use Rattle.rv_types.specs.{Lists.sites_of, Needs.IsSequence}
use Rattle.rv_base.specs.declared.value.Place.{Place}
use Rattle.rv_instances.specs.Flowing.{all_flows, flow_sites, flow_places, place_at}
use Rattle.rv_instances.specs.{declared.answer.Instance.Instance as Numbered, declared.flows.Flow.Flow, Expanded.IsExpanded, Weights.AreLight}
use Rattle.rv_calls.specs.declared.fault.CauseFault.{CauseFault}
use Rattle.rv_sequence.specs.{Sequenced.AreSequenced, Sided.AreSided, WeightTables.IsNumbered}
use Rattle.rv_instances.proofs.Lists.{length_map}

module _ (p : ProgramTree) (main : Identifier) (instances : List Numbered) where
  -- the numbers of a sequence are those of all flows
  pub numbered : (flows : List Flow) (r : Result (List ℕ) CauseFault) → flows ≡ all_flows p instances
      → IfOk r (λ numbers. (j : ℕ) → j < length numbers → slice_index_or numbers j 0 < length flows)
      → IfOk r (λ numbers. IsSequence p main (map (place_at (flow_places instances flows)) numbers))
      → IfOk r (IsNumbered p main instances)
  numbered flows (Ok ns) are within ordered = record {
    within = λ j lt. subst (λ (n : ℕ). slice_index_or ns j 0 < n) (ap length are ∙ sym (length_map (flow_sites instances) (all_flows p instances)))
        (within j lt);
    ordered = subst (λ (fs : List Flow). IsSequence p main (map (place_at (flow_places instances fs)) ns)) are ordered;
  }
  numbered flows (Err f) are within ordered = tt

  pub numbers_within : (flows : List Flow) (numbers taken : List ℕ) (k : ℕ) → flows ≡ all_flows p instances → IsNumbered p main instances numbers
      → taken ≡ numbers → Contains taken k → k < length flows
  numbers_within flows numbers taken k are n same w =
      let v : Contains numbers k = subst (λ (ns : List ℕ). Contains ns k) same w in
      let is : slice_index_or numbers v.0 0 ≡ k = get_or_default numbers v.0 0 k v.1 ∙ v.2 in
      subst (λ (m : ℕ). m < length flows) is
      (subst (λ (m : ℕ). slice_index_or numbers v.0 0 < m) (length_map (flow_sites instances) (all_flows p instances) ∙ ap length (sym are)) (n.within v.0 v.1))

  -- their places are a sequence
  pub sequenced : (flows : List Flow) (numbers : List ℕ) (places : List Place) → flows ≡ all_flows p instances → IsNumbered p main instances numbers
      → AreLight p main → sites_of places ≡ map (place_at (flow_places instances flows)) numbers → AreSequenced p main places
  sequenced flows numbers places are n light is = record {
    ordered = subst (IsSequence p main) (sym (is ∙ ap (λ (fs : List Flow). map (place_at (flow_places instances fs)) numbers) are)) n.ordered;
    light = light;
  }

  -- where an equation has not one left side, its right side is a call
  pub sided : IsExpanded p main instances → AreSided p
  sided e n w q v other = (e.well.formed n w).sides q v other
