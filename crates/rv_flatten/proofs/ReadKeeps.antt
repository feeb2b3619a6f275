-- What a flat system keeps in its type holds of what is read of a program.
use Rattle.std.proofs.Common.{◌≡◌, ℕ, true, List, map, length, subst, Option}
use Rattle.rv_tree.specs.{Tree.ProgramTree, Places.Identifier, Places.Sites}
use Rattle.rv_types.specs.{Instances.IsNode, WellFormed.AreWell}
use Rattle.rv_instances.specs.Weights.{AreLight}
use Rattle.rv_agreement.specs.Checks.{are_distinct, assertions_fit, clocks_fit, flows_fit, memories_fit, same_flow, same_sites}
use Rattle.rv_agreement.specs.{Agreement.AreApart, Translation.Numbers, Translation.IsTranslated, Trees.System}
use Rattle.rv_flat.specs.Systems.{assertion_item, flow_item, kept_of, memory_item, memory_places_of, system_from, tick_clocks_of, tick_flows_of}
use Rattle.rv_flat.specs.{declared.parts.Bit.Bit, declared.parts.FlatExpr.FlatExpr, declared.parts.FlatFlow.FlatFlow, declared.parts.FlatInput.FlatInput}
use Rattle.rv_flat.specs.{declared.parts.FlatMemory.FlatMemory, Facts.flow_weights, Facts.items_light, Inlined.all_end}
use Rattle.rv_flatten.specs.{Kinded.IsKinded, Readings.numbers_of, Readings.IsRead, Readings.AreKinds}
use Rattle.rv_flatten.proofs.ReadFits.{all_flows_fit, all_memories_fit, all_assertions_fit, all_clocks_fit}
use Rattle.rv_flatten.proofs.{ApartComparisons.comparisons_apart, DistinctPlaces.distinct_ticks, DistinctPlaces.distinct_memories, Ending.memories_end}
use Rattle.rv_flatten.proofs.{KindedParts.are_kinded, KindedParts.items_are, KindedParts.places_are, OnePlace.one_raw, ReadWeights.all_flows_light}
use Rattle.rv_flatten.proofs.{ReadWeights.all_memories_light, ReadWeights.all_assertions_light, Translated.is_translated}
use Rattle.rv_flat.proofs.Inlining.{is_table}

module _ (program : ProgramTree) (main : Identifier) (well : AreWell program) (named : IsNode program main) (light : AreLight program main)
    (flows : List FlatFlow) (memories : List FlatMemory) (inputs : List FlatInput) (variables : List Bit) (assertions : List FlatExpr)
    (labels : List (List (List ℕ))) (observer : ℕ)
    (read : IsRead program main flows memories inputs variables assertions) (types : AreKinds program main flows inputs labels)
  where
    abbrev numbers : Numbers
    numbers = numbers_of flows memories variables

    abbrev s : System
    s = system_from flows memories inputs assertions variables labels observer

    -- what the memories show ends
    pub ends : all_end memories (length memories) ≡ true
    ends = memories_end program main well named flows memories inputs variables assertions read

    translated : IsTranslated program main numbers s
    translated = is_translated program main flows memories inputs variables assertions read (is_table memories ends) (one_raw program main well named numbers)
        labels observer

    kinded : IsKinded program main numbers s
    kinded = are_kinded flows memories inputs assertions variables labels observer program main types

    -- types, clocks and orders
    pub flows_are : flows_fit s 0 (map (flow_item memories) flows) ≡ true
    flows_are = all_flows_fit program main well named numbers s translated kinded

    pub memories_are : memories_fit s (map (kept_of memories) memories) ≡ true
    memories_are = all_memories_fit program main well named numbers s translated kinded

    pub assertions_are : assertions_fit s (map (assertion_item memories) assertions) ≡ true
    assertions_are = all_assertions_fit program main well named numbers s translated kinded

    pub clocks_are : clocks_fit s (tick_clocks_of flows variables) ≡ true
    clocks_are = all_clocks_fit program main well named numbers s translated kinded

    -- places
    pub ticks_are_apart : are_distinct (Option Sites) same_flow (tick_flows_of variables) ≡ true
    ticks_are_apart = distinct_ticks program main numbers s translated

    pub memories_are_apart : are_distinct Sites same_sites (memory_places_of memories) ≡ true
    memories_are_apart = subst (λ l. are_distinct Sites same_sites l ≡ true) (places_are flows memories inputs assertions variables labels observer)
        (distinct_memories program main numbers s translated)

    pub comparisons_are_apart : AreApart s
    comparisons_are_apart = comparisons_apart program main numbers s translated well named

    -- weights
    pub flows_are_light : items_light (flow_weights (map (flow_item memories) flows)) (map (flow_item memories) flows) ≡ true
    flows_are_light = all_flows_light program main well named numbers s translated light.0 light.1 light.2

    pub memories_are_light : items_light (flow_weights (map (flow_item memories) flows)) (map (memory_item memories) memories) ≡ true
    memories_are_light = subst (λ l. items_light (flow_weights (map (flow_item memories) flows)) l ≡ true)
        (items_are flows memories inputs assertions variables labels observer)
        (all_memories_light program main well named numbers s translated light.0 light.1 light.2)

    pub assertions_are_light : items_light (flow_weights (map (flow_item memories) flows)) (map (assertion_item memories) assertions) ≡ true
    assertions_are_light = all_assertions_light program main well named numbers s translated light.0 light.1 light.2
