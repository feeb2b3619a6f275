use Rattle.std.proofs.Common.{◌≡◌, ◌∙◌, ap, rules, map, flat_map}
use Rattle.rv_tree.specs.Tree.{program_tree, constant_tree}
use Rattle.rv_types.specs.{Names.repeated_after, Names.constant_names, Names.label_names, Names.labels_of, Earliest.first}
use Rattle.rv_types.proofs.FirstNames.{after_firsts}
use Rattle.rv_types.proofs.spaces.fault_between.Goals as goal

pub returns : goal.returns
returns c =
    let p = program_tree c.args.p.now in
    let declared : c.as_slice.result.now ≡ c.args.p.now.constants = search rules in
    let kept : c.as_slice-2.result.now ≡ c.args.p.now.types = search rules in
    let one : c.constants_after.result ≡ first (flat_map (repeated_after (label_names p)) (constant_names p)) =
    c.constants_after.ensures ∙ (λ i. first (flat_map (repeated_after (c.requires.labels i)) (map (λ c. c.name) (map constant_tree (declared i)))))
    ∙ ap (λ f. first (flat_map f (constant_names p))) (after_firsts (label_names p)) in
    let other : c.labels_after.result ≡ first (flat_map (repeated_after (constant_names p)) (label_names p)) =
    c.labels_after.ensures ∙ (λ i. first (flat_map (repeated_after (c.requires.constants i)) (flat_map labels_of (kept i))))
    ∙ ap (λ f. first (flat_map f (label_names p))) (after_firsts (constant_names p)) in
    c.sooner_of.ensures.joined (flat_map (repeated_after (label_names p)) (constant_names p)) (flat_map (repeated_after (constant_names p)) (label_names p))
    one other
