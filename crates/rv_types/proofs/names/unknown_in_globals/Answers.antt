use Rattle.std.proofs.Common.{◌≡◌, ◌∙◌, rules, [], map, flat_map}
use Rattle.rv_tree.specs.Tree.{program_tree, constant_tree}
use Rattle.rv_types.specs.{Earliest.first, Known.alias_use_in, Known.constant_use_in}
use Rattle.rv_types.proofs.names.unknown_in_globals.Goals as goal

pub returns : goal.returns
returns c =
    let p = program_tree c.args.p.now in
    let s = c.args.spaces.now in
    let types : c.as_slice.result.now ≡ c.args.p.now.types = search rules in
    let declared : c.as_slice-2.result.now ≡ c.args.p.now.constants = search rules in
    let aliases : c.unknown_in_aliases-aliases.result ≡ first (flat_map (alias_use_in s.types) p.types) =
    c.unknown_in_aliases-aliases.ensures ∙ (λ i. first (flat_map (alias_use_in s.types) (types i))) in
    let constants : c.unknown_in_constants-constants.result ≡ first (flat_map (constant_use_in s []) p.constants) =
    c.unknown_in_constants-constants.ensures ∙ (λ i. first (flat_map (constant_use_in s (c.new-none.ensures i)) (map constant_tree (declared i)))) in
    c.sooner_of.ensures.joined (flat_map (alias_use_in s.types) p.types) (flat_map (constant_use_in s []) p.constants) aliases constants
