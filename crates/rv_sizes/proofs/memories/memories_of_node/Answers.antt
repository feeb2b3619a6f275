use Rattle.std.proofs.Common.{◌≡◌, [], List, map, ◌∙◌, ap}
use Rattle.rv_tree.specs.declared.tree.Node as declared
use Rattle.rv_tree.specs.Tree.{node_tree}
use Rattle.rv_types.specs.{declared.typed.Kind.Kind, Names.texts}
use Rattle.rv_instances.specs.{Timed.delay_listed, Timed.delays_told, declared.timed.ClockedDelay.ClockedDelay}
use Rattle.rv_sizes.specs.Memories.{sites_read, paired, kinds_beside, memory_kinds}
use Rattle.rv_instances.proofs.Lists.{if_ok}
use Rattle.rv_sizes.proofs.Remembered.{remembered}
use Rattle.rv_sizes.proofs.memories.memories_of_node.Goals as goal

pub returns : goal.returns
returns c p t =
    let n = node_tree c.args.node.now in
    let tables = c.args.tables.now in
    let own = c.in_ok-own.own in
    let delays : map delay_listed c.as_slice.result.now ≡ delays_told n =
    ap (λ (ds : List ClockedDelay). map delay_listed ds) c.as_slice.ensures ∙ c.in_ok-delays.ensures.delays
    ∙ ap (λ (m : declared.Node). delays_told (node_tree m)) c.in_ok-clocks.ensures in
    if_ok c.different_kinds.result
    (λ (ks : List Kind). ks ≡ kinds_beside [] (paired c.as_slice-2.result.now 0 (sites_read (texts own.flows) (map delay_listed c.as_slice.result.now))))
    (λ (ks : List Kind). ks ≡ memory_kinds p n)
    (λ ks is. is ∙ remembered p n tables own (map delay_listed c.as_slice.result.now) c.as_slice-2.result.now
    (c.in_ok-own.ensures.scope p t c.requires.different) (c.in_ok-own.ensures.flows c.requires.different) delays
    (c.as_slice-2.ensures ∙ c.in_ok-kinds.ensures)) c.different_kinds.ensures
