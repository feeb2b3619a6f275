use Rattle.std.proofs.Common.{◌≡◌, List, map, ◌∙◌, ap}
use Rattle.rv_tree.specs.{Delays.node_delays, Tree.node_tree}
use Rattle.rv_types.specs.{Delayed.delayed_kinds, Scopes.node_scope}
use Rattle.rv_instances.specs.Timed.{delay_listed, delays_told}
use Rattle.rv_instances.proofs.Lists.{if_ok}
use Rattle.rv_flatten.specs.Remembered.{joined, read_seen, reads_in}
use Rattle.rv_flatten.specs.{declared.memories.MemoryRead.MemoryRead, NodeReaders.node_read, NodeReaders.scope_read}
use Rattle.rv_flatten.proofs.JoinedReads.{joined_reads}
use Rattle.rv_flatten.proofs.memories.reads_of_node.Goals as goal

pub returns : goal.returns
returns c p t different =
    let n = node_tree c.args.clocks.now.node.now in let s = node_scope p n in let reader = c.in_ok-reader.reader in
    let node : node_read reader ≡ n = c.in_ok-reader.ensures.node in
    let scope : scope_read reader ≡ s = c.in_ok-reader.ensures.scope p t different in
    let kinds : c.as_slice-2.result.now ≡ delayed_kinds s (node_delays n) =
    c.as_slice-2.ensures ∙ c.in_ok-kinds.ensures ∙ (λ i. delayed_kinds (scope i) (node_delays (node i))) in
    let delays : map delay_listed c.as_slice.result.now ≡ delays_told n =
    ap (map delay_listed) c.as_slice.ensures ∙ c.in_ok-delays.ensures.delays ∙ ap delays_told node in
    let all : joined (node_read reader) c.as_slice-2.result.now (map delay_listed c.as_slice.result.now) ≡ reads_in p n =
    (λ i. joined (node i) (kinds i) (delays i)) ∙ joined_reads n s (node_delays n) in
    if_ok c.together.result (λ (read : List MemoryRead). map read_seen read ≡ joined (node_read reader) c.as_slice-2.result.now
    (map delay_listed c.as_slice.result.now)) (λ (read : List MemoryRead). map read_seen read ≡ reads_in p n) (λ read is. is ∙ all) c.together.ensures
