use Rattle.std.proofs.Common.{◌<◌, ◌^◌, ℕ, take}
use Rattle.std.specs.Prelude.{flat_map}
use Rattle.rv_diagram.specs.Nodes.{node_at}
use Rattle.rv_invariant.specs.{Pieces.triple_texts, Writes.Extends}
use Rattle.rv_invariant.proofs.lines.add_nodes.Given as goal

abbrev pub invariant-loop-index : goal.invariant-loop-index
invariant-loop-index l =
    Extends l.fn.row l.row (flat_map triple_texts (take l.index l.nodes))
    × ((n : ℕ) → n < l.index → ((node_at l.nodes n).lo < 2 ^ 32) × ((node_at l.nodes n).hi < 2 ^ 32))
