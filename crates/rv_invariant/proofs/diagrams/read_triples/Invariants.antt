use Rattle.std.proofs.Common.{◌≡◌, length}
use Rattle.rv_invfile.specs.Ahead.{here}
use Rattle.rv_invariant.specs.{Groups.upto, Judging.AreRight, Pieces.is_node_field, Pieces.triple_at}
use Rattle.rv_invariant.proofs.diagrams.read_triples.Given as goal

abbrev pub invariant-loop-index : goal.invariant-loop-index
invariant-loop-index l = record {
  size : length l.triples ≡ l.index;
  read : l.triples ≡ upto triple_at (here l.records) (length l.triples);
  right : AreRight 3 (length l.triples) (is_node_field l.shape l.states (here l.records));
}
