use Rattle.std.proofs.Common.{◌≡◌, length}
use Rattle.rv_invfile.specs.Ahead.{here}
use Rattle.rv_invariant.specs.{Groups.upto, Judging.AreRight, Pieces.is_pair_field, Pieces.least_at, Pieces.weight_at}
use Rattle.rv_invariant.proofs.multipliers.read_weights.Given as goal

abbrev pub invariant-loop-index : goal.invariant-loop-index
invariant-loop-index l = record {
  size : length l.weights ≡ l.index;
  read : l.weights ≡ upto weight_at (here l.records) (length l.weights);
  right : AreRight 2 (length l.weights) (is_pair_field l.premises (here l.records));
  least : l.least ≡ least_at (here l.records) (length l.weights);
}
