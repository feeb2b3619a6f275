use Rattle.std.proofs.Common.{◌+◌, length, IfSome}
use Rattle.std.specs.BTreeMap.{values}
use Rattle.rv_seek.specs.Least.{PairSums}
use Rattle.rv_seek.proofs.LeastLemmas.{IsWalked}
use Rattle.rv_seek.proofs.least.least_within.Given as goal

abbrev pub invariant-loop-closest : goal.invariant-loop-closest
invariant-loop-closest l = record {
  shown : IfSome l.least (PairSums l.premises l.wanted);
  walked : IsWalked l.premises l.wanted (length l.premises + 2) l.pivot l.least (values l.sides) l.closest-iterator;
}
