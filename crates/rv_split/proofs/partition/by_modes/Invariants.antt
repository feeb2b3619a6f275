use Rattle.std.proofs.Common.{◌≡◌, ◌≤◌, ◌↔◌, length, take}
use Rattle.rv_diagram.specs.Nodes.{Valuation}
use Rattle.rv_proofs.specs.Scopes.{IsIn}
use Rattle.rv_split.specs.{Partitions.AreParts, Partitions.IsInSome, Modes.AreApart}
use Rattle.rv_split.proofs.Dividing.{AreModes}
use Rattle.rv_split.proofs.partition.by_modes.Given as goal

abbrev pub invariant-loop-i : goal.invariant-loop-i
invariant-loop-i l = record {
  same : l.store ≡ l.initial.store;
  state : l.partition.state ≡ l.state;
  limit : l.partition.limit ≡ l.limit;
  parts : AreParts l.initial.store.variables l.state l.partition.parts;
  few : length l.partition.parts ≤ l.limit;
  union : (v : Valuation) → IsInSome l.partition.parts v ↔ IsIn l.reached v;
  apart : AreApart (take l.ticks l.state) l.partition.parts;
  modes : AreModes l.limit (take l.i l.state) l.partition.parts;
}
