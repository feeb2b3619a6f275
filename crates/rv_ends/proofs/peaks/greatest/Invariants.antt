use Rattle.std.proofs.Common.{◌*◌, ◌^◌, take}
use Rattle.rv_diagram.specs.{Nodes.Valuation, Growing.Extends}
use Rattle.rv_ends.specs.{Intervals.HasPoint, Intervals.IsPeak, Sides.side_at, Sides.box_at, Sides.IsSide}
use Rattle.rv_ends.proofs.peaks.greatest.Given as goal

abbrev pub invariant-loop-column : goal.invariant-loop-column
invariant-loop-column l = record {
  extends : Extends l.initial.store l.store;
  side : IsSide l.store.nodes (l.column * 2 ^ 101) l.top;
  peak : (v : Valuation) → HasPoint (box_at l.initial.store.nodes l.ends v)
      → IsPeak (box_at l.initial.store.nodes l.ends v) (take l.column l.numbers) (side_at l.store.nodes l.top v);
}
