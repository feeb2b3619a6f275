use Rattle.std.proofs.Common.{sym, subst}
use Rattle.rv_tree.specs.Places.{site_of}
use Rattle.rv_types.specs.Instances.{clock_of}
use Rattle.rv_instances.specs.{Layouts.IsWithin, NumberedNeeds.node_read, NumberedNeeds.numbers_of}
use Rattle.rv_instances.proofs.ClockBounds.{low_within, clock_low}
use Rattle.rv_instances.proofs.reader.Reader.clock_of_flow.Goals as goal

pub clock-requires-clause-within : goal.clock-requires-clause-within
clock-requires-clause-within c =
    let n = node_read c.args.self.now in
    subst (IsWithin (numbers_of c.args.self.now).offset) (sym c.clock_of.ensures)
    (low_within n (numbers_of c.args.self.now).offset (clock_of n c.args.name.now) c.requires.room (clock_low n (site_of n c.args.name.now)))
