use Rattle.std.proofs.Common.{sym, ◌∙◌, ap, subst}
use Rattle.rv_tree.specs.Tree.{tree_of}
use Rattle.rv_types.specs.{Clocks.pace, Instances.taken, declared.typed.Clock.TheVariants.Base}
use Rattle.rv_instances.specs.{NumberedNeeds.node_read, NumberedNeeds.numbers_of, Layouts.IsWithin}
use Rattle.rv_instances.proofs.ClockBounds.{low_within, taken_low, pace_low}
use Rattle.rv_instances.proofs.reader.Reader.clock_of.Goals as goal

pub clock-requires-clause-within : goal.clock-requires-clause-within
clock-requires-clause-within c =
    let n = node_read c.args.self.now in let e = tree_of c.args.e.now in
    subst (IsWithin (numbers_of c.args.self.now).offset) (sym (c.clock_or_base.ensures ∙ ap (taken Base) c.pace.ensures))
    (low_within n (numbers_of c.args.self.now).offset (taken Base (pace n e)) c.requires.room (taken_low n (pace n e) (pace_low n e)))
