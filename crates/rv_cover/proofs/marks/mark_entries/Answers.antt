use Rattle.rv_proofs.specs.declared.certificate.Entry.{Entry}
use Rattle.rv_cover.specs.Marks.{EntryNames}
use Rattle.rv_cover.proofs.Marking.{none_yet, one_more}
use Rattle.rv_cover.proofs.marks.mark_entries.Goals as goal

pub loop-place-init : goal.loop-place-init
loop-place-init c = none_yet Entry c.args.flags.now c.args.first c.args.entries.now EntryNames

pub loop-place-preserved : goal.loop-place-preserved
loop-place-preserved c =
    one_more Entry c.args.flags.now c.loop-place.flags c.mark_entry-new.new.flags c.args.first c.loop-place.place c.args.entries.now EntryNames c.at.result.now c.at.ensures.value
    c.loop-place.invariant c.mark_entry-new.ensures
