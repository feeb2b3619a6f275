use Rattle.std.proofs.Common.{length}
use Rattle.rv_proofs.proofs.Records.{weights_within, divisor_within}
use Rattle.rv_accept.proofs.showing.is_shown.Goals as goal

pub shows_after-requires : goal.shows_after-requires
shows_after-requires c = record {
  range = c.requires.by.there;
  premises = c.requires.premises;
  weights = weights_within (length c.args.premises.now) c.args.by.now c.requires.by;
  divisor = divisor_within (length c.args.premises.now) c.args.by.now c.requires.by;
  room = c.requires.room.room;
  small = c.requires.room.small;
}
