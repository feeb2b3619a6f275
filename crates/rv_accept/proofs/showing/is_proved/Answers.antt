use Rattle.std.proofs.Common.{length}
use Rattle.rv_proofs.proofs.Records.{weights_within, divisor_within, wanted_within}
use Rattle.rv_accept.proofs.showing.is_proved.Goals as goal

pub proves-requires : goal.proves-requires
proves-requires c = record {
  range = c.requires.by.there;
  premises = c.requires.premises;
  weights = weights_within (length c.args.premises.now) c.args.by.now c.requires.by;
  divisor = divisor_within (length c.args.premises.now) c.args.by.now c.requires.by;
  wanted = wanted_within c.args.wanted.now c.requires.wanted;
}
