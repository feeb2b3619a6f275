use Rattle.rv_accept.proofs.Firsts.{first_initial, before_location, first_inclusion, first_uncovered, before_entry, first_unsettled, first_observer}
use Rattle.rv_accept.proofs.Firsts.{first_target, first_multipliers, accepted_of}
use Rattle.rv_accept.proofs.laws.levels_compose.Goals as goal

pub returns : goal.returns
returns c = record {
  initial = first_initial;
  location = before_location;
  inclusion = first_inclusion;
  uncovered = first_uncovered;
  entry = before_entry;
  unsettled = first_unsettled;
  observer = first_observer;
  target = first_target;
  multipliers = first_multipliers;
  accepted = accepted_of;
}
