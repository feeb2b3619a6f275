use Rattle.rv_accept.proofs.Order.{split_next, is_multipliers, is_observer}
use Rattle.rv_accept.proofs.laws.places_are_apart.Goals as goal

pub returns : goal.returns
returns c = record { next = split_next; multipliers = is_multipliers; observer = is_observer }
