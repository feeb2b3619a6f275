-- How many rows the lists of a location have, as its entries are read.
use Rattle.std.specs.Prelude.{◌≤◌, ◌&&◌, ◌||◌, Bool, true, false, length, nat_lt}
use Rattle.rv_invariant.specs.{declared.fronts.Lists.Lists, declared.outlines.Kinds.Kinds, declared.outlines.Outline.Outline}
use Rattle.rv_invariant.specs.declared.outlines.Kinds.TheVariants as kinds
use Rattle.rv_invariant.specs.Certificates.{has_turned}

-- no list has more rows than a document may give it
pub record AreSmall (lists : Lists) : Type 0 where
  pub entry : length lists.entry ≤ 4294967295
  pub first : length lists.first ≤ 1024
  pub around : length lists.around ≤ 1024
  pub state : length lists.state ≤ 1024

pub record IsSmall (o : Outline) : Type 0 where
  pub entry : o.entry ≤ 4294967295
  pub first : o.first ≤ 1024
  pub around : o.around ≤ 1024
  pub state : o.state ≤ 1024

-- Proofs from `first` are read, by whether multipliers stand next.
abbrev pub takes_second : Lists → Bool → Bool
takes_second lists by = has_turned lists || (nat_lt 0 (length lists.state) && by)

-- A turn is read, by whether its record stands next.
abbrev pub takes_turn : Kinds → Bool → Bool
takes_turn kinds.Plain here = false
takes_turn kinds.Any here = here
takes_turn kinds.Turn here = true
