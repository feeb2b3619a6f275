-- Two counters that rise together: the system, the certificate of its document, and two that are refused.
--     x = 0 -> pre x + 1;  y = 0 -> pre y + 1;  ok = x = y;
use Rattle.std.specs.Prelude.{ℕ, zero, suc, ℤ, pos, negsuc, List, [], ◌∷◌, Bool, true, false, not, if◌then◌else◌, Option, Some, None as Nothing}
use Rattle.rv_diagram.specs.{Nodes.Valuation, declared.frozen.Frozen.Frozen}
use Rattle.rv_rows.specs.{declared.linear.Row.Row, declared.linear.Form.Form}
use Rattle.rv_proofs.specs.Samples.{by_one, by_two, by_none, node, is_true_at, is_false_at}
use Rattle.rv_proofs.specs.{Systems.System, RowClaims.RowClaim, declared.certificate.Certificate.Certificate, declared.certificate.Location.Location}
use Rattle.rv_proofs.specs.{declared.certificate.Entry.Entry, declared.certificate.EntryKind.TheVariants.Dead, declared.certificate.EntryKind.TheVariants.Go}

abbrev pub row2 : ℤ → ℤ → ℤ → Row
row2 a b c = record { coefficients = a ∷ b ∷ []; bound = c }

abbrev pub form2 : ℤ → ℤ → ℤ → Form
form2 a b k = record { coefficients = a ∷ b ∷ []; constant = k }

-- at the first instant both flows are 0, later they are the memories and one more
abbrev pub pair_row : Bool → Bool → Row → Row → Row
pair_row ticked holds good bad =
    if ticked then (if holds then good else bad) else (if holds then row2 (pos 0) (pos 0) (pos 0) else row2 (pos 0) (pos 0) (negsuc 0))

abbrev pub paired_row : Valuation → ℕ → Option Row
paired_row v zero = Some (pair_row (v 0) (v 3) (row2 (pos 1) (negsuc 0) (pos 0)) (row2 (negsuc 0) (pos 1) (negsuc 0)))
paired_row v (suc zero) = Some (pair_row (v 0) (v 4) (row2 (negsuc 0) (pos 1) (pos 0)) (row2 (pos 1) (negsuc 0) (negsuc 0)))
paired_row v (suc (suc t)) = Nothing

abbrev pub paired_update : Valuation → ℕ → Form
paired_update v zero = if v 0 then form2 (pos 1) (pos 0) (pos 1) else form2 (pos 0) (pos 0) (pos 0)
paired_update v (suc k) = if v 0 then form2 (pos 0) (pos 1) (pos 1) else form2 (pos 0) (pos 0) (pos 0)

-- variables: tick, next, input:a:0, test:6:le, test:6:ge
abbrev pub paired : System
paired = record {
  states = 1;
  variables = 5;
  memories = 2;
  columns = 2;
  tests = 2;
  initial = λ v. not (v 0);
  allowed = λ v. true;
  row = paired_row;
  update = paired_update;
  observer = λ v. if v 3 then v 4 else false;
  next = λ v x. true;
}

-- both tests are true; `le` is false; `le` is true and `ge` is false
abbrev pub both_hold : Frozen
both_hold = record { nodes = node 4 0 1 ∷ node 3 0 2 ∷ []; root = 3 }

abbrev pub less_fails : Frozen
less_fails = is_false_at 3

abbrev pub more_fails : Frozen
more_fails = record { nodes = node 4 1 0 ∷ node 3 0 2 ∷ []; root = 3 }

abbrev pub less : Row
less = row2 (pos 1) (negsuc 0) (pos 0)

abbrev pub more : Row
more = row2 (negsuc 0) (pos 1) (pos 0)

abbrev pub begins : Entry
begins = record { condition = both_hold; kind = Go 1 (by_none ∷ by_none ∷ []) }

abbrev pub begins_low : Entry
begins_low = record { condition = less_fails; kind = Dead (by_one 0) }

abbrev pub begins_high : Entry
begins_high = record { condition = more_fails; kind = Dead (by_one 1) }

abbrev pub beginning : Location
beginning = record {
  control = is_false_at 0;
  entry = [];
  first = [];
  around = [];
  state = [];
  by_entry = [];
  by_first = [];
  entries = begins ∷ begins_low ∷ begins_high ∷ [];
}

abbrev pub goes_on : Entry
goes_on = record { condition = both_hold; kind = Go 1 (by_one 0 ∷ by_one 1 ∷ []) }

abbrev pub drops_low : Entry
drops_low = record { condition = less_fails; kind = Dead (by_two 0 2) }

abbrev pub drops_high : Entry
drops_high = record { condition = more_fails; kind = Dead (by_two 1 3) }

abbrev pub going : List Entry → Location
going entries = record {
  control = is_true_at 0;
  entry = less ∷ more ∷ [];
  first = [];
  around = [];
  state = less ∷ more ∷ [];
  by_entry = by_one 0 ∷ by_one 1 ∷ [];
  by_first = [];
  entries = entries;
}

-- the certificate of the document
abbrev pub filed : Certificate
filed = record { locations = beginning ∷ going (goes_on ∷ drops_low ∷ drops_high ∷ []) ∷ [] }

-- the last multiplier is 2
abbrev pub wrong_weight : Entry
wrong_weight = record {
  condition = more_fails;
  kind = Dead (record { divisor = pos 1; weights = record { premise = 1; by = pos 1 } ∷ record { premise = 3; by = pos 2 } ∷ [] });
}

abbrev pub misfiled : Certificate
misfiled = record { locations = beginning ∷ going (goes_on ∷ drops_low ∷ wrong_weight ∷ []) ∷ [] }

-- the last entry is missing
abbrev pub cut_short : Certificate
cut_short = record { locations = beginning ∷ going (goes_on ∷ drops_low ∷ []) ∷ [] }

-- The row claim of the two counters: every control state, and x = y as two rows.
abbrev pub equal_rows : RowClaim
equal_rows = record { reached = λ v. true; rows = less ∷ more ∷ [] }
