-- The greatest value of a sum over a box, column by column.
use Rattle.std.specs.Prelude.{zero, suc, ℤ, pos, negsuc, ◌+ℤ◌, ◌*ℤ◌, [], Option, Some, None as Nothing}
use Rattle.rv_rows.specs.declared.linear.Form.{Form}
use Rattle.rv_ends.specs.{declared.sides.Side.Side, declared.ends.Ends.Ends, Intervals.Interval}

-- the form without columns that is a number
abbrev pub number_form : ℤ → Form
number_form z = record { coefficients = []; constant = z }

-- the bound times a number, where there is one
abbrev pub bound_times : ℤ → Option ℤ → Option ℤ
bound_times by Nothing = Nothing
bound_times by (Some b) = Some (by *ℤ b)

-- the sum of two bounds, where there are both
abbrev pub bounds_sum : Option ℤ → Option ℤ → Option ℤ
bounds_sum Nothing o = Nothing
bounds_sum (Some a) Nothing = Nothing
bounds_sum (Some a) (Some b) = Some (a +ℤ b)

-- the greatest multiple by c of a number in the interval, where there is one
abbrev pub top_of : ℤ → Interval → Option ℤ
top_of (pos zero) i = Some (pos 0)
top_of (pos (suc n)) i = bound_times (pos (suc n)) i.high
top_of (negsuc n) i = bound_times (pos (suc n)) i.low

-- the end towards which a multiple by c grows
abbrev pub end_toward : ℤ → Ends → Side
end_toward (pos n) e = e.high
end_toward (negsuc n) e = e.low
