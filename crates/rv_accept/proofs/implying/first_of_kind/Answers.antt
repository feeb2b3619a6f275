use Rattle.std.proofs.Common.{◌≡◌, ◌∙◌, ◌+◌, ℕ, length, subst, sym}
use Rattle.std.proofs.lemmas.Option.{same_Some, slice_get_within}
use Rattle.rv_proofs.specs.{Ranges.IsRecord, declared.certificate.Location.Location}
use Rattle.rv_accept.specs.Passing.{AreAsked}
use Rattle.rv_accept.proofs.implying.first_of_kind.Goals as goal

pub unrefuted-requires : goal.unrefuted-requires
unrefuted-requires c = let (s, is, limits, asked) = c.requires in
    let d = rw c.in-Dead.is at asked in
    record {
      given = d.0;
      tests = limits.small;
      by = subst (λ (n : ℕ). IsRecord (length c.args.location.now.state + n) c.in-Dead.by) (sym limits.many_rows) d.1;
      divisor = d.2;
    }

pub at-into-requires : goal.at-into-requires
at-into-requires c = let (s, is, limits, asked) = c.requires in
    let d = rw c.in-Go.is at asked in
    slice_get_within c.args.certificate.now.locations _ d.0 d.1

pub first_after-requires : goal.first_after-requires
first_after-requires c = let (s, is, limits, asked) = c.requires in
    let d = rw c.in-Go.is at asked in
    let same : d.0 ≡ c.at-into.result.now = same_Some d.0 c.at-into.result.now (sym d.1 ∙ c.at-into.ensures.value) in
    (s, is, limits, subst (λ (l : Location). AreAsked s c.args.location.now.state l.entry c.in-Go.reach) same d.2)

pub first_in_loop-requires : goal.first_in_loop-requires
first_in_loop-requires c = let (s, is, limits, asked) = c.requires in
    let d = rw c.in-Loop.is at asked in
    (s, is, limits, d.0, d.1, d.2, d.3)

pub returns-in-Dead : goal.returns-in-Dead
returns-in-Dead c = rw c.in-Dead.is c.unrefuted.ensures

pub returns-in-Go : goal.returns-in-Go
returns-in-Go c = rw (c.in-Go.is, c.at-into.ensures.value) c.first_after.ensures

pub returns-in-Loop : goal.returns-in-Loop
returns-in-Loop c = rw c.in-Loop.is c.first_in_loop.ensures
