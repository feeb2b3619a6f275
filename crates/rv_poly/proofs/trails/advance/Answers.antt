use Rattle.std.proofs.{Common.◌≡◌, Common.◌++◌, Common.◌∷◌, Common.[], Common.FitsSigned, Common.rules, Common.sym, lemmas.Int.to_z-of_z}
use Rattle.std.specs.Int.{w128}
use Rattle.rv_poly.specs.Whole.{IsInReplay}
use Rattle.rv_poly.proofs.GuideLemmas.{guide-columns, trail-more}
use Rattle.rv_poly.proofs.trails.advance.Goals as goal

pub span_of-span-requires : goal.span_of-span-requires
span_of-span-requires c = record {
  fits = c.requires.guide.fits;
  widths = rw c.len-column.ensures (guide-columns c.args.width c.args.rows.now _ c.requires.guide c.requires.room);
  size = sym c.len-column.ensures;
  point = c.requires.trail.replay;
}

pub next_number-requires : goal.next_number-requires
next_number-requires c =
    let wanted_fits = c.ranges.wanted in
    record { low = c.span_of-span.ensures.low; high = c.span_of-span.ensures.high; wanted = simp to_z-of_z c.requires.wanted }

pub returns-in_ok-push-in-Some : goal.returns-in_ok-push-in-Some
returns-in_ok-push-in-Some c =
    let number_fits : FitsSigned w128 c.in-Some.number = search rules in
    let replay : IsInReplay c.in-Some.number = rw c.in-Some.is at c.next_number.ensures in
    let new_is : c.push.new.self ≡ c.args.point.now ++ c.in-Some.number ∷ [] = simp to_z-of_z at c.in_ok-push-in-Some.ensures.ok in
    rw new_is (trail-more c.args.width c.args.point.now c.in-Some.number c.requires.trail c.requires.room replay)

pub returns-in-None : goal.returns-in-None
returns-in-None c = c.step_back.ensures
