use Rattle.std.proofs.{Common.◌≡◌, Common.length, Common.sym, Common.ap, Common.◌∙◌, Common.Some, lemmas.Option.none-some}
use Rattle.rv_boxes.specs.{declared.ends.End.End, Ends.end_at}
use Rattle.rv_boxes.proofs.{Numbers.end_read, Crossing.crossed_at, Shutting.ends_shut, Shutting.ends_refute}
use Rattle.rv_boxes.proofs.shut.by_column.Goals as goal

pub returns-in_ok-found-in-Some-high-clause-refuted : goal.returns-in_ok-found-in-Some-high-clause-refuted
returns-in_ok-found-in-Some-high-clause-refuted c =
    let e = end_read c.args.ends.now c.args.column c.at-end.result.now c.at-end.ensures.value in
    let low : (end_at c.args.ends.now c.args.column).low ≡ Some c.in-Some.low = ap (λ (x : End). x.low) e ∙ c.in-Some.is in
    let high : (end_at c.args.ends.now c.args.column).high ≡ Some c.in-Some-high.high = ap (λ (x : End). x.high) e ∙ c.in-Some-high.is in
    let (mid, one, two) = c.in_ok-found-in-Some-high.ensures.weights in
    ends_refute c.args.premises.now (length c.args.ends.now) c.requires.premises c.args.ends.now c.requires.ends c.args.column c.requires.inside
    c.in-Some.low c.in-Some-high.high low high
    (crossed_at c.args.premises.now (end_at c.args.ends.now c.args.column) c.in-Some.low c.in-Some-high.high c.requires.crossed low high)
    c.in_ok-found-in-Some-high.found mid c.in_ok-found-in-Some-high.ensures.divisor one two

pub returns-in_ok-found-in-Some-high-clause-shut : goal.returns-in_ok-found-in-Some-high-clause-shut
returns-in_ok-found-in-Some-high-clause-shut c o =
    let e = end_read c.args.ends.now c.args.column c.at-end.result.now c.at-end.ensures.value in
    let low : (end_at c.args.ends.now c.args.column).low ≡ Some c.in-Some.low = ap (λ (x : End). x.low) e ∙ c.in-Some.is in
    let high : (end_at c.args.ends.now c.args.column).high ≡ Some c.in-Some-high.high = ap (λ (x : End). x.high) e ∙ c.in-Some-high.is in
    ends_shut c.args.premises.now (length c.args.ends.now) c.requires.premises c.args.ends.now c.requires.ends c.args.column c.requires.inside
    c.in-Some.low c.in-Some-high.high low high
    (crossed_at c.args.premises.now (end_at c.args.ends.now c.args.column) c.in-Some.low c.in-Some-high.high c.requires.crossed low high) o.some

pub returns-in-None-high-clause-some : goal.returns-in-None-high-clause-some
returns-in-None-high-clause-some c =
    let e = end_read c.args.ends.now c.args.column c.at-end.result.now c.at-end.ensures.value in
    let x = c.requires.crossed in
    absurd (none-some x.high (sym c.in-None-high.is ∙ sym (ap (λ (y : End). y.high) e) ∙ x.is_high))

pub returns-in-None-clause-some : goal.returns-in-None-clause-some
returns-in-None-clause-some c =
    let e = end_read c.args.ends.now c.args.column c.at-end.result.now c.at-end.ensures.value in
    let x = c.requires.crossed in
    absurd (none-some x.low (sym c.in-None.is ∙ sym (ap (λ (y : End). y.low) e) ∙ x.is_low))
