use Rattle.std.proofs.Common.{◌≡◌, ◌+◌, ◌++◌, ◌∷◌, [], ◌^◌, ◌∙◌, length, sym, arith, ap}
use Rattle.std.proofs.lemmas.Int.{to_z-of_z}
use Rattle.std.specs.Int.{w128}
use Rattle.rv_invfile.specs.{Ahead.here, Texts.whole}
use Rattle.rv_invariant.specs.{Groups.upto, Pieces.coefficient_at, Pieces.is_within}
use Rattle.rv_invariant.proofs.{Looping.pushed-length, Looping.pushed-read, Rowing.all-right, Rowing.fits-within, Rowing.number-wrong, Rowing.numbers-more}
use Rattle.rv_invariant.proofs.rows.read_numbers.Goals as goal

pub returns-in_default-whole_within : goal.returns-in_default-whole_within
returns-in_default-whole_within c =
    let r = here c.args.records.now in
    let i = c.loop-index.index in
    let inv = c.loop-index.invariant in (
      c.number-in_default-whole_within.ensures,
      number-wrong r i (omega (arith, c.requires.many, c.loop-index-test.true)) (λ k l. inv.right k (omega (arith, inv.size, l)))
          (ap (is_within (2 ^ 30)) (sym c.field-in-loop-index.ensures) ∙ c.in_default-whole_within.ensures),
    )

pub loop-index-preserved : goal.loop-index-preserved
loop-index-preserved c =
    let r = here c.args.records.now in
    let i = c.loop-index.index in
    let inv = c.loop-index.invariant in
    let xs = c.loop-index.coefficients in
    let new = c.push.new.self in
    let number = c.in-Some-whole_within.number in
    let told = c.in-Some-whole_within.ensures in
    let fits = fits-within (2 ^ 30) c.field-in-loop-index.result.now number (omega arith) told.0 told.1 in
    let e = c.in_ok-push.ensures.ok ∙ ap (λ z. xs ++ z ∷ []) (to_z-of_z w128 number fits) in
    let value = told.1 ∙ ap whole c.field-in-loop-index.ensures ∙ ap (λ k. coefficient_at r k) (sym inv.size) in
    let size = pushed-length xs new number e in
    record {
      size = size ∙ ap (λ k. k + 1) inv.size;
      read = pushed-read coefficient_at r xs new number inv.read value e;
      right = numbers-more r i (length new) (size ∙ ap (λ k. k + 1) inv.size) (λ k l. inv.right k (omega (arith, inv.size, l)))
          (ap (is_within (2 ^ 30)) (sym c.field-in-loop-index.ensures) ∙ told.0);
    }

pub returns : goal.returns
returns c =
    let r = here c.args.records.now in
    let inv = c.loop-index.invariant in
    let m = c.args.memories in
    let size : length c.loop-index.coefficients ≡ m = omega (arith, inv.size, c.loop-index-test.false) in
    let told = c.in-Some.ensures in
    let fits = fits-within (2 ^ 60) c.field.result.now c.in-Some.bound (omega arith) told.0 told.1 in
    let p = inv.read ∙ ap (upto coefficient_at r) size in
    let q = to_z-of_z w128 c.in-Some.bound fits ∙ told.1 ∙ ap whole c.field.ensures in
    (λ i. record { coefficients = p i; bound = q i }, all-right r m c.requires.many (λ k l. inv.right k (omega (arith, size, l))))
