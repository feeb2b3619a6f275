use Rattle.std.proofs.Common.{◌≡◌, ℕ, ◌+◌, ◌<◌, ◌≤◌, List, ℤ, length, arith, ◌⊎◌, inl, inr, subst}
use Rattle.std.proofs.lemmas.Bool.{cases_lt}
use Rattle.rv_rows.specs.Rows.{row_at, Holds}
use Rattle.rv_boxes.specs.Boxed.{IsBoxed}
use Rattle.rv_boxes.proofs.Tops.{some_boxed}
use Rattle.rv_boxes.proofs.shut.shut_of.Goals as goal

one_more : (P : ℕ → Type 0) (i : ℕ) → ((k : ℕ) → k < i → P k) → P i → (k : ℕ) → k < i + 1 → P k
one_more P i before here k l = go (cases_lt k i)
  where
    go : (k < i) ⊎ (i ≤ k) → P k
    go (inl m) = before k m
    go (inr m) = let e : i ≡ k = omega arith in subst P e here

pub returns-in-Some-2-clause-shut : goal.returns-in-Some-2-clause-shut
returns-in-Some-2-clause-shut c o =
    let never = rw c.in-Some-2.is at c.in_ok-found.ensures.some in
    let (point, b, h) = o.each c.loop-premise.premise (omega (arith, c.len-premise-end.ensures)) in
    never.1 point b h

pub loop-premise-preserved : goal.loop-premise-preserved
loop-premise-preserved c =
    let here = rw c.in_default-2.is at c.in_ok-found.ensures.none in
    record {
      open' = c.loop-premise.invariant.open';
      each = one_more (λ p. (point : List ℤ) × IsBoxed (length c.args.ends.now) c.args.premises.now point
          × Holds (row_at c.args.premises.now p) point) c.loop-premise.premise c.loop-premise.invariant.each here;
    }

pub returns-clause-opened : goal.returns-clause-opened
returns-clause-opened c = record {
  some = some_boxed c.args.premises.now (length c.args.ends.now) c.requires.premises c.args.ends.now c.requires.ends c.loop-premise.invariant.open';
  each = λ p l. c.loop-premise.invariant.each p (omega (arith, c.len-premise-end.ensures, c.loop-premise-test.false));
}
