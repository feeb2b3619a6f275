use Rattle.std.proofs.Common.{◌≡◌, ◌+◌, ◌^◌, ℕ, List, All, length, length-append, ap, subst, sym, ◌∙◌}
use Rattle.std.proofs.lemmas.List.Elements.{All-append}
use Rattle.rv_rows.specs.{declared.linear.Row.Row, Rows.RowWithin}
use Rattle.rv_proofs.specs.Ranges.{IsRecord}
use Rattle.rv_proofs.proofs.Records.{weights_within}
use Rattle.rv_accept.proofs.Judged.{refuted_judged, unrefuted_judged}
use Rattle.rv_accept.proofs.implying.unrefuted.Goals as goal

pub refutes-requires : goal.refutes-requires
refutes-requires c =
    let size : length c.args.given.now + length c.args.facts.now.rows ≡ length c.in_ok-premises.premises =
    sym (length-append c.args.given.now c.args.facts.now.rows) ∙ ap (λ (l : List Row). length l) (sym c.in_ok-premises.ensures) in
    let by : IsRecord (length c.in_ok-premises.premises) c.args.by.now = subst (λ (n : ℕ). IsRecord n c.args.by.now) size c.requires.by in
    record {
      range = by.there;
      premises = subst (λ (l : List Row). All (RowWithin (2 ^ 60)) l) (sym c.in_ok-premises.ensures)
          (All-append (RowWithin (2 ^ 60)) c.args.given.now c.args.facts.now.rows c.requires.given c.requires.tests);
      weights = weights_within (length c.in_ok-premises.premises) c.args.by.now by;
      divisor = c.requires.divisor;
    }

pub returns-then-refutes : goal.returns-then-refutes
returns-then-refutes c = refuted_judged c.args.facts.now.rows c.args.facts.now.forms c.args.given.now c.in_ok-premises.premises c.args.by.now
    c.in_ok-premises.ensures
    (let h = rw c.if-refutes.true at c.refutes.ensures.exact in h)

pub returns : goal.returns
returns c = unrefuted_judged c.args.facts.now.rows c.args.facts.now.forms c.args.given.now c.in_ok-premises.premises c.args.by.now c.in_ok-premises.ensures
    (let h = rw c.if-refutes.false at c.refutes.ensures.exact in h)
