use Rattle.std.proofs.Common.{◌≡◌, ◌+◌, ◌^◌, ℕ, List, All, length, length-append, ap, subst, sym, ◌∙◌}
use Rattle.std.proofs.lemmas.List.Elements.{All-append}
use Rattle.rv_rows.specs.{declared.linear.Row.Row, Rows.RowWithin}
use Rattle.rv_proofs.specs.{Ranges.IsRecord, Scopes.before}
use Rattle.rv_proofs.proofs.Records.{kept_within}
use Rattle.rv_accept.proofs.Judged.{tried_judged}
use Rattle.rv_accept.proofs.implying.first_before.Goals as goal

pub first_untrue-requires : goal.first_untrue-requires
first_untrue-requires c =
    let (s, is, limits, a) = c.requires in
    let size : length c.args.given.now + s.tests ≡ length c.in_ok-premises.premises =
    ap (λ (n : ℕ). length c.args.given.now + n) (sym limits.many_rows) ∙ sym (length-append c.args.given.now c.args.facts.now.rows)
    ∙ ap (λ (l : List Row). length l) (sym c.in_ok-premises.ensures) in
    record {
      premises = subst (λ (l : List Row). All (RowWithin (2 ^ 60)) l) (sym c.in_ok-premises.ensures)
          (All-append (RowWithin (2 ^ 60)) c.args.given.now c.args.facts.now.rows a.premises limits.small);
      by = subst (λ (n : ℕ). All (IsRecord n) c.args.by.now) size a.records;
      counts = a.counts;
      wanted = kept_within s c.args.wanted.now a.kept;
    }

pub returns : goal.returns
returns c = tried_judged c.args.facts.now.rows c.args.facts.now.forms before c.args.given.now c.args.wanted.now c.args.by.now c.in_ok-premises.premises
    c.in_ok-premises.ensures
    c.first_untrue.result (c.first_untrue.ensures c.args.facts.now.forms)
