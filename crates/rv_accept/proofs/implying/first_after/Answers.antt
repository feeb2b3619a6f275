use Rattle.std.proofs.Common.{◌≡◌, ◌+◌, ◌^◌, ℕ, List, All, length, length-append, ap, subst, sym, ◌∙◌}
use Rattle.std.proofs.lemmas.List.Elements.{All-append}
use Rattle.rv_rows.specs.{declared.linear.Row.Row, Rows.RowWithin}
use Rattle.rv_proofs.specs.{Ranges.IsRecord, Scopes.after, Scopes.each}
use Rattle.rv_symbolic.proofs.Extending.{map_ok}
use Rattle.rv_accept.specs.Passing.{AreTried, AreJudged}
use Rattle.rv_accept.proofs.Judged.{rooms, tried_judged}
use Rattle.rv_accept.proofs.implying.first_after.Goals as goal

pub first_unshown-requires : goal.first_unshown-requires
first_unshown-requires c =
    let (s, is, limits, a) = c.requires in
    let size : length c.args.given.now + s.tests ≡ length c.in_ok-premises.premises =
    ap (λ (n : ℕ). length c.args.given.now + n) (sym limits.many_rows) ∙ sym (length-append c.args.given.now c.args.facts.now.rows)
    ∙ ap (λ (l : List Row). length l) (sym c.in_ok-premises.ensures) in
    record {
      premises = subst (λ (l : List Row). All (RowWithin (2 ^ 60)) l) (sym c.in_ok-premises.ensures)
          (All-append (RowWithin (2 ^ 60)) c.args.given.now c.args.facts.now.rows a.premises limits.small);
      by = subst (λ (n : ℕ). All (IsRecord n) c.args.by.now) size a.records;
      counts = a.counts;
      room = rooms s c.args.wanted.now c.args.facts.now.forms is limits.many_forms limits.updates a.kept;
    }

pub returns : goal.returns
returns c = map_ok c.first_unshown.result (λ o. AreTried after c.in_ok-premises.premises c.args.facts.now.forms c.args.wanted.now c.args.by.now o)
    (λ o. AreJudged c.args.facts.now.rows c.args.facts.now.forms (each after c.args.given.now c.args.wanted.now c.args.by.now) o)
    (λ o h. tried_judged c.args.facts.now.rows c.args.facts.now.forms after c.args.given.now c.args.wanted.now c.args.by.now c.in_ok-premises.premises
    c.in_ok-premises.ensures o h)
    c.first_unshown.ensures
