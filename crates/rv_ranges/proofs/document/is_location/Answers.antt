use Rattle.std.proofs.Common.{sym, subst, rules, arith}
use Rattle.rv_ranges.specs.declared.entries.Premises.{Premises}
use Rattle.rv_ranges.specs.Documents.{HasKeptRows, IsStateSet, AreRangedEntries}
use Rattle.rv_ranges.proofs.document.is_location.Goals as goal

pub premises_in-premises-requires : goal.premises_in-premises-requires
premises_in-premises-requires c =
    let k : HasKeptRows c.args.bounds.now.memories c.args.location.now = search rules in
    let e = k.entry in let f = k.first in let a = k.around in let s = k.state in
    record { entry = e.1; first = f.1; around = a.1; state = s.1 }

pub returns : goal.returns
returns c =
    let same = c.premises_in-premises.ensures in (
      (λ yes. record {
        kept = let k : HasKeptRows c.args.bounds.now.memories c.args.location.now = search rules in k;
        few = omega arith;
        control = let k : IsStateSet c.args.bounds.now c.args.location.now.control = search rules in k;
        entries = subst (λ (p : Premises). AreRangedEntries c.args.bounds.now p c.args.location.now.entries) same (c.are_entries.ensures.0 yes);
      }),
      (λ is. c.are_entries.ensures.1 (subst (λ (p : Premises). AreRangedEntries c.args.bounds.now p c.args.location.now.entries) (sym same) is.entries)),
    )
