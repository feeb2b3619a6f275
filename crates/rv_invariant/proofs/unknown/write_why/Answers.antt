use Rattle.std.proofs.Common.{◌∷◌, [], sym, subst}
use Rattle.std.specs.Prelude.{Some, OnOk}
use Rattle.rv_proofs.specs.declared.report.Why.{Why}
use Rattle.rv_invfile.specs.Writes.{Adds}
use Rattle.rv_invariant.specs.Unknown.{why_record}
use Rattle.rv_invariant.proofs.unknown.write_why.Goals as goal

pub returns-in-Locations : goal.returns-in-Locations
returns-in-Locations c =
    subst (λ (y : Why). OnOk c.write_limit.result (Adds (λ v. Some v.items) c.args.writer.now c.write_limit.new.writer (why_record y ∷ [])))
    (sym c.in-Locations.is) c.write_limit.ensures

pub returns-in-Stuck : goal.returns-in-Stuck
returns-in-Stuck c =
    subst (λ (y : Why). OnOk c.put.result (Adds (λ v. Some v.items) c.args.writer.now c.put.new.writer (why_record y ∷ [])))
    (sym c.in-Stuck.is) c.put.ensures
