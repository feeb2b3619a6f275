use Rattle.std.proofs.Common.{sym, subst}
use Rattle.rv_symbolic.specs.declared.relation.Parts.{Parts}
use Rattle.rv_symbolic.proofs.Extending.{map_ok}
use Rattle.rv_accept.specs.Passing.{IsGiven}
use Rattle.rv_reading.specs.Read.{system_read, diagrams_of, questions_of}
use Rattle.rv_reading.proofs.Representing.{is_given}
use Rattle.rv_reading.proofs.reading.Reading.accept.Goals as goal

pub accept-requires : goal.accept-requires
accept-requires c =
    let r = c.args.self.now in
    record {
      given = (
        system_read r,
        subst (λ (p : Parts). IsGiven (system_read r) (diagrams_of r) p (questions_of r) c.args.certificate.now) (sym c.parts-parts.ensures)
            (is_given r c.args.certificate.now c.requires.read c.requires.range c.requires.free),
      );
    }

pub returns-clause-exact : goal.returns-clause-exact
returns-clause-exact c =
    let r = c.args.self.now in
    let given : IsGiven (system_read r) (diagrams_of r) c.parts-parts.result.now (questions_of r) c.args.certificate.now =
    subst (λ (p : Parts). IsGiven (system_read r) (diagrams_of r) p (questions_of r) c.args.certificate.now) (sym c.parts-parts.ensures)
    (is_given r c.args.certificate.now c.requires.read c.requires.range c.requires.free) in
    map_ok c.accept.result _ _ (λ v right. right (system_read r) given) c.accept.ensures.exact
