use Rattle.std.proofs.Common.{sym, subst}
use Rattle.rv_symbolic.specs.{declared.relation.Parts.Parts, Represented.HaveRefs, Represented.AreParts}
use Rattle.rv_accept.specs.Passing.{IsGiven}
use Rattle.rv_least.proofs.searching.judged.Goals as goal

pub accept-requires : goal.accept-requires
accept-requires c =
    let (s, f, given, document) = c.requires in
    let r = given.relation in
    let out = r.laid_out in
    let all : IsGiven s c.args.store.now c.parts.result.now c.args.questions.now c.args.certificate = record {
      held = record {
        system = r.system;
        refs = subst (λ (x : Parts). HaveRefs c.args.store.now x) (sym c.parts.ensures) out.refs;
        means = subst (λ (x : Parts). AreParts s c.args.store.now x) (sym c.parts.ensures) r.parts;
      };
      questions = given.questions;
      range = document.range;
      free = document.free;
    } in
    record { given = (s, all) }

pub returns-in-Accepted-clause-proof : goal.returns-in-Accepted-clause-proof
returns-in-Accepted-clause-proof c s f given document =
    let r = given.relation in
    let out = r.laid_out in
    let all : IsGiven s c.args.store.now c.parts.result.now c.args.questions.now c.args.certificate = record {
      held = record {
        system = r.system;
        refs = subst (λ (x : Parts). HaveRefs c.args.store.now x) (sym c.parts.ensures) out.refs;
        means = subst (λ (x : Parts). AreParts s c.args.store.now x) (sym c.parts.ensures) r.parts;
      };
      questions = given.questions;
      range = document.range;
      free = document.free;
    } in
    record { accepted = (c.in_ok-accept.ensures.accepted s all).0 c.in-Accepted.is; plain = document.plain }
