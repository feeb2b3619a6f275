use Rattle.std.proofs.Common.{◌∙◌, sym}
use Rattle.rv_diagram.specs.Nodes.{Answers}
use Rattle.rv_diagram.proofs.Growing.{grows_extends, extends_refl}
use Rattle.rv_symbolic.proofs.Extending.{map_ok}
use Rattle.rv_bits.proofs.names.truth.Goals as goal

pub returns-in-Some-clause-ok : goal.returns-in-Some-clause-ok
returns-in-Some-clause-ok c = map_ok c.variable.result (Answers c.args.store.now c.variable.new.self (λ x. x c.in-Some.number)) _
    (λ r t. record {
      extends = grows_extends c.args.store.now c.variable.new.self t.grows;
      found = t.found;
      means = λ v. t.means v
          ∙ sym (c.in-Some.ensures.1 v);
    })
    c.variable.ensures.ok

pub returns-in-None-clause-ok : goal.returns-in-None-clause-ok
returns-in-None-clause-ok c = record {
  extends = extends_refl c.args.store.now;
  found = c.constant.ensures.found;
  means = λ v. c.constant.ensures.means v
      ∙ sym (c.in-None.ensures v);
}
