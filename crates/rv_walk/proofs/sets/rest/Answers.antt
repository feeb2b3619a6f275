use Rattle.std.proofs.Common.{◌∙◌}
use Rattle.rv_diagram.specs.Nodes.{Answers, choice, value_of}
use Rattle.rv_diagram.proofs.Growing.{grows_extends}
use Rattle.rv_symbolic.proofs.Extending.{map_ok}
use Rattle.rv_base.proofs.Truths.{without_is}
use Rattle.rv_walk.proofs.sets.rest.Goals as goal

pub returns-clause-ok : goal.returns-clause-ok
returns-clause-ok c =
    map_ok c.ite.result (λ r. Answers c.args.store.now c.ite.new.self (choice c.args.store.now.nodes c.args.b c.constant-nothing.result c.args.a) r) _
    (λ r t. record {
      extends = grows_extends c.args.store.now c.ite.new.self t.grows;
      found = t.found;
      means = λ v. t.means v ∙ without_is (value_of c.args.store.now.nodes c.args.a v) (value_of c.args.store.now.nodes c.args.b v)
          (value_of c.args.store.now.nodes c.constant-nothing.result v) (c.constant-nothing.ensures.means v);
    })
    c.ite.ensures.ok
