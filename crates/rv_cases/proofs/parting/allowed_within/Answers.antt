use Rattle.std.proofs.{Common.◌∙◌, Common.◌&&◌, Common.ap, lemmas.Result.IfOk-weaker}
use Rattle.rv_diagram.specs.Nodes.{Answers, IsMeant, value_of}
use Rattle.rv_cases.specs.Made.{is_allowed_in}
use Rattle.rv_cases.proofs.parting.allowed_within.Goals as goal

pub returns-clause-means : goal.returns-clause-means
returns-clause-means c =
    IfOk-weaker c.and.result
    (λ r. Answers c.thaw.new.self c.and.new.self (λ v. value_of c.thaw.new.self.nodes c.args.allowed v && value_of c.thaw.new.self.nodes c.in_ok-set.set v) r)
    (IsMeant c.and.new.self.nodes (is_allowed_in c.args.store.now.nodes c.args.allowed c.args.from.now))
    (λ r t. (
      t.found,
      λ v. t.means v ∙ ap (λ x. x && value_of c.thaw.new.self.nodes c.in_ok-set.set v) (c.in_ok-set.ensures.ok.grows.kept c.args.allowed c.requires.allowed v)
          ∙ ap (λ x. value_of c.args.store.now.nodes c.args.allowed v && x) (c.in_ok-set.ensures.ok.means v),
    ))
    c.and.ensures.ok
