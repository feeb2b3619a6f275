use Rattle.std.proofs.Common.{◌≡◌, ◌∙◌, ap, not, rules}
use Rattle.rv_tree.specs.Places.{is_among}
use Rattle.rv_calls.specs.Numbering.{with_name}
use Rattle.rv_calls.proofs.HashedNames.{among_any, inserted}
use Rattle.rv_calls.proofs.names.Names.add.Goals as goal

pub returns-clause-new : goal.returns-clause-new
returns-clause-new c =
    let copied : c.in_ok-clone.field-0 ≡ c.args.name.now = search rules in
    c.in_ok-new.ensures.added ∙ ap not (among_any c.self.inside.names.keys c.in_ok-clone.field-0) ∙ (λ i. not (is_among (c.self.view_is i) (copied i)))

pub returns-clause-names : goal.returns-clause-names
returns-clause-names c =
    let copied : c.in_ok-clone.field-0 ≡ c.args.name.now = search rules in
    c.in_ok-new.ensures.keys ∙ inserted c.self.inside.names.keys c.in_ok-clone.field-0 ∙ (λ i. with_name (c.self.view_is i) (copied i))
