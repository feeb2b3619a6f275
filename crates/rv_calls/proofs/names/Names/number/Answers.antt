use Rattle.std.proofs.Common.{◌∙◌, ap}
use Rattle.rv_tree.specs.Places.{is_among}
use Rattle.rv_calls.proofs.HashedNames.{among_any, position_index}
use Rattle.rv_calls.proofs.names.Names.number.Goals as goal

pub returns-clause-found : goal.returns-clause-found
returns-clause-found c =
    c.get_index_of.ensures.found ∙ among_any c.self.inside.names.keys c.args.name.now ∙ ap (λ names. is_among names c.args.name.now) c.self.view_is

pub returns-clause-number : goal.returns-clause-number
returns-clause-number c = rw (c.get_index_of.ensures.index, ← c.self.view_is) (position_index c.self.inside.names.keys c.args.name.now)
