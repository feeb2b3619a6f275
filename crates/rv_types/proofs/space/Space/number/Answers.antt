use Rattle.std.proofs.Common.{◌∙◌, ap}
use Rattle.rv_types.specs.Names.{is_declared}
use Rattle.rv_types.proofs.Spaced.{declared_looked, position_index}
use Rattle.rv_types.proofs.space.Space.number.Goals as goal

pub returns-clause-found : goal.returns-clause-found
returns-clause-found c =
    c.get_index_of.ensures.found ∙ declared_looked c.self.inside.names.entries c.args.name.now
    ∙ ap (λ names. is_declared names c.args.name.now) c.self.view_is

pub returns-clause-number : goal.returns-clause-number
returns-clause-number c =
    rw (c.get_index_of.ensures.index, ← c.self.view_is) (position_index c.self.inside.names.entries c.args.name.now)
