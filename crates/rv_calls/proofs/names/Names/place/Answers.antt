use Rattle.std.proofs.Common.{sym, ◌∙◌}
use Rattle.rv_types.proofs.NamePlaces.{index_past}
use Rattle.rv_calls.proofs.names.Names.place.Goals as goal

pub returns-in-None-clause-is : goal.returns-in-None-clause-is
returns-in-None-clause-is c = c.len.ensures ∙ sym (index_past c.args.self.now c.args.name.now (sym c.in-None.ensures.found))
