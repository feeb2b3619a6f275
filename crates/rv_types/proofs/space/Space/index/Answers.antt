use Rattle.std.proofs.{Common.◌≡◌, Common.◌∙◌, Common.ap, Common.sym, Common.rules, Common.false, Common.length, lemmas.List.length-map}
use Rattle.rv_types.specs.{Entries.named, Names.is_declared}
use Rattle.rv_types.proofs.Spaced.{index_absent}
use Rattle.rv_types.proofs.space.Space.index.Goals as goal

pub returns-in-None-clause-number : goal.returns-in-None-clause-number
returns-in-None-clause-number c =
    let absent : is_declared c.args.self.now c.args.name.now ≡ false = search rules in
    c.len.ensures.len ∙ sym (length-map c.self.inside.names.entries named) ∙ ap length c.self.view_is
    ∙ sym (index_absent c.args.self.now c.args.name.now absent)
