use Rattle.std.proofs.Common.{◌-◌, length, sym, ◌∙◌, ap, take}
use Rattle.rv_flatten.specs.Positions.{number_from, site_number, way_from}
use Rattle.rv_flatten.proofs.PlaceWalks.{number_reached}
use Rattle.rv_flatten.proofs.positions.number_of.Goals as goal

pub returns-in-Some-clause-number : goal.returns-in-Some-clause-number
returns-in-Some-clause-number c =
    let l = c.args.layout.now in
    let q = take (length c.args.sites.now - 1) c.args.sites.now in
    c.number_at.ensures ∙ ap (λ m. site_number l m c.in-Some.site) (c.end_of.ensures)
    ∙ number_reached l 0 0 q c.in-Some.site c.turn.new.way (c.in_ok-turn.ensures ∙ ap (way_from l 0) c.front.ensures)
    ∙ ap (number_from l 0 0) (sym c.in-Some.ensures.some)
