use Rattle.std.proofs.Common.{◌^◌}
use Rattle.std.proofs.lemmas.Result.{IfOk-weaker}
use Rattle.rv_rows.specs.{Rows.RowWithin, Forms.IsSubstituted}
use Rattle.rv_proofs.proofs.Rooms.{has_room, stays_small}
use Rattle.rv_refine.proofs.Framing.{side_fits}
use Rattle.rv_refine.proofs.bounding.moved.Goals as goal

pub substitute-requires : goal.substitute-requires
substitute-requires c =
    let (s, is, side, many, updates) = c.requires in
    has_room s is c.args.side.now c.args.updates.now side.size (side_fits s.memories c.args.side.now side) many updates

pub returns : goal.returns
returns c =
    let (s, is, side, many, updates) = c.requires in
    IfOk-weaker c.substitute.result (IsSubstituted c.args.side.now c.args.updates.now) (RowWithin (2 ^ 78))
    (λ row sub. stays_small s is c.args.side.now c.args.updates.now side.size (side_fits s.memories c.args.side.now side) many updates row sub)
    c.substitute.ensures.exact
