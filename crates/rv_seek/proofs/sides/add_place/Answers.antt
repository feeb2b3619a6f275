use Rattle.std.proofs.Common.{◌≡◌, ◌+◌, ℤ, List, sym, subst, ◌∙◌}
use Rattle.rv_seek.specs.Sides.{IsPut, IsClosest}
use Rattle.rv_seek.proofs.SideLemmas.{table-more, closest-one, none_kept, put_key, put_again, closest_before}
use Rattle.rv_seek.proofs.sides.add_place.Goals as goal

pub returns-in_ok-add_again-in-Some : goal.returns-in_ok-add_again-in-Some
returns-in_ok-add_again-in-Some c =
    let rows = c.args.premises.now in
    let (again, d, put, closer) = c.in_ok-add_again-in-Some.ensures in
    let one : IsPut rows c.args.width c.args.place c.in_ok-side.side _ c.args.sides.now c.insert.new.self =
    record { columns = c.in_ok-side.ensures.length; side = c.in_ok-side.ensures.side; changed = c.in_ok-old.ensures.updates.0 } in
    let key = c.in_ok-side.side in
    let same : again.items ≡ key.items = put_key rows c.args.width c.args.place key again _ d c.args.sides.now c.insert.new.self c.add_again.new.sides one
    put in
    let before : IsClosest rows c.args.place key.items c.in-Some.old =
    closest_before rows c.args.width c.args.place c.args.sides.now key c.in-Some.old c.requires.before (sym c.in_ok-old.ensures.old ∙ c.in-Some.is) in
    table-more rows c.args.width c.args.place d c.args.sides.now c.add_again.new.sides key c.requires.before
    (put_again rows c.args.width c.args.place key again _ d c.args.sides.now c.insert.new.self c.add_again.new.sides one put)
    (subst (λ (l : List ℤ). IsClosest rows (c.args.place + 1) l d) same
    (closer (subst (λ (l : List ℤ). IsClosest rows c.args.place l c.in-Some.old) (sym same) before)))

pub returns-in-None : goal.returns-in-None
returns-in-None c =
    let rows = c.args.premises.now in
    table-more rows c.args.width c.args.place _ c.args.sides.now c.insert.new.self c.in_ok-side.side c.requires.before
    (record { columns = c.in_ok-side.ensures.length; side = c.in_ok-side.ensures.side; changed = c.in_ok-old.ensures.updates.0 })
    (closest-one rows c.args.place c.in_ok-side.side.items c.in_ok-side.ensures.side
    (none_kept rows c.args.width c.args.place c.args.sides.now c.in_ok-side.side.items c.requires.before c.in_ok-side.ensures.length
    (sym c.in_ok-old.ensures.old ∙ c.in-None.is)))
