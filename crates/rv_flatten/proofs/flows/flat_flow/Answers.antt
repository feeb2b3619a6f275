use Rattle.std.proofs.Common.{◌<◌, [], length, Some, sym, ◌∙◌, ap, subst, arith}
use Rattle.std.proofs.{lemmas.List.length-map, lemmas.List.get_or-map, lemmas.Option.get_or_from_slice_get}
use Rattle.rv_base.specs.declared.value.Place.{Place}
use Rattle.rv_types.specs.Needs.{Gives}
use Rattle.rv_instances.specs.{Flowing.place_at, Layouts.all_places}
use Rattle.rv_flatten.specs.Building.{numbers_of, program_given, main_given}
use Rattle.rv_flatten.proofs.MadeFlows.{its_giver, flows_size, its_kind}
use Rattle.rv_flatten.proofs.flows.flat_flow.Goals as goal

pub giver_item-requires-clause-giver : goal.giver_item-requires-clause-giver
giver_item-requires-clause-giver c =
    let g = c.args.given.now in
    let f = its_giver g c.requires.given c.at.result.now c.at-2.result.now c.at-2.ensures.value in
    (place_at (all_places (program_given g) g.expanded.now.instances.now) c.at.result.now, f.0, f.1, f.2)

pub at-requires-3 : goal.at-requires-3
at-requires-3 c =
    let g = c.args.given.now in let order = c.requires.found.order in
    let size = length-map g.sequence.now (λ (q : Place). q.sites) in
    let n : c.args.number < length c.args.found.now.order = let lt = c.requires.within in let many = order.size in omega (arith, lt, many, size) in
    let at = get_or_from_slice_get c.args.found.now.order c.args.number c.at.result.now 0 c.at.ensures.value in
    omega (arith, (order.each c.args.number n).0, at, flows_size g c.requires.given)

pub returns : goal.returns
returns c =
    let g = c.args.given.now in let p = program_given g in let main = main_given g in
    let order = c.requires.found.order in
    let size = length-map g.sequence.now (λ (q : Place). q.sites) in
    let n : c.args.number < length c.args.found.now.order = omega (arith, c.requires.within, order.size, size) in
    let at = get_or_from_slice_get c.args.found.now.order c.args.number c.at.result.now 0 c.at.ensures.value in
    let there = ap (place_at (all_places p g.expanded.now.instances.now)) (sym at) ∙ (order.each c.args.number n).1 in
    let f = its_giver g c.requires.given c.at.result.now c.at-2.result.now c.at-2.ensures.value in
    let gives = subst (λ q. Gives p main q f.0) there f.1 in
    record {
      at = c.in_ok-place.ensures ∙ sym (get_or-map (λ (q : Place). q.sites) g.sequence.now c.args.number c.index-given-number.result [] c.requires.within);
      giver = f.0;
      gives = gives;
      item = c.in_ok-item.ensures (numbers_of g c.args.found.now) (place_at (all_places p g.expanded.now.instances.now) c.at.result.now) f.0
          c.requires.given.light c.requires.found.ticks c.requires.found.numbering f.1 f.2;
      kind = λ i x is w e. ap Some c.kind_of_flow.ensures ∙ its_kind g c.requires.given c.at.result.now c.at-3.result.now i x c.at-3.ensures.value is w
          (there ∙ e);
    }
