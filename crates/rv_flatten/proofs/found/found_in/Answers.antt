use Rattle.std.proofs.Common.{◌≡◌, ◌∙◌, ap, map, slice_index_or, subst, sym}
use Rattle.rv_types.specs.Lists.{AreTicks, sites_of}
use Rattle.rv_instances.specs.{Expanded.program_of, Expanded.main_of, Flowing.place_at, Layouts.all_places}
use Rattle.rv_flat.specs.Facts.{numbers_among}
use Rattle.rv_flatten.specs.Frames.{IsNumbering}
use Rattle.rv_flatten.proofs.FoundNumbers.{tick_flows_numbered}
use Rattle.rv_flatten.proofs.found.found_in.Goals as goal

pub returns : goal.returns
returns c =
    let x = c.args.expanded.now in let p = program_of x in let main = main_of x in
    let all = all_places p x.instances.now in let sequence = sites_of c.args.sequence.now in
    let kept = map (λ k. k.place.sites) c.in_ok-kept.kept in let ticking = c.in_ok-ticking.ticking in
    let ticks : sites_of c.in_ok-ticks.ticks ≡ map (place_at all) ticking = c.in_ok-ticks.ensures in
    record {
      kept = c.in_ok-kept.ensures;
      ticks = subst (AreTicks p main) (sym ticks) c.in_ok-ticking.ensures.list;
      comparisons = c.in_ok-comparisons.ensures;
      order = c.in_ok-order.ensures p main x.instances.now c.requires.known.expanded c.requires.layout c.requires.sequence;
      numbering = subst (λ ts. IsNumbering p main x.instances.now (record { flows = sequence; memories = kept; ticks = ts }) c.in_ok-numbering.numbering)
          (sym ticks) c.in_ok-numbering.ensures;
      tick_flows = c.in_ok-tick_flows.ensures ∙ ap (map (λ k. slice_index_or c.in_ok-numbering.numbering.flows k 0)) c.as_slice.ensures
          ∙ tick_flows_numbered all sequence c.in_ok-numbering.numbering.flows ticking c.in_ok-numbering.ensures.flows c.in_ok-ticking.ensures.within
          ∙ ap (numbers_among sequence) (sym ticks);
    }
