use Rattle.std.proofs.Common.{length, sym, ap, subst, arith}
use Rattle.rv_types.specs.Lists.{sites_of}
use Rattle.rv_instances.specs.{Expanded.program_of, Expanded.main_of, Layouts.all_places}
use Rattle.rv_flatten.specs.{Kept.AreKept, Positions.AreNumbersOf}
use Rattle.rv_flatten.proofs.FoundNumbers.{ticks_numbered, memories_numbered}
use Rattle.rv_flatten.proofs.found.numbered.Goals as goal

pub memory_numbers-requires : goal.memory_numbers-requires
memory_numbers-requires c =
    let x = c.args.expanded.now in
    let few = c.few_memories.ensures (program_of x) (main_of x) x.instances.now c.args.kept.now c.requires.known.expanded c.requires.counted c.requires.limits
    c.requires.kept in
    let same = ap length c.as_slice-3.ensures in
    record { few = omega (arith, few, same) }

pub returns : goal.returns
returns c =
    let x = c.args.expanded.now in let p = program_of x in let main = main_of x in
    let instances = x.instances.now in let known = c.requires.known.expanded in
    record {
      flows = c.in_ok-flows.ensures p main instances (sites_of c.args.sequence.now) known c.requires.sequence c.flow_count-count.ensures.count
          (subst (AreNumbersOf (all_places p instances) (sites_of c.args.sequence.now)) (sym c.as_slice.ensures) c.requires.order);
      ticks = ticks_numbered (all_places p instances) c.flow_count-count.result c.args.ticking.now c.as_slice-2.result.now c.in_ok-ticks.ticks
          c.as_slice-2.ensures c.in_ok-ticks.ensures
          c.flow_count-count.ensures.count (c.flow_places.ensures p main instances known.named known.declared known.sited known.all).rising
          c.requires.ticks.rising c.requires.within;
      memories = memories_numbered p main instances c.args.kept.now c.as_slice-3.result.now c.in_ok-memories.memories c.as_slice-3.ensures
          (c.in_ok-memories.ensures p main instances known (subst (AreKept p main instances) (sym c.as_slice-3.ensures) c.requires.kept));
    }
