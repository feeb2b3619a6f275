use Rattle.std.proofs.Common.{◌≡◌, sym, ap, subst}
use Rattle.rv_types.specs.{Instances.name_at, Lists.sites_of, Needs.IsSequence}
use Rattle.rv_instances.specs.{Expanded.program_of, Expanded.main_of, Weights.AreLight}
use Rattle.rv_flatten.proofs.build.flat_read.Goals as goal

pub flat_given-requires-clause-given : goal.flat_given-requires-clause-given
flat_given-requires-clause-given c =
    let e = c.args.expanded.now in let p = program_of e in
    let name : name_at p c.args.typed.now.main ≡ main_of e = ap (name_at p) (sym c.requires.main) in
    record {
      known = c.requires.known;
      layout = c.in_ok-layout.ensures;
      givers = c.in_ok-givers.ensures;
      flows = c.in_ok-flows.ensures.flows;
      of = c.in_ok-flows.ensures.instances;
      owns = c.requires.owns;
      values = c.named_values-values.ensures;
      kinds = c.requires.fits.settled.1.flow_types;
      sequence = subst (λ s. IsSequence p (main_of e) s) (ap sites_of (sym c.as_slice-2.ensures))
          (subst (λ m. IsSequence p m (sites_of c.args.order.now.sequence)) name c.requires.fits.sequence);
      light = subst (AreLight p) name c.requires.fits.light;
    }
