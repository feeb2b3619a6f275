use Rattle.std.proofs.{Common.refl, Common.arith, lemmas.List.length-map}
use Rattle.rv_base.specs.declared.value.Place.{Place}
use Rattle.rv_types.specs.Lists.{sites_of}
use Rattle.rv_flatten.specs.Building.{numbers_of, program_given, main_given}
use Rattle.rv_flatten.proofs.MadeFlows.{none_made, one_made}
use Rattle.rv_flatten.proofs.flows.flat_flows.Goals as goal

pub loop-number-init : goal.loop-number-init
loop-number-init c =
    let g = c.args.given.now in
    record {
      made = none_made (program_given g) (main_given g) (numbers_of g c.args.found.now) (sites_of g.sequence.now) c.new-flows.result c.new-flows.ensures;
      end = refl;
    }

pub loop-number-preserved : goal.loop-number-preserved
loop-number-preserved c =
    let g = c.args.given.now in
    record {
      made = one_made (program_given g) (main_given g) (numbers_of g c.args.found.now) (sites_of g.sequence.now) c.loop-number.number c.loop-number.flows
          c.push.new.self c.in_ok-flow.flow
          c.loop-number.invariant.made c.in_ok-push.ensures.ok c.in_ok-flow.ensures;
      end = refl;
    }

pub returns : goal.returns
returns c =
    let g = c.args.given.now in let made = c.loop-number.invariant.made in
    record {
      many =
          omega (arith, length-map g.sequence.now (λ (q : Place). q.sites), made.many, c.loop-number-test.false, c.loop-number.auto.number-end);
      each = made.each;
    }
