use Rattle.std.proofs.Common.{◌≡◌, ◌<◌, FitsSigned, rules, length, subst, arith}
use Rattle.std.proofs.{lemmas.Int.to_z-of_z, lemmas.Option.get_or_from_slice_get, lemmas.Option.slice_get_within}
use Rattle.std.specs.Int.{w128}
use Rattle.rv_diagram.specs.Nodes.{IsRef}
use Rattle.rv_diagram.proofs.Growing.{extends_trans}
use Rattle.rv_terms.specs.{declared.parted.Part.Part, Parts.no_form, Parts.part_at}
use Rattle.rv_ends.proofs.Tightening.{below_more, below_all}
use Rattle.rv_ends.proofs.sides.parts_below.Goals as goal

pub loop-place-preserved : goal.loop-place-preserved
loop-place-preserved c =
    let fits : FitsSigned w128 c.args.bound = search rules in
    let low : c.loop-place.place < length c.args.term.now.parts =
    slice_get_within c.args.term.now.parts c.loop-place.place c.at.result.now c.at.ensures.value in
    let is : part_at c.args.term.now.parts c.loop-place.place ≡ c.at.result.now =
    get_or_from_slice_get c.args.term.now.parts c.loop-place.place c.at.result.now (record { under = 0; form = no_form }) c.at.ensures.value in
    let found : IsRef c.args.store.now.nodes c.at.result.now.under =
    subst (λ (p : Part). IsRef c.args.store.now.nodes p.under) is (c.requires.term.refs c.loop-place.place low) in
    let among = simp to_z-of_z at c.loop-place.invariant.among in
    let exact = simp to_z-of_z at c.in_ok-sum.ensures.exact in
    record {
      extends = extends_trans c.args.store.now c.loop-place.store c.with_part.new.store c.loop-place.invariant.extends c.in_ok-sum.ensures.extends;
      found = c.in_ok-sum.ensures.found;
      among = simp to_z-of_z (below_more c.args.store.now.nodes c.loop-place.store.nodes c.with_part.new.store.nodes c.args.term.now.parts c.loop-place.place
          c.args.bound c.loop-place.sum c.in_ok-sum.sum c.at.result.now is
          (λ v. c.loop-place.invariant.extends.kept c.at.result.now.under found v) exact among);
    }

pub returns-clause-exact : goal.returns-clause-exact
returns-clause-exact c =
    let fits : FitsSigned w128 c.args.bound = search rules in
    let among = simp to_z-of_z at c.loop-place.invariant.among in
    below_all c.args.store.now.nodes c.loop-place.store.nodes 0 c.args.term.now.parts c.loop-place.place c.args.bound c.loop-place.sum c.requires.term
    (omega (arith, c.loop-place-test.false, c.len-place-end.ensures)) (omega (arith, c.loop-place.auto.place-end, c.len-place-end.ensures)) among
