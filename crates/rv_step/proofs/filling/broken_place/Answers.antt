use Rattle.std.proofs.Common.{◌≡◌, ◌+◌, not, [], get_or, map, sym, ◌∙◌, ap, subst, length, arith, Some}
use Rattle.std.specs.Option.{option_copied}
use Rattle.rv_meaning.specs.Meaning.{is_true}
use Rattle.rv_flat.specs.FlatInstants.{assertion_trees, found_at, value_at}
use Rattle.rv_flat.specs.{Earliest.IsPicked, Filling.is_broken, FlatOf.no_assertion, Inlined.tree_among, Steps.IsLeastOf, Tame.IsOver, Tame.IsTame}
use Rattle.rv_flat.proofs.{Earliest.picked_yes, Earliest.picked_no, Inlining.is_table, Taming.assertion_over, Taming.assertion_tame}
use Rattle.rv_step.proofs.{Reading.read_at, filling.broken_place.Goals.then-is_false, filling.broken_place.Goals.else-is_false}
use Rattle.rv_step.proofs.filling.broken_place.Goals as goal

pub is_false-requires-clause-table : goal.is_false-requires-clause-table
is_false-requires-clause-table c = is_table c.args.flat.now.memories c.args.flat.now.ends

pub is_false-requires-clause-ready : goal.is_false-requires-clause-ready
is_false-requires-clause-ready c =
    let f = c.args.flat.now in
    let now = c.args.now.now in
    let inputs = c.args.input.now in
    let row = c.args.row.now in
    let k = c.loop-assertion.assertion-index in
    let items = c.as_slice-assertion-items.result.now in
    let long = ap length c.as_slice-assertion-items.ensures in
    let here : get_or (assertion_trees f) k no_assertion ≡ tree_among f.memories c.assertion-item.result =
    read_at (tree_among f.memories) f.assertions items k c.assertion-item.result no_assertion c.as_slice-assertion-items.ensures c.loop-assertion-test.true
    c.assertion-item.is in
    record {
      tame = subst (IsTame (found_at now inputs) row) here (assertion_tame f now inputs c.requires.state c.requires.inputs row c.requires.row k
          (omega (arith, long)));
      over = subst (IsOver (length row)) here (assertion_over f now inputs c.requires.state c.requires.inputs row c.requires.row k (omega (arith, long)));
    }

pub loop-assertion-preserved : goal.loop-assertion-preserved
loop-assertion-preserved c =
    let f = c.args.flat.now in
    let now = c.args.now.now in
    let inputs = c.args.input.now in
    let row = c.args.row.now in
    let k = c.loop-assertion.assertion-index in
    let items = c.as_slice-assertion-items.result.now in
    let item = c.assertion-item.result in
    let places = map (λ e. e.at.sites) f.assertions in
    let test = is_broken f now inputs row in
    let here : get_or places k [] ≡ item.at.sites = read_at (λ e. e.at.sites) f.assertions items k item [] c.as_slice-assertion-items.ensures
    c.loop-assertion-test.true c.assertion-item.is in
    let tree : get_or (assertion_trees f) k no_assertion ≡ tree_among f.memories item =
    read_at (tree_among f.memories) f.assertions items k item no_assertion c.as_slice-assertion-items.ensures c.loop-assertion-test.true c.assertion-item.is in
    let tested : test k ≡ c.is_false.result = ap (λ t. not (is_true (value_at now inputs row t))) tree ∙ sym c.is_false.ensures.broken in
    record {
      least = elim c.if-is_false.branch [
        | then-is_false w ↦ subst (λ least. IsLeastOf (IsPicked test places (k + 1)) least)
            (sym (ap option_copied w.least-is ∙ ap (λ p. Some p) w.sooner.ensures))
            (picked_yes test places k (option_copied c.loop-assertion.least) item.at (tested ∙ w.if-is_false.true) here c.loop-assertion.invariant.least)
        | else-is_false w ↦ subst (λ least. IsLeastOf (IsPicked test places (k + 1)) (option_copied least)) (sym w.least-is)
            (picked_no test places k (option_copied c.loop-assertion.least) (tested ∙ w.if-is_false.false) c.loop-assertion.invariant.least)
      ];
      shown = c.is_false.ensures.shown;
    }

pub returns : goal.returns
returns c =
    let f = c.args.flat.now in
    let long = ap length c.as_slice-assertion-items.ensures in
    let all : c.loop-assertion.assertion-index ≡ length f.assertions = omega (arith, long) in
    subst (λ n. IsLeastOf (IsPicked (is_broken f c.args.now.now c.args.input.now c.args.row.now) (map (λ e. e.at.sites) f.assertions) n)
    (option_copied c.loop-assertion.least))
    all c.loop-assertion.invariant.least
