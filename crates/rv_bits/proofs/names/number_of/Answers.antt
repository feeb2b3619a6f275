use Rattle.std.proofs.Common.{◌≡◌, ◌∙◌, ◌<◌, true, false, map, length, get_or, ap, sym, subst, arith, inl, inr}
use Rattle.std.proofs.{lemmas.Bool.cases_lt, lemmas.List.get_or-map, lemmas.List.length-map}
use Rattle.rv_types.specs.Lists.{Next}
use Rattle.rv_flat.specs.Lists.{variable_of}
use Rattle.rv_control.specs.Named.{same_variable}
use Rattle.rv_bits.specs.Names.{variable_named}
use Rattle.rv_bits.proofs.Naming.{truth_first, truth_none}
use Rattle.rv_bits.proofs.names.number_of.Goals as goal

pub returns-then-is_named : goal.returns-then-is_named
returns-then-is_named c =
    let vs = c.args.variables.now in
    let k = c.loop-number.number in
    let low : k < length vs = c.loop-number-test.true in
    let long : length (map variable_of vs) ≡ length vs = length-map vs variable_of in
    let here : get_or (map variable_of vs) k Next ≡ variable_of c.index-variables-number.result = get_or-map variable_of vs k c.index-variables-number.result
    Next low ∙ ap variable_of (sym c.index-variables-number.is) in
    let found : same_variable (get_or (map variable_of vs) k Next) (variable_named c.args.name.now) ≡ true =
    ap (λ y. same_variable y (variable_named c.args.name.now)) here ∙ sym c.is_named.ensures ∙ c.if-is_named.true in
    (low, truth_first (map variable_of vs) (variable_named c.args.name.now) k (omega arith) c.loop-number.invariant.none found)

pub loop-number-preserved : goal.loop-number-preserved
loop-number-preserved c =
    let vs = c.args.variables.now in
    let k = c.loop-number.number in
    let here : get_or (map variable_of vs) k Next ≡ variable_of c.index-variables-number.result =
    get_or-map variable_of vs k c.index-variables-number.result Next c.loop-number-test.true ∙ ap variable_of (sym c.index-variables-number.is) in
    let other : same_variable (get_or (map variable_of vs) k Next) (variable_named c.args.name.now) ≡ false =
    ap (λ y. same_variable y (variable_named c.args.name.now)) here ∙ sym c.is_named.ensures ∙ c.if-is_named.false in
    record {
      none = λ j lt. elim (cases_lt j k) [
        | inl below ↦ c.loop-number.invariant.none j below
        | inr le ↦ let same : k ≡ j = omega arith in subst (λ n. same_variable (get_or (map variable_of vs) n Next) (variable_named c.args.name.now) ≡ false)
            same other
      ];
    }

pub returns : goal.returns
returns c =
    let vs = c.args.variables.now in
    let long : length (map variable_of vs) ≡ length vs = length-map vs variable_of in
    truth_none (map variable_of vs) (variable_named c.args.name.now) (λ k lt. c.loop-number.invariant.none k (omega arith))
