use Rattle.std.proofs.Common.{◌≡◌, ◌+◌, ◌<◌, ◌∙◌, ℕ, true, length, sym, subst, arith}
use Rattle.std.proofs.lemmas.Option.{slice_get_within}
use Rattle.rv_diagram.specs.{Nodes.Valuation, Nodes.IsRef, Nodes.value_of, Several.ref_at}
use Rattle.rv_diagram.proofs.Growing.{extends_trans}
use Rattle.rv_cases.specs.Conditions.{is_in}
use Rattle.rv_ends.specs.{Columns.HoldsAlone, Columns.IsFit, Cuts.AreCut, Cuts.MeetsFirst, Sides.AreEnds}
use Rattle.rv_ends.proofs.{Within.cut_as, Within.cut_both, Taking.meets_more}
use Rattle.rv_ends.proofs.ends.take_test.Goals as goal

pub take_row-requires-clause-fit : goal.take_row-requires-clause-fit
take_row-requires-clause-fit c v on =
    let k : ℕ = c.loop-place.place in
    let low : k < length c.args.rows.now = slice_get_within c.args.rows.now k c.at.result.now c.at.ensures.value in
    let found : IsRef c.args.store.now.nodes (ref_at c.args.answers.now (k + 1)) = c.requires.answers (k + 1) (omega (arith, low, c.requires.many)) in
    subst (λ (n : ℕ). IsFit n c.at.result.now) (sym c.loop-place.invariant.ends.size)
    (c.requires.fit k c.at.result.now v c.at.ensures.value
    (sym (c.loop-place.invariant.extends.kept (ref_at c.args.answers.now (k + 1)) found v) ∙ on))

pub loop-place-preserved : goal.loop-place-preserved
loop-place-preserved c =
    let k : ℕ = c.loop-place.place in
    let old = c.args.store.now.nodes in
    let answers = c.args.answers.now in
    let rows = c.args.rows.now in
    let low : k < length rows = slice_get_within rows k c.at.result.now c.at.ensures.value in
    let found : IsRef old (ref_at answers (k + 1)) = c.requires.answers (k + 1) (omega (arith, low, c.requires.many)) in
    let same : (v : Valuation) → value_of c.loop-place.store.nodes (ref_at answers (k + 1)) v ≡ is_in old answers (k + 1) v = λ v.
    c.loop-place.invariant.extends.kept (ref_at answers (k + 1)) found v in
    record {
      extends = extends_trans c.args.store.now c.loop-place.store c.take_row.new.store c.loop-place.invariant.extends c.in_ok-take_row.ensures.extends;
      ends = subst (λ (n : ℕ). AreEnds c.take_row.new.store.nodes n c.take_row.new.ends) c.loop-place.invariant.ends.size c.in_ok-take_row.ensures.ends;
      exact = cut_as old c.take_row.new.store.nodes c.args.ends.now c.take_row.new.ends
          (λ v point. MeetsFirst old answers rows k v point × (value_of c.loop-place.store.nodes (ref_at answers (k + 1)) v ≡ true
          → HoldsAlone c.at.result.now point))
          (MeetsFirst old answers rows (k + 1))
          (λ v point.
          let more = meets_more old answers rows k c.at.result.now v point c.at.ensures.value in (
            λ h. more.0 (h.0, λ on. h.1 (same v ∙ on)),
            λ h. let p = more.1 h in (p.0, λ on. p.1 (sym (same v) ∙ on)),
          ))
          (cut_both old c.loop-place.store.nodes c.take_row.new.store.nodes c.args.ends.now c.loop-place.ends c.take_row.new.ends
          (MeetsFirst old answers rows k)
          (λ v point. value_of c.loop-place.store.nodes (ref_at answers (k + 1)) v ≡ true → HoldsAlone c.at.result.now point)
          c.loop-place.invariant.exact c.in_ok-take_row.ensures.exact);
    }

pub returns-clause-exact : goal.returns-clause-exact
returns-clause-exact c =
    let all : c.loop-place.place ≡ length c.args.rows.now = omega (arith, c.loop-place-test.false, c.loop-place.auto.place-end, c.len-place-end.ensures) in
    subst (λ (n : ℕ). AreCut c.args.store.now.nodes c.loop-place.store.nodes c.args.ends.now c.loop-place.ends
    (MeetsFirst c.args.store.now.nodes c.args.answers.now c.args.rows.now n)) all c.loop-place.invariant.exact
