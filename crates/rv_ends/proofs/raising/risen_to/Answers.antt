use Rattle.std.proofs.Common.{◌≡◌, ◌<◌, ◌≤◌, ◌^◌, ◌*◌, ◌∙◌, ℤ, true, length, ap, subst, sym, arith}
use Rattle.std.proofs.{lemmas.Option.get_or_from_slice_get, lemmas.Int.to_z-of_z}
use mir.Val.{to_z, of_z}
use Rattle.std.specs.Int.{w128}
use Rattle.std.specs.Int.RustNames.{unsigned_abs}
use Rattle.rv_rows.specs.declared.linear.Form.{Form}
use Rattle.rv_diagram.specs.Nodes.{IsRef, value_of}
use Rattle.rv_diagram.proofs.Growing.{extends_refl, extends_trans}
use Rattle.rv_terms.specs.{declared.parted.Part.Part, Parts.part_at, Parts.form_at}
use Rattle.rv_terms.proofs.Combining.{form_is}
use Rattle.rv_ends.specs.Risen.{IsRisen, EndsWithin}
use Rattle.rv_ends.proofs.Risen.{parts_first, parts_more, parts_ends}
use Rattle.rv_ends.proofs.raising.risen_to.Goals as goal

pub risen_part-requires-clause-under : goal.risen_part-requires-clause-under
risen_part-requires-clause-under c =
    let low : c.loop-place.place < length c.args.side.now.end.parts = omega (arith, c.loop-place-test.true, c.len-place-end.ensures) in
    let at : part_at c.args.side.now.end.parts c.loop-place.place ≡ c.at-part.result.now =
    get_or_from_slice_get c.args.side.now.end.parts c.loop-place.place c.at-part.result.now _ c.at-part.ensures.value in
    let there : IsRef c.args.store.now.nodes c.at-part.result.now.under =
    subst (λ (p : Part). IsRef c.args.store.now.nodes p.under) at (c.requires.side.term.refs c.loop-place.place low) in
    omega (arith, there, c.loop-place.invariant.extends.longer)

pub risen_part-requires-clause-small : goal.risen_part-requires-clause-small
risen_part-requires-clause-small c v on =
    let low : c.loop-place.place < length c.args.side.now.end.parts = omega (arith, c.loop-place-test.true, c.len-place-end.ensures) in
    let at : part_at c.args.side.now.end.parts c.loop-place.place ≡ c.at-part.result.now =
    get_or_from_slice_get c.args.side.now.end.parts c.loop-place.place c.at-part.result.now _ c.at-part.ensures.value in
    let there : IsRef c.args.store.now.nodes (part_at c.args.side.now.end.parts c.loop-place.place).under =
    c.requires.side.term.refs c.loop-place.place low in
    let holds : value_of c.args.store.now.nodes (part_at c.args.side.now.end.parts c.loop-place.place).under v ≡ true =
    sym (c.loop-place.invariant.extends.kept (part_at c.args.side.now.end.parts c.loop-place.place).under there v)
    ∙ subst (λ (p : Part). value_of c.loop-place.store.nodes p.under v ≡ true) (sym at) on in
    let is : form_at c.args.store.now.nodes c.args.side.now.end.parts v ≡ c.at-part.result.now.form =
    form_is c.args.store.now.nodes c.args.side.now.end.parts c.loop-place.place v c.requires.side.term.disjoint low holds
    ∙ ap (λ (p : Part). p.form) at in
    subst (λ (f : Form). unsigned_abs f.constant ≤ 128 * 2 ^ 101) is (c.requires.side.small v)

pub loop-place-init : goal.loop-place-init
loop-place-init c = record {
  extends = extends_refl c.args.store.now;
  risen = parts_first c.args.store.now.nodes c.args.inside c.args.side.now.end.parts (to_z w128 (of_z w128 c.args.number)) c.args.thresholds.now
      c.args.limit;
}

pub loop-place-preserved : goal.loop-place-preserved
loop-place-preserved c =
    let low : c.loop-place.place < length c.args.side.now.end.parts = omega (arith, c.loop-place-test.true, c.len-place-end.ensures) in
    let at : part_at c.args.side.now.end.parts c.loop-place.place ≡ c.at-part.result.now =
    get_or_from_slice_get c.args.side.now.end.parts c.loop-place.place c.at-part.result.now _ c.at-part.ensures.value in
    record {
      extends = extends_trans c.args.store.now c.loop-place.store c.risen_part.new.store c.loop-place.invariant.extends c.in_ok-held.ensures.extends;
      risen = parts_more c.args.store.now c.loop-place.store c.args.inside c.args.side.now.end.parts c.at-part.result.now
          (to_z w128 (of_z w128 c.args.number))
          c.loop-place.place c.args.thresholds.now c.args.limit c.loop-place.held c.in_ok-held.held c.loop-place.invariant.extends c.requires.inside
          (subst (λ (p : Part). IsRef c.args.store.now.nodes p.under) at (c.requires.side.term.refs c.loop-place.place low)) at
          c.loop-place.invariant.risen c.in_ok-held.ensures.risen;
    }

pub returns-clause-risen : goal.returns-clause-risen
returns-clause-risen c =
    let all : c.loop-place.place ≡ length c.args.side.now.end.parts = omega (arith, c.loop-place-test.false, c.len-place-end.ensures) in
    subst (λ (z : ℤ). IsRisen c.args.thresholds.now (EndsWithin c.args.store.now.nodes c.args.inside c.args.side.now.end.parts z) c.args.limit
    c.loop-place.held) (to_z-of_z w128 c.args.number c.ranges.number)
    (parts_ends c.args.store.now.nodes c.args.inside c.args.side.now.end.parts (to_z w128 (of_z w128 c.args.number)) c.loop-place.place
    c.args.thresholds.now c.args.limit c.loop-place.held c.requires.side.term all c.loop-place.invariant.risen)
