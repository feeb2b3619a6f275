use Rattle.std.proofs.Common.{◌++◌, ◌∷◌, ◌<◌, ◌^◌, ℕ, List, [], cond, length, sym, subst, arith, Some, None as Nothing}
use Rattle.std.proofs.lemmas.Result.{on_ok_weaker}
use Rattle.rv_rows.specs.{Arithmetic.test_row, Forms.FormWithin}
use Rattle.rv_diagram.specs.Nodes.{value_of}
use Rattle.rv_diagram.specs.Growing.{Extends}
use Rattle.rv_diagram.proofs.Growing.{extends_trans}
use Rattle.rv_flat.specs.Lists.{side_of}
use Rattle.rv_control.specs.Tightening.{tightened}
use Rattle.rv_terms.specs.{declared.parted.Part.Part, Parts.form_at, Parts.part_at, Parts.AreRefs, Parts.AreDisjoint, Parts.Covers}
use Rattle.rv_forms.specs.Terms.{columns_of}
use Rattle.rv_tested.specs.{Compared.comparison_in, Rows.first_of, Testing.IsTestTerm, Testing.row_in}
use Rattle.rv_tested.proofs.{Putting.laid_later, Putting.answered_later, Rowing.answered_as, Rowing.row_more}
use Rattle.rv_tested.proofs.testing.add_own.Goals as goal

pub returns-clause-extends : goal.returns-clause-extends
returns-clause-extends c = extends_trans c.args.store.now c.side_term.new.store c.add_comparison.new.store c.in_ok-term.ensures.extends
    c.add_comparison.ensures.extends

pub side_term-requires : goal.side_term-requires
side_term-requires c = record { terms = (columns_of c.args.flat.now, c.requires.sides.left.within, c.requires.sides.right.within) }

pub add_comparison-requires-clause-there : goal.add_comparison-requires-clause-there
add_comparison-requires-clause-there c = let h = c.requires.sides.there_ref in
    let e : Extends c.args.store.now c.side_term.new.store = c.in_ok-term.ensures.extends in
    omega (arith, h, e.longer)

pub add_comparison-requires-clause-truth : goal.add_comparison-requires-clause-truth
add_comparison-requires-clause-truth c = let h = c.requires.truth_ref in
    let e : Extends c.args.store.now c.side_term.new.store = c.in_ok-term.ensures.extends in
    omega (arith, h, e.longer)

pub add_comparison-requires-clause-refs : goal.add_comparison-requires-clause-refs
add_comparison-requires-clause-refs c = subst (λ (l : List Part). AreRefs c.side_term.new.store.nodes l) (sym c.as_slice.ensures) c.in_ok-term.ensures.ok.refs

pub add_comparison-requires-clause-disjoint : goal.add_comparison-requires-clause-disjoint
add_comparison-requires-clause-disjoint c =
    subst (λ (l : List Part). AreDisjoint c.side_term.new.store.nodes l) (sym c.as_slice.ensures) c.in_ok-term.ensures.ok.disjoint

pub add_comparison-requires-clause-covers : goal.add_comparison-requires-clause-covers
add_comparison-requires-clause-covers c =
    subst (λ (l : List Part). Covers c.side_term.new.store.nodes l) (sym c.as_slice.ensures) c.in_ok-term.ensures.ok.covers

pub add_comparison-requires-clause-within : goal.add_comparison-requires-clause-within
add_comparison-requires-clause-within c =
    subst (λ (l : List Part). (i : ℕ) → i < length l → FormWithin (2 ^ 100) (part_at l i).form) (sym c.as_slice.ensures) c.in_ok-term.ensures.ok.small

pub add_comparison-requires-clause-laid : goal.add_comparison-requires-clause-laid
add_comparison-requires-clause-laid c = laid_later c.args.store.now c.side_term.new.store c.args.answers.now c.in_ok-term.ensures.extends c.requires.laid

pub returns-clause-answered : goal.returns-clause-answered
returns-clause-answered c =
    let f = c.args.flat.now in
    let a = c.args.store.now in
    let b = c.side_term.new.store in
    let at = c.args.at.now.sites in
    let side = side_of c.args.side in
    let x = comparison_in f.memories c.args.compared.now in
    let parts : List Part = c.as_slice.result.now in
    let e : Extends a b = c.in_ok-term.ensures.extends in
    let formed : IsTestTerm a.nodes b.nodes side c.args.sides.now.left.parts c.args.sides.now.right.parts parts =
    subst (λ (l : List Part). IsTestTerm a.nodes b.nodes side c.args.sides.now.left.parts c.args.sides.now.right.parts l) (sym c.as_slice.ensures)
    c.in_ok-term.ensures.ok in
    on_ok_weaker c.add_comparison.result
    (λ h cs is. answered_as c.add_comparison.new.store.nodes
    (λ v. first_of (row_in f cs at side v) (cond (value_of b.nodes c.args.sides.now.there v)
    (Some (tightened (test_row (value_of b.nodes c.args.truth v) (form_at b.nodes parts v)))) Nothing))
    (row_in f (cs ++ x ∷ []) at side) c.add_comparison.new.answers
    (λ v. row_more f c.requires.well a b cs x c.args.sides.now at side c.args.truth parts e c.requires.sides c.requires.truth_ref c.requires.truth
    c.requires.place c.requires.asked formed v)
    (h (row_in f cs at side) (answered_later a b (row_in f cs at side) c.args.answers.now e is)))
    c.add_comparison.ensures.answered
