use Rattle.std.proofs.Common.{◌≤◌, ◌^◌, ℤ, pos, ◌-ℤ◌, List, All, FitsSigned, sym, subst, arith}
use Rattle.std.proofs.{lemmas.Int.ints, lemmas.Int.to_z-of_z, lemmas.Result.IfOk-weaker}
use Rattle.std.specs.{Int.RustNames.unsigned_abs, Int.w128}
use Rattle.rv_rows.proofs.IntLemmas.{fits_below}
use Rattle.rv_diagram.proofs.Growing.{extends_trans}
use Rattle.rv_ends.specs.{Sides.box_at, Sides.side_at, Intervals.IsPeak}
use Rattle.rv_taken.proofs.{Points.opposite_small, Meetings.unmet_exact}
use Rattle.rv_taken.proofs.opening.unmet.Goals as goal

pub greatest-requires-clause-sizes : goal.greatest-requires-clause-sizes
greatest-requires-clause-sizes c = subst (λ (l : List ℤ). All (λ x. unsigned_abs x ≤ 2 ^ 41) l) (sym c.in_ok-numbers.ensures)
    (opposite_small c.args.row.now.coefficients c.requires.fits.coefficients)

pub returns-clause-extends : goal.returns-clause-extends
returns-clause-extends c = extends_trans c.args.store.now c.greatest.new.store c.below.new.store c.in_ok-top.ensures.extends c.below.ensures.extends

pub returns-clause-exact : goal.returns-clause-exact
returns-clause-exact c =
    let bound : ℤ = c.args.row.now.bound in
    let here : FitsSigned w128 c.args.row.now.bound = fits_below c.args.row.now.bound
    (let z : unsigned_abs c.args.row.now.bound ≤ 2 ^ 60 = c.requires.fits.bound in omega arith) in
    let there : FitsSigned w128 (pos 0 -ℤ c.args.row.now.bound) = fits_below (pos 0 -ℤ c.args.row.now.bound)
    (let z : unsigned_abs c.args.row.now.bound ≤ 2 ^ 60 = c.requires.fits.bound in omega (arith, ints)) in
    IfOk-weaker c.below.result _ _
    (λ r exact v some. unmet_exact c.greatest.new.store.nodes c.below.new.store.nodes c.in_ok-top.top (box_at c.args.store.now.nodes c.args.ends.now v)
    c.args.row.now v r _ (simp to_z-of_z)
    (subst (λ (l : List ℤ). IsPeak (box_at c.args.store.now.nodes c.args.ends.now v) l (side_at c.greatest.new.store.nodes c.in_ok-top.top v))
    c.in_ok-numbers.ensures (c.in_ok-top.ensures.peak v some))
    (exact v))
    c.below.ensures.exact
