use Rattle.rv_poly.proofs.EliminateLemmas.{eliminated-few, eliminated-step, eliminated-has, eliminated-width, eliminated-poly, eliminated-sizes}
use Rattle.rv_poly.proofs.ProjectLemmas.{step-points, step-free, step-projected, projected-step}
use Rattle.rv_poly.proofs.poly.Poly.eliminate.Goals as goal

pub returns-clause-poly : goal.returns-clause-poly
returns-clause-poly c = eliminated-poly c.args.self.now.rows c.args.k c.requires c.add_free_rows.new.step c.add_all_pairs.new.step
    (rw c.new.ensures at c.in_ok-add_free_rows.ensures) c.in_ok-add_all_pairs.ensures

pub returns-clause-few : goal.returns-clause-few
returns-clause-few c = eliminated-few c.args.self.now.rows c.args.k c.requires c.add_free_rows.new.step c.add_all_pairs.new.step
    (rw c.new.ensures at c.in_ok-add_free_rows.ensures) c.in_ok-add_all_pairs.ensures

pub returns-clause-width : goal.returns-clause-width
returns-clause-width c = eliminated-width c.args.self.now.rows c.args.k c.requires c.add_free_rows.new.step c.add_all_pairs.new.step
    (rw c.new.ensures at c.in_ok-add_free_rows.ensures) c.in_ok-add_all_pairs.ensures

pub returns-clause-free : goal.returns-clause-free
returns-clause-free c =
    step-free c.args.self.now.rows c.args.k c.add_all_pairs.new.step.rows
    (eliminated-step c.args.self.now.rows c.args.k c.requires c.add_free_rows.new.step c.add_all_pairs.new.step
    (rw c.new.ensures at c.in_ok-add_free_rows.ensures) c.in_ok-add_all_pairs.ensures)

pub returns-clause-points : goal.returns-clause-points
returns-clause-points c =
    step-points c.args.self.now.rows c.args.k c.add_all_pairs.new.step.rows
    (eliminated-step c.args.self.now.rows c.args.k c.requires c.add_free_rows.new.step c.add_all_pairs.new.step
    (rw c.new.ensures at c.in_ok-add_free_rows.ensures) c.in_ok-add_all_pairs.ensures)

pub returns-clause-exact : goal.returns-clause-exact
returns-clause-exact c none d xs inside =
    let step = eliminated-step c.args.self.now.rows c.args.k c.requires c.add_free_rows.new.step c.add_all_pairs.new.step
    (rw c.new.ensures at c.in_ok-add_free_rows.ensures) c.in_ok-add_all_pairs.ensures in
    let has = eliminated-has c.args.self.now.rows c.args.k c.requires c.add_free_rows.new.step c.add_all_pairs.new.step
    (rw c.new.ensures at c.in_ok-add_free_rows.ensures) c.in_ok-add_all_pairs.ensures none in (
      (λ h. step-projected c.args.self.now.rows c.args.k d xs c.add_all_pairs.new.step.rows has inside h),
      (λ p. projected-step c.args.self.now.rows c.args.k d xs c.add_all_pairs.new.step.rows step inside p),
    )

pub returns-clause-sizes : goal.returns-clause-sizes
returns-clause-sizes c = eliminated-sizes c.args.self.now.rows c.args.k c.requires c.add_free_rows.new.step c.add_all_pairs.new.step
    (rw c.new.ensures at c.in_ok-add_free_rows.ensures) c.in_ok-add_all_pairs.ensures
