use Rattle.std.proofs.Common.{refl}
use Rattle.rv_state.proofs.{PointLemmas.updated-there, CaseLemmas.only-updated, CaseLemmas.successors-there, CaseLemmas.successors-only}
use Rattle.rv_state.proofs.value.Abstract.post.Goals as goal

pub returns-clause-contains : goal.returns-clause-contains
returns-clause-contains c = updated-there c.args.self.now.poly.rows c.in_ok-poly.poly.rows c.args.case.now c.requires.width c.in_ok-poly.ensures.contains

pub returns-clause-exact : goal.returns-clause-exact
returns-clause-exact c = only-updated c.args.self.now.poly.rows c.in_ok-poly.poly.rows c.args.case.now c.requires.width c.in_ok-poly.ensures.exact

pub returns-clause-successors : goal.returns-clause-successors
returns-clause-successors c =
    λ s of im. successors-there s c.args.self.now (record { control = c.args.image; poly = c.in_ok-poly.poly }) c.args.case.now c.args.image
    c.in_ok-poly.poly.rows of im refl refl
    (updated-there c.args.self.now.poly.rows c.in_ok-poly.poly.rows c.args.case.now c.requires.width c.in_ok-poly.ensures.contains)

pub returns-clause-only : goal.returns-clause-only
returns-clause-only c =
    λ s is of im m. successors-only s c.args.self.now (record { control = c.args.image; poly = c.in_ok-poly.poly }) c.args.case.now c.args.image
    c.in_ok-poly.poly.rows is of im refl refl
    (only-updated c.args.self.now.poly.rows c.in_ok-poly.poly.rows c.args.case.now c.requires.width c.in_ok-poly.ensures.exact m)
