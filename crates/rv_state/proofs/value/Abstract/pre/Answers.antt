use Rattle.std.proofs.Common.{refl}
use Rattle.rv_state.proofs.CaseLemmas.{predecessors-there, predecessors-only}
use Rattle.rv_state.proofs.value.Abstract.pre.Goals as goal

pub returns-clause-predecessors : goal.returns-clause-predecessors
returns-clause-predecessors c =
    λ s of im. predecessors-there s c.args.self.now (record { control = c.args.preimage; poly = c.in_ok-poly.poly }) c.args.case.now c.args.preimage
    c.in_ok-poly.poly.rows of im refl refl c.in_ok-poly.ensures.contains

pub returns-clause-only : goal.returns-clause-only
returns-clause-only c =
    λ s is of im m. predecessors-only s c.args.self.now (record { control = c.args.preimage; poly = c.in_ok-poly.poly }) c.args.case.now c.args.preimage
    c.in_ok-poly.poly.rows is of im refl refl (c.in_ok-poly.ensures.exact m)
