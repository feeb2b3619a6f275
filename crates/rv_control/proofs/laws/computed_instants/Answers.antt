use Rattle.rv_flat.specs.FlatInstants.{system_of}
use Rattle.rv_control.specs.{Named.named, Symbolic.symbolic}
use Rattle.rv_control.proofs.{Abstract.allowed_there, Abstract.allowed_told, Readings.is_symbolic}
use Rattle.rv_control.proofs.laws.computed_instants.Goals as goal

pub returns-clause-symbolic : goal.returns-clause-symbolic
returns-clause-symbolic c = is_symbolic

pub returns-clause-allowed : goal.returns-clause-allowed
returns-clause-allowed c = λ f v. (
  allowed_told (system_of f) (named f v) (symbolic (system_of f) (named f v)),
  allowed_there (system_of f) (named f v)
      (symbolic (system_of f) (named f v)),
)
