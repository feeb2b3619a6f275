use Rattle.rv_proofs.proofs.ConeLemmas.{base_in, moved_in, drawn_dot}
use Rattle.rv_proofs.proofs.laws.cone_is_kept.Goals as goal

pub returns-clause-base : goal.returns-clause-base
returns-clause-base c = base_in

pub returns-clause-moved : goal.returns-clause-moved
returns-clause-moved c = moved_in

pub returns-clause-drawn : goal.returns-clause-drawn
returns-clause-drawn c r d k t x y h = drawn_dot d k r.coefficients t x y h
