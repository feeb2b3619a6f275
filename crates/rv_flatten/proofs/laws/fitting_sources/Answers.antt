use Rattle.rv_tree.specs.Tree.{program_tree}
use Rattle.rv_flatten.proofs.SourceTruths.{fits_again}
use Rattle.rv_flatten.proofs.laws.fitting_sources.Goals as goal

pub returns : goal.returns
returns c s = fits_again c.well_formed_programs.ensures c.sited_programs.ensures (program_tree s.program) s.typed s.order s.fits
