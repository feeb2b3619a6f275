use Rattle.rv_types.proofs.{WellNodes.are_well, RisingConstants.rising}
use Rattle.rv_types.proofs.laws.well_formed_programs.Goals as goal

pub returns : goal.returns
returns c = λ p main t tree settled. are_well p (rising p (λ front back d is. tree.in_order front back d is)) (λ n w. tree.numbered n w) settled.names
    settled.types settled.clocks
