use Rattle.rv_split.proofs.Walking.{met_constant, met_told}
use Rattle.rv_split.proofs.freeing.reaches.Goals as goal

pub returns-then-r-lt2 : goal.returns-then-r-lt2
returns-then-r-lt2 c nodes are = met_constant nodes c.args.r c.if-r-lt2.true

pub returns-else-r-lt2 : goal.returns-else-r-lt2
returns-else-r-lt2 c nodes are = met_told nodes c.args.told.now c.args.r are c.if-r-lt2.false c.requires
