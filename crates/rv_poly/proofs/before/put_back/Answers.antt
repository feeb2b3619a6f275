use Rattle.rv_poly.proofs.BeforeLemmas.{can-put}
use Rattle.rv_poly.proofs.before.put_back.Goals as goal

pub substitute-requires : goal.substitute-requires
substitute-requires c = can-put c.args.updates.now c.args.row.now c.requires.updates c.requires.width c.requires.fits
