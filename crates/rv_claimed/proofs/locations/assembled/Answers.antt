use Rattle.rv_claimed.proofs.Assembling.{proof_of}
use Rattle.rv_claimed.proofs.locations.assembled.Goals as goal

pub returns : goal.returns
returns c s are =
    let first = rw c.in-Some.is at c.in_ok-first.ensures s c.args.others are in
    let later = rw c.in-Some-2.is at c.in_ok-later.ensures s c.args.start are in
    proof_of s c.args.many c.args.claim.now c.args.start c.args.others are c.in-Some.first c.in-Some-2.later first later
    c.in_ok-certificate.certificate c.in_ok-certificate.ensures

pub returns-in_default : goal.returns-in_default
returns-in_default c s are = rw c.in_default.is at c.in_ok-first.ensures s c.args.others are

pub returns-in_default-2 : goal.returns-in_default-2
returns-in_default-2 c s are = rw c.in_default-2.is at c.in_ok-later.ensures s c.args.start are
