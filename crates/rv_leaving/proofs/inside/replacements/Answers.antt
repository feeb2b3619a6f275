use Rattle.std.proofs.Common.{ℕ, ◌+◌, ◌++◌, ◌∷◌, [], List, sym, subst}
use Rattle.rv_leaving.proofs.Becoming.{AreBecoming, becoming_more}
use Rattle.rv_leaving.proofs.inside.replacements.Goals as goal

pub loop-x-preserved : goal.loop-x-preserved
loop-x-preserved c =
    let more : AreBecoming c.args.next.now (c.loop-x.by.items ++ c.becomes.result ∷ []) (c.loop-x.x + 1) = becoming_more c.args.next.now
    c.loop-x.by.items c.loop-x.x c.becomes.result c.loop-x.invariant.size c.loop-x.invariant.bits c.loop-x.invariant.found
    c.becomes.ensures.bit c.becomes.ensures.found in
    let is : AreBecoming c.args.next.now _ (c.loop-x.x + 1) = subst (λ (l : List ℕ). AreBecoming c.args.next.now l (c.loop-x.x + 1))
    (sym c.in_ok-push.ensures.items) more in
    record { size = is.size; bits = is.bits; found = is.found }
