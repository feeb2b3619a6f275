use Rattle.std.proofs.Common.{◌≡◌, ◌++◌, ◌∷◌, [], ◌∙◌, ap, sym, arith}
use Rattle.std.specs.String.{string_bytes}
use Rattle.rv_run.proofs.Joined.{added}
use Rattle.rv_run.proofs.report.add_sites.Goals as goal

pub returns : goal.returns
returns c =
    let front = c.front-site-items.result.now in
    let last = c.in-Some.last in
    let split : c.args.sites.now ≡ front ++ last ∷ [] = c.in-Some.ensures.some ∙ ap (λ ss. ss ++ last ∷ []) (sym c.front-site-items.ensures) in
    added (string_bytes c.args.text.now) front c.args.sites.now (string_bytes c.loop-site.text) (string_bytes c.write-2.new.self) last c.loop-site.site-index
    split
    (omega (arith, c.loop-site-test.false)) c.loop-site.invariant c.in_ok-write-2.ensures.bytes
