use Rattle.std.proofs.Common.{◌≡◌, List, Bool, subst, arith}
use Rattle.rv_proofs.specs.Scopes.{implications}
use Rattle.rv_accept.specs.Needs.{IsNamed, IsMarked}
use Rattle.rv_accept.proofs.Marking.{flags_taken}
use Rattle.rv_accept.proofs.naming.named_tests.Goals as goal

pub returns : goal.returns
returns c = λ s x asked. let same : c.as_mut_slice.result.now ≡ c.in_ok-flags.flags.items = cc in
    flags_taken c.args.tests (IsNamed (implications x c.args.location.now c.args.entry.now.kind)) c.in_ok-flags.flags.items c.mark_tests.new.flags
    c.in_ok-flags.flags.len (omega (arith, c.in_ok-flags.flags.ok.0)) c.in_ok-flags.ensures.size c.in_ok-flags.ensures.none
    (subst (λ (l : List Bool). IsMarked (IsNamed (implications x c.args.location.now c.args.entry.now.kind)) l c.mark_tests.new.flags) same
    (c.mark_tests.ensures s x asked))
