use Rattle.std.proofs.Common.{◌∙◌, ℕ, subst}
use Rattle.rv_proofs.specs.Scopes.{implications}
use Rattle.rv_accept.specs.Needs.{AreFlags, IsNamed, IsNeeded}
use Rattle.rv_accept.proofs.Ranged.{entry_asked}
use Rattle.rv_accept.proofs.facts.needed_of.Goals as goal

pub named_tests-requires : goal.named_tests-requires
named_tests-requires c = let (s, is, range, rows, forms) = c.requires.given in
    let (k, j, at) = c.requires.entry in
    (s, c.args.certificate.now, c.len.ensures ∙ rows, entry_asked s c.args.certificate.now k j c.args.location.now c.args.entry.now range at)

pub needed_memories-requires : goal.needed_memories-requires
needed_memories-requires c = let (s, is, range, rows, forms) = c.requires.given in
    let (k, j, at) = c.requires.entry in
    (s, c.len-2.ensures ∙ forms, entry_asked s c.args.certificate.now k j c.args.location.now c.args.entry.now range at)

pub returns : goal.returns
returns c = λ s rows forms.
    let (x, is, range, r, f) = c.requires.given in
    let (k, j, at) = c.requires.entry in
    record {
      tests = subst (λ (n : ℕ). AreFlags n (IsNamed
          (implications c.args.certificate.now c.args.location.now c.args.entry.now.kind)) c.in_ok-named.named.items) (c.len.ensures ∙ rows)
          (c.in_ok-named.ensures x c.args.certificate.now (entry_asked x c.args.certificate.now k j c.args.location.now c.args.entry.now range at));
      memories = subst (λ (n : ℕ). AreFlags n (IsNeeded
          (implications c.args.certificate.now c.args.location.now c.args.entry.now.kind)) c.in_ok-moved.moved.items) (c.len-2.ensures ∙ forms)
          c.in_ok-moved.ensures;
    }
