use Rattle.std.proofs.Common.{◌∙◌, length, refl, sym}
use Rattle.rv_proofs.specs.declared.certificate.Entry.{Entry}
use Rattle.rv_invfile.specs.Readers.{run}
use Rattle.rv_invariant.specs.{Certificates.plain_rule, Certificates.whole_go, Certificates.whole_dead, Continues.Then}
use Rattle.rv_invariant.proofs.{Going.plain-go, Going.plain-dead, Choices.continues-after}
use Rattle.rv_invariant.proofs.entries.read_plain.Goals as goal

pub returns-then-is_word : goal.returns-then-is_word
returns-then-is_word c =
    let s = c.args.shape in
    let known = c.args.known.now in
    let a = c.args.records.now in
    record {
      read = continues-after (λ (next : Then Entry). run (plain_rule s (length known) c.args.state next known) a)
          (λ (next : Then Entry). run (whole_go s (length known) c.args.state next known) a)
          c.read_go.result c.read_go.new.known c.read_go.new.records (λ next w. plain-go s (length known) c.args.state next known a
          (sym c.is_word.ensures ∙ c.if-is_word.true)) c.read_go.ensures.read;
      same = c.read_go.ensures.same;
    }

pub returns-else-is_word : goal.returns-else-is_word
returns-else-is_word c =
    let s = c.args.shape in
    let known = c.args.known.now in
    let a = c.args.records.now in
    record {
      read = continues-after (λ (next : Then Entry). run (plain_rule s (length known) c.args.state next known) a)
          (λ (next : Then Entry). run (whole_dead s c.args.state next known) a)
          c.read_dead.result known c.read_dead.new.records (λ next w. plain-dead s (length known) c.args.state next known a
          (sym c.is_word.ensures ∙ c.if-is_word.false)) c.read_dead.ensures;
      same = refl;
    }
