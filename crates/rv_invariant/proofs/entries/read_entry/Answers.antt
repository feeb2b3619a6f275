use Rattle.std.proofs.Common.{◌∙◌, length, refl, sym, ap}
use Rattle.rv_proofs.specs.declared.certificate.Entry.{Entry}
use Rattle.rv_invfile.specs.{Readers.run, Parts.bind}
use Rattle.rv_invariant.specs.{Certificates.entry_rule, Certificates.plain_rule, Certificates.whole_turn, Continues.Then, Outlines.takes_turn}
use Rattle.rv_invariant.proofs.{Going.entry-taken, Going.entry-plain, Choices.continues-after, Choices.continues-read}
use Rattle.rv_invariant.proofs.entries.read_entry.Goals as goal

pub returns-then-takes : goal.returns-then-takes
returns-then-takes c =
    let s = c.args.shape in
    let o = c.args.outline in
    let k = c.args.kinds in
    let known = c.args.known.now in
    let a = c.args.records.now in
    let taken = ap (takes_turn k) (sym c.has_turn-here.ensures) ∙ sym c.takes.ensures ∙ c.if-takes.true in
    record {
      read = continues-after (λ (next : Then Entry). run (entry_rule s (length known) o k next known) a)
          (λ (next : Then Entry). run (bind (whole_turn s o) (λ e. next e known)) a)
          c.read_turn.result known c.read_turn.new.records (λ next w. entry-taken s (length known) o next known a k taken)
          (continues-read (whole_turn s o) a c.read_turn.result known c.read_turn.new.records c.read_turn.ensures);
      same = refl;
    }

pub returns-else-takes : goal.returns-else-takes
returns-else-takes c =
    let s = c.args.shape in
    let o = c.args.outline in
    let k = c.args.kinds in
    let known = c.args.known.now in
    let a = c.args.records.now in
    let plain = ap (takes_turn k) (sym c.has_turn-here.ensures) ∙ sym c.takes.ensures ∙ c.if-takes.false in
    record {
      read = continues-after (λ (next : Then Entry). run (entry_rule s (length known) o k next known) a)
          (λ (next : Then Entry). run (plain_rule s (length known) o.state next known) a)
          c.read_plain.result c.read_plain.new.known c.read_plain.new.records (λ next w. entry-plain s (length known) o next known a k plain)
          c.read_plain.ensures.read;
      same = c.read_plain.ensures.same;
    }
