use Rattle.std.proofs.Common.{◌≡◌, ◌+◌, ℕ, length, arith, sym, ap, subst}
use Rattle.std.proofs.lemmas.Option.{IfSome_then}
use Rattle.rv_diagram.specs.Nodes.{Diagrams}
use Rattle.rv_proofs.specs.{Systems.System, Ranges.AreKept}
use Rattle.rv_cover.specs.{Entries.AreShortEntries, Seeking.IsSearched}
use Rattle.rv_cover.proofs.seeking.located.Goals as goal

pub entries_of-requires-clause-searched : goal.entries_of-requires-clause-searched
entries_of-requires-clause-searched c =
    let (s, is, kept) = c.requires.searched in (
      s,
      record { system = is.system; questions = is.questions; way = is.way; few = let low = is.few in omega (arith, low, ap length c.new-nothing.ensures) },
      kept,
    )

pub entries_of-requires-2-clause-searched : goal.entries_of-requires-2-clause-searched
entries_of-requires-2-clause-searched c =
    subst (λ (d : Diagrams). (s : System) × IsSearched s d c.args.questions.now c.args.frame.now c.args.rows × AreKept s c.args.rows)
    (sym c.entries_of.ensures.same) c.requires.searched

pub returns-clause-found : goal.returns-clause-found
returns-clause-found c =
    let one = rw c.in-Some.is at c.in_ok-initial.ensures.entries in
    let two = rw c.in-Some-2.is at c.in_ok-others.ensures.entries in
    let none : length c.new-nothing.result + length c.args.questions.now.rows ≡ length c.args.questions.now.rows = omega
    (arith, ap length c.new-nothing.ensures) in
    IfSome_then c.in_ok-found.found c.in_ok-found.ensures (λ x made. record {
      initial = c.in-Some.initial;
      others = c.in-Some-2.others;
      assembled = made;
      initial_short = subst (λ (n : ℕ). AreShortEntries c.args.frame.now n c.in-Some.initial) none one;
      others_short = two;
    })

pub assembled-requires : goal.assembled-requires
assembled-requires c = let (s, is, kept) = c.requires.searched in let few = is.few in omega (arith, few)
