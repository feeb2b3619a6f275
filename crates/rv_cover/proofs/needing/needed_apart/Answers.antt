use Rattle.std.proofs.Common.{sym, subst}
use Rattle.rv_diagram.specs.Nodes.{Diagrams}
use Rattle.rv_proofs.specs.{Systems.System, Ranges.AreKept}
use Rattle.rv_cover.specs.Seeking.{IsSearched}
use Rattle.rv_cover.proofs.needing.needed_apart.Goals as goal

pub mark_rest-requires-clause-searched : goal.mark_rest-requires-clause-searched
mark_rest-requires-clause-searched c =
    subst (λ (d : Diagrams). (s : System) × IsSearched s d c.args.questions.now c.args.frame.now c.args.given.now × AreKept s c.args.given.now)
    (sym c.mark_first.ensures.same) c.requires.searched
