use Rattle.std.proofs.Common.{sym, subst}
use Rattle.rv_diagram.specs.Nodes.{Diagrams}
use Rattle.rv_proofs.specs.Systems.{System}
use Rattle.rv_cover.specs.Seeking.{IsSought}
use Rattle.rv_cover.proofs.seeking.sought.Goals as goal

pub sought_by-requires : goal.sought_by-requires
sought_by-requires c =
    subst (λ (d : Diagrams). (s : System) × IsSought s d c.args.parts.now c.args.questions.now c.args.by c.args.first.now c.args.rest.now c.args.taken
    c.args.reached.now c.args.given.now) (sym c.sought_apart.ensures.same) c.requires
