use Rattle.std.proofs.Common.{◌≡◌, ℕ, Ok, Some, slice_get, ap, sym, ◌∙◌, subst}
use Rattle.rv_tree.specs.Tree.{program_tree}
use Rattle.rv_types.specs.Instances.{name_at}
use Rattle.rv_flat.specs.declared.flat.Flat.{Flat}
use Rattle.rv_control.specs.Control.{control_of}
use Rattle.rv_reading.specs.{Read.flat_of, declared.reading.Reading.Reading}
use Rattle.rv_proofs.specs.{Accepted.IsAccepted, Left.IsLeftPartition, Left.IsLeftReport, Ranges.IsControlSet, RowClaims.HasGoodRows}
use Rattle.rv_diagram.specs.declared.frozen.Frozen.{Frozen}
use Rattle.rv_probe.specs.Probes.{HasFalsifyingProbe}
use Rattle.rv_fixpoint.specs.Ends.{IsProved}
use Rattle.rv_run.specs.{Judged.IsControlSystem, Judged.IsKnown, Programs.HasGood}
use Rattle.rv_run.proofs.{Claimed.lacks_both}
use Rattle.rv_run.proofs.judge.analysed.Goals as goal

pub analyse-requires-clause-seed : goal.analyse-requires-clause-seed
analyse-requires-clause-seed c = c.requires.sets

pub safe-requires-clause-known : goal.safe-requires-clause-known
safe-requires-clause-known c =
    let p = program_tree c.args.source.now.program in
    subst (IsKnown p (name_at p c.args.source.now.typed.main)) (sym (c.flat-system.ensures ∙ ap (λ (r : Reading). flat_of r) c.in_ok-end.ensures.same))
    c.requires.known

pub safe-requires-clause-accepted : goal.safe-requires-clause-accepted
safe-requires-clause-accepted c =
    subst (λ (f : Flat). IsAccepted (control_of f) c.in-Proved.certificate)
    (sym (c.flat-system.ensures ∙ ap (λ (r : Reading). flat_of r) c.in_ok-end.ensures.same))
    (c.in_ok-end.ensures.proved c.in-Proved.certificate (ap Ok c.in-Proved.is))

pub returns-in-Proved-clause-judged : goal.returns-in-Proved-clause-judged
returns-in-Proved-clause-judged c = λ nodes. c.safe.ensures.judged nodes c.args.locations

pub returns-in-Proved-clause-wide : goal.returns-in-Proved-clause-wide
returns-in-Proved-clause-wide c = λ nodes. absurd (c.safe.ensures.memory nodes)

pub returns-in-Proved-clause-no_loops : goal.returns-in-Proved-clause-no_loops
returns-in-Proved-clause-no_loops c = λ asked. c.safe.ensures.no_loops (c.in_ok-end.ensures.plain c.in-Proved.certificate (ap Ok c.in-Proved.is) asked)

pub searched-requires-clause-known : goal.searched-requires-clause-known
searched-requires-clause-known c =
    let p = program_tree c.args.source.now.program in
    subst (λ (r : Reading). IsKnown p (name_at p c.args.source.now.typed.main) (flat_of r)) (sym c.in_ok-end.ensures.same) c.requires.known

pub searched-requires-clause-integers : goal.searched-requires-clause-integers
searched-requires-clause-integers c =
    subst (λ (r : Reading). IsControlSystem (flat_of r) → ⊥) (sym c.in_ok-end.ensures.same) c.requires.integers

pub searched-requires-clause-lacks : goal.searched-requires-clause-lacks
searched-requires-clause-lacks c =
    let f = flat_of c.args.reading.now in
    let rows : HasGoodRows (control_of f) f.thresholds → ⊥ = λ has. subst IsProved c.in-Left.is (c.in_ok-end.ensures.claims has) in
    subst (λ (r : Reading). HasGood (control_of (flat_of r)) (flat_of r).thresholds → ⊥) (sym c.in_ok-end.ensures.same)
    (lacks_both (control_of f) f.thresholds c.requires.lacks rows)

pub searched-requires-clause-unprobed : goal.searched-requires-clause-unprobed
searched-requires-clause-unprobed c =
    let p = program_tree c.args.source.now.program in
    subst (λ (r : Reading). HasFalsifyingProbe p (name_at p c.args.source.now.typed.main) (flat_of r) → ⊥) (sym c.in_ok-end.ensures.same)
    c.requires.unprobed

pub searched-requires-clause-left : goal.searched-requires-clause-left
searched-requires-clause-left c =
    subst (λ (r : Reading). IsLeftPartition (control_of (flat_of r)) c.in-Left.left.partition c.in-Left.left.left) (sym c.in_ok-end.ensures.same)
    (c.in_ok-end.ensures.left c.in-Left.left (ap Ok c.in-Left.is)).partition

pub searched-requires-clause-sets : goal.searched-requires-clause-sets
searched-requires-clause-sets c =
    subst (λ (r : Reading). (t : ℕ) (set : Frozen) → slice_get c.args.layers.now.sets t ≡ Some set → IsControlSet (control_of (flat_of r)) set)
    (sym c.in_ok-end.ensures.same) c.requires.sets

pub returns-in-Left-clause-judged : goal.returns-in-Left-clause-judged
returns-in-Left-clause-judged c = λ nodes.
    c.searched.ensures.judged nodes c.args.locations
    (subst (λ (r : Reading). IsLeftReport (control_of (flat_of r)) c.args.locations c.in-Left.left) (sym c.in_ok-end.ensures.same)
    (c.in_ok-end.ensures.left c.in-Left.left (ap Ok c.in-Left.is)))
