use Rattle.std.proofs.Common.{◌≡◌, ℕ, Ok, Some, slice_get, ℤ, ap, sym, subst, ◌≤◌, ◌^◌}
use Rattle.std.specs.{Int.RustNames.unsigned_abs, List.All}
use Rattle.rv_tree.specs.Tree.{program_tree}
use Rattle.rv_types.specs.Instances.{name_at}
use Rattle.rv_flat.specs.declared.flat.Flat.{Flat}
use Rattle.rv_control.specs.Control.{control_of}
use Rattle.rv_diagram.specs.declared.frozen.Frozen.{Frozen}
use Rattle.rv_proofs.specs.{Accepted.IsAccepted, Ranges.IsControlSet, Boxes.HasGoodBox}
use Rattle.rv_walk.specs.{Ends.IsGoodEnd, declared.end.BoxEnd.BoxEnd}
use Rattle.rv_open.specs.Columns.{AreLeastBadLayers}
use Rattle.rv_reading.specs.{declared.reading.Reading.Reading, Read.flat_of, Read.system_read}
use Rattle.rv_probe.specs.Probes.{HasFalsifyingProbe}
use Rattle.rv_run.specs.Judged.{IsControlSystem, IsKnown}
use Rattle.rv_run.proofs.judge.in_room.Goals as goal

pub box_pass-requires-clause-thresholds : goal.box_pass-requires-clause-thresholds
box_pass-requires-clause-thresholds c =
    subst (λ (f : Flat). All (λ (t : ℤ). unsigned_abs t ≤ 2 ^ 41) f.thresholds) (sym c.in_ok-reading.ensures.flat) c.requires.thresholds

pub safe-requires-clause-accepted : goal.safe-requires-clause-accepted
safe-requires-clause-accepted c =
    subst (λ (f : Flat). IsAccepted (control_of f) c.in-Good.certificate) c.in_ok-reading.ensures.flat
    (c.in_ok-certificate.ensures.good c.in-Good.certificate (ap Ok c.in-Good.is))

pub returns-in-Good-clause-wide : goal.returns-in-Good-clause-wide
returns-in-Good-clause-wide c = λ nodes. absurd (c.safe.ensures.memory nodes)

pub not_good-requires-clause-known : goal.not_good-requires-clause-known
not_good-requires-clause-known c =
    let p = program_tree c.args.source.now.program in
    let main = name_at p c.args.source.now.typed.main in
    subst (λ (r : Reading). IsKnown p main (flat_of r)) (sym c.in_ok-certificate.ensures.same)
    (subst (IsKnown p main) (sym c.in_ok-reading.ensures.flat) c.requires.known)

pub not_good-requires-clause-unprobed : goal.not_good-requires-clause-unprobed
not_good-requires-clause-unprobed c =
    let p = program_tree c.args.source.now.program in
    let main = name_at p c.args.source.now.typed.main in
    subst (λ (r : Reading). HasFalsifyingProbe p main (flat_of r) → IsControlSystem (flat_of r)) (sym c.in_ok-certificate.ensures.same)
    (subst (λ (f : Flat). HasFalsifyingProbe p main f → IsControlSystem f) (sym c.in_ok-reading.ensures.flat) c.requires.unprobed)

pub not_good-requires-clause-thresholds : goal.not_good-requires-clause-thresholds
not_good-requires-clause-thresholds c =
    subst (λ (r : Reading). All (λ (t : ℤ). unsigned_abs t ≤ 2 ^ 41) (flat_of r).thresholds) (sym c.in_ok-certificate.ensures.same)
    (subst (λ (f : Flat). All (λ (t : ℤ). unsigned_abs t ≤ 2 ^ 41) f.thresholds) (sym c.in_ok-reading.ensures.flat) c.requires.thresholds)

pub not_good-requires-clause-lacks : goal.not_good-requires-clause-lacks
not_good-requires-clause-lacks c =
    subst (λ (r : Reading). HasGoodBox (system_read r) (flat_of r).thresholds → ⊥) (sym c.in_ok-certificate.ensures.same)
    (λ has. let bad : IsGoodEnd (BoxEnd.Bad c.in-Bad.layers) = subst IsGoodEnd c.in-Bad.is (c.in_ok-certificate.ensures.exactly.1 has) in bad)

pub not_good-requires-clause-bad : goal.not_good-requires-clause-bad
not_good-requires-clause-bad c =
    subst (λ (r : Reading). AreLeastBadLayers (system_read r) (flat_of r).thresholds c.in-Bad.layers) (sym c.in_ok-certificate.ensures.same)
    (c.in_ok-certificate.ensures.least_bad c.in-Bad.layers (ap Ok c.in-Bad.is))

pub not_good-requires-clause-sets : goal.not_good-requires-clause-sets
not_good-requires-clause-sets c =
    subst (λ (r : Reading). (t : ℕ) (set : Frozen) → slice_get c.in-Bad.layers.sets t ≡ Some set → IsControlSet (system_read r) set)
    (sym c.in_ok-certificate.ensures.same)
    (λ t set at. ((c.in_ok-certificate.ensures.bad c.in-Bad.layers (ap Ok c.in-Bad.is)).2.each t set at).control)

pub returns-in-Good-clause-judged : goal.returns-in-Good-clause-judged
returns-in-Good-clause-judged c = c.safe.ensures.judged c.args.nodes c.args.locations

pub returns-in-Good-clause-no_loops : goal.returns-in-Good-clause-no_loops
returns-in-Good-clause-no_loops c = λ asked. c.safe.ensures.no_loops (c.in_ok-certificate.ensures.plain c.in-Good.certificate (ap Ok c.in-Good.is))

pub returns-clause-judged : goal.returns-clause-judged
returns-clause-judged c = c.not_good.ensures.judged c.args.nodes
