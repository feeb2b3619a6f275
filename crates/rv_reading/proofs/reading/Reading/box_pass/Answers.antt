use Rattle.std.proofs.Common.{◌≤◌, ◌^◌, ◌↔◌, List, ℤ, All, IfOk, sym, subst}
use Rattle.std.specs.Int.RustNames.{unsigned_abs}
use Rattle.rv_proofs.specs.{Boxes.BoxClaim, Boxes.HasGoodBox, Reached.IsLeastClosed, Reached.AreLayers}
use Rattle.rv_walk.specs.Ends.{IsGoodEnd}
use Rattle.rv_reading.specs.Read.{system_read}
use Rattle.rv_reading.proofs.Representing.{is_pass}
use Rattle.rv_reading.proofs.reading.Reading.box_pass.Goals as goal

pub box_pass-requires-clause-system : goal.box_pass-requires-clause-system
box_pass-requires-clause-system c =
    let r = c.args.self.now in
    (system_read r, is_pass r c.len-columns.result c.requires.read c.len-columns.ensures)

pub box_pass-requires-clause-thresholds : goal.box_pass-requires-clause-thresholds
box_pass-requires-clause-thresholds c = subst (λ (ts : List ℤ). All (λ t. unsigned_abs t ≤ 2 ^ 41) ts) (sym c.as_slice-thresholds.ensures) c.requires.thresholds

pub returns-clause-good : goal.returns-clause-good
returns-clause-good c x is =
    let r = c.args.self.now in
    c.box_pass.ensures.good (system_read r) x (is_pass r c.len-columns.result c.requires.read c.len-columns.ensures) is

pub returns-clause-plain : goal.returns-clause-plain
returns-clause-plain c x is =
    let r = c.args.self.now in
    c.box_pass.ensures.plain (system_read r) x (is_pass r c.len-columns.result c.requires.read c.len-columns.ensures) is

pub returns-clause-exactly : goal.returns-clause-exactly
returns-clause-exactly c =
    let r = c.args.self.now in
    let s = system_read r in
    subst (λ (ts : List ℤ). IfOk c.box_pass.result (λ e. IsGoodEnd e ↔ HasGoodBox s ts)) c.as_slice-thresholds.ensures
    (c.box_pass.ensures.exactly s (is_pass r c.len-columns.result c.requires.read c.len-columns.ensures))

pub returns-clause-bad : goal.returns-clause-bad
returns-clause-bad c l is =
    let r = c.args.self.now in
    let s = system_read r in
    subst (λ (ts : List ℤ). (b : BoxClaim) × IsLeastClosed s ts b × AreLayers s b l.sets) c.as_slice-thresholds.ensures
    (c.box_pass.ensures.bad s l (is_pass r c.len-columns.result c.requires.read c.len-columns.ensures) is)
