use Rattle.std.proofs.Common.{Ok, ap}
use Rattle.rv_tree.specs.{Tree.program_tree, Places.Identifier, SourceTrees.IsSourceTree}
use Rattle.rv_types.specs.{Instances.name_at, Settled.IsSettled, WellFormed.AreWell}
use Rattle.rv_run.proofs.{Judging.wide, Judging.well, Judging.is_node, Thresholds.thresholds_small}
use Rattle.rv_run.proofs.judge.judge.Goals as goal

pub decided-requires-clause-known : goal.decided-requires-clause-known
decided-requires-clause-known c =
    let s = c.args.source.now in
    let fits = c.fitting_sources.ensures s in
    let p = program_tree s.program in
    let main = name_at p s.typed.main in
    let well_formed : (m : Identifier) → IsSourceTree p → IsSettled p m s.typed
    → AreWell p = λ m text settled. c.well_formed_programs.ensures p m s.typed text settled in
    let is_well = well p s.typed s.order fits well_formed in
    let named = is_node p s.typed s.order fits well_formed in
    let flat = c.in_ok-flat.ensures.flat in
    record {
      well = is_well;
      named = named;
      flat = flat;
      safe = c.runs_are_abstract.ensures.safe p main c.in_ok-flat.flat is_well named flat;
    }

pub probed-requires-clause-known : goal.probed-requires-clause-known
probed-requires-clause-known c =
    let s = c.args.source.now in
    let fits = c.fitting_sources.ensures s in
    let p = program_tree s.program in
    let main = name_at p s.typed.main in
    let well_formed : (m : Identifier) → IsSourceTree p → IsSettled p m s.typed
    → AreWell p = λ m text settled. c.well_formed_programs.ensures p m s.typed text settled in
    let is_well = well p s.typed s.order fits well_formed in
    let named = is_node p s.typed s.order fits well_formed in
    let flat = c.in_ok-flat.ensures.flat in
    record {
      well = is_well;
      named = named;
      flat = flat;
      safe = c.runs_are_abstract.ensures.safe p main c.in_ok-flat.flat is_well named flat;
    }

pub decided-requires-clause-thresholds : goal.decided-requires-clause-thresholds
decided-requires-clause-thresholds c = thresholds_small (program_tree c.args.source.now.program) c.requires.small c.in_ok-flat.flat.thresholds
    c.in_ok-flat.ensures.flat.thresholds

pub probed-requires-clause-thresholds : goal.probed-requires-clause-thresholds
probed-requires-clause-thresholds c = thresholds_small (program_tree c.args.source.now.program) c.requires.small c.in_ok-flat.flat.thresholds
    c.in_ok-flat.ensures.flat.thresholds

pub decided-requires-clause-unprobed : goal.decided-requires-clause-unprobed
decided-requires-clause-unprobed c = λ has. absurd (c.in_ok-trace.ensures.exactly.0 c.in-None.is has)

pub probed-requires-clause-falsifying : goal.probed-requires-clause-falsifying
probed-requires-clause-falsifying c =
    let is = c.in_ok-trace.ensures.falsifies c.in-Some.trace (ap Ok c.in-Some.is) in
    let at = is.1 in
    record { trace = is.0; last = at.0; count = at.1; falsified = at.2 }

pub probed-requires-clause-probe : goal.probed-requires-clause-probe
probed-requires-clause-probe c =
    (c.in_ok-flat.flat, c.in_ok-flat.ensures.flat, c.in_ok-trace.ensures.found c.in-Some.trace (ap Ok c.in-Some.is))

pub returns-clause-wide : goal.returns-clause-wide
returns-clause-wide c = λ nodes.
    let s = c.args.source.now in
    let p = program_tree s.program in
    wide p s.typed s.order (c.fitting_sources.ensures s) (λ m text settled. c.well_formed_programs.ensures p m s.typed text settled) c.args.nodes
    c.in_ok-flat.flat
    c.in_ok-flat.ensures.flat (c.decided.ensures.wide nodes)

pub returns-clause-unprobed : goal.returns-clause-unprobed
returns-clause-unprobed c = λ nodes. (c.in_ok-flat.flat, c.in_ok-flat.ensures.flat, c.in_ok-trace.ensures.exactly.0 c.in-None.is)
