use Rattle.std.proofs.{Common.sym, Common.◌∙◌, Common.ap, Common.subst, lemmas.Int.to_z-of_z}
use Rattle.std.specs.Int.{w128}
use Rattle.rv_tree.specs.Tree.{program_tree}
use Rattle.rv_types.specs.Instances.{name_at}
use Rattle.rv_replay.specs.{Replays.IsFalsifiedAt, Traces.IsTrace}
use Rattle.rv_probe.specs.Probes.{probe_of}
use Rattle.rv_probe.proofs.Found.{cut_probe, whole_trace}
use Rattle.rv_probe.proofs.probing.try_probe.Goals as goal

pub falsified_at-requires-clause-trace : goal.falsified_at-requires-clause-trace
falsified_at-requires-clause-trace c =
    let s = c.args.source.now in
    let f = c.args.flat.now in
    let p = program_tree s.program in
    let made = c.in_ok-trace.ensures ∙ ap (probe_of f c.args.truth) (to_z-of_z w128 c.args.number c.ranges.number) in
    subst (IsTrace p (name_at p s.typed.main)) (sym made)
    (whole_trace p s.typed s.order (c.fitting_sources.ensures s) (λ m text settled. c.well_formed_programs.ensures p m s.typed text settled) f c.requires.flat
    c.flat_traces.ensures.back c.args.truth c.args.number
    c.requires.values c.requires.number)

pub returns-in-Some-clause-found : goal.returns-in-Some-clause-found
returns-in-Some-clause-found c = λ t e.
    let s = c.args.source.now in
    let f = c.args.flat.now in
    let p = program_tree s.program in
    let made = c.in_ok-trace.ensures ∙ ap (probe_of f c.args.truth) (to_z-of_z w128 c.args.number c.ranges.number) in
    let whole = whole_trace p s.typed s.order (c.fitting_sources.ensures s) (λ m text settled. c.well_formed_programs.ensures p m s.typed text settled) f
        c.requires.flat
    c.flat_traces.ensures.back c.args.truth
    c.args.number c.requires.values c.requires.number in
    cut_probe p (name_at p s.typed.main) f c.args.truth c.args.number whole c.in_ok-trace.trace made c.in-Some.last
    (c.in_ok-last.ensures.found c.in-Some.last (cc)) c.truncate.new.self c.truncate.ensures t (cc)

pub returns-in-None-clause-never : goal.returns-in-None-clause-never
returns-in-None-clause-never c = λ e k is.
    let s = c.args.source.now in
    let p = program_tree s.program in
    let made = c.in_ok-trace.ensures ∙ ap (probe_of c.args.flat.now c.args.truth) (to_z-of_z w128 c.args.number c.ranges.number) in
    c.in_ok-last.ensures.never k (cc) (subst (λ t. IsFalsifiedAt p (name_at p s.typed.main) t k) (sym made) is)
