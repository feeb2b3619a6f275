use Rattle.std.specs.Prelude.{◌≡◌, Result, Ok, Err}
use Rattle.rv_tree.specs.Tree.{program_tree}
use Rattle.rv_types.specs.Instances.{name_at}
use Rattle.rv_replay.specs.declared.replayed.Replayed.TheVariants.{Falsified, AssertionFails, NeverFalse}
use Rattle.rv_replay.specs.{declared.replayed.ReplayFault.TheVariants.Outgrown, declared.replayed.ReplayFault.TheVariants.Memory}
use Rattle.rv_replay.specs.{declared.replayed.Replayed.Replayed, declared.replayed.ReplayFault.ReplayFault, Replays.IsReplay, Replays.IsUnlessMemory}
use Rattle.rv_replay.proofs.{FlatTraces.flat_trace, Sources.Laws, Sources.observed, Sources.says, Sources.tells}
use Rattle.rv_replay.proofs.replaying.replay_flat.Goals as goal

pub play-requires-clause-program : goal.play-requires-clause-program
play-requires-clause-program c =
    let s = c.args.source.now in
    let p = program_tree s.program in (
      p,
      name_at p s.typed.main,
      observed p s.typed s.order (c.fitting_sources.ensures s) (λ m text settled. c.well_formed_programs.ensures p m s.typed text settled)
          c.args.flat.now c.requires.flat,
    )

pub play-requires-clause-trace : goal.play-requires-clause-trace
play-requires-clause-trace c =
    let s = c.args.source.now in
    let p = program_tree s.program in
    let of = observed p s.typed s.order (c.fitting_sources.ensures s) (λ m text settled. c.well_formed_programs.ensures p m s.typed text settled)
        c.args.flat.now
    c.requires.flat in
    flat_trace p (name_at p s.typed.main) c.args.trace.now c.requires.trace c.flat_states.ensures.back c.flat_states.ensures.given c.args.flat.now of.well
    of.named of.flat

-- what the layers below promise
abbrev laws : goal.After-play → Laws
laws c = record {
  instants = record { instant = c.run_is_instants.ensures.instant; assertions = c.run_is_instants.ensures.assertions };
  states = record { some = c.states_of_run.ensures.some; start = c.states_of_run.ensures.start; next = c.states_of_run.ensures.next };
  some = c.some_run.ensures;
  steps = record {
    rows = c.steps_give_run.ensures.rows;
    states = c.steps_give_run.ensures.states;
    observer = c.steps_give_run.ensures.observer;
    broken = c.steps_give_run.ensures.broken;
    allowed = c.steps_give_run.ensures.allowed;
  };
  of_flat = c.flat_states.ensures.back;
  inputs = c.flat_states.ensures.given;
}

-- what an answer says of the trace
said : (c : goal.After-play) (a : Result Replayed ReplayFault) → (a ≡ Err Memory → ⊥) → c.play.result ≡ a
    → IsReplay (program_tree c.args.source.now.program) (name_at (program_tree c.args.source.now.program) c.args.source.now.typed.main)
    c.args.trace.now a
said c =
    let s = c.args.source.now in
    let p = program_tree s.program in
    says (laws c) p s.typed s.order (c.fitting_sources.ensures s) (λ m text settled. c.well_formed_programs.ensures p m s.typed text settled) c.args.flat.now
    c.requires.flat c.args.trace.now c.requires.trace c.play.result c.play.ensures

-- and the answer where that is so of the trace
told : (c : goal.After-play) (a : Result Replayed ReplayFault)
    → IsReplay (program_tree c.args.source.now.program) (name_at (program_tree c.args.source.now.program) c.args.source.now.typed.main)
    c.args.trace.now a
    → IsUnlessMemory a c.play.result
told c =
    let s = c.args.source.now in
    let p = program_tree s.program in
    tells (laws c) p s.typed s.order (c.fitting_sources.ensures s) (λ m text settled. c.well_formed_programs.ensures p m s.typed text settled) c.args.flat.now
    c.requires.flat c.args.trace.now c.requires.trace c.play.result c.play.ensures

pub returns-clause-falsified : goal.returns-clause-falsified
returns-clause-falsified c = λ k is. said c (Ok (Falsified k)) (λ e. cc) is

pub returns-clause-only_falsified : goal.returns-clause-only_falsified
returns-clause-only_falsified c = λ k is. told c (Ok (Falsified k)) is

pub returns-clause-fails : goal.returns-clause-fails
returns-clause-fails c = λ k at is. said c (Ok (AssertionFails k at)) (λ e. cc) is

pub returns-clause-only_fails : goal.returns-clause-only_fails
returns-clause-only_fails c = λ k at is. told c (Ok (AssertionFails k at)) is

pub returns-clause-never : goal.returns-clause-never
returns-clause-never c = λ is. said c (Ok NeverFalse) (λ e. cc) is

pub returns-clause-only_never : goal.returns-clause-only_never
returns-clause-only_never c = λ is. told c (Ok NeverFalse) is

pub returns-clause-outgrown : goal.returns-clause-outgrown
returns-clause-outgrown c = λ k at is. said c (Err (Outgrown k at)) (λ e. cc) is

pub returns-clause-only_outgrown : goal.returns-clause-only_outgrown
returns-clause-only_outgrown c = λ k at is. told c (Err (Outgrown k at)) is
