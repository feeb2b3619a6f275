use Rattle.std.proofs.Common.{◌≡◌, ◌∙◌, List, [], Bool, length, map, ap, subst, refl, arith}
use Rattle.std.proofs.lemmas.List.{length-map}
use Rattle.std.specs.Prelude.{Ok, slice_index_or}
use Rattle.rv_base.specs.declared.value.Trace.{Trace}
use Rattle.rv_tree.specs.Tree.{program_tree}
use Rattle.rv_types.specs.Instances.{name_at}
use Rattle.rv_diagram.specs.Nodes.{valuation_of}
use Rattle.rv_flat.specs.declared.flat.Flat.{Flat}
use Rattle.rv_control.specs.{Control.control_of, Spelled.spelled_inputs, Spelled.spelled_starts}
use Rattle.rv_walk.specs.Paths.{IsFalsifyingPath}
use Rattle.rv_replay.proofs.Sources.{observed}
use Rattle.rv_reading.specs.declared.reading.Reading.{Reading}
use Rattle.rv_falsify.specs.Falsifying.{IsFalsifying, IsShortest}
use Rattle.rv_falsify.proofs.{Running.Laws, Falsified.shortest, Falsified.some_falsifies, Falsified.words_falsify}
use Rattle.rv_falsify.proofs.finding.find_back.Goals as goal

pub trace_of-requires-clause-some : goal.trace_of-requires-clause-some
trace_of-requires-clause-some c =
    let f : Flat = c.args.reading.now.flat.now in
    let path : IsFalsifyingPath (control_of f) c.in-Some.words = c.in_ok-path.ensures.falsifies c.in-Some.words (ap (λ x. Ok x) c.in-Some.is) in
    omega (arith, path.count)

pub returns-in_ok-trace-in-Some-clause-falsifies : goal.returns-in_ok-trace-in-Some-clause-falsifies
returns-in_ok-trace-in-Some-clause-falsifies c = λ t e.
    let s = c.args.source.now in
    let p = program_tree s.program in
    let f : Flat = c.args.reading.now.flat.now in
    let words : List (List Bool) = c.in-Some.words in
    let of = observed p s.typed s.order (c.fitting_sources.ensures s) (λ m text settled. c.well_formed_programs.ensures p m s.typed text settled) f
        c.requires.flat in
    let laws : Laws = record {
      instants = record { instant = c.run_is_instants.ensures.instant; assertions = c.run_is_instants.ensures.assertions };
      states = record { some = c.states_of_run.ensures.some; start = c.states_of_run.ensures.start; next = c.states_of_run.ensures.next };
      flows = c.typed_instants.ensures.flows;
      memories = c.typed_instants.ensures.memories;
      of_program = c.flat_states.ensures.states;
      inputs = c.flat_states.ensures.inputs;
      flat_runs = c.runs_are_one.ensures.flat;
    } in
    let path : IsFalsifyingPath (control_of f) words = c.in_ok-path.ensures.falsifies words (ap (λ x. Ok x) c.in-Some.is) in
    let flat_is : c.flat.result.now ≡ f = c.flat.ensures ∙ ap (λ (r : Reading). r.flat.now) c.falsifying_path.ensures.same in
    let instants = c.in_ok-trace-in-Some.ensures.instants ∙ ap (λ (g : Flat). map (λ word. spelled_inputs g (valuation_of word) []) words) flat_is in
    let starts = c.in_ok-trace-in-Some.ensures.starts ∙ ap (λ (g : Flat). spelled_starts g (valuation_of (slice_index_or words 0 [])) []) flat_is in
    let same : c.in_ok-trace-in-Some.trace ≡ t = cc in
    subst (λ (x : Trace). IsFalsifying p (name_at p s.typed.main) x) same
    (words_falsify laws p (name_at p s.typed.main) f of c.spelled_runs.ensures c.requires.columns words path c.in_ok-trace-in-Some.trace starts instants
    c.in_ok-trace-in-Some.ensures.count)

pub returns-in_ok-trace-in-Some-clause-shortest : goal.returns-in_ok-trace-in-Some-clause-shortest
returns-in_ok-trace-in-Some-clause-shortest c = λ t thresholds bad e.
    let s = c.args.source.now in
    let p = program_tree s.program in
    let f : Flat = c.args.reading.now.flat.now in
    let words : List (List Bool) = c.in-Some.words in
    let of = observed p s.typed s.order (c.fitting_sources.ensures s) (λ m text settled. c.well_formed_programs.ensures p m s.typed text settled) f
        c.requires.flat in
    let laws : Laws = record {
      instants = record { instant = c.run_is_instants.ensures.instant; assertions = c.run_is_instants.ensures.assertions };
      states = record { some = c.states_of_run.ensures.some; start = c.states_of_run.ensures.start; next = c.states_of_run.ensures.next };
      flows = c.typed_instants.ensures.flows;
      memories = c.typed_instants.ensures.memories;
      of_program = c.flat_states.ensures.states;
      inputs = c.flat_states.ensures.inputs;
      flat_runs = c.runs_are_one.ensures.flat;
    } in
    let flat_is : c.flat.result.now ≡ f = c.flat.ensures ∙ ap (λ (r : Reading). r.flat.now) c.falsifying_path.ensures.same in
    let instants = c.in_ok-trace-in-Some.ensures.instants ∙ ap (λ (g : Flat). map (λ word. spelled_inputs g (valuation_of word) []) words) flat_is in
    let same : c.in_ok-trace-in-Some.trace ≡ t = cc in
    subst (λ (x : Trace). IsShortest p (name_at p s.typed.main) x) same
    (shortest laws p (name_at p s.typed.main) f of c.runs_are_abstract.ensures.runs words c.in_ok-trace-in-Some.trace
    (c.in_ok-path.ensures.shortest thresholds words bad (ap (λ x. Ok x) c.in-Some.is))
    (ap length instants ∙ length-map words (λ word. spelled_inputs f (valuation_of word) [])))

pub returns-in_ok-trace-in-Some-clause-exactly : goal.returns-in_ok-trace-in-Some-clause-exactly
returns-in_ok-trace-in-Some-clause-exactly c = λ thresholds bad.
    let s = c.args.source.now in
    let p = program_tree s.program in
    let f : Flat = c.args.reading.now.flat.now in
    let words : List (List Bool) = c.in-Some.words in
    let of = observed p s.typed s.order (c.fitting_sources.ensures s) (λ m text settled. c.well_formed_programs.ensures p m s.typed text settled) f
        c.requires.flat in
    let laws : Laws = record {
      instants = record { instant = c.run_is_instants.ensures.instant; assertions = c.run_is_instants.ensures.assertions };
      states = record { some = c.states_of_run.ensures.some; start = c.states_of_run.ensures.start; next = c.states_of_run.ensures.next };
      flows = c.typed_instants.ensures.flows;
      memories = c.typed_instants.ensures.memories;
      of_program = c.flat_states.ensures.states;
      inputs = c.flat_states.ensures.inputs;
      flat_runs = c.runs_are_one.ensures.flat;
    } in
    let path : IsFalsifyingPath (control_of f) words = c.in_ok-path.ensures.falsifies words (ap (λ x. Ok x) c.in-Some.is) in (
      λ e. let wrong : ⊥ = cc in absurd wrong,
      λ never. absurd (some_falsifies laws p (name_at p s.typed.main) f of c.spelled_runs.ensures c.requires.columns words path never),
    )

pub returns-in-None-clause-found : goal.returns-in-None-clause-found
returns-in-None-clause-found c = λ thresholds bad e. c.in_ok-path.ensures.found thresholds bad c.in-None.is

pub returns-in-None-clause-exactly : goal.returns-in-None-clause-exactly
returns-in-None-clause-exactly c = λ thresholds bad. (
  λ e. absurd (c.in_ok-path.ensures.found thresholds bad c.in-None.is),
  λ never. refl,
)
