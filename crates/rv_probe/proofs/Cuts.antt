-- A trace cut after the instant at which it falsifies: it is a trace still, ends there, and falsifies there.
use Rattle.std.proofs.Common.{◌≡◌, ℕ, ◌+◌, ◌<◌, [], length, sym, ◌∙◌, subst, arith}
use Rattle.std.proofs.lemmas.List.{get_or-take, length-take, length-take-le}
use Rattle.rv_base.specs.declared.value.Trace.{Trace}
use Rattle.rv_tree.specs.{Tree.ProgramTree, Places.Identifier}
use Rattle.rv_types.specs.{Instances.node_of, Kinds.decl_kinds}
use Rattle.rv_replay.specs.{Replays.IsFalsifiedAt, Traces.AreTyped, Traces.IsTrace, Traces.given}
use Rattle.rv_probe.specs.Probes.{cut}

module _ (program : ProgramTree) (main : Identifier) (t : Trace) (k : ℕ) where
  same_given : (j : ℕ) → j < k + 1 → given (cut k t) j ≡ given t j
  same_given j lt = get_or-take (k + 1) t.instants j [] lt

  pub cut_trace : IsTrace program main t → IsTrace program main (cut k t)
  cut_trace trace =
      let long = length-take (k + 1) t.instants in
      record {
        memories = trace.memories;
        listed = trace.listed;
        starts = trace.starts;
        instants = λ j lt. subst (AreTyped program (decl_kinds program (node_of program main).inputs)) (sym (same_given j (omega (arith, lt, long))))
            (trace.instants j (omega (arith, lt, long)));
        count = let count = trace.count in omega (arith, count, long);
      }

  module _ (is : IsFalsifiedAt program main t k) where
    pub cut_count : length (cut k t).instants ≡ k + 1
    cut_count = length-take-le (k + 1) t.instants is.fixed.count

    pub cut_falsified : IsFalsifiedAt program main (cut k t) k
    cut_falsified = record {
      starts = is.starts;
      inputs = is.inputs;
      fixed = record {
        memories = is.fixed.memories;
        listed = is.fixed.listed;
        started = is.fixed.started;
        count = let long = cut_count in omega (arith, long);
        fed = λ j lt. is.fixed.fed j lt ∙ sym (same_given j lt);
      };
      falsifies = is.falsifies;
      within = is.within;
    }
