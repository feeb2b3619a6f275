-- From the tests to whether a source is judged and safe.
use Rattle.std.proofs.Common.{◌≡◌, ℕ, ◌<◌, ◌^◌, length, sym, subst}
use Rattle.rv_base.specs.declared.value.Value.{Value}
use Rattle.rv_tree.specs.{Tree.ProgramTree, Places.Identifier, Places.Sites, SourceTrees.IsSourceTree}
use Rattle.rv_types.specs.Instances.{name_at, IsNode}
use Rattle.rv_types.specs.{declared.typed.Typed.Typed, Settled.IsSettled, Needs.IsSequence, WellFormed.AreWell, Lists.sites_of}
use Rattle.rv_instances.specs.{declared.answer.Order.Order, Fitting.Fits}
use Rattle.rv_meaning.specs.Runs.{History, AreStarts, AreInputs, IsRun}
use Rattle.rv_flat.specs.{declared.flat.Flat.Flat, FlatOf.IsFlatOf}
use Rattle.rv_run.specs.Programs.{WithRuns, HasManyVariables}
use Rattle.rv_run.proofs.MainNode.{main_named, main_is_node}

-- Where the programs that keep every rule are well formed, and at each state and inputs there is one instant.
module _ (p : ProgramTree) (t : Typed) (o : Order) (fits : Fits p t o)
    (well_formed : (main : Identifier) → IsSourceTree p → IsSettled p main t → AreWell p) where
  abbrev pub main : Identifier
  main = name_at p t.main

  settled : IsSettled p main t
  settled = subst (λ (x : Identifier). IsSettled p x t) (sym (main_named p fits.settled.0 t fits.settled.1)) fits.settled.1

  pub well : AreWell p
  well = well_formed main fits.tree settled

  pub is_node : IsNode p main
  is_node = main_is_node p main t settled

  -- what holds does so with runs, where that there is exactly one is a law
  pub with_runs : (P : ProgramTree → Identifier → Type 0)
      → ((starts : Sites → Value) (inputs : ℕ → ℕ → Value) (n : ℕ) (h g : History) → AreWell p → IsNode p main → IsSequence p main (sites_of o.sequence)
      → IsRun p main starts inputs n h → IsRun p main starts inputs n g → h ≡ g)
      → ((starts : Sites → Value) (inputs : ℕ → ℕ → Value) (n : ℕ) → AreWell p → IsNode p main → IsSequence p main (sites_of o.sequence)
      → AreStarts p main starts → AreInputs p main n inputs → (h : History) × IsRun p main starts inputs n h)
      → P p main → WithRuns P p main
  with_runs P one some holds = record {
    sequence = sites_of o.sequence;
    ordered = fits.sequence;
    runs = λ n starts inputs started given. let run = some starts inputs n well is_node fits.sequence started given in
        (run.0, run.1, λ other another. one starts inputs n other run.0 well is_node fits.sequence another run.1);
    holds = holds;
  }

  -- many variables
  pub wide : (nodes : ℕ) (f : Flat) → IsFlatOf p main f → nodes < 2 ^ (2 ^ length f.variables) → HasManyVariables nodes p main
  wide nodes f flat many = subst (λ n. nodes < 2 ^ (2 ^ n)) flat.counted many
