-- The program of an accepted source is well formed, and its main node has one output, a Boolean one.
use Rattle.std.proofs.Common.{◌≡◌, Bool, true, false, cond, List, [], ◌∷◌, refl, sym, subst, Option, Some, IsSome, unwrap_or, None as Nothing}
use Rattle.std.specs.Prelude.{Result, Err}
use Rattle.rv_base.specs.declared.value.Trace.{Trace}
use Rattle.rv_tree.specs.{Tree.NodeTree, Tree.ProgramTree, Places.Identifier, SourceTrees.IsSourceTree}
use Rattle.rv_types.specs.{declared.fault.NameFault.NameFault, declared.fault.NameFault.TheVariants.NotObserver, declared.typed.Typed.Typed, Instances.name_at}
use Rattle.rv_types.specs.{Instances.no_node, Instances.IsNode, Kinds.decl_kinds, Kinds.node_named, Scopes.is_observer, Settled.IsSettled, WellFormed.AreWell}
use Rattle.rv_instances.specs.{declared.answer.Order.Order, Fitting.Fits}
use Rattle.rv_flat.specs.{declared.flat.Flat.Flat, FlatOf.IsFlatOf}
use Rattle.rv_flatten.proofs.{GivenParts.main_name, MainNames.is_node}
use Rattle.rv_flat.proofs.Running.{RunIsInstants, StatesOfRun}
use Rattle.rv_replay.specs.{declared.replayed.Replayed.Replayed, declared.replayed.ReplayFault.ReplayFault, declared.replayed.ReplayFault.TheVariants.Memory}
use Rattle.rv_replay.specs.{Observers.IsObserved, Playing.AnswersUnlessMemory, Playing.IsPlayedOf, Replays.IsReplay, Replays.IsUnlessMemory, Traces.IsFlatTrace}
use Rattle.rv_replay.specs.{Traces.IsTrace}
use Rattle.rv_replay.proofs.{Answered.found, Answered.only, Answers.SomeRun, Answers.is_replay, Answers.only_replay, FlatSteps.StepsGiveRun}
use Rattle.rv_replay.proofs.{FlatTraces.InputsOfFlat, FlatTraces.StatesOfFlat, FlatTraces.flat_trace}
use Rattle.rv_meaning.proofs.Acceptable.{some_among}

observer_of : (p : ProgramTree) (o : Option NodeTree) → elim o as (λ _. List NameFault)
    [ Nothing ↦ [] | Some m ↦ cond (is_observer (decl_kinds p m.outputs)) [] (NotObserver m.name.at ∷ []) ] ≡ [] → IsSome o
    → is_observer (decl_kinds p (unwrap_or o no_node).outputs) ≡ true
observer_of p Nothing h some = absurd (let bad : ⊥ = cc in bad)
observer_of p (Some m) h some = by (is_observer (decl_kinds p m.outputs)) refl h
  where
    by : (b : Bool) → is_observer (decl_kinds p m.outputs) ≡ b → cond b [] (NotObserver m.name.at ∷ []) ≡ [] → is_observer (decl_kinds p m.outputs) ≡ true
    by true e h = e
    by false e h = absurd (let bad : ⊥ = cc in bad)

module _ (p : ProgramTree) (t : Typed) (o : Order) (fits : Fits p t o) (well_formed : (main : Identifier) → IsSourceTree p → IsSettled p main t → AreWell p)
  where
    abbrev main : Identifier
    main = name_at p t.main

    settled : IsSettled p main t
    settled = subst (λ (x : Identifier). IsSettled p x t) (sym (main_name p fits.settled.0 t fits.settled.1)) fits.settled.1

    named : IsNode p main
    named = is_node p main settled.has_main

    pub observed : (f : Flat) → IsFlatOf p main f → IsObserved p main f
    observed f flat = record {
      well = well_formed main fits.tree settled;
      named = named;
      flat = flat;
      observer = observer_of p (node_named p main) settled.observer (some_among p.nodes main named);
    }

-- What is taken from the layers below.
pub record Laws : Type 0 where
  pub instants : RunIsInstants
  pub states : StatesOfRun
  pub some : SomeRun
  pub steps : StepsGiveRun
  pub of_flat : StatesOfFlat
  pub inputs : InputsOfFlat

-- The answer of a replay over the flat system of a source says what the trace does to its program.
module _ (laws : Laws) (p : ProgramTree) (t : Typed) (o : Order) (fits : Fits p t o) (well_formed : (main : Identifier) → IsSourceTree p → IsSettled p main t
    → AreWell p)
    (f : Flat) (flat : IsFlatOf p (name_at p t.main) f) (trace : Trace) (is : IsTrace p (name_at p t.main) trace) (r : Result Replayed ReplayFault)
    (answers : AnswersUnlessMemory (IsPlayedOf f trace) r) where
  abbrev of : IsObserved p (name_at p t.main) f
  of = observed p t o fits well_formed f flat

  pub flat_is : IsFlatTrace f trace
  flat_is = flat_trace p (name_at p t.main) trace is laws.of_flat laws.inputs f of.well of.named flat

  pub says : (a : Result Replayed ReplayFault) → (a ≡ Err Memory → ⊥) → r ≡ a → IsReplay p (name_at p t.main) trace a
  says = found (IsPlayedOf f trace) (IsReplay p (name_at p t.main) trace) r answers
      (is_replay laws.instants laws.states laws.some laws.steps laws.of_flat laws.inputs p (name_at p t.main) f of trace is)

  pub tells : (b : Result Replayed ReplayFault) → IsReplay p (name_at p t.main) trace b → IsUnlessMemory b r
  tells = only (IsPlayedOf f trace) (IsReplay p (name_at p t.main) trace) r answers
      (only_replay laws.instants laws.states laws.some laws.steps laws.of_flat laws.inputs p (name_at p t.main) f of trace is)
