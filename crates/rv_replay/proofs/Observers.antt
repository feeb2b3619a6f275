-- The observer is there at each instant, and has a truth value.
use Rattle.std.proofs.Common.{◌≡◌, ℕ, ◌+◌, ◌<◌, Bool, true, false, List, [], ◌∷◌, length, refl, sym, ◌∙◌, ap, subst, arith, Option, Some, IsSome, slice_get}
use Rattle.std.proofs.Common.{None as Nothing}
use Rattle.std.proofs.lemmas.List.{get_or-map, length-map}
use Rattle.rv_base.specs.declared.value.Value.{Value}
use Rattle.rv_base.specs.declared.value.Value.TheVariants.{Flag, Label, Whole}
use Rattle.rv_tree.specs.{Tree.ProgramTree, Places.Identifier, Places.Sites, Places.site_of}
use Rattle.rv_types.specs.Instances.{Instance, absolute, clock_of, main_instance, node_of, place, is_main, IsNode}
use Rattle.rv_types.specs.{declared.typed.Kind.Kind, declared.typed.Clock.Clock, declared.typed.Clock.TheVariants.Base, Clocks.clock_at, Kinds.decl_kinds}
use Rattle.rv_types.specs.{Kinds.flow_kinds, Kinds.kind_in_program, Needs.IsSequence, Scopes.is_observer, Values.HasKind, WellFormed.AreWell}
use Rattle.rv_types.specs.declared.typed.Kind.TheVariants as kind
use Rattle.rv_meaning.specs.{Runs.Instant, Runs.cell, Runs.observer_place, Runs.AreStarts, Instants.State as Brought, Instants.is_on_in, Instants.AreGiven}
use Rattle.rv_meaning.specs.{Instants.IsInstant, Following.IsTypedInstant}
use Rattle.rv_meaning.proofs.FlowSites.{FlowAt, flow_at, output_base, output_kind}
use Rattle.rv_flat.specs.FlatInstants.{Row, nth, places, IsFlatInstant}
use Rattle.rv_flat.specs.FlatOf.{flat_inputs, flat_state, instant_of, IsFlatOf}
use Rattle.rv_flat.specs.{declared.flat.Flat.Flat, declared.state.State.State, Steps.AreValues, Steps.IsState, Steps.input_kinds}
use Rattle.rv_flat.proofs.Running.{within_places}
use Rattle.rv_replay.specs.Observers.{HasTruth, IsObserved}
use Rattle.rv_flatten.proofs.Assembled.{first_is_flag}

-- What is taken from the layers below: instants have values of their types, and states of flat systems are states of programs.

abbrev pub TypedFlows : Type 0
TypedFlows = (program : ProgramTree) (main : Identifier) (sequence : List Sites) (state : Brought) (inputs : ℕ → Value) (row : Instant)
    → AreWell program → IsNode program main → IsSequence program main sequence → AreStarts program main state.kept → AreGiven program main inputs
    → IsInstant program main state inputs row → IsTypedInstant program main row

abbrev pub StatesOfProgram : Type 0
StatesOfProgram = (program : ProgramTree) (main : Identifier) (f : Flat) (now : State) → AreWell program → IsNode program main → IsFlatOf program main f
    → IsState f now
    → (state : Brought) × (flat_state f state ≡ now) × AreStarts program main state.kept

abbrev pub InputsOfProgram : Type 0
InputsOfProgram = (program : ProgramTree) (main : Identifier) (f : Flat) (given : List Value)
    → AreWell program → IsNode program main → IsFlatOf program main f → AreValues f (input_kinds f) given
    → (inputs : ℕ → Value) × (flat_inputs f inputs ≡ given) × AreGiven program main inputs

some_of : (ks : List Kind) → is_observer ks ≡ true → 0 < length ks
some_of [] e = let bad : false ≡ true = e in absurd (grind arith)
some_of (k ∷ ks) e = omega arith

pub truth : (program : ProgramTree) (o : Option Value) → IsSome o → ((v : Value) → o ≡ Some v → HasKind program kind.Bool v) → (b : Bool) × (o ≡ Some (Flag b))
truth program Nothing some typed = absurd (let bad : false ≡ true = some in grind arith)
truth program (Some (Flag b)) some typed = (b, refl)
truth program (Some (Label l)) some typed = absurd (typed (Label l) refl)
truth program (Some (Whole z)) some typed = absurd (typed (Whole z) refl)

module _ (typed_flows : TypedFlows) (states_of_program : StatesOfProgram) (inputs_of_program : InputsOfProgram)
    (program : ProgramTree) (main : Identifier) (f : Flat) (of : IsObserved program main f) where
  abbrev n : ℕ
  n = length (node_of program main).inputs

  abbrev i : Instance
  i = main_instance program main

  -- the flow of the observer
  pub observer : FlowAt program (node_of program main) n kind.Bool
  observer =
      let is = first_is_flag (decl_kinds program (node_of program main).outputs) of.observer in
      let at : n + 0 ≡ n = omega arith in
      flow_at program main of.well of.named i is_main n kind.Bool
      (ap (slice_get (flow_kinds program (node_of program main))) (sym at) ∙ output_kind program (node_of program main) 0 kind.Bool is)

  -- it is on the base clock
  pub its_clock : clock_of (node_of program main) observer.name ≡ Base
  its_clock =
      let some = some_of (decl_kinds program (node_of program main).outputs) of.observer in
      let at : site_of (node_of program main) observer.name ≡ n + 0 = observer.site ∙ omega arith in
      ap (clock_at (node_of program main)) at
      ∙ output_base (node_of program main) 0 (omega (arith, some, length-kinds))
    where
      length-kinds : length (decl_kinds program (node_of program main).outputs) ≡ length (node_of program main).outputs
      length-kinds = length-map (node_of program main).outputs (λ d. kind_in_program program d.kind)

  pub its_place : place i observer.name ≡ observer_place program main
  its_place = ap (λ s. s ∷ []) observer.site

  module _ (now : State) (inputs : List Value) (row : Row) (state : IsState f now) (values : AreValues f (input_kinds f) inputs)
      (instant : IsFlatInstant f now inputs row) where
    pub has_truth : HasTruth f row
    has_truth =
        let before = states_of_program program main f now of.well of.named of.flat state in
        let given = inputs_of_program program main f inputs of.well of.named of.flat values in
        let cells = instant_of (places f) row in
        let is : IsInstant program main before.0 given.0 cells =
        of.flat.rows before.0 given.0 row (subst (λ s. IsFlatInstant f s (flat_inputs f given.0) row) (sym before.1)
        (subst (λ js. IsFlatInstant f now js row) (sym given.1) instant)) in
        let typed = typed_flows program main (places f) before.0 given.0 cells of.well of.named of.flat.sequence before.2 given.2 is in
        let there : IsSome (cell cells (place i observer.name)) =
        (is.clocks i observer.name is_main observer.within).1 (ap (λ (k : Clock). is_on_in cells (absolute i k)) its_clock) in
        let found = truth program (cell cells (place i observer.name)) there (λ v e. typed i observer.name kind.Bool v is_main observer.within observer.kind e)
        in
        let within = within_places (places f) f.observer n of.flat.observer in
        let told : nth row f.observer ≡ cell cells (place i observer.name) =
        ap (λ r. nth r f.observer) (sym (of.flat.kept row instant.flows))
        ∙ get_or-map (cell cells) (places f) f.observer [] Nothing within
        ∙ ap (cell cells) (of.flat.observer ∙ sym its_place) in
        (found.0, told ∙ found.1)
