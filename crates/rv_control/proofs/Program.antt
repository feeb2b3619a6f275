-- A run of a program is an abstract run of the system of its flat system, and a safe system makes its program safe.
use Rattle.std.proofs.Common.{◌≡◌, ℕ, zero, suc, ◌+◌, ◌^◌, ℤ, Bool, true, false, cond, List, [], refl, sym, ◌∙◌, ap, subst, arith}
use Rattle.std.specs.Prelude.{slice_index_or}
use Rattle.rv_base.specs.declared.value.Value.{Value}
use Rattle.rv_base.specs.declared.value.Value.TheVariants.{Flag, Label, Whole}
use Rattle.rv_tree.specs.{Tree.ProgramTree, Places.Identifier, Places.Sites}
use Rattle.rv_types.specs.Lists.{MemoryAt, memory_at, Variable, MainTick, Tick, Kept, Next, Input, Test}
use Rattle.rv_types.specs.{declared.typed.Kind.Kind, Instances.IsNode, Values.HasKind, Values.labels_at, Variables.bits_for, WellFormed.AreWell}
use Rattle.rv_types.specs.declared.typed.Kind.TheVariants as kind
use Rattle.rv_meaning.specs.{Codes.code, Runs.History, Runs.IsRun, Runs.IsSafe}
use Rattle.rv_agreement.specs.Trees.{System, memory_kinds, memory_places, kind_at}
use Rattle.rv_agreement.specs.{Agreement.State, Valuations.Valuation, Valuations.IsCodedAs}
use Rattle.rv_diagram.specs.Nodes.{Valuation as Numbered}
use Rattle.rv_proofs.specs.Runs.{IsSafeSystem}
use Rattle.rv_flat.specs.{declared.flat.Flat.Flat, FlatInstants.Row, FlatInstants.system_of, FlatOf.IsFlatOf, FlatOf.flat_inputs, SystemRuns.IsRunOf}
use Rattle.rv_control.specs.{Named.variables_of, Named.by_names, Named.by_numbers, Named.truth_of, Control.is_initial, Control.control_of, Meets.IsAbstractOf}
use Rattle.rv_control.proofs.Abstract.{Laws, initial_there, vs, points, is_run, observer_is, allowed_is}
use Rattle.rv_control.proofs.{Names.false_truth, Order.is_listed, Order.memory_in, Order.labels_same}

-- Each run is one of the flat system.
abbrev pub RunsAreFlat : Type 0
RunsAreFlat = (program : ProgramTree) (main : Identifier) (f : Flat) (starts : Sites → Value) (inputs : ℕ → ℕ → Value) (n : ℕ) (h : History)
    → AreWell program → IsNode program main → IsFlatOf program main f → IsRun program main starts inputs n h
    → (states : ℕ → State) × (rows : ℕ → Row) × IsRunOf program main f starts inputs n h states rows

-- the valuation at which nothing is true
nowhere : Valuation
nowhere = record { ticked = λ t. false; kept = λ p b. false; input = λ j b. false; test = λ p side. false }

nothing_true : (x : Variable) → truth_of nowhere x ≡ false
unfolding nowhere
nothing_true MainTick = refl
nothing_true (Tick p) = refl
nothing_true (Kept p b) = refl
nothing_true Next = refl
nothing_true (Input j b) = refl
nothing_true (Test p side) = refl

code_zero : (n : ℕ) (bits : ℕ → Bool) → ((b : ℕ) → bits b ≡ false) → code n bits ≡ 0
code_zero zero bits none = refl
code_zero (suc n) bits none = (λ i. code n bits + cond (none n i) (2 ^ n) 0) ∙ (let h = code_zero n bits none in omega (arith, h))

-- where a type has a value, the code of all zeros names one
zero_coded : (labels : List ℕ) (program : ProgramTree) → ((i : ℕ) → slice_index_or labels i 0 ≡ labels_at program.types i)
    → (k : Kind) (v : Value) (bits : ℕ → Bool) → ((b : ℕ) → bits b ≡ false)
    → HasKind program k v → IsCodedAs labels k bits
zero_coded labels program same kind.Bool v bits none has = tt
zero_coded labels program same kind.Int v bits none has = tt
zero_coded labels program same (kind.Labels i) (Flag b) bits none has = absurd has
zero_coded labels program same (kind.Labels i) (Label l) bits none has = let z = code_zero (bits_for (slice_index_or labels i 0)) bits none in
    let e = same i in omega (arith, z, e, has)
zero_coded labels program same (kind.Labels i) (Whole z) bits none has = absurd has

module _ (laws : Laws) (flat_runs : RunsAreFlat) (program : ProgramTree) (main : Identifier) (f : Flat) (well : AreWell program)
    (named : IsNode program main) (flat : IsFlatOf program main f) where
  abbrev s : System
  s = system_of f

  abbrev names : List Variable
  names = variables_of f

  module _ (starts : Sites → Value) (inputs : ℕ → ℕ → Value) (n : ℕ) (h : History) (run : IsRun program main starts inputs n h) where
    rest : n ≡ 0 → is_initial s (by_names names (by_numbers names nowhere)) ≡ true
    unfolding nowhere
    rest e = initial_there s (by_names names (by_numbers names nowhere)) (λ k lt. false_truth names (by_numbers names nowhere) _ all_false)
        (λ m lt.
        let a : MemoryAt = record { place = slice_index_or (memory_places s) m []; kind = kind_at (memory_kinds s) m } in
        let r = flat.system.translated.memories.only a (memory_in s.memories m lt) in
        let has : HasKind program a.kind (starts (memory_at program r.0 r.1).place) = subst
        (λ (z : MemoryAt). HasKind program z.kind (starts (memory_at program r.0 r.1).place)) (sym r.5) (run.starts_typed r.0 r.1 r.2 r.4) in
        zero_coded s.labels program (λ i. ap (λ ls. slice_index_or ls i 0) flat.system.labels ∙ labels_same program.types i) a.kind _ _
        (λ b. false_truth names (by_numbers names nowhere) _ all_false) has)
      where
        all_false : (k : ℕ) → by_numbers names nowhere k ≡ false
        all_false k = nothing_true (slice_index_or names k Next)

    abbrev of : (states : ℕ → State) × (rows : ℕ → Row) × IsRunOf program main f starts inputs n h states rows
    of = flat_runs program main f starts inputs n h well named flat run

    abstract : IsAbstractOf program main f starts n h (vs laws s names flat.system.well (is_listed program main f flat) n of.0
        (λ t. flat_inputs f (inputs t)) of.1 of.2.run nowhere rest)
        (points laws s names flat.system.well (is_listed program main f flat) n of.0 (λ t. flat_inputs f (inputs t)) of.1 of.2.run nowhere rest)
    abstract =
        let listed = is_listed program main f flat in
        record {
          run = is_run laws s names flat.system.well listed n of.0 (λ t. flat_inputs f (inputs t)) of.1 of.2.run nowhere rest;
          observer = λ t lt.
              let is = observer_is laws s names flat.system.well listed n of.0 (λ u. flat_inputs f (inputs u)) of.1 of.2.run nowhere rest t lt in
              let same = of.2.observer t lt in
              (λ e. is.0 (same ∙ e), λ e. sym same ∙ is.1 e);
          assertions = λ t lt.
              let is = allowed_is laws s names flat.system.well listed n of.0 (λ u. flat_inputs f (inputs u)) of.1 of.2.run nowhere rest t lt in
              let met = of.2.assertions t lt in
              (λ holds. is.0 (met.0 holds), λ e. met.1 (is.1 e));
        }

  pub runs_abstract : (starts : Sites → Value) (inputs : ℕ → ℕ → Value) (n : ℕ) (h : History) → IsRun program main starts inputs n h
      → (us : ℕ → Numbered) × (xs : ℕ → List ℤ) × IsAbstractOf program main f starts n h us xs
  runs_abstract starts inputs n h run = (_, _, abstract starts inputs n h run)

  pub safe : IsSafeSystem (control_of f) → IsSafe program main
  safe is n t starts inputs h run lt allowed =
      let a = runs_abstract starts inputs n h run in
      (a.2.observer t lt).1 (is n t a.0 a.1 a.2.run lt (λ u less. (a.2.assertions u (omega arith)).0 (allowed u (omega arith))))
