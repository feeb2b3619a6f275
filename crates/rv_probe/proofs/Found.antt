-- What an answer says of the probes.
use Rattle.std.proofs.Common.{◌≡◌, ℕ, ◌+◌, ◌≤◌, Bool, true, List, length, take, refl, sym, ◌∙◌, ap, subst, arith, inl, inr, Option, Some, None as Nothing}
use Rattle.std.specs.{Prelude.◌↔◌, Prelude.ℤ, Prelude.pos, Prelude.Result, Prelude.Ok, Prelude.Err, Prelude.IfOk, List.Contains}
use Rattle.rv_base.specs.{declared.memory.Memory.Memory, declared.value.Trace.Trace, declared.value.Value.Value}
use Rattle.rv_tree.specs.{Tree.ProgramTree, Places.Identifier, SourceTrees.IsSourceTree}
use Rattle.rv_types.specs.{declared.typed.Typed.Typed, Instances.name_at, Instances.IsNode, Settled.IsSettled, WellFormed.AreWell}
use Rattle.rv_instances.specs.{declared.answer.Order.Order, Fitting.Fits}
use Rattle.rv_flat.specs.{declared.flat.Flat.Flat, FlatOf.IsFlatOf, Steps.IsWithin}
use Rattle.rv_replay.specs.{Replays.IsFalsifiedAt, Traces.IsFlatTrace, Traces.IsTrace}
use Rattle.rv_replay.proofs.{FlatTraces.InputsOfFlat, FlatTraces.StatesOfFlat, Sources.observed}
use Rattle.rv_probe.specs.Probes.{FalsifiesAt, HasFalsifyingProbe, IsCutProbe, IsProbeNumber, NeverFalsifies, cut, have_values, probe_of}
use Rattle.rv_probe.proofs.{Cuts.cut_count, Cuts.cut_falsified, Cuts.cut_trace, Typed.flat_probe, Typed.have_of}

-- the law by which a trace of a flat system is one of its program
abbrev pub TracesOfProgram : Type 0
TracesOfProgram = (program : ProgramTree) (main : Identifier) (f : Flat) (t : Trace) → AreWell program → IsNode program main → IsFlatOf program main f
    → IsFlatTrace f t → IsTrace program main t

-- A source, and its flat system.
module _ (p : ProgramTree) (t : Typed) (o : Order) (fits : Fits p t o) (well_formed : (main : Identifier) → IsSourceTree p → IsSettled p main t → AreWell p)
    (f : Flat) (flat : IsFlatOf p (name_at p t.main) f) where
  pub whole_trace : TracesOfProgram → (b : Bool) (c : ℤ) → have_values f ≡ true → IsWithin c → IsTrace p (name_at p t.main) (probe_of f b c)
  whole_trace back b c have within =
      let of = observed p t o fits well_formed f flat in
      back p (name_at p t.main) f (probe_of f b c) of.well of.named of.flat (flat_probe b c f within have 16 (omega arith))

  pub some_values : StatesOfFlat → InputsOfFlat → HasFalsifyingProbe p (name_at p t.main) f → have_values f ≡ true
  some_values states inputs (b, c, k, at) =
      let of = observed p t o fits well_formed f flat in
      have_of states inputs p (name_at p t.main) f of.well of.named of.flat (probe_of f b c) k at.falsified

module _ (program : ProgramTree) (main : Identifier) (f : Flat) where
  pub cut_probe : (b : Bool) (c : ℤ) → IsTrace program main (probe_of f b c) → (made : Trace) → made ≡ probe_of f b c → (last : ℕ)
      → IsFalsifiedAt program main made last
      → (left : List (List Value)) → left ≡ take (last + 1) made.instants → (t : Trace) → record { starts = made.starts; instants = left } ≡ t
      → IsCutProbe program main f b c t
  cut_probe b c whole made e last is left so t same =
      let first : cut last made ≡ t = (λ i. record { starts = made.starts; instants = sym so i }) ∙ same in
      record {
        whole = whole;
        last = last;
        falsified = subst (λ u. IsFalsifiedAt program main u last) e is;
        same = sym first ∙ ap (cut last) e;
      }

  -- what is answered is a trace that falsifies at its last instant
  pub told : (b : Bool) (c : ℤ) (t : Trace) → IsCutProbe program main f b c t
      → IsTrace program main t × ((last : ℕ) × (length t.instants ≡ last + 1) × IsFalsifiedAt program main t last)
  told b c t is =
      let whole = probe_of f b c in
      subst (λ (u : Trace). IsTrace program main u × ((last : ℕ) × (length u.instants ≡ last + 1) × IsFalsifiedAt program main u last)) (sym is.same) (
        cut_trace program main whole is.last is.whole,
        (
          is.last,
          cut_count program main whole is.last is.falsified,
          cut_falsified program main whole is.last
              is.falsified,
        ),
      )

  -- and a probe that falsifies, cut there
  pub shown : (b : Bool) (c : ℤ) (t : Trace) → IsProbeNumber f c → IsCutProbe program main f b c t
      → (x : Bool) × (z : ℤ) × (k : ℕ) × FalsifiesAt program main f x z k × (t ≡ cut k (probe_of f x z))
  shown b c t number is = (b, c, is.last, record { number = number; falsified = is.falsified }, is.same)

  pub some_falsifies : (b : Bool) (c : ℤ) (t : Trace) → IsProbeNumber f c → IsCutProbe program main f b c t → HasFalsifyingProbe program main f
  some_falsifies b c t number is = (b, c, is.last, record { number = number; falsified = is.falsified })

  -- where none is answered, none falsifies
  pub none_falsifies : ((b : Bool) → NeverFalsifies program main f b (pos 0))
      → ((b : Bool) (c : ℤ) → length f.thresholds ≤ 256 → Contains f.thresholds c → IsWithin c → NeverFalsifies program main f b c)
      → HasFalsifyingProbe program main f → ⊥
  none_falsifies zero others (b, c, k, at) = elim at.number [
    | inl e ↦ zero b k (subst (λ z. IsFalsifiedAt program main (probe_of f b z) k) e at.falsified)
    | inr w ↦ others b c w.0 w.1 w.2 k at.falsified
  ]

  -- both, as one clause
  pub exactly_of : (r : Result (Option Trace) Memory) → ((t : Trace) → r ≡ Ok (Some t) → HasFalsifyingProbe program main f)
      → (r ≡ Ok Nothing → HasFalsifyingProbe program main f → ⊥)
      → IfOk r (λ found. (found ≡ Nothing) ↔ (HasFalsifyingProbe program main f → ⊥))
  exactly_of (Ok (Some t)) some none = (λ e. absurd (let bad : ⊥ = cc in bad), λ h. absurd (h (some t refl)))
  exactly_of (Ok Nothing) some none = (λ e. none refl, λ h. refl)
  exactly_of (Err e) some none = tt
