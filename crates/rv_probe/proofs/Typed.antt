-- A probe is a trace of a flat system where each type has a value; and no trace falsifies where one has none.
use Rattle.std.proofs.Common.{◌≡◌, ℕ, zero, suc, ◌<◌, ◌≤◌, ◌^◌, Bool, true, false, ◌&&◌, List, [], ◌∷◌, map, get_or, refl, sym, ◌∙◌, ap, subst, arith, Some}
use Rattle.std.proofs.Common.{IsTrue, slice_get}
use Rattle.std.proofs.lemmas.List.{length-map, length-replicate, get_or-replicate}
use Rattle.std.proofs.{lemmas.Bool.ltb-true, lemmas.Bool.Decides.nat_tests, lemmas.Int.ints, lemmas.Option.slice_get_within}
use Rattle.std.specs.{Prelude.ℤ, Prelude.pos, Prelude.negsuc, Prelude.unsigned_abs, List.list_all}
use Rattle.rv_base.specs.declared.value.Value.TheVariants.{Flag, Label, Whole}
use Rattle.rv_base.specs.{declared.value.Trace.Trace, declared.value.Value.Value}
use Rattle.rv_tree.specs.{Tree.ProgramTree, Places.Identifier, Places.Sites}
use Rattle.rv_types.specs.{declared.typed.Kind.Kind, Instances.IsNode, Values.HasKind, WellFormed.AreWell}
use Rattle.rv_types.specs.declared.typed.Kind.TheVariants as kind
use Rattle.rv_agreement.specs.Checks.{constant_fits}
use Rattle.rv_flat.specs.Steps.{AreValues, IsInRange, IsWithin, input_kinds, label_counts, memory_kinds}
use Rattle.rv_flat.specs.{declared.flat.Flat.Flat, declared.parts.FlatInput.FlatInput, declared.parts.FlatMemory.FlatMemory, FlatOf.IsFlatOf}
use Rattle.rv_replay.specs.{Replays.IsFalsifiedAt, Traces.IsFlatTrace}
use Rattle.rv_replay.proofs.FlatTraces.{InputsOfFlat, StatesOfFlat}
use Rattle.rv_probe.specs.Probes.{has_value, have_values, inputs_have_values, memories_have_values, probe_value, probe_within}
use Rattle.rv_base.proofs.Truths.{and_first, and_second}

-- what all of a list pass, by number, and back
module _ {X : Type 0} (kind_of : X → Kind) (p : Kind → Bool) where
  each : (xs : List X) → list_all (λ x. p (kind_of x)) xs ≡ true → (k : ℕ) (j : Kind) → slice_get (map kind_of xs) k ≡ Some j → p j ≡ true
  each [] all k j e = absurd (let bad : ⊥ = cc in bad)
  each (x ∷ xs) all zero j e = let same : kind_of x ≡ j = cc in subst (λ i. p i ≡ true) same (and_first (p (kind_of x)) (list_all (λ y. p (kind_of y)) xs) all)
  each (x ∷ xs) all (suc k) j e = each xs (and_second (p (kind_of x)) (list_all (λ y. p (kind_of y)) xs) all) k j e

  all_of : (xs : List X) → ((k : ℕ) (j : Kind) → slice_get (map kind_of xs) k ≡ Some j → p j ≡ true) → list_all (λ x. p (kind_of x)) xs ≡ true
  all_of [] each = refl
  all_of (x ∷ xs) each = ap (λ t. t && list_all (λ y. p (kind_of y)) xs) (each 0 (kind_of x) refl) ∙ all_of xs (λ k. each (suc k))

-- the numbers of probes are within the range of traces
pub number_within : (c : ℤ) → unsigned_abs c ≤ 2 ^ 41 → IsWithin c
number_within (pos n) le = (omega (arith, ints), omega (arith, ints))
number_within (negsuc n) le = (omega (arith, ints), omega (arith, ints))

module _ (b : Bool) (c : ℤ) where
  value_there : (kinds : List Kind) (k : ℕ) (j : Kind) → slice_get kinds k ≡ Some j → get_or (map (probe_value b c) kinds) k (Flag false) ≡ probe_value b c j
  value_there [] k j e = absurd (let bad : ⊥ = cc in bad)
  value_there (x ∷ kinds) zero j e = let same : x ≡ j = cc in ap (probe_value b c) same
  value_there (x ∷ kinds) (suc k) j e = value_there kinds k j e

  value_in_range : IsWithin c → (j : Kind) → IsInRange (probe_value b c j)
  value_in_range within kind.Int = within
  value_in_range within _ = tt

  in_range_there : IsWithin c → (kinds : List Kind) (k : ℕ) → IsInRange (get_or (map (probe_value b c) kinds) k (Flag false))
  in_range_there within [] k = tt
  in_range_there within (x ∷ kinds) zero = value_in_range within x
  in_range_there within (x ∷ kinds) (suc k) = in_range_there within kinds k

  value_fits : (counts : List ℕ) (j : Kind) → has_value counts j ≡ true → IsTrue (constant_fits counts j (probe_value b c j))
  value_fits counts (kind.Labels i) h = h
  value_fits counts _ h = refl

  module _ (f : Flat) (within : IsWithin c) where
    are_values : (kinds : List Kind) → ((k : ℕ) (j : Kind) → slice_get kinds k ≡ Some j → has_value (label_counts f) j ≡ true)
        → AreValues f kinds (map (probe_value b c) kinds)
    are_values kinds have = record {
      size = length-map kinds (probe_value b c);
      typed = λ k j lt e. subst (λ v. IsTrue (constant_fits (label_counts f) j v)) (sym (value_there kinds k j e)) (value_fits (label_counts f) j (have k j e));
      within = λ k lt. in_range_there within kinds k;
    }

    pub flat_probe : have_values f ≡ true → (n : ℕ) → n < 2 ^ 32 → IsFlatTrace f (probe_within n f b c)
    unfolding probe_within
    flat_probe have n few =
        let values = map (probe_value b c) (input_kinds f) in
        let has = has_value (label_counts f) in
        let memories = and_first (memories_have_values f) (inputs_have_values f) have in
        let inputs = and_second (memories_have_values f) (inputs_have_values f) have in
        let long = length-replicate n values in
        record {
          starts = are_values (memory_kinds f) (each (λ (m : FlatMemory). m.kind) has f.memories memories);
          instants = λ k lt. subst (AreValues f (input_kinds f)) (sym (get_or-replicate n k values [] (omega (arith, lt, long))))
              (are_values (input_kinds f) (each (λ (i : FlatInput). i.kind) has f.inputs inputs));
          count = omega (arith, few, long);
        }

-- A value of a type within the range, from any.
tame : Value → Value
tame (Flag b) = Flag b
tame (Label l) = Label l
tame (Whole z) = Whole (pos 0)

tame_in_range : (v : Value) → IsInRange (tame v)
unfolding tame
tame_in_range (Whole z) = number_within (pos 0) (omega arith)
tame_in_range _ = tt

tame_kind : (p : ProgramTree) (j : Kind) (v : Value) → HasKind p j v → HasKind p j (tame v)
unfolding tame
tame_kind p kind.Bool (Flag b) h = tt
tame_kind p kind.Bool (Label l) h = absurd h
tame_kind p kind.Bool (Whole z) h = absurd h
tame_kind p kind.Int (Flag b) h = absurd h
tame_kind p kind.Int (Label l) h = absurd h
tame_kind p kind.Int (Whole z) h = tt
tame_kind p (kind.Labels i) (Flag b) h = absurd h
tame_kind p (kind.Labels i) (Label l) h = h
tame_kind p (kind.Labels i) (Whole z) h = absurd h

has_one : (counts : List ℕ) (j : Kind) (v : Value) → IsTrue (constant_fits counts j v) → has_value counts j ≡ true
has_one counts kind.Bool v h = refl
has_one counts kind.Int v h = refl
has_one counts (kind.Labels i) (Flag b) h = absurd (let bad : ⊥ = cc in bad)
has_one counts (kind.Labels i) (Whole z) h = absurd (let bad : ⊥ = cc in bad)
has_one counts (kind.Labels i) (Label l) h = let lt = ltb-true l (get_or counts i 0) h in grind (arith, nat_tests)

have_at : (f : Flat) (kinds : List Kind) (values : List Value) → AreValues f kinds values → (k : ℕ) (j : Kind) → slice_get kinds k ≡ Some j
    → has_value (label_counts f) j ≡ true
have_at f kinds values are k j e = has_one (label_counts f) j (get_or values k (Flag false)) (are.typed k j (slice_get_within kinds k j e) e)

-- Where a trace falsifies, each type has a value.
module _ (states_of_flat : StatesOfFlat) (inputs_of_flat : InputsOfFlat) (program : ProgramTree) (main : Identifier) (f : Flat) (well : AreWell program)
    (named : IsNode program main)
    (flat : IsFlatOf program main f) (t : Trace) (k : ℕ) (is : IsFalsifiedAt program main t k) where
  memories_have : memories_have_values f ≡ true
  memories_have =
      let run = is.falsifies.1 in
      let kept : Sites → Value = λ q. tame (is.starts q) in
      let now = states_of_flat program main f (record { ticked = λ o. false; kept = kept }) well named flat
      (λ i d inst w. tame_kind program _ _ (run.starts_typed i d inst w)) (λ q w. tame_in_range (is.starts q)) in
      all_of (λ (m : FlatMemory). m.kind) (has_value (label_counts f)) f.memories (have_at f (memory_kinds f) _ now.kept)

  inputs_have : inputs_have_values f ≡ true
  inputs_have =
      let run = is.falsifies.1 in
      let values = inputs_of_flat program main f (λ j. tame (is.inputs 0 j)) well named flat
      (λ j kind e. tame_kind program kind (is.inputs 0 j) (run.inputs_typed 0 j kind (omega arith) e)) (λ j lt. tame_in_range (is.inputs 0 j)) in
      all_of (λ (i : FlatInput). i.kind) (has_value (label_counts f)) f.inputs (have_at f (input_kinds f) _ values)

  pub have_of : have_values f ≡ true
  have_of = ap (λ x. x && inputs_have_values f) memories_have ∙ inputs_have
