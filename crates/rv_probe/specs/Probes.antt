-- The probes of a flat system: a handful of fixed traces, and which of them falsify.
use Rattle.std.specs.Prelude.{◌≡◌, ◌⊎◌, ℕ, ◌+◌, ◌≤◌, nat_lt, ℤ, pos, Bool, true, ◌&&◌, List, map, length, replicate, take, slice_index_or}
use Rattle.std.specs.List.{Contains, list_all}
use Rattle.rv_base.specs.declared.value.Value.TheVariants.{Flag, Label, Whole}
use Rattle.rv_base.specs.{declared.value.Trace.Trace, declared.value.Value.Value}
use Rattle.rv_tree.specs.{Tree.ProgramTree, Places.Identifier}
use Rattle.rv_types.specs.declared.typed.Kind.{Kind}
use Rattle.rv_types.specs.declared.typed.Kind.TheVariants as kind
use Rattle.rv_flat.specs.{declared.flat.Flat.Flat, Steps.IsWithin, Steps.input_kinds, Steps.label_counts, Steps.memory_kinds}
use Rattle.rv_replay.specs.{Replays.IsFalsifiedAt, Traces.IsTrace}

-- what a probe has of a type: this truth value, this number, or the first label
abbrev pub probe_value : Bool → ℤ → Kind → Value
probe_value b c kind.Bool = Flag b
probe_value b c kind.Int = Whole c
probe_value b c (kind.Labels i) = Label 0

-- so many instants of a trace in which each start value and input is that of its type
unfoldable pub probe_within : ℕ → Flat → Bool → ℤ → Trace
probe_within n f b c = record {
  starts = map (probe_value b c) (memory_kinds f);
  instants = replicate n (map (probe_value b c) (input_kinds f));
}

-- the probe of a truth value and a number: 16 instants
abbrev pub probe_of : Flat → Bool → ℤ → Trace
probe_of = probe_within 16

-- 0, or one of the thresholds, where these are 256 at most; a number outside the range of traces is that of no probe
abbrev pub IsProbeNumber : Flat → ℤ → Type 0
IsProbeNumber f c = (c ≡ pos 0) ⊎ ((length f.thresholds ≤ 256) × Contains f.thresholds c × IsWithin c)

-- the first k + 1 instants of a trace
abbrev pub cut : ℕ → Trace → Trace
cut k t = record { starts = t.starts; instants = take (k + 1) t.instants }

module _ (program : ProgramTree) (main : Identifier) (f : Flat) where
  -- The probe of b and c, cut after the instant k, falsifies, and no value leaves the range up to there.
  pub record FalsifiesAt (b : Bool) (c : ℤ) (k : ℕ) : Type 0 where
    pub number : IsProbeNumber f c
    pub falsified : IsFalsifiedAt program main (probe_of f b c) k

  -- some probe does
  abbrev pub HasFalsifyingProbe : Type 0
  HasFalsifyingProbe = (b : Bool) × (c : ℤ) × (k : ℕ) × FalsifiesAt b c k

  -- A trace is the probe of b and c, which is a trace of the program, cut after an instant at which it falsifies.
  pub record IsCutProbe (b : Bool) (c : ℤ) (t : Trace) : Type 0 where
    pub whole : IsTrace program main (probe_of f b c)
    pub last : ℕ
    pub falsified : IsFalsifiedAt program main (probe_of f b c) last
    pub same : t ≡ cut last (probe_of f b c)

  -- the probe of b and c falsifies nowhere
  abbrev pub NeverFalsifies : Bool → ℤ → Type 0
  NeverFalsifies b c = (k : ℕ) → IsFalsifiedAt program main (probe_of f b c) k → ⊥

-- whether a type has a value: an enumeration has where it has a label
abbrev pub has_value : List ℕ → Kind → Bool
has_value labels kind.Bool = true
has_value labels kind.Int = true
has_value labels (kind.Labels i) = nat_lt 0 (slice_index_or labels i 0)

-- whether the type of each memory has one
abbrev pub memories_have_values : Flat → Bool
memories_have_values f = list_all (λ m. has_value (label_counts f) m.kind) f.memories

-- and that of each input
abbrev pub inputs_have_values : Flat → Bool
inputs_have_values f = list_all (λ i. has_value (label_counts f) i.kind) f.inputs

-- and both
abbrev pub have_values : Flat → Bool
have_values f = memories_have_values f && inputs_have_values f
