-- All flat systems of a program have a good claim, or none has one; and the same of a probe that falsifies.
use Rattle.std.proofs.Common.{◌≡◌, ◌⊎◌, inl, inr, ◌≤◌, ℤ, pos, Bool, List, [], ◌∷◌, length, map, refl, sym, ◌∙◌, ap, subst}
use Rattle.std.specs.{Prelude.replicate, List.Contains}
use Rattle.rv_base.specs.declared.value.Trace.{Trace}
use Rattle.rv_tree.specs.{Tree.ProgramTree, Places.Identifier}
use Rattle.rv_flat.specs.Steps.{IsWithin, input_kinds, memory_kinds}
use Rattle.rv_flat.specs.{declared.flat.Flat.Flat, declared.parts.FlatInput.FlatInput, declared.parts.FlatMemory.FlatMemory, FlatOf.IsFlatOf, Systems.memory_of}
use Rattle.rv_control.specs.Control.{control_of}
use Rattle.rv_proofs.specs.{Systems.System, Boxes.HasGoodBox, RowClaims.HasGoodRows, Runs.IsSafeSystem}
use Rattle.rv_probe.specs.Probes.{probe_of, probe_value, probe_within}
use Rattle.rv_replay.specs.Replays.{IsFalsifiedAt}
use Rattle.rv_types.specs.{Lists.MemoryAt, declared.typed.Kind.Kind}
use Rattle.rv_run.specs.Programs.{HasGood, HasGoodClaim, HasProbe, LacksGoodClaim, LacksProbe}

pub one_claim : (p : ProgramTree) (m : Identifier) → ((f g : Flat) → IsFlatOf p m f → IsFlatOf p m g → control_of f ≡ control_of g)
    → ((f g : Flat) → IsFlatOf p m f → IsFlatOf p m g → f.thresholds ≡ g.thresholds) → HasGoodClaim p m → LacksGoodClaim p m → ⊥
one_claim p m systems thresholds (f, flat, good) (g, other, none) =
    none (subst (λ (s : System). HasGood s g.thresholds) (systems f g flat other)
    (subst (λ (ts : List ℤ). HasGood (control_of f) ts) (thresholds f g flat other) good))

-- a system with a good claim of either kind is safe
pub safe_claims : (s : System) (thresholds : List ℤ) → (HasGoodBox s thresholds → IsSafeSystem s) → (HasGoodRows s thresholds → IsSafeSystem s)
    → HasGood s thresholds → IsSafeSystem s
safe_claims s thresholds boxes rows (inl box) = boxes box
safe_claims s thresholds boxes rows (inr row) = rows row

-- it has none where it has none of either
pub lacks_both : (s : System) (thresholds : List ℤ) → (HasGoodBox s thresholds → ⊥) → (HasGoodRows s thresholds → ⊥) → HasGood s thresholds → ⊥
lacks_both s thresholds boxes rows (inl box) = boxes box
lacks_both s thresholds boxes rows (inr row) = rows row

same_kinds : (ms : List FlatMemory) → map (λ (m : FlatMemory). m.kind) ms ≡ map (λ (m : MemoryAt). m.kind) (map memory_of ms)
same_kinds [] = refl
same_kinds (m ∷ ms) = ap (λ (ks : List Kind). m.kind ∷ ks) (same_kinds ms)

-- a probe by the types of memories and inputs
abbrev probe_by : Bool → ℤ → List Kind → List Kind → Trace
probe_by b c memories inputs = record { starts = map (probe_value b c) memories; instants = replicate 16 (map (probe_value b c) inputs) }

same_probe : (f g : Flat) (b : Bool) (c : ℤ) → f.inputs ≡ g.inputs → map memory_of f.memories ≡ map memory_of g.memories → probe_of f b c ≡ probe_of g b c
unfolding probe_within
same_probe f g b c inputs memories =
    ap (λ (ks : List Kind). probe_by b c ks (input_kinds f)) (same_kinds f.memories ∙ ap (λ (ms : List MemoryAt). map (λ (m : MemoryAt). m.kind) ms) memories
    ∙ sym (same_kinds g.memories))
    ∙ ap (λ (is : List FlatInput). probe_by b c (memory_kinds g) (map (λ (i : FlatInput). i.kind) is)) inputs

pub one_probe : (p : ProgramTree) (m : Identifier) → ((f g : Flat) → IsFlatOf p m f → IsFlatOf p m g → f.inputs ≡ g.inputs)
    → ((f g : Flat) → IsFlatOf p m f → IsFlatOf p m g → map memory_of f.memories ≡ map memory_of g.memories)
    → ((f g : Flat) → IsFlatOf p m f → IsFlatOf p m g → f.thresholds ≡ g.thresholds) → HasProbe p m → LacksProbe p m → ⊥
one_probe p m inputs memories thresholds (f, flat, (b, c, k, at)) (g, other, none) =
    none (
      b,
      c,
      k,
      record {
        number = subst (λ (ts : List ℤ). (c ≡ pos 0) ⊎ ((length ts ≤ 256) × Contains ts c × IsWithin c)) (thresholds f g flat other) at.number;
        falsified = subst (λ (t : Trace). IsFalsifiedAt p m t k) (same_probe f g b c (inputs f g flat other) (memories f g flat other)) at.falsified;
      },
    )
