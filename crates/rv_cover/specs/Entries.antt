-- Entries that are no turn of a loop, in the ranges of a document.
use Rattle.std.specs.Prelude.{◌≡◌, ℕ, ◌≤◌, pos, List, length, All, Some, slice_get}
use Rattle.rv_diagram.specs.{declared.Triple.Triple, declared.frozen.Frozen.Frozen, Nodes.valuation_of, Nodes.IsOrderedOver, Several.UsesOnly}
use Rattle.rv_proofs.specs.{declared.certificate.Entry.Entry, declared.certificate.EntryKind.EntryKind, declared.certificate.EntryKind.TheVariants.Dead}
use Rattle.rv_proofs.specs.{declared.certificate.EntryKind.TheVariants.Go, declared.certificate.EntryKind.TheVariants.Loop, Ranges.IsRecord}
use Rattle.rv_cases.specs.Conditions.{AreRefs}
use Rattle.rv_cover.specs.{declared.frame.Frame.Frame, declared.finding.Found.Found}

-- no turn of a loop, with multipliers on so many premises
abbrev pub IsPlainKind : ℕ → EntryKind → Type 0
IsPlainKind n (Dead by) = IsRecord n by × (by.divisor ≡ pos 1)
IsPlainKind n (Go target reach) = All (IsRecord n) reach
IsPlainKind n (Loop first before around state) = ⊥

-- The condition is an ordered diagram that reads no more than it may.
pub record IsReadable (f : Frame) (set : Frozen) : Type 0 where
  pub ordered : IsOrderedOver f.variables set
  pub only : UsesOnly set.nodes (valuation_of f.read)

pub record IsPlainEntry (f : Frame) (n : ℕ) (e : Entry) : Type 0 where
  pub condition : IsReadable f e.condition
  pub kind : IsPlainKind n e.kind

-- At most 16,384 such entries.
pub record AreShortEntries (f : Frame) (n : ℕ) (es : List Entry) : Type 0 where
  pub few : length es ≤ 16384
  pub each : (j : ℕ) (e : Entry) → slice_get es j ≡ Some e → IsPlainEntry f n e

-- What happens somewhere, with multipliers on so many premises, and answers in a list of nodes.
pub record IsFound (nodes : List Triple) (n : ℕ) (found : Found) : Type 0 where
  pub kind : IsPlainKind n found.kind
  pub answers : AreRefs nodes found.answers.items
