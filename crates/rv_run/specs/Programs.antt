-- What an answer says of the bytes of a source and the name of its main node.
use Rattle.std.specs.Prelude.{◌≡◌, ◌⊎◌, ◌<◌, ◌^◌, ℕ, ℤ, List}
use Rattle.rv_base.specs.declared.value.Value.{Value}
use Rattle.rv_tree.specs.{Tree.ProgramTree, Places.Identifier, Places.Sites}
use Rattle.rv_types.specs.{declared.typed.Typed.Typed, Needs.IsSequence, Variables.variable_count}
use Rattle.rv_source.specs.{declared.fault.SourceFault.SourceFault, Sources.IsSource, Sources.IsSourceFault}
use Rattle.rv_meaning.specs.{Runs.History, Runs.AreStarts, Runs.AreInputs, Runs.IsRun, Runs.IsSafe, Integers.IsControl}
use Rattle.rv_flat.specs.{declared.flat.Flat.Flat, FlatOf.IsFlatOf}
use Rattle.rv_control.specs.Control.{control_of}
use Rattle.rv_proofs.specs.{Accepted.IsAccepted, Boxes.HasGoodBox, RowClaims.HasGoodRows, Systems.System, Left.IsLeftReport}
use Rattle.rv_proofs.specs.{declared.certificate.Certificate.Certificate, declared.report.LeftReport.LeftReport}
use Rattle.rv_probe.specs.Probes.{HasFalsifyingProbe}

-- The bytes are the text of a program that is settled and accepted with this node, and P holds of the program and the node.
pub record OnProgram (P : ProgramTree → Identifier → Type 0) (bytes : List ℕ) (node : Identifier) : Type 0 where
  pub program : ProgramTree
  pub typed : Typed
  pub source : IsSource bytes node program typed
  pub holds : P program node

-- These start values and inputs have exactly one run of n instants.
abbrev pub HasOneRun : ProgramTree → Identifier → (Sites → Value) → (ℕ → ℕ → Value) → ℕ → Type 0
HasOneRun program node starts inputs n = (h : History) × IsRun program node starts inputs n h
    × ((other : History) → IsRun program node starts inputs n other → other ≡ h)

-- P holds, and not for want of runs: the flows stand in an order of evaluation, and all start values and inputs of their
-- types have exactly one run of each length.
pub record WithRuns (P : ProgramTree → Identifier → Type 0) (program : ProgramTree) (node : Identifier) : Type 0 where
  pub sequence : List Sites
  pub ordered : IsSequence program node sequence
  pub runs : (n : ℕ) (starts : Sites → Value) (inputs : ℕ → ℕ → Value) → AreStarts program node starts → AreInputs program node n inputs
      → HasOneRun program node starts inputs n
  pub holds : P program node

-- Without integers, and safe.
abbrev pub IsSafeControl : ProgramTree → Identifier → Type 0
IsSafeControl program node = IsControl program node × IsSafe program node

-- Without integers, and not safe.
abbrev pub IsUnsafeControl : ProgramTree → Identifier → Type 0
IsUnsafeControl program node = IsControl program node × (¬ (IsSafe program node))

-- With integers.
abbrev pub HasIntegers : ProgramTree → Identifier → Type 0
HasIntegers program node = ¬ (IsControl program node)

-- The certificate is accepted for the system of the program's flat system.
abbrev pub IsCertified : Certificate → ProgramTree → Identifier → Type 0
IsCertified c program node = (f : Flat) × IsFlatOf program node f × IsAccepted (control_of f) c

-- Some closed box claim or row claim is good, with bounds among the thresholds.
abbrev pub HasGood : System → List ℤ → Type 0
HasGood s thresholds = HasGoodBox s thresholds ⊎ HasGoodRows s thresholds

-- Some closed box claim or row claim of the program's flat system is good, with bounds among the program's thresholds.
abbrev pub HasGoodClaim : ProgramTree → Identifier → Type 0
HasGoodClaim program node = (f : Flat) × IsFlatOf program node f × HasGood (control_of f) f.thresholds

-- None is.
abbrev pub LacksGoodClaim : ProgramTree → Identifier → Type 0
LacksGoodClaim program node = (f : Flat) × IsFlatOf program node f × (¬ HasGood (control_of f) f.thresholds)

-- Some probe of the program's flat system falsifies.
abbrev pub HasProbe : ProgramTree → Identifier → Type 0
HasProbe program node = (f : Flat) × IsFlatOf program node f × HasFalsifyingProbe program node f

-- None does.
abbrev pub LacksProbe : ProgramTree → Identifier → Type 0
LacksProbe program node = (f : Flat) × IsFlatOf program node f × (¬ HasFalsifyingProbe program node f)

-- Any program.
abbrev pub IsProgram : ProgramTree → Identifier → Type 0
IsProgram program node = Unit {0}

-- With integers, no closed box claim and no closed row claim is good, and no probe falsifies.
abbrev pub IsUndecided : ProgramTree → Identifier → Type 0
IsUndecided program node = HasIntegers program node × LacksGoodClaim program node × LacksProbe program node

-- What is left is a left partition of the system of the program's flat system; and there are as many locations as there may be, which is
-- this limit, or each left location has one control state.
abbrev pub HasLeft : ℕ → LeftReport → ProgramTree → Identifier → Type 0
HasLeft limit l program node = (f : Flat) × IsFlatOf program node f × IsLeftReport (control_of f) limit l

-- It is undecided, and that is left of it.
abbrev pub IsUnknown : ℕ → LeftReport → ProgramTree → Identifier → Type 0
IsUnknown limit l program node = IsUndecided program node × HasLeft limit l program node

-- With so many diagram variables that there are more functions of them than this number of nodes.
abbrev pub HasManyVariables : ℕ → ProgramTree → Identifier → Type 0
HasManyVariables nodes program node = nodes < 2 ^ (2 ^ variable_count program node)

-- Why a source is refused: for the fault of its first offending token; or, where it has a tree, for its first fault of
-- names, types and clocks; or, where it has none, for its first of recursion, sizes, cycles and weights.
abbrev pub IsRefusedFor : SourceFault → List ℕ → Identifier → Type 0
IsRefusedFor fault bytes node = IsSourceFault bytes node fault
