-- The certificate of a closed row claim, put together: a location for the initial control states without rows, and one for the others
-- with the rows of the claim.
use Rattle.std.specs.Prelude.{◌≡◌, ℕ, ◌+◌, ◌<◌, ◌^◌, ℤ, not, ◌&&◌, List, [], length, All, Some, IsTrue, slice_get}
use Rattle.rv_diagram.specs.{Nodes.Valuation, declared.frozen.Frozen.Frozen}
use Rattle.rv_rows.specs.declared.linear.Row.{Row}
use Rattle.rv_proofs.specs.Ranges.{IsRecord, IsControlSet, IsCondition, AreKept}
use Rattle.rv_proofs.specs.RowClaims.{RowClaim, IsRowTaken, IsRowGood}
use Rattle.rv_proofs.specs.{Systems.System, Scopes.IsIn, Cases.AreCases, Cases.IsInitialSet, Accepted.IsAccepted}
use Rattle.rv_proofs.specs.{declared.certificate.Certificate.Certificate, declared.certificate.Location.Location, declared.certificate.Entry.Entry}
use Rattle.rv_walk.specs.{Ends.has, Plain.ArePlain}
use Rattle.rv_claims.specs.{declared.claim.Claim.Claim, Claiming.IsKeptClaim, Certify.IsClaimLocation}
use Rattle.rv_claimed.specs.{Certifying.IsJudgeable, Certifying.IsRangedKind, declared.locations.Part.Part}

-- The initial control states and their cases.
pub record IsStart (s : System) (x : Part) : Type 0 where
  pub initial : IsInitialSet s x.control
  pub cases : AreCases s x.control x.cases

-- The control states of a claim that are not initial, and their cases.
pub record AreOthers (s : System) (first : Frozen) (c : Claim) (x : Part) : Type 0 where
  pub control : IsControlSet s x.control
  pub exact : (v : Valuation) → has x.control v ≡ (has c.reached v && not (has first v))
  pub cases : AreCases s x.control x.cases

-- A closed claim over some thresholds, with both parts of its control states.
pub record ArePartsOf (s : System) (many : ℕ) (c : Claim) (start others : Part) : Type 0 where
  pub thresholds : List ℤ
  pub kept : IsKeptClaim s thresholds c
  pub judge : IsJudgeable s many c
  pub is_start : IsStart s start
  pub are_others : AreOthers s start.control c others

-- A location has the counts and ranges of a document, its rows are the given ones, and so many rows are wanted of it.
pub record IsRangedLocation (s : System) (given : List Row) (wanted : ℕ) (l : Location) : Type 0 where
  pub control : IsControlSet s l.control
  pub kept : AreKept s given
  pub few : length l.entries < 2 ^ 32
  pub count : length l.by_entry ≡ length given
  pub by_entry : All (IsRecord (length given)) l.by_entry
  pub by_first : l.by_first ≡ []
  pub conditions : (j : ℕ) (e : Entry) → slice_get l.entries j ≡ Some e → IsCondition s e.condition
  pub kinds : (j : ℕ) (e : Entry) → slice_get l.entries j ≡ Some e → IsRangedKind (length given + s.tests) wanted e.kind

-- A location of the certificate with these control states and rows: it is that of the claim, in range, and good throughout.
pub record IsPlaceOf (s : System) (c : RowClaim) (from : Frozen) (given : List Row) (l : Location) : Type 0 where
  pub control : l.control ≡ from
  pub claimed : IsClaimLocation s c given l
  pub ranged : IsRangedLocation s given (length c.rows) l
  pub good : (v : Valuation) → IsIn from v → IsRowTaken s c v → IsTrue (s.observer v)

-- What is proved of a certificate of a claim: it has no loop and is accepted, and the claim is good.
pub record IsProof (s : System) (c : RowClaim) (x : Certificate) : Type 0 where
  pub plain : ArePlain x
  pub accepted : IsAccepted s x
  pub good : IsRowGood s c
