-- What a search is given, and what it finds.
use Rattle.std.specs.Prelude.{◌+◌, ◌<◌, ◌^◌, ℕ, ℤ, List, length, ⊤}
use Rattle.rv_diagram.specs.{declared.Triple.Triple, Nodes.Diagrams, Nodes.IsRef}
use Rattle.rv_proofs.specs.{Systems.System, RowClaims.RowClaim, RowClaims.IsRowGood, declared.certificate.Certificate.Certificate}
use Rattle.rv_symbolic.specs.declared.relation.Relation.{Relation}
use Rattle.rv_cases.specs.declared.asking.Questions.{Questions}
use Rattle.rv_claims.specs.{declared.claim.Claim.Claim, Claiming.IsKeptClaim}
use Rattle.rv_cover.specs.Seeking.{IsDocument}
use Rattle.rv_claimed.specs.declared.searching.Found.{Found}
use Rattle.rv_claimed.specs.declared.searching.Found.TheVariants.{Bad, Shown, Unknown}
use Rattle.rv_claimed.specs.Certifying.{IsBad, IsGiven}

-- A system with its relation and questions in a store, and a claim of it that a certificate can be made of, whose rows and tests have numbers
-- in a document.
pub record IsSearchedFor (s : System) (thresholds : List ℤ) (d : Diagrams) (r : Relation) (q : Questions) (c : Claim) : Type 0 where
  pub given : IsGiven s d r q
  pub kept : IsKeptClaim s thresholds c
  pub few : length c.rows + length q.rows < 2 ^ 32

-- The claim is good, and the reference is one of the store.
pub record IsOpened (s : System) (nodes : List Triple) (c : RowClaim) (taken : ℕ) : Type 0 where
  pub good : IsRowGood s c
  pub found : IsRef nodes taken

-- The certificate has the counts and ranges of a document and no loop, and the claim is good.
pub record IsGoodDocument (s : System) (c : RowClaim) (x : Certificate) : Type 0 where
  pub document : IsDocument s x
  pub good : IsRowGood s c

-- What is found of a claim is so: it is bad, or the certificate is such a one.
abbrev pub IsFound : System → RowClaim → (Certificate → Type 0) → Found → Type 0
IsFound s c P Bad = IsBad s c
IsFound s c P (Shown x) = P x
IsFound s c P Unknown = ⊤
