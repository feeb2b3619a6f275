-- What is given in a store that is the same, the parts of a claim, and what is answered.
use Rattle.std.proofs.Common.{◌≡◌, ℕ, ◌+◌, ◌<◌, ◌^◌, ℤ, List, length, Option, Some, ◌∙◌, arith, subst, sym, None as Nothing}
use Rattle.std.specs.Prelude.{MatchOption, IfSome, IfNone}
use Rattle.rv_proofs.specs.declared.certificate.Certificate.{Certificate}
use Rattle.rv_diagram.specs.Nodes.{Diagrams, IsMeant}
use Rattle.rv_proofs.specs.{Systems.System, RowClaims.IsRowClosed}
use Rattle.rv_symbolic.specs.{declared.relation.Relation.Relation, declared.relation.Parts.Parts, Represented.parts_of}
use Rattle.rv_cases.specs.declared.asking.Questions.{Questions}
use Rattle.rv_claims.specs.{declared.claim.Claim.Claim, Claiming.claim_of, Claiming.IsKeptClaim}
use Rattle.rv_claimed.specs.{declared.locations.Part.Part, Certifying.IsGiven, Building.IsStart, Building.AreOthers, Building.ArePartsOf}

pub given_allowed : (s : System) (old new : Diagrams) (r : Relation) (q : Questions) → IsGiven s old r q → new ≡ old → (p : Parts)
    → p ≡ parts_of r
    → IsMeant new.nodes s.allowed p.allowed
given_allowed s old new r q given same p is =
    let of = given.relation in
    let parts = of.parts in
    let out = of.laid_out in
    let refs = out.refs in
    let here : IsMeant old.nodes s.allowed r.parts.allowed = (refs.allowed, parts.allowed) in
    subst (λ (d : Diagrams). IsMeant d.nodes s.allowed p.allowed) (sym same) (subst (λ (x : Parts). IsMeant old.nodes s.allowed x.allowed) (sym is) here)

pub given_there : (s : System) (old new : Diagrams) (r : Relation) (q : Questions) → new ≡ old → IsGiven s old r q → IsGiven s new r q
given_there s old new r q same given = subst (λ (d : Diagrams). IsGiven s d r q) (sym same) given

pub parts_given : (s : System) (thresholds : List ℤ) (d : Diagrams) (r : Relation) (q : Questions) (c : Claim) (many : ℕ) (start others : Part)
    → many ≡ length q.rows → IsGiven s d r q → IsKeptClaim s thresholds c → IsRowClosed s (claim_of c) → length c.rows + many < 2 ^ 32
    → IsStart s start → AreOthers s start.control c others → ArePartsOf s many c start others
parts_given s thresholds d r q c many start others is_many given kept closed few st ot =
    let of = given.relation in
    let asked = given.questions in
    let tests = asked.many_tests in
    record {
      thresholds = thresholds;
      kept = kept;
      judge = record { system = of.system; tests = is_many ∙ tests; closed = closed; kept = kept.kept; few = omega (arith, few, is_many, tests) };
      is_start = st;
      are_others = ot;
    }

-- what is said of both answers, said of one
pub some_of : (B : Type 0) (o : Option Certificate) (P Q : Certificate → Type 0) → ((x : Certificate) → P x → Q x) → MatchOption o B P → IfSome o Q
some_of B Nothing P Q f h = tt
some_of B (Some x) P Q f h = f x h

pub none_of : (P : Certificate → Type 0) (o : Option Certificate) (B : Type 0) → MatchOption o B P → IfNone o B
none_of P Nothing B h = h
none_of P (Some x) B h = tt
