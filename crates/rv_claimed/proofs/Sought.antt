-- What a search is given in a store that has grown, and what follows from what it finds.
use Rattle.std.proofs.Common.{◌≡◌, ℕ, ℤ, Bool, true, false, List, MatchBool, refl, sym, ◌∙◌, subst, arith, if◌then◌else◌}
use Rattle.rv_diagram.specs.{Nodes.Diagrams, Nodes.IsMeant, Nodes.IsRef, Nodes.value_of, Nodes.Valuation, Nodes.Answers, Nodes.choice, Growing.Extends}
use Rattle.rv_diagram.specs.{declared.frozen.Frozen.Frozen}
use Rattle.rv_proofs.specs.{Systems.System, Ranges.IsControlSet, RowClaims.RowClaim, RowClaims.IsRowGood, declared.certificate.Certificate.Certificate}
use Rattle.rv_symbolic.specs.{declared.relation.Relation.Relation, declared.relation.Parts.Parts, Represented.parts_of, Represented.HaveRefs}
use Rattle.rv_symbolic.specs.{Represented.AreParts}
use Rattle.rv_symbolic.proofs.Scheduling.{relation_after}
use Rattle.rv_cases.specs.declared.asking.Questions.{Questions}
use Rattle.rv_cases.proofs.Keeping.{questions_later}
use Rattle.rv_accept.specs.Passing as accepting
use Rattle.rv_cover.specs.{declared.frame.By.TheVariants.Rows, Seeking.IsDocument, Seeking.IsSought}
use Rattle.rv_pairs.specs.Taking.{IsTakenAt}
use Rattle.rv_claims.specs.{declared.claim.Claim.Claim}
use Rattle.rv_claimed.specs.{Certifying.IsBad, Certifying.IsGiven, Searching.IsSearchedFor}
use Rattle.rv_base.proofs.Truths.{clash}

pub given_later : (s : System) (old new : Diagrams) (r : Relation) (q : Questions) → Extends old new → IsGiven s old r q → IsGiven s new r q
given_later s old new r q e given = record {
  relation = relation_after s old new r e given.relation;
  questions = questions_later s old new q e given.questions;
}

pub searched_later : (s : System) (thresholds : List ℤ) (old new : Diagrams) (r : Relation) (q : Questions) (c : Claim) → Extends old new
    → IsSearchedFor s thresholds old r q c → IsSearchedFor s thresholds new r q c
searched_later s thresholds old new r q c e is = record { given = given_later s old new r q e is.given; kept = is.kept; few = is.few }

pub searched_there : (s : System) (thresholds : List ℤ) (old new : Diagrams) (r : Relation) (q : Questions) (c : Claim) → new ≡ old
    → IsSearchedFor s thresholds old r q c → IsSearchedFor s thresholds new r q c
searched_there s thresholds old new r q c same is = subst (λ (d : Diagrams). IsSearchedFor s thresholds d r q c) (sym same) is

module _ (s : System) (d : Diagrams) (r : Relation) (q : Questions) (given : IsGiven s d r q) (p : Parts) (same : p ≡ parts_of r) where
  pub refs_of : HaveRefs d p
  refs_of = let of = given.relation in let out = of.laid_out in subst (λ (x : Parts). HaveRefs d x) (sym same) out.refs

  pub means_of : AreParts s d p
  means_of = let of = given.relation in subst (λ (x : Parts). AreParts s d x) (sym same) of.parts

  pub observer_found : IsRef d.nodes p.observer
  observer_found = let refs = refs_of in refs.observer

  pub allowed_means : IsMeant d.nodes s.allowed p.allowed
  allowed_means = let refs = refs_of in let means = means_of in (refs.allowed, means.allowed)

  -- what the search for a certificate is given
  pub sought_of : (thresholds : List ℤ) (c : Claim) → IsSearchedFor s thresholds d r q c → (first rest : Frozen) → IsControlSet s first → IsControlSet s rest
      → (taken : ℕ) → IsRef d.nodes taken → IsSought s d p q Rows first rest taken c.reached c.rows
  sought_of thresholds c is first rest first_set rest_set taken found = let of = given.relation in let k = is.kept in let rows = k.kept in record {
    system = of.system;
    questions = given.questions;
    refs = refs_of;
    parts = means_of;
    way = tt;
    first_set = first_set;
    rest_set = rest_set;
    reached_set = k.control;
    taken_found = found;
    kept = rows;
    few = let ask = given.questions in let many = ask.many_tests in let low = is.few in omega (arith, many, low);
  }

  -- what the checker is given
  pub checked_of : (c : Certificate) → IsDocument s c → accepting.IsGiven s d p q c
  checked_of c document = let of = given.relation in record {
    held = record { system = of.system; refs = refs_of; means = means_of };
    questions = given.questions;
    range = document.range;
    free = document.free;
  }

  -- whether the claim is good
  pub good_when : (c : RowClaim) (taken : ℕ) → IsTakenAt s d.nodes c taken → (yes : Bool) → MatchBool yes
      ((v : Valuation) → value_of d.nodes taken v ≡ true → value_of d.nodes p.observer v ≡ true)
      ((v : Valuation) × (value_of d.nodes taken v ≡ true) × (value_of d.nodes p.observer v ≡ false))
      → yes ≡ true → IsRowGood s c
  good_when c taken is true h e = λ v t. let means = means_of in sym (means.observer v) ∙ h v ((is.exact v).1 t)
  good_when c taken is false h e = cc

  pub bad_when : (c : RowClaim) (taken : ℕ) → IsTakenAt s d.nodes c taken → (yes : Bool) → MatchBool yes
      ((v : Valuation) → value_of d.nodes taken v ≡ true → value_of d.nodes p.observer v ≡ true)
      ((v : Valuation) × (value_of d.nodes taken v ≡ true) × (value_of d.nodes p.observer v ≡ false))
      → yes ≡ false → IsBad s c
  bad_when c taken is true h e = cc
  bad_when c taken is false (v, on, off) e = let means = means_of in (v, (is.exact v).0 on, sym (means.observer v) ∙ off)

-- a choice that is nowhere true, and one that is somewhere
within_all : (whole part none rest : Bool) → rest ≡ (if whole then none else part) → rest ≡ false → part ≡ true → whole ≡ true
within_all true part none rest e off on = refl
within_all false part none rest e off on = absurd (clash rest (e ∙ on) off)

within_not : (whole part none rest : Bool) → rest ≡ (if whole then none else part) → none ≡ false → rest ≡ true → (part ≡ true) × (whole ≡ false)
within_not true part none rest e off on = absurd (clash rest on (e ∙ off))
within_not false part none rest e off on = (sym e ∙ on, refl)

module _ (old new : Diagrams) (whole none part rest : ℕ) (off : (v : Valuation) → value_of old.nodes none v ≡ false)
    (a : Answers old new (choice old.nodes whole none part) rest) where
  pub is_within_all : ((v : Valuation) → value_of new.nodes rest v ≡ false) → (v : Valuation) → value_of old.nodes part v ≡ true
      → value_of old.nodes whole v ≡ true
  is_within_all nowhere v on = within_all (value_of old.nodes whole v) (value_of old.nodes part v) (value_of old.nodes none v) (value_of new.nodes rest v)
      (a.means v) (nowhere v) on

  pub is_within_not : (v : Valuation) → value_of new.nodes rest v ≡ true
      → (w : Valuation) × (value_of old.nodes part w ≡ true) × (value_of old.nodes whole w ≡ false)
  is_within_not v on =
      let p = within_not (value_of old.nodes whole v) (value_of old.nodes part v) (value_of old.nodes none v) (value_of new.nodes rest v) (a.means v)
      (off v) on in
      (v, p.0, p.1)
