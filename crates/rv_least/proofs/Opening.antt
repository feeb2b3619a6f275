-- What a claim takes, in a store.
use Rattle.std.proofs.Common.{◌≡◌, ◌^◌, ◌≤◌, ℤ, List, Option, All, Result, Ok, Err, IfOk, refl, sym, subst}
use Rattle.std.proofs.lemmas.List.Elements.{All-contains}
use Rattle.std.specs.Int.RustNames.{unsigned_abs}
use Rattle.rv_diagram.specs.Nodes.{Diagrams}
use Rattle.rv_diagram.specs.Growing.{Extends}
use Rattle.rv_proofs.specs.{Systems.System, Boxes.BoxClaim}
use Rattle.rv_symbolic.specs.{declared.relation.Relation.Relation, declared.relation.Parts.Parts, Represented.parts_of}
use Rattle.rv_symbolic.proofs.Scheduling.{relation_after}
use Rattle.rv_cases.specs.declared.asking.Questions.{Questions}
use Rattle.rv_cases.proofs.Keeping.{questions_later}
use Rattle.rv_walk.specs.Ends.{has}
use Rattle.rv_ends.specs.{Sides.AreEndsOf, Claiming.AreSmall}
use Rattle.rv_ends.specs.Claiming as bounding
use Rattle.rv_taken.specs.{declared.opening.Opening.Opening, Taken.IsAsked, Taken.IsLimited}
use Rattle.rv_taken.specs.Taken as taking
use Rattle.rv_boxes.specs.{declared.frame.Frame.Frame, declared.claim.Claim.Claim, Claiming.claim_of, Limits.AreAmong, Opening.IsFrameOf}
use Rattle.rv_boxes.specs.Rounds.{IsGiven, IsKeptClaim}
use Rattle.rv_boxes.proofs.Giving.{given_allowed}
use Rattle.rv_least.specs.{declared.rounds.Asked.Asked, Opened.IsOpenedAt, Rounds.AreAsked}

pub is_asked : (s : System) (d : Diagrams) (r : Relation) (q : Questions) (f : Frame) → IsGiven s d r q f → (p : Parts) → p ≡ parts_of r
    → IsAsked s d q p.allowed
is_asked s d r q f given p same = let of = given.relation in record {
  system = of.system;
  questions = given.questions;
  allowed = given_allowed s d d r q f given refl p same;
}

pub is_limited : (s : System) (f : Frame) → IsFrameOf s f → (c : Claim) → IsKeptClaim s f c → IsLimited s c.reached c.upper c.lower
is_limited s f frame c kept = record {
  control = kept.control;
  states = kept.states;
  uppers = kept.uppers;
  lowers = kept.lowers;
  upper_small = small f.thresholds c.upper frame.small kept.upper_among;
  lower_small = small f.opposites c.lower frame.turned_small kept.lower_among;
}
  where
    small : (thresholds : List ℤ) (limits : List (Option ℤ)) → All (λ t. unsigned_abs t ≤ 2 ^ 41) thresholds → AreAmong thresholds limits → AreSmall limits
    small thresholds limits all among k b at = All-contains (λ (t : ℤ). unsigned_abs t ≤ 2 ^ 41) thresholds b all (among k b at)

pub is_opened : (s : System) (f : Frame) (d : Diagrams) (c : Claim) (o : Opening) → IsKeptClaim s f c
    → taking.IsTakenAt s d (bounding.claim_with (has c.reached) c.upper c.lower) o.taken → AreEndsOf s d.nodes c.upper c.lower o.ends
    → IsOpenedAt s d (claim_of c) o
is_opened s f d c o kept at are = record {
  taken = record { found = at.found; exact = at.exact };
  ends = are.ends;
  box = λ v t point. are.exact (has c.reached) v (kept.states v t.reached) point;
}

-- what is given in a store that has grown
pub given_later : (s : System) (old new : Diagrams) (r : Relation) (q : Questions) (f : Frame) → Extends old new → IsGiven s old r q f → IsGiven s new r q f
given_later s old new r q f e given = record {
  relation = relation_after s old new r e given.relation;
  questions = questions_later s old new q e given.questions;
  frame = given.frame;
}

pub both_ok : {A E : Type 0} (o : Result A E) (P Q R : A → Type 0) → ((r : A) → P r → Q r → R r) → IfOk o P → IfOk o Q → IfOk o R
both_ok (Ok r) P Q R f p q = f r p q
both_ok (Err e) P Q R f p q = tt

pub asked_there : (s : System) (old new : Diagrams) (q : Questions) (a : Asked) → new ≡ old → AreAsked s old q a → AreAsked s new q a
asked_there s old new q a same asked = subst (λ (d : Diagrams). AreAsked s d q a) (sym same) asked

pub opened_there : (s : System) (old new : Diagrams) (c : BoxClaim) (o : Opening) → new ≡ old → IsOpenedAt s old c o → IsOpenedAt s new c o
opened_there s old new c o same opened = subst (λ (d : Diagrams). IsOpenedAt s d c o) (sym same) opened
