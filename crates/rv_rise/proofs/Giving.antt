-- What is given in a store that is the same, or has grown.
use Rattle.std.proofs.Common.{◌≡◌, ◌↔◌, Bool, true, IsTrue, arith, refl, subst, sym}
use Rattle.rv_diagram.specs.{Nodes.Diagrams, Nodes.IsMeant, Growing.Extends}
use Rattle.rv_rows.specs.Multipliers.{AreShutAtOnce}
use Rattle.rv_proofs.specs.Systems.{System, rows_of}
use Rattle.rv_pairs.specs.Telling.{Tells}
use Rattle.rv_pairs.proofs.Counting.{labels_stay, active_stays}
use Rattle.rv_symbolic.specs.{declared.relation.Relation.Relation, declared.relation.Parts.Parts, Represented.parts_of, Represented.IsRelationOf}
use Rattle.rv_symbolic.proofs.Scheduling.{relation_after}
use Rattle.rv_cases.specs.declared.asking.Questions.{Questions}
use Rattle.rv_cases.proofs.Keeping.{questions_later}
use Rattle.rv_rise.specs.{declared.frame.Frame.Frame, declared.asking.Asked.Asked, Rounds.IsGivenIn, Rounds.AreAsked}

pub given_allowed : (s : System) (old new : Diagrams) (r : Relation) → IsRelationOf s old r → new ≡ old → (p : Parts) → p ≡ parts_of r
    → IsMeant new.nodes s.allowed p.allowed
given_allowed s old new r of same p is =
    let parts = of.parts in
    let out = of.laid_out in
    let refs = out.refs in
    let here : IsMeant old.nodes s.allowed r.parts.allowed = (refs.allowed, parts.allowed) in
    subst (λ (d : Diagrams). IsMeant d.nodes s.allowed p.allowed) (sym same) (subst (λ (x : Parts). IsMeant old.nodes s.allowed x.allowed) (sym is) here)

pub allowed_of : (s : System) (d : Diagrams) (r : Relation) → IsRelationOf s d r → (p : Parts) → p ≡ parts_of r → IsMeant d.nodes s.allowed p.allowed
allowed_of s d r of p is = given_allowed s d d r of refl p is

pub asked_later : (s : System) (old new : Diagrams) (a : Asked) → Extends old new → AreAsked s old a → AreAsked s new a
asked_later s old new a e asked = record {
  found = let f = asked.found in omega (arith, f, e.longer);
  exact = λ v. subst (λ (b : Bool). (b ≡ true) ↔ (IsTrue (s.allowed v) × ¬ AreShutAtOnce (rows_of s v))) (sym (e.kept a.allowed asked.found v)) (asked.exact v);
  labels = labels_stay old new a.labels e asked.labels;
  told = λ v. subst (Tells (rows_of s v)) (sym (active_stays old new a.labels e asked.labels v)) (asked.told v);
}

pub given_there : (s : System) (old new : Diagrams) (r : Relation) (q : Questions) (f : Frame) → new ≡ old → IsGivenIn s old r q f → IsGivenIn s new r q f
given_there s old new r q f same given = subst (λ (d : Diagrams). IsGivenIn s d r q f) (sym same) given

pub given_later : (s : System) (old new : Diagrams) (r : Relation) (q : Questions) (f : Frame) → Extends old new → IsGivenIn s old r q f
    → IsGivenIn s new r q f
given_later s old new r q f e given = record {
  relation = relation_after s old new r e given.relation;
  questions = questions_later s old new q e given.questions;
  frame = given.frame;
}

pub asked_there : (s : System) (old new : Diagrams) (a : Asked) → new ≡ old → AreAsked s old a → AreAsked s new a
asked_there s old new a same asked = subst (λ (d : Diagrams). AreAsked s d a) (sym same) asked
