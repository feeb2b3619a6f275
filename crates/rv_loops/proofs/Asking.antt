-- What is given to the checker of a system in a store, and that there are few questions.
use Rattle.std.proofs.Common.{◌≡◌, ◌↔◌, ◌<◌, ◌^◌, Bool, IsTrue, length, arith, sym, subst}
use Rattle.rv_diagram.specs.{Nodes.Diagrams}
use Rattle.rv_proofs.specs.{Systems.System, Systems.IsSystem, declared.certificate.Certificate.Certificate}
use Rattle.rv_symbolic.specs.{declared.relation.Relation.Relation, declared.relation.Parts.Parts, Represented.parts_of}
use Rattle.rv_symbolic.specs.Represented.{HaveRefs, AreParts}
use Rattle.rv_cases.specs.declared.asking.Questions.{Questions}
use Rattle.rv_cases.specs.Questions.{AreQuestions}
use Rattle.rv_accept.specs.Passing.{IsGiven as IsGivenToAccept}
use Rattle.rv_ranges.specs.{declared.bounds.Bounds.Bounds, Documents.IsDocument, Documents.AreBoundsOf}
use Rattle.rv_rise.specs.{Rounds.IsGiven}

-- what the checker is given
pub given_to : (s : System) (d : Diagrams) (r : Relation) (q : Questions) (p : Parts) (c : Certificate) → IsGiven s d r q → IsDocument s c → p ≡ parts_of r
    → IsGivenToAccept s d p q c
given_to s d r q p c given document is =
    let of = given.relation in
    let out = of.laid_out in record {
      held = record {
        system = of.system;
        refs = subst (HaveRefs d) (sym is) out.refs;
        means = subst (AreParts s d) (sym is) of.parts;
      };
      questions = given.questions;
      range = document.range;
      free = document.free;
    }

-- the certificate is a document where that was found
pub document_of : (s : System) (c : Certificate) (b : Bounds) (found : Bool) → AreBoundsOf s b
    → ((t : System) → AreBoundsOf t b → IsTrue found ↔ IsDocument t c) → IsTrue found → IsDocument s c
document_of s c b found are exact so = (exact s are).0 so

-- there are few questions
pub questions_few : (s : System) (d : Diagrams) (q : Questions) → IsSystem s → AreQuestions s d q → length q.questions < 2 ^ 32
questions_few s d q is ask =
    let limits = is.limits in let few = limits.tests in let less = limits.memories in
    let many = ask.many_tests in let more = ask.many_memories in let have = ask.answers in let all = have.many in
    omega (arith, few, less, many, more, all)
