-- What is given in a store that is the same.
use Rattle.std.proofs.Common.{◌≡◌, subst, sym}
use Rattle.rv_diagram.specs.Nodes.{Diagrams, IsMeant}
use Rattle.rv_proofs.specs.Systems.{System}
use Rattle.rv_symbolic.specs.{declared.relation.Relation.Relation, declared.relation.Parts.Parts, Represented.parts_of}
use Rattle.rv_cases.specs.declared.asking.Questions.{Questions}
use Rattle.rv_boxes.specs.{declared.frame.Frame.Frame, Rounds.IsGiven}

pub given_allowed : (s : System) (old new : Diagrams) (r : Relation) (q : Questions) (f : Frame) → IsGiven s old r q f → new ≡ old → (p : Parts)
    → p ≡ parts_of r
    → IsMeant new.nodes s.allowed p.allowed
given_allowed s old new r q f given same p is =
    let of = given.relation in
    let parts = of.parts in
    let out = of.laid_out in
    let refs = out.refs in
    let here : IsMeant old.nodes s.allowed r.parts.allowed = (refs.allowed, parts.allowed) in
    subst (λ (d : Diagrams). IsMeant d.nodes s.allowed p.allowed) (sym same) (subst (λ (x : Parts). IsMeant old.nodes s.allowed x.allowed) (sym is) here)

pub given_there : (s : System) (old new : Diagrams) (r : Relation) (q : Questions) (f : Frame) → new ≡ old → IsGiven s old r q f → IsGiven s new r q f
given_there s old new r q f same given = subst (λ (d : Diagrams). IsGiven s d r q f) (sym same) given
