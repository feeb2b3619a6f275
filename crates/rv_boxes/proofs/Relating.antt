-- The relation of the valuations that a claim takes.
use Rattle.std.proofs.Common.{◌≡◌, ℕ, List, refl, sym, ap, ◌∙◌, subst}
use Rattle.rv_diagram.specs.{Nodes.Diagrams, Nodes.IsRef, Nodes.value_of}
use Rattle.rv_proofs.specs.{Systems.System}
use Rattle.rv_symbolic.specs.{declared.relation.Parts.Parts, Represented.HaveRefs, Represented.AreParts}
use Rattle.rv_boxes.specs.{Narrowed.narrowed, Layering.ArePartsWith}

parts_same : (a b : Parts) → a.allowed ≡ b.allowed → a.observer ≡ b.observer → a.initial ≡ b.initial → a.next ≡ b.next → a ≡ b
parts_same a b e f g h =
    ap (λ (x : ℕ). let p : Parts = record { allowed = x; observer = a.observer; initial = a.initial; next = a.next } in p) e
    ∙ ap (λ (x : ℕ). let p : Parts = record { allowed = b.allowed; observer = x; initial = a.initial; next = a.next } in p) f
    ∙ ap (λ (x : ℕ). let p : Parts = record { allowed = b.allowed; observer = b.observer; initial = x; next = a.next } in p) g
    ∙ ap (λ (x : List ℕ). let p : Parts = record { allowed = b.allowed; observer = b.observer; initial = b.initial; next = x } in p) h

abbrev with_allowed : Parts → ℕ → Parts
with_allowed p taken = record { allowed = taken; observer = p.observer; initial = p.initial; next = p.next }

with_is : (p q : Parts) (taken : ℕ) → ArePartsWith p taken q → with_allowed p taken ≡ q
with_is p q taken w = parts_same (with_allowed p taken) q (sym w.allowed_is) (sym w.observer) (sym w.initial) (sym w.next)

pub parts_refs : (d : Diagrams) (p q : Parts) (taken : ℕ) → HaveRefs d p → IsRef d.nodes taken → ArePartsWith p taken q → HaveRefs d q
parts_refs d p q taken refs found w = subst (HaveRefs d) (with_is p q taken w) (record {
  allowed = found;
  observer = refs.observer;
  initial = refs.initial;
  next = refs.next;
  copies = refs.copies;
})

pub parts_narrowed : (s : System) (d : Diagrams) (p q : Parts) (taken : ℕ) → AreParts s d p → ArePartsWith p taken q
    → AreParts (narrowed s (value_of d.nodes taken)) d q
parts_narrowed s d p q taken parts w = subst (AreParts (narrowed s (value_of d.nodes taken)) d) (with_is p q taken w) (record {
  variables = parts.variables;
  states = parts.states;
  allowed = λ v. refl;
  observer = parts.observer;
  initial = parts.initial;
  next = parts.next;
})
