-- What is read of a whole flat system.
use Rattle.std.proofs.Common.{◌≡◌, ℕ, Bool, ◌&&◌, List, refl, ◌∙◌, Option}
use Rattle.rv_diagram.specs.{Nodes.Valuation as Numbered, Nodes.Diagrams, Nodes.Answers, Nodes.IsRef, Nodes.value_of, Several.ref_at}
use Rattle.rv_diagram.specs.Growing.{Extends}
use Rattle.rv_diagram.proofs.Growing.{extends_trans, grows_extends}
use Rattle.rv_agreement.specs.{Trees.System, Valuations.Valuation, Valuations.Reading}
use Rattle.rv_control.specs.Control.{all_met, inputs_named, is_allowed, is_initial, memories_named, none_ticked}
use Rattle.rv_flat.specs.declared.flat.Flat.{Flat}
use Rattle.rv_bits.specs.Following.{AreNextRead}
use Rattle.rv_bits.proofs.Making.{ref_kept}
use Rattle.rv_symbolic.specs.Growing.{Makes}

-- a conjunction of what was made in turn, the later first
pub both_swapped : (a b c d : Diagrams) (f g : Numbered → Bool) (p q r : ℕ) → Makes a b f p → Makes b c g q
    → Answers c d (λ v. value_of c.nodes q v && value_of c.nodes p v) r → Makes a d (λ v. g v && f v) r
both_swapped a b c d f g p q r m n t = record {
  extends = extends_trans a c d (extends_trans a b c m.extends n.extends) (grows_extends c d t.grows);
  found = t.found;
  means = λ v. t.means v ∙ (λ i. n.means v i && (n.extends.kept p m.found v ∙ m.means v) i);
}

-- a conjunction of what was made and of a reference that there was
pub and_kept : (a b c : Diagrams) (f : Numbered → Bool) (p m r : ℕ) → Makes a b f p → IsRef a.nodes m
    → Answers b c (λ v. value_of b.nodes p v && value_of b.nodes m v) r → Makes a c (λ v. f v && value_of a.nodes m v) r
and_kept a b c f p m r made is t = record {
  extends = extends_trans a b c made.extends (grows_extends b c t.grows);
  found = t.found;
  means = λ v. t.means v ∙ (λ i. made.means v i && made.extends.kept m is v i);
}

pub initial_is : (s : System) (w : Valuation) → (none_ticked w s.ticks && memories_named s.labels w s.memories) ≡ is_initial s w
unfolding is_initial
initial_is s w = refl

pub allowed_is : (s : System) (w : Valuation) (row : List (Option Reading))
    → ((memories_named s.labels w s.memories && inputs_named s.labels w 0 s.inputs) && all_met s w row s.assertions) ≡ is_allowed s w row
unfolding is_allowed
allowed_is s w row = refl

pub next_between : (f : Flat) (a b c d : Diagrams) (n : ℕ) (refs : List ℕ) → Extends a b → AreNextRead f b c n refs → Extends c d → AreNextRead f a d n refs
next_between f a b c d n refs first are last = record {
  extends = extends_trans a b d first (extends_trans b c d are.extends last);
  size = are.size;
  each = λ i lt v row instant. last.kept (ref_at refs i) (are.are_refs i lt) v ∙ are.each i lt v row instant;
  are_refs = λ i lt. ref_kept c d (ref_at refs i) last (are.are_refs i lt);
}
