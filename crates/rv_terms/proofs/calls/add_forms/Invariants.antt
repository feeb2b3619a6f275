use Rattle.std.proofs.Common.{length, ℕ, ◌<◌, ◌≡◌}
use Rattle.rv_diagram.specs.Nodes.{Valuation}
use Rattle.rv_diagram.specs.Growing.{Extends}
use Rattle.rv_terms.specs.{Parts.part_at, Parts.term_width, Parts.HasForm, Parts.AreClasses, Parts.chosen_form, Parts.IsFilledBy}
use Rattle.rv_terms.proofs.calls.add_forms.Given as goal

abbrev pub invariant-loop-part : goal.invariant-loop-part
invariant-loop-part l = record {
  extends : Extends l.initial.store l.store;
  parts : AreClasses l.store.nodes (term_width l.yes) (chosen_form l.initial.store.nodes l.test l.yes l.no) l.parts;
  has : (k : ℕ) → k < l.part-index → (v : Valuation) → chosen_form l.initial.store.nodes l.test l.yes l.no v ≡ (part_at l.from k).form
      → HasForm l.parts (part_at l.from k).form;
  stays : (j : ℕ) → j < length l.initial.parts → HasForm l.parts (part_at l.initial.parts j).form;
  growth : IsFilledBy l.initial.store l.store l.initial.parts l.parts;
}
