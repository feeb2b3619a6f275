-- Places by their numbers, and what is found at them.
use Rattle.std.proofs.Common.{◌≡◌, inl, inr, ◌<◌, List, [], map, length, get_or, sym, ◌∙◌, ap, arith, Option, None as Nothing}
use Rattle.std.proofs.lemmas.List.{length-map, get_or-map, get_or_past}
use Rattle.std.proofs.lemmas.Bool.{cases_lt}
use Rattle.std.specs.List.{Contains}
use Rattle.rv_tree.specs.Places.{Sites, index_of}
use Rattle.rv_agreement.specs.Translation.{AreIndexed}
use Rattle.rv_meaning.proofs.FlowSites.{index_within}
use Rattle.rv_types.proofs.Members.{among_from, index_there}

-- the number of what is there is within, and finds it
pub indexed : (ps : List Sites) → AreIndexed ps
indexed ps = λ q w. index_there ps q (among_from ps q w)

-- what a number within a list finds there
pub index_is : (ps : List Sites) (q : Sites) → index_of ps q < length ps → get_or ps (index_of ps q) [] ≡ q
index_is ps q lt = (indexed ps q (index_within ps q lt)).1

-- Cells that are absent where no flow is stand in the row of the flows.
pub row_agrees : {Y : Type 0} (f : Sites → Option Y) (ps : List Sites) → ((q : Sites) → (Contains ps q → ⊥) → f q ≡ Nothing) → (q : Sites)
    → get_or (map f ps) (index_of ps q) Nothing ≡ f q
row_agrees f ps none q = elim (cases_lt (index_of ps q) (length ps)) [
  | inl lt ↦ get_or-map f ps (index_of ps q) [] Nothing lt ∙ ap f (index_is ps q lt)
  | inr le ↦ get_or_past (map f ps) (index_of ps q) Nothing (omega (arith, length-map ps f, le))
      ∙ sym (none q (λ w. absurd (omega (arith, (indexed ps q w).0, le))))
]
