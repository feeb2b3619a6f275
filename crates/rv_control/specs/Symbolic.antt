-- The symbolic instant at a valuation, as a function.
use Rattle.std.specs.Prelude.{ℕ, zero, suc, List, [], ◌∷◌, ◌++◌, length, Option}
use Rattle.rv_agreement.specs.Valuations.{Valuation, Reading, reads_at, found_at}
use Rattle.rv_agreement.specs.{Trees.Item, Trees.nth_item, Trees.System, Evaluation.item_value}

module _ (s : System) (w : Valuation) where
  -- the readings of some flows, and of one more after them
  abbrev pub one_more : List (Option Reading) → Item → List (Option Reading)
  one_more row x = row ++ item_value Reading (reads_at s w) (found_at s w) row x ∷ []

  -- the readings of the first flows, as many as are said
  unfoldable pub first_readings : ℕ → List (Option Reading)
  first_readings zero = []
  first_readings (suc n) = one_more (first_readings n) (nth_item s.flows n)

  -- Flow by flow, in the order of evaluation, each has its reading where its clock is there.
  unfoldable pub symbolic : List (Option Reading)
  symbolic = first_readings (length s.flows)
