-- The laws of agreement that are used of what is read of a program.
use Rattle.std.specs.{Prelude.◌≡◌, Prelude.ℕ, Prelude.Bool, Prelude.List, Prelude.map, Prelude.Option, List.Contains}
use Rattle.rv_base.specs.declared.value.Value.{Value}
use Rattle.rv_tree.specs.{Tree.Tree, Tree.ProgramTree, Places.Identifier, Places.Sites, Places.index_of}
use Rattle.rv_types.specs.{Instances.Instance, Lists.Side}
use Rattle.rv_meaning.specs.{Givers.AreDefined, Instants.State as Brought, Instants.now, Runs.Instant, Runs.cell}
use Rattle.rv_agreement.specs.Programs.{FoundAt, found_of, meant, HasProducts, IsInstantOf, Compared, IsComparison}
use Rattle.rv_agreement.specs.Translation.{Numbers, tick_number, flat_of, Names, AreNamed, IsClockOf, AreIndexed, flat_compared, IsTranslated}
use Rattle.rv_agreement.specs.{Agreement.IsWell, Checks.IsChecked, Checks.IsInlined, Evaluation.Found, Evaluation.IsInstant, Evaluation.nth, Evaluation.value}
use Rattle.rv_agreement.specs.{Evaluation.integers, Trees.System, Valuations.Reading, Valuations.readings, Valuations.Comparison, Valuations.all_comparisons}

-- the names of an expression are found by their numbers as by their places
abbrev pub AreFound : (V : Type 0) → Numbers → Found V → FoundAt V → Instance → Tree → Type 0
AreFound V numbers found at_place i e = Names i (λ q. found.kept (index_of numbers.memories q) ≡ at_place.kept q)
    (λ k. found.ticked (tick_number numbers k) ≡ at_place.ticked k) (λ x. Unit {0}) e

-- and those of a whole program
abbrev pub AreAllFound : (V : Type 0) → ProgramTree → Identifier → Numbers → Found V → FoundAt V → Type 0
AreAllFound V program main numbers found at_place =
    AreNamed program main (λ q. found.kept (index_of numbers.memories q) ≡ at_place.kept q) (λ k. found.ticked (tick_number numbers k) ≡ at_place.ticked k)
    (λ i x. Unit {0})

-- each clock of a `when` is the flow's own
abbrev pub AreClocked : ProgramTree → Identifier → Numbers → System → Type 0
AreClocked program main numbers s = AreNamed program main (λ q. Unit {0}) (λ t. Unit {0}) (IsClockOf numbers s)

pub record Laws : Type 0 where
  pub whole : (program : ProgramTree) (numbers : Numbers) (found : Found Value) (row : List (Option Value)) (at_place : FoundAt Value)
      (cells : Sites → Option Value)
      → ((q : Sites) → nth Value integers row (index_of numbers.flows q) ≡ cells q) → (i : Instance) (e : Tree) → AreFound Value numbers found at_place i e
      → value Value integers found row (flat_of program numbers i e) ≡ meant Value integers program at_place cells i e
  pub meaning : (program : ProgramTree) (state : Brought) (inputs : ℕ → Value) (row : Instant) (i : Instance) (e : Tree)
      → HasProducts program state row i e → meant Value integers program (found_of state inputs) (cell row) i e ≡ now program state row i e
  pub instants : (program : ProgramTree) (main : Identifier) (numbers : Numbers) (s : System) (columns : ℕ) (test : Sites → Side → Bool) (found : Found Reading)
      (at_place : FoundAt Reading) (cells : Sites → Option Reading)
      → IsTranslated program main numbers s → ((j : ℕ) → found.given j ≡ at_place.given j) → AreAllFound Reading program main numbers found at_place
      → ((q : Sites) → nth Reading (readings columns test) (map cells numbers.flows) (index_of numbers.flows q) ≡ cells q)
      → IsInstantOf Reading (readings columns test) program main at_place cells → IsInstant Reading (readings columns test) s found (map cells numbers.flows)
  pub rows : (program : ProgramTree) (main : Identifier) (numbers : Numbers) (s : System) (columns : ℕ) (test : Sites → Side → Bool) (found : Found Reading)
      (at_place : FoundAt Reading) (row : List (Option Reading))
      → IsTranslated program main numbers s → ((j : ℕ) → found.given j ≡ at_place.given j) → AreAllFound Reading program main numbers found at_place
      → AreDefined program main → AreIndexed numbers.flows
      → IsInstant Reading (readings columns test) s found row → IsInstantOf Reading (readings columns test) program main at_place
      (λ q. nth Reading (readings columns test) row (index_of numbers.flows q))
  pub comparisons : (program : ProgramTree) (main : Identifier) (numbers : Numbers) (s : System) (c : Compared)
      → IsTranslated program main numbers s → AreDefined program main → AreIndexed numbers.flows → AreClocked program main numbers s
      → IsComparison program main c → Contains (all_comparisons s) (flat_compared program numbers c)
  pub only : (program : ProgramTree) (main : Identifier) (numbers : Numbers) (s : System) (d : Comparison)
      → IsTranslated program main numbers s → AreDefined program main → AreIndexed numbers.flows → AreClocked program main numbers s
      → Contains (all_comparisons s) d → (c : Compared) × IsComparison program main c × (d ≡ flat_compared program numbers c)
  pub well : (s : System) → IsChecked s → IsInlined s → IsWell s
