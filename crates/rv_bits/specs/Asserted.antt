-- The parts of an assertion: the flow of its clock and its body.
use Rattle.std.specs.Prelude.{◌≡◌, ℕ, Bool, true, false, List, length, Option, Some, None as Nothing}
use Rattle.rv_base.specs.declared.value.Value.TheVariants.{Flag}
use Rattle.rv_types.specs.declared.typed.Kind.TheVariants as kind
use Rattle.rv_diagram.specs.Nodes.{Valuation, Diagrams, IsRef, value_of}
use Rattle.rv_diagram.specs.Growing.{Extends}
use Rattle.rv_agreement.specs.Valuations.{Reading, reads_at, found_at, IsSymbolic}
use Rattle.rv_agreement.specs.{Agreement.ItemFits, Evaluation.is_met, Trees.Item}
use Rattle.rv_control.specs.{Control.all_met, Named.named}
use Rattle.rv_flat.specs.{declared.flat.Flat.Flat, FlatInstants.system_of, RawTree.RawTree, RawTree.Node, RawTree.Constant, RawTree.Flow}
use Rattle.rv_bits.specs.declared.assertions.Guard.{Guard}
use Rattle.rv_bits.specs.declared.assertions.Guard.TheVariants as guard

-- the constant true
abbrev pub is_true_tree : RawTree → Bool
is_true_tree (Node at (Constant (Flag t))) = t
is_true_tree _ = false

-- what a choice is guarded by
abbrev pub guard_tree : RawTree → Guard
guard_tree (Node at (Constant (Flag true))) = guard.Always
guard_tree (Node at (Flow c)) = guard.Flow c
guard_tree _ = guard.Neither

abbrev pub guarded : RawTree → Guard → RawTree → Option ℕ × RawTree
guarded whole guard.Always body = (Nothing, body)
guarded whole (guard.Flow c) body = (Some c, body)
guarded whole guard.Neither body = (Nothing, whole)

-- whether an assertion is true or absent, at a valuation
abbrev pub met_at : Flat → Valuation → List (Option Reading) → Item → Bool
met_at f v row x = is_met Reading (reads_at (system_of f) (named f v)) (found_at (system_of f) (named f v)) row x

-- The calls gave a reference that is true exactly where the assertion is true or absent.
pub record IsMetRead (f : Flat) (old new : Diagrams) (x : Item) (r : ℕ) : Type 0 where
  pub extends : Extends old new
  pub is_ref : IsRef new.nodes r
  pub means : (v : Valuation) (row : List (Option Reading)) → IsSymbolic (system_of f) (named f v) row
      → ItemFits (system_of f) (length (system_of f).flows) kind.Bool x → value_of new.nodes r v ≡ met_at f v row x

-- The calls gave a reference that is true exactly where all assertions are true or absent.
pub record AreMetRead (f : Flat) (old new : Diagrams) (xs : List Item) (r : ℕ) : Type 0 where
  pub extends : Extends old new
  pub is_ref : IsRef new.nodes r
  pub means : (v : Valuation) (row : List (Option Reading)) → IsSymbolic (system_of f) (named f v) row
      → value_of new.nodes r v ≡ all_met (system_of f) (named f v) row xs
