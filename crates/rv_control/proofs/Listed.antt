-- What the order of the diagram variables of a flat system is.
use Rattle.std.proofs.Common.{◌≡◌, ℕ, ◌<◌, List, [], ◌++◌, length, Option}
use Rattle.std.specs.{Prelude.slice_index_or, List.Contains}
use Rattle.rv_tree.specs.Places.{Sites}
use Rattle.rv_types.specs.Lists.{Side, sides_of, Variable, MainTick, Kept, Next, Input, Test, with_copies}
use Rattle.rv_agreement.specs.Trees.{System, memory_kinds, memory_places, kind_at}
use Rattle.rv_agreement.specs.{Agreement.bit_count, Valuations.Comparison, Valuations.all_comparisons}
use Rattle.rv_control.specs.Named.{tick_variable}

-- a tick of the system, or a bit of a control memory
pub data IsStateBit (s : System) (x : Variable) : Type 0 where
  a_tick : (t : Option Sites) → Contains s.ticks t → x ≡ tick_variable t → IsStateBit s x
  a_bit : (m b : ℕ) → m < length s.memories → b < bit_count s.labels (kind_at (memory_kinds s) m) → x ≡ Kept (slice_index_or (memory_places s) m []) b
      → IsStateBit s x

pub data IsInputBit (x : Variable) : Type 0 where
  a_bit_of : (j b : ℕ) → x ≡ Input j b → IsInputBit x

pub data IsTestBit (x : Variable) : Type 0 where
  a_test : (p : Sites) (side : Side) → x ≡ Test p side → IsTestBit x

-- The state bits with their next copies, then bits of inputs, then tests, among which are all that the system names.
pub record IsListed (s : System) (names : List Variable) : Type 0 where
  pub bits : List Variable
  pub given : List Variable
  pub order : List Variable
  pub list : names ≡ with_copies bits ++ (given ++ order)
  pub first : slice_index_or bits 0 Next ≡ MainTick
  pub some : 0 < length bits
  pub state_bits : (x : Variable) → Contains bits x → IsStateBit s x
  pub input_bits : (x : Variable) → Contains given x → IsInputBit x
  pub test_bits : (x : Variable) → Contains order x → IsTestBit x
  pub ticks : (t : Option Sites) → Contains s.ticks t → Contains bits (tick_variable t)
  pub memories : (m b : ℕ) → m < length s.memories → b < bit_count s.labels (kind_at (memory_kinds s) m)
      → Contains bits (Kept (slice_index_or (memory_places s) m []) b)
  pub inputs : (j b : ℕ) → j < length s.inputs → b < bit_count s.labels (kind_at s.inputs j) → Contains given (Input j b)
  pub tests : (c : Comparison) (side : Side) → Contains (all_comparisons s) c → Contains (sides_of c.operator) side → Contains order (Test c.at side)
