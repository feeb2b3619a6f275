-- The numbers of a flat system, counted.
use Rattle.std.proofs.Common.{◌≡◌, ◌+◌, ◌≤◌, ℕ, Bool, true, false, cond, List, [], ◌∷◌, length, map, refl, sym, ◌∙◌, arith}
use Rattle.std.proofs.{lemmas.List.length-map, lemmas.List.Sums.count_by-le-length, lemmas.List.Recursion.is_count_by}
use Rattle.std.specs.List.{count_by}
use Rattle.rv_types.specs.Variables.{is_integer}
use Rattle.rv_agreement.specs.Valuations.{whole_count}
use Rattle.rv_flat.specs.{Facts.integers, Lists.variable_of, Systems.kept_of, declared.flat.Flat.Flat, declared.parts.Bit.Bit}
use Rattle.rv_flat.specs.{declared.parts.FlatMemory.FlatMemory}
use Rattle.rv_flat.specs.declared.parts.Bit.TheVariants as bit
use Rattle.rv_control.specs.Control.{order_tests, state_bits}
use Rattle.rv_invariant.specs.Shapes.{is_next, is_test, shape}

states-more : (b : Bit) (bs : List Bit) → state_bits (map variable_of (b ∷ bs)) ≡ cond (is_next b) (1 + state_bits (map variable_of bs))
    (state_bits (map variable_of bs))
unfolding state_bits
states-more bit.Next bs = omega arith
states-more _ bs = refl

states-none : state_bits (map variable_of []) ≡ 0
unfolding state_bits
states-none = refl

states-count : (bs : List Bit) → state_bits (map variable_of bs) ≡ count_by is_next bs
states-count = is_count_by (λ bs. state_bits (map variable_of bs)) is_next states-none states-more

tests-more : (b : Bit) (bs : List Bit) → order_tests (map variable_of (b ∷ bs)) ≡ cond (is_test b) (1 + order_tests (map variable_of bs))
    (order_tests (map variable_of bs))
unfolding order_tests
tests-more (bit.Test p s) bs = omega arith
tests-more _ bs = refl

tests-none : order_tests (map variable_of []) ≡ 0
unfolding order_tests
tests-none = refl

pub tests-count : (bs : List Bit) → order_tests (map variable_of bs) ≡ count_by is_test bs
tests-count = is_count_by (λ bs. order_tests (map variable_of bs)) is_test tests-none tests-more

by-one : (b : Bool) (n : ℕ) → cond b 1 0 + n ≡ cond b (1 + n) n
by-one true n = refl
by-one false n = omega arith

whole-count : (all ms : List FlatMemory) → whole_count (map (λ m. m.kind) (map (kept_of all) ms)) ≡ count_by (λ (m : FlatMemory). is_integer m.kind) ms
whole-count all = is_count_by (λ ms. whole_count (map (λ m. m.kind) (map (kept_of all) ms))) (λ (m : FlatMemory). is_integer m.kind) refl
    (λ m ms. by-one (is_integer m.kind) (whole_count (map (λ m. m.kind) (map (kept_of all) ms))))

integers-count : (ms : List FlatMemory) → integers (map (λ m. m.kind) ms) ≡ count_by (λ (m : FlatMemory). is_integer m.kind) ms
integers-count = is_count_by (λ ms. integers (map (λ m. m.kind) ms)) (λ (m : FlatMemory). is_integer m.kind) refl
    (λ m ms. by-one (is_integer m.kind) (integers (map (λ m. m.kind) ms)))

module _ (f : Flat) where
  pub shape-is : (a b d e : ℕ) → a ≡ count_by is_next f.variables → b ≡ length f.variables → d ≡ count_by (λ (m : FlatMemory). is_integer m.kind) f.memories
      → e ≡ count_by is_test f.variables
      → record { states = a; variables = b; memories = d; tests = e } ≡ shape f
  shape-is a b d e ha hb hd he =
      let pa = ha ∙ sym (states-count f.variables) in
      let pb = hb ∙ sym (length-map f.variables variable_of) in
      let pd = hd ∙ sym (whole-count f.memories f.memories) in
      let pe = he ∙ sym (tests-count f.variables) in
      λ i. record { states = pa i; variables = pb i; memories = pd i; tests = pe i }

  pub few-memories : count_by (λ (m : FlatMemory). is_integer m.kind) f.memories ≤ 64
  few-memories = let h = f.few_memories in omega (arith, h, integers-count f.memories)

  pub few-states : count_by is_next f.variables ≤ 4096
  few-states = let h = f.few_variables in omega (arith, h, count_by-le-length is_next f.variables)

  pub few-tests : count_by is_test f.variables ≤ 4096
  few-tests = let h = f.few_variables in omega (arith, h, count_by-le-length is_test f.variables)

  pub shape-memories : (shape f).memories ≤ 64
  shape-memories = let h = few-memories in omega (arith, h, whole-count f.memories f.memories)
