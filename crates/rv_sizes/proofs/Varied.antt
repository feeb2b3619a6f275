-- The variables of diagrams, summed from capped numbers.
use Rattle.std.proofs.Common.{◌≡◌, ℕ, zero, suc, ◌+◌, ◌*◌, ◌≤◌, List, [], ◌∷◌, map, length, take, refl, ◌∙◌, ap, arith}
use Rattle.rv_tree.specs.{declared.tree.TypeDecl.TypeDecl, Delays.Delay, Tree.NodeTree, Tree.ProgramTree}
use Rattle.rv_types.specs.{declared.typed.Kind.Kind, Variables.total, Variables.memories, Variables.memory_bits, Variables.kind_bits, Values.operand_kind}
use Rattle.rv_instances.specs.Bits.{bits_of_all}
use Rattle.rv_sizes.specs.{Capped.capped, Memories.memory_kinds}
use Rattle.rv_instances.proofs.LabelCodes.{bits_same}
use Rattle.rv_types.proofs.DifferentPlaces.{total_map}

pub variables_counted : (ticks bits inputs tests a b c d : ℕ) → ticks ≡ capped a → bits ≡ capped b → inputs ≡ capped c → tests ≡ capped d
    → capped (2 * (1 + (ticks + bits)) + (inputs + tests)) ≡ capped (2 * (1 + (a + b)) + (c + d))
variables_counted ticks bits inputs tests a b c d e f g h = omega (arith, e, f, g, h)

pub bits_each : (p : ProgramTree) (ks : List Kind) → bits_of_all p.types ks ≡ total (kind_bits p) ks
bits_each p [] = refl
bits_each p (k ∷ ks) = λ i. bits_same p k i + bits_each p ks i

bits_here : (p : ProgramTree) (n : NodeTree) → bits_of_all p.types (memory_kinds p n) ≡ memory_bits p n
bits_here p n = bits_each p (memory_kinds p n) ∙ total_map (kind_bits p) (λ (d : Delay). operand_kind p n d.operand) (memories n)

bits_everywhere : (p : ProgramTree) (ns : List NodeTree) → map (λ (ks : List Kind). capped (bits_of_all p.types ks)) (map (memory_kinds p) ns) ≡ map
    (λ (n : NodeTree). capped (memory_bits p n)) ns
bits_everywhere p [] = refl
bits_everywhere p (n ∷ ns) = λ i. capped (bits_here p n i) ∷ bits_everywhere p ns i

pub bits_measured : (p : ProgramTree) (types : List TypeDecl) (kinds : List (List Kind)) (own : List ℕ) → types ≡ p.types
    → kinds ≡ map (memory_kinds p) p.nodes → own ≡ map (λ (ks : List Kind). capped (bits_of_all types ks)) kinds
    → own ≡ map (λ (n : NodeTree). capped (memory_bits p n)) p.nodes
bits_measured p types kinds own same each is = is ∙ (λ i. map (λ (ks : List Kind). capped (bits_of_all (same i) ks)) (each i)) ∙ bits_everywhere p p.nodes

pub take_length : {X : Type 0} (n : ℕ) (xs : List X) → n ≤ length xs → length (take n xs) ≡ n
take_length zero xs le = refl
take_length (suc n) [] le = absurd (omega (arith, le))
take_length (suc n) (x ∷ xs) le = ap suc (take_length n xs (omega (arith, le)))
