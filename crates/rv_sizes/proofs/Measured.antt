-- What the sums over nodes say of a program.
use Rattle.std.proofs.Common.{◌≡◌, ℕ, zero, suc, cond, ◌<◌, min, List, [], ◌∷◌, map, length, get_or, replicate, refl, sym, ◌∙◌, ap, subst, arith}
use Rattle.rv_tree.specs.{Tree.NodeTree, Tree.ProgramTree, Delays.Delay}
use Rattle.rv_types.specs.{declared.typed.Kind.Kind, Names.name_faults, Instances.main_instance, Instances.all_instances, Instances.name_at}
use Rattle.rv_types.specs.{Variables.over_instances, Variables.is_integer, Variables.memories, Values.operand_kind}
use Rattle.rv_calls.specs.{declared.calls.Calling.Calling, Callings.callings_of}
use Rattle.rv_instances.specs.Counts.{instance_count, integer_memories}
use Rattle.rv_base.specs.Limits.{heaviest}
use Rattle.rv_sizes.specs.{Totals.total_at, Totals.AreTotals, Totals.AreCapped, Capped.capped, Memories.integers, Memories.memory_kinds}
use Rattle.rv_instances.proofs.{Known.node_of_number, Lists.length_map}
use Rattle.rv_calls.proofs.Recursions.{table_size}
use Rattle.rv_sizes.proofs.Unrolling.{unrolled_total, total_ones, capped_total}
use Rattle.rv_types.proofs.DifferentPlaces.{total_map}

pub replicated : {X : Type 0} (xs : List X) (a : ℕ) → replicate (length xs) a ≡ map (λ x. a) xs
replicated [] a = refl
replicated (x ∷ xs) a = ap (λ l. a ∷ l) (replicated xs a)

module _ (p : ProgramTree) (named : name_faults p ≡ []) (k : ℕ) (within : k < length p.nodes) where
  -- the sum over all instances of what each node has
  pub sum_measured : (f : NodeTree → ℕ) (own : List ℕ) (count : ℕ) → own ≡ map (λ (n : NodeTree). capped (f n)) p.nodes
      → count ≡ capped (total_at own (callings_of p) (length p.nodes) k) → count ≡ capped (over_instances p (name_at p k) f)
  sum_measured f own count each is =
      is ∙ ap (λ l. capped (total_at l (callings_of p) (length p.nodes) k)) each ∙ capped_total f p.nodes (callings_of p) (length p.nodes) k
      ∙ ap capped (sym (unrolled_total p named f (length p.nodes) (main_instance p (name_at p k)) k within (node_of_number p named k within)))

  pub instances_measured : (own : List ℕ) (count : ℕ) → own ≡ replicate (length p.nodes) 1 → count ≡ capped (total_at own (callings_of p) (length p.nodes) k)
      → count ≡ capped (instance_count p (name_at p k))
  instances_measured own count ones is =
      sum_measured (λ n. 1) own count (ones ∙ replicated p.nodes 1) is ∙ ap capped (total_ones (all_instances p (name_at p k)))

-- the sum of a node, read from the sums of all
pub total_read : (p : ProgramTree) (named : name_faults p ≡ []) (own totals : List ℕ) (t : List (List Calling)) (k sum : ℕ) → k < length p.nodes
    → t ≡ callings_of p → AreTotals own t totals → get_or totals k 0 ≡ sum → sum ≡ capped (total_at own (callings_of p) (length p.nodes) k)
total_read p named own totals t k sum within table sums read =
    let size : length t ≡ length p.nodes = ap length table ∙ table_size p named in
    sym read ∙ sums.value k (omega (arith, size, within)) ∙ (λ i. min (total_at own (table i) (size i) k) heaviest)

numbers_capped : (f : NodeTree → ℕ) (ns : List NodeTree) → AreCapped (map (λ (n : NodeTree). capped (f n)) ns)
numbers_capped f [] k lt = absurd (omega (arith, lt))
numbers_capped f (n ∷ ns) zero lt = omega arith
numbers_capped f (n ∷ ns) (suc k) lt = numbers_capped f ns k (omega (arith, lt))

-- numbers that are those of some nodes, capped, are as many and within the cap
pub of_each : (f : NodeTree → ℕ) (ns : List NodeTree) (own : List ℕ) → own ≡ map (λ (n : NodeTree). capped (f n)) ns
    → (length own ≡ length ns) × AreCapped own
of_each f ns own is = (ap length is ∙ length_map (λ (n : NodeTree). capped (f n)) ns, subst AreCapped (sym is) (numbers_capped f ns))

-- the integers among the types of memories are the integer memories
integers_here : (p : ProgramTree) (n : NodeTree) → integers (memory_kinds p n) ≡ integer_memories p n
integers_here p n = total_map (λ (k : Kind). cond (is_integer k) 1 0) (λ (d : Delay). operand_kind p n d.operand) (memories n)

integers_all : (p : ProgramTree) (ns : List NodeTree) → map (λ (ks : List Kind). capped (integers ks)) (map (memory_kinds p) ns) ≡ map
    (λ (n : NodeTree). capped (integer_memories p n)) ns
integers_all p [] = refl
integers_all p (n ∷ ns) = λ i. capped (integers_here p n i) ∷ integers_all p ns i

pub integers_measured : (p : ProgramTree) (kinds : List (List Kind)) (own : List ℕ) → kinds ≡ map (memory_kinds p) p.nodes
    → own ≡ map (λ (ks : List Kind). capped (integers ks)) kinds → own ≡ map (λ (n : NodeTree). capped (integer_memories p n)) p.nodes
integers_measured p kinds own each is = is ∙ ap (map (λ (ks : List Kind). capped (integers ks))) each ∙ integers_all p p.nodes
