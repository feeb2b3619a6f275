-- The variables and columns over which a program is judged: the bits of its control memories and inputs, the ticks of
-- its clocks, the order tests of its comparisons. (Jeannet 2003 for the control state, Bryant 1986 for the diagrams.)
use Rattle.std.specs.Prelude.{ℕ, zero, suc, ◌+◌, ◌*◌, ◌^◌, Bool, true, false, ◌&&◌, ◌||◌, cond, nat_eq, nat_le, List, [], ◌∷◌, ◌++◌, flat_map, length, Some}
use Rattle.std.specs.Prelude.{None as Nothing}
use Rattle.rv_tree.specs.Tree.{Tree, Node, Form, True, False, Number, Named, Not, Minus, Pre, Current, When, Binary, If, AtMostOne, Call, Trees, None, More}
use Rattle.rv_tree.specs.Tree.{NodeTree, ProgramTree}
use Rattle.rv_tree.specs.{declared.tree.Op.Op, Places.Identifier, Places.Sites, Places.memory_site, Delays.Delay, Delays.node_delays}
use Rattle.rv_tree.specs.declared.tree.Op.TheVariants as op
use Rattle.rv_types.specs.Instances.{Instance, clock_in, node_of, all_instances}
use Rattle.rv_types.specs.{declared.typed.Kind.Kind, declared.typed.Clock.TheVariants.Base, Kinds.decl_kinds, Values.operand_kind, Values.labels_at}
use Rattle.rv_types.specs.declared.typed.Kind.TheVariants as kind

-- the sum over a list
abbrev pub total : {X : Type 0} → (X → ℕ) → List X → ℕ
total f [] = 0
total f (x ∷ xs) = f x + total f xs

abbrev pub is_integer : Kind → Bool
is_integer kind.Int = true
is_integer _ = false

-- Memories.

-- whether a number is among some
abbrev pub is_in : List ℕ → ℕ → Bool
is_in [] k = false
is_in (j ∷ js) k = nat_eq j k || is_in js k

-- one `pre` or `current` for each memory of a node that is not among these
abbrev pub memories_beside : NodeTree → List ℕ → List Delay → List Delay
memories_beside n seen [] = []
memories_beside n seen (d ∷ ds) = cond (is_in seen (memory_site n d.site d.operand))
    (memories_beside n seen ds)
    (d ∷ memories_beside n (memory_site n d.site d.operand ∷ seen) ds)

-- One `pre` or `current` for each memory of a node.
abbrev pub memories : NodeTree → List Delay
memories n = memories_beside n [] (node_delays n)

-- an expression and all that stand in it
abbrev mutual
  pub parts : Tree → List Tree
  parts (Node at site form) = Node at site form ∷ form_parts form

  pub form_parts : Form → List Tree
  form_parts True = []
  form_parts False = []
  form_parts (Number n) = []
  form_parts (Named x) = []
  form_parts (Not e) = parts e
  form_parts (Minus e) = parts e
  form_parts (Pre e) = parts e
  form_parts (Current e) = parts e
  form_parts (When e c) = parts e
  form_parts (Binary o a b) = parts a ++ parts b
  form_parts (If a b c) = parts a ++ (parts b ++ parts c)
  form_parts (AtMostOne es) = parts_of_all es
  form_parts (Call f es) = parts_of_all es

  pub parts_of_all : Trees → List Tree
  parts_of_all None = []
  parts_of_all (More e es) = parts e ++ parts_of_all es

-- all expressions of a node
abbrev pub node_parts : NodeTree → List Tree
node_parts n = flat_map (λ q. parts q.right) n.equations ++ flat_map (λ a. parts a.body) n.assertions

-- the least of some numbers of bits with which as many codes can be told apart
abbrev pub bits_from : ℕ → ℕ → ℕ → ℕ
bits_from zero b count = b
bits_from (suc more) b count = cond (nat_le count (2 ^ b)) b (bits_from more (b + 1) count)

-- The least number of bits for so many labels: none for one label.
abbrev pub bits_for : ℕ → ℕ
bits_for count = bits_from count 0 count

-- the bits of a control memory or input of a type; integers have none
abbrev pub kind_bits : ProgramTree → Kind → ℕ
kind_bits p kind.Bool = 1
kind_bits p kind.Int = 0
kind_bits p (kind.Labels i) = bits_for (labels_at p.types i)

-- the bits of the control memories of a node
abbrev pub memory_bits : ProgramTree → NodeTree → ℕ
memory_bits p n = total (λ d. kind_bits p (operand_kind p n d.operand)) (memories n)

-- the bits of the control inputs of a node
abbrev pub input_bits : ProgramTree → NodeTree → ℕ
input_bits p n = total (kind_bits p) (decl_kinds p n.inputs)

-- The order tests of a comparison: one tells `<=` and `>`, another `<` and `>=`, and both together `=` and `<>`.
abbrev pub tests_of : Op → ℕ
tests_of op.Equal = 2
tests_of op.Differs = 2
tests_of op.Less = 1
tests_of op.AtMost = 1
tests_of op.Greater = 1
tests_of op.AtLeast = 1
tests_of _ = 0

-- the order tests that an expression is itself, where it compares integers
abbrev pub own_tests : ProgramTree → NodeTree → Tree → ℕ
own_tests p n (Node at site (Binary o a b)) = cond (is_integer (operand_kind p n a)) (tests_of o) 0
own_tests p n _ = 0

-- the order tests of a node
abbrev pub order_tests : ProgramTree → NodeTree → ℕ
order_tests p n = total (own_tests p n) (node_parts n)

-- Ticks: each clock but main's on which a `->` stands has one.

abbrev pub is_arrow : Tree → Bool
is_arrow (Node at site (Binary op.Arrow a b)) = true
is_arrow _ = false

-- the flows of the clocks of the `->` of an instance, main's base clock left out
abbrev pub arrow_clocks : Instance → List Tree → List Sites
arrow_clocks i [] = []
arrow_clocks i (e ∷ es) = cond (is_arrow e) (elim (clock_in i Base e) as (λ _. List Sites) [ Nothing ↦ [] | Some p ↦ p ∷ [] ]) [] ++ arrow_clocks i es

abbrev pub same_place : Sites → Sites → Bool
same_place [] [] = true
same_place (x ∷ xs) (y ∷ ys) = nat_eq x y && same_place xs ys
same_place _ _ = false

abbrev pub is_place_in : List Sites → Sites → Bool
is_place_in [] p = false
is_place_in (q ∷ qs) p = same_place q p || is_place_in qs p

-- the different ones of some places
abbrev pub different : List Sites → List Sites
different [] = []
different (p ∷ ps) = cond (is_place_in ps p) (different ps) (p ∷ different ps)

-- Sums over the instances of a program.
module _ (p : ProgramTree) (main : Identifier) where
  -- the sum over all instances
  abbrev pub over_instances : (NodeTree → ℕ) → ℕ
  over_instances f = total (λ i. f i.node) (all_instances p main)

  -- the flows of the clocks that have a tick, each once
  abbrev pub ticks : List Sites
  ticks = different (flat_map (λ i. arrow_clocks i (node_parts i.node)) (all_instances p main))

  -- State bits are the main tick, the other ticks and those of the control memories, and each has a next copy. Then
  -- come those of the control inputs, and the order tests.
  abbrev pub variable_count : ℕ
  variable_count = 2 * (1 + (length ticks + over_instances (memory_bits p))) + (input_bits p (node_of p main) + over_instances (order_tests p))
