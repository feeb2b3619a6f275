-- What a flow needs at the same instant, sequences in which each flow stands after what it needs, and cycles.
use Rattle.std.specs.Prelude.{◌≡◌, ℕ, ◌<◌, ◌⊎◌, cond, List, [], ◌∷◌, ◌++◌, length, unwrap_or, Option, Some, slice_index_or, None as Nothing}
use Rattle.std.specs.List.{Contains, All}
use Rattle.rv_tree.specs.Tree.{Tree, Node, Form, True, False, Number, Named, Not, Minus, Pre, Current, When, Binary, If, AtMostOne, Call, Trees, None, More}
use Rattle.rv_tree.specs.Tree.{ProgramTree}
use Rattle.rv_tree.specs.Places.{Identifier, Sites, is_flow}
use Rattle.rv_types.specs.Instances.{CallTree, Right, Body, Output, IsRight, IsArgument, calls, Instance, place, absolute, clock_of, clock_taken}
use Rattle.rv_types.specs.Instances.{clock_of_arguments, output_place, node_of, IsInstance, IsFlow}
use Rattle.rv_types.specs.{declared.typed.Clock.Clock, declared.typed.Clock.TheVariants.Base}

-- the flow of a clock, if it is not that of main
abbrev pub flow_of : Option Sites → List Sites
flow_of Nothing = []
flow_of (Some p) = p ∷ []

module _ (program : ProgramTree) (i : Instance) where
  abbrev mutual
    -- What an expression that stands on the clock k needs: the flow of that clock, and what its operands need. They stand
    -- on the same clock, but for that of a `current` and that of a `when`. Of the operand of a `pre` only the flow of its
    -- clock is needed, which is that of the `pre`. A call needs the output, and not its arguments.
    pub needs : Clock → Tree → List Sites
    needs k (Node at site form) = flow_of (absolute i k) ++ form_needs k site form

    pub form_needs : Clock → Option ℕ → Form → List Sites
    form_needs k site True = []
    form_needs k site False = []
    form_needs k site (Number n) = []
    form_needs k site (Named x) = cond (is_flow i.node x) (place i x ∷ []) []
    form_needs k site (Not e) = needs k e
    form_needs k site (Minus e) = needs k e
    form_needs k site (Pre e) = []
    form_needs k site (Current e) = needs (clock_taken i Base e) e
    form_needs k site (When e c) = needs (clock_of i.node c.text) e
    form_needs k site (Binary o a b) = needs k a ++ needs k b
    form_needs k site (If a b c) = needs k a ++ (needs k b ++ needs k c)
    form_needs k site (AtMostOne es) = needs_all k es
    form_needs k site (Call f args) = output_place program i (unwrap_or site 0) f 0 ∷ []

    pub needs_all : Clock → Trees → List Sites
    needs_all k None = []
    needs_all k (More e es) = needs k e ++ needs_all k es

  -- what a right side needs, which takes the clock k where it is free
  abbrev pub needs_of_right : Clock → Right → List Sites
  needs_of_right k (Body e) = needs (clock_taken i k e) e
  needs_of_right k (Output c j) = flow_of (absolute i (clock_of_arguments i c.args)) ++ output_place program i c.site c.name j ∷ []

-- What gives a flow its value: an input of main, or a right side of an instance on a clock.
pub data Giver : Type 0 where
  Given : ℕ → Giver
  Of : Instance → Clock → Right → Giver

-- what the flow needs at the same instant
abbrev pub needs_of : ProgramTree → Giver → List Sites
needs_of program (Given j) = []
needs_of program (Of i k r) = needs_of_right program i k r

module _ (program : ProgramTree) (main : Identifier) where
  -- an input, an equation or an argument of an instance gives the flow at this place its value
  pub data Gives (p : Sites) : Giver → Type 0 where
    given : (j : ℕ) → j < length (node_of program main).inputs → j ∷ [] ≡ p → Gives p (Given j)
    by_equation : (i : Instance) (x : Identifier) (r : Right) → IsInstance program main i → IsRight i.node x r → place i x ≡ p
        → Gives p (Of i (clock_of i.node x) r)
    by_call : (i : Instance) (c : CallTree) (j : ℕ) (e : Tree) → IsInstance program main i → Contains (calls i.node) c → IsArgument c.args j e
        → i.path ++ c.site ∷ j ∷ [] ≡ p → Gives p (Of i (clock_of_arguments i c.args) (Body e))

  -- q is among the first k of the sequence
  abbrev pub IsAmongFirst : List Sites → ℕ → Sites → Type 0
  IsAmongFirst sequence k q = (j : ℕ) × (j < k) × (slice_index_or sequence j [] ≡ q)

  -- The flows of all instances, each once, each after what it needs at the same instant.
  pub record IsSequence (sequence : List Sites) : Type 0 where
    pub once : (j k : ℕ) → j < k → k < length sequence → slice_index_or sequence j [] ≡ slice_index_or sequence k [] → ⊥
    pub flows : (p : Sites) → IsFlow program main p → Contains sequence p
    pub only : (k : ℕ) → k < length sequence → IsFlow program main (slice_index_or sequence k [])
    pub after : (k : ℕ) (g : Giver) → k < length sequence → Gives (slice_index_or sequence k []) g → All (IsAmongFirst sequence k) (needs_of program g)

  -- p needs q at the same instant
  abbrev pub NeedsFlow : Sites → Sites → Type 0
  NeedsFlow p q = (g : Giver) × Gives p g × Contains (needs_of program g) q

  -- p needs the first, each needs the next, and the last needs q
  abbrev pub Leads : Sites → List Sites → Sites → Type 0
  Leads p [] q = NeedsFlow p q
  Leads p (r ∷ rs) q = NeedsFlow p r × Leads r rs q

  -- A cycle: a nonempty list of flows, each of which needs the next, and the last the first.
  abbrev pub IsCycle : List Sites → Type 0
  IsCycle [] = ⊥
  IsCycle (p ∷ ps) = Leads p ps p

-- places in their order: a proper prefix first, then by the first number that differs
abbrev pub IsBefore : Sites → Sites → Type 0
IsBefore p [] = ⊥
IsBefore [] (y ∷ ys) = Unit {0}
IsBefore (x ∷ xs) (y ∷ ys) = (x < y) ⊎ ((x ≡ y) × IsBefore xs ys)

-- none of some places stands before the first
abbrev pub StartsWithLeast : List Sites → Type 0
StartsWithLeast [] = Unit {0}
StartsWithLeast (p ∷ ps) = (q : Sites) → Contains ps q → IsBefore q p → ⊥
