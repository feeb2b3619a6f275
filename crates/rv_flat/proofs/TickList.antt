-- The ticks among the variables of a flat system are those of its program, each once.
use Rattle.std.proofs.Common.{◌≡◌, ℕ, zero, suc, ◌+◌, ◌<◌, List, [], ◌∷◌, ◌++◌, length, map, get_or, refl, sym, ◌∙◌, ap, subst}
use Rattle.std.proofs.lemmas.List.{append-nil}
use Rattle.rv_tree.specs.{Tree.ProgramTree, Places.Identifier, Places.Sites, Places.index_of}
use Rattle.rv_types.specs.Lists.{Side, Variable, MainTick, Tick, Kept, Input, Test, AreRising, MemoryAt, ComparisonAt, sides_of, bits, with_copies}
use Rattle.rv_types.specs.Lists.{memory_variables, input_variables, test_variables, AreVariables}
use Rattle.rv_types.specs.{declared.typed.Kind.Kind, Variables.kind_bits, Needs.IsBefore, Kinds.decl_kinds, Instances.node_of}
use Rattle.rv_flat.specs.{declared.parts.Bit.Bit, Lists.tick_places, Lists.variable_of}
use Rattle.rv_flat.specs.declared.parts.Bit.TheVariants as bit
use Rattle.rv_flat.proofs.PlaceNumbers.{its_number}
use Rattle.rv_types.proofs.PlaceOrders.{not_itself}

-- the first number of a place in a list that rises
pub number_at : (ps : List Sites) → AreRising ps → (k : ℕ) → k < length ps → index_of ps (get_or ps k []) ≡ k
number_at ps rising = its_number ps (λ j k lt less e. not_itself (get_or ps k []) (subst (λ p. IsBefore p (get_or ps k [])) e (rising j k lt less)))

-- the flows of the ticks among some variables
abbrev ticks_in : List Variable → List Sites
ticks_in [] = []
ticks_in (Tick p ∷ vs) = p ∷ ticks_in vs
ticks_in (_ ∷ vs) = ticks_in vs

ticks_same : (bs : List Bit) → tick_places bs ≡ ticks_in (map variable_of bs)
ticks_same [] = refl
ticks_same (bit.Tick p ∷ bs) = ap (λ ps. p.sites ∷ ps) (ticks_same bs)
ticks_same (_ ∷ bs) = ticks_same bs

ticks-append : (vs ws : List Variable) → ticks_in (vs ++ ws) ≡ ticks_in vs ++ ticks_in ws
ticks-append [] ws = refl
ticks-append (Tick p ∷ vs) ws = ap (λ ps. p ∷ ps) (ticks-append vs ws)
ticks-append (_ ∷ vs) ws = ticks-append vs ws

ticks-copies : (vs : List Variable) → ticks_in (with_copies vs) ≡ ticks_in vs
ticks-copies [] = refl
ticks-copies (Tick p ∷ vs) = ap (λ ps. p ∷ ps) (ticks-copies vs)
ticks-copies (_ ∷ vs) = ticks-copies vs

ticks-map : (ps : List Sites) → ticks_in (map Tick ps) ≡ ps
ticks-map [] = refl
ticks-map (p ∷ ps) = ap (λ qs. p ∷ qs) (ticks-map ps)

-- two lists without ticks, one after the other
no_more : (vs ws : List Variable) → ticks_in vs ≡ [] → ticks_in ws ≡ [] → ticks_in (vs ++ ws) ≡ []
no_more vs ws v w = ticks-append vs ws ∙ (λ i. v i ++ w i)

no_bit : (bit : ℕ → Variable) → ((j : ℕ) → ticks_in (bit j ∷ []) ≡ []) → (n : ℕ) → ticks_in (bits bit n) ≡ []
no_bit bit none zero = refl
no_bit bit none (suc n) = no_more (bits bit n) (bit n ∷ []) (no_bit bit none n) (none n)

no_memory : (p : ProgramTree) (ms : List MemoryAt) → ticks_in (memory_variables p ms) ≡ []
no_memory p [] = refl
no_memory p (m ∷ ms) = no_more (bits (Kept m.place) (kind_bits p m.kind)) (memory_variables p ms)
    (no_bit (Kept m.place) (λ j. refl) (kind_bits p m.kind)) (no_memory p ms)

no_input : (p : ProgramTree) (j : ℕ) (ks : List Kind) → ticks_in (input_variables p j ks) ≡ []
no_input p j [] = refl
no_input p j (k ∷ ks) = no_more (bits (Input j) (kind_bits p k)) (input_variables p (j + 1) ks)
    (no_bit (Input j) (λ i. refl) (kind_bits p k)) (no_input p (j + 1) ks)

no_side : (p : Sites) (ss : List Side) → ticks_in (map (Test p) ss) ≡ []
no_side p [] = refl
no_side p (s ∷ ss) = no_side p ss

no_test : (cs : List ComparisonAt) → ticks_in (test_variables cs) ≡ []
no_test [] = refl
no_test (c ∷ cs) = no_more (map (Test c.place) (sides_of c.operator)) (test_variables cs) (no_side c.place (sides_of c.operator)) (no_test cs)

-- the ticks of the variables of a program
pub ticks_told : (program : ProgramTree) (ticks : List Sites) (ms : List MemoryAt) (ks : List Kind) (cs : List ComparisonAt) (bs : List Bit)
    → map variable_of bs ≡ with_copies (MainTick ∷ map Tick ticks ++ memory_variables program ms) ++ (input_variables program 0 ks ++ test_variables cs)
    → tick_places bs ≡ ticks
ticks_told program ticks ms ks cs bs is =
    let first = MainTick ∷ map Tick ticks ++ memory_variables program ms in
    let later = input_variables program 0 ks ++ test_variables cs in
    ticks_same bs ∙ ap ticks_in is ∙ ticks-append (with_copies first) later
    ∙ ap (λ ps. ps ++ ticks_in later) (ticks-copies first ∙ ticks-append (MainTick ∷ map Tick ticks) (memory_variables program ms))
    ∙ (λ i. (ticks-map ticks i ++ no_memory program ms i)
    ++ no_more (input_variables program 0 ks) (test_variables cs) (no_input program 0 ks) (no_test cs) i)
    ∙ append-nil (ticks ++ []) ∙ append-nil ticks

-- so they rise
pub ticks_rising : (program : ProgramTree) (main : Identifier) (bs : List Bit) → AreVariables program main (map variable_of bs) → AreRising (tick_places bs)
ticks_rising program main bs are = subst AreRising
    (sym (ticks_told program are.ticks are.memories (decl_kinds program (node_of program main).inputs) are.comparisons bs are.list)) are.are_ticks.rising
