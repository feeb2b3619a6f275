-- The diagram variables by the declarations of types, as those of the program, and the ticks among them.
use Rattle.std.proofs.Common.{◌≡◌, ℕ, ◌+◌, List, [], ◌∷◌, ◌++◌, map, refl, sym, ◌∙◌, ap, append_assoc}
use Rattle.std.proofs.lemmas.Grind.{flat_map-append}
use Rattle.rv_tree.specs.{Tree.ProgramTree, Places.Sites, declared.tree.TypeDecl.TypeDecl}
use Rattle.rv_types.specs.{declared.typed.Kind.Kind, Lists.Variable, Lists.MainTick, Lists.Tick, Lists.Kept, Lists.Next, Lists.Input, Lists.MemoryAt}
use Rattle.rv_types.specs.{Lists.ComparisonAt, Lists.bits, Lists.with_copies, Lists.memory_variables, Lists.input_variables, Lists.test_variables}
use Rattle.rv_flat.specs.{declared.parts.Bit.Bit, Lists.tick_places, Lists.variable_of}
use Rattle.rv_instances.proofs.LabelCodes.{bits_same}
use Rattle.rv_flat.proofs.TickList.{ticks_told}
use Rattle.rv_flatten.specs.VariableLists.{kept_variables, given_variables}

-- Two lists with copies are those of one list.
pub copies-append : (vs ws : List Variable) → with_copies (vs ++ ws) ≡ with_copies vs ++ with_copies ws
copies-append vs ws = flat_map-append (λ v. v ∷ Next ∷ []) vs ws

-- the bits of memories and inputs of a program
kept_same : (p : ProgramTree) (ms : List MemoryAt) → kept_variables p.types ms ≡ memory_variables p ms
kept_same p [] = refl
kept_same p (m ∷ ms) = λ i. bits (Kept m.place) (bits_same p m.kind i) ++ kept_same p ms i

given_same : (p : ProgramTree) (j : ℕ) (ks : List Kind) → given_variables p.types j ks ≡ input_variables p j ks
given_same p j [] = refl
given_same p j (k ∷ ks) = λ i. bits (Input j) (bits_same p k i) ++ given_same p (j + 1) ks i

-- the whole list
abbrev pub listed_by : List TypeDecl → List Sites → List MemoryAt → List Kind → List ComparisonAt → List Variable
listed_by types ticks ms ks cs = with_copies (MainTick ∷ []) ++ (with_copies (map Tick ticks)
    ++ (with_copies (kept_variables types ms) ++ (given_variables types 0 ks ++ test_variables cs)))

pub list_same : (p : ProgramTree) (types : List TypeDecl) → p.types ≡ types
    → (ticks : List Sites) (ms : List MemoryAt) (ks : List Kind) (cs : List ComparisonAt)
    → listed_by types ticks ms ks cs ≡ with_copies (MainTick ∷ map Tick ticks ++ memory_variables p ms) ++ (input_variables p 0 ks ++ test_variables cs)
list_same p types e ticks ms ks cs =
    ap (λ ts. listed_by ts ticks ms ks cs) (sym e)
    ∙ (λ i. MainTick ∷ Next ∷ (with_copies (map Tick ticks) ++ (with_copies (kept_same p ms i) ++ (given_same p 0 ks i ++ test_variables cs))))
    ∙ ap (λ l. MainTick ∷ Next ∷ l)
    (sym (append_assoc (with_copies (map Tick ticks)) (with_copies (memory_variables p ms)) (input_variables p 0 ks ++ test_variables cs))
    ∙ ap (λ l. l ++ (input_variables p 0 ks ++ test_variables cs)) (sym (copies-append (map Tick ticks) (memory_variables p ms))))

-- The ticks among the variables, whose types are those of a program without nodes.
pub ticks_listed : (bs : List Bit) (types : List TypeDecl) (ticks : List Sites) (ms : List MemoryAt) (ks : List Kind) (cs : List ComparisonAt)
    → map variable_of bs ≡ listed_by types ticks ms ks cs → tick_places bs ≡ ticks
ticks_listed bs types ticks ms ks cs e = ticks_told bare ticks ms ks cs bs (e ∙ list_same bare types refl ticks ms ks cs)
  where
    bare : ProgramTree
    bare = record { types = types; constants = []; nodes = [] }
