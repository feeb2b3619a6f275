-- A flat system lists as many columns as its system has.
use Rattle.std.proofs.Common.{◌≡◌, ℕ, ◌+◌, Bool, true, false, cond, List, [], ◌∷◌, ◌++◌, length, map, refl, sym, ap, ◌∙◌, subst, arith}
use Rattle.std.proofs.lemmas.List.{length-map, length-append}
use Rattle.std.specs.List.{Contains}
use Rattle.rv_tree.specs.{Tree.ProgramTree, Places.Identifier}
use Rattle.rv_types.specs.Lists.{MemoryAt, AreMemories, IsAny, Column, KeptColumn, InputColumn, memory_columns, input_columns}
use Rattle.rv_types.specs.{declared.typed.Kind.Kind, Kinds.decl_kinds, Variables.is_integer, Instances.node_of}
use Rattle.rv_agreement.specs.Valuations.{whole_count}
use Rattle.rv_flat.specs.{declared.flat.Flat.Flat, declared.parts.FlatMemory.FlatMemory, FlatOf.IsFlatOf, Lists.column_of, Systems.memory_of, Systems.kept_of}
use Rattle.rv_control.specs.Control.{control_of}
use Rattle.rv_types.proofs.PlaceOrders.{one_list}

one_listing : (p : ProgramTree) (main : Identifier) (xs ys : List MemoryAt) → AreMemories p main IsAny xs → AreMemories p main IsAny ys → xs ≡ ys
one_listing p main xs ys a b = one_list xs ys a.rising b.rising (taken xs ys a b) (taken ys xs b a)
  where
    taken : (xs ys : List MemoryAt) → AreMemories p main IsAny xs → AreMemories p main IsAny ys → (m : MemoryAt) → Contains xs m → Contains ys m
    taken xs ys a b m w = let found = a.only m w in subst (Contains ys) (sym found.5) (b.all found.0 found.1 found.2 found.3 found.4)

-- ---- One column for each integer.
one_more : (b : Bool) (c : Column) (cs : List Column) (n : ℕ) → length cs ≡ n → length (cond b (c ∷ []) [] ++ cs) ≡ cond b 1 0 + n
one_more true c cs n e = omega (arith, e)
one_more false c cs n e = omega (arith, e)

memory_columns_many : (ms : List MemoryAt) → length (memory_columns ms) ≡ whole_count (map (λ m. m.kind) ms)
memory_columns_many [] = refl
memory_columns_many (m ∷ ms) = one_more (is_integer m.kind) (KeptColumn m.place) (memory_columns ms) (whole_count (map (λ m. m.kind) ms))
    (memory_columns_many ms)

input_columns_many : (j : ℕ) (ks : List Kind) → length (input_columns j ks) ≡ whole_count ks
input_columns_many j [] = refl
input_columns_many j (k ∷ ks) = one_more (is_integer k) (InputColumn j) (input_columns (j + 1) ks) (whole_count ks) (input_columns_many (j + 1) ks)

-- the types of the memories of a flat system are those of its system
kept_kinds : (all ms : List FlatMemory) → map (λ m. m.kind) (map memory_of ms) ≡ map (λ m. m.kind) (map (kept_of all) ms)
kept_kinds all [] = refl
kept_kinds all (m ∷ ms) = ap (λ (ks : List Kind). m.kind ∷ ks) (kept_kinds all ms)

pub columns_many : (p : ProgramTree) (main : Identifier) (f : Flat) → IsFlatOf p main f → length f.columns ≡ (control_of f).columns
columns_many p main f flat =
    let listed = flat.columns in
    let ms = listed.memories in
    let inputs = input_columns 0 (decl_kinds p (node_of p main).inputs) in
    let same : ms ≡ map memory_of f.memories = one_listing p main ms (map memory_of f.memories) listed.are_memories flat.memories in
    let kept : length (memory_columns ms) ≡ whole_count (map (λ m. m.kind) (map (kept_of f.memories) f.memories)) =
    memory_columns_many ms ∙ ap (λ (l : List MemoryAt). whole_count (map (λ (m : MemoryAt). m.kind) l)) same
    ∙ ap whole_count (kept_kinds f.memories f.memories) in
    let given : length inputs ≡ whole_count (map (λ i. i.kind) f.inputs) =
    input_columns_many 0 (decl_kinds p (node_of p main).inputs) ∙ ap whole_count (sym flat.input_kinds) in
    sym (length-map f.columns column_of) ∙ ap length listed.list ∙ length-append (memory_columns ms) inputs ∙ (λ i. kept i + given i)
