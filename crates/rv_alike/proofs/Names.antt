-- Two flat systems of one program have the same names.
use Rattle.std.proofs.Common.{◌≡◌, List, [], ◌∷◌, map, refl, sym, ◌∙◌, ap}
use Rattle.rv_tree.specs.{Tree.ProgramTree, Places.Identifier}
use Rattle.rv_types.specs.Lists as lists
use Rattle.rv_flat.specs.{declared.flat.Flat.Flat, declared.parts.Bit.Bit, declared.parts.Column.Column, declared.parts.FlatInput.FlatInput, Lists.side_of}
use Rattle.rv_flat.specs.{Lists.variable_of, Lists.column_of, Systems.memory_of, FlatOf.IsFlatOf}
use Rattle.rv_flat.specs.declared.parts.Bit.TheVariants as bit
use Rattle.rv_flat.specs.declared.parts.Side as declared
use Rattle.rv_flat.specs.declared.parts.Side.TheVariants as side
use Rattle.rv_flat.specs.declared.parts.Column.TheVariants as column
use Rattle.rv_alike.proofs.Lists.{one_memories, one_variables, one_columns, one_thresholds}

-- what is read back of each element is read back of a list
read_back : {X Y : Type 0} (f : X → Y) (back : Y → X) → ((x : X) → back (f x) ≡ x) → (xs : List X) → map back (map f xs) ≡ xs
read_back f back is [] = refl
read_back f back is (x ∷ xs) = λ i. is x i ∷ read_back f back is xs i

same_list : {X Y : Type 0} (f : X → Y) (back : Y → X) → ((x : X) → back (f x) ≡ x) → (xs ys : List X) → map f xs ≡ map f ys → xs ≡ ys
same_list f back is xs ys e = sym (read_back f back is xs) ∙ ap (map back) e ∙ read_back f back is ys

declared_side : lists.Side → declared.Side
declared_side lists.AtMost = side.AtMost
declared_side lists.AtLeast = side.AtLeast

bit_of : lists.Variable → Bit
bit_of lists.MainTick = bit.MainTick
bit_of (lists.Tick p) = bit.Tick (record { sites = p })
bit_of (lists.Kept p b) = bit.Kept (record { sites = p }) b
bit_of lists.Next = bit.Next
bit_of (lists.Input j b) = bit.Input j b
bit_of (lists.Test p s) = bit.Test (record { sites = p }) (declared_side s)

side_back : (s : declared.Side) → declared_side (side_of s) ≡ s
unfolding declared_side
side_back side.AtMost = refl
side_back side.AtLeast = refl

bit_back : (b : Bit) → bit_of (variable_of b) ≡ b
unfolding bit_of
bit_back (bit.Test p s) = ap (bit.Test p) (side_back s)
bit_back _ = refl

declared_column : lists.Column → Column
declared_column (lists.KeptColumn p) = column.Kept (record { sites = p })
declared_column (lists.InputColumn j) = column.Input j

column_back : (c : Column) → declared_column (column_of c) ≡ c
unfolding declared_column
column_back (column.Kept p) = refl
column_back (column.Input j) = refl

-- inputs with the same names and types
one_inputs : (xs ys : List FlatInput) → map (λ x. x.name) xs ≡ map (λ x. x.name) ys → map (λ x. x.kind) xs ≡ map (λ x. x.kind) ys → xs ≡ ys
one_inputs [] [] names kinds = refl
one_inputs [] (y ∷ ys) names kinds = cc
one_inputs (x ∷ xs) [] names kinds = cc
one_inputs (x ∷ xs) (y ∷ ys) names kinds =
    let name : x.name ≡ y.name = cc in
    let kind : x.kind ≡ y.kind = cc in
    let more : map (λ (z : FlatInput). z.name) xs ≡ map (λ z. z.name) ys = cc in
    let others : map (λ (z : FlatInput). z.kind) xs ≡ map (λ z. z.kind) ys = cc in
    let rest = one_inputs xs ys more others in
    λ i. (let z : FlatInput = record { name = name i; kind = kind i } in z) ∷ rest i

module _ (program : ProgramTree) (main : Identifier) (f g : Flat) (first : IsFlatOf program main f) (second : IsFlatOf program main g) where
  pub same_main : f.main ≡ g.main
  same_main = first.name ∙ sym second.name

  pub same_variables : f.variables ≡ g.variables
  same_variables = same_list variable_of bit_of bit_back f.variables g.variables
      (one_variables program main (map variable_of f.variables) (map variable_of g.variables) first.variables second.variables)

  pub same_inputs : f.inputs ≡ g.inputs
  same_inputs = one_inputs f.inputs g.inputs (first.inputs ∙ sym second.inputs) (first.input_kinds ∙ sym second.input_kinds)

  pub same_columns : f.columns ≡ g.columns
  same_columns = same_list column_of declared_column column_back f.columns g.columns
      (one_columns program main (map column_of f.columns) (map column_of g.columns) first.columns second.columns)

  pub same_labels : f.labels ≡ g.labels
  same_labels = first.labels ∙ sym second.labels

  pub same_memories : map memory_of f.memories ≡ map memory_of g.memories
  same_memories = one_memories program main (map memory_of f.memories) (map memory_of g.memories) first.memories second.memories

  pub same_thresholds : f.thresholds ≡ g.thresholds
  same_thresholds = one_thresholds program f.thresholds g.thresholds first.thresholds second.thresholds
