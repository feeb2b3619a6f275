-- The `pre` and `current` of a node, put together with the types of their operands, are what is read.
use Rattle.std.proofs.Common.{◌≡◌, ◌+◌, ◌<◌, ℕ, List, [], ◌∷◌, map, drop, length, get_or, refl, ◌∙◌, ap, arith}
use Rattle.std.proofs.lemmas.List.{drop-drop, get_or-drop}
use Rattle.std.specs.Prelude.{slice_index_or}
use Rattle.rv_tree.specs.{Delays.Delay, Tree.NodeTree}
use Rattle.rv_types.specs.{declared.typed.Kind.Kind, Delayed.delayed_kinds, Types.Scope}
use Rattle.rv_types.specs.declared.typed.Kind.TheVariants as kind
use Rattle.rv_instances.specs.{declared.timed.ClockedDelay.ClockedDelay, Timed.delay_listed, Timed.delay_told}
use Rattle.rv_flatten.specs.Remembered.{ReadAt, read_told, read_by, joined, reads}
use Rattle.rv_base.proofs.Lists.{next_of}

pub joined_reads : (n : NodeTree) (s : Scope) (ds : List Delay) → joined n (delayed_kinds s ds) (map (delay_told n) ds) ≡ reads n s ds
joined_reads n s [] = refl
joined_reads n s (d ∷ ds) = ap (λ (l : List ReadAt). read_by n s d ∷ l) (joined_reads n s ds)

-- what is read from a number on
pub joined_more : (n : NodeTree) (ks : List Kind) (ds : List ClockedDelay) (j : ℕ) (d : ClockedDelay) → j < length ds → d ≡ get_or ds j d
    → joined n (drop j ks) (map delay_listed (drop j ds))
    ≡ read_told n (slice_index_or ks j kind.Bool) (delay_listed d) ∷ joined n (drop (j + 1) ks) (map delay_listed (drop (j + 1) ds))
joined_more n ks ds j d lt is =
    let kind : slice_index_or (drop j ks) 0 kind.Bool ≡ slice_index_or ks j kind.Bool =
    get_or-drop j ks 0 kind.Bool ∙ ap (λ k. slice_index_or ks k kind.Bool) (omega arith) in
    ap (λ (l : List ClockedDelay). joined n (drop j ks) (map delay_listed l)) (next_of ds j d lt is)
    ∙ (λ i. read_told n (kind i) (delay_listed d) ∷ joined n (drop-drop 1 j ks i) (map delay_listed (drop (j + 1) ds)))
