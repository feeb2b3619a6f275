-- Several appends, one after another, are one append of what they append.
use Rattle.std.proofs.Common.{◌≡◌, ◌∙◌, List, ◌++◌, append_assoc}

append_seven : {X : Type 0} (old a b c d e f g : List X) → old ++ a ++ b ++ c ++ d ++ e ++ f ++ g ≡ old ++ (a ++ b ++ c ++ d ++ e ++ f ++ g)
append_seven old a b c d e f g = simp append_assoc

-- from what each of seven appends leaves
pub appended_seven : {X : Type 0} (old a b c d e f g t u v w x y z : List X) → t ≡ old ++ a → u ≡ t ++ b → v ≡ u ++ c → w ≡ v ++ d → x ≡ w ++ e
    → y ≡ x ++ f → z ≡ y ++ g → z ≡ old ++ (a ++ b ++ c ++ d ++ e ++ f ++ g)
appended_seven old a b c d e f g t u v w x y z p q r s h k l =
    let chained : z ≡ old ++ a ++ b ++ c ++ d ++ e ++ f ++ g = cc in
    chained ∙ append_seven old a b c d e f g

-- one append after what has been appended
pub appended_more : {X : Type 0} (old a b v w : List X) → v ≡ old ++ a → w ≡ v ++ b → w ≡ old ++ (a ++ b)
appended_more old a b v w p q =
    let chained : w ≡ old ++ a ++ b = cc in
    chained ∙ append_assoc old a b
