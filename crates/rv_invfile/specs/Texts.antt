-- What stands in fields: numbers, values and places.
use Rattle.std.specs.Prelude.{◌<◌, ◌≤◌, ◌+◌, ◌&&◌, ℕ, ℤ, pos, negsuc, neg_ℤ, Bool, true, false, cond, nat_le, nat_eq, int_le, List, [], ◌∷◌, ◌++◌, length}
use Rattle.std.specs.Prelude.{get_or, flat_map, Option, Some, None, ⊤, codes, option_map, decimal, ◌≤ℤ◌}
use Rattle.std.specs.{Str.bytes_eq, List.All, Fmt.signed_decimal, Str.Parse.digits_value, Cmp.Lexicographic.pointwise}
use Rattle.rv_base.specs.declared.value.Value.{Value}
use Rattle.rv_base.specs.declared.value.Value.TheVariants.{Flag, Label, Whole}
use Rattle.rv_types.specs.declared.typed.Kind.{Kind}
use Rattle.rv_types.specs.declared.typed.Kind.TheVariants as kind

-- the fields of records, compared
abbrev pub same_fields : List (List ℕ) → List (List ℕ) → Bool
same_fields = pointwise bytes_eq

-- The number that a text writes, where it writes one.
abbrev pub natural : List ℕ → ℕ
natural text = digits_value 10 text

abbrev pub whole : List ℕ → ℤ
whole [] = pos 0
whole (b ∷ bs) = cond (nat_eq b 45) (neg_ℤ (pos (natural bs))) (pos (natural (b ∷ bs)))

-- A text is a number of a range: decimal without leading zeros, with a minus only before a nonzero number.
abbrev pub is_natural : ℕ → ℕ → List ℕ → Bool
is_natural low high text = bytes_eq text (decimal (natural text)) && nat_le low (natural text) && nat_le (natural text) high

abbrev pub is_whole : ℤ → ℤ → List ℕ → Bool
is_whole low high text = bytes_eq text (signed_decimal (whole text)) && int_le low (whole text) && int_le (whole text) high

-- the sites of a place, joined by points
abbrev pub dotted : List ℕ → List ℕ
dotted [] = []
dotted (site ∷ sites) = decimal site ++ flat_map (λ s. 46 ∷ decimal s) sites

-- the range of values
abbrev pub least : ℤ
least = negsuc 9223372036854775807

abbrev pub greatest : ℤ
greatest = pos 9223372036854775807

-- the labels of each enumeration
abbrev pub Labels : Type 0
Labels = List (List (List ℕ))

abbrev pub label_at : Labels → ℕ → ℕ → List ℕ
label_at labels e n = get_or (get_or labels e []) n []

-- an enumeration has at most 256 labels
abbrev pub few : List (List ℕ) → Type 0
few labels = length labels ≤ 256

abbrev pub all_few : Labels → Type 0
all_few labels = All few labels

-- the text of a value of a type
abbrev pub value_text : Labels → Kind → Value → List ℕ
value_text labels k (Flag b) = cond b (codes "true") (codes "false")
value_text labels k (Whole z) = signed_decimal z
value_text labels kind.Bool (Label n) = []
value_text labels kind.Int (Label n) = []
value_text labels (kind.Labels e) (Label n) = label_at labels e n

-- a value of a type, an integer within the range
abbrev pub HasKind : Labels → Kind → Value → Type 0
HasKind labels kind.Bool (Flag b) = ⊤
HasKind labels kind.Bool (Label n) = ⊥
HasKind labels kind.Bool (Whole z) = ⊥
HasKind labels kind.Int (Flag b) = ⊥
HasKind labels kind.Int (Label n) = ⊥
HasKind labels kind.Int (Whole z) = (least ≤ℤ z) × (z ≤ℤ greatest)
HasKind labels (kind.Labels e) (Flag b) = ⊥
HasKind labels (kind.Labels e) (Label n) = n < length (get_or labels e [])
HasKind labels (kind.Labels e) (Whole z) = ⊥

-- the number of a label among these, the first of which has this number
abbrev pub label_from : ℕ → List (List ℕ) → List ℕ → Option ℕ
label_from n [] text = None
label_from n (l ∷ ls) text = cond (bytes_eq l text) (Some n) (label_from (n + 1) ls text)

abbrev pub flag_of : List ℕ → Option Bool
flag_of text = cond (bytes_eq text (codes "true")) (Some true) (cond (bytes_eq text (codes "false")) (Some false) None)

-- the value of a type that a text writes
abbrev pub value_of : Labels → Kind → List ℕ → Option Value
value_of labels kind.Bool text = option_map Flag (flag_of text)
value_of labels kind.Int text = cond (is_whole least greatest text) (Some (Whole (whole text))) None
value_of labels (kind.Labels e) text = option_map Label (label_from 0 (get_or labels e []) text)
