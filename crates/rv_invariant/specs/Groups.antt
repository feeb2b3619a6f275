-- Records that have a word, one field, and then groups of as many fields each.
use Rattle.std.specs.Prelude.{◌-◌, ◌/◌, ◌%◌, ◌&&◌, ◌||◌, ℕ, zero, suc, Bool, true, cond, nat_eq, nat_le, List, [], ◌∷◌, ◌++◌, length}
use Rattle.std.specs.Str.{bytes_eq}
use Rattle.rv_invfile.specs.{Rules.Fields, Rules.Form, Forms.word_of}

-- the word, and whole groups
abbrev pub is_grouped : List ℕ → ℕ → Fields → Bool
is_grouped word width r = bytes_eq (word_of r) word && (nat_le 2 (length r) && nat_eq ((length r - 2) % width) 0)

-- how many groups there are
abbrev pub group_count : ℕ → Fields → ℕ
group_count width r = (length r - 2) / width

-- Whether field i is right, by the number of its group and its place in the group.
abbrev pub in_group : ℕ → (Fields → ℕ → ℕ → Bool) → Fields → ℕ → Bool
in_group width right r i = right r ((i - 2) / width) ((i - 2) % width)

-- the field before the groups is right, and each field of them
abbrev pub groups_right : ℕ → (Fields → Bool) → (Fields → ℕ → ℕ → Bool) → Fields → ℕ → Bool
groups_right width head right r i = nat_eq i 0 || cond (nat_eq i 1) (head r) (in_group width right r i)

abbrev pub grouped : List ℕ → ℕ → (Fields → Bool) → (Fields → ℕ → ℕ → Bool) → Form
grouped word width head right = record {
  is_kind = is_grouped word width;
  is_program = λ r. true;
  allows = groups_right width head right;
}

-- what the first so many groups say
abbrev pub upto : {A : Type 0} → (Fields → ℕ → A) → Fields → ℕ → List A
upto item r zero = []
upto item r (suc k) = upto item r k ++ item r k ∷ []
