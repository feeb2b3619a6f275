-- The forms of records that documents share.
use Rattle.std.specs.Prelude.{◌&&◌, ◌||◌, ℕ, Bool, true, nat_eq, List, [], ◌∷◌, length, get_or, ⊤}
use Rattle.std.specs.Str.{bytes_eq}
use Rattle.rv_invfile.specs.{Rules.Fields, Rules.Form, Rules.Rule, Rules.done, Rules.await, Texts.same_fields, Texts.natural, Texts.is_natural}

abbrev pub word_of : Fields → List ℕ
word_of r = get_or r 0 []

abbrev pub field : Fields → ℕ → List ℕ
field r i = get_or r i []

-- the word of a kind, and so many fields
abbrev pub is_worded : List ℕ → ℕ → Fields → Bool
is_worded word n r = bytes_eq (word_of r) word && nat_eq (length r) n

-- this record alone, any other being of another kind
abbrev pub fixed : Fields → Form
fixed x = record { is_kind = λ r. same_fields r x; is_program = λ r. true; allows = λ r i. true }

-- the record with this word and one text of the program
abbrev pub named : List ℕ → List ℕ → Form
named word text = record { is_kind = is_worded word 2; is_program = λ r. bytes_eq (field r 1) text; allows = λ r i. true }

-- the record with this word and these texts of the program, of which another number is of another program
abbrev pub listed : List ℕ → List (List ℕ) → Form
listed word texts = record { is_kind = λ r. bytes_eq (word_of r) word; is_program = λ r. same_fields r (word ∷ texts); allows = λ r i. true }

-- a word and a count
abbrev pub counted : List ℕ → ℕ → ℕ → Form
counted word low high = record { is_kind = is_worded word 2; is_program = λ r. true; allows = λ r i. nat_eq i 0 || is_natural low high (field r i) }

-- ---- The rules of one such record.
abbrev pub exactly : Fields → Rule ⊤
exactly x = await (fixed x ∷ []) (λ r. done tt)

abbrev pub names : List ℕ → List ℕ → Rule ⊤
names word text = await (named word text ∷ []) (λ r. done tt)

abbrev pub lists : List ℕ → List (List ℕ) → Rule ⊤
lists word texts = await (listed word texts ∷ []) (λ r. done tt)

abbrev pub counts : List ℕ → ℕ → ℕ → Rule ℕ
counts word low high = await (counted word low high ∷ []) (λ r. done (natural (field r 1)))
