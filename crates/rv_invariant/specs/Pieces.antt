-- The single records of a certificate: diagrams, rows and multipliers.
use Rattle.std.specs.Prelude.{◌+◌, ◌-◌, ◌*◌, ◌^◌, ◌&&◌, ◌||◌, ℕ, zero, suc, Bool, true, cond, nat_eq, nat_le, nat_lt, ℤ, pos, List, [], ◌∷◌, length, map}
use Rattle.std.specs.Prelude.{flat_map, codes, decimal}
use Rattle.std.specs.{Str.bytes_eq, Fmt.signed_decimal, Int.RustNames.unsigned_abs}
use Rattle.rv_diagram.specs.{declared.Triple.Triple, declared.frozen.Frozen.Frozen}
use Rattle.rv_rows.specs.{declared.linear.Row.Row, declared.farkas.Weight.Weight, declared.farkas.Multipliers.Multipliers}
use Rattle.rv_invfile.specs.Rules.{Fields, Form, Rule, done, await}
use Rattle.rv_invfile.specs.{Parts.bind, Parts.times, Forms.field, Forms.is_worded, Forms.counts, Texts.natural, Texts.is_natural, Texts.whole}
use Rattle.rv_invariant.specs.{declared.counts.Shape.Shape, Shapes.may_stand, Groups.grouped, Groups.group_count, Groups.upto}

-- The text of a number below a limit. What is told by such numbers is held in 32 bits.
abbrev pub is_below : ℕ → List ℕ → Bool
is_below limit text = bytes_eq text (decimal (natural text)) && (nat_lt (natural text) limit && nat_lt (natural text) (2 ^ 32))

-- the text of a whole number of at most this magnitude
abbrev pub is_within : ℕ → List ℕ → Bool
is_within limit text = bytes_eq text (signed_decimal (whole text)) && nat_le (unsigned_abs (whole text)) limit

-- ---- Diagrams: a root, and three fields for each node, its variable and its children. Node i is told by i + 2.
abbrev pub variable_at : Fields → ℕ → ℕ
variable_at r k = natural (field r (2 + 3 * k))

-- a constant, or a node before this one that has a greater variable
abbrev pub is_child : Fields → ℕ → List ℕ → Bool
is_child r k text = is_below (k + 2) text && (nat_lt (natural text) 2 || nat_lt (variable_at r k) (variable_at r (natural text - 2)))

abbrev pub is_node_field : Shape → Bool → Fields → ℕ → ℕ → Bool
is_node_field s states r k zero = is_below s.variables (field r (2 + 3 * k)) && may_stand s states (variable_at r k)
is_node_field s states r k (suc zero) = is_child r k (field r (2 + 3 * k + 1))
is_node_field s states r k (suc (suc j)) = is_child r k (field r (2 + 3 * k + 2))

-- a constant or a node of the record
abbrev pub is_root : Fields → Bool
is_root r = is_below (group_count 3 r + 2) (field r 1)

abbrev pub diagram : Shape → List ℕ → Bool → Form
diagram s word states = grouped word 3 is_root (is_node_field s states)

abbrev pub triple_at : Fields → ℕ → Triple
triple_at r k = record { var = variable_at r k; lo = natural (field r (2 + 3 * k + 1)); hi = natural (field r (2 + 3 * k + 2)) }

abbrev pub frozen_of : Fields → Frozen
frozen_of r = record { nodes = upto triple_at r (group_count 3 r); root = natural (field r 1) }

-- ---- Rows: a bound, and a coefficient for each integer memory.
abbrev pub is_row_field : Fields → ℕ → Bool
is_row_field r i = nat_eq i 0 || is_within (cond (nat_eq i 1) (2 ^ 60) (2 ^ 30)) (field r i)

abbrev pub row_form : ℕ → Form
row_form memories = record { is_kind = is_worded (codes "row") (memories + 2); is_program = λ r. true; allows = is_row_field }

abbrev pub coefficient_at : Fields → ℕ → ℤ
coefficient_at r k = whole (field r (k + 2))

abbrev pub row_of : ℕ → Fields → Row
row_of memories r = record { coefficients = upto coefficient_at r memories; bound = whole (field r 1) }

-- ---- Multipliers: a divisor, and at most 256 pairs of a premise, each greater than the one before, and its weight.
abbrev pub least_at : Fields → ℕ → ℕ
least_at r zero = 0
least_at r (suc k) = natural (field r (2 + 2 * k)) + 1

abbrev pub is_pair_field : ℕ → Fields → ℕ → ℕ → Bool
is_pair_field premises r k zero = nat_lt k 256 && (is_below premises (field r (2 + 2 * k)) && nat_le (least_at r k) (natural (field r (2 + 2 * k))))
is_pair_field premises r k (suc j) = is_natural 1 (2 ^ 41) (field r (2 + 2 * k + 1))

abbrev pub is_divisor : ℕ → Fields → Bool
is_divisor greatest r = is_natural 1 greatest (field r 1)

abbrev pub by_form : ℕ → ℕ → Form
by_form greatest premises = grouped (codes "by") 2 (is_divisor greatest) (is_pair_field premises)

abbrev pub weight_at : Fields → ℕ → Weight
weight_at r k = record { premise = natural (field r (2 + 2 * k)); by = pos (natural (field r (2 + 2 * k + 1))) }

abbrev pub multipliers_of : Fields → Multipliers
multipliers_of r = record { divisor = pos (natural (field r 1)); weights = upto weight_at r (group_count 2 r) }

-- ---- The rules of one such record, and of a count with so many rows.
-- a set of control states, and a condition on valuations
abbrev pub a_diagram : Shape → List ℕ → Bool → Rule Frozen
a_diagram s word states = await (diagram s word states ∷ []) (λ r. done (frozen_of r))

abbrev pub a_row : ℕ → Rule Row
a_row memories = await (row_form memories ∷ []) (λ r. done (row_of memories r))

-- multipliers of so many premises, with a divisor of at most this
abbrev pub a_proof : ℕ → ℕ → Rule Multipliers
a_proof greatest premises = await (by_form greatest premises ∷ []) (λ r. done (multipliers_of r))

abbrev pub a_list : ℕ → List ℕ → ℕ → ℕ → Rule (List Row)
a_list memories word low high = bind (counts word low high) (λ n. times n (a_row memories))

-- ---- How they are written.
abbrev pub triple_texts : Triple → Fields
triple_texts t = decimal t.var ∷ decimal t.lo ∷ decimal t.hi ∷ []

abbrev pub diagram_record : List ℕ → Frozen → Fields
diagram_record word d = word ∷ decimal d.root ∷ flat_map triple_texts d.nodes

abbrev pub row_record : Row → Fields
row_record r = codes "row" ∷ signed_decimal r.bound ∷ map signed_decimal r.coefficients

abbrev pub weight_texts : Weight → Fields
weight_texts w = decimal w.premise ∷ signed_decimal w.by ∷ []

abbrev pub by_record : Multipliers → Fields
by_record m = codes "by" ∷ signed_decimal m.divisor ∷ flat_map weight_texts m.weights

-- a count, and the rows
abbrev pub list_records : List ℕ → List Row → List Fields
list_records word rows = (word ∷ decimal (length rows) ∷ []) ∷ map row_record rows
