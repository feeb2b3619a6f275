-- Bounds that depend on the valuation.
use Rattle.std.proofs.Common.{◌≡◌, ◌≤◌, ◌∙◌, ℕ, Bool, cond, List, Some, ap, sym, subst, arith}
use Rattle.std.proofs.Common.{None as Nothing}
use Rattle.std.specs.Int.RustNames.{unsigned_abs}
use Rattle.rv_diagram.specs.{declared.Triple.Triple, Nodes.Valuation, Nodes.IsRef, Nodes.value_of}
use Rattle.rv_rows.specs.declared.linear.Form.{Form}
use Rattle.rv_terms.specs.{declared.parted.Part.Part, Parts.form_at, Parts.IsTerm, Parts.IsTermOf, Parts.term_width}
use Rattle.rv_terms.proofs.Multiples.{some_part}
use Rattle.rv_ends.specs.{declared.sides.Side.Side, Sides.side_at, Sides.IsSide}

-- the bound of a side, by what its parts are at a valuation
pub side_at_from : (nodes : List Triple) (s : Side) (v : Valuation) (b : Bool) (f : Form) → value_of nodes s.there v ≡ b → form_at nodes s.end.parts v ≡ f
    → side_at nodes s v ≡ cond b (Some f.constant) Nothing
side_at_from nodes s v b f p q =
    ap (λ (x : Bool). cond x (Some (form_at nodes s.end.parts v).constant) Nothing) p ∙ ap (λ (g : Form). cond b (Some g.constant) Nothing) q

-- a side whose constants are known
pub side_from : (nodes : List Triple) (n : ℕ) (s : Side) (f : Valuation → Form) → IsRef nodes s.there → IsTerm nodes 0 s.end.parts
    → ((v : Valuation) → form_at nodes s.end.parts v ≡ f v) → ((v : Valuation) → unsigned_abs (f v).constant ≤ n) → IsSide nodes n s
side_from nodes n s f there term exact small = record {
  there = there;
  term = term;
  small = λ v. subst (λ (g : Form). unsigned_abs g.constant ≤ n) (sym (exact v)) (small v);
}

-- the width of a term without columns
pub no_width : (nodes : List Triple) (parts : List Part) → IsTerm nodes 0 parts → term_width parts ≡ 0
no_width nodes parts t = t.widths 0 (some_part nodes 0 parts t)

pub as_wide : (nodes : List Triple) (parts other : List Part) → IsTerm nodes 0 parts → IsTerm nodes 0 other → IsTerm nodes (term_width parts) other
as_wide nodes parts other t u = subst (λ (n : ℕ). IsTerm nodes n other) (sym (no_width nodes parts t)) u

pub as_narrow : (nodes old : List Triple) (parts other : List Part) (f : Valuation → Form) → IsTerm old 0 parts → IsTermOf nodes (term_width parts) f other
    → IsTermOf nodes 0 f other
as_narrow nodes old parts other f t u = subst (λ (n : ℕ). IsTermOf nodes n f other) (no_width old parts t) u

-- a side with a greater limit of its constants
pub side_within : (nodes : List Triple) (m n : ℕ) (s : Side) → m ≤ n → IsSide nodes m s → IsSide nodes n s
side_within nodes m n s le is = record { there = is.there; term = is.term; small = λ v. let h = is.small v in omega (arith, h, le) }

-- the same forms
pub term_same : (nodes : List Triple) (parts : List Part) (f g : Valuation → Form) → ((v : Valuation) → f v ≡ g v) → IsTermOf nodes 0 f parts
    → IsTermOf nodes 0 g parts
term_same nodes parts f g same t = record { term = t.term; width_is = t.width_is; filled = t.filled; exact = λ v. t.exact v ∙ same v }
