-- Bounds stay as they are while their store grows.
use Rattle.std.proofs.Common.{◌≡◌, ◌≤◌, ℕ, suc, ◌^◌, List, [], ◌∷◌, Option, Some, slice_get, ℤ, sym, subst, refl, arith}
use Rattle.std.specs.Int.RustNames.{unsigned_abs}
use Rattle.rv_diagram.specs.{Nodes.Valuation, Nodes.Diagrams, Nodes.value_of, Growing.Extends}
use Rattle.rv_rows.specs.declared.linear.Form.{Form}
use Rattle.rv_proofs.specs.Systems.{System}
use Rattle.rv_terms.specs.Parts.{form_at}
use Rattle.rv_terms.proofs.Combining.{term_later, form_later}
use Rattle.rv_ends.specs.{declared.sides.Side.Side, declared.ends.Ends.Ends, Intervals.Interval, Intervals.IsWithin}
use Rattle.rv_ends.specs.Sides.{side_at, IsSide, interval_of, box_at, AreEnds, AreEndsOf}
use Rattle.rv_ends.proofs.Sided.{side_at_from}

-- a side is one later
pub side_later : (old new : Diagrams) (n : ℕ) (s : Side) → Extends old new → IsSide old.nodes n s → IsSide new.nodes n s
side_later old new n s e is = record {
  there = omega (arith, is.there, e.longer);
  term = term_later old new 0 s.end.parts e is.term;
  small = λ v. subst (λ (f : Form). unsigned_abs f.constant ≤ n) (sym (form_later old new s.end.parts v e is.term.refs)) (is.small v);
}

-- with the same bounds
pub side_at_later : (old new : Diagrams) (n : ℕ) (s : Side) (v : Valuation) → Extends old new → IsSide old.nodes n s
    → side_at new.nodes s v ≡ side_at old.nodes s v
side_at_later old new n s v e is =
    side_at_from new.nodes s v (value_of old.nodes s.there v) (form_at old.nodes s.end.parts v) (e.kept s.there is.there v)
    (form_later old new s.end.parts v e is.term.refs)

-- the interval of a column is the same later
pub interval_later : (old new : Diagrams) (m n : ℕ) (e : Ends) (v : Valuation) → Extends old new → IsSide old.nodes m e.high → IsSide old.nodes n e.low
    → interval_of new.nodes v e ≡ interval_of old.nodes v e
interval_later old new m n e v x high low =
    let up : side_at new.nodes e.high v ≡ side_at old.nodes e.high v = side_at_later old new m e.high v x high in
    let down : side_at new.nodes e.low v ≡ side_at old.nodes e.low v = side_at_later old new n e.low v x low in
    λ i. record { high = up i; low = down i }

each_later : (old new : Diagrams) (ends : List Ends) (v : Valuation) → Extends old new
    → ((k : ℕ) (e : Ends) → slice_get ends k ≡ Some e → IsSide old.nodes (2 ^ 60) e.high)
    → ((k : ℕ) (e : Ends) → slice_get ends k ≡ Some e → IsSide old.nodes (2 ^ 60) e.low)
    → box_at new.nodes ends v ≡ box_at old.nodes ends v
each_later old new [] v x high low = refl
each_later old new (e ∷ es) v x high low =
    let here : interval_of new.nodes v e ≡ interval_of old.nodes v e = interval_later old new (2 ^ 60) (2 ^ 60) e v x (high 0 e refl) (low 0 e refl) in
    let rest : box_at new.nodes es v ≡ box_at old.nodes es v = each_later old new es v x (λ k f h. high (suc k) f h) (λ k f h. low (suc k) f h) in
    λ i. here i ∷ rest i

-- the box at a valuation is the same later
pub box_later : (old new : Diagrams) (n : ℕ) (ends : List Ends) (v : Valuation) → Extends old new → AreEnds old.nodes n ends
    → box_at new.nodes ends v ≡ box_at old.nodes ends v
box_later old new n ends v x are = each_later old new ends v x are.high are.low

-- ends are so later
pub ends_later : (old new : Diagrams) (n : ℕ) (ends : List Ends) → Extends old new → AreEnds old.nodes n ends → AreEnds new.nodes n ends
ends_later old new n ends x are = record {
  size = are.size;
  high = λ k e h. side_later old new (2 ^ 60) e.high x (are.high k e h);
  low = λ k e h. side_later old new (2 ^ 60) e.low x (are.low k e h);
}

-- the ends of a system with limits are so later
pub ends_of_later : (s : System) (old new : Diagrams) (upper lower : List (Option ℤ)) (ends : List Ends) → Extends old new
    → AreEndsOf s old.nodes upper lower ends → AreEndsOf s new.nodes upper lower ends
ends_of_later s old new upper lower ends x are = record {
  ends = ends_later old new s.columns ends x are.ends;
  exact = λ reached v some point.
      let is = are.exact reached v some point in
      let same : box_at new.nodes ends v ≡ box_at old.nodes ends v = box_later old new s.columns ends v x are.ends in (
        λ h. subst (λ (b : List Interval). IsWithin b point) (sym same) (is.0 h),
        λ h. is.1 (subst (λ (b : List Interval). IsWithin b point) same h),
      );
}
