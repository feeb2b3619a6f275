-- Where a row claim takes a valuation.
use Rattle.std.proofs.Common.{◌≡◌, ◌↔◌, Bool, true, List, sym, ◌∙◌, subst, Result, Ok, Err, IfOk}
use Rattle.rv_rows.specs.{declared.linear.Row.Row, Multipliers.AreShutAtOnce}
use Rattle.rv_diagram.specs.Nodes.{Valuation}
use Rattle.rv_proofs.specs.RowClaims.{RowClaim, IsRowTaken, premises_at}
use Rattle.rv_proofs.specs.Systems.{System}

pub taken_is : (s : System) (c : RowClaim) (v : Valuation) (r allowed reached : Bool) (rows : List Row)
    → (r ≡ true) ↔ (((allowed ≡ true) × (reached ≡ true)) × ¬ AreShutAtOnce rows)
    → allowed ≡ s.allowed v → c.reached v ≡ reached → rows ≡ premises_at s c v → (r ≡ true) ↔ IsRowTaken s c v
taken_is s c v r allowed reached rows all is_allowed is_reached are = (to, from)
  where
    to : r ≡ true → IsRowTaken s c v
    to on =
        let ((a, b), is_open) = all.0 on in
        record {
          allowed = sym is_allowed ∙ a;
          reached = is_reached ∙ b;
          is_open = λ h. is_open (subst AreShutAtOnce (sym are) h);
        }

    from : IsRowTaken s c v → r ≡ true
    from t = all.1 ((is_allowed ∙ t.allowed, sym is_reached ∙ t.reached), λ h. t.is_open (subst AreShutAtOnce are h))

-- in place of one side, what it stands for
pub first_is : (r whole : Bool) (A B : Type 0) → (r ≡ true) ↔ ((whole ≡ true) × B) → (whole ≡ true) ↔ A → (r ≡ true) ↔ (A × B)
first_is r whole A B all some = (
  λ on. let (a, b) = all.0 on in (some.0 a, b),
  λ (a, b). all.1 (some.1 a, b),
)

-- where hints of no left side show a negative bound, the rows are shut at once
pub open_is : (r whole : Bool) (A B : Type 0) → (r ≡ true) ↔ ((whole ≡ true) × ¬ A) → B ↔ A → (r ≡ true) ↔ ((whole ≡ true) × ¬ B)
open_is r whole A B h same = (
  λ on. let (a, never) = h.0 on in (a, λ b. never (same.0 b)),
  λ (a, never). h.1 (a, λ x. never (same.1 x)),
)

pub ok_both : {X E : Type 0} (r : Result X E) (P Q : X → Type 0) → IfOk r P → IfOk r Q → IfOk r (λ x. P x × Q x)
ok_both (Ok x) P Q p q = (p, q)
ok_both (Err e) P Q p q = tt
