-- The ends of columns, premise by premise.
use Rattle.std.proofs.Common.{◌≡◌, ◌≢◌, ℕ, ◌+◌, ◌<◌, ◌≤◌, ℤ, pos, negsuc, ◌≤ℤ◌, List, length, Option, Some, arith, sym, ◌∙◌, subst, ◌⊎◌, inl, inr}
use Rattle.std.proofs.Common.{None as Nothing}
use Rattle.std.proofs.lemmas.List.{get_or-set_other, get_or-set_same, length-set}
use Rattle.std.proofs.{lemmas.Bool.cases_lt, lemmas.Bool.cases_eq, lemmas.Option.same_Some}
use Rattle.std.specs.Prelude.{slice_set, IfSome}
use Rattle.rv_rows.specs.{declared.linear.Row.Row, Rows.coefficient, Rows.row_at}
use Rattle.rv_proofs.specs.Boxes.{HasOneColumn, IsUnitAt}
use Rattle.rv_boxes.specs.declared.ends.End.{End}
use Rattle.rv_boxes.specs.Ends.{IsOnlyColumn, IsClosest, IsEnd, IsCloser, IsEndWith, AreEndsAmong, end_at, no_end}
use Rattle.rv_boxes.proofs.BoxLemmas.{unit_has_one}
use Rattle.rv_proofs.proofs.Claiming.{minus_one, plus_one}
use Rattle.rv_base.proofs.Numbers.{le_chain}

-- a row with one column has it
pub only_has_one : (r : Row) (k : ℕ) → IsOnlyColumn r k → HasOneColumn r
only_has_one r k only = (k, only.here, λ n ne. go n ne (cases_eq n k))
  where
    go : (n : ℕ) → coefficient n r ≢ pos 0 → (n ≡ k) ⊎ (n ≢ k) → n ≡ k
    go n ne (inl e) = e
    go n ne (inr apart) = absurd (ne (only.others n apart))

-- an end is a premise
pub end_there : (rows : List Row) (n k : ℕ) (c : ℤ) (best : Option ℕ) → IsEnd rows n k c best → n < length rows → (p : ℕ) → best ≡ Some p → p < length rows
end_there rows n k c (Some q) e l p is = let x = e.some in let t = x.there in let same = same_Some q p is in omega (arith, t, l, same)
end_there rows n k c Nothing e l p is = cc

module _ (rows : List Row) (n : ℕ) where
  -- one premise more that has not the number at the column alone
  end_same : (k : ℕ) (c : ℤ) (best : Option ℕ) → IsEnd rows n k c best → ¬ IsUnitAt (row_at rows n) k c → IsEnd rows (n + 1) k c best
  end_same k c (Some p) e off = record {
    some = let x = e.some in record { there = let t = x.there in omega (arith, t); unit = x.unit; closest = λ j l u. go j l u (cases_lt j n) };
    none = tt;
  }
    where
      go : (j : ℕ) → j < n + 1 → IsUnitAt (row_at rows j) k c → (j < n) ⊎ (n ≤ j) → (row_at rows p).bound ≤ℤ (row_at rows j).bound
      go j l u (inl less) = let x = e.some in x.closest j less u
      go j l u (inr more) = let same : j ≡ n = omega (arith, l, more) in absurd (off (subst (λ (i : ℕ). IsUnitAt (row_at rows i) k c) same u))
  end_same k c Nothing e off = record { some = tt; none = λ j l u. go j l u (cases_lt j n) }
    where
      go : (j : ℕ) → j < n + 1 → IsUnitAt (row_at rows j) k c → (j < n) ⊎ (n ≤ j) → ⊥
      go j l u (inl less) = e.none j less u
      go j l u (inr more) = let same : j ≡ n = omega (arith, l, more) in off (subst (λ (i : ℕ). IsUnitAt (row_at rows i) k c) same u)

  -- one premise more that has
  end_more : (k : ℕ) (c : ℤ) (best new : Option ℕ) → IsEnd rows n k c best → IsUnitAt (row_at rows n) k c → IsCloser rows best n new
      → IsEnd rows (n + 1) k c new
  end_more k c best new e unit closer = subst (IsEnd rows (n + 1) k c) (sym closer.is) (record { some = found best e closer.kept closer.before; none = tt })
    where
      last : (j : ℕ) → j < n + 1 → n ≤ j → (row_at rows closer.at).bound ≤ℤ (row_at rows j).bound
      last j l more =
          let same : n ≡ j = omega (arith, l, more) in
          subst (λ (i : ℕ). (row_at rows closer.at).bound ≤ℤ (row_at rows i).bound) same closer.here

      found : (o : Option ℕ) → IsEnd rows n k c o → (o ≡ Some closer.at) ⊎ (closer.at ≡ n)
          → IfSome o (λ q. (row_at rows closer.at).bound ≤ℤ (row_at rows q).bound) → IsClosest rows (n + 1) k c closer.at
      found (Some p) e kept before = record {
        there = there kept;
        unit = is_unit kept;
        closest = λ j l u. go j l u (cases_lt j n);
      }
        where
          there : (Some p ≡ Some closer.at) ⊎ (closer.at ≡ n) → closer.at < n + 1
          there (inl same) = let x = e.some in let t = x.there in let q = same_Some p closer.at same in omega (arith, t, q)
          there (inr same) = omega (arith, same)

          is_unit : (Some p ≡ Some closer.at) ⊎ (closer.at ≡ n) → IsUnitAt (row_at rows closer.at) k c
          is_unit (inl same) = let x = e.some in subst (λ (i : ℕ). IsUnitAt (row_at rows i) k c) (same_Some p closer.at same) x.unit
          is_unit (inr same) = subst (λ (i : ℕ). IsUnitAt (row_at rows i) k c) (sym same) unit

          go : (j : ℕ) → j < n + 1 → IsUnitAt (row_at rows j) k c → (j < n) ⊎ (n ≤ j) → (row_at rows closer.at).bound ≤ℤ (row_at rows j).bound
          go j l u (inl less) = let x = e.some in le_chain (row_at rows closer.at).bound (row_at rows p).bound (row_at rows j).bound before (x.closest j less u)
          go j l u (inr more) = last j l more
      found Nothing e kept before = record {
        there = let q = here kept in omega (arith, q);
        unit = subst (λ (i : ℕ). IsUnitAt (row_at rows i) k c) (sym (here kept)) unit;
        closest = λ j l u. go j l u (cases_lt j n);
      }
        where
          here : (Nothing ≡ Some closer.at) ⊎ (closer.at ≡ n) → closer.at ≡ n
          here (inl q) = cc
          here (inr same) = same

          go : (j : ℕ) → j < n + 1 → IsUnitAt (row_at rows j) k c → (j < n) ⊎ (n ≤ j) → (row_at rows closer.at).bound ≤ℤ (row_at rows j).bound
          go j l u (inl less) = absurd (e.none j less u)
          go j l u (inr more) = last j l more

  -- one premise more, whose column this is
  end_step : (k : ℕ) (c : ℤ) (old new : Option ℕ) (number : ℤ) → IsOnlyColumn (row_at rows n) k → number ≡ coefficient k (row_at rows n) → IsEnd rows n k c old
      → IsEndWith rows old number c n new → IsEnd rows (n + 1) k c new
  end_step k c old new number only is e (inl (same, closer)) =
      end_more k c old new e (record { here = sym is ∙ same; others = only.others }) closer
  end_step k c old new number only is e (inr (apart, same)) =
      subst (IsEnd rows (n + 1) k c) (sym same) (end_same k c old e (λ u. apart (is ∙ u.here)))

  -- one premise more, of another column
  end_beside : (j k : ℕ) (c : ℤ) (best : Option ℕ) → c ≢ pos 0 → IsOnlyColumn (row_at rows n) k → j ≢ k → IsEnd rows n j c best → IsEnd rows (n + 1) j c best
  end_beside j k c best ne only apart e = end_same j c best e (λ u. ne (sym u.here ∙ only.others j apart))

  module _ (ends : List End) (are : AreEndsAmong rows n (length ends) ends) where
    pub ends_none : ¬ HasOneColumn (row_at rows n) → AreEndsAmong rows (n + 1) (length ends) ends
    ends_none none = record {
      size = are.size;
      high = λ k l. end_same k (pos 1) (end_at ends k).high (are.high k l) (λ u. none (unit_has_one (row_at rows n) k (pos 1) plus_one u));
      low = λ k l. end_same k (negsuc 0) (end_at ends k).low (are.low k l) (λ u. none (unit_has_one (row_at rows n) k (negsuc 0) minus_one u));
    }

    pub ends_outside : (k : ℕ) → IsOnlyColumn (row_at rows n) k → length ends ≤ k → AreEndsAmong rows (n + 1) (length ends) ends
    ends_outside k only past = record {
      size = are.size;
      high = λ j l. end_beside j k (pos 1) (end_at ends j).high plus_one only (λ e. omega (arith, l, past, e)) (are.high j l);
      low = λ j l. end_beside j k (negsuc 0) (end_at ends j).low minus_one only (λ e. omega (arith, l, past, e)) (are.low j l);
    }

    pub ends_taken : (k : ℕ) → IsOnlyColumn (row_at rows n) k → k < length ends → (number : ℤ) → number ≡ coefficient k (row_at rows n) → (old next : End)
        → end_at ends k ≡ old → IsEndWith rows old.high number (pos 1) n next.high → IsEndWith rows old.low number (negsuc 0) n next.low
        → AreEndsAmong rows (n + 1) (length ends) (slice_set ends k next)
    ends_taken k only inside number is old next was high low = record {
      size = length-set ends k next;
      high = λ j l. elim (cases_eq j k) [
        | inl e ↦
            subst (λ (i : ℕ). IsEnd rows (n + 1) i (pos 1) (end_at (slice_set ends k next) i).high) (sym e)
            (subst (λ (x : End). IsEnd rows (n + 1) k (pos 1) x.high) (sym here)
            (end_step k (pos 1) old.high next.high number only is (subst (λ (x : End). IsEnd rows n k (pos 1) x.high) was (are.high k inside)) high))
        | inr apart ↦
            subst (λ (x : End). IsEnd rows (n + 1) j (pos 1) x.high) (sym (get_or-set_other ends k j next no_end apart))
            (end_beside j k (pos 1) (end_at ends j).high plus_one only apart (are.high j l))
      ];
      low = λ j l. elim (cases_eq j k) [
        | inl e ↦
            subst (λ (i : ℕ). IsEnd rows (n + 1) i (negsuc 0) (end_at (slice_set ends k next) i).low) (sym e)
            (subst (λ (x : End). IsEnd rows (n + 1) k (negsuc 0) x.low) (sym here)
            (end_step k (negsuc 0) old.low next.low number only is (subst (λ (x : End). IsEnd rows n k (negsuc 0) x.low) was (are.low k inside)) low))
        | inr apart ↦
            subst (λ (x : End). IsEnd rows (n + 1) j (negsuc 0) x.low) (sym (get_or-set_other ends k j next no_end apart))
            (end_beside j k (negsuc 0) (end_at ends j).low minus_one only apart (are.low j l))
      ];
    }
      where
        here : end_at (slice_set ends k next) k ≡ next
        here = get_or-set_same ends k next no_end inside
