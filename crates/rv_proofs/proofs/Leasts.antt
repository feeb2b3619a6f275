-- The least closed claim, and claims of systems without integers.
use Rattle.std.proofs.Common.{◌≡◌, ℕ, ◌<◌, ℤ, Bool, List, [], IsTrue, arith, sym}
use Rattle.std.proofs.lemmas.Int.{ints}
use Rattle.rv_diagram.specs.Nodes.{Valuation}
use Rattle.rv_proofs.specs.Systems.{System}
use Rattle.rv_proofs.specs.Boxes.{BoxClaim, IsBoxClaim, IsInBox, IsOpen, IsTaken, IsClosed, IsGood, HasGoodBox}
use Rattle.rv_proofs.specs.Reached.{HasNoIntegers, IsTighter, IsLeastClosed, unbounded, IsControlClosed, HasGoodControl}

module _ (s : System) (c d : BoxClaim) (h : IsTighter s c d) where
  -- a tighter claim has narrower boxes, and fewer valuations are taken
  pub box_within : (v : Valuation) (point : List ℤ) → IsInBox s c v point → IsInBox s d v point
  box_within v point b = record {
    size = b.size;
    lower = λ on k x l e. let (a, is, le) = h.lower k x l e in let m = b.lower on k a l is in omega (arith, ints);
    upper = λ on k x l e. let (a, is, le) = h.upper k x l e in let m = b.upper on k a l is in omega (arith, ints);
    narrow = b.narrow;
  }

  pub taken_within : (v : Valuation) → IsTaken s c v → IsTaken s d v
  taken_within v t =
      let o = t.is_open in
      record {
        allowed = t.allowed;
        reached = h.reached v t.reached;
        is_open = record {
          some = (o.some.0, box_within v o.some.0 o.some.1);
          rows = λ n r l e. let (point, b, m) = o.rows n r l e in (point, box_within v point b, m);
        };
      }

-- the least closed claim is good where any closed claim is
pub least_good : (s : System) (thresholds : List ℤ) (c : BoxClaim) → IsLeastClosed s thresholds c → HasGoodBox s thresholds → IsGood s c
least_good s thresholds c least (d, claim, closed, good) v t = good v (taken_within s c d (least.least d claim closed) v t)

nothing_below : (n k : ℕ) → n ≡ 0 → k < n → ⊥
nothing_below n k e l = omega arith

-- without integers
module _ (s : System) (without : HasNoIntegers s) where
  pub open_all : (c : BoxClaim) (v : Valuation) → IsOpen s c v
  open_all c v = record { some = ([], inside); rows = λ t r l at. absurd (nothing_below s.tests t without.tests l) }
    where
      inside : IsInBox s c v []
      inside = record {
        size = sym without.columns;
        lower = λ on k b l at. absurd (nothing_below s.memories k without.memories l);
        upper = λ on k b l at. absurd (nothing_below s.memories k without.memories l);
        narrow = λ t r l at one. absurd (nothing_below s.tests t without.tests l);
      }

  taken_all : (c : BoxClaim) (v : Valuation) → IsTrue (s.allowed v) → IsTrue (c.reached v) → IsTaken s c v
  taken_all c v allowed reached = record { allowed = allowed; reached = reached; is_open = open_all c v }

  control_of : (thresholds : List ℤ) (c : BoxClaim) → IsBoxClaim s thresholds c → IsClosed s c → IsControlClosed s c.reached
  control_of thresholds c claim closed = record {
    state = claim.reached;
    initial = closed.initial;
    next = λ v allowed reached. closed.next v (taken_all c v allowed reached);
  }

  claim_of : (thresholds : List ℤ) (reached : Valuation → Bool) → IsControlClosed s reached → IsBoxClaim s thresholds (unbounded reached)
  claim_of thresholds reached closed = record {
    reached = closed.state;
    lower = λ k b l at. absurd (nothing_below s.memories k without.memories l);
    upper = λ k b l at. absurd (nothing_below s.memories k without.memories l);
  }

  closed_of : (reached : Valuation → Bool) → IsControlClosed s reached → IsClosed s (unbounded reached)
  closed_of reached closed = record {
    initial = closed.initial;
    next = λ v t. closed.next v t.allowed t.reached;
    lower = λ v t k b l at. absurd (nothing_below s.memories k without.memories l);
    upper = λ v t k b l at. absurd (nothing_below s.memories k without.memories l);
  }

  pub box_control : (thresholds : List ℤ) → HasGoodBox s thresholds → HasGoodControl s
  box_control thresholds (c, claim, closed, good) =
      (c.reached, control_of thresholds c claim closed, λ v allowed reached. good v (taken_all c v allowed reached))

  pub control_box : (thresholds : List ℤ) → HasGoodControl s → HasGoodBox s thresholds
  control_box thresholds (reached, closed, good) =
      (unbounded reached, claim_of thresholds reached closed, closed_of reached closed, λ v t. good v t.allowed t.reached)

  pub least_plain : (thresholds : List ℤ) (reached : Valuation → Bool) → IsControlClosed s reached
      → ((other : Valuation → Bool) → IsControlClosed s other → (v : Valuation) → IsTrue (reached v) → IsTrue (other v))
      → IsLeastClosed s thresholds (unbounded reached)
  least_plain thresholds reached closed below = record {
    claim = claim_of thresholds reached closed;
    closed = closed_of reached closed;
    least = λ d claim shut. record {
      reached = below d.reached (control_of thresholds d claim shut);
      lower = λ k b l at. absurd (nothing_below s.memories k without.memories l);
      upper = λ k b l at. absurd (nothing_below s.memories k without.memories l);
    };
  }
