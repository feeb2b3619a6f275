-- The layers of the least closed claim are those of the system whose allowed valuations are the taken ones.
use Rattle.std.proofs.Common.{◌≡◌, ◌↔◌, ℕ, zero, suc, ◌*◌, ◌<◌, ℤ, Bool, true, false, List, IsTrue, arith, refl, sym, ◌∙◌}
use Rattle.rv_diagram.specs.{Nodes.Valuation, declared.frozen.Frozen.Frozen}
use Rattle.rv_proofs.specs.Reached.{HasNoIntegers, IsLeastClosed, Reaches, AreLayers, IsControlClosed, unbounded}
use Rattle.rv_proofs.specs.{Systems.System, Systems.IsSystem, Systems.HasSameState, Systems.IsSameValuation, Systems.IsRead, Boxes.BoxClaim, Boxes.IsBoxClaim}
use Rattle.rv_proofs.specs.{Boxes.IsInBox, Boxes.IsTaken, Boxes.IsClosed, declared.certificate.Certificate.Certificate, declared.report.Layers.Layers}
use Rattle.rv_proofs.proofs.Leasts.{open_all}
use Rattle.rv_walk.specs.Ends.{has, IsLeastControl, IsGoodCertificate, AreBadLayers}
use Rattle.rv_boxes.specs.Narrowed.{narrowed}
use Rattle.rv_diagram.proofs.Several.{same_truth}

module _ (s : System) (is : IsSystem s) (thresholds : List ℤ) (c : BoxClaim) (claim : IsBoxClaim s thresholds c)
    (some_states : (v : Valuation) → IsTrue (c.reached v) → 0 < s.states)
    (open_at : Valuation → Bool) (exact : (v : Valuation) → (open_at v ≡ true) ↔ IsTaken s c v) where
  state_read : (x i : ℕ) → i < s.states → x ≡ 2 * i → IsRead s x
  state_read x i l e = let b = is.bits in (omega (arith, l, e, b), λ j m odd. omega (arith, e, odd))

  same_state : (v w : Valuation) → IsSameValuation s v w → HasSameState s v w
  same_state v w same x (i, l, e) = same x (state_read x i l e)

  box_same : (v w : Valuation) → 0 < s.states → IsSameValuation s v w → (point : List ℤ) → IsInBox s c v point → IsInBox s c w point
  box_same v w states same point b =
      let tick : v 0 ≡ w 0 = same 0 (state_read 0 0 states refl) in
      record {
        size = b.size;
        lower = λ on. b.lower (tick ∙ on);
        upper = λ on. b.upper (tick ∙ on);
        narrow = λ t r l at. b.narrow t r l (is.row v w t same ∙ at);
      }

  taken_same : (v w : Valuation) → IsSameValuation s v w → IsTaken s c v → IsTaken s c w
  taken_same v w same t =
      let o = t.is_open in
      let states = some_states v t.reached in
      record {
        allowed = sym (is.allowed v w same) ∙ t.allowed;
        reached = sym (claim.reached v w (same_state v w same)) ∙ t.reached;
        is_open = record {
          some = (o.some.0, box_same v w states same o.some.0 o.some.1);
          rows = λ n r l at. let (point, b, h) = o.rows n r l (is.row v w n same ∙ at) in (point, box_same v w states same point b, h);
        };
      }

  pub narrowed_system : IsSystem (narrowed s open_at)
  narrowed_system = record {
    bits = is.bits;
    few_memories = omega arith;
    limits = record {
      variables = let l = is.limits in l.variables;
      memories = omega arith;
      columns = omega arith;
      tests = omega arith;
    };
    initial = is.initial;
    unticked = is.unticked;
    ticks = is.ticks;
    allowed = λ v w same. same_truth (open_at v) (open_at w)
        (λ i. (exact w).1 (taken_same v w same ((exact v).0 i)))
        (λ i. (exact v).1 (taken_same w v (λ x read. sym (same x read)) ((exact w).0 i)));
    row = is.row;
    update = is.update;
    observer = is.observer;
    next = is.next;
    rows = λ v t r l at. absurd (omega (arith, l));
    updates = λ v k l. absurd (omega (arith, l));
  }

  pub narrowed_plain : HasNoIntegers (narrowed s open_at)
  narrowed_plain = record { memories = refl; columns = refl; tests = refl }

  module _ (least : IsLeastClosed s thresholds c) where
    module _ (reached : Valuation → Bool) (there : IsLeastControl (narrowed s open_at) reached) where
      within : (v : Valuation) → IsTrue (reached v) → IsTrue (c.reached v)
      within v i = there.least c.reached closed_set v i
        where
          closed_set : IsControlClosed (narrowed s open_at) c.reached
          closed_set = let closed = least.closed in record {
            state = claim.reached;
            initial = closed.initial;
            next = λ v a r. closed.next v ((exact v).0 a);
          }

      inner : BoxClaim
      inner = record { reached = reached; lower = c.lower; upper = c.upper }

      box_back : (v : Valuation) (point : List ℤ) → IsInBox s inner v point → IsInBox s c v point
      unfolding inner
      box_back v point b = record { size = b.size; lower = b.lower; upper = b.upper; narrow = b.narrow }

      taken_back : (v : Valuation) → IsTaken s inner v → IsTaken s c v
      unfolding inner
      taken_back v t =
          let o = t.is_open in
          record {
            allowed = t.allowed;
            reached = within v t.reached;
            is_open = record {
              some = (o.some.0, box_back v o.some.0 o.some.1);
              rows = λ n r l at. let (point, b, h) = o.rows n r l at in (point, box_back v point b, h);
            };
          }

      inner_claim : IsBoxClaim s thresholds inner
      unfolding inner
      inner_claim = let control = there.closed in record { reached = control.state; lower = claim.lower; upper = claim.upper }

      inner_closed : IsClosed s inner
      unfolding inner
      inner_closed = let closed = least.closed in let control = there.closed in record {
        initial = control.initial;
        next = λ v t. control.next v ((exact v).1 (taken_back v t)) t.reached;
        lower = λ v t k b known at point bx. closed.lower v (taken_back v t) k b known at point (box_back v point bx);
        upper = λ v t k b known at point bx. closed.upper v (taken_back v t) k b known at point (box_back v point bx);
      }

      pub reached_there : (v : Valuation) → IsTrue (c.reached v) → IsTrue (reached v)
      unfolding inner
      reached_there v i = (least.least inner inner_claim inner_closed).reached v i

      to_claim : (t : ℕ) (v : Valuation) → Reaches (narrowed s open_at) (unbounded reached) t v → Reaches s c t v
      to_claim zero v r = r
      to_claim (suc t) v (w, r, k, same) = (w, to_claim t w r, (exact w).0 k.allowed, same)

      inside : (t : ℕ) (v : Valuation) → Reaches s c t v → IsTrue (reached v)
      inside zero v r = let control = there.closed in control.initial v r
      inside (suc t) v (w, r, k, same) = let control = there.closed in sym (control.state (s.next w) v same) ∙ control.next w ((exact w).1 k) (inside t w r)

      from_claim : (t : ℕ) (v : Valuation) → Reaches s c t v → Reaches (narrowed s open_at) (unbounded reached) t v
      from_claim zero v r = r
      from_claim (suc t) v (w, r, k, same) = (
        w,
        from_claim t w r,
        record {
          allowed = (exact w).1 k;
          reached = inside t w r;
          is_open = open_all (narrowed s open_at) narrowed_plain
              (unbounded reached) w;
        },
        same,
      )

      pub narrowed_layers : (sets : List Frozen) → AreLayers (narrowed s open_at) (unbounded reached) sets → AreLayers s c sets
      narrowed_layers sets are = record {
        some = are.some;
        each = λ t set at. let l = are.each t set at in let k = l.control in record {
          control = record { ordered = k.ordered; states = k.states };
          exact = λ v. (
            (λ i. let f = (l.exact v).0 i in record { reached = to_claim t v f.reached; first = λ u m r. f.first u m (from_claim u v r) }),
            (λ f. (l.exact v).1 (record { reached = from_claim t v f.reached; first = λ u m r. f.first u m (to_claim u v r) })),
          );
        };
        all = λ v. ((λ i. (are.all v).0 (reached_there v i)), (λ x. within v ((are.all v).1 x)));
      }

    pub bad_layers : (l : Layers) → AreBadLayers (narrowed s open_at) l → AreLayers s c l.sets
    bad_layers l bad = narrowed_layers bad.reached bad.least l.sets bad.layers

    -- a good certificate of the narrowed system leaves no valuation bad
    pub not_good : (x : Certificate) → IsGoodCertificate (narrowed s open_at) x → (v : Valuation) → IsTaken s c v → s.observer v ≡ false → ⊥
    not_good x good v t bad = clash (s.observer v) (good.good v ((exact v).1 t) (reached_there (has good.location.control) good.least v t.reached)) bad
      where
        clash : (b : Bool) → b ≡ true → b ≡ false → ⊥
        clash true e d = cc
        clash false e d = cc
