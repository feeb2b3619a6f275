-- The system of the valuations that count: its layers and its runs are those of the system without columns.
use Rattle.std.proofs.Common.{◌≡◌, ◌⊎◌, ℕ, zero, suc, ◌+◌, ◌<◌, ℤ, Bool, true, false, ◌&&◌, List, [], length, arith, refl, sym, ◌∙◌, ap}
use Rattle.std.proofs.Common.{⊎_elim, Some, None, Option, slice_get}
use Rattle.std.specs.Prelude.{Result, Ok, Err, IfOk}
use Rattle.std.proofs.lemmas.Bool.{cases_Bool, cases_lt}
use Rattle.rv_diagram.specs.{Nodes.Valuation, declared.frozen.Frozen.Frozen}
use Rattle.rv_rows.specs.declared.linear.Row.{Row}
use Rattle.rv_proofs.specs.{Systems.System, Systems.IsSystem, Runs.IsSafeSystem, Scopes.IsIn}
use Rattle.rv_proofs.specs.{Boxes.IsBoxClaim, Boxes.IsTaken, Boxes.IsClosed, declared.report.Layers.Layers}
use Rattle.rv_proofs.specs.Reached.{HasNoIntegers, Reaches, AreLayers, IsControlClosed, unbounded}
use Rattle.rv_proofs.proofs.Leasts.{open_all, least_plain}
use Rattle.rv_walk.specs.{Ends.IsLeastControl, Ends.AreBadLayers, Falsified.IsFalsifyingRun, Paths.IsFalsifyingPath, Paths.IsShortestPath}
use Rattle.rv_walk.specs.Paths.{at_instant, no_integers}
use Rattle.rv_walk.proofs.Ending.{falsify, unsafe}
use Rattle.rv_diagram.specs.Nodes.{Diagrams}
use Rattle.rv_proofs.specs.Ranges.{IsControlSet}
use Rattle.rv_symbolic.specs.{declared.relation.Parts.Parts, declared.relation.Relation.Relation, Represented.AreParts, Represented.IsRelationOf}
use Rattle.rv_boxes.specs.Narrowed.{narrowed}
use Rattle.rv_open.specs.Columns.{HasNoColumns, hold_among, holds_alone, is_counted, AreLeastBadLayers}
use Rattle.rv_open.proofs.Open.{agree_none, counted_parts, counted_from, taken_counted, counted_taken}

-- THE SYSTEM

among_same : (s : System) (v w : Valuation) (n : ℕ) → ((t : ℕ) → s.row v t ≡ s.row w t) → hold_among s v n ≡ hold_among s w n
among_same s v w zero rows = refl
among_same s v w (suc n) rows =
    ap (λ b. b && holds_alone (s.row v n)) (among_same s v w n rows) ∙ ap (λ (o : Option Row). hold_among s w n && holds_alone o) (rows n)

pub counted_system : (s : System) → IsSystem s → IsSystem (narrowed s (is_counted s))
counted_system s is = record {
  bits = is.bits;
  few_memories = omega arith;
  limits = record {
    variables = let l = is.limits in l.variables;
    memories = omega arith;
    columns = omega arith;
    tests = omega arith;
  };
  initial = is.initial;
  unticked = is.unticked;
  ticks = is.ticks;
  allowed = λ v w same.
      ap (λ b. b && hold_among s v s.tests) (is.allowed v w same)
      ∙ ap (λ b. s.allowed w && b) (among_same s v w s.tests (λ t. is.row v w t same));
  row = is.row;
  update = is.update;
  observer = is.observer;
  next = is.next;
  rows = λ v t r l at. absurd (omega (arith, l));
  updates = λ v k l. absurd (omega (arith, l));
}

pub counted_plain : (s : System) → HasNoIntegers (narrowed s (is_counted s))
counted_plain s = record { memories = refl; columns = refl; tests = refl }

-- a relation of these valuations is one of those that count
pub parts_counted : (s : System) (d : Diagrams) (p : Parts) (taken : Valuation → Bool) → ((v : Valuation) → taken v ≡ is_counted s v)
    → AreParts (narrowed s taken) d p → AreParts (narrowed s (is_counted s)) d p
parts_counted s d p taken same parts = record {
  variables = parts.variables;
  states = parts.states;
  allowed = λ v. parts.allowed v ∙ same v;
  observer = parts.observer;
  initial = parts.initial;
  next = parts.next;
}

-- without tests each allowed valuation counts
and_true : (a b : Bool) → b ≡ true → a ≡ (a && b)
and_true true b e = sym e
and_true false b e = refl

among_none : (s : System) (v : Valuation) (n : ℕ) → n ≡ 0 → hold_among s v n ≡ true
among_none s v zero e = refl
among_none s v (suc n) e = absurd (omega arith)

pub relation_untested : (s : System) (d : Diagrams) (r : Relation) → s.tests ≡ 0 → IsRelationOf s d r → IsRelationOf (narrowed s (is_counted s)) d r
relation_untested s d r untested is = let parts = is.parts in record {
  system = counted_system s is.system;
  laid_out = is.laid_out;
  parts = record {
    variables = parts.variables;
    states = parts.states;
    allowed = λ v. parts.allowed v ∙ and_true (s.allowed v) (hold_among s v s.tests) (among_none s v s.tests untested);
    observer = parts.observer;
    initial = parts.initial;
    next = parts.next;
  };
}

-- its sets of control states are those of the system
pub sets_counted : (s : System) (sets : List Frozen) → ((t : ℕ) (set : Frozen) → slice_get sets t ≡ Some set → IsControlSet s set)
    → (t : ℕ) (set : Frozen) → slice_get sets t ≡ Some set → IsControlSet (narrowed s (is_counted s)) set
sets_counted s sets each t set at = let k = each t set at in record { ordered = k.ordered; states = k.states }

nothing_below : (n k : ℕ) → n ≡ 0 → k < n → ⊥
nothing_below n k e l = omega arith

-- RUNS

module _ (s : System) (none : HasNoColumns s) where
  pub run_back : (t : ℕ) (vs : ℕ → Valuation) (points : ℕ → List ℤ) → IsFalsifyingRun (narrowed s (is_counted s)) t vs points
      → IsFalsifyingRun s t vs (λ u. [])
  run_back t vs points r = let run = r.run in record {
    run = record {
      start = run.start;
      agrees = λ u l. (counted_parts s none (vs u) (r.allowed u l)).1;
      control = run.control;
      memories = λ u k l m. absurd (nothing_below s.memories k none.memories m);
    };
    allowed = λ u l. (counted_parts s none (vs u) (r.allowed u l)).0;
    fails = r.fails;
  }

  pub run_there : (t : ℕ) (vs : ℕ → Valuation) (points : ℕ → List ℤ) → IsFalsifyingRun s t vs points
      → IsFalsifyingRun (narrowed s (is_counted s)) t vs (λ u. [])
  run_there t vs points r = let run = r.run in record {
    run = record {
      start = run.start;
      agrees = λ u l. record { size = refl; rows = λ n x m at. absurd (omega (arith, m)) };
      control = run.control;
      memories = λ u k l m. absurd (omega (arith, m));
    };
    allowed = λ u l. counted_from s none (vs u) (r.allowed u l) (agree_none s none (vs u) (points u) (run.agrees u l));
    fails = r.fails;
  }

  pub path_back : (words : List (List Bool)) → IsFalsifyingPath (narrowed s (is_counted s)) words → IsFalsifyingPath s words
  path_back words p = record {
    last = p.last;
    count = p.count;
    sizes = p.sizes;
    run = run_back p.last (at_instant words) no_integers p.run;
    before = p.before;
  }

-- LAYERS

module _ (s : System) (none : HasNoColumns s) (thresholds : List ℤ) (l : Layers) (bad : AreLeastBadLayers s thresholds l) where
  claim_set : (other : Valuation → Bool) → IsControlClosed (narrowed s (is_counted s)) other → IsBoxClaim s thresholds (unbounded other)
  claim_set other shut = record {
    reached = shut.state;
    lower = λ k b m at. absurd (nothing_below s.memories k none.memories m);
    upper = λ k b m at. absurd (nothing_below s.memories k none.memories m);
  }

  closed_set : (other : Valuation → Bool) → IsControlClosed (narrowed s (is_counted s)) other → IsClosed s (unbounded other)
  closed_set other shut = record {
    initial = shut.initial;
    next = λ v t. shut.next v (taken_counted s none (unbounded other) v t) t.reached;
    lower = λ v t k b m at. absurd (nothing_below s.memories k none.memories m);
    upper = λ v t k b m at. absurd (nothing_below s.memories k none.memories m);
  }

  least_set : IsLeastControl (narrowed s (is_counted s)) bad.claim.reached
  least_set = let least = bad.least in let claim = least.claim in let closed = least.closed in record {
    closed = record {
      state = claim.reached;
      initial = closed.initial;
      next = λ v e reached. closed.next v (counted_taken s none bad.claim v e reached);
    };
    least = λ other shut v reached. (least.least (unbounded other) (claim_set other shut) (closed_set other shut)).reached v reached;
  }

  to_counted : (t : ℕ) (v : Valuation) → Reaches s bad.claim t v → Reaches (narrowed s (is_counted s)) (unbounded bad.claim.reached) t v
  to_counted zero v r = r
  to_counted (suc t) v (w, r, k, same) = (
    w,
    to_counted t w r,
    record {
      allowed = taken_counted s none bad.claim w k;
      reached = k.reached;
      is_open = open_all (narrowed s (is_counted s)) (counted_plain s) (unbounded bad.claim.reached) w;
    },
    same,
  )

  from_counted : (t : ℕ) (v : Valuation) → Reaches (narrowed s (is_counted s)) (unbounded bad.claim.reached) t v → Reaches s bad.claim t v
  from_counted zero v r = r
  from_counted (suc t) v (w, r, k, same) = (w, from_counted t w r, counted_taken s none bad.claim w k.allowed k.reached, same)

  layers_set : AreLayers (narrowed s (is_counted s)) (unbounded bad.claim.reached) l.sets
  layers_set = let are = bad.layers in record {
    some = are.some;
    each = λ t set at. let x = are.each t set at in let k = x.control in record {
      control = record { ordered = k.ordered; states = k.states };
      exact = λ v. (
        (λ i. let f = (x.exact v).0 i in record { reached = to_counted t v f.reached; first = λ u m r. f.first u m (from_counted u v r) }),
        (λ f. (x.exact v).1 (record { reached = from_counted t v f.reached; first = λ u m r. f.first u m (to_counted u v r) })),
      );
    };
    all = are.all;
  }

  bad_set : (v : Valuation) → IsTaken s bad.claim v → s.observer v ≡ false → AreBadLayers (narrowed s (is_counted s)) l
  bad_set v t off = record {
    reached = bad.claim.reached;
    least = least_set;
    layers = layers_set;
    bad = (v, taken_counted s none bad.claim v t, t.reached, off);
  }

  -- the layers are bad ones of the system of the valuations that count, if a contradiction is sought
  pub some_bad : (AreBadLayers (narrowed s (is_counted s)) l → ⊥) → ⊥
  some_bad never = bad.not_good (λ v t. ⊎_elim (λ on. on) (λ off. absurd (never (bad_set v t off))) (cases_Bool (s.observer v)))

  pub shortest_back : (words : List (List Bool)) → (AreBadLayers (narrowed s (is_counted s)) l → IsShortestPath (narrowed s (is_counted s)) words)
      → IsShortestPath s words
  shortest_back words shortest t vs points r = ⊎_elim
      (λ lt. absurd (some_bad (λ x. let few = shortest x t vs (λ u. []) (run_there s none t vs points r) in omega (arith, lt, few))))
      (λ ge. ge)
      (cases_lt (t + 1) (length words))

  pub found_back : {W E : Type 0} (o : Result (Option W) E) → (AreBadLayers (narrowed s (is_counted s)) l → IfOk o (λ path. path ≡ None → ⊥))
      → IfOk o (λ path. path ≡ None → ⊥)
  found_back (Ok path) found = λ e. some_bad (λ x. found x e)
  found_back (Err e) found = tt

  pub unsafe_layers : IsSafeSystem s → ⊥
  unsafe_layers safe = some_bad (λ x.
      let n : System = narrowed s (is_counted s) in
      let b : (t : ℕ) × (set : Frozen) × (slice_get l.sets t ≡ Some set) × IsIn set x.bad.0 = (x.layers.all x.bad.0).0 x.bad.2 in
      let f = falsify n (unbounded x.reached) l.sets b.0 b.1 x.bad.0 (counted_plain s) x.layers b.2 b.3 x.bad.1 x.bad.3 in
      unsafe s b.0 f.0 (λ u. []) (run_back s none b.0 f.0 f.1 f.2) safe)

-- the bad layers of a walk without integers
pub walked : (s : System) (thresholds : List ℤ) (l : Layers) → HasNoIntegers s → AreBadLayers s l → AreLeastBadLayers s thresholds l
walked s thresholds l plain bad = let least = bad.least in record {
  claim = unbounded bad.reached;
  least = least_plain s plain thresholds bad.reached least.closed least.least;
  layers = bad.layers;
  not_good = λ good. both_ways (s.observer bad.bad.0) bad.bad.3
      (good bad.bad.0 (record { allowed = bad.bad.1; reached = bad.bad.2; is_open = open_all s plain (unbounded bad.reached) bad.bad.0 }));
}
  where
    both_ways : (b : Bool) → b ≡ false → b ≡ true → ⊥
    both_ways b e f = cc
