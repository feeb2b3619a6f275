-- The references of a row of links mean what it is.
use Rattle.std.proofs.Common.{ℕ, ◌+◌, ◌-◌, ◌*◌, ◌<◌, ◌≤◌, ◌≡◌, Bool, true, false, not, ◌&&◌, ◌||◌, ◌==◌, cond, refl, ap, ◌∙◌, arith}
use Rattle.std.proofs.lemmas.Bool.{not-true}
use Rattle.rv_diagram.specs.Nodes.{Valuation, Diagrams, Answers, value_of}
use Rattle.rv_diagram.specs.Growing.{Extends}
use Rattle.rv_diagram.proofs.Growing.{extends_trans, grows_extends}
use Rattle.rv_proofs.specs.Systems.{IsSystem, IsRead, IsSameValuation}
use Rattle.rv_symbolic.specs.Growing.{Makes}
use Rattle.bench_walk.specs.Chain.{held_of, seen_of, observer_of, links}

pub held_made : (a b c d : Diagrams) (x p q r : ℕ) → Answers a b (λ v. v 0) p → Answers b c (λ v. v x) q
    → Answers c d (λ v. value_of c.nodes p v && value_of c.nodes q v) r → Makes a d (held_of x) r
held_made a b c d x p q r one two three = record {
  extends = extends_trans a c d (extends_trans a b c (grows_extends a b one.grows) (grows_extends b c two.grows)) (grows_extends c d three.grows);
  found = three.found;
  means = λ v. three.means v ∙ ap (λ z. z && value_of c.nodes q v) (two.grows.kept p one.found v ∙ one.means v) ∙ ap (λ z. v 0 && z) (two.means v);
}

pub seen_made : (a b c d : Diagrams) (n p q r : ℕ) → Makes a b (held_of 2) p → Answers b c (λ v. v (2 * n + 4)) q
    → Answers c d (λ v. value_of c.nodes q v || value_of c.nodes p v) r → Makes a d (seen_of n) r
seen_made a b c d n p q r one two three = record {
  extends = extends_trans a c d (extends_trans a b c one.extends (grows_extends b c two.grows)) (grows_extends c d three.grows);
  found = three.found;
  means = λ v. three.means v ∙ ap (λ z. z || value_of c.nodes p v) (two.means v) ∙ ap (λ z. v (2 * n + 4) || z) (two.grows.kept p one.found v ∙ one.means v);
}

pub observer_made : (a b c d e f : Diagrams) (n last some nothing bad r : ℕ) → Makes a b (held_of (2 * n + 2)) last → Makes b c (seen_of n) some
    → Answers c d (λ v. not (value_of c.nodes some v)) nothing
    → Answers d e (λ v. value_of d.nodes last v && value_of d.nodes nothing v) bad → Answers e f (λ v. not (value_of e.nodes bad v)) r
    → Makes a f (observer_of false n) r
observer_made a b c d e f n last some nothing bad r one two three four five =
    let bd : Extends b d = extends_trans b c d two.extends (grows_extends c d three.grows) in
    record {
      extends = extends_trans a e f (extends_trans a d e (extends_trans a b d one.extends bd) (grows_extends d e four.grows)) (grows_extends e f five.grows);
      found = five.found;
      means = λ v. five.means v ∙ ap not (four.means v ∙ ap (λ z. z && value_of d.nodes nothing v) (bd.kept last one.found v ∙ one.means v)
          ∙ ap (λ z. held_of (2 * n + 2) v && z) (three.means v ∙ ap not (two.means v)));
    }

pub strict_made : (a b c : Diagrams) (n last r : ℕ) → Makes a b (held_of (2 * n + 2)) last → Answers b c (λ v. not (value_of b.nodes last v)) r
    → Makes a c (observer_of true n) r
strict_made a b c n last r one two = record {
  extends = extends_trans a b c one.extends (grows_extends b c two.grows);
  found = two.found;
  means = λ v. two.means v ∙ ap not (one.means v);
}

pub initial_made : (a b c : Diagrams) (p r : ℕ) → Answers a b (λ v. v 0) p → Answers b c (λ v. not (value_of b.nodes p v)) r → Makes a c (λ v. not (v 0)) r
initial_made a b c p r one two = record {
  extends = extends_trans a b c (grows_extends a b one.grows) (grows_extends b c two.grows);
  found = two.found;
  means = λ v. two.means v ∙ ap not (one.means v);
}

-- the row is a system
even_read : (strict : Bool) (n x : ℕ) → x < 2 * n + 5 → (i : ℕ) → x ≡ 2 * i → IsRead (links strict n) x
even_read strict n x low i e = (low, λ j less f. omega (arith, e, f))

held_same : (strict : Bool) (n : ℕ) (v w : Valuation) → IsSameValuation (links strict n) v w → (x i : ℕ) → x ≡ 2 * i → x < 2 * n + 5 → held_of x v ≡ held_of x
    w
held_same strict n v w same x i e low = ap (λ b. b && v x) (same 0 (even_read strict n 0 (omega arith) 0 refl))
    ∙ ap (λ b. w 0 && b) (same x (even_read strict n x low i e))

input_same : (strict : Bool) (n : ℕ) (v w : Valuation) → IsSameValuation (links strict n) v w → v (2 * n + 4) ≡ w (2 * n + 4)
input_same strict n v w same = same (2 * n + 4) (even_read strict n (2 * n + 4) (omega arith) (n + 2) (omega arith))

seen_same : (strict : Bool) (n : ℕ) (v w : Valuation) → IsSameValuation (links strict n) v w → seen_of n v ≡ seen_of n w
seen_same strict n v w same = ap (λ b. b || held_of 2 v) (input_same strict n v w same)
    ∙ ap (λ b. w (2 * n + 4) || b) (held_same strict n v w same 2 1 refl (omega arith))

observer_same : (strict : Bool) (n : ℕ) (v w : Valuation) → IsSameValuation (links strict n) v w → observer_of strict n v ≡ observer_of strict n w
observer_same true n v w same = ap not (held_same true n v w same (2 * n + 2) (n + 1) (omega arith) (omega arith))
observer_same false n v w same =
    ap (λ b. not (b && not (seen_of n v))) (held_same false n v w same (2 * n + 2) (n + 1) (omega arith) (omega arith))
    ∙ ap (λ b. not (held_of (2 * n + 2) w && not b)) (seen_same false n v w same)

pub is_system : (strict : Bool) (n : ℕ) → n ≤ 2000 → IsSystem (links strict n)
is_system strict n few = record {
  bits = omega arith;
  few_memories = omega arith;
  limits = record { variables = omega arith; memories = omega arith; columns = omega arith; tests = omega arith };
  initial = λ v w same. ap not (same 0 (0, omega arith, refl));
  unticked = λ v h. not-true (v 0) h;
  ticks = λ v. refl;
  allowed = λ v w same. refl;
  row = λ v w t same. refl;
  update = λ v w k same. refl;
  observer = λ v w same. observer_same strict n v w same;
  next = λ v w same x (i, low, e).
      ap (λ b. cond (x == 0) true (cond (x == 2) b (cond (x == 4) (v (2 * n + 4)) (held_of (x - 2) v)))) (seen_same strict n v w same)
      ∙ ap (λ b. cond (x == 0) true (cond (x == 2) (seen_of n w) (cond (x == 4) b (held_of (x - 2) v)))) (input_same strict n v w same)
      ∙ ap (λ b. cond (x == 0) true (cond (x == 2) (seen_of n w) (cond (x == 4) (w (2 * n + 4)) b))) (held_same strict n v w same (x - 2) (i - 1) (omega
      (arith, e)) (omega (arith, e, low)));
  rows = λ v t r low. absurd (omega arith);
  updates = λ v k low. absurd (omega arith);
}
