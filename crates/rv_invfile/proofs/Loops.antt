-- Loops that read a list of parts.
use Rattle.std.proofs.Common.{◌≡◌, ◌+◌, ◌-◌, ◌<◌, ◌≤◌, ℕ, zero, suc, List, [], ◌∷◌, ◌++◌, length, drop, get_or, refl, sym, ap, ◌∙◌, arith, append_assoc}
use Rattle.std.proofs.Common.{add-one, drop-cons}
use Rattle.std.proofs.lemmas.List.{append-nil}
use Rattle.std.specs.Prelude.{Ok, Err}
use Rattle.rv_invfile.specs.Readers.{Ahead, ◌>>=◌, Reading, Reads, run}
use Rattle.rv_invfile.specs.{declared.fault.FileFault.FileFault, Rules.Rule, Rules.done, Parts.bind, Parts.each, Parts.times, Fronts.with_front}
use Rattle.rv_invfile.proofs.{Bound.run_bind, Bound.bind_ok, Bound.bind_err, OneRecord.stops_with}

-- a list of parts is a first part and the others
abbrev pub more : {A : Type 0} → Rule A → Rule (List A) → Rule (List A)
more p q = bind p (λ a. bind q (λ rest. done (a ∷ rest)))

then-front : {A : Type 0} (front : List A) (a : A) (r : Reading (List A)) → with_front front (r >>= λ y. Ok (a ∷ y.0, y.1)) ≡ with_front (front ++ a ∷ []) r
then-front front a (Ok x) = ap (λ l. Ok (l, x.1)) (sym (append_assoc front (a ∷ []) x.0))
then-front front a (Err e) = refl

-- one more value
pub front_more : {A : Type 0} (p : Rule A) (q : Rule (List A)) (front : List A) (a : A) (s s2 : Ahead) → run p s ≡ Ok (a, s2)
    → with_front front (run (more p q) s) ≡ with_front (front ++ a ∷ []) (run q s2)
front_more p q front a s s2 h =
    ap (with_front front) (bind_ok p (λ a. bind q (λ rest. done (a ∷ rest))) s s2 a h ∙ run_bind q (λ rest. done (a ∷ rest)) s2)
    ∙ then-front front a (run q s2)

-- a part that stops
pub front_stops : {A : Type 0} (p : Rule A) (q : Rule (List A)) (front : List A) (e : FileFault) (s : Ahead) → run p s ≡ Err e
    → with_front front (run (more p q) s) ≡ Err e
front_stops p q front e s h = ap (with_front front) (bind_err p (λ a. bind q (λ rest. done (a ∷ rest))) s e h)

-- no more parts
pub front_end : {A : Type 0} (front : List A) (s : Ahead) → with_front front (run (done []) s) ≡ Ok (front, s)
front_end front s = ap (λ l. Ok (l, s)) (append-nil front)

-- ---- The two lists of parts.
pub each_more : {P A : Type 0} (part : P → Rule A) (p : P) (ps : List P) → each part (p ∷ ps) ≡ more (part p) (each part ps)
unfolding each
each_more part p ps = refl

pub each_none : {P A : Type 0} (part : P → Rule A) → each part [] ≡ done []
unfolding each
each_none part = refl

pub times_more : {A : Type 0} (n : ℕ) (part : Rule A) → times (suc n) part ≡ more part (times n part)
unfolding times
times_more n part = refl

pub times_none : {A : Type 0} (part : Rule A) → times zero part ≡ done []
unfolding times
times_none part = refl

-- the parts from a place on
pub each_at : {P A : Type 0} (part : P → Rule A) (ps : List P) (i : ℕ) (p : P) → i < length ps → p ≡ get_or ps i p
    → each part (drop i ps) ≡ more (part p) (each part (drop (i + 1) ps))
each_at part ps i p l e = ap (each part) (drop-cons ps i p l ∙ ap (λ x. x ∷ drop (suc i) ps) (sym e)) ∙ each_more part p (drop (suc i) ps)
    ∙ ap (λ k. more (part p) (each part (drop k ps))) (sym (add-one i))

pub each_past : {P A : Type 0} (part : P → Rule A) (ps : List P) (i : ℕ) → length ps ≤ i → each part (drop i ps) ≡ done []
each_past part ps i l = ap (each part) (none ps i l) ∙ each_none part
  where
    none : {P : Type 0} (ps : List P) (i : ℕ) → length ps ≤ i → drop i ps ≡ []
    none [] zero l = refl
    none [] (suc i) l = refl
    none (x ∷ xs) zero l = absurd (omega arith)
    none (x ∷ xs) (suc i) l = none xs i (omega arith)

pub times_at : {A : Type 0} (part : Rule A) (n i : ℕ) → i < n → times (n - i) part ≡ more part (times (n - (i + 1)) part)
times_at part n i l = let e : n - i ≡ suc (n - (i + 1)) = omega arith in ap (λ k. times k part) e ∙ times_more (n - (i + 1)) part

pub times_past : {A : Type 0} (part : Rule A) (n i : ℕ) → n ≤ i → times (n - i) part ≡ done []
times_past part n i l = let e : n - i ≡ zero = omega arith in ap (λ k. times k part) e ∙ times_none part

-- ---- What a loop keeps.
module _ {A : Type 0} (part : Rule A) (now next : Rule (List A)) (is : now ≡ more part next) (whole : Reading (List A)) (front : List A) (s : Ahead)
    (kept : with_front front (run now s) ≡ whole) where
  unrolled : with_front front (run (more part next) s) ≡ whole
  unrolled = ap (λ r. with_front front (run r s)) (sym is) ∙ kept

  -- it goes on with a value
  pub goes_on : (a : A) (s2 : Ahead) (front2 : List A) → run part s ≡ Ok (a, s2) → front2 ≡ front ++ a ∷ [] → with_front front2 (run next s2) ≡ whole
  goes_on a s2 front2 h e = ap (λ l. with_front l (run next s2)) e ∙ sym (front_more part next front a s s2 h) ∙ unrolled

  -- or it stops
  pub leaves : {X Y : Type 0} (view : X → A) (other : Y → List A) (e : FileFault) (old new : Ahead) → Reads view (run part s) (Err e) old
      → Reads other whole (Err e) new
  leaves view other e old new h = stops_with view other (run part s) whole e old new h (λ x k. sym unrolled ∙ front_stops part next front x s k)

pub ends : {A : Type 0} (now : Rule (List A)) → now ≡ done [] → (whole : Reading (List A)) (front : List A) (s : Ahead) → with_front front (run now s) ≡ whole
    → whole ≡ Ok (front, s)
ends now is whole front s kept = sym kept ∙ ap (λ r. with_front front (run r s)) is ∙ front_end front s
