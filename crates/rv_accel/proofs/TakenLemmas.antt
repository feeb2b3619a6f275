-- Lists of rows with proofs that grow.
use Rattle.std.proofs.Common.{◌≡◌, ◌⊎◌, ℕ, ◌+◌, ◌≤◌, ◌<◌, List, [], ◌∷◌, ◌++◌, All, length, get_or, arith, refl, ap, sym, ◌∙◌, subst, inl, inr}
use Rattle.std.proofs.{lemmas.List.length_push, lemmas.List.get_or_append_left, lemmas.List.get_or_push, lemmas.Bool.cases_lt}
use Rattle.std.proofs.lemmas.List.Elements.{All-append, All-cons, All-nil, Contains-append_left, Contains-push}
use Rattle.std.specs.List.{Contains}
use Rattle.rv_rows.specs.{declared.linear.Row.Row, declared.farkas.Multipliers.Multipliers, Tight.Fits}
use Rattle.rv_accel.specs.{declared.proved.Proved.Proved, Shown.AreShown, Taken.IsProved, Taken.IsHanded, Taken.added, Taken.left, Taken.IsLeft, Taken.AreTaken}

module _ (Shown : Row → Multipliers → Type 0) where
  pub shown-push : (rows : List Row) (by : List Multipliers) (row : Row) (m : Multipliers) → AreShown Shown rows by → Shown row m
      → AreShown Shown (rows ++ row ∷ []) (by ++ m ∷ [])
  shown-push rows by row m s h = record {
    size = let a = length_push rows row in let b = length_push by m in let e = s.size in omega arith;
    each = λ i d e l. let n = length_push rows row in go i d e (omega arith) (cases_lt i (length rows));
  }
    where
      go : (i : ℕ) (d : Row) (e : Multipliers) → i < length rows + 1 → (i < length rows) ⊎ (length rows ≤ i)
          → Shown (get_or (rows ++ row ∷ []) i d) (get_or (by ++ m ∷ []) i e)
      go i d e l (inl k) =
          let z = s.size in
          let a : get_or rows i d ≡ get_or (rows ++ row ∷ []) i d = sym (get_or_append_left rows (row ∷ []) d i k) in
          let b : get_or by i e ≡ get_or (by ++ m ∷ []) i e = sym (get_or_append_left by (m ∷ []) e i (omega arith)) in
          subst (λ q. Shown (get_or (rows ++ row ∷ []) i d) q) b (subst (λ q. Shown q (get_or by i e)) a (s.each i d e k))
      go i d e l (inr k) =
          let z = s.size in
          let a : row ≡ get_or (rows ++ row ∷ []) i d = sym (get_or_push rows row d i (omega arith)) in
          let b : m ≡ get_or (by ++ m ∷ []) i e = sym (get_or_push by m e i (omega arith)) in
          subst (λ q. Shown (get_or (rows ++ row ∷ []) i d) q) b (subst (λ q. Shown q m) a h)

  pub proved-none : (n : ℕ) → IsProved Shown (record { rows = []; by = []; dropped = n })
  proved-none n = record {
    shown = record { size = refl; each = λ i d e l. absurd (omega arith) };
    fits = All-nil Fits;
    most = omega arith;
  }

  pub taken-none : (Has : List Row → Type 0) (Small : Type 0) (a : Proved) → Has a.rows → AreTaken Shown Has Small 0 a a
  taken-none Has Small a h = record {
    proved = λ p. p;
    kept = λ r c. c;
    none = λ e. e;
    size = λ s. omega arith;
    has = λ e. h;
    room = λ s e l. e;
  }

  pub taken-more : (H1 H2 H : List Row → Type 0) (S1 S2 S : Type 0) (n m k : ℕ) (a b c : Proved) → AreTaken Shown H1 S1 n a b → AreTaken Shown H2 S2 m b c
      → ((xs ys : List Row) → ((r : Row) → Contains xs r → Contains ys r) → H1 xs → H2 ys → H ys) → (S → S1) → (S → S2) → n + m ≤ k
      → AreTaken Shown H S k a c
  taken-more H1 H2 H S1 S2 S n m k a b c x y join one two e = record {
    proved = λ p. y.proved (x.proved p);
    kept = λ r h. y.kept r (x.kept r h);
    none = λ z. x.none (y.none z);
    size = λ s. let u = x.size (one s) in let v = y.size (two s) in omega arith;
    has = λ z. join b.rows c.rows y.kept (x.has (y.none z)) (y.has z);
    room = λ s z l. let u = x.size (one s) in y.room (two s) (x.room (one s) z (omega arith)) (omega arith);
  }

  -- the same with less said
  pub taken-less : (H1 H : List Row → Type 0) (S1 S : Type 0) (n k : ℕ) (a b : Proved) → AreTaken Shown H1 S1 n a b
      → ((xs : List Row) → H1 xs → H xs) → (S → S1) → n ≤ k → AreTaken Shown H S k a b
  taken-less H1 H S1 S n k a b x weaker one e = record {
    proved = x.proved;
    kept = x.kept;
    none = x.none;
    size = λ s. let u = x.size (one s) in omega arith;
    has = λ z. weaker b.rows (x.has z);
    room = λ s z l. x.room (one s) z (omega arith);
  }

  -- the same where nothing is said of how many there are
  pub taken-never : (H1 H : List Row → Type 0) (S1 S : Type 0) (n k : ℕ) (a b : Proved) → AreTaken Shown H1 S1 n a b
      → ((xs : List Row) → H1 xs → H xs) → (S → ⊥) → AreTaken Shown H S k a b
  taken-never H1 H S1 S n k a b x weaker never = record {
    proved = x.proved;
    kept = x.kept;
    none = x.none;
    size = λ s. absurd (never s);
    has = λ z. weaker b.rows (x.has z);
    room = λ s z l. absurd (never s);
  }

  pub taken-if : (H : List Row → Type 0) (S : Type 0) (row : Row) (by : Multipliers) (a b : Proved) → IsHanded row by a b → (Fits row → Shown row by)
      → ((rows : List Row) → Contains rows row → H rows) → (S → Fits row) → AreTaken Shown H S 1 a b
  taken-if H S row by a b (added f l er eb ed) sh has small = record {
    proved = λ p. record {
      shown = subst (λ q. AreShown Shown q b.by) (sym er) (subst (λ q. AreShown Shown (a.rows ++ row ∷ []) q) (sym eb)
          (shown-push a.rows a.by row by p.shown (sh f)));
      fits = subst (λ q. All Fits q) (sym er) (All-append Fits a.rows (row ∷ []) p.fits (All-cons Fits row [] f (All-nil Fits)));
      most = let n = length_push a.rows row in let e = ap length er in omega arith;
    };
    kept = λ r c. subst (λ q. Contains q r) (sym er) (Contains-append_left a.rows (row ∷ []) r c);
    none = λ z. sym ed ∙ z;
    size = λ s. let n = length_push a.rows row in let e = ap length er in omega arith;
    has = λ z. has b.rows (subst (λ q. Contains q row) (sym er) (Contains-push a.rows row));
    room = λ s z m. ed ∙ z;
  }
  taken-if H S row by a b (left not er eb d) sh has small = record {
    proved = λ p. record {
      shown = subst (λ q. AreShown Shown q b.by) (sym er) (subst (λ q. AreShown Shown a.rows q) (sym eb) p.shown);
      fits = subst (λ q. All Fits q) (sym er) p.fits;
      most = let n = p.most in let e = ap length er in omega arith;
    };
    kept = λ r c. subst (λ q. Contains q r) (sym er) c;
    none = λ z. absurd (omega arith);
    size = λ s. let e = ap length er in omega arith;
    has = λ z. absurd (omega arith);
    room = λ s z m. absurd (not (small s, omega arith));
  }

  pub taken-one : (H : List Row → Type 0) (S : Type 0) (row : Row) (by : Multipliers) (a b : Proved) → IsHanded row by a b → Shown row by
      → ((rows : List Row) → Contains rows row → H rows) → (S → Fits row) → AreTaken Shown H S 1 a b
  taken-one H S row by a b h sh has small = taken-if H S row by a b h (λ f. sh) has small

  pub taken-left : (H : List Row → Type 0) (S : Type 0) (n : ℕ) (a b : Proved) → IsLeft a b → (S → ⊥) → AreTaken Shown H S n a b
  taken-left H S n a b x not = record {
    proved = λ p. record {
      shown = subst (λ q. AreShown Shown q b.by) (sym x.rows) (subst (λ q. AreShown Shown a.rows q) (sym x.by) p.shown);
      fits = subst (λ q. All Fits q) (sym x.rows) p.fits;
      most = let n = p.most in let e = ap length x.rows in omega arith;
    };
    kept = λ r c. subst (λ q. Contains q r) (sym x.rows) c;
    none = λ z. let d = x.dropped in absurd (omega arith);
    size = λ s. absurd (not s);
    has = λ z. let d = x.dropped in absurd (omega arith);
    room = λ s z m. absurd (not s);
  }
