-- Reading parts one after the other.
use Rattle.std.proofs.Common.{◌≡◌, refl, sym, ap, ◌∙◌}
use Rattle.std.specs.Prelude.{Result, Ok, Err}
use Rattle.rv_invfile.specs.Readers.{Ahead, ◌>>=◌, Reads, run, taking}
use Rattle.rv_invfile.specs.{declared.fault.FileFault.FileFault, Rules.Rule, Rules.done, Rules.await, Parts.bind}
use Rattle.rv_invfile.proofs.OneRecord.{stops_with}

then-assoc : {A B C : Type 0} (r : Result A FileFault) (f : A → Result B FileFault) (g : B → Result C FileFault) → (r >>= f) >>= g ≡ r >>= (λ a. f a >>= g)
then-assoc (Ok a) f g = refl
then-assoc (Err e) f g = refl

pub then-same : {A B : Type 0} (r : Result A FileFault) (f g : A → Result B FileFault) → ((a : A) → f a ≡ g a) → r >>= f ≡ r >>= g
then-same (Ok a) f g h = h a
then-same (Err e) f g h = refl

pub run_bind : {A B : Type 0} (p : Rule A) (k : A → Rule B) (s : Ahead) → run (bind p k) s ≡ run p s >>= (λ x. run (k x.0) x.1)
run_bind (done a) k s = refl
run_bind (await forms next) k s =
    then-same (taking forms s) (λ x. run (bind (next x.0) k) x.1) (λ x. run (next x.0) x.1 >>= (λ y. run (k y.0) y.1)) (λ x. run_bind (next x.0) k x.1)
    ∙ sym (then-assoc (taking forms s) (λ x. run (next x.0) x.1) (λ y. run (k y.0) y.1))

-- after a first part the second reads on
pub bind_ok : {A B : Type 0} (p : Rule A) (k : A → Rule B) (s s2 : Ahead) (a : A) → run p s ≡ Ok (a, s2) → run (bind p k) s ≡ run (k a) s2
bind_ok p k s s2 a h = run_bind p k s ∙ ap (λ r. r >>= (λ x. run (k x.0) x.1)) h

pub bind_err : {A B : Type 0} (p : Rule A) (k : A → Rule B) (s : Ahead) (e : FileFault) → run p s ≡ Err e → run (bind p k) s ≡ Err e
bind_err p k s e h = run_bind p k s ∙ ap (λ r. r >>= (λ x. run (k x.0) x.1)) h

-- a first part that stops
pub part_stops : {X Y A B : Type 0} (view : X → A) (other : Y → B) (p : Rule A) (k : A → Rule B) (s : Ahead) (e : FileFault) (old new : Ahead)
    → Reads view (run p s) (Err e) old → Reads other (run (bind p k) s) (Err e) new
part_stops view other p k s e old new h = stops_with view other (run p s) (run (bind p k) s) e old new h (λ x is. bind_err p k s x is)
