-- Arithmetic of room.
use Rattle.std.proofs.Common.{ℕ, zero, suc, ◌+◌, ◌-◌, ◌*◌, ◌^◌, ◌<◌, ◌≤◌, ◌≡◌, Bool, true, false, cond, List, [], length, ap, subst, sym, ◌∙◌, refl, arith, pow_pos}
use Rattle.std.proofs.Common.{Result, Ok, Err, OnOk, OnErr, IfOk, IsErrOf, ⊎_elim, get_or, set}
use Rattle.std.proofs.lemmas.Nat.{mul-le}
use Rattle.rv_diagram.specs.Nodes.{Diagrams, Valuation, steps_growth}
use Rattle.rv_diagram.specs.Counting.{count}
use Rattle.rv_diagram.specs.Room.{step_room, Lacks}
use Rattle.rv_diagram.proofs.Counting.{count-most}

pub times_more : (a b x : ℕ) → a ≤ b → a * x ≤ b * x
times_more a b x le = mul-le a x b x le (omega arith)

squares : (m : ℕ) → 1 ≤ (m + 2) * (m + 2)
squares m = grind arith

-- so many building calls fit a step
pub blocks_fit : (m k : ℕ) → k ≤ (m + 2) * (m + 2) → k * 2 ^ (m + 1) ≤ step_room m
unfolding step_room
blocks_fit m k le = times_more k ((m + 2) * (m + 2)) (2 ^ (m + 1)) le

one_block : (m x s : ℕ) → 1 * x ≤ s → x ≤ s
one_block m x s h = omega arith

pub block_fits : (m : ℕ) → 2 ^ (m + 1) ≤ step_room m
block_fits m = one_block m (2 ^ (m + 1)) (step_room m) (blocks_fit m 1 (squares m))

doubled_suc : (p : ℕ) → 2 ^ (suc p) ≡ 2 ^ p + 2 ^ p
doubled_suc p = grind arith

pub doubled : (p : ℕ) → 2 ^ (p + 1) ≡ 2 ^ p + 2 ^ p
doubled p = let e : p + 1 ≡ suc p = omega arith in ap (λ k. 2 ^ k) e ∙ doubled_suc p

-- so many nodes as the paths of all valuations have
paths_blocks : (m n : ℕ) → n ≤ 2 ^ m → m * n ≤ m * 2 ^ (m + 1)
paths_blocks m n le = mul-le m n m (2 ^ (m + 1)) (omega arith) (omega (arith, le, doubled m))

pub paths_fit : (m : ℕ) (f : Valuation → Bool) → m * count m f ≤ step_room m
paths_fit m f =
    let most : count m f ≤ 2 ^ m = count-most m 0 f in
    let blocks : m * 2 ^ (m + 1) ≤ step_room m = blocks_fit m m (grind arith) in
    let paths : m * count m f ≤ m * 2 ^ (m + 1) = paths_blocks m (count m f) most in
    omega arith

both_times : (k j s : ℕ) → (k + j) * s ≡ k * s + j * s
both_times k j s = grind arith

pub lacks_more : (k n : ℕ) (d : Diagrams) → Lacks k d → k ≤ n → Lacks n d
lacks_more k n d lacks le = omega (arith, lacks, times_more k n (step_room d.variables) le)

-- what several steps add, and more that failed for want of room
pub lacks_after : (old mid : Diagrams) (k j n : ℕ) → k + j ≤ n → mid.variables ≡ old.variables → mid.limit ≡ old.limit
    → length mid.nodes ≤ length old.nodes + k * step_room old.variables → Lacks j mid → Lacks n old
lacks_after old mid k j n le variables limit grown lacks =
    let last : mid.limit < length mid.nodes + j * step_room old.variables = subst (λ m. mid.limit < length mid.nodes + j * step_room m) variables lacks in
    let more : (k + j) * step_room old.variables ≡ k * step_room old.variables + j * step_room old.variables = both_times k j (step_room old.variables) in
    let most : (k + j) * step_room old.variables ≤ n * step_room old.variables = times_more (k + j) n (step_room old.variables) le in
    omega (arith, limit, last, grown, most, more)

-- a call that leaves the list as it was after a fault
pub grown_step : {T E : Type 0} (old new : Diagrams) (o : Result T E) → OnOk o (length new.nodes ≤ length old.nodes + 2 ^ (old.variables + 1))
    → OnErr o (new ≡ old) → length new.nodes ≤ length old.nodes + step_room old.variables
grown_step old new (Ok r) ok err = omega (arith, ok, block_fits old.variables)
grown_step old new (Err f) ok err = let e : length new.nodes ≡ length old.nodes = ap (λ (d : Diagrams). length d.nodes) err in omega (arith, e)

pub step_some : (m : ℕ) → 0 < step_room m
step_some m = omega (arith, block_fits m, pow_pos (m + 1))

grouped : (a p : ℕ) → a * (a * p) ≡ a * a * p
grouped a p = grind arith

parts_within : (m k p : ℕ) → k ≤ m + 2 → k * ((m + 1) * p) ≤ (m + 2) * (m + 2) * p
parts_within m k p le =
    let inner : (m + 1) * p ≤ (m + 2) * p = mul-le (m + 1) p (m + 2) p (omega arith) (omega arith) in
    let outer : k * ((m + 1) * p) ≤ (m + 2) * ((m + 2) * p) = mul-le k ((m + 1) * p) (m + 2) ((m + 2) * p) le inner in
    omega (arith, outer, grouped (m + 2) p)

-- an image by few parts
pub image_fits : (m k : ℕ) → k ≤ m + 2 → k * steps_growth m ≤ step_room m
unfolding step_room
image_fits m k le = parts_within m k (2 ^ (m + 1)) le

-- the same in building calls
pub grown_block : {T E : Type 0} (old new : Diagrams) (o : Result T E) → OnOk o (length new.nodes ≤ length old.nodes + 2 ^ (old.variables + 1))
    → OnErr o (new ≡ old) → length new.nodes ≤ length old.nodes + 2 ^ (old.variables + 1)
grown_block old new (Ok r) ok err = ok
grown_block old new (Err f) ok err = let e : length new.nodes ≡ length old.nodes = ap (λ (d : Diagrams). length d.nodes) err in omega (arith, e)

-- a call that failed for want of a step's room
pub short_new : {T E : Type 0} (old new : Diagrams) (o : Result T E) (f : E) → o ≡ Err f → OnErr o (new ≡ old)
    → old.limit < length old.nodes + step_room old.variables → Lacks 1 new
short_new {T} {E} old new o f is err lacks =
    let same : new ≡ old = subst (λ (r : Result T E). OnErr r (new ≡ old)) is err in
    let here : Lacks 1 old = omega (arith, lacks) in
    subst (λ (d : Diagrams). Lacks 1 d) (sym same) here

pub grown_all : {T E : Type 0} (old new : Diagrams) (n : ℕ) (o : Result T E) → OnOk o (length new.nodes ≤ length old.nodes + n) → OnErr o (new ≡ old)
    → length new.nodes ≤ length old.nodes + n
grown_all old new n (Ok r) ok err = ok
grown_all old new n (Err f) ok err = let e : length new.nodes ≡ length old.nodes = ap (λ (d : Diagrams). length d.nodes) err in omega (arith, e)
