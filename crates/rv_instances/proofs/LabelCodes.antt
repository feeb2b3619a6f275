-- How many codes some bits tell apart, and the labels of an enumeration.
use Rattle.std.proofs.Common.{◌≡◌, ℕ, zero, suc, ◌+◌, ◌-◌, ◌*◌, ◌^◌, ◌<◌, ◌≤◌, cond, List, [], ◌∷◌, length, get_or, refl, sym, ◌∙◌, ap, arith}
use Rattle.std.proofs.{Math.Nat.pow-suc, lemmas.Bool.le-leb, lemmas.Bool.lt-leb}
use Rattle.std.specs.List.{Contains}
use Rattle.rv_tree.specs.{Bounded.IsBounded, Bounded.most, declared.tree.Name.Name, declared.tree.TypeBody.TypeBody, declared.tree.TypeBody.TheVariants.Alias}
use Rattle.rv_tree.specs.{declared.tree.TypeBody.TheVariants.Labels, declared.tree.TypeDecl.TypeDecl, Tree.ProgramTree}
use Rattle.rv_types.specs.{declared.typed.Kind.Kind, Variables.bits_from, Variables.kind_bits, Values.label_count, Values.labels_at}
use Rattle.rv_types.specs.declared.typed.Kind.TheVariants as kind
use Rattle.rv_instances.specs.Bits.{bits_of}

-- some bits are enough
pub enough_bits : (more bits count : ℕ) → count ≤ 2 ^ bits → bits_from more bits count ≡ bits
enough_bits zero bits count le = refl
enough_bits (suc more) bits count le = ap (λ b. cond b bits (bits_from more (bits + 1) count)) (le-leb count (2 ^ bits) le)

-- or one more is wanted
wanted : (m more bits count : ℕ) → m ≡ suc more → 2 ^ bits < count → bits_from m bits count ≡ bits_from more (bits + 1) count
wanted m more bits count e lt = ap (λ k. bits_from k bits count) e ∙ ap (λ b. cond b bits (bits_from more (bits + 1) count)) (lt-leb count (2 ^ bits) lt)

pub one_bit_more : (bits count : ℕ) → bits < count → 2 ^ bits < count → bits_from (count - bits) bits count ≡ bits_from (count - (bits + 1)) (bits + 1) count
one_bit_more bits count less lt = wanted (count - bits) (count - (bits + 1)) bits count (omega (arith, less)) lt

pub twice_codes : (bits : ℕ) → 2 ^ (bits + 1) ≡ 2 ^ bits * 2
twice_codes bits = ap (λ k. 2 ^ k) (let e : bits + 1 ≡ suc bits = omega arith in e) ∙ pow-suc 2 bits

pub labels_here : (ds : List TypeDecl) (k : ℕ) (d : TypeDecl) → k < length ds → d ≡ get_or ds k d → labels_at ds k ≡ label_count d
labels_here [] k d lt is = absurd (omega arith)
labels_here (x ∷ ds) zero d lt is = ap label_count (sym is)
labels_here (x ∷ ds) (suc k) d lt is = labels_here ds k d (omega (arith, lt)) is

pub labels_past : (ds : List TypeDecl) (k : ℕ) → length ds ≤ k → labels_at ds k ≡ 0
labels_past [] k le = refl
labels_past (x ∷ ds) zero le = absurd (omega (arith, le))
labels_past (x ∷ ds) (suc k) le = labels_past ds k (omega (arith, le))

labels_of_body : (d : TypeDecl) (b : TypeBody) → d.body ≡ b → ((xs : List Name) → d.body ≡ Labels xs → length xs ≤ most) → label_count d ≤ most
labels_of_body d (Alias t) is each = rw is (omega arith)
labels_of_body d (Labels xs) is each = let few = each xs is in rw is (omega (arith, few))

labels_few : (ds : List TypeDecl) → ((d : TypeDecl) (xs : List Name) → Contains ds d → d.body ≡ Labels xs → length xs ≤ most) → (k : ℕ) → labels_at ds k ≤ most
labels_few [] each k = omega arith
labels_few (d ∷ ds) each zero = labels_of_body d d.body refl (λ xs is. each d xs (0, omega arith, refl) is)
labels_few (d ∷ ds) each (suc k) = labels_few ds (λ e xs w is. each e xs
    (w.0 + 1, (omega (arith, w.1)), ap (λ j. get_or (d ∷ ds) j e) (let h : w.0 + 1 ≡ suc w.0 = omega arith in h) ∙ w.2) is) k

-- no type has more labels than a source has bytes
pub few_labels : (p : ProgramTree) → IsBounded p → (k : ℕ) → labels_at p.types k ≤ most
few_labels p bounded k = labels_few p.types (λ d xs w is. bounded.labels d xs w is) k

-- the bits of a type of a program
pub bits_same : (p : ProgramTree) (k : Kind) → bits_of p.types k ≡ kind_bits p k
bits_same p kind.Bool = refl
bits_same p kind.Int = refl
bits_same p (kind.Labels i) = refl
