-- Sets in a store: whether one is within another, and unions.
use Rattle.std.proofs.Common.{ℕ, ◌+◌, ◌*◌, ◌^◌, ◌<◌, ◌≤◌, Bool, ◌≡◌, ◌↔◌, List, length, true, IsTrue, ◌||◌, sym, ap, ◌∙◌, subst, arith}
use Rattle.std.proofs.lemmas.Nat.{mul-le}
use Rattle.rv_diagram.specs.Nodes.{Valuation, Diagrams, Answers, IsOrderedOver, Grows, IsReduced, NeedsMore, value_of}
use Rattle.rv_diagram.specs.{Counting.count, Counting.ReadsOnly, Room.Lacks, Several.UsesNeeded, declared.Triple.Triple, declared.frozen.Frozen.Frozen}
use Rattle.rv_diagram.proofs.{Counting.count-most, Counting.needs_few, Room.blocks_fit, Room.doubled, Tables.value_among-below}
use Rattle.rv_diagram.specs.Growing.{Extends}
use Rattle.rv_diagram.proofs.Growing.{extends_trans, grows_extends}
use Rattle.rv_proofs.specs.{Scopes.IsIn, Systems.System, Ranges.IsControlSet}
use Rattle.rv_symbolic.proofs.{Extending.needed_same, Reading.control-value, Reading.control_set}
use Rattle.rv_state.specs.States.{either, IsUnion}

-- ---- Room.
-- a diagram that stands by itself reads the variables that it is ordered over
reads-only : (m : ℕ) (f : Frozen) → IsOrderedOver m f → ReadsOnly m (value_of f.nodes f.root)
reads-only m f ordered v w agree = value_among-below f.nodes m ordered.low v w agree (length f.nodes) f.root (omega arith)

-- what lacks room lacks that for all paths
lacks-paths : (m : ℕ) (nodes : List Triple) (limit : ℕ) (f : Valuation → Bool) → IsReduced nodes → ReadsOnly m f → NeedsMore nodes limit f
    → limit < length nodes + m * 2 ^ (m + 1)
lacks-paths m nodes limit f reduced reads needs =
    let most : count m f ≤ 2 ^ (m + 1) = omega (arith, count-most m 0 f, doubled m) in
    omega (arith, needs_few m nodes limit f reduced reads needs, mul-le m (count m f) m (2 ^ (m + 1)) (omega arith) most)

one-block : (k x : ℕ) → (k + 1) * x ≡ k * x + x
one-block k x = grind arith

two-blocks : (k x : ℕ) → (k + 2) * x ≡ k * x + x + x
two-blocks k x = grind arith

squared : (m : ℕ) → m + 2 ≤ (m + 2) * (m + 2)
squared m = grind arith

four : (m : ℕ) → 4 ≤ (m + 2) * (m + 2)
four m = grind arith

-- Where no room for some building calls is left, and these fit a step, none is left for a step.
lacks-step : (s : Diagrams) (k limit : ℕ) → limit ≡ s.limit → k ≤ (s.variables + 2) * (s.variables + 2)
    → limit < length s.nodes + k * 2 ^ (s.variables + 1) → Lacks 1 s
lacks-step s k limit same le h = omega (arith, same, h, blocks_fit s.variables k le)

-- one set is thawed, and a second call fails for want of room
pub second-lacks : (s0 s1 : Diagrams) (a b : Frozen) (one : ℕ) → Answers s0 s1 (value_of a.nodes a.root) one
    → length s1.nodes ≤ length s0.nodes + 2 ^ (s0.variables + 1) → IsOrderedOver s0.variables b → NeedsMore s1.nodes s1.limit (value_of b.nodes b.root)
    → Lacks 1 s0
second-lacks s0 s1 a b one p grown ordered needs =
    let m = s0.variables in
    let more = lacks-paths m s1.nodes s1.limit (value_of b.nodes b.root) p.grows.reduced (reads-only m b ordered) needs in
    lacks-step s0 (m + 1) s1.limit p.grows.limit (omega (arith, squared m)) (omega (arith, grown, more, one-block m (2 ^ (m + 1))))

module _ (s0 s1 s2 : Diagrams) (a b : Frozen) (one other : ℕ) (p : Answers s0 s1 (value_of a.nodes a.root) one)
    (q : Answers s1 s2 (value_of b.nodes b.root) other) where
  first-is : (v : Valuation) → value_of s2.nodes one v ≡ value_of a.nodes a.root v
  first-is v = q.grows.kept one p.found v ∙ p.means v

  pub within-exact : (is : Bool) → (IsTrue is ↔ ((v : Valuation) → value_of s2.nodes one v ≡ true → value_of s2.nodes other v ≡ true))
      → IsTrue is ↔ ((v : Valuation) → IsIn a v → IsIn b v)
  within-exact is h = (
    λ on v inside. sym (q.means v) ∙ h.0 on v (first-is v ∙ inside),
    λ all. h.1 (λ v inside. q.means v ∙ all v (sym (first-is v) ∙ inside)),
  )

  -- the store grows over two sets that are thawed and a comparison
  pub within-extends : (s3 : Diagrams) → Grows s2 s3 → Extends s0 s3
  within-extends s3 g =
      extends_trans s0 s2 s3 (extends_trans s0 s1 s2 (grows_extends s0 s1 p.grows) (grows_extends s1 s2 q.grows)) (grows_extends s2 s3 g)

  grown-twice : length s1.nodes ≤ length s0.nodes + 2 ^ (s0.variables + 1) → length s2.nodes ≤ length s1.nodes + 2 ^ (s1.variables + 1)
      → length s2.nodes ≤ length s0.nodes + 2 ^ (s0.variables + 1) + 2 ^ (s0.variables + 1)
  grown-twice grown more =
      let same : length s2.nodes ≤ length s1.nodes + 2 ^ (s0.variables + 1) =
      subst (λ m. length s2.nodes ≤ length s1.nodes + 2 ^ (m + 1)) p.grows.variables more in
      omega (arith, grown, same)

  -- whether one is within the other is not told for want of room
  pub within-lacks : length s1.nodes ≤ length s0.nodes + 2 ^ (s0.variables + 1) → length s2.nodes ≤ length s1.nodes + 2 ^ (s1.variables + 1)
      → s2.limit < length s2.nodes + 2 ^ (s2.variables + 1) → Lacks 1 s0
  within-lacks grown more lacks =
      let m = s0.variables in
      let last : s2.limit < length s2.nodes + 2 ^ (m + 1) =
      subst (λ n. s2.limit < length s2.nodes + 2 ^ (n + 1)) (q.grows.variables ∙ p.grows.variables) lacks in
      lacks-step s0 3 s2.limit (q.grows.limit ∙ p.grows.limit) (omega (arith, four m)) (omega (arith, grown-twice grown more, last))

  union-reads : IsOrderedOver s0.variables a → IsOrderedOver s0.variables b
      → ReadsOnly s0.variables (λ v. value_of s2.nodes one v || value_of s2.nodes other v)
  union-reads left right v w agree =
      ap (λ x. x || value_of s2.nodes other v) (first-is v ∙ reads-only s0.variables a left v w agree ∙ sym (first-is w))
      ∙ ap (λ x. value_of s2.nodes one w || x) (q.means v ∙ reads-only s0.variables b right v w agree ∙ sym (q.means w))

  -- their union is not made for want of room
  pub union-lacks : length s1.nodes ≤ length s0.nodes + 2 ^ (s0.variables + 1) → length s2.nodes ≤ length s1.nodes + 2 ^ (s1.variables + 1)
      → IsOrderedOver s0.variables a → IsOrderedOver s0.variables b
      → NeedsMore s2.nodes s2.limit (λ v. value_of s2.nodes one v || value_of s2.nodes other v) → Lacks 1 s0
  union-lacks grown more left right needs =
      let m = s0.variables in
      let last = lacks-paths m s2.nodes s2.limit (λ v. value_of s2.nodes one v || value_of s2.nodes other v) q.grows.reduced (union-reads left right) needs in
      lacks-step s0 (m + 2) s2.limit (q.grows.limit ∙ p.grows.limit) (squared m)
      (omega (arith, grown-twice grown more, last, two-blocks m (2 ^ (m + 1))))

  -- the store grows over two sets that are thawed and a third call
  pub union-extends : (s3 : Diagrams) (both : ℕ) → Answers s2 s3 (λ v. value_of s2.nodes one v || value_of s2.nodes other v) both → Extends s0 s3
  union-extends s3 both r = within-extends s3 r.grows

  pub union-made : (s3 : Diagrams) (f : Frozen) (both : ℕ) → Answers s2 s3 (λ v. value_of s2.nodes one v || value_of s2.nodes other v) both
      → IsOrderedOver s3.variables f → ((v : Valuation) → value_of f.nodes f.root v ≡ value_of s3.nodes both v) → UsesNeeded f.nodes (value_of s3.nodes both)
      → IsUnion s0.variables a b f
  union-made s3 f both r ordered means needed =
      let made : (v : Valuation) → value_of s3.nodes both v ≡ either a b v = λ v. r.means v
      ∙ ap (λ x. x || value_of s2.nodes other v) (first-is v) ∙ ap (λ x. value_of a.nodes a.root v || x) (q.means v) in
      record {
        ordered = subst (λ (m : ℕ). IsOrderedOver m f) (r.grows.variables ∙ q.grows.variables ∙ p.grows.variables) ordered;
        exact = λ v. means v ∙ made v;
        needed = needed_same f.nodes (value_of s3.nodes both) (either a b) made needed;
      }

-- and of sets of control states it is one
pub union-control : (s : System) (variables : ℕ) (a b f : Frozen) → variables ≡ s.variables → IsControlSet s a → IsControlSet s b → IsUnion variables a b f
    → IsControlSet s f
union-control s variables a b f is left right u =
    control_set s f (either a b) (subst (λ (m : ℕ). IsOrderedOver m f) is u.ordered) u.needed
    (λ v w same. ap (λ x. x || value_of b.nodes b.root v) (control-value s a v w left same)
    ∙ ap (λ x. value_of a.nodes a.root w || x) (control-value s b v w right same))
