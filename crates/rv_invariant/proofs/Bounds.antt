-- The texts of numbers that are not too great, and of children.
use Rattle.std.proofs.Common.{◌≡◌, ◌+◌, ◌-◌, ◌^◌, ◌<◌, ◌≤◌, ℕ, Bool, true, false, List, length, refl, sym, ap, ◌∙◌, arith}
use Rattle.std.proofs.lemmas.Bool.{ltb-false, false_from_ne_true}
use Rattle.std.specs.Prelude.{◌&&◌, ◌||◌, nat_lt, decimal}
use Rattle.rv_diagram.specs.{Nodes.node_at, declared.Triple.Triple}
use Rattle.rv_invfile.specs.{Rules.Fields, Forms.field, Texts.natural}
use Rattle.rv_invfile.proofs.Decimals.{natural-is}
use Rattle.rv_invariant.specs.{Groups.upto, Pieces.is_below, Pieces.is_child, Pieces.triple_at, Pieces.variable_at}
use Rattle.rv_invariant.proofs.{Spelling.below-told, Spelling.below-right, Upto.upto-at}

module _ (limit : ℕ) (text : List ℕ) (n : ℕ) (is : text ≡ decimal n) (small : n < 2 ^ 64) where
  pub too-great : limit ≤ n → is_below limit text ≡ false
  too-great l = false_from_ne_true (is_below limit text) (λ e. let t = below-told limit text e in omega (arith, t.1, natural-is text n small is, l))

  pub too-long : 2 ^ 32 ≤ n → is_below limit text ≡ false
  too-long l = false_from_ne_true (is_below limit text) (λ e. let t = below-told limit text e in omega (arith, t.2, natural-is text n small is, l))

  pub below-is : n < limit → n < 2 ^ 32 → (is_below limit text ≡ true) × (n ≡ natural text)
  below-is l m = (ap (is_below limit) is ∙ below-right limit n l m, sym (natural-is text n small is))

-- ---- Children.
module _ (r : Fields) (triples : List Triple) (before : triples ≡ upto triple_at r (length triples)) where
  variable-is : (k : ℕ) → k < length triples → (node_at triples k).var ≡ variable_at r k
  variable-is k l = ap (λ (ts : List Triple). (node_at ts k).var) before
      ∙ ap (λ (t : Triple). t.var) (upto-at triple_at r (length triples) k (record { var = 0; lo = 0; hi = 0 }) l)

  later-is : (child v : ℕ) (b : Bool) → nat_lt child 2 ≡ b → child < length triples + 2
      → (b || nat_lt v (node_at triples (child - 2)).var) ≡ (b || nat_lt v (variable_at r (child - 2)))
  later-is child v true e l = refl
  later-is child v false e l = let ge = ltb-false child 2 e in ap (nat_lt v) (variable-is (child - 2) (omega (arith, ge, l)))

  pub child-is : (index limit child v : ℕ) (text : List ℕ) (b : Bool) → v ≡ variable_at r (length triples) → text ≡ field r index → limit ≡ length triples + 2
      → is_below limit text ≡ true → child ≡ natural text
      → b ≡ (nat_lt child 2 || nat_lt v (node_at triples (child - 2)).var) → is_child r (length triples) (field r index) ≡ b
  child-is index limit child v text b hv ht hl below hc hb =
      let told = below-told limit text below in
      let room : child < length triples + 2 = omega (arith, told.1, hc, hl) in
      let same = hc ∙ ap natural ht in
      ap (λ x. x && (nat_lt (natural (field r index)) 2 || nat_lt (variable_at r (length triples)) (variable_at r (natural (field r index) - 2))))
      (ap (λ m. is_below m (field r index)) (sym hl) ∙ ap (is_below limit) (sym ht) ∙ below)
      ∙ ap (λ m. nat_lt m 2 || nat_lt (variable_at r (length triples)) (variable_at r (m - 2))) (sym same)
      ∙ ap (λ m. nat_lt child 2 || nat_lt m (variable_at r (child - 2))) (sym hv)
      ∙ sym (later-is child v (nat_lt child 2) refl room) ∙ sym hb
