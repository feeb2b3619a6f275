-- The calls of a node are among what has a site there, and so have sites of their own.
use Rattle.std.proofs.Common.{◌≡◌, inl, inr, ℕ, zero, suc, ◌<◌, ◌≤◌, List, [], ◌∷◌, ◌++◌, length, get_or, refl, sym, ◌∙◌, ap, subst, arith, Option, Some}
use Rattle.std.proofs.Common.{unwrap_or}
use Rattle.std.proofs.{lemmas.Bool.cases_order, lemmas.List.Elements.Contains-get_or, lemmas.List.Elements.Contains-append_left}
use Rattle.std.specs.List.{Contains}
use Rattle.rv_tree.specs.Tree.{Tree, Node, Form, Not, Minus, Pre, Current, When, Binary, If, AtMostOne, Call, Trees, None, More, EquationTree, AssertionTree}
use Rattle.rv_tree.specs.Tree.{NodeTree}
use Rattle.rv_tree.specs.SitedParts.{SitedPart, part, comparison, parts, form_parts, trees_parts, equation_parts, assertion_parts, node_parts}
use Rattle.rv_tree.specs.{Places.flows, Delays.IsNumbered}
use Rattle.rv_types.specs.Instances.{CallTree, calls_in, form_calls, calls_in_all, calls_in_equations, calls_in_assertions, calls}
use Rattle.rv_types.specs.WellFormed.{HasSites}
use Rattle.rv_types.proofs.Members.{at_head, in_parts, stands_at}

-- calls in the order of the parts that they are
data AreAmong : List CallTree → List SitedPart → Type 0 where
  none : AreAmong [] []
  kept : {c : CallTree} {p : SitedPart} {cs : List CallTree} {ps : List SitedPart} → unwrap_or p.site 0 ≡ c.site → AreAmong cs ps → AreAmong (c ∷ cs) (p ∷ ps)
  left_out : {p : SitedPart} {cs : List CallTree} {ps : List SitedPart} → AreAmong cs ps → AreAmong cs (p ∷ ps)

among_append : {cs ds : List CallTree} {ps qs : List SitedPart} → AreAmong cs ps → AreAmong ds qs → AreAmong (cs ++ ds) (ps ++ qs)
among_append none v = v
among_append (kept e w) v = kept e (among_append w v)
among_append (left_out w) v = left_out (among_append w v)

among_after : (ps : List SitedPart) {cs : List CallTree} {qs : List SitedPart} → AreAmong cs qs → AreAmong cs (ps ++ qs)
among_after [] v = v
among_after (p ∷ ps) v = left_out (among_after ps v)

mutual
  calls_among : (e : Tree) → AreAmong (calls_in e) (parts e)
  calls_among (Node at site form) = form_among at site form

  form_among : (at : ℕ) (site : Option ℕ) (form : Form) → AreAmong (form_calls at site form) (form_parts at site form)
  form_among at site (Not e) = calls_among e
  form_among at site (Minus e) = calls_among e
  form_among at site (Pre e) = left_out (calls_among e)
  form_among at site (Current e) = left_out (calls_among e)
  form_among at site (When e c) = calls_among e
  form_among at site (Binary o a b) = among_append (calls_among a) (among_after (comparison o at site) (calls_among b))
  form_among at site (If a b c) = among_append (calls_among a) (among_append (calls_among b) (calls_among c))
  form_among at site (AtMostOne es) = all_among es
  form_among at site (Call f es) = kept refl (all_among es)
  form_among at site _ = none

  all_among : (es : Trees) → AreAmong (calls_in_all es) (trees_parts es)
  all_among None = none
  all_among (More e es) = among_append (calls_among e) (all_among es)

equations_among : (qs : List EquationTree) → AreAmong (calls_in_equations qs) (equation_parts qs)
equations_among [] = none
equations_among (q ∷ qs) = among_append (calls_among q.right) (equations_among qs)

assertions_among : (qs : List AssertionTree) → AreAmong (calls_in_assertions qs) (assertion_parts qs)
assertions_among [] = none
assertions_among (a ∷ rest) = left_out (among_append (calls_among a.body) (assertions_among rest))

node_among : (n : NodeTree) → AreAmong (calls n) (node_parts n)
node_among n = among_append (equations_among n.equations) (assertions_among n.assertions)

-- the number of a call among the parts
place : {cs : List CallTree} {ps : List SitedPart} → AreAmong cs ps → ℕ → ℕ
place none i = i
place (kept e w) zero = zero
place (kept e w) (suc i) = suc (place w i)
place (left_out w) i = suc (place w i)

place_rises : {cs : List CallTree} {ps : List SitedPart} (w : AreAmong cs ps) (i j : ℕ) → i < j → place w i < place w j
unfolding place
place_rises none i j lt = lt
place_rises (kept e w) i zero lt = absurd (omega (arith, lt))
place_rises (kept e w) zero (suc j) lt = omega arith
place_rises (kept e w) (suc i) (suc j) lt = let h = place_rises w i j (omega (arith, lt)) in omega (arith, h)
place_rises (left_out w) i j lt = let h = place_rises w i j lt in omega (arith, h)

place_within : {cs : List CallTree} {ps : List SitedPart} (w : AreAmong cs ps) (i : ℕ) → i < length cs → place w i < length ps
unfolding place
place_within none i lt = lt
place_within (kept e w) zero lt = omega arith
place_within (kept e w) (suc i) lt = let h = place_within w i (omega (arith, lt)) in omega (arith, h)
place_within (left_out w) i lt = let h = place_within w i lt in omega (arith, h)

place_site : {cs : List CallTree} {ps : List SitedPart} (w : AreAmong cs ps) (i : ℕ) (c : CallTree) (p : SitedPart) → i < length cs
    → unwrap_or (get_or ps (place w i) p).site 0 ≡ (get_or cs i c).site
unfolding place
place_site none i c p lt = absurd (omega (arith, lt))
place_site (kept e w) zero c p lt = e
place_site (kept e w) (suc i) c p lt = place_site w i c p (omega (arith, lt))
place_site (left_out w) i c p lt = place_site w i c p lt

module _ (n : NodeTree) (numbered : IsNumbered n) where
  abbrev no_part : SitedPart
  no_part = part 0 (Some 0)

  abbrev at_place : ℕ → SitedPart
  at_place i = get_or (node_parts n) (place (node_among n) i) no_part

  -- the site of the part that a call is
  part_site : (i : ℕ) (c : CallTree) → i < length (calls n) → (s : ℕ) × ((at_place i).site ≡ Some s) × (length (flows n) ≤ s)
      × (s ≡ (get_or (calls n) i c).site)
  part_site i c lt =
      let there = Contains-get_or (node_parts n) (place (node_among n) i) no_part (place_within (node_among n) i lt) in
      let w = numbered.next (at_place i) there in
      (w.0, w.1, w.2, ap (λ o. unwrap_or o 0) (sym w.1) ∙ place_site (node_among n) i c no_part lt)

  calls_apart : (i j : ℕ) (c : CallTree) → i < j → j < length (calls n) → (get_or (calls n) i c).site ≡ (get_or (calls n) j c).site → ⊥
  calls_apart i j c less lt same =
      let a = part_site i c (omega (arith, less, lt)) in
      let b = part_site j c lt in
      numbered.apart (place (node_among n) i) (place (node_among n) j) no_part (place_rises (node_among n) i j less) (place_within (node_among n) j lt)
      (a.1 ∙ ap Some (a.3 ∙ same ∙ sym b.3) ∙ sym b.1)

  -- the calls of a node whose sites are numbered have sites of their own
  pub has_sites : HasSites n
  has_sites = record {
    beyond = λ c w. let a = part_site w.0 c w.1 in let le = a.2 in let e : a.0 ≡ c.site = a.3 ∙ ap (λ (d : CallTree). d.site) w.2 in omega (arith, le, e);
    apart = calls_apart;
  }

-- calls with one site are one call
pub one_call : (n : NodeTree) → HasSites n → (c d : CallTree) → Contains (calls n) c → Contains (calls n) d → c.site ≡ d.site → c ≡ d
one_call n has c d w v same =
    let k = w.0 in
    let m = v.0 in
    let at_m : get_or (calls n) m c ≡ d = stands_at (calls n) d c v in
    let sites : (get_or (calls n) k c).site ≡ (get_or (calls n) m c).site = ap (λ (c : CallTree). c.site) w.2 ∙ same
    ∙ sym (ap (λ (c : CallTree). c.site) at_m) in
    elim (cases_order k m) [
      | inl here ↦ sym w.2 ∙ ap (λ i. get_or (calls n) i c) here ∙ at_m
      | inr (inl less) ↦ absurd (has.apart k m c less v.1 sites)
      | inr (inr more) ↦ absurd (has.apart m k c more w.1 (sym sites))
    ]

-- the right side of an equation that is a call has a site
pub right_site : (n : NodeTree) → IsNumbered n → (q : EquationTree) (at : ℕ) (site : Option ℕ) (f : List ℕ) (es : Trees) → Contains n.equations q
    → q.right ≡ Node at site (Call f es) → (s : ℕ) × (site ≡ Some s)
right_site n numbered q at site f es w is =
    let there = in_parts (λ (q : EquationTree). parts q.right) equation_parts refl (λ q qs. refl) n.equations q (part at site) w
    (subst (λ (t : Tree). Contains (parts t) (part at site)) (sym is) (at_head (part at site) (trees_parts es))) in
    let h = numbered.next (part at site) (Contains-append_left (equation_parts n.equations) (assertion_parts n.assertions) (part at site) there) in
    (h.0, h.1)
