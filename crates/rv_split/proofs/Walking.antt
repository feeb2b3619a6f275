-- Down a diagram, as long as one child leads nowhere.
use Rattle.std.proofs.Common.{ℕ, zero, suc, ◌+◌, ◌-◌, ◌<◌, ◌≤◌, ◌≡◌, Bool, true, false, ◌||◌, cond, eqb, List, [], ◌∷◌, ◌++◌, length}
use Rattle.std.proofs.Common.{refl, sym, ap, ◌∙◌, subst, ⊎_elim, arith, get_or}
use Rattle.std.proofs.lemmas.Bool.{cases_lt, cases_eq, both_ways}
use Rattle.std.proofs.lemmas.List.{get_or_append_left, get_or_push, length-append}
use Rattle.rv_diagram.specs.{declared.Triple.Triple, declared.frozen.Frozen.Frozen, Nodes.Valuation, Nodes.node_at, Nodes.value_of, Nodes.IsRef, Nodes.IsFrom}
use Rattle.rv_diagram.specs.Nodes.{IsPlaced, IsOrdered, put}
use Rattle.rv_diagram.proofs.{Meaning.value_of-constant, Canon.put-same, Canon.put-other, Canon.put-agree, Thawing.frozen-at, Thawing.frozen-lo}
use Rattle.rv_diagram.proofs.{Thawing.frozen-hi}
use Rattle.rv_diagram.proofs.{Thawing.frozen-agree}
use Rattle.rv_split.specs.Partitions.{IsStateSet, IsListed, IsSingle, AreRising}
use Rattle.rv_split.specs.Splits.{IsFirstFree}
use Rattle.rv_split.specs.Steps.{IsMet, AreTold, IsFreeAt, IsForced, IsWalked}

pub met_constant : (nodes : List Triple) (r : ℕ) → r < 2 → IsMet nodes r (eqb r 1)
met_constant nodes zero low = λ v. value_of-constant nodes v 0 (omega arith)
met_constant nodes (suc zero) low = ((λ x. false), value_of-constant nodes (λ x. false) 1 (omega arith))
met_constant nodes (suc (suc r)) low = absurd (omega arith)

pub met_told : (nodes : List Triple) (told : List Bool) (r : ℕ) → AreTold nodes told → 2 ≤ r → r < length told + 2 → IsMet nodes r (get_or told (r - 2) false)
met_told nodes told r are two low =
    let back : r - 2 + 2 ≡ r = omega arith in
    subst (λ (n : ℕ). IsMet nodes n (get_or told (r - 2) false)) back (are (r - 2) (omega arith))

-- a node is met where a child is
pub met_node : (nodes : List Triple) → IsOrdered nodes → (i : ℕ) → i < length nodes → (a b : Bool) → IsMet nodes (node_at nodes i).lo a
    → IsMet nodes (node_at nodes i).hi b → IsMet nodes (i + 2) (a || b)
met_node nodes ordered i low true b (v, on) hi =
    let place : i + 2 - 2 ≡ i = omega arith in
    let is : value_of nodes (node_at nodes (i + 2 - 2)).lo v ≡ value_of nodes (i + 2) (put v (node_at nodes (i + 2 - 2)).var false) =
    frozen-lo nodes ordered (i + 2) (omega arith) (omega arith) v in
    (put v (node_at nodes (i + 2 - 2)).var false, sym is ∙ ap (λ (k : ℕ). value_of nodes (node_at nodes k).lo v) place ∙ on)
met_node nodes ordered i low false true none (v, on) =
    let place : i + 2 - 2 ≡ i = omega arith in
    let is : value_of nodes (node_at nodes (i + 2 - 2)).hi v ≡ value_of nodes (i + 2) (put v (node_at nodes (i + 2 - 2)).var true) =
    frozen-hi nodes ordered (i + 2) (omega arith) (omega arith) v in
    (put v (node_at nodes (i + 2 - 2)).var true, sym is ∙ ap (λ (k : ℕ). value_of nodes (node_at nodes k).hi v) place ∙ on)
met_node nodes ordered i low false false none nothing = λ v.
    let place : i + 2 - 2 ≡ i = omega arith in
    let is : value_of nodes (i + 2) v ≡ cond (v (node_at nodes (i + 2 - 2)).var) (value_of nodes (node_at nodes (i + 2 - 2)).hi v)
    (value_of nodes (node_at nodes (i + 2 - 2)).lo v) = frozen-at nodes ordered (i + 2) (omega arith) (omega arith) v in
    is ∙ off (v (node_at nodes (i + 2 - 2)).var) (value_of nodes (node_at nodes (i + 2 - 2)).hi v) (value_of nodes (node_at nodes (i + 2 - 2)).lo v)
    (ap (λ (k : ℕ). value_of nodes (node_at nodes k).hi v) place ∙ nothing v) (ap (λ (k : ℕ). value_of nodes (node_at nodes k).lo v) place ∙ none v)
  where
    off : (b x y : Bool) → x ≡ false → y ≡ false → cond b x y ≡ false
    off true x y e f = e
    off false x y e f = f

pub told_more : (nodes : List Triple) (told : List Bool) (b : Bool) (i : ℕ) → AreTold nodes told → length told ≡ i → IsMet nodes (i + 2) b
    → AreTold nodes (told ++ b ∷ [])
told_more nodes told b i are size met k low = ⊎_elim
    (λ lt. subst (λ (x : Bool). IsMet nodes (k + 2) x) (sym (get_or_append_left told (b ∷ []) false k lt)) (are k lt))
    (λ ge. let e : i ≡ k = omega (arith, length-append told (b ∷ [])) in
    subst (λ (n : ℕ). IsMet nodes (n + 2) (get_or (told ++ b ∷ []) n false)) e
    (subst (λ (x : Bool). IsMet nodes (i + 2) x) (sym (get_or_push told b false i size)) met))
    (cases_lt k (length told))

-- both values of a variable that the reference does not read
pub free_above : (nodes : List Triple) → IsOrdered nodes → (at x : ℕ) → IsRef nodes at → IsMet nodes at true → IsFrom nodes (x + 1) at → IsFreeAt nodes at x
free_above nodes ordered at x ref (v, on) from = record {
  here = put v x true;
  in_here = frozen-agree nodes ordered (x + 1) at (put v x true) v ref from (put-agree v x true) ∙ on;
  holds = put-same v x true;
  there = put v x false;
  in_there = frozen-agree nodes ordered (x + 1) at (put v x false) v ref from (put-agree v x false) ∙ on;
  fails = put-same v x false;
}

-- both children are met
pub free_node : (nodes : List Triple) → IsOrdered nodes → (at x : ℕ) → IsRef nodes at → 2 ≤ at → (node_at nodes (at - 2)).var ≡ x
    → IsMet nodes (node_at nodes (at - 2)).lo true → IsMet nodes (node_at nodes (at - 2)).hi true → IsFreeAt nodes at x
free_node nodes ordered at x ref two is (v, on) (w, also) = record {
  here = put w (node_at nodes (at - 2)).var true;
  in_here = sym (frozen-hi nodes ordered at ref two w) ∙ also;
  holds = ap (λ (y : ℕ). put w (node_at nodes (at - 2)).var true y) (sym is) ∙ put-same w (node_at nodes (at - 2)).var true;
  there = put v (node_at nodes (at - 2)).var false;
  in_there = sym (frozen-lo nodes ordered at ref two v) ∙ on;
  fails = ap (λ (y : ℕ). put v (node_at nodes (at - 2)).var false y) (sym is) ∙ put-same v (node_at nodes (at - 2)).var false;
}

met_or : (nodes : List Triple) (at lo hi : ℕ) (b : Bool) (v : Valuation) → value_of nodes at v ≡ cond b (value_of nodes hi v) (value_of nodes lo v)
    → value_of nodes at v ≡ true → value_of nodes lo v ≡ false → (b ≡ true) × (value_of nodes hi v ≡ true)
met_or nodes at lo hi true v is on off = (refl, sym is ∙ on)
met_or nodes at lo hi false v is on off = absurd (both_ways (value_of nodes at v) (is ∙ off) on)

met_else : (nodes : List Triple) (at lo hi : ℕ) (b : Bool) (v : Valuation) → value_of nodes at v ≡ cond b (value_of nodes hi v) (value_of nodes lo v)
    → value_of nodes at v ≡ true → value_of nodes hi v ≡ false → (b ≡ false) × (value_of nodes lo v ≡ true)
met_else nodes at lo hi false v is on off = (refl, sym is ∙ on)
met_else nodes at lo hi true v is on off = absurd (both_ways (value_of nodes at v) (is ∙ off) on)

-- the child for true, where the other is met nowhere
pub forced_high : (nodes : List Triple) → IsOrdered nodes → (at x : ℕ) → IsRef nodes at → 2 ≤ at → (node_at nodes (at - 2)).var ≡ x
    → IsMet nodes at true → IsMet nodes (node_at nodes (at - 2)).lo false → IsForced nodes at x (node_at nodes (at - 2)).hi
forced_high nodes ordered at x ref two is (v, on) none =
    let nd : IsPlaced nodes (at - 2) = ordered (at - 2) (omega arith) in
    let shannon : (u : Valuation) → value_of nodes at u ≡ cond (u (node_at nodes (at - 2)).var) (value_of nodes (node_at nodes (at - 2)).hi u)
    (value_of nodes (node_at nodes (at - 2)).lo u) = frozen-at nodes ordered at ref two in
    let down : (u : Valuation) → value_of nodes at u ≡ true → (u (node_at nodes (at - 2)).var ≡ true) × (value_of nodes (node_at nodes (at - 2)).hi u ≡ true) =
    λ u h. met_or nodes at (node_at nodes (at - 2)).lo (node_at nodes (at - 2)).hi (u (node_at nodes (at - 2)).var) u (shannon u) h (none u) in
    record {
      value = true;
      found = omega (arith, nd.hi_earlier, ref);
      met = (v, (down v on).1);
      above = subst (λ (y : ℕ). IsFrom nodes (y + 1) (node_at nodes (at - 2)).hi) is nd.hi_greater;
      down = λ u h. (ap u (sym is) ∙ (down u h).0, (down u h).1);
      up = λ u e h. shannon u ∙ ap (λ b. cond b (value_of nodes (node_at nodes (at - 2)).hi u) (value_of nodes (node_at nodes (at - 2)).lo u))
          (ap u is ∙ e) ∙ h;
    }

pub forced_low : (nodes : List Triple) → IsOrdered nodes → (at x : ℕ) → IsRef nodes at → 2 ≤ at → (node_at nodes (at - 2)).var ≡ x
    → IsMet nodes at true → IsMet nodes (node_at nodes (at - 2)).hi false → IsForced nodes at x (node_at nodes (at - 2)).lo
forced_low nodes ordered at x ref two is (v, on) none =
    let nd : IsPlaced nodes (at - 2) = ordered (at - 2) (omega arith) in
    let shannon : (u : Valuation) → value_of nodes at u ≡ cond (u (node_at nodes (at - 2)).var) (value_of nodes (node_at nodes (at - 2)).hi u)
    (value_of nodes (node_at nodes (at - 2)).lo u) = frozen-at nodes ordered at ref two in
    let down : (u : Valuation) → value_of nodes at u ≡ true → (u (node_at nodes (at - 2)).var ≡ false) × (value_of nodes (node_at nodes (at - 2)).lo u ≡ true) =
    λ u h. met_else nodes at (node_at nodes (at - 2)).lo (node_at nodes (at - 2)).hi (u (node_at nodes (at - 2)).var) u (shannon u) h (none u) in
    record {
      value = false;
      found = omega (arith, nd.lo_earlier, ref);
      met = (v, (down v on).1);
      above = subst (λ (y : ℕ). IsFrom nodes (y + 1) (node_at nodes (at - 2)).lo) is nd.lo_greater;
      down = λ u h. (ap u (sym is) ∙ (down u h).0, (down u h).1);
      up = λ u e h. shannon u ∙ ap (λ b. cond b (value_of nodes (node_at nodes (at - 2)).hi u) (value_of nodes (node_at nodes (at - 2)).lo u))
          (ap u is ∙ e) ∙ h;
    }

pub walked_none : (nodes : List Triple) (root : ℕ) (state : List ℕ) → IsRef nodes root → IsMet nodes root true → IsWalked nodes root state 0 root
walked_none nodes root state found met = record {
  found = found;
  met = met;
  above = λ j lt. absurd (omega arith);
  even = λ j lt. absurd (omega arith);
  down = λ v h. h;
  lift = λ v h. (v, h, λ k above. refl);
}

-- the next listed variable is not below the reference's own
pub walked_from : (m : ℕ) (state : List ℕ) (set : Frozen) (i at : ℕ) → IsStateSet m state set → AreRising state → i < length state
    → IsWalked set.nodes set.root state i at → IsFrom set.nodes (get_or state i 0) at
walked_from m state set i at is rising low walked two =
    let n : ℕ = at - 2 in
    let place : IsListed state (node_at set.nodes (at - 2)).var = is.states (at - 2) (omega (arith, walked.found)) in
    ⊎_elim
    (λ lt. let above : get_or state place.0 0 + 1 ≤ (node_at set.nodes (at - 2)).var = walked.above place.0 lt two in
    absurd (omega (arith, above, place.2)))
    (λ ge. ⊎_elim
    (λ e. let same : get_or state place.0 0 ≡ get_or state i 0 = ap (λ (k : ℕ). get_or state k 0) e in omega (arith, place.2, same))
    (λ ne. let less : get_or state i 0 < get_or state place.0 0 = rising i place.0 (omega (arith, ge, ne)) place.1 in omega (arith, less, place.2))
    (cases_eq place.0 i))
    (cases_lt place.0 i)

pub walked_more : (nodes : List Triple) → IsOrdered nodes → (root : ℕ) (state : List ℕ) (i at child : ℕ) → AreRising state → i < length state
    → IsWalked nodes root state i at
    → IsForced nodes at (get_or state i 0) child → IsWalked nodes root state (i + 1) child
walked_more nodes ordered root state i at child rising low w f = record {
  found = f.found;
  met = f.met;
  above = λ j lt. ⊎_elim
      (λ less. below_child j less)
      (λ ge. let e : i ≡ j = omega (arith, lt, ge) in subst (λ (k : ℕ). IsFrom nodes (get_or state k 0 + 1) child) e f.above)
      (cases_lt j i);
  even = λ j lt v u iv iu. ⊎_elim
      (λ less. w.even j less v u iv iu)
      (λ ge. let e : i ≡ j = omega (arith, lt, ge) in
      subst (λ (k : ℕ). v (get_or state k 0) ≡ u (get_or state k 0)) e ((f.down v (w.down v iv)).0 ∙ sym (f.down u (w.down u iu)).0))
      (cases_lt j i);
  down = λ v h. (f.down v (w.down v h)).1;
  lift = λ v h. let on : value_of nodes at (put v (get_or state i 0) f.value) ≡ true = f.up (put v (get_or state i 0) f.value)
      (put-same v (get_or state i 0) f.value)
      (frozen-agree nodes ordered (get_or state i 0 + 1) child (put v (get_or state i 0) f.value) v f.found f.above
      (put-agree v (get_or state i 0) f.value) ∙ h) in
      let up : (u : Valuation) × (value_of nodes root u ≡ true) × ((k : ℕ) → ((j : ℕ) → j < i → get_or state j 0 < k) → u k ≡ put v
      (get_or state i 0) f.value k) =
      w.lift (put v (get_or state i 0) f.value) on in (
        up.0,
        up.1,
        λ k above. up.2 k (λ j lt. above j (omega (arith, lt)))
            ∙ put-other v (get_or state i 0) f.value k (λ e. let over : get_or state i 0 < k = above i (omega arith) in omega (arith, over, e)),
      );
}
  where
    below_child : (j : ℕ) → j < i → IsFrom nodes (get_or state j 0 + 1) child
    below_child j less two = omega (arith, f.above two, rising j i less low)

pub free_found : (nodes : List Triple) (root : ℕ) (state : List ℕ) (i at : ℕ) → AreRising state → i < length state → IsWalked nodes root state i at
    → IsFreeAt nodes at (get_or state i 0) → IsFirstFree state (record { nodes = nodes; root = root }) (get_or state i 0)
free_found nodes root state i at rising low w free =
    let here : (u : Valuation) × (value_of nodes root u ≡ true) × ((k : ℕ) → ((j : ℕ) → j < i → get_or state j 0 < k) → u k ≡ free.here k) =
    w.lift free.here free.in_here in
    let there : (u : Valuation) × (value_of nodes root u ≡ true) × ((k : ℕ) → ((j : ℕ) → j < i → get_or state j 0 < k) → u k ≡ free.there k) =
    w.lift free.there free.in_there in
    let over : (j : ℕ) → j < i → get_or state j 0 < get_or state i 0 = λ j lt. rising j i lt low in
    record {
      place = i;
      listed = low;
      is_x = refl;
      divided = record {
        here = here.0;
        in_here = here.1;
        holds = here.2 (get_or state i 0) over ∙ free.holds;
        there = there.0;
        in_there = there.1;
        fails = there.2 (get_or state i 0) over ∙ free.fails;
      };
      earlier = λ j lt v u iv iu. w.even j lt v u iv iu;
    }

pub single_found : (nodes : List Triple) (root : ℕ) (state : List ℕ) (i at : ℕ) → length state ≤ i → IsWalked nodes root state i at
    → IsSingle state (record { nodes = nodes; root = root })
single_found nodes root state i at past w v u iv iu x listed =
    let e : v (get_or state listed.0 0) ≡ u (get_or state listed.0 0) = w.even listed.0 (omega (arith, listed.1, past)) v u iv iu in
    ap v (sym listed.2) ∙ e ∙ ap u listed.2
