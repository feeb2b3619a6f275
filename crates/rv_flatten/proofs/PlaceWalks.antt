-- Where the layout of all flows leads along a place.
use Rattle.std.proofs.Common.{◌≡◌, ℕ, zero, suc, ◌+◌, ◌-◌, ◌<◌, ◌^◌, List, [], ◌∷◌, ◌++◌, map, length, get_or, take, unwrap_or, refl, sym, ◌∙◌, ap}
use Rattle.std.proofs.Common.{subst, arith}
use Rattle.std.proofs.{lemmas.List.get_or-map, lemmas.List.length-map, lemmas.List.take_all}
use Rattle.std.specs.Prelude.{min}
use Rattle.rv_tree.specs.{Tree.ProgramTree, Places.Identifier, Places.Sites, Places.flows, Places.site_of}
use Rattle.rv_types.specs.Instances.{Instance, callee, IsInstance, is_main, is_callee, IsFlow}
use Rattle.rv_types.specs.Needs.{IsSequence}
use Rattle.rv_instances.specs.Layouts.{IsLayout, IsHere, IsNumberOf, IsPlaced, callee_or_main, here_of, all_places}
use Rattle.rv_instances.specs.{declared.answer.Instance.Instance as Numbered, declared.layout.Layout.Layout, Expanded.IsExpanded}
use Rattle.rv_flatten.specs.Positions.{AreNumbersOf, number_from, site_number, way_from}
use Rattle.rv_flatten.proofs.FlowTotals.{few_flows}
use Rattle.rv_instances.proofs.ExpandedLaws.{main_at, number_at}
use Rattle.rv_types.proofs.Members.{among_from, index_there}

-- the instance to which calls lead
abbrev walk : Layout → ℕ → Sites → ℕ
walk l m [] = m
walk l m (s ∷ q) = walk l (callee_or_main l.callees m s) q

walk-snoc : (l : Layout) (m : ℕ) (q : Sites) (s : ℕ) → walk l m (q ++ s ∷ []) ≡ callee_or_main l.callees (walk l m q) s
walk-snoc l m [] s = refl
walk-snoc l m (t ∷ q) s = walk-snoc l (callee_or_main l.callees m t) q s

number-snoc : (l : Layout) (m n : ℕ) (q : Sites) (s : ℕ) → number_from l m n (q ++ s ∷ []) ≡ site_number l (walk l m q) s
number-snoc l m n [] s = refl
number-snoc l m n (t ∷ q) s = number-snoc l (callee_or_main l.callees m t) (site_number l m t) q s

-- the instances along calls: how many, the last of them, and those along one call more and along fewer calls
way_long : (l : Layout) (m : ℕ) (q : Sites) → length (way_from l m q) ≡ length q + 1
way_long l m [] = refl
way_long l m (s ∷ q) = omega (arith, way_long l (callee_or_main l.callees m s) q)

way_end : (l : Layout) (m : ℕ) (q : Sites) → get_or (way_from l m q) (length q) 0 ≡ walk l m q
way_end l m [] = refl
way_end l m (s ∷ q) = way_end l (callee_or_main l.callees m s) q

pub way_last : (l : Layout) (m : ℕ) (q : Sites) → get_or (way_from l m q) (length (way_from l m q) - 1) 0 ≡ walk l m q
way_last l m q =
    let long : length (way_from l m q) - 1 ≡ length q = omega (arith, way_long l m q) in
    ap (λ k. get_or (way_from l m q) k 0) long ∙ way_end l m q

way-snoc : (l : Layout) (m : ℕ) (q : Sites) (s : ℕ) → way_from l m (q ++ s ∷ []) ≡ way_from l m q ++ callee_or_main l.callees (walk l m q) s ∷ []
way-snoc l m [] s = refl
way-snoc l m (t ∷ q) s = ap (λ w. m ∷ w) (way-snoc l (callee_or_main l.callees m t) q s)

-- going on along one more call
pub way_more : (l : Layout) (q : Sites) (s : ℕ) (way new : List ℕ) → way ≡ way_from l 0 q
    → new ≡ way ++ callee_or_main l.callees (get_or way (length way - 1) 0) s ∷ [] → new ≡ way_from l 0 (q ++ s ∷ [])
way_more l q s way new is grown =
    grown ∙ (λ i. is i ++ callee_or_main l.callees (get_or (is i) (length (is i) - 1) 0) s ∷ [])
    ∙ ap (λ k. way_from l 0 q ++ callee_or_main l.callees k s ∷ []) (way_last l 0 q) ∙ sym (way-snoc l 0 q s)

-- back along fewer calls
back : (l : Layout) (m : ℕ) (q : Sites) (k : ℕ) → take (suc k) (way_from l m q) ≡ way_from l m (take k q)
back l m [] k =
    let nothing : take k [] ≡ [] = take_all k [] (omega arith) in
    ap (λ w. m ∷ w) nothing ∙ ap (way_from l m) (sym nothing)
back l m (s ∷ q) zero = refl
back l m (s ∷ q) (suc k) = ap (λ w. m ∷ w) (back l (callee_or_main l.callees m s) q k)

pub way_back : (l : Layout) (m : ℕ) (q : Sites) (k : ℕ) → take (k + 1) (way_from l m q) ≡ way_from l m (take k q)
way_back l m q k = let one : k + 1 ≡ suc k = omega arith in ap (λ n. take n (way_from l m q)) one ∙ back l m q k

-- the number at the end of the way along a path, and of one site more
pub number_reached : (l : Layout) (m n : ℕ) (q : Sites) (s : ℕ) (way : List ℕ) → way ≡ way_from l m q
    → site_number l (get_or way (length way - 1) 0) s ≡ number_from l m n (q ++ s ∷ [])
number_reached l m n q s way is =
    (λ i. site_number l (get_or (is i) (length (is i) - 1) 0) s) ∙ ap (λ k. site_number l k s) (way_last l m q) ∙ sym (number-snoc l m n q s)

module _ (p : ProgramTree) (main : Identifier) (instances : List Numbered) (known : IsExpanded p main instances) where
  module _ (l : Layout) (laid_out : IsLayout p main instances l) where
    -- the calls of a path lead to its instance
    walked : (i : Instance) → IsInstance p main i → IsNumberOf p instances (walk l 0 i.path) i
    walked _ is_main = main_at p main instances known
    walked _ (is_callee {i = i} c is w) =
        let m = walk l 0 i.path in let from = walked i is in let to = number_at p main instances known (callee p i c) (is_callee c is w) in
        let told = laid_out.callees.found m c.site to.0 from.0 to.1
        (ap (λ (x : Numbered). x.path) to.2 ∙ ap (λ (x : Numbered). x.path ++ c.site ∷ []) (sym from.1)) in
        let there : walk l 0 (i.path ++ c.site ∷ []) ≡ to.0 = walk-snoc l 0 i.path c.site ∙ ap (λ o. unwrap_or o 0) told in
        subst (λ k. IsNumberOf p instances k (callee p i c)) (sym there) (to.1, to.2)

    module _ (here : (m : ℕ) (i : Instance) → IsInstance p main i → IsNumberOf p instances m i → IsHere p (all_places p instances) i (here_of l m)) where
      -- and a place to its flow
      pub number_placed : (q : Sites) → IsFlow p main q → IsPlaced (all_places p instances) (number_from l 0 0 q) q
      number_placed q (i, x, is, w, e) =
          let m = walk l 0 i.path in let s = site_of i.node x in
          let at = (here m i is (walked i is)).flow s (index_there (flows i.node) x (among_from (flows i.node) x w)).0 in
          let few = few_flows p main instances known in let lt = at.0 in
          let same : number_from l 0 0 q ≡ (here_of l m).offset + s =
          ap (number_from l 0 0) e ∙ number-snoc l 0 0 i.path s ∙ no_greater ((here_of l m).offset + s) (omega (arith, lt, few)) in
          subst (λ k. IsPlaced (all_places p instances) k q) (sym same) (lt, at.1 ∙ sym e)
        where
          no_greater : (n : ℕ) → n < 2 ^ 32 → min n (2 ^ 32 - 1) ≡ n
          no_greater n lt = omega (arith, lt)

      -- so those of a sequence have its numbers
      pub sequence_numbers : (sequence : List Sites) (numbers : List ℕ) → IsSequence p main sequence → numbers ≡ map (number_from l 0 0) sequence
          → AreNumbersOf (all_places p instances) sequence numbers
      sequence_numbers sequence numbers are is = subst (AreNumbersOf (all_places p instances) sequence) (sym is) (record {
        size = length-map sequence (number_from l 0 0);
        each = λ j lt.
            let many = length-map sequence (number_from l 0 0) in
            let less : j < length sequence = omega (arith, lt, many) in
            let q = get_or sequence j [] in let at = number_placed q (are.only j less) in
            subst (λ k. IsPlaced (all_places p instances) k q) (sym (get_or-map (number_from l 0 0) sequence j [] 0 less)) at;
      })
