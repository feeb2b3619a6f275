-- The steps of the limited machine, as the parser's methods take them.
use Rattle.std.proofs.Common.{◌≡◌, ℕ, ◌+◌, ◌<◌, ◌≤◌, Bool, true, false, cond, List, [], ◌∷◌, ◌++◌, length, refl, sym, ap, ◌∙◌, subst, arith}
use Rattle.std.proofs.lemmas.Bool.{le-leb, lt-leb, and_parts}
use Rattle.std.specs.Prelude.{Some, None, Result, Ok, Err, IfOk, IfErr, nat_le}
use Rattle.rv_syntax.specs.Grammar.{Yes, Called, Callee, Function, Hash, fixed, name_token, Just, Sampled, Invoked}
use Rattle.rv_syntax.specs.Nesting.{Weight, Operator, Opening, Plain, mark_weight, weight, limit}
use Rattle.rv_syntax.specs.Machine.{start_of, mark_next, kind_next, next_of, leaf_tree, Frame, Brackets, After, Asked, Answered, Else, Within, need_of, need}
use Rattle.rv_syntax.specs.Machine.{Held, held, whole, leaf_held, State, Want, Have, Clock, Hashed, To, Ends, Fails, accepts, taken, wrapped, closed, answered}
use Rattle.rv_syntax.specs.Machine.{otherwise, argued, awaited, onward, settle, begin, clocked, opened, step, starting, following}
use Rattle.rv_syntax.specs.Limited.{Counts, counts, count, at_end, going, limited, Limited, meets, left_to, leave}
use Rattle.rv_syntax.specs.Reads.{Ahead, tail, Stops, Around, from, Wanting, Calling, argued_from, TakesLeaf, starts_call, link_next, linked, SeesLink, Enters}
use Rattle.rv_syntax.specs.Reads.{TakesName, Passes, TakesMark, Part, Test, Yes, mark_behind, frame_of, next_frame, Choosing, held_of, ReadsAs}
use Rattle.rv_syntax.specs.{declared.fault.Why.TheVariants.Offends, declared.fault.Why.TheVariants.TooDeep, Marks.is_mark, Marks.is_name, Marks.kind_is}
use Rattle.rv_syntax.specs.{Marks.kind_name, declared.token.Mark.Mark, declared.token.Kind.Kind, declared.token.Token.Token, declared.parser.Start.Start}
use Rattle.rv_syntax.specs.{declared.parser.Next.Next, declared.parser.Link.Link, declared.parser.Operand.Operand, declared.fault.Stop.Stop, Parse.starts}
use Rattle.rv_syntax.specs.declared.token.Mark.TheVariants as mark
use Rattle.rv_syntax.specs.declared.token.Kind.TheVariants as kind
use Rattle.rv_tree.specs.{declared.tree.Name.Name, Tree.Tree}
use Rattle.rv_tree.specs.declared.tree.Op.TheVariants as op
use Rattle.rv_syntax.specs.declared.parser.Start.TheVariants as start
use Rattle.rv_syntax.specs.declared.parser.Next.TheVariants as next
use Rattle.rv_syntax.specs.declared.parser.Link.TheVariants as link
use Rattle.rv_syntax.specs.declared.fault.Stop.TheVariants as stop
use Rattle.rv_syntax.proofs.{Marked.token-mark, Complete.settle-taken}
use Rattle.rv_base.proofs.Truths.{clash}

-- What a token is says what it is to the nesting.
abbrev pub Weighs : Start → Weight → Type 0
Weighs start.Operand w = w ≡ Plain
Weighs start.Opens w = w ≡ Opening
Weighs start.Other w = Unit {0}
Weighs _ w = w ≡ Operator

weighs-kind : (k : Kind) (at : ℕ) → Weighs (start_of (record { kind = k; at = at })) (weight (record { kind = k; at = at }))
weighs-kind (kind.Fixed mark.True) at = refl
weighs-kind _ at = search

weighs-as : (t : Token) (r : Start) → start_of t ≡ r → Weighs r (weight t)
weighs-as t r h = subst (λ q. Weighs q (weight t)) h (weighs-kind t.kind t.at)

-- an operator between operands and `when` are operator tokens
abbrev Heavy : Next → Weight → Type 0
Heavy (next.Between o at) w = w ≡ Operator
Heavy (next.Gates at) w = w ≡ Operator
Heavy _ w = Unit {0}

heavy-kind : (k : Kind) (at : ℕ) → Heavy (kind_next k at) (weight (record { kind = k; at = at }))
heavy-kind (kind.Fixed mark.Arrow) at = refl
heavy-kind _ at = search

heavy-link : (l : Link) (w : Weight) → Heavy (link_next l) w → w ≡ Operator
heavy-link (link.Between o at) w h = h
heavy-link (link.When at) w h = h

heavy-as : (t : Token) (l : Link) → next_of t ≡ link_next l → weight t ≡ Operator
heavy-as t l h = heavy-link l (weight t) (subst (λ q. Heavy q (weight t)) h (heavy-kind t.kind t.at))

-- within the limit a move goes on, and beyond it the token is too deep
within : (d : ℕ) {x : Limited} (y : Limited) → d ≤ limit → cond (nat_le d limit) x y ≡ x
within d {x = x} y h = ap (λ b. cond b x y) (le-leb d limit h)

beyond : (d : ℕ) (x : Limited) {y : Limited} → limit < d → cond (nat_le d limit) x y ≡ y
beyond d x {y = y} h = ap (λ b. cond b x y) (lt-leb d limit h)

moves : (t : Token) (ts : List Token) (c d : Counts) (st q : State) → step st t ≡ To q → count (weight t) c ≡ d
    → limited c st (t ∷ ts) ≡ cond (nat_le d.now limit) (limited d q ts) (Err (TooDeep, t ∷ ts))
unfolding limited
moves t ts c d st q e w =
    ap (λ m. going m (count (weight t) c) (λ z. limited (count (weight t) c) z ts) (t ∷ ts)) e
    ∙ ap (λ x. cond (nat_le x.now limit) (limited x q ts) (Err (TooDeep, t ∷ ts))) w

goes : (t : Token) (ts : List Token) (c d : Counts) (st q : State) → step st t ≡ To q → count (weight t) c ≡ d → d.now ≤ limit
    → limited c st (t ∷ ts) ≡ limited d q ts
goes t ts c d st q e w le = moves t ts c d st q e w ∙ within d.now _ le

fails : (t : Token) (ts : List Token) (c : Counts) (st : State) → step st t ≡ Fails → limited c st (t ∷ ts) ≡ Err (Offends, t ∷ ts)
unfolding limited
fails t ts c st e = ap (λ m. going m (count (weight t) c) (λ z. limited (count (weight t) c) z ts) (t ∷ ts)) e

fails-to : (q : State) → Fails ≡ To q → ⊥
fails-to q h = cc

moved : (st : State) (ss : List ℕ) {d : ℕ} {ts : List Token} (new : Ahead) → new.rest ≡ ts → new.depth ≡ d
    → limited (counts d ss) st ts ≡ limited (counts new.depth ss) st new.rest
moved st ss {ts = ts} new h k = ap (λ x. limited (counts x ss) st ts) (sym k) ∙ ap (λ l. limited (counts new.depth ss) st l) (sym h)

-- ---- Where an operand is wanted.
begins-so : (t : Token) (r : Start) (s : List Frame) (q : State) → start_of t ≡ r → ((h : Held) → begin r h s ≡ To q) → step (Want s) t ≡ To q
begins-so t r s q h b = ap (λ x. begin x (leaf_held t) s) h ∙ b (leaf_held t)

weighed : (t : Token) (r : Start) (v : Weight) (c : Counts) → start_of t ≡ r → ((w : Weight) → Weighs r w → w ≡ v) → count (weight t) c ≡ count v c
weighed t r v c h f = ap (λ w. count w c) (f (weight t) (weighs-as t r h))

none-here : (r : Start) (s : List Frame) (q : State) → start.Other ≡ r → ((h : Held) → begin r h s ≡ To q) → ⊥
none-here r s q h b = fails-to q (ap (λ x. begin x (whole (Just Yes 0)) s) h ∙ b (whole (Just Yes 0)))

-- a token that begins an operand goes on, unless it is too deep
start-moves : (ts : List Token) (c : Counts) (s : List Frame) (r : Start) (q : State) (v : Weight) → starting ts ≡ r → ((h : Held) → begin r h s ≡ To q)
    → ((w : Weight) → Weighs r w → w ≡ v)
    → limited c (Want s) ts ≡ cond (nat_le (count v c).now limit) (limited (count v c) q (tail ts)) (Err (TooDeep, ts))
start-moves [] c s r q v h b f = absurd (none-here r s q h b)
start-moves (t ∷ ts) c s r q v h b f = moves t ts c (count v c) (Want s) q (begins-so t r s q h b) (weighed t r v c h f)

-- an operator token, before and behind it
module _ (old : Ahead) {r : Start} {q : List Frame → State} (is : starting old.rest ≡ r) (b : (h : Held) (s : List Frame) → begin r h s ≡ To (q s))
    (f : (w : Weight) → Weighs r w → w ≡ Operator) where
  operator-moves : (x : Around)
      → from old Want x ≡ cond (nat_le (old.depth + 1) limit) (limited (counts (old.depth + 1) x.outside) (q x.frames) (tail old.rest))
      (Err (TooDeep, old.rest))
  operator-moves x = start-moves old.rest (counts old.depth x.outside) x.frames r (q x.frames) Operator is (λ h. b h x.frames) f

  pub operator-goes : (mid : Ahead) → Enters old (Ok tt) mid → (x : Around) → from old Want x ≡ from mid q x
  operator-goes mid n x = operator-moves x ∙ within (old.depth + 1) _ (omega (arith, n.0)) ∙ moved _ _ mid n.1 n.2

  pub operator-deep : limit ≤ old.depth → (x : Around) → from old Want x ≡ Err (TooDeep, old.rest)
  operator-deep le x = operator-moves x ∙ beyond (old.depth + 1) _ (omega arith)

-- an opening bracket
module _ (old : Ahead) (is : starting old.rest ≡ start.Opens) where
  bracket-moves : (x : Around) → from old Want x
      ≡ cond (nat_le (old.depth + 1) limit) (limited (counts (old.depth + 1) (old.depth ∷ x.outside)) (Want (Brackets ∷ x.frames)) (tail old.rest))
      (Err (TooDeep, old.rest))
  bracket-moves x = start-moves old.rest (counts old.depth x.outside) x.frames start.Opens (Want (Brackets ∷ x.frames)) Opening is (λ h. refl) (λ w e. e)

  pub bracket-goes : (mid : Ahead) → Enters old (Ok tt) mid → (x : Around)
      → from old Want x ≡ limited (counts mid.depth (old.depth ∷ x.outside)) (Want (Brackets ∷ x.frames)) mid.rest
  bracket-goes mid n x = bracket-moves x ∙ within (old.depth + 1) _ (omega (arith, n.0)) ∙ moved _ _ mid n.1 n.2

  pub bracket-deep : limit ≤ old.depth → (x : Around) → from old Want x ≡ Err (TooDeep, old.rest)
  bracket-deep le x = bracket-moves x ∙ beyond (old.depth + 1) _ (omega arith)

-- a token that begins no operand
none-at : (ts : List Token) (c : Counts) (s : List Frame) → starting ts ≡ start.Other → limited c (Want s) ts ≡ Err (Offends, ts)
unfolding limited
none-at [] c s h = refl
none-at (t ∷ ts) c s h = fails t ts c (Want s) (ap (λ r. begin r (leaf_held t) s) h)

pub none-begins : (old : Ahead) → starting old.rest ≡ start.Other → (x : Around) → from old Want x ≡ Err (Offends, old.rest)
none-begins old is x = none-at old.rest (counts old.depth x.outside) x.frames is

-- A name that is no call is an operand as any other.
accepts-name : (r : Next) (k : ℕ) (b : Bool) (e : Tree) → (r ≡ next.Opens → ⊥) → accepts r k (held 11 b e) ≡ accepts r k (held 10 b e)
accepts-name next.Opens k b e h = absurd (h refl)
accepts-name (next.Between op.Arrow at) k b e h = refl
accepts-name _ k b e h = refl

taken-name : (r : Next) (b : Bool) (e : Tree) (s : List Frame) → (r ≡ next.Opens → ⊥) → taken r (held 11 b e) s ≡ taken r (held 10 b e) s
taken-name next.Opens b e s h = absurd (h refl)
taken-name _ b e s h = refl

wrapped-name : (f : Frame) (b : Bool) (e : Tree) → wrapped f (held 11 b e) ≡ wrapped f (held 10 b e)
wrapped-name Brackets b e = refl
wrapped-name _ b e = refl

settle-name : (r : Next) (b : Bool) (e : Tree) (s : List Frame) → (r ≡ next.Opens → ⊥) → settle r (held 11 b e) s ≡ settle r (held 10 b e) s
settle-name r b e [] h =
    ap (λ a. cond a (taken r (held 11 b e) []) (Ends e)) (accepts-name r 0 b e h)
    ∙ ap (λ m. cond (accepts r 0 (held 10 b e)) m (Ends e)) (taken-name r b e [] h)
settle-name r b e (f ∷ s) h =
    ap (λ a. cond a (taken r (held 11 b e) (f ∷ s)) (onward (wrapped f (held 11 b e)) (λ g. settle r g s) (awaited r f e s))) (accepts-name r (need_of f) b e h)
    ∙ ap (λ m. cond (accepts r (need_of f) (held 10 b e)) m (onward (wrapped f (held 11 b e)) (λ g. settle r g s) (awaited r f e s)))
    (taken-name r b e (f ∷ s) h)
    ∙ ap (λ o. cond (accepts r (need_of f) (held 10 b e)) (taken r (held 10 b e) (f ∷ s)) (onward o (λ g. settle r g s) (awaited r f e s))) (wrapped-name f b e)

other-opens : next.Other ≡ next.Opens → ⊥
other-opens h = cc

as-name : (ts : List Token) (c : Counts) (e : Tree) (s : List Frame) → (following ts ≡ next.Opens → ⊥)
    → limited c (Have (held 11 false e) s) ts ≡ limited c (Have (held 10 false e) s) ts
unfolding limited
as-name [] c e s h = ap at_end (settle-name next.Other false e s other-opens)
as-name (t ∷ ts) c e s h = ap (λ m. going m (count (weight t) c) (λ z. limited (count (weight t) c) z ts) (t ∷ ts)) (settle-name (next_of t) false e s h)

opens-kind : (k : Kind) (at : ℕ) → kind_next k at ≡ next.Opens → kind_is mark.Open k ≡ true
opens-kind (kind.Fixed mark.Open) at h = refl
opens-kind _ at h = cc

opens-list : (ts : List Token) → following ts ≡ next.Opens → starts (is_mark mark.Open) ts ≡ true
opens-list [] h = cc
opens-list (t ∷ ts) h = opens-kind t.kind t.at h

leaf-at : (k : Kind) (at : ℕ) (ts : List Token) (c : Counts) (s : List Frame) → starts_call (record { kind = k; at = at } ∷ ts) ≡ false
    → limited c (Have (leaf_held (record { kind = k; at = at })) s) ts ≡ limited c (Have (held 10 false (leaf_tree (record { kind = k; at = at }))) s) ts
leaf-at (kind.Name x) at ts c s h = as-name ts c (Just (Called x) at) s (λ o. clash (starts (is_mark mark.Open) ts) (opens-list ts o) h)
leaf-at (kind.Fixed mark.True) at ts c s h = refl
leaf-at _ at ts c s h = refl

pub leaf-goes : (old new : Ahead) (t : Token) (e : Tree) → starting old.rest ≡ start.Operand → starts_call old.rest ≡ false → old.rest ≡ t ∷ new.rest
    → new.depth ≡ old.depth → old.depth ≤ limit → e ≡ leaf_tree t
    → (x : Around) → from old Want x ≡ from new (Have (held 10 false e)) x
leaf-goes old new t e is n r d le v x =
    let h : start_of t ≡ start.Operand = sym (ap starting r) ∙ is in
    ap (λ ts. limited (counts old.depth x.outside) (Want x.frames) ts) r
    ∙ goes t new.rest (counts old.depth x.outside) (counts old.depth x.outside) (Want x.frames) (Have (leaf_held t) x.frames)
    (ap (λ q. begin q (leaf_held t) x.frames) h)
    (ap (λ w. count w (counts old.depth x.outside)) (weighs-as t start.Operand h)) le
    ∙ leaf-at t.kind t.at new.rest (counts old.depth x.outside) x.frames (sym (ap starts_call r) ∙ n)
    ∙ ap (λ y. limited (counts old.depth x.outside) (Have (held 10 false y) x.frames) new.rest) (sym v)
    ∙ moved _ _ new refl d

-- ---- After an operand.
no-link : (l : Link) → next.Other ≡ link_next l → ⊥
no-link (link.Between o at) h = cc
no-link (link.When at) h = cc

taken-link : (l : Link) (h : Held) (s : List Frame) → taken (link_next l) h s ≡ To (linked l h s)
taken-link (link.Between o at) h s = refl
taken-link (link.When at) h s = refl

link-so : (t : Token) (l : Link) (h : Held) (s : List Frame) → accepts (link_next l) (need s) h ≡ true → next_of t ≡ link_next l
    → step (Have h s) t ≡ To (linked l h s)
link-so t l h s a e = ap (λ r. settle r h s) e ∙ settle-taken (link_next l) h s a ∙ taken-link l h s

link-moves : (ts : List Token) (d : ℕ) (ss : List ℕ) (l : Link) (h : Held) (s : List Frame) → accepts (link_next l) (need s) h ≡ true
    → following ts ≡ link_next l
    → limited (counts d ss) (Have h s) ts ≡ cond (nat_le (d + 1) limit) (limited (counts (d + 1) ss) (linked l h s) (tail ts)) (Err (TooDeep, ts))
link-moves [] d ss l h s a e = absurd (no-link l e)
link-moves (t ∷ ts) d ss l h s a e =
    moves t ts (counts d ss) (counts (d + 1) ss) (Have h s) (linked l h s) (link-so t l h s a e) (ap (λ w. count w (counts d ss)) (heavy-as t l e))

-- what goes on with an operand
module _ (old : Ahead) (k : ℕ) (l : Link) (h : Held) (i : SeesLink k h old (Some l)) where
  link-on : (x : Around) → need x.frames ≡ k → from old (Have h) x
      ≡ cond (nat_le (old.depth + 1) limit) (limited (counts (old.depth + 1) x.outside) (linked l h x.frames) (tail old.rest)) (Err (TooDeep, old.rest))
  link-on x e = link-moves old.rest old.depth x.outside l h x.frames (subst (λ j. accepts (link_next l) j h ≡ true) (sym e) i.0) i.1

  pub link-goes : (mid : Ahead) → Enters old (Ok tt) mid → (x : Around) → need x.frames ≡ k → from old (Have h) x ≡ from mid (linked l h) x
  link-goes mid n x e = link-on x e ∙ within (old.depth + 1) _ (omega (arith, n.0)) ∙ moved _ _ mid n.1 n.2

  pub link-deep : limit ≤ old.depth → (x : Around) → need x.frames ≡ k → from old (Have h) x ≡ Err (TooDeep, old.rest)
  link-deep le x e = link-on x e ∙ beyond (old.depth + 1) _ (omega arith)

-- an operand that nothing goes on with is left to the frames
onward-left : (t : Token) (ts : List Token) (c : Counts) (h : Held) (f : Frame) (s : List Frame)
    → going (onward (wrapped f h) (λ g. settle (next_of t) g s) (awaited (next_of t) f h.body s)) (count (weight t) c) (λ q. limited (count (weight t) c) q ts)
    (t ∷ ts) ≡ left_to (wrapped f h) c f h.body s (t ∷ ts)
unfolding limited
onward-left t ts c h Brackets s = refl
onward-left t ts c h _ s = refl

end-left : (c : Counts) (h : Held) (f : Frame) (s : List Frame) → at_end (onward (wrapped f h) (λ g. settle next.Other g s) (awaited next.Other f h.body s))
    ≡ left_to (wrapped f h) c f h.body s []
unfolding limited
end-left c h Brackets s = refl
end-left c h _ s = refl

leaves-at : (ts : List Token) (c : Counts) (h : Held) (s : List Frame) → accepts (following ts) (need s) h ≡ false → limited c (Have h s) ts ≡ leave c h s ts
unfolding limited
leaves-at [] c h [] e = refl
leaves-at [] c h (f ∷ s) e = end-left c h f s
leaves-at (t ∷ ts) c h [] e = ap (λ b. going (cond b (taken (next_of t) h []) (Ends h.body)) (count (weight t) c) (λ q. limited (count (weight t) c) q ts)
    (t ∷ ts)) e
leaves-at (t ∷ ts) c h (f ∷ s) e =
    ap (λ b. going (cond b (taken (next_of t) h (f ∷ s)) (onward (wrapped f h) (λ g. settle (next_of t) g s) (awaited (next_of t) f h.body s)))
    (count (weight t) c) (λ q. limited (count (weight t) c) q ts) (t ∷ ts)) e
    ∙ onward-left t ts c h f s

pub leaves : (old : Ahead) (k : ℕ) (h : Held) → h.grade ≤ 10 → SeesLink k h old None → (x : Around) → need x.frames ≡ k
    → from old (Have h) x ≡ leave (counts old.depth x.outside) h x.frames old.rest
leaves old k h low i x e = leaves-at old.rest (counts old.depth x.outside) h x.frames (subst (λ j. accepts (following old.rest) j h ≡ false) (sym e) (i low))

-- ---- A word or symbol that a frame waits for.
meets-goes : (t : Token) (ts : List Token) (c d : Counts) (f : Frame) (e : Tree) (s : List Frame) (q : State) → awaited (next_of t) f e s ≡ To q
    → count (weight t) c ≡ d → d.now ≤ limit → meets c f e s (t ∷ ts) ≡ limited d q ts
meets-goes t ts c d f e s q a w le =
    ap (λ m. going m (count (weight t) c) (λ z. limited (count (weight t) c) z ts) (t ∷ ts)) a
    ∙ ap (λ x. cond (nat_le x.now limit) (limited x q ts) (Err (TooDeep, t ∷ ts))) w
    ∙ within d.now _ le

mark-met : (m : Mark) (ts : List Token) (c : Counts) {d : Counts} (f : Frame) (e : Tree) (s : List Frame) (q : State) → starts (is_mark m) ts ≡ true
    → ((at : ℕ) → awaited (mark_next m at) f e s ≡ To q) → count (mark_weight m) c ≡ d → d.now ≤ limit → meets c f e s ts ≡ limited d q (tail ts)
mark-met m [] c f e s q h a w le = cc
mark-met m (t ∷ ts) c {d = d} f e s q h a w le =
    ap (λ x. meets c f e s (x ∷ ts)) (token-mark m t h) ∙ meets-goes (fixed m t.at) ts c d f e s q (a t.at) w le

pub close-goes : (n : ℕ) (old new : Ahead) (h : Held) → n ≤ limit → TakesMark mark.Close n old true new → (x : Around)
    → leave (counts old.depth (n ∷ x.outside)) h (Brackets ∷ x.frames) old.rest ≡ from new (Have (whole h.body)) x
close-goes n old new h le p x =
    mark-met mark.Close old.rest _ {d = counts n x.outside} Brackets h.body x.frames (Have (whole h.body) x.frames) p.0 (λ at. refl) refl le
    ∙ moved _ _ new p.1 p.2

pub comma-goes : (n : ℕ) (old new : Ahead) (h : Held) (es : List Tree) → n < limit → TakesMark mark.Comma (n + 1) old true new → (x : Calling)
    → leave (counts old.depth (n ∷ x.around.outside)) h (Within x.callee es ∷ x.around.frames) old.rest ≡ argued_from n (es ++ h.body ∷ []) new x
comma-goes n old new h es lt p x =
    mark-met mark.Comma old.rest _ {d = counts (n + 1) (n ∷ x.around.outside)} (Within x.callee es) h.body x.around.frames
    (Want (Within x.callee (es ++ h.body ∷ []) ∷ x.around.frames)) p.0 (λ at. refl) refl (omega arith) ∙ moved _ _ new p.1 p.2

pub last-goes : (n : ℕ) (old new : Ahead) (h : Held) (es : List Tree) → n ≤ limit → TakesMark mark.Close n old true new → (x : Calling)
    → leave (counts old.depth (n ∷ x.around.outside)) h (Within x.callee es ∷ x.around.frames) old.rest
    ≡ from new (Have (whole (Invoked x.callee (es ++ h.body ∷ [])))) x.around
last-goes n old new h es le p x =
    mark-met mark.Close old.rest _ {d = counts n x.around.outside} (Within x.callee es) h.body x.around.frames
    (Have (whole (Invoked x.callee (es ++ h.body ∷ []))) x.around.frames) p.0 (λ at. refl) refl le ∙ moved _ _ new p.1 p.2

-- ---- Where it is missing.
then-kind : (k : Kind) (at i : ℕ) (e : Tree) (s : List Frame) → kind_is mark.Then k ≡ false → answered (kind_next k at) i e s ≡ Fails
then-kind (kind.Fixed mark.Then) at i e s h = cc
then-kind _ at i e s h = refl

else-kind : (k : Kind) (at i : ℕ) (a e : Tree) (s : List Frame) → kind_is mark.Else k ≡ false → otherwise (kind_next k at) i a e s ≡ Fails
else-kind (kind.Fixed mark.Else) at i a e s h = cc
else-kind _ at i a e s h = refl

close-kind : (k : Kind) (at : ℕ) (e : Tree) (s : List Frame) → kind_is mark.Close k ≡ false → closed (kind_next k at) e s ≡ Fails
close-kind (kind.Fixed mark.Close) at e s h = cc
close-kind _ at e s h = refl

argued-kind : (q : Kind) (at : ℕ) (f : Callee) (es : List Tree) (e : Tree) (s : List Frame) → kind_is mark.Comma q ≡ false → kind_is mark.Close q ≡ false
    → argued (kind_next q at) f es e s ≡ Fails
argued-kind (kind.Fixed mark.Comma) at f es e s h k = cc
argued-kind (kind.Fixed mark.Close) at f es e s h k = cc
argued-kind _ at f es e s h k = refl

unmet : (t : Token) (ts : List Token) (c : Counts) (f : Frame) (e : Tree) (s : List Frame) → awaited (next_of t) f e s ≡ Fails
    → meets c f e s (t ∷ ts) ≡ Err (Offends, t ∷ ts)
unmet t ts c f e s a = ap (λ m. going m (count (weight t) c) (λ z. limited (count (weight t) c) z ts) (t ∷ ts)) a

pub close-missing : (ts : List Token) (c : Counts) (h : Held) (s : List Frame) → starts (is_mark mark.Close) ts ≡ false
    → leave c h (Brackets ∷ s) ts ≡ Err (Offends, ts)
close-missing [] c h s n = refl
close-missing (t ∷ ts) c h s n = unmet t ts c Brackets h.body s (close-kind t.kind t.at h.body s n)

pub last-missing : (ts : List Token) (c : Counts) (f : Callee) (es : List Tree) (h : Held) (s : List Frame) → starts (is_mark mark.Comma) ts ≡ false
    → starts (is_mark mark.Close) ts ≡ false → leave c h (Within f es ∷ s) ts ≡ Err (Offends, ts)
last-missing [] c f es h s n m = refl
last-missing (t ∷ ts) c f es h s n m = unmet t ts c (Within f es) h.body s (argued-kind t.kind t.at f es h.body s n m)

-- ---- The name of a clock, and the bracket of a call.
clocked-not : (k : Kind) (up at : ℕ) (e : Tree) (s : List Frame) → starts is_name (record { kind = k; at = up } ∷ []) ≡ false
    → clocked (kind_name k up) at e s ≡ Fails
clocked-not (kind.Name x) up at e s h = cc
clocked-not _ up at e s h = refl

pub clock-missing : (ts : List Token) (c : Counts) (at : ℕ) (e : Tree) (s : List Frame) → starts is_name ts ≡ false
    → limited c (Clock at e s) ts ≡ Err (Offends, ts)
unfolding limited
clock-missing [] c at e s h = refl
clock-missing (t ∷ ts) c at e s h = fails t ts c (Clock at e s) (clocked-not t.kind t.at at e s h)

pub clock-goes : (old new : Ahead) (at : ℕ) (e : Tree) (n : Name) → old.rest ≡ name_token n ∷ new.rest → new.depth ≡ old.depth → old.depth ≤ limit
    → (x : Around) → from old (Clock at e) x ≡ from new (Have (held 8 false (Sampled at e n))) x
clock-goes old new at e n r d le x =
    let c = counts old.depth x.outside in
    ap (λ ts. limited c (Clock at e x.frames) ts) r
    ∙ goes (name_token n) new.rest c c (Clock at e x.frames) (Have (held 8 false (Sampled at e n)) x.frames) refl refl le ∙ moved _ _ new refl d

-- the bracket of a call, and that after `#`
bracket-opens : (ts : List Token) (d : ℕ) (ss : List ℕ) (st q : State) → ((at : ℕ) → step st (fixed mark.Open at) ≡ To q) → starts (is_mark mark.Open) ts ≡ true
    → limited (counts d ss) st ts ≡ cond (nat_le (d + 1) limit) (limited (counts (d + 1) (d ∷ ss)) q (tail ts)) (Err (TooDeep, ts))
bracket-opens [] d ss st q e h = cc
bracket-opens (t ∷ ts) d ss st q e h =
    subst (λ y. limited (counts d ss) st (y ∷ ts) ≡ cond (nat_le (d + 1) limit) (limited (counts (d + 1) (d ∷ ss)) q ts) (Err (TooDeep, y ∷ ts)))
    (sym (token-mark mark.Open t h)) (moves (fixed mark.Open t.at) ts (counts d ss) (counts (d + 1) (d ∷ ss)) st q (e t.at) refl)

call-named : (old mid : Ahead) (n : Name) → old.rest ≡ name_token n ∷ mid.rest → mid.depth ≡ old.depth → old.depth ≤ limit → (x : Around)
    → from old Want x ≡ from mid (Have (leaf_held (name_token n))) x
call-named old mid n r d le x =
    let c = counts old.depth x.outside in
    ap (λ ts. limited c (Want x.frames) ts) r
    ∙ goes (name_token n) mid.rest c c (Want x.frames) (Have (leaf_held (name_token n)) x.frames) refl refl le ∙ moved _ _ mid refl d

-- a name and its bracket
call-opens : (old mid : Ahead) (n : Name) → starts_call old.rest ≡ true → TakesName old (Ok n) mid → (x : Around)
    → from old Want x ≡ cond (nat_le (mid.depth + 1) limit)
    (limited (counts (mid.depth + 1) (mid.depth ∷ x.outside)) (Want (Within (Function n) [] ∷ x.frames)) (tail mid.rest)) (Err (TooDeep, mid.rest))
call-opens old mid n h p x =
    let named = leaf_held (name_token n) in
    call-named old mid n p.0 p.1 p.2 x
    ∙ bracket-opens mid.rest mid.depth x.outside (Have named x.frames) (Want (Within (Function n) [] ∷ x.frames))
    (λ at. settle-taken next.Opens named x.frames refl) (sym (ap starts_call p.0) ∙ h)

abbrev pub calling : Callee → Around → Calling
calling f x = record { callee = f; around = x }

pub call-goes : (old mid new : Ahead) (n : Name) → starts_call old.rest ≡ true → TakesName old (Ok n) mid → Enters mid (Ok tt) new → (x : Around)
    → from old Want x ≡ argued_from mid.depth [] new (calling (Function n) x)
call-goes old mid new n h p e x = call-opens old mid n h p x ∙ within (mid.depth + 1) _ (omega (arith, e.0)) ∙ moved _ _ new e.1 e.2

pub call-deep : (old mid : Ahead) (n : Name) → starts_call old.rest ≡ true → TakesName old (Ok n) mid → limit ≤ mid.depth → (x : Around)
    → from old Want x ≡ Err (TooDeep, mid.rest)
call-deep old mid n h p le x = call-opens old mid n h p x ∙ beyond (mid.depth + 1) _ (omega arith)

call-name : (ts : List Token) → starts_call ts ≡ true → starts is_name ts ≡ true
call-name [] h = cc
call-name (t ∷ ts) h = (and_parts _ _ h).0

-- a call begins with a name
pub call-none : {X : Type 0} (f : X → Limited) (e : Stop) (old new : Ahead) → starts_call old.rest ≡ true → TakesName old (Err e) new → Stops X f e new
call-none f stop.Memory old new h p = tt
call-none f (stop.Token why left) old new h p = absurd (clash (starts is_name old.rest) (call-name old.rest h) p.3)

hash-opens : (old : Ahead) (at : ℕ) → starts (is_mark mark.Open) old.rest ≡ true → (x : Around)
    → from old (Hashed at) x ≡ cond (nat_le (old.depth + 1) limit)
    (limited (counts (old.depth + 1) (old.depth ∷ x.outside)) (Want (Within (Hash at) [] ∷ x.frames)) (tail old.rest)) (Err (TooDeep, old.rest))
hash-opens old at h x = bracket-opens old.rest old.depth x.outside (Hashed at x.frames) (Want (Within (Hash at) [] ∷ x.frames)) (λ up. refl) h

pub hash-goes : (old new : Ahead) (at : ℕ) → starts (is_mark mark.Open) old.rest ≡ true → Enters old (Ok tt) new → (x : Around)
    → from old (Hashed at) x ≡ argued_from old.depth [] new (calling (Hash at) x)
hash-goes old new at h e x = hash-opens old at h x ∙ within (old.depth + 1) _ (omega (arith, e.0)) ∙ moved _ _ new e.1 e.2

pub hash-deep : (old : Ahead) (at : ℕ) → starts (is_mark mark.Open) old.rest ≡ true → limit ≤ old.depth → (x : Around)
    → from old (Hashed at) x ≡ Err (TooDeep, old.rest)
hash-deep old at h le x = hash-opens old at h x ∙ beyond (old.depth + 1) _ (omega arith)

opened-kind : (k : Kind) (up at : ℕ) (s : List Frame) → kind_is mark.Open k ≡ false → opened (start_of (record { kind = k; at = up })) at s ≡ Fails
opened-kind (kind.Fixed mark.Open) up at s h = cc
opened-kind _ up at s h = refl

pub hash-missing : (ts : List Token) (c : Counts) (at : ℕ) (s : List Frame) → starts (is_mark mark.Open) ts ≡ false
    → limited c (Hashed at s) ts ≡ Err (Offends, ts)
unfolding limited
hash-missing [] c at s h = refl
hash-missing (t ∷ ts) c at s h = fails t ts c (Hashed at s) (opened-kind t.kind t.at at s h)

-- ---- Stops.
-- a token that is too deep stops what leads there
pub deep-stop : {X : Type 0} {f : X → Limited} (e : Stop) {mid : Ahead} (new : Ahead) → Enters mid (Err e) new
    → (limit ≤ mid.depth → (x : X) → f x ≡ Err (TooDeep, mid.rest)) → Stops X f e new
deep-stop stop.Memory new n g = tt
deep-stop (stop.Token why left) {mid = mid} new n g =
    (n.3 ∙ ap (λ a. length a.rest) (sym n.2), λ x. g n.0 x ∙ ap (λ w. Err (w, mid.rest)) (sym n.1) ∙ ap (λ a. Err (why, a.rest)) (sym n.2))

-- a word that is missing does
pub pass-stop : {X : Type 0} {f : X → Limited} (m : Mark) (e : Stop) (mid new : Ahead) → Passes m mid (Err e) new
    → (starts (is_mark m) mid.rest ≡ false → (x : X) → f x ≡ Err (Offends, mid.rest)) → Stops X f e new
pass-stop m stop.Memory mid new p g = tt
pass-stop m (stop.Token why left) mid new p g =
    (p.0 ∙ ap (λ a. length a.rest) (sym p.2), λ x. g p.3 x ∙ ap (λ w. Err (w, mid.rest)) (sym p.1) ∙ ap (λ a. Err (why, a.rest)) (sym p.2))

pub name-stop : {X : Type 0} {f : X → Limited} (e : Stop) (mid new : Ahead) → TakesName mid (Err e) new
    → (starts is_name mid.rest ≡ false → (x : X) → f x ≡ Err (Offends, mid.rest)) → Stops X f e new
name-stop stop.Memory mid new p g = tt
name-stop (stop.Token why left) mid new p g =
    (p.0 ∙ ap (λ a. length a.rest) (sym p.2), λ x. g p.3 x ∙ ap (λ w. Err (w, mid.rest)) (sym p.1) ∙ ap (λ a. Err (why, a.rest)) (sym p.2))

-- a stop further on is a stop of what leads there
pub stop-from : {X Y : Type 0} {f : X → Limited} {g : Y → Limited} (e : Stop) (new : Ahead) → Stops Y g e new → ((x : X) → (y : Y) × (f x ≡ g y))
    → Stops X f e new
stop-from stop.Memory new s link = tt
stop-from (stop.Token why left) new s link = (s.0, λ x. let l = link x in l.1 ∙ s.1 l.0)

pub tail-short : (ts : List Token) → length (tail ts) ≤ length ts
tail-short [] = omega arith
tail-short (t ∷ ts) = omega arith

-- a literal or a name is there
pub leaf-none : {X : Type 0} (f : X → Limited) (e : Stop) (old new : Ahead) → starting old.rest ≡ start.Operand → TakesLeaf old (Err e) new → Stops X f e new
leaf-none f stop.Memory old new h p = tt
leaf-none f (stop.Token why left) old new h p = absurd (p h)

-- what is around an operand that is wanted
abbrev pub wanted : (k : ℕ) (s : List Frame) → List ℕ → need s ≡ k → Wanting k
wanted k s ss h = record { around = record { frames = s; outside = ss }; wants = h }

-- ---- A part of an `if` and the word behind it.
word-goes : (q : Part) (mid new : Ahead) (h : Held) → Passes (mark_behind q) mid (Ok tt) new → (x : Around)
    → leave (counts mid.depth x.outside) h (frame_of q ∷ x.frames) mid.rest ≡ from new (λ s. Want (next_frame q h.body ∷ s)) x
word-goes (Test at) mid new h p x =
    mark-met mark.Then mid.rest _ (Asked at) h.body x.frames (Want (Answered at h.body ∷ x.frames)) p.0 (λ up. refl) refl p.3 ∙ moved _ _ new p.1 p.2
word-goes (Yes at a) mid new h p x =
    mark-met mark.Else mid.rest _ (Answered at a) h.body x.frames (Want (Else at a h.body ∷ x.frames)) p.0 (λ up. refl) refl p.3 ∙ moved _ _ new p.1 p.2

word-missing : (q : Part) (ts : List Token) (c : Counts) (h : Held) (s : List Frame) → starts (is_mark (mark_behind q)) ts ≡ false
    → leave c h (frame_of q ∷ s) ts ≡ Err (Offends, ts)
word-missing (Test at) [] c h s n = refl
word-missing (Test at) (t ∷ ts) c h s n = unmet t ts c (Asked at) h.body s (then-kind t.kind t.at at h.body s n)
word-missing (Yes at a) [] c h s n = refl
word-missing (Yes at a) (t ∷ ts) c h s n = unmet t ts c (Answered at a) h.body s (else-kind t.kind t.at at a h.body s n)

pub part-goes : (m : Mark) (mid new : Ahead) (h : Held) → Passes m mid (Ok tt) new → (x : Choosing m)
    → leave (counts mid.depth x.around.outside) h (frame_of x.part ∷ x.around.frames) mid.rest
    ≡ from new (λ s. Want (next_frame x.part h.body ∷ s)) x.around
part-goes m mid new h p x = word-goes x.part mid new h (subst (λ n. Passes n mid (Ok tt) new) (sym x.behind) p) x.around

pub part-missing : (m : Mark) (mid : Ahead) (h : Held) → starts (is_mark m) mid.rest ≡ false → (x : Choosing m)
    → leave (counts mid.depth x.around.outside) h (frame_of x.part ∷ x.around.frames) mid.rest ≡ Err (Offends, mid.rest)
part-missing m mid h n x =
    word-missing x.part mid.rest (counts mid.depth x.around.outside) h x.around.frames (subst (λ k. starts (is_mark k) mid.rest ≡ false) (sym x.behind) n)

-- a part is an operand of level 0
pub part-need : (q : Part) (s : List Frame) → need (frame_of q ∷ s) ≡ 0
part-need (Test at) s = refl
part-need (Yes at a) s = refl

abbrev pub part-wanted : (m : Mark) → Choosing m → Wanting 0
part-wanted m x = wanted 0 (frame_of x.part ∷ x.around.frames) x.around.outside (part-need x.part x.around.frames)

-- the test of an `if`, and what it is where that holds
abbrev pub as-test : ℕ → Around → Choosing mark.Then
as-test at x = record { part = Test at; around = x; behind = refl }

abbrev pub as-yes : ℕ → Tree → Around → Choosing mark.Else
as-yes at a x = record { part = Yes at a; around = x; behind = refl }

-- an operand that has been made of what was read
pub made-read : (old new : Ahead) (state : List Frame → State) (k : Held) (r : Result Operand Stop) → k.grade ≤ 10 → IfOk r (λ o. held_of o ≡ k)
    → IfErr r (λ e. e ≡ stop.Memory) → ((x : Around) → from old state x ≡ from new (Have k) x) → ReadsAs old state r new
made-read old new state k (Ok o) le v m f = (omega (arith, le, ap (λ h. h.grade) v), λ x. f x ∙ ap (λ h. from new (Have h) x) (sym v))
made-read old new state k (Err e) le v m f = subst (λ e. Stops Around (from old state) e new) (sym m) tt
