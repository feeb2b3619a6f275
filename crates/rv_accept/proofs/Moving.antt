-- A set of control states before a step, node by node.
use Rattle.std.proofs.Common.{ℕ, ◌+◌, ◌-◌, ◌/◌, ◌<◌, ◌≤◌, ◌≡◌, Bool, if◌then◌else◌, List, [], ◌∷◌, ◌++◌, length, sym, ap, ◌∙◌, subst, ⊎_elim, arith}
use Rattle.std.proofs.Common.{Result, Ok, Err, IfOk, Some, slice_get, refl}
use Rattle.std.proofs.{lemmas.Bool.cases_lt, lemmas.List.get_or_append_left, Math.Seq.get_or-append_seam, Math.ListN.get_or-eq_default, Math.Path.fun_ext}
use Rattle.std.proofs.{lemmas.Option.same_Some}
use Rattle.rv_diagram.specs.Nodes.{Valuation, Diagrams, Answers, IsExpanded, IsRef, value_of, choice, node_at}
use Rattle.rv_diagram.specs.{declared.Triple.Triple, declared.frozen.Frozen.Frozen, Several.ref_at, Several.UsesNeeded}
use Rattle.rv_diagram.proofs.Several.{unused_ignored}
use Rattle.rv_diagram.specs.Growing.{Extends}
use Rattle.rv_proofs.specs.declared.certificate.Location.{Location}
use Rattle.rv_accept.specs.{Steps.AreRefs, Steps.has, Held.AreMoved, Held.ReadsNext, Held.follow}

pub child_found : (d : Diagrams) (moved : List ℕ) (r x : ℕ) → AreRefs d moved → r < length moved + 2 → (r < 2 → x ≡ r) → ((n : ℕ) → r ≡ n + 2
    → x ≡ ref_at moved n) → IsRef d.nodes x
child_found d moved r x refs low constant node = ⊎_elim (λ less. let e : x ≡ r = constant less in omega arith)
    (λ more. let e : x ≡ ref_at moved (r - 2) = node (r - 2) (omega arith) in subst (λ y. IsRef d.nodes y) (sym e) (refs (r - 2) (omega arith))) (cases_lt r 2)

pub child_means : (d e : Diagrams) (next : List ℕ) (nodes : List Triple) (moved : List ℕ) (r x : ℕ) → IsExpanded d.nodes → IsExpanded nodes
    → ((n : ℕ) → n < length moved → (v : Valuation) → value_of d.nodes (ref_at moved n) v ≡ value_of nodes (n + 2) (follow e next v))
    → r < length moved + 2 → (r < 2 → x ≡ r) → ((n : ℕ) → r ≡ n + 2 → x ≡ ref_at moved n) → (v : Valuation)
    → value_of d.nodes x v ≡ value_of nodes r (follow e next v)
child_means d e next nodes moved r x own other are low constant node v = ⊎_elim (λ less. ⊎_elim
    (λ z. let is : r ≡ 0 = omega arith in let at : x ≡ 0 = constant less ∙ is in ap (λ y. value_of d.nodes y v) at ∙ own.constant_false v
    ∙ sym (other.constant_false (follow e next v)) ∙ ap (λ y. value_of nodes y (follow e next v)) (sym is))
    (λ o. let is : r ≡ 1 = omega arith in let at : x ≡ 1 = constant less ∙ is in ap (λ y. value_of d.nodes y v) at ∙ own.constant_true v
    ∙ sym (other.constant_true (follow e next v)) ∙ ap (λ y. value_of nodes y (follow e next v)) (sym is)) (cases_lt r 1))
    (λ more. let is : r ≡ (r - 2) + 2 = omega arith in ap (λ y. value_of d.nodes y v) (node (r - 2) is) ∙ are (r - 2) (omega arith) v
    ∙ ap (λ y. value_of nodes y (follow e next v)) (sym is)) (cases_lt r 2)

pub chosen_means : {E : Type 0} (o : Result ℕ E) (a b : Diagrams) (next moved : List ℕ) (node : Triple) (hi lo : ℕ) → IsExpanded a.nodes
    → node.hi < length moved + 2 → node.lo < length moved + 2
    → (node.hi < 2 → hi ≡ node.hi) → ((n : ℕ) → node.hi ≡ n + 2 → hi ≡ ref_at moved n) → (node.lo < 2 → lo ≡ node.lo) → ((n : ℕ) → node.lo ≡ n + 2
    → lo ≡ ref_at moved n)
    → IfOk o (λ r. Answers a b (choice a.nodes (ref_at next (node.var / 2)) hi lo) r)
    → IfOk o (λ r. (nodes : List Triple) → IsExpanded nodes → AreMoved a next nodes moved → (v : Valuation)
    → value_of b.nodes r v ≡ (if follow a next v node.var then value_of nodes node.hi (follow a next v) else value_of nodes node.lo (follow a next v)))
chosen_means (Err f) a b next moved node hi lo own h l hc hn lc ln ok = ok
chosen_means (Ok r) a b next moved node hi lo own h l hc hn lc ln ok = λ nodes expanded are v.
    ok.means v
    ∙ ap (λ t. if follow a next v node.var then t else value_of a.nodes lo v) (child_means a a next nodes moved node.hi hi own expanded are h hc hn v)
    ∙ ap (λ t. if follow a next v node.var then value_of nodes node.hi (follow a next v) else t)
    (child_means a a next nodes moved node.lo lo own expanded are l lc ln v)

-- a number past the end reads the constant false
any_ref : (d : Diagrams) (refs : List ℕ) → AreRefs d refs → (k : ℕ) → IsRef d.nodes (ref_at refs k)
any_ref d refs are k = ⊎_elim (λ lt. are k lt) (λ ge. let z : ref_at refs k ≡ 0 = get_or-eq_default refs 0 ge in omega arith) (cases_lt k (length refs))

pub refs_later : (a b : Diagrams) (refs : List ℕ) → Extends a b → AreRefs a refs → AreRefs b refs
refs_later a b refs e are i low = let k : length a.nodes ≤ length b.nodes = e.longer in let h = are i low in omega arith

pub follow_kept : (a b : Diagrams) (next : List ℕ) → Extends a b → AreRefs a next → (v : Valuation) → follow b next v ≡ follow a next v
follow_kept a b next e refs v = fun_ext (λ x. e.kept (ref_at next (x / 2)) (any_ref a next refs (x / 2)) v)

pub refs_more : (b d : Diagrams) (moved : List ℕ) (i r : ℕ) → length moved ≡ i → Extends b d → AreRefs b moved → IsRef d.nodes r → (n : ℕ) → n < i + 1
    → IsRef d.nodes (ref_at (moved ++ r ∷ []) n)
refs_more b d moved i r size e are found n low = ⊎_elim
    (λ lt. subst (λ x. IsRef d.nodes x) (sym (get_or_append_left moved (r ∷ []) 0 n (omega arith))) (refs_later b d moved e are n (omega arith)))
    (λ ge. let is : i ≡ n = omega arith in subst (λ x. IsRef d.nodes x) (sym (ap (ref_at (moved ++ r ∷ [])) (sym is ∙ sym size)
    ∙ get_or-append_seam moved r [] 0)) found) (cases_lt n i)

pub moved_more : (a b d : Diagrams) (next : List ℕ) (nodes : List Triple) (moved : List ℕ) (i r : ℕ) (node : Triple) → IsExpanded nodes → AreRefs a next
    → Extends a b → Extends b d
    → length moved ≡ i → i < length nodes → node ≡ node_at nodes i → AreRefs b moved
    → ((n : ℕ) → n < i → (v : Valuation) → value_of b.nodes (ref_at moved n) v ≡ value_of nodes (n + 2) (follow a next v))
    → (AreMoved b next nodes moved → (v : Valuation) → value_of d.nodes r v ≡ (if follow b next v node.var then value_of nodes node.hi
    (follow b next v) else value_of nodes node.lo (follow b next v)))
    → (n : ℕ) → n < i + 1 → (v : Valuation) → value_of d.nodes (ref_at (moved ++ r ∷ []) n) v ≡ value_of nodes (n + 2) (follow a next v)
moved_more a b d next nodes moved i r node expanded refs ab bd size low is are before new n less v = ⊎_elim
    (λ lt. ap (λ x. value_of d.nodes x v) (get_or_append_left moved (r ∷ []) 0 n (omega arith)) ∙ bd.kept (ref_at moved n) (are n (omega arith)) v
    ∙ before n lt v)
    (λ ge. let same : i ≡ n = omega arith in
    ap (λ x. value_of d.nodes x v) (ap (ref_at (moved ++ r ∷ [])) (sym same ∙ sym size) ∙ get_or-append_seam moved r [] 0)
    ∙ new (λ m small w. before m (omega arith) w ∙ ap (value_of nodes (m + 2)) (sym (follow_kept a b next ab refs w))) v
    ∙ ap (λ (u : Valuation). if u node.var then value_of nodes node.hi u else value_of nodes node.lo u) (follow_kept a b next ab refs v)
    ∙ ap (λ (t : Triple). if follow a next v t.var then value_of nodes t.hi (follow a next v) else value_of nodes t.lo (follow a next v)) is
    ∙ sym (expanded.node i low (follow a next v))
    ∙ ap (λ (k : ℕ). value_of nodes (k + 2) (follow a next v)) same)
    (cases_lt n i)

-- what is reached reads no other bits
pub reads_reached : (set f : Frozen) (n : ℕ) → UsesNeeded f.nodes (value_of set.nodes set.root) → ReadsNext n set.nodes → ReadsNext n f.nodes
reads_reached set f n needed reads i low = ⊎_elim (λ less. less)
    (λ more. absurd (needed (node_at f.nodes i).var (unused_ignored set.nodes set.root (node_at f.nodes i).var (λ j there e.
    let h : (node_at f.nodes i).var / 2 < n = subst (λ y. y / 2 < n) e (reads j there) in omega (arith, more, h))) i low refl))
    (cases_lt ((node_at f.nodes i).var / 2) n)

-- one more location's set has been moved
pub led_more : (a b d : Diagrams) (next : List ℕ) (locations : List Location) (led : List ℕ) (i r : ℕ) (here : Location) → AreRefs a next → Extends a b
    → Extends b d → length led ≡ i → slice_get locations i ≡ Some here → AreRefs b led
    → ((n : ℕ) (x : Location) → n < i → slice_get locations n ≡ Some x → (v : Valuation)
    → value_of b.nodes (ref_at led n) v ≡ has x.control (follow a next v))
    → ((v : Valuation) → value_of d.nodes r v ≡ has here.control (follow b next v))
    → (n : ℕ) (x : Location) → n < i + 1 → slice_get locations n ≡ Some x → (v : Valuation)
    → value_of d.nodes (ref_at (led ++ r ∷ []) n) v ≡ has x.control (follow a next v)
led_more a b d next locations led i r here refs ab bd size at are before new n x less there v = ⊎_elim
    (λ lt. ap (λ y. value_of d.nodes y v) (get_or_append_left led (r ∷ []) 0 n (omega arith)) ∙ bd.kept (ref_at led n) (are n (omega arith)) v
    ∙ before n x lt there v)
    (λ ge. let same : i ≡ n = omega arith in
    ap (λ y. value_of d.nodes y v) (ap (ref_at (led ++ r ∷ [])) (sym same ∙ sym size) ∙ get_or-append_seam led r [] 0)
    ∙ new v ∙ ap (λ (u : Valuation). has here.control u) (follow_kept a b next ab refs v)
    ∙ ap (λ (l : Location). has l.control (follow a next v)) (same_Some here x (sym at ∙ ap (λ m. slice_get locations m) same ∙ there)))
    (cases_lt n i)

pub thawed_means : {E : Type 0} (o : Result ℕ E) (a b : Diagrams) (f g : Valuation → Bool) → ((v : Valuation) → f v ≡ g v) → IfOk o (λ r. Answers a b f r)
    → IfOk o (λ r. (v : Valuation) → value_of b.nodes r v ≡ g v)
thawed_means (Err x) a b f g same ok = ok
thawed_means (Ok r) a b f g same ok = λ v. ok.means v ∙ same v
