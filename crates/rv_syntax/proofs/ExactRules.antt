-- The rules of a program's text are read exactly.
use Rattle.std.proofs.lemmas.List.{append-nil}
use Rattle.std.proofs.Common.{append_assoc, inl, inr, ◌≡◌, ℕ, ◌≤◌, Bool, true, false, cond, List, [], ◌∷◌, ◌++◌, refl, sym, ap, ◌∙◌, subst, lit≤}
use Rattle.std.specs.Prelude.{◌⊎◌, Option, Some, None, ⊤}
use Rattle.rv_syntax.specs.Nesting.{Standing, Outside, Inside, opened_by, outside, behind, depth, limit, IsExprOf}
use Rattle.rv_syntax.specs.Marks.{is_mark, is_name, mark_at, kind_name, name_of}
use Rattle.rv_syntax.specs.Rules.{Gives, Word, Only, Marked, Maybe, Part, OneOf, Each}
use Rattle.rv_syntax.specs.ProgramText.{IsName, IsNames, IsKind, IsEnumeration, IsTypeBody, IsType, IsTypes, IsRight, IsConstant, IsConstants, IsGroup}
use Rattle.rv_syntax.specs.ProgramText.{all_flows, IsDecls, IsClock, IsLocal, IsVar, IsLefts, Item, Equates, Assumes, equation_of, assertion_of, IsItem}
use Rattle.rv_syntax.specs.ProgramText.{IsTitle, IsInputs, IsOutputs, IsBody, node_of, IsNode, Section, Types, Constants, IsSection, IsProgram}
use Rattle.rv_syntax.specs.Parse.{Parse, done, then, one, starts, choose, many, maybe}
use Rattle.rv_syntax.specs.{declared.token.Mark.Mark, declared.token.Kind.Kind, declared.token.Token.Token, Grammar.fixed, Grammar.name_token, Reads.expression}
use Rattle.rv_syntax.specs.{Reading.word}
use Rattle.rv_syntax.specs.declared.token.Mark.TheVariants as mark
use Rattle.rv_syntax.specs.declared.token.Kind.TheVariants as kind
use Rattle.rv_tree.specs.{declared.tree.Name.Name, declared.tree.Decl.Decl, Tree.Tree, Groups.Group}
use Rattle.rv_tree.specs.declared.tree.TypeBody.TheVariants as body_of
use Rattle.rv_syntax.specs.Reading as read
use Rattle.rv_syntax.proofs.Exact.{IsOne, Any, anything, StepsOver, exact-one, exact-done, exact-then, exact-to, exact-many, exact-choose, exact-before}
use Rattle.rv_syntax.proofs.Exact.{exact-word, exact-maybe, exact-or, Turns, exact-loop, Starts, Follows, starts-part, at-end}
use Rattle.rv_syntax.proofs.Expressions.{Ended, IsFresh, IsInside, Exact-expression}
use Rattle.rv_syntax.proofs.{Marked.token-mark, Exactly.Exact, Exactly.Language}

-- ---- Standings.
abbrev pub IsOutside : Standing → Type 0
IsOutside s = s ≡ Outside

abbrev At : Standing → Standing → Type 0
At s z = z ≡ s

-- a word or symbol between two standings
steps-from : (m : Mark) (s t : Standing) → ((at : ℕ) → behind (fixed m at) s ≡ t) → depth t ≤ limit → StepsOver m (At s) (At t)
steps-from m s t e low at z h = subst (λ y. (behind (fixed m at) y ≡ t) × (depth (behind (fixed m at) y) ≤ limit)) (sym h)
    (e at, subst (λ y. depth y ≤ limit) (sym (e at)) low)

-- one that leaves the standing outside
plain : (m : Mark) → opened_by m ≡ Outside → StepsOver m IsOutside IsOutside
plain m e = steps-from m Outside Outside (λ at. e) (lit≤ tt)

opens : (m : Mark) → opened_by m ≡ Inside outside → StepsOver m IsOutside IsFresh
opens m e = steps-from m Outside (Inside outside) (λ at. e) (lit≤ tt)

within : (m : Mark) → ((at : ℕ) → behind (fixed m at) (Inside outside) ≡ Inside outside) → StepsOver m IsFresh IsFresh
within m e = steps-from m (Inside outside) (Inside outside) e (lit≤ tt)

closes : StepsOver mark.Semi IsInside IsOutside
closes at s h = subst (λ y. IsOutside (behind (fixed mark.Semi at) y) × (depth (behind (fixed mark.Semi at) y) ≤ limit)) (sym h.1) (refl, lit≤ tt)

ends : StepsOver mark.Semi IsFresh IsOutside
ends = steps-from mark.Semi (Inside outside) Outside (λ at. refl) (lit≤ tt)

-- ---- How words begin.
pub starts-name : (test : Token → Bool) {b : Bool} → ((x : Name) → test (name_token x) ≡ b) → Starts test b IsName
starts-name test h x w rest e = ap (λ z. starts test (z ++ rest)) e ∙ h x

-- with this word or symbol
pub starts-word : {B : Type 0} {m : Mark} (K : Language B) (test : Token → Bool) {b : Bool} → ((at : ℕ) → test (fixed m at) ≡ b) → Starts test b (Word m K)
starts-word K test h c w rest r = ap (λ z. starts test (z ++ rest)) r.2 ∙ h r.0

starts-only : {m : Mark} (test : Token → Bool) {b : Bool} → ((at : ℕ) → test (fixed m at) ≡ b) → Starts test b (Only m)
starts-only test h u w rest r = ap (λ z. starts test (z ++ rest)) r.1 ∙ h r.0

starts-either : {A : Type 0} {K N : Language A} {test : Token → Bool} {b : Bool} → Starts test b K → Starts test b N → Starts test b (OneOf K N)
starts-either f g a w rest (inl k) = f a w rest k
starts-either f g a w rest (inr n) = g a w rest n

-- any number of parts, and then what begins in the same way
starts-each : {A : Type 0} {K : Language A} {test : Token → Bool} {b : Bool} → Starts test b K
    → (xs : List A) (u v rest : List Token) → Each K xs u → starts test (v ++ rest) ≡ b → starts test ((u ++ v) ++ rest) ≡ b
starts-each {test = test} first [] u v rest e h = ap (λ z. starts test ((z ++ v) ++ rest)) e ∙ h
starts-each {test = test} first (x ∷ xs) u v rest l h =
    ap (λ z. starts test ((z ++ v) ++ rest)) l.2 ∙ ap (starts test) (append_assoc (l.0 ++ l.1) v rest ∙ append_assoc l.0 l.1 (v ++ rest))
    ∙ first x l.0 (l.1 ++ (v ++ rest)) l.3

-- ---- Shorter forms of the laws.
-- what a word or symbol begins is followed as it has to be
by-word : {A B : Type 0} {m : Mark} (K : A → Language B) (F G : List Token → Type 0) → ((at : ℕ) (rest : List Token) → F (fixed m at ∷ rest))
    → Follows (λ a. Word m (K a)) F G
by-word K F G h a b v rest w g = subst (λ z. F (z ++ rest)) (sym w.2) (h w.0 (w.1 ++ rest))

-- and what a part that begins with one is followed by
before-word : {A B C : Type 0} {m : Mark} {K : Language A} (N : C → A → Language B) (F G : List Token → Type 0)
    → ((at : ℕ) (rest : List Token) → F (fixed m at ∷ rest)) → Follows (λ c. Part (Word m K) (N c)) F G
before-word N F G h c b v rest p g =
    let r = p.4 in
    subst (λ z. F (z ++ rest)) (sym (p.3 ∙ ap (λ z. z ++ p.2) r.2)) (h r.0 ((r.1 ++ p.2) ++ rest))

chain : {A B : Type 0} (s : Standing) {K : Language A} {N : A → Language B} {F G : List Token → Type 0} {p : Parse A} {f : A → Parse B}
    {P R : Standing → Type 0} → Exact P (At s) K F p → Follows N F G → ((a : A) → Exact (At s) R (N a) G (f a)) → Exact P R (Part K N) G (then p f)
chain s x follow y = exact-then s refl x follow y

over : {B : Type 0} (s : Standing) (m : Mark) {K : Language B} {G : List Token → Type 0} {p : Parse B} {P R : Standing → Type 0}
    → StepsOver m P (At s) → Exact (At s) R K G p → Exact P R (Word m K) G (word m p)
over s m step x = exact-word s refl m step x

past : {B : Type 0} (m : Mark) {K : Language B} {G : List Token → Type 0} {p : Parse B} {R : Standing → Type 0} → opened_by m ≡ Outside
    → Exact IsOutside R K G p → Exact IsOutside R (Word m K) G (word m p)
past m e x = over Outside m (plain m e) x

past-inside : {B : Type 0} (m : Mark) {K : Language B} {G : List Token → Type 0} {p : Parse B} {R : Standing → Type 0}
    → ((at : ℕ) → behind (fixed m at) (Inside outside) ≡ Inside outside) → Exact IsFresh R K G p → Exact IsFresh R (Word m K) G (word m p)
past-inside m e x = over (Inside outside) m (within m e) x

either : {A : Type 0} {P Q : Standing → Type 0} {K N : Language A} {G : List Token → Type 0} {p q : Parse A} {test : Token → Bool}
    → Starts test true K → Starts test false N → Exact P Q K G p → Exact P Q N G q → Exact P Q (OneOf K N) G (choose test p q)
either first other x y = exact-choose first (λ a w rest n g. other a w rest n) x y

optional : {A : Type 0} {K : Language A} {p : Parse A} {test : Token → Bool} → Starts test true K → Exact IsOutside IsOutside K Any p
    → Exact IsOutside IsOutside (Maybe K) (λ ts. starts test ts ≡ false) (maybe test p)
optional first x = exact-maybe Outside refl first (λ ts f. f) (exact-before (λ ts f. tt) x)

repeated : {A : Type 0} (s : Standing) {K : Language A} {p : Parse A} {test : Token → Bool} → Starts test true K → Exact (At s) (At s) K Any p
    → Exact (At s) (At s) (Each K) (λ ts. starts test ts ≡ false) (many test p)
repeated s first x = exact-many s refl {F = Any} first (λ a w rest k. tt) (λ ts g. (tt, g)) x

-- ---- Names.
abbrev or-name : Name → Option Name → Name
or-name x (Some y) = y
or-name x None = x

from-name : (k : Kind) (at : ℕ) (x : Name) → kind_name k at ≡ Some x → record { kind = k; at = at } ≡ name_token x
from-name (kind.Name y) at x h = ap (λ o. name_token (or-name x o)) h
from-name _ at x h = cc

is-name : (x : Name) (w : List Token) → IsOne name_of x w → IsName x w
is-name x w p = p.1 ∙ ap (λ t. t ∷ []) (from-name p.0.kind p.0.at x p.2)

abbrev no-name : Name
no-name = record { text = []; at = 0 }

name-at : (s : Standing) → ((x : Name) → behind (name_token x) s ≡ s) → depth s ≤ limit → Exact (At s) (At s) IsName Any (one name_of)
name-at s e low =
    exact-to is-name (λ x w e. (name_token x, e, refl))
    (exact-one (At s) (At s) name_of (name_token no-name) no-name refl
    (λ z h t a n. subst (λ u. (behind u z ≡ s) × (depth (behind u z) ≤ limit)) (sym (from-name t.kind t.at a n))
    (subst (λ y. (behind (name_token a) y ≡ s) × (depth (behind (name_token a) y) ≤ limit)) (sym h) (e a, subst (λ y. depth y ≤ limit) (sym (e a)) low))))

Exact-name : Exact IsOutside IsOutside IsName Any (one name_of)
Exact-name = name-at Outside (λ x. refl) (lit≤ tt)

Exact-fresh-name : Exact IsFresh IsFresh IsName Any (one name_of)
Exact-fresh-name = name-at (Inside outside) (λ x. refl) (lit≤ tt)

abbrev pub NoComma : List Token → Type 0
NoComma ts = starts (is_mark mark.Comma) ts ≡ false

module _ (s : Standing) (name : Exact (At s) (At s) IsName Any (one name_of)) (comma : StepsOver mark.Comma (At s) (At s)) where
  next-name-at : Exact (At s) (At s) (Word mark.Comma IsName) Any read.next_name
  unfolding read.next_name
  next-name-at = over s mark.Comma comma name

  names-at : Exact (At s) (At s) IsNames NoComma read.names
  unfolding read.names read.next_names
  names-at = chain s name (anything _ _) (λ x. chain s (repeated s (starts-word _ _ (λ at. refl)) next-name-at) (at-end _ _) (λ more. exact-done))

pub Exact-next-name : Exact IsOutside IsOutside (Word mark.Comma IsName) Any read.next_name
Exact-next-name = next-name-at Outside Exact-name (plain mark.Comma refl)

Exact-names : Exact IsOutside IsOutside IsNames NoComma read.names
Exact-names = names-at Outside Exact-name (plain mark.Comma refl)

Exact-fresh-names : Exact IsFresh IsFresh IsNames NoComma read.names
Exact-fresh-names = names-at (Inside outside) Exact-fresh-name (within mark.Comma (λ at. refl))

-- ---- Types.
module _ (s : Standing) (name : Exact (At s) (At s) IsName Any (one name_of)) (bool : StepsOver mark.Bool (At s) (At s))
    (int : StepsOver mark.Int (At s) (At s)) where
  kind-at : Exact (At s) (At s) IsKind Any read.kind
  unfolding read.kind
  kind-at =
      either (starts-word _ _ (λ at. refl)) (starts-either (starts-word _ _ (λ at. refl)) (starts-part _ (starts-name _ (λ x. refl))))
      (over s mark.Bool bool exact-done)
      (either (starts-word _ _ (λ at. refl)) (starts-part _ (starts-name _ (λ x. refl))) (over s mark.Int int exact-done)
      (chain s name (anything _ _) (λ x. exact-done)))

Exact-kind : Exact IsOutside IsOutside IsKind Any read.kind
Exact-kind = kind-at Outside Exact-name (plain mark.Bool refl) (plain mark.Int refl)

Exact-fresh-kind : Exact IsFresh IsFresh IsKind Any read.kind
Exact-fresh-kind = kind-at (Inside outside) Exact-fresh-name (within mark.Bool (λ at. refl)) (within mark.Int (λ at. refl))

Exact-enumeration : Exact IsFresh IsFresh IsEnumeration Any read.enumeration
unfolding read.enumeration
Exact-enumeration =
    past-inside mark.Enum (λ at. refl) (past-inside mark.OpenBrace (λ at. refl)
    (chain (Inside outside) Exact-fresh-names (by-word _ NoComma _ (λ at rest. refl)) (λ xs. past-inside mark.CloseBrace (λ at. refl) exact-done)))

alias-no-enum : Starts (is_mark mark.Enum) false (Part IsKind (λ k. Gives (body_of.Alias k)))
alias-no-enum =
    starts-part _ (starts-either (starts-word _ _ (λ at. refl)) (starts-either (starts-word _ _ (λ at. refl)) (starts-part _ (starts-name _ (λ x. refl)))))

Exact-type-body : Exact IsFresh IsFresh IsTypeBody Any read.type_body
unfolding read.type_body
Exact-type-body =
    either (starts-word _ _ (λ at. refl)) alias-no-enum Exact-enumeration (chain (Inside outside) Exact-fresh-kind (anything _ _) (λ k. exact-done))

pub Exact-type : Exact IsOutside IsOutside IsType Any read.one_type
unfolding read.one_type
Exact-type =
    chain Outside Exact-name (anything _ _) (λ x. over (Inside outside) mark.Equal (opens mark.Equal refl)
    (chain (Inside outside) Exact-type-body (anything _ _) (λ body. over Outside mark.Semi ends exact-done)))

abbrev pub NoName : List Token → Type 0
NoName ts = starts is_name ts ≡ false

pub Exact-next-types : Exact IsOutside IsOutside (Each IsType) NoName read.next_types
unfolding read.next_types
Exact-next-types = repeated Outside (starts-part _ (starts-name _ (λ x. refl))) Exact-type

Exact-types : Exact IsOutside IsOutside IsTypes NoName read.types
unfolding read.types
Exact-types = past mark.Type refl (chain Outside Exact-type (anything _ _) (λ d. chain Outside Exact-next-types (at-end _ _) (λ more. exact-done)))

-- ---- Constants.
-- an expression and the semicolon behind it
expression-ended : {B : Type 0} {give : Tree → B}
    → Exact IsFresh IsOutside (Part IsExprOf (λ e. Word mark.Semi (Gives (give e)))) Any (then expression (λ e. word mark.Semi (done (give e))))
expression-ended =
    exact-then (Inside outside) (outside, refl) Exact-expression (by-word _ Ended _ (λ at rest. tt)) (λ e. over Outside mark.Semi closes exact-done)

Exact-right : Exact IsOutside IsOutside IsRight Any read.right
unfolding read.right
Exact-right = over (Inside outside) mark.Equal (opens mark.Equal refl) expression-ended

abbrev NoColon : List Token → Type 0
NoColon ts = starts (is_mark mark.Colon) ts ≡ false

Exact-written-kind : Exact IsOutside IsOutside (Maybe (Word mark.Colon IsKind)) NoColon read.written_kind
unfolding read.written_kind
Exact-written-kind = optional (starts-word _ _ (λ at. refl)) (past mark.Colon refl Exact-kind)

pub Exact-constant : Exact IsOutside IsOutside IsConstant Any read.constant
unfolding read.constant
Exact-constant =
    chain Outside Exact-name (anything _ _) (λ x. chain Outside Exact-written-kind (before-word _ NoColon _ (λ at rest. refl)) (λ k.
    chain Outside Exact-right (anything _ _) (λ e. exact-done)))

pub Exact-next-constants : Exact IsOutside IsOutside (Each IsConstant) NoName read.next_constants
unfolding read.next_constants
Exact-next-constants = repeated Outside (starts-part _ (starts-name _ (λ x. refl))) Exact-constant

Exact-constants : Exact IsOutside IsOutside IsConstants NoName read.constants
unfolding read.constants
Exact-constants =
    past mark.Const refl (chain Outside Exact-constant (anything _ _) (λ c. chain Outside Exact-next-constants (at-end _ _) (λ more. exact-done)))

-- ---- Flows.
Exact-group : Exact IsOutside IsOutside IsGroup Any read.group
unfolding read.group
Exact-group =
    chain Outside Exact-names (by-word _ NoComma _ (λ at rest. refl)) (λ xs. past mark.Colon refl (chain Outside Exact-kind (anything _ _) (λ k. exact-done)))

-- a semicolon, with a group where there is one
abbrev pub IsNextGroup : Language (Option Group)
IsNextGroup = Word mark.Semi (Maybe IsGroup)

pub Exact-next-group : Exact IsOutside IsOutside IsNextGroup NoName read.next_group
unfolding read.next_group
Exact-next-group = past mark.Semi refl (optional (starts-part _ (starts-part _ (starts-name _ (λ x. refl)))) Exact-group)

-- neither a name nor a semicolon
abbrev NoGroup : List Token → Type 0
NoGroup ts = (starts is_name ts ≡ false) × (starts (is_mark mark.Semi) ts ≡ false)

pub Exact-next-groups : Exact IsOutside IsOutside (Turns IsNextGroup) NoGroup read.next_groups
unfolding read.next_groups
Exact-next-groups = exact-loop Outside refl Exact-next-group (starts-word _ _ (λ at. refl)) (starts-word _ _ (λ at. refl)) (λ ts g. g)

-- turns of groups are groups behind semicolons, and maybe one semicolon more
abbrev Ended-groups : Language (List Group)
Ended-groups gs w = (end : Option ⊤) × (u : List Token) × (v : List Token) × (w ≡ u ++ v) × Each (Word mark.Semi IsGroup) gs u × Maybe (Only mark.Semi) end v

split-turns : (gs : List Group) (w : List Token) → Turns IsNextGroup gs w → Ended-groups gs w
split-turns [] w (inl e) = (None, [], [], e, refl, refl)
split-turns [] w (inr r) = (Some tt, [], w, refl, refl, (r.0, r.2 ∙ ap (λ z. fixed mark.Semi r.0 ∷ z) r.3))
split-turns (g ∷ gs) w l =
    let s = split-turns gs l.1 l.4 in
    (s.0, l.0 ++ s.1, s.2, l.2 ∙ ap (λ z. l.0 ++ z) s.3 ∙ sym (append_assoc l.0 s.1 s.2), (l.0, s.1, refl, l.3, s.4), s.5)

join-end : (end : Option ⊤) (v : List Token) → Maybe (Only mark.Semi) end v → (v ≡ []) ⊎ IsNextGroup None v
join-end None v e = inl e
join-end (Some u) v r = inr (r.0, [], r.1, refl)

join-turns : (gs : List Group) (u v : List Token) (end : Option ⊤) → Each (Word mark.Semi IsGroup) gs u → Maybe (Only mark.Semi) end v
    → Turns IsNextGroup gs (u ++ v)
join-turns [] u v end e m = subst (λ z. Turns IsNextGroup [] (z ++ v)) (sym e) (join-end end v m)
join-turns (g ∷ gs) u v end l m = (l.0, l.1 ++ v, ap (λ z. z ++ v) l.2 ∙ append_assoc l.0 l.1 v, l.3, join-turns gs l.1 v end l.4 m)

abbrev As-turns : Language (List Decl)
As-turns = Part IsGroup (λ group. Part (Turns IsNextGroup) (λ more. Gives (all_flows (group ∷ more))))

to-decls : (ds : List Decl) (w : List Token) → As-turns ds w → IsDecls ds w
to-decls ds w l =
    let r = l.5 in
    let s = split-turns r.0 r.1 r.4 in
    let whole = r.3 ∙ ap (λ z. r.1 ++ z) r.5.0 ∙ append-nil r.1 ∙ s.3 in
    (l.0, l.1, l.2, l.3, l.4, (r.0, s.1, s.2, whole, s.4, (s.0, s.2, [], sym (append-nil s.2), s.5, (refl, r.5.1))))

from-decls : (ds : List Decl) (w : List Token) → IsDecls ds w → As-turns ds w
from-decls ds w l =
    let r = l.5 in
    let e = r.5 in
    let whole = r.3 ∙ ap (λ z. r.1 ++ z) (e.3 ∙ ap (λ z. e.1 ++ z) e.5.0 ∙ append-nil e.1) ∙ sym (append-nil (r.1 ++ e.1)) in
    (l.0, l.1, l.2, l.3, l.4, (r.0, r.1 ++ e.1, [], whole, join-turns r.0 r.1 e.1 e.0 r.4 e.4, (refl, e.5.1)))

Exact-decls : Exact IsOutside IsOutside IsDecls NoGroup read.decls
unfolding read.decls
Exact-decls =
    exact-to to-decls from-decls (chain Outside Exact-group (anything _ _) (λ group. chain Outside Exact-next-groups (at-end _ _) (λ more. exact-done)))

Exact-clock : Exact IsOutside IsOutside IsClock Any read.clock
unfolding read.clock
Exact-clock = past mark.When refl Exact-name

abbrev NoWhen : List Token → Type 0
NoWhen ts = starts (is_mark mark.When) ts ≡ false

pub Exact-local : Exact IsOutside IsOutside IsLocal Any read.local
unfolding read.local read.plain_local read.bracketed_local
Exact-local =
    either (starts-part _ (starts-part _ (starts-part _ (starts-name _ (λ x. refl))))) (starts-word _ _ (λ at. refl))
    (chain Outside Exact-group (anything _ _) (λ group. chain Outside (optional (starts-word _ _ (λ at. refl)) Exact-clock)
    (by-word _ NoWhen _ (λ at rest. refl)) (λ clock. past mark.Semi refl exact-done)))
    (past mark.Open refl (chain Outside Exact-group (anything _ _) (λ group. past mark.Close refl (chain Outside Exact-clock (anything _ _) (λ clock.
    past mark.Semi refl exact-done)))))

pub starts-local : Starts read.begins_local true IsLocal
starts-local = starts-either (starts-part _ (starts-part _ (starts-part _ (starts-name _ (λ x. refl))))) (starts-word _ _ (λ at. refl))

abbrev pub NoLocal : List Token → Type 0
NoLocal ts = starts read.begins_local ts ≡ false

pub Exact-next-locals : Exact IsOutside IsOutside (Each IsLocal) NoLocal read.next_locals
unfolding read.next_locals
Exact-next-locals = repeated Outside starts-local Exact-local

pub Exact-var : Exact IsOutside IsOutside IsVar NoLocal read.var
unfolding read.var
Exact-var = past mark.Var refl (chain Outside Exact-local (anything _ _) (λ ds. chain Outside Exact-next-locals (at-end _ _) (λ more. exact-done)))

abbrev NoVar : List Token → Type 0
NoVar ts = NoLocal ts × (starts (is_mark mark.Var) ts ≡ false)

pub Exact-vars : Exact IsOutside IsOutside (Each IsVar) NoVar read.vars
unfolding read.vars
Exact-vars = exact-many Outside refl (starts-word _ _ (λ at. refl)) (starts-word _ _ (λ at. refl)) (λ ts g. g) Exact-var

-- ---- Equations and assertions.
Exact-lefts : Exact IsOutside IsOutside IsLefts NoComma read.lefts
unfolding read.lefts
Exact-lefts =
    either (starts-part _ (starts-name _ (λ x. refl))) (starts-word _ _ (λ at. refl)) Exact-names
    (past mark.Open refl (chain Outside Exact-names (by-word _ NoComma _ (λ at rest. refl)) (λ xs. past mark.Close refl exact-done)))

abbrev IsEquation : Language Item
IsEquation = Part IsLefts (λ xs. Part IsRight (λ e. Gives (Equates (equation_of xs e))))

abbrev IsAssertion : Language Item
IsAssertion = Part (Marked mark.Assert) (λ at. Part IsExprOf (λ e. Word mark.Semi (Gives (Assumes (assertion_of at e)))))

Exact-equation : Exact IsOutside IsOutside IsEquation Any read.equation
unfolding read.equation
Exact-equation = chain Outside Exact-lefts (before-word _ NoComma _ (λ at rest. refl)) (λ xs. chain Outside Exact-right (anything _ _) (λ e. exact-done))

-- a word or symbol with its offset
some-at : (b : Bool) (n at : ℕ) → cond b (Some n) None ≡ Some at → (b ≡ true) × (n ≡ at)
some-at true n at h = (refl, cc)
some-at false n at h = cc

from-at : (m : Mark) (t : Token) (at : ℕ) → mark_at m t ≡ Some at → t ≡ fixed m at
from-at m t at h = let s = some-at (is_mark m t) t.at at h in token-mark m t s.0 ∙ ap (fixed m) s.1

Exact-assert : Exact IsOutside IsFresh (Marked mark.Assert) Any (one (mark_at mark.Assert))
Exact-assert =
    exact-to {K = IsOne (mark_at mark.Assert)} (λ at w p. p.1 ∙ ap (λ t. t ∷ []) (from-at mark.Assert p.0 at p.2)) (λ at w e. (fixed mark.Assert at, e, refl))
    (exact-one IsOutside IsFresh (mark_at mark.Assert) (fixed mark.Assert 0) 0 refl
    (λ z h t a n. subst (λ u. IsFresh (behind u z) × (depth (behind u z) ≤ limit)) (sym (from-at mark.Assert t a n)) (opens mark.Assert refl a z h)))

Exact-assertion : Exact IsOutside IsOutside IsAssertion Any read.assertion
unfolding read.assertion
Exact-assertion = chain (Inside outside) Exact-assert (anything _ _) (λ at. expression-ended)

starts-assertion : (test : Token → Bool) {b : Bool} → ((at : ℕ) → test (fixed mark.Assert at) ≡ b) → Starts test b IsAssertion
starts-assertion test h = starts-part _ (λ at w rest e. ap (λ z. starts test (z ++ rest)) e ∙ h at)

starts-equation : (test : Token → Bool) {b : Bool} → ((x : Name) → test (name_token x) ≡ b) → ((at : ℕ) → test (fixed mark.Open at) ≡ b)
    → Starts test b IsEquation
starts-equation test h k = starts-part _ (starts-either (starts-part _ (starts-name _ h)) (starts-word _ _ k))

pub Exact-item : Exact IsOutside IsOutside IsItem Any read.item
unfolding read.item
Exact-item = exact-or (either (starts-assertion _ (λ at. refl)) (starts-equation _ (λ x. refl) (λ at. refl)) Exact-assertion Exact-equation)

pub starts-item : Starts read.begins_item true IsItem
starts-item = starts-either (starts-equation _ (λ x. refl) (λ at. refl)) (starts-assertion _ (λ at. refl))

abbrev NoItem : List Token → Type 0
NoItem ts = starts read.begins_item ts ≡ false

pub Exact-items : Exact IsOutside IsOutside (Each IsItem) NoItem read.items
unfolding read.items
Exact-items = repeated Outside starts-item Exact-item

-- ---- A node.
Exact-title : Exact IsOutside IsOutside IsTitle Any read.title
unfolding read.title
Exact-title = past mark.Node refl Exact-name

Exact-inputs : Exact IsOutside IsOutside IsInputs Any read.inputs
unfolding read.inputs
Exact-inputs = past mark.Open refl (chain Outside Exact-decls (by-word _ NoGroup _ (λ at rest. (refl, refl))) (λ ds. past mark.Close refl exact-done))

Exact-only : (m : Mark) → opened_by m ≡ Outside → Exact IsOutside IsOutside (Only m) Any (read.only m)
Exact-only m e = exact-to {K = Word m (Gives tt)} (λ u w r. (r.0, r.2 ∙ ap (λ z. fixed m r.0 ∷ z) r.3.0)) (λ u w r. (r.0, [], r.1, (refl, refl)))
    (past m e exact-done)

abbrev NoSemi : List Token → Type 0
NoSemi ts = starts (is_mark mark.Semi) ts ≡ false

Exact-outputs : Exact IsOutside IsOutside IsOutputs NoSemi read.outputs
unfolding read.outputs
Exact-outputs =
    past mark.Returns refl (chain Outside Exact-inputs (anything _ _) (λ ds.
    chain Outside (optional (starts-only _ (λ at. refl)) (Exact-only mark.Semi refl)) (at-end _ _) (λ end. exact-done)))

abbrev pub NoEnd : List Token → Type 0
NoEnd ts = starts read.ends_node ts ≡ false

Exact-node-end : Exact IsOutside IsOutside (Maybe (OneOf (Only mark.Semi) (Only mark.Dot))) NoEnd read.node_end
unfolding read.node_end
Exact-node-end =
    optional (starts-either (starts-only _ (λ at. refl)) (starts-only _ (λ at. refl)))
    (either (starts-only _ (λ at. refl)) (starts-only _ (λ at. refl)) (Exact-only mark.Semi refl) (Exact-only mark.Dot refl))

Exact-body : Exact IsOutside IsOutside IsBody NoEnd read.body
unfolding read.body
Exact-body =
    past mark.Let refl (chain Outside Exact-items (by-word _ NoItem _ (λ at rest. refl)) (λ is.
    past mark.Tel refl (chain Outside Exact-node-end (at-end _ _) (λ end. exact-done))))

-- what follows the outputs is a section of locals or the body
after-outputs : (x : Name) (ins : List Decl)
    → Follows (λ outs. Part (Each IsVar) (λ vars. Part IsBody (λ items. Gives (node_of x ins outs vars items)))) NoSemi NoEnd
after-outputs x ins outs n v rest p g = ap (λ z. starts (is_mark mark.Semi) (z ++ rest)) p.3
    ∙ starts-each {K = IsVar} (starts-word _ _ (λ at. refl)) p.0 p.1 p.2 rest p.4
    (starts-part (λ items. Gives (node_of x ins outs p.0 items)) (starts-word _ _ (λ at. refl)) n p.2 rest p.5)

Exact-node : Exact IsOutside IsOutside IsNode NoEnd read.node
unfolding read.node
Exact-node =
    chain Outside Exact-title (anything _ _) (λ x. chain Outside Exact-inputs (anything _ _) (λ ins. chain Outside Exact-outputs (after-outputs x ins) (λ outs.
    chain Outside Exact-vars (before-word _ NoVar _ (λ at rest. (refl, refl))) (λ vars. chain Outside Exact-body (at-end _ _) (λ items. exact-done)))))

-- ---- A program.
-- what may follow a section
abbrev pub NoMore : List Token → Type 0
NoMore ts = NoName ts × NoEnd ts

pub Exact-section : Exact IsOutside IsOutside IsSection NoMore read.section
unfolding read.section
Exact-section =
    either (starts-part _ (starts-word _ _ (λ at. refl)))
    (starts-either (starts-part _ (starts-word _ _ (λ at. refl))) (starts-part _ (starts-part _ (starts-word _ _ (λ at. refl)))))
    (chain Outside (exact-before (λ (ts : List Token) (g : NoMore ts). g.0) Exact-types) (at-end _ _) (λ ds. exact-done))
    (either (starts-part _ (starts-word _ _ (λ at. refl))) (starts-part _ (starts-part _ (starts-word _ _ (λ at. refl))))
    (chain Outside (exact-before (λ (ts : List Token) (g : NoMore ts). g.0) Exact-constants) (at-end _ _) (λ cs. exact-done))
    (chain Outside (exact-before (λ (ts : List Token) (g : NoMore ts). g.1) Exact-node) (at-end _ _) (λ n. exact-done)))

starts-section-as : (test : Token → Bool) {b : Bool} → ((at : ℕ) → test (fixed mark.Type at) ≡ b) → ((at : ℕ) → test (fixed mark.Const at) ≡ b)
    → ((at : ℕ) → test (fixed mark.Node at) ≡ b) → Starts test b IsSection
starts-section-as test f g h =
    starts-either (starts-part _ (starts-word _ _ f)) (starts-either (starts-part _ (starts-word _ _ g)) (starts-part _ (starts-part _ (starts-word _ _ h))))

pub starts-section : Starts read.any true IsSection
starts-section = starts-section-as _ (λ at. refl) (λ at. refl) (λ at. refl)

before-section : (s : Section) (w rest : List Token) → IsSection s w → NoMore (w ++ rest)
before-section s w rest k =
    (starts-section-as _ (λ at. refl) (λ at. refl) (λ at. refl) s w rest k, starts-section-as _ (λ at. refl) (λ at. refl) (λ at. refl) s w rest k)

-- the end of the text
abbrev pub IsEndOfText : List Token → Type 0
IsEndOfText ts = ts ≡ []

pub Exact-sections : Exact IsOutside IsOutside (Each IsSection) IsEndOfText read.sections
unfolding read.sections
Exact-sections = exact-many Outside refl starts-section before-section (λ ts g. (subst NoMore (sym g) (refl, refl), ap (starts read.any) g)) Exact-section

pub Exact-program : Exact IsOutside IsOutside IsProgram IsEndOfText read.program
unfolding read.program
Exact-program = chain Outside Exact-sections (at-end _ _) (λ ss. exact-done)
