-- Each token that is left out is one at which no program goes on: in a program a name and then no `(` follow each
-- `when`, behind the word `node`, a name and `(` there is no `)`, and up to the next `var` or `let` no `when`.
use Rattle.std.proofs.Common.{inl, inr, ◌≡◌, ℕ, Bool, true, false, List, [], ◌∷◌, ◌++◌, refl, sym, ap, ◌∙◌, subst, append_assoc}
use Rattle.std.specs.Prelude.{◌⊎◌, ◌&&◌, ◌||◌, Some, None as Nothing}
use Rattle.rv_syntax.specs.Grammar.{Leaf, Yes, Callee, Function, Hash, Written, Atom, InBrackets, Before, Between, Gated, If, Given, Front, NoneBefore, Then}
use Rattle.rv_syntax.specs.Grammar.{fixed, name_token, leaf_token, callee_token, prefix_mark, op_mark, spelling, front_spelling}
use Rattle.rv_syntax.specs.Rules.{Gives, Word, Only, Marked, Maybe, Part, OneOf, Each}
use Rattle.rv_syntax.specs.ProgramText.{IsName, IsNames, IsKind, IsEnumeration, IsTypeBody, IsType, IsTypes, IsRight, IsConstant, IsConstants, IsGroup, IsDecls}
use Rattle.rv_syntax.specs.ProgramText.{IsClock, IsLocal, IsVar, IsLefts, IsItem, IsInputs, IsOutputs, IsBody, IsNode, IsSection, IsProgram}
use Rattle.rv_syntax.specs.Faults.{IsDead, kind_is, is_name, is_when, is_open, is_close, is_not, is_node, still_headed, nothing_before, one_later, looked_back}
use Rattle.rv_syntax.specs.Faults.{kind_left_out, negates_clock, calls_clock, has_no_inputs, clocks_port, is_left_out}
use Rattle.rv_syntax.specs.{declared.token.Mark.Mark, declared.token.Kind.Kind, declared.token.Token.Token, declared.operator.Prefix.Prefix, Nesting.IsExprOf}
use Rattle.rv_syntax.specs.declared.token.Mark.TheVariants as mark
use Rattle.rv_syntax.specs.declared.token.Kind.TheVariants as kind
use Rattle.rv_tree.specs.{declared.tree.Op.Op, declared.tree.Decl.Decl}
use Rattle.rv_tree.specs.declared.tree.Op.TheVariants as op
use Rattle.rv_syntax.specs.declared.operator.Prefix.TheVariants as prefixed
use Rattle.rv_syntax.specs.Faults as fault
use Rattle.rv_base.proofs.Truths.{clash}

-- ---- What follows a `when` and the word `node`.
abbrev Unopened : List Token → Type 0
Unopened [] = ⊥
Unopened (t ∷ ts) = kind_is is_open t.kind ≡ false

abbrev AfterWhen : List Token → Type 0
AfterWhen [] = ⊥
AfterWhen (t ∷ ts) = (is_name t.kind ≡ true) × Unopened ts

abbrev Unclosed : List Token → Type 0
Unclosed [] = ⊥
Unclosed (t ∷ ts) = kind_is is_close t.kind ≡ false

abbrev AfterName : List Token → Type 0
AfterName [] = ⊥
AfterName (t ∷ ts) = Unclosed ts

abbrev AfterNode : List Token → Type 0
AfterNode [] = ⊥
AfterNode (t ∷ ts) = AfterName ts

abbrev ends_header : Mark → Bool
ends_header mark.Var = true
ends_header mark.Let = true
ends_header _ = false

-- no `when` up to the next `var` or `let`
abbrev Heads : List Token → Type 0
Heads [] = ⊥
Heads (t ∷ ts) = (kind_is ends_header t.kind ≡ true) ⊎ ((kind_is is_when t.kind ≡ false) × Heads ts)

record Fits (t : Token) (ts : List Token) : Type 0 where
  known : kind_left_out t.kind ≡ false
  clock : kind_is is_when t.kind ≡ true → AfterWhen ts
  inputs : kind_is is_node t.kind ≡ true → AfterNode ts
  header : kind_is is_node t.kind ≡ true → Heads ts

abbrev Placed : List Token → Type 0
Placed [] = Unit {0}
Placed (t ∷ ts) = Fits t ts × Placed ts

-- ---- More tokens change none of this.
unopened-more : (ts us : List Token) → Unopened ts → Unopened (ts ++ us)
unopened-more [] us h = absurd h
unopened-more (t ∷ ts) us h = h

when-more : (ts us : List Token) → AfterWhen ts → AfterWhen (ts ++ us)
when-more [] us h = absurd h
when-more (t ∷ ts) us h = (h.0, unopened-more ts us h.1)

unclosed-more : (ts us : List Token) → Unclosed ts → Unclosed (ts ++ us)
unclosed-more [] us h = absurd h
unclosed-more (t ∷ ts) us h = h

name-more : (ts us : List Token) → AfterName ts → AfterName (ts ++ us)
name-more [] us h = absurd h
name-more (t ∷ ts) us h = unclosed-more ts us h

node-more : (ts us : List Token) → AfterNode ts → AfterNode (ts ++ us)
node-more [] us h = absurd h
node-more (t ∷ ts) us h = name-more ts us h

heads-later : (t : Token) (ts us : List Token) → (Heads ts → Heads (ts ++ us)) → Heads (t ∷ ts) → Heads (t ∷ (ts ++ us))
heads-later t ts us f (inl e) = inl e
heads-later t ts us f (inr h) = inr (h.0, f h.1)

heads-more : (ts us : List Token) → Heads ts → Heads (ts ++ us)
heads-more [] us h = absurd h
heads-more (t ∷ ts) us h = heads-later t ts us (heads-more ts us) h

fits-more : (t : Token) (ts us : List Token) → Fits t ts → Fits t (ts ++ us)
fits-more t ts us h = record {
  known = h.known;
  clock = λ e. when-more ts us (h.clock e);
  inputs = λ e. node-more ts us (h.inputs e);
  header = λ e. heads-more ts us (h.header e);
}

placed-both : (ts us : List Token) → Placed ts → Placed us → Placed (ts ++ us)
placed-both [] us h k = k
placed-both (t ∷ ts) us h k = (fits-more t ts us h.0, placed-both ts us h.1 k)

-- ---- Tokens that ask nothing of what follows.
abbrev Eases : Token → Type 0
Eases t = (kind_left_out t.kind ≡ false) × (kind_is is_when t.kind ≡ false) × (kind_is is_node t.kind ≡ false)

eased : (t : Token) (ts : List Token) → Eases t → Fits t ts
eased t ts h = record {
  known = h.0;
  clock = λ e. absurd (clash (kind_is is_when t.kind) e h.1);
  inputs = λ e. absurd (clash (kind_is is_node t.kind) e h.2);
  header = λ e. absurd (clash (kind_is is_node t.kind) e h.2);
}

eases-leaf : (l : Leaf) (at : ℕ) → Eases (leaf_token l at)
eases-leaf Yes at = (refl, refl, refl)
eases-leaf _ at = (refl, refl, refl)

eases-callee : (f : Callee) → Eases (callee_token f)
eases-callee (Function x) = (refl, refl, refl)
eases-callee (Hash at) = (refl, refl, refl)

eases-prefix : (p : Prefix) (at : ℕ) → Eases (fixed (prefix_mark p) at)
eases-prefix prefixed.Not at = (refl, refl, refl)
eases-prefix _ at = (refl, refl, refl)

eases-op : (o : Op) (at : ℕ) → Eases (fixed (op_mark o) at)
eases-op op.Arrow at = (refl, refl, refl)
eases-op _ at = (refl, refl, refl)

op-unopened : (o : Op) (at : ℕ) (ts : List Token) → Unopened (fixed (op_mark o) at ∷ ts)
op-unopened op.Arrow at ts = refl
op-unopened _ at ts = refl

-- ---- Expressions, before tokens that begin with no `(`.
abbrev Ready : List Token → Type 0
Ready ts = (us : List Token) → Placed us → Unopened us → Placed (ts ++ us)

mutual
  ready : (w : Written) → Ready (spelling w)
  ready (Atom l at) us h n = (eased (leaf_token l at) us (eases-leaf l at), h)
  ready (InBrackets a w b) us h n = (
    eased (fixed mark.Open a) _ (refl, refl, refl),
    subst Placed (sym (append_assoc (spelling w) (fixed mark.Close b ∷ []) us))
        (ready w (fixed mark.Close b ∷ us) (eased (fixed mark.Close b) us (refl, refl, refl), h) refl),
  )
  ready (Before p at w) us h n = (eased (fixed (prefix_mark p) at) (spelling w ++ us) (eases-prefix p at), ready w us h n)
  ready (Between o at a b) us h n =
      subst Placed (sym (append_assoc (spelling a) (fixed (op_mark o) at ∷ spelling b) us))
      (ready a (fixed (op_mark o) at ∷ (spelling b ++ us)) (eased (fixed (op_mark o) at) (spelling b ++ us) (eases-op o at), ready b us h n)
      (op-unopened o at (spelling b ++ us)))
  ready (Gated w at x) us h n =
      let gate : Fits (fixed mark.When at) (name_token x ∷ us) = record { known = refl; clock = λ e. (refl, n); inputs = λ e. cc; header = λ e. cc } in
      subst Placed (sym (append_assoc (spelling w) (fixed mark.When at ∷ name_token x ∷ []) us))
      (ready w (fixed mark.When at ∷ name_token x ∷ us) (gate, (eased (name_token x) us (refl, refl, refl), h)) refl)
  ready (If i a t b e c) us h n =
      let third : Placed (fixed mark.Else e ∷ (spelling c ++ us)) = (eased (fixed mark.Else e) (spelling c ++ us) (refl, refl, refl), ready c us h n) in
      let second : Placed ((spelling b ++ fixed mark.Else e ∷ spelling c) ++ us) = subst Placed
      (sym (append_assoc (spelling b) (fixed mark.Else e ∷ spelling c) us)) (ready b (fixed mark.Else e ∷ (spelling c ++ us)) third refl) in
      let rest = spelling b ++ fixed mark.Else e ∷ spelling c in (
        eased (fixed mark.If i) _ (refl, refl, refl),
        subst Placed (sym (append_assoc (spelling a) (fixed mark.Then t ∷ rest) us))
            (ready a (fixed mark.Then t ∷ (rest ++ us)) (eased (fixed mark.Then t) (rest ++ us) (refl, refl, refl), second) refl),
      )
  ready (Given f a front w b) us h n =
      let closed : Placed ((spelling w ++ fixed mark.Close b ∷ []) ++ us) = subst Placed (sym (append_assoc (spelling w) (fixed mark.Close b ∷ []) us))
      (ready w (fixed mark.Close b ∷ us) (eased (fixed mark.Close b) us (refl, refl, refl), h) refl) in
      let rest = spelling w ++ fixed mark.Close b ∷ [] in
      let inner : Placed ((front_spelling front ++ rest) ++ us) = subst Placed (sym (append_assoc (front_spelling front) rest us))
      (ready-front front (rest ++ us) closed) in
      (eased (callee_token f) _ (eases-callee f), (eased (fixed mark.Open a) _ (refl, refl, refl), inner))

  ready-front : (front : Front) (us : List Token) → Placed us → Placed (front_spelling front ++ us)
  ready-front NoneBefore us h = h
  ready-front (Then front w at) us h =
      let rest = spelling w ++ fixed mark.Comma at ∷ [] in
      let last : Placed (rest ++ us) = subst Placed (sym (append_assoc (spelling w) (fixed mark.Comma at ∷ []) us))
      (ready w (fixed mark.Comma at ∷ us) (eased (fixed mark.Comma at) us (refl, refl, refl), h) refl) in
      subst Placed (sym (append_assoc (front_spelling front) rest us)) (ready-front front (rest ++ us) last)

-- ---- What holds of all that a rule spells, where it holds of what is put together.
record Closed (P : List Token → Type 0) : Type 0 where
  none : P []
  both : (ts us : List Token) → P ts → P us → P (ts ++ us)

abbrev All : (P : List Token → Type 0) → {A : Type 0} → (A → List Token → Type 0) → Type 0
All P {A = A} K = (a : A) (w : List Token) → K a w → P w

-- neither `when` nor what begins a node or ends its header
abbrev is_quiet : Mark → Bool
is_quiet mark.When = false
is_quiet mark.Node = false
is_quiet mark.Var = false
is_quiet mark.Let = false
is_quiet _ = true

module _ {P : List Token → Type 0} (c : Closed P) where
  gives : {B : Type 0} (b : B) → All P (Gives b)
  gives b a w h = subst P (sym h.0) c.none

  part : {A B : Type 0} {K : A → List Token → Type 0} {M : A → B → List Token → Type 0} → All P K → ((a : A) → All P (M a)) → All P (Part K M)
  part f g b w h = subst P (sym h.3) (c.both h.1 h.2 (f h.0 h.1 h.4) (g h.0 b h.2 h.5))

  word : {B : Type 0} {L : B → List Token → Type 0} (m : Mark) → ((at : ℕ) → P (fixed m at ∷ [])) → All P L → All P (Word m L)
  word m p f b w h = subst P (sym h.2) (c.both (fixed m h.0 ∷ []) h.1 (p h.0) (f b h.1 h.3))

  only : (m : Mark) → ((at : ℕ) → P (fixed m at ∷ [])) → All P (Only m)
  only m p u w h = subst P (sym h.1) (p h.0)

  each : {A : Type 0} {K : A → List Token → Type 0} → All P K → All P (Each K)
  each f [] w h = subst P (sym h) c.none
  each f (a ∷ more) w h = subst P (sym h.2) (c.both h.0 h.1 (f a h.0 h.3) (each f more h.1 h.4))

  maybe : {A : Type 0} {K : A → List Token → Type 0} → All P K → All P (Maybe K)
  maybe f Nothing w h = subst P (sym h) c.none
  maybe f (Some a) w h = f a w h

  either : {A : Type 0} {K L : A → List Token → Type 0} → All P K → All P L → All P (OneOf K L)
  either f g a w (inl h) = f a w h
  either f g a w (inr h) = g a w h

  module _ (name : All P IsName) (quiet : (m : Mark) → is_quiet m ≡ true → (at : ℕ) → P (fixed m at ∷ [])) where
    sign : {B : Type 0} {L : B → List Token → Type 0} (m : Mark) → is_quiet m ≡ true → All P L → All P (Word m L)
    sign m e f = word m (quiet m e) f

    names : All P IsNames
    names = part name (λ x. part (each (sign mark.Comma refl name)) (λ more. gives (x ∷ more)))

    kinds : All P IsKind
    kinds = either (sign mark.Bool refl (gives _)) (either (sign mark.Int refl (gives _)) (part name (λ x. gives _)))

    group : All P IsGroup
    group = part names (λ xs. sign mark.Colon refl (part kinds (λ k. gives (xs, k))))

    decls : All P IsDecls
    decls = part group (λ g. part (each (sign mark.Semi refl group)) (λ more. part (maybe (only mark.Semi (quiet mark.Semi refl))) (λ end. gives _)))

    inputs : All P IsInputs
    inputs = sign mark.Open refl (part decls (λ ds. sign mark.Close refl (gives ds)))

    outputs : All P IsOutputs
    outputs = sign mark.Returns refl (part inputs (λ ds. part (maybe (only mark.Semi (quiet mark.Semi refl))) (λ end. gives ds)))

-- ---- Headers have no `when`.
abbrev Calm : List Token → Type 0
Calm [] = Unit {0}
Calm (t ∷ ts) = (kind_is is_when t.kind ≡ false) × Calm ts

calm-both : (ts us : List Token) → Calm ts → Calm us → Calm (ts ++ us)
calm-both [] us h k = k
calm-both (t ∷ ts) us h k = (h.0, calm-both ts us h.1 k)

calm : Closed Calm
calm = record { none = tt; both = calm-both }

calm-name : All Calm IsName
calm-name x w h = subst Calm (sym h) (refl, tt)

calm-quiet : (m : Mark) → is_quiet m ≡ true → (at : ℕ) → Calm (fixed m at ∷ [])
calm-quiet mark.When e at = cc
calm-quiet _ e at = (refl, tt)

calm-heads : (ts us : List Token) → Calm ts → Heads us → Heads (ts ++ us)
calm-heads [] us h k = k
calm-heads (t ∷ ts) us h k = inr (h.0, calm-heads ts us h.1 k)

var-heads : (r : List Token) → Heads r → (ds : List (List Decl)) (w : List Token) → Each IsVar ds w → Heads (w ++ r)
var-heads r k [] w h = subst (λ z. Heads (z ++ r)) (sym h) k
var-heads r k (d ∷ ds) w h =
    let first : Heads h.0 = subst Heads (sym h.3.2) (inl refl) in
    subst (λ z. Heads (z ++ r)) (sym h.2) (heads-more (h.0 ++ h.1) r (heads-more h.0 h.1 first))

-- ---- What is put together is placed.
placed : Closed Placed
placed = record { none = tt; both = placed-both }

one-placed : (t : Token) → Eases t → Placed (t ∷ [])
one-placed t h = (eased t [] h, tt)

placed-name : All Placed IsName
placed-name x w h = subst Placed (sym h) (one-placed (name_token x) (refl, refl, refl))

eases-quiet : (m : Mark) → is_quiet m ≡ true → (at : ℕ) → Eases (fixed m at)
eases-quiet mark.When e at = cc
eases-quiet mark.Node e at = cc
eases-quiet _ e at = (refl, refl, refl)

placed-quiet : (m : Mark) → is_quiet m ≡ true → (at : ℕ) → Placed (fixed m at ∷ [])
placed-quiet m e at = one-placed (fixed m at) (eases-quiet m e at)

says : {B : Type 0} {L : B → List Token → Type 0} (m : Mark) → is_quiet m ≡ true → All Placed L → All Placed (Word m L)
says m e f = word placed m (placed-quiet m e) f

placed-names : All Placed IsNames
placed-names = names placed placed-name placed-quiet

placed-kind : All Placed IsKind
placed-kind = kinds placed placed-name placed-quiet

placed-group : All Placed IsGroup
placed-group = group placed placed-name placed-quiet

placed-enumeration : All Placed IsEnumeration
placed-enumeration = says mark.Enum refl (says mark.OpenBrace refl (part placed placed-names (λ xs. says mark.CloseBrace refl (gives placed _))))

placed-type_body : All Placed IsTypeBody
placed-type_body = either placed placed-enumeration (part placed placed-kind (λ k. gives placed _))

placed-type : All Placed IsType
placed-type = part placed placed-name (λ x. says mark.Equal refl (part placed placed-type_body (λ b. says mark.Semi refl (gives placed _))))

placed-types : All Placed IsTypes
placed-types = says mark.Type refl (part placed placed-type (λ d. part placed (each placed placed-type) (λ more. gives placed _)))

-- a part that may end in `when` and a name, before what begins with no `(`
abbrev AllReady : {A : Type 0} → (A → List Token → Type 0) → Type 0
AllReady {A = A} K = (a : A) (w : List Token) → K a w → Ready w

before : {A B : Type 0} {K : A → List Token → Type 0} {M : A → B → List Token → Type 0} → AllReady K → ((a : A) → All Placed (M a))
    → ((a : A) → All Unopened (M a)) → All Placed (Part K M)
before f g n b w h = subst Placed (sym h.3) (f h.0 h.1 h.4 h.2 (g h.0 b h.2 h.5) (n h.0 b h.2 h.5))

semi-first : {B : Type 0} (L : B → List Token → Type 0) → All Unopened (Word mark.Semi L)
semi-first L b w h = subst Unopened (sym h.2) refl

ready-expr : AllReady IsExprOf
ready-expr e w d = subst Ready d.2 (ready d.0)

ready-clock : AllReady IsClock
ready-clock x w h us p n =
    let gate : Fits (fixed mark.When h.0) (name_token x ∷ us) = record { known = refl; clock = λ e. (refl, n); inputs = λ e. cc; header = λ e. cc } in
    subst (λ z. Placed (z ++ us)) (sym (h.2 ∙ ap (λ z. fixed mark.When h.0 ∷ z) h.3)) (gate, (eased (name_token x) us (refl, refl, refl), p))

ready-maybe_clock : AllReady (Maybe IsClock)
ready-maybe_clock Nothing w h us p n = subst (λ z. Placed (z ++ us)) (sym h) p
ready-maybe_clock (Some x) w h us p n = ready-clock x w h us p n

placed-right : All Placed IsRight
placed-right = says mark.Equal refl (before ready-expr (λ e. says mark.Semi refl (gives placed _)) (λ e. semi-first _))

placed-constant : All Placed IsConstant
placed-constant = part placed placed-name (λ x. part placed (maybe placed (says mark.Colon refl placed-kind)) (λ k.
    part placed placed-right (λ e. gives placed _)))

placed-constants : All Placed IsConstants
placed-constants = says mark.Const refl (part placed placed-constant (λ c. part placed (each placed placed-constant) (λ more. gives placed _)))

placed-local : All Placed IsLocal
placed-local = either placed
    (part placed placed-group (λ g. before ready-maybe_clock (λ c. says mark.Semi refl (gives placed _)) (λ c. semi-first _)))
    (says mark.Open refl (part placed placed-group (λ g. says mark.Close refl
    (before ready-clock (λ c. says mark.Semi refl (gives placed _)) (λ c. semi-first _)))))

placed-var : All Placed IsVar
placed-var = word placed mark.Var (λ at. one-placed (fixed mark.Var at) (refl, refl, refl))
    (part placed placed-local (λ ds. part placed (each placed placed-local) (λ more. gives placed _)))

placed-lefts : All Placed IsLefts
placed-lefts = either placed placed-names (says mark.Open refl (part placed placed-names (λ xs. says mark.Close refl (gives placed _))))

placed-assert : All Placed (Marked mark.Assert)
placed-assert at w h = subst Placed (sym h) (placed-quiet mark.Assert refl at)

placed-item : All Placed IsItem
placed-item = either placed
    (part placed placed-lefts (λ xs. part placed placed-right (λ e. gives placed _)))
    (part placed placed-assert (λ at. before ready-expr (λ e. says mark.Semi refl (gives placed _)) (λ e. semi-first _)))

placed-body : All Placed IsBody
placed-body = word placed mark.Let (λ at. one-placed (fixed mark.Let at) (refl, refl, refl))
    (part placed (each placed placed-item) (λ is. says mark.Tel refl (part placed (maybe placed (either placed
    (only placed mark.Semi (placed-quiet mark.Semi refl)) (only placed mark.Dot (placed-quiet mark.Dot refl)))) (λ end. gives placed _))))

-- ---- A node.
first-part : {A B : Type 0} {K : A → List Token → Type 0} (M : A → B → List Token → Type 0) → All Unclosed K → All Unclosed (Part K M)
first-part M f b w h = subst Unclosed (sym h.3) (unclosed-more h.1 h.2 (f h.0 h.1 h.4))

first-name : All Unclosed IsName
first-name x w h = subst Unclosed (sym h) refl

first-decls : All Unclosed IsDecls
first-decls = first-part _ (first-part _ (first-part _ first-name))

after-name : All AfterName IsInputs
after-name ds w h = subst AfterName (sym h.2) (subst Unclosed (sym h.3.3) (unclosed-more h.3.1 h.3.2 (first-decls h.3.0 h.3.1 h.3.4)))

placed-node : All Placed IsNode
placed-node n w h =
    let title : h.1 ≡ fixed mark.Node h.4.0 ∷ name_token h.0 ∷ [] = h.4.2 ∙ ap (λ z. fixed mark.Node h.4.0 ∷ z) h.4.3 in
    let ins = h.5 in
    let outs = ins.5 in
    let vars = outs.5 in
    let body = vars.5 in
    let let_heads : Heads body.1 = subst Heads (sym body.4.2) (inl refl) in
    let body_heads : Heads vars.2 = subst Heads (sym body.3) (heads-more body.1 body.2 let_heads) in
    let vars_heads : Heads outs.2 = subst Heads (sym vars.3) (var-heads vars.2 body_heads vars.0 vars.1 vars.4) in
    let outs_heads : Heads ins.2 = subst Heads (sym outs.3) (calm-heads outs.1 outs.2 (outputs calm calm-name calm-quiet outs.0 outs.1 outs.4) vars_heads) in
    let ins_heads : Heads h.2 = subst Heads (sym ins.3) (calm-heads ins.1 ins.2 (inputs calm calm-name calm-quiet ins.0 ins.1 ins.4) outs_heads) in
    let after : AfterName h.2 = subst AfterName (sym ins.3) (name-more ins.1 ins.2 (after-name ins.0 ins.1 ins.4)) in
    let rest : Placed h.2 = part placed (inputs placed placed-name placed-quiet) (λ is. part placed (outputs placed placed-name placed-quiet) (λ os.
    part placed (each placed placed-var) (λ vs. part placed placed-body (λ bs. gives placed _)))) n h.2 ins in
    let first : Fits (fixed mark.Node h.4.0) (name_token h.0 ∷ h.2) = record
    { known = refl; clock = λ e. cc; inputs = λ e. after; header = λ e. inr (refl, ins_heads) } in
    subst Placed (sym (h.3 ∙ ap (λ z. z ++ h.2) title)) (first, (eased (name_token h.0) h.2 (refl, refl, refl), rest))

placed-section : All Placed IsSection
placed-section = either placed (part placed placed-types (λ ds. gives placed _))
    (either placed (part placed placed-constants (λ cs. gives placed _)) (part placed placed-node (λ n. gives placed _)))

placed-program : All Placed IsProgram
placed-program = part placed (each placed placed-section) (λ ss. gives placed _)

-- ---- So nothing is left out in its place.
-- what the tokens read so far ask of those that follow
record Asks (b : fault.Before) (ts : List Token) : Type 0 where
  clock : kind_is is_when b.last ≡ true → AfterWhen ts
  call : kind_is is_when b.second ≡ true → Unopened ts
  title : kind_is is_node b.last ≡ true → AfterNode ts
  name : kind_is is_node b.second ≡ true → AfterName ts
  inputs : kind_is is_node b.third ≡ true → Unclosed ts
  header : b.in_header ≡ true → Heads ts

header-cases : (k : Kind) (h : Bool) → still_headed k h ≡ true → (kind_is is_node k ≡ true) ⊎ ((h ≡ true) × (kind_is ends_header k ≡ false))
header-cases (kind.Fixed mark.Node) h e = inl refl
header-cases (kind.Fixed mark.Var) h e = cc
header-cases (kind.Fixed mark.Let) h e = cc
header-cases _ h e = inr (e, refl)

heads-rest : (t : Token) (ts : List Token) → kind_is ends_header t.kind ≡ false → Heads (t ∷ ts) → Heads ts
heads-rest t ts e (inl h) = absurd (clash (kind_is ends_header t.kind) h e)
heads-rest t ts e (inr h) = h.1

header-later : (b : fault.Before) (t : Token) (ts : List Token) → Asks b (t ∷ ts) → Fits t ts
    → (kind_is is_node t.kind ≡ true) ⊎ ((b.in_header ≡ true) × (kind_is ends_header t.kind ≡ false)) → Heads ts
header-later b t ts a f (inl e) = f.header e
header-later b t ts a f (inr e) = heads-rest t ts e.1 (a.header e.0)

asks-later : (b : fault.Before) (t : Token) (ts : List Token) → Asks b (t ∷ ts) → Fits t ts → Asks (one_later b t) ts
asks-later b t ts a f = record {
  clock = λ e. f.clock e;
  call = λ e. (a.clock e).1;
  title = λ e. f.inputs e;
  name = λ e. a.title e;
  inputs = λ e. a.name e;
  header = λ e. header-later b t ts a f (header-cases t.kind b.in_header e);
}

name-fits : (k : Kind) → is_name k ≡ true → (kind_is is_not k || kind_is is_open k) ≡ false
name-fits (kind.Fixed m) e = cc
name-fits (kind.Number n) e = cc
name-fits _ e = refl

both-false : (v o : Bool) → (v ≡ true → o ≡ false) → (v && o) ≡ false
both-false true o f = f refl
both-false false o f = refl

third-false : (v n o : Bool) → (v ≡ true → o ≡ false) → (v && n && o) ≡ false
third-false true true o f = f refl
third-false true false o f = refl
third-false false n o f = refl

fourth-false : (v n m o : Bool) → (v ≡ true → o ≡ false) → (v && n && m && o) ≡ false
fourth-false true true true o f = f refl
fourth-false true true false o f = refl
fourth-false true false m o f = refl
fourth-false false n m o f = refl

none-true : (a b c d e : Bool) → a ≡ false → b ≡ false → c ≡ false → d ≡ false → e ≡ false → (a || b || c || d || e) ≡ false
none-true a b c d e p q r s t = cc

no-when-kind : (k : Kind) → kind_is ends_header k ≡ true → kind_is is_when k ≡ false
no-when-kind (kind.Fixed mark.Var) e = refl
no-when-kind (kind.Fixed mark.Let) e = refl
no-when-kind _ e = cc

no-when : (t : Token) (ts : List Token) → Heads (t ∷ ts) → kind_is is_when t.kind ≡ false
no-when t ts (inl e) = no-when-kind t.kind e
no-when t ts (inr h) = h.0

stays-in : (b : fault.Before) (t : Token) (ts : List Token) → Asks b (t ∷ ts) → Fits t ts
    → (kind_left_out t.kind || negates_clock b t.kind || calls_clock b t.kind || has_no_inputs b t.kind || clocks_port b t.kind) ≡ false
stays-in b t ts a f =
    none-true (kind_left_out t.kind) (negates_clock b t.kind) (calls_clock b t.kind) (has_no_inputs b t.kind) (clocks_port b t.kind)
    f.known
    (both-false (kind_is is_when b.last) (kind_is is_not t.kind || kind_is is_open t.kind) (λ e. name-fits t.kind (a.clock e).0))
    (third-false (kind_is is_when b.second) (is_name b.last) (kind_is is_open t.kind) (λ e. a.call e))
    (fourth-false (kind_is is_node b.third) (is_name b.second) (kind_is is_open b.last) (kind_is is_close t.kind) (λ e. a.inputs e))
    (fourth-false b.in_header (kind_is fault.is_colon b.second) (fault.is_type b.last) (kind_is is_when t.kind) (λ e. no-when t ts (a.header e)))

stay-in : (b : fault.Before) (front : List Token) (t : Token) (more : List Token) → Asks b (front ++ t ∷ more) → Placed (front ++ t ∷ more)
    → (let c = looked_back b front in kind_left_out t.kind || negates_clock c t.kind || calls_clock c t.kind || has_no_inputs c t.kind || clocks_port c t.kind)
    ≡ false
stay-in b [] t more a p = stays-in b t more a p.0
stay-in b (x ∷ front) t more a p = stay-in (one_later b x) front t more (asks-later b x (front ++ t ∷ more) a p.0) p.1

asks-nothing : (ts : List Token) → Asks nothing_before ts
asks-nothing ts = record { clock = λ e. cc; call = λ e. cc; title = λ e. cc; name = λ e. cc; inputs = λ e. cc; header = λ e. cc }

pub left-out-dead : (front : List Token) (t : Token) → is_left_out front t ≡ true → IsDead (front ++ t ∷ [])
left-out-dead front t e b =
    let whole = subst Placed (append_assoc front (t ∷ []) b.0) (placed-program b.1 ((front ++ t ∷ []) ++ b.0) b.2) in
    clash (is_left_out front t) e (stay-in nothing_before front t b.0 (asks-nothing (front ++ t ∷ b.0)) whole)
