-- A loop over parts, a turn at a time.
use Rattle.std.proofs.Common.{◌≡◌, ◌<◌, Bool, true, false, cond, List, [], ◌∷◌, ◌++◌, length, refl, sym, ap, ◌∙◌, append_assoc}
use Rattle.std.proofs.lemmas.List.{append-nil}
use Rattle.rv_tree.specs.Tree.{ConstantTree, NodeTree, ProgramTree, program_tree}
use Rattle.rv_tree.specs.{declared.tree.Name.Name, declared.tree.Decl.Decl, declared.tree.TypeDecl.TypeDecl, declared.tree.Equation.Equation}
use Rattle.rv_tree.specs.{declared.tree.Assertion.Assertion, declared.tree.ConstDecl.ConstDecl, declared.tree.Node.Node, Groups.Group, Groups.flows_of}
use Rattle.std.specs.Prelude.{Ok, Err, Option, Some, None, IsTrue, ◌↔◌}
use Rattle.rv_syntax.specs.ProgramText.{all_flows, joined, Item, Equates, Assumes, equations_of, assertions_of, node_of, Section, Types, Constants, OneNode}
use Rattle.rv_syntax.specs.ProgramText.{types_of, constants_of, nodes_of, program_of}
use Rattle.rv_syntax.specs.Parse.{Reading, Parse, bind, then, done, one, starts, choose, many, found}
use Rattle.rv_syntax.specs.{declared.token.Mark.Mark, declared.rules.Signature.Signature, declared.token.Token.Token, declared.fault.Why.Why}
use Rattle.rv_syntax.specs.{declared.fault.Stop.Stop, Nesting.Outside, Marks.is_mark, Marks.is_name, Marks.has_mark, Reads.Reads, Reading.mapped}
use Rattle.rv_syntax.specs.declared.token.Mark.TheVariants as mark
use Rattle.rv_syntax.specs.declared.fault.Stop.TheVariants as stop
use Rattle.rv_syntax.specs.Reading as read
use Rattle.rv_syntax.proofs.Exactly.{Exact, Language, left}
use Rattle.rv_syntax.proofs.Exact.{exact-found, Starts, starts-part, shrinks, loop-more, loop-last, loop-none, loop-stops}
use Rattle.rv_syntax.proofs.ExactRules.{IsOutside, Exact-next-name, starts-word, starts-name, Exact-type, Exact-constant, Exact-next-group, Exact-local}
use Rattle.rv_syntax.proofs.ExactRules.{starts-local, Exact-var, IsNextGroup, Exact-item, starts-item, Exact-section, starts-section}

-- What is read as long as there is a token to begin with, by its first turn.
pub record IsLoop {A : Type 0} (test : Token → Bool) (p : Parse A) (all : Parse (List A)) : Type 0 where
  pub more : (ts new : List Token) (a : A) → starts test ts ≡ true → p ts ≡ Ok (a, new) → all ts ≡ bind (all new) (λ xs. done (a ∷ xs))
  pub none : (ts : List Token) → starts test ts ≡ false → all ts ≡ Ok ([], ts)
  pub stops : (ts : List Token) (e : Why × List Token) → starts test ts ≡ true → p ts ≡ Err e → all ts ≡ Err e
  pub less : (ts new : List Token) (a : A) → p ts ≡ Ok (a, new) → length new < length ts

is-loop : {A : Type 0} {K : Language A} {F : List Token → Type 0} {test : Token → Bool} {p : Parse A} → Exact IsOutside IsOutside K F p → Starts test true K
    → IsLoop test p (many test p)
is-loop x first =
    let y = exact-found Outside refl x in
    let h = starts-part _ first in
    record {
      more = λ ts new a s e. loop-more Outside refl y h ts s a new (ap (λ r. bind r (λ b. done (Some b))) e);
      none = λ ts s. loop-none Outside refl y h ts s;
      stops = λ ts e s is. loop-stops Outside refl y h ts s e (ap (λ r. bind r (λ b. done (Some b))) is);
      less = λ ts new a e. shrinks Outside refl y h ts (Some a, new) (ap (λ r. bind r (λ b. done (Some b))) e);
    }

pub names-loop : IsLoop (is_mark mark.Comma) read.next_name read.next_names
unfolding read.next_names
names-loop = is-loop Exact-next-name (starts-word _ _ (λ at. refl))

pub types-loop : IsLoop is_name read.one_type read.next_types
unfolding read.next_types
types-loop = is-loop Exact-type (starts-part _ (starts-name _ (λ x. refl)))

pub constants-loop : IsLoop is_name read.constant read.next_constants
unfolding read.next_constants
constants-loop = is-loop Exact-constant (starts-part _ (starts-name _ (λ x. refl)))

pub locals-loop : IsLoop read.begins_local read.local read.next_locals
unfolding read.next_locals
locals-loop = is-loop Exact-local starts-local

pub vars-loop : IsLoop (is_mark mark.Var) read.var read.vars
unfolding read.vars
vars-loop = is-loop Exact-var (starts-word _ _ (λ at. refl))

pub items-loop : IsLoop read.begins_item read.item read.items
unfolding read.items
items-loop = is-loop Exact-item starts-item

pub sections-loop : IsLoop read.any read.section read.sections
unfolding read.sections
sections-loop = is-loop Exact-section starts-section

-- ---- A value that is made of the parts, with those that were found before.
made-more : {A B : Type 0} (into now : List A → B) (a : A) → ((xs : List A) → into (a ∷ xs) ≡ now xs) → (r : Reading (List A))
    → mapped now r ≡ mapped into (bind r (λ xs. done (a ∷ xs)))
made-more into now a same (Ok y) = ap (λ b. Ok (b, y.1)) (sym (same y.0))
made-more into now a same (Err e) = refl

-- One part more has been found.
pub goes-on : {A B : Type 0} {test : Token → Bool} {p : Parse A} {all : Parse (List A)} (l : IsLoop test p all) (into : List A → B) {now : List A → B} {a : A}
    {whole : Reading B} {ts new : List Token} → true ≡ starts test ts → p ts ≡ Ok (a, new) → mapped into (all ts) ≡ whole
    → ((xs : List A) → into (a ∷ xs) ≡ now xs) → mapped now (all new) ≡ whole
goes-on {all = all} l into {now = now} {a = a} {ts = ts} {new = new} h e inv same =
    made-more into now a same (all new) ∙ ap (mapped into) (sym (l.more ts new a (sym h) e)) ∙ inv

-- the same behind those that were found, where it was pushed
pub pushed : {A : Type 0} (before : List A) {now : List A} (a : A) → now ≡ before ++ a ∷ [] → (more : List A) → before ++ a ∷ more ≡ now ++ more
pushed before a e more = sym (append_assoc before (a ∷ []) more) ∙ ap (λ l. l ++ more) (sym e)

-- There is no part more.
pub ends : {A B : Type 0} {test : Token → Bool} {p : Parse A} {all : Parse (List A)} (l : IsLoop test p all) (into : List A → B) {whole : Reading B}
    {ts : List Token} → false ≡ starts test ts → mapped into (all ts) ≡ whole → whole ≡ Ok (into [], ts)
ends l into {ts = ts} h inv = sym inv ∙ ap (mapped into) (l.none ts (sym h))

-- The stop of a part is that of all.
pub stops-with : {A B X Y : Type 0} {test : Token → Bool} {p : Parse A} {all : Parse (List A)} (l : IsLoop test p all)
    (into : List A → B) (view : X → B) (seen : Y → A) (e : Stop) {whole : Reading B} (ts new : List Token) → true ≡ starts test ts
    → mapped into (all ts) ≡ whole → Reads seen (p ts) (Err e) new → Reads view whole (Err e) new
stops-with l into view seen stop.Memory ts new h inv r = tt
stops-with l into view seen (stop.Token why gone) ts new h inv r =
    (r.0, sym inv ∙ ap (mapped into) (l.stops ts (why, new) (sym h) r.1))

-- ---- Groups behind semicolons.
pub record IsGroupLoop : Type 0 where
  pub more : (ts new : List Token) (g : Group) → starts (is_mark mark.Semi) ts ≡ true → read.next_group ts ≡ Ok (Some g, new)
      → read.next_groups ts ≡ bind (read.next_groups new) (λ xs. done (g ∷ xs))
  pub last : (ts new : List Token) → starts (is_mark mark.Semi) ts ≡ true → read.next_group ts ≡ Ok (None, new) → read.next_groups ts ≡ Ok ([], new)
  pub none : (ts : List Token) → starts (is_mark mark.Semi) ts ≡ false → read.next_groups ts ≡ Ok ([], ts)
  pub stops : (ts : List Token) (e : Why × List Token) → starts (is_mark mark.Semi) ts ≡ true → read.next_group ts ≡ Err e → read.next_groups ts ≡ Err e
  pub less : (ts new : List Token) (o : Option Group) → read.next_group ts ≡ Ok (o, new) → length new < length ts

pub groups-loop : IsGroupLoop
unfolding read.next_groups
groups-loop = let h : Starts (is_mark mark.Semi) true IsNextGroup = starts-word _ _ (λ at. refl) in record {
  more = λ ts new g s e. loop-more Outside refl Exact-next-group h ts s g new e;
  last = λ ts new s e. loop-last Outside refl Exact-next-group h ts s new e;
  none = λ ts s. loop-none Outside refl Exact-next-group h ts s;
  stops = λ ts e s is. loop-stops Outside refl Exact-next-group h ts s e is;
  less = λ ts new o e. shrinks Outside refl Exact-next-group h ts (o, new) e;
}

-- ---- Values that are found, before others that were found first.
-- Found one after the other, or together.
pub regroup : {A B : Type 0} (front now : List A) (f : B → List A) (r : Reading B)
    → mapped (λ b. (front ++ now) ++ f b) r ≡ mapped (λ l. front ++ l) (mapped (λ b. now ++ f b) r)
regroup front now f (Ok y) = ap (λ l. Ok (l, y.1)) (append_assoc front now (f y.0))
regroup front now f (Err e) = refl

pub twice : {A B C : Type 0} (f : A → B) (g : B → C) (r : Reading A) → mapped g (mapped f r) ≡ mapped (λ a. g (f a)) r
twice f g (Ok y) = refl
twice f g (Err e) = refl

-- What is read behind a word, its first part and all that come after it, from what was found before and what the first part adds.
from-first : {A B C : Type 0} (m : Mark) (p : Parse A) (all : Parse B) (give : A → List C) (later : B → List C) (before : List C) {now : List C}
    (ts : List Token) {one-on two-on : List Token} {a : A} → one (has_mark m) ts ≡ Ok (tt, one-on) → p one-on ≡ Ok (a, two-on) → now ≡ before ++ give a
    → mapped (λ b. now ++ later b) (all two-on) ≡ mapped (λ l. before ++ l) (read.word m (then p (λ x. then all (λ b. done (give x ++ later b)))) ts)
from-first m p all give later before ts {two-on = two-on} {a = a} e f g =
    ap (λ l. mapped (λ b. l ++ later b) (all two-on)) g ∙ regroup before (give a) later (all two-on)
    ∙ ap (λ r. mapped (λ l. before ++ l) (bind r (λ x. then all (λ b. done (give x ++ later b))))) (sym f)
    ∙ ap (λ r. mapped (λ l. before ++ l) (bind r (λ u. then p (λ x. then all (λ b. done (give x ++ later b)))))) (sym e)

pub from-types : (before : List TypeDecl) {now : List TypeDecl} (ts : List Token) {one-on two-on : List Token} {d : TypeDecl}
    → one (has_mark mark.Type) ts ≡ Ok (tt, one-on)
    → read.one_type one-on ≡ Ok (d, two-on) → now ≡ before ++ d ∷ []
    → read.with_front now (read.next_types two-on) ≡ read.with_front before (read.types ts)
unfolding read.types
from-types before ts e f g = from-first mark.Type read.one_type read.next_types (λ x. x ∷ []) (λ b. b) before ts e f g

pub from-constants : (before : List ConstantTree) {now : List ConstantTree} (ts : List Token) {one-on two-on : List Token} {c : ConstantTree}
    → one (has_mark mark.Const) ts ≡ Ok (tt, one-on)
    → read.constant one-on ≡ Ok (c, two-on) → now ≡ before ++ c ∷ []
    → read.with_front now (read.next_constants two-on) ≡ read.with_front before (read.constants ts)
unfolding read.constants
from-constants before ts e f g = from-first mark.Const read.constant read.next_constants (λ x. x ∷ []) (λ b. b) before ts e f g

-- ---- What was made of a part that was read.
abbrev part-or : {B : Type 0} → B → Reading B → B
part-or b (Ok y) = y.0
part-or b (Err e) = b

abbrev why-or : {B : Type 0} → Why × List Token → Reading B → Why × List Token
why-or e (Ok y) = e
why-or e (Err x) = x

pub made-of : {A B : Type 0} {f : A → B} (r : Reading A) {b : B} {rest : List Token} → mapped f r ≡ Ok (b, rest)
    → (a : A) × (r ≡ Ok (a, rest)) × (f a ≡ b)
made-of (Ok y) {b = b} h = (y.0, ap (λ z. Ok (y.0, z)) (ap left h), ap (part-or b) h)
made-of (Err e) h = cc

pub stop-of : {A B : Type 0} (f : A → B) (r : Reading A) {e : Why × List Token} → mapped f r ≡ Err e → r ≡ Err e
stop-of f (Ok y) h = cc
stop-of f (Err x) {e = e} h = ap Err (ap (why-or e) h)

-- ---- Groups, with the flows that were found before.
-- the flows of some groups behind these
abbrev pub behind : List Decl → List Group → List Decl
behind front more = front ++ all_flows more

pub groups-go-on : (front : List Decl) {now : List Decl} {g : Group} → now ≡ front ++ flows_of g None → {whole : Reading (List Decl)} (ts : List Token)
    {new : List Token}
    → true ≡ starts (is_mark mark.Semi) ts → read.next_group ts ≡ Ok (Some g, new)
    → mapped (behind front) (read.next_groups ts) ≡ whole → mapped (behind now) (read.next_groups new) ≡ whole
groups-go-on front {now = now} {g = g} is ts {new = new} h e inv =
    made-more (behind front) (behind now) g (λ xs. sym (append_assoc front (flows_of g None) (all_flows xs)) ∙ ap (λ l. l ++ all_flows xs) (sym is))
    (read.next_groups new)
    ∙ ap (mapped (behind front)) (sym (groups-loop.more ts new g (sym h) e)) ∙ inv

module _ (front : List Decl) {whole : Reading (List Decl)} (ts : List Token) (inv : mapped (behind front) (read.next_groups ts) ≡ whole) where
  pub groups-last : {new : List Token} → true ≡ starts (is_mark mark.Semi) ts → read.next_group ts ≡ Ok (None, new) → whole ≡ Ok (front, new)
  groups-last {new = new} h e = sym inv ∙ ap (mapped (behind front)) (groups-loop.last ts new (sym h) e) ∙ ap (λ l. Ok (l, new)) (append-nil front)

  pub groups-end : false ≡ starts (is_mark mark.Semi) ts → whole ≡ Ok (front, ts)
  groups-end h = sym inv ∙ ap (mapped (behind front)) (groups-loop.none ts (sym h)) ∙ ap (λ l. Ok (l, ts)) (append-nil front)

  pub groups-stop : {X Y : Type 0} (view : X → List Decl) (seen : Y → Option Group) (e : Stop) (new : List Token) → true ≡ starts (is_mark mark.Semi) ts
      → Reads seen (read.next_group ts) (Err e) new → Reads view whole (Err e) new
  groups-stop view seen stop.Memory new h r = tt
  groups-stop view seen (stop.Token why gone) new h r = (r.0, sym inv ∙ ap (mapped (behind front)) (groups-loop.stops ts (why, new) (sym h) r.1))

-- ---- A node's statements and a program's sections, one after the other.
pub made-same : {A B : Type 0} (f g : A → B) → ((a : A) → f a ≡ g a) → (r : Reading A) → mapped f r ≡ mapped g r
made-same f g h (Ok y) = ap (λ b. Ok (b, y.1)) (h y.0)
made-same f g h (Err e) = refl

with-items : (s : read.Statements) (items : List Item) → read.with_items s items ≡ record
    { equations = s.equations ++ equations_of items; assertions = s.assertions ++ assertions_of items }
with-items s [] = ap (λ l. record { equations = l; assertions = s.assertions }) (sym (append-nil s.equations))
    ∙ ap (λ l. record { equations = s.equations ++ []; assertions = l }) (sym (append-nil s.assertions))
with-items s (Equates q ∷ more) = with-items (read.with_item s (Equates q)) more
    ∙ ap (λ l. record { equations = l; assertions = s.assertions ++ assertions_of more }) (append_assoc s.equations (q ∷ []) (equations_of more))
with-items s (Assumes a ∷ more) = with-items (read.with_item s (Assumes a)) more
    ∙ ap (λ l. record { equations = s.equations ++ equations_of more; assertions = l }) (append_assoc s.assertions (a ∷ []) (assertions_of more))

-- from no statement on
pub all-items : (s : read.Statements) → s ≡ record { equations = []; assertions = [] } → (r : Reading (List Item))
    → mapped (read.with_items s) r ≡ mapped read.statements_of r
all-items s h r = made-same (read.with_items s) read.statements_of (λ items. ap (λ z. read.with_items z items) h
    ∙ with-items (record { equations = []; assertions = [] }) items) r

abbrev pub made-program : List TypeDecl → List ConstantTree → List NodeTree → ProgramTree
made-program types constants nodes = record { types = types; constants = constants; nodes = nodes }

-- a program with what these sections declare
abbrev added : ProgramTree → List Section → ProgramTree
added p sections = record { types = p.types ++ types_of sections; constants = p.constants ++ constants_of sections; nodes = p.nodes ++ nodes_of sections }

with-sections : (p : ProgramTree) (sections : List Section) → read.with_sections p sections ≡ added p sections
with-sections p [] =
    ap (λ l. made-program l p.constants p.nodes) (sym (append-nil p.types))
    ∙ ap (λ l. record { types = p.types ++ []; constants = l; nodes = p.nodes }) (sym (append-nil p.constants))
    ∙ ap (λ l. record { types = p.types ++ []; constants = p.constants ++ []; nodes = l }) (sym (append-nil p.nodes))
with-sections p (Types ds ∷ more) =
    with-sections (read.with_section p (Types ds)) more
    ∙ ap (λ l. record { types = l; constants = p.constants ++ constants_of more; nodes = p.nodes ++ nodes_of more }) (append_assoc p.types ds (types_of more))
with-sections p (Constants cs ∷ more) =
    with-sections (read.with_section p (Constants cs)) more
    ∙ ap (λ l. record { types = p.types ++ types_of more; constants = l; nodes = p.nodes ++ nodes_of more }) (append_assoc p.constants cs (constants_of more))
with-sections p (OneNode n ∷ more) =
    with-sections (read.with_section p (OneNode n)) more
    ∙ ap (λ l. record { types = p.types ++ types_of more; constants = p.constants ++ constants_of more; nodes = l })
    (append_assoc p.nodes (n ∷ []) (nodes_of more))

abbrev pub nothing : ProgramTree
nothing = record { types = []; constants = []; nodes = [] }

-- from no section on
pub all-sections : (p : ProgramTree) → p ≡ nothing → (r : Reading (List Section)) → mapped (read.with_sections p) r ≡ mapped program_of r
all-sections p h r = made-same (read.with_sections p) program_of (λ sections. ap (λ z. read.with_sections z sections) h ∙ with-sections nothing sections) r

-- ---- The parts of a node.
abbrev pub of-statements : Name → List Decl → List Decl → List Decl → read.Statements → NodeTree
of-statements x ins outs locals s = record { name = x; inputs = ins; outputs = outs; locals = locals; equations = s.equations; assertions = s.assertions }

-- the title, the inputs and the outputs at once
module _ {A : Type 0} (go : Name → List Decl → List Decl → Parse A) where
  signed-outputs : (x : Name) (ins : List Decl) (r : Reading (List Decl)) → bind r (λ outs. go x ins outs)
      ≡ bind (bind r (λ outs. done (read.signature_of x ins outs))) (λ s. go s.name s.inputs s.outputs)
  signed-outputs x ins (Ok o) = refl
  signed-outputs x ins (Err e) = refl

  signed-inputs : (x : Name) (r : Reading (List Decl)) → bind r (λ ins. then read.outputs (λ outs. go x ins outs))
      ≡ bind (bind r (λ ins. then read.outputs (λ outs. done (read.signature_of x ins outs)))) (λ s. go s.name s.inputs s.outputs)
  signed-inputs x (Ok i) = signed-outputs x i.0 (read.outputs i.1)
  signed-inputs x (Err e) = refl

  signed : (r : Reading Name) → bind r (λ x. then read.inputs (λ ins. then read.outputs (λ outs. go x ins outs)))
      ≡ bind (bind r (λ x. then read.inputs (λ ins. then read.outputs (λ outs. done (read.signature_of x ins outs))))) (λ s. go s.name s.inputs s.outputs)
  signed (Ok x) = signed-inputs x.0 (read.inputs x.1)
  signed (Err e) = refl

node-signed : (ts : List Token) → read.node ts
    ≡ bind (read.signature ts) (λ s. then read.vars (λ vs. then read.body (λ is. done (node_of s.name s.inputs s.outputs vs is))))
unfolding read.node read.signature
node-signed ts = signed (λ x ins outs. then read.vars (λ vs. then read.body (λ is. done (node_of x ins outs vs is)))) (read.title ts)

pub node-stops-at-signature : (ts : List Token) (e : Why × List Token) → read.signature ts ≡ Err e → read.node ts ≡ Err e
node-stops-at-signature ts e h =
    node-signed ts ∙ ap (λ r. bind r (λ s. then read.vars (λ vs. then read.body (λ is. done (node_of s.name s.inputs s.outputs vs is))))) h

module _ (ts : List Token) {three-on : List Token} {s : Signature} (h : read.signature ts ≡ Ok (s, three-on)) where
  up-to-vars : read.node ts ≡ bind (read.vars three-on) (λ vs. then read.body (λ is. done (node_of s.name s.inputs s.outputs vs is)))
  up-to-vars =
      node-signed ts ∙ ap (λ r. bind r (λ s. then read.vars (λ vs. then read.body (λ is. done (node_of s.name s.inputs s.outputs vs is))))) h

  pub node-stops-at-vars : (e : Why × List Token) → mapped joined (read.vars three-on) ≡ Err e → read.node ts ≡ Err e
  node-stops-at-vars e h = up-to-vars ∙ ap (λ r. bind r (λ vs. then read.body (λ is. done (node_of s.name s.inputs s.outputs vs is))))
      (stop-of _ (read.vars three-on) h)

  module _ {locals : List Decl} {four-on : List Token} (v : mapped joined (read.vars three-on) ≡ Ok (locals, four-on)) where
    up-to-body : (vs : List (List Decl)) × (joined vs ≡ locals)
        × (read.node ts ≡ bind (read.body four-on) (λ is. done (node_of s.name s.inputs s.outputs vs is)))
    up-to-body =
        let m = made-of (read.vars three-on) v in
        (m.0, m.2, up-to-vars ∙ ap (λ r. bind r (λ vs. then read.body (λ is. done (node_of s.name s.inputs s.outputs vs is)))) m.1)

    pub node-stops-at-body : (e : Why × List Token) → mapped read.statements_of (read.body four-on) ≡ Err e → read.node ts ≡ Err e
    node-stops-at-body e h =
        let u = up-to-body in u.2 ∙ ap (λ r. bind r (λ is. done (node_of s.name s.inputs s.outputs u.0 is))) (stop-of _ (read.body four-on) h)

    pub whole-node : {b : read.Statements} {five-on : List Token} → mapped read.statements_of (read.body four-on) ≡ Ok (b, five-on)
        → read.node ts ≡ Ok (of-statements s.name s.inputs s.outputs locals b, five-on)
    whole-node {five-on = five-on} k =
        let u = up-to-body in
        let m = made-of (read.body four-on) k in
        u.2 ∙ ap (λ r. bind r (λ is. done (node_of s.name s.inputs s.outputs u.0 is))) m.1
        ∙ ap (λ l. Ok (of-statements s.name s.inputs s.outputs l (read.statements_of m.0), five-on)) u.1
        ∙ ap (λ z. Ok (of-statements s.name s.inputs s.outputs locals z, five-on)) m.2

-- ---- The local flows of a node.
-- The stop of a section of locals is that of all.
pub front-stops : (front : List Decl) (e : Stop) {whole : Reading (List Decl)} (ts new : List Token) → true ≡ starts (is_mark mark.Var) ts
    → mapped (λ more. front ++ joined more) (read.vars ts) ≡ whole
    → Reads {X = List Decl} (λ l. l) (read.with_front front (read.var ts)) (Err e) new → Reads {X = List Decl} (λ l. l) whole (Err e) new
front-stops front stop.Memory ts new h inv r = tt
front-stops front (stop.Token why gone) ts new h inv r =
    (r.0, sym inv ∙ ap (mapped (λ more. front ++ joined more)) (vars-loop.stops ts (why, new) (sym h) (stop-of _ (read.var ts) r.1)))

-- ---- Where nothing has been found.
pub no-statements : (es : List Equation) (bs : List Assertion) → es ≡ [] → bs ≡ []
    → read.statements (record { equations = es; assertions = bs }) ≡ record { equations = []; assertions = [] }
no-statements es bs e f = rw (e, f) refl

pub no-sections : (types : List TypeDecl) (constants : List ConstDecl) (nodes : List Node) → types ≡ [] → constants ≡ [] → nodes ≡ []
    → program_tree (record { types = types; constants = constants; nodes = nodes }) ≡ nothing
no-sections types constants nodes e f g = rw (e, f, g) refl

-- Where a part's stop is that of the whole.
pub stop-through : {X Y A B : Type 0} (view : X → A) (seen : Y → B) {whole : Reading A} {part : Reading B} (e : Stop) (new : List Token)
    → ((x : Why × List Token) → part ≡ Err x → whole ≡ Err x) → Reads seen part (Err e) new → Reads view whole (Err e) new
stop-through view seen stop.Memory new h r = tt
stop-through view seen (stop.Token why gone) new h r = (r.0, h (why, new) r.1)

-- ---- One section more.
-- The stop of a section is that of the program.
pub section-stops : (p : ProgramTree) (e : Stop) {whole : Reading ProgramTree} (ts new : List Token) → true ≡ starts read.any ts
    → mapped (read.with_sections p) (read.sections ts) ≡ whole
    → Reads program_tree (mapped (read.with_section p) (read.section ts)) (Err e) new → Reads program_tree whole (Err e) new
section-stops p stop.Memory ts new h inv r = tt
section-stops p (stop.Token why gone) ts new h inv r =
    (r.0, sym inv ∙ ap (mapped (read.with_sections p)) (sections-loop.stops ts (why, new) (sym h) (stop-of _ (read.section ts) r.1)))

pub section-types : (p : ProgramTree) (ts : List Token) → true ≡ starts (is_mark mark.Type) ts
    → mapped (read.with_section p) (read.section ts) ≡ mapped (λ l. made-program l p.constants p.nodes) (read.with_front p.types (read.types ts))
unfolding read.section
section-types p ts h =
    ap (λ b. mapped (read.with_section p) (cond b (then read.types (λ ds. done (Types ds)) ts)
    (choose (is_mark mark.Const) (then read.constants (λ cs. done (Constants cs))) (then read.node (λ n. done (OneNode n))) ts))) (sym h)
    ∙ twice Types (read.with_section p) (read.types ts) ∙ sym (twice (λ l. p.types ++ l) (λ l. made-program l p.constants p.nodes) (read.types ts))

pub section-constants : (p : ProgramTree) (ts : List Token) → false ≡ starts (is_mark mark.Type) ts → true ≡ starts (is_mark mark.Const) ts
    → mapped (read.with_section p) (read.section ts) ≡ mapped (λ l. made-program p.types l p.nodes) (read.with_front p.constants (read.constants ts))
unfolding read.section
section-constants p ts h k =
    ap (λ b. mapped (read.with_section p) (cond b (then read.types (λ ds. done (Types ds)) ts)
    (choose (is_mark mark.Const) (then read.constants (λ cs. done (Constants cs))) (then read.node (λ n. done (OneNode n))) ts))) (sym h)
    ∙ ap (λ b. mapped (read.with_section p) (cond b (then read.constants (λ cs. done (Constants cs)) ts) (then read.node (λ n. done (OneNode n)) ts))) (sym k)
    ∙ twice Constants (read.with_section p) (read.constants ts) ∙ sym (twice (λ l. p.constants ++ l) (λ l. made-program p.types l p.nodes) (read.constants ts))

pub section-node : (p : ProgramTree) (ts : List Token) → false ≡ starts (is_mark mark.Type) ts → false ≡ starts (is_mark mark.Const) ts
    → mapped (read.with_section p) (read.section ts) ≡ mapped (λ n. made-program p.types p.constants (p.nodes ++ n ∷ [])) (read.node ts)
unfolding read.section
section-node p ts h k =
    ap (λ b. mapped (read.with_section p) (cond b (then read.types (λ ds. done (Types ds)) ts)
    (choose (is_mark mark.Const) (then read.constants (λ cs. done (Constants cs))) (then read.node (λ n. done (OneNode n))) ts))) (sym h)
    ∙ ap (λ b. mapped (read.with_section p) (cond b (then read.constants (λ cs. done (Constants cs)) ts) (then read.node (λ n. done (OneNode n)) ts))) (sym k)
    ∙ twice OneNode (read.with_section p) (read.node ts)

-- ---- The end of the text.
pub some-token : (ts : List Token) (b : Bool) → (IsTrue b ↔ (ts ≡ [])) → b ≡ false → true ≡ starts read.any ts
some-token [] b h e = let t : b ≡ true = h.1 refl in cc
some-token (t ∷ ts) b h e = refl

pub no-token : (ts : List Token) (b : Bool) → (IsTrue b ↔ (ts ≡ [])) → b ≡ true → false ≡ starts read.any ts
no-token ts b h e = ap (starts read.any) (sym (h.0 e))
