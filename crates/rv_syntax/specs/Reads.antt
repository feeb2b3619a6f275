-- What the parser's methods do, in the words of the readers and of the limited machine.
use Rattle.std.specs.Prelude.{◌≡◌, ◌≤◌, ◌<◌, ◌+◌, ℕ, Bool, true, false, ◌&&◌, List, [], ◌∷◌, map, length, Option, Some, None, Result, Ok, Err, ⊤}
use Rattle.rv_syntax.specs.Grammar.{name_token, Callee, Chosen, Invoked, Joined, Sampled, level_of}
use Rattle.rv_syntax.specs.Machine.{Frame, Asked, Answered, Else, After, Within, need, Held, held, whole, State, Want, Have, Clock, accepts, starting}
use Rattle.rv_syntax.specs.Machine.{following, leaf_tree}
use Rattle.rv_syntax.specs.Limited.{counts, limited, Limited, leave}
use Rattle.rv_syntax.specs.{declared.token.Mark.Mark, declared.token.Token.Token, declared.parser.Next.Next, declared.parser.Link.Link}
use Rattle.rv_syntax.specs.{declared.parser.Operand.Operand, declared.fault.Stop.Stop, declared.fault.Why.TheVariants.Offends}
use Rattle.rv_syntax.specs.{declared.fault.Why.TheVariants.TooDeep, Nesting.limit, Marks.is_mark, Marks.is_name, Parse.Reading, Parse.Parse, Parse.starts}
use Rattle.rv_syntax.specs.declared.token.Mark.TheVariants as mark
use Rattle.rv_tree.specs.{declared.tree.Name.Name, declared.tree.Op.Op, declared.tree.Expr.Expr, Tree.Tree, Tree.tree_of}
use Rattle.rv_syntax.specs.declared.parser.Start.TheVariants as start
use Rattle.rv_syntax.specs.declared.parser.Next.TheVariants as next
use Rattle.rv_syntax.specs.declared.parser.Link.TheVariants as link
use Rattle.rv_syntax.specs.declared.fault.Stop.TheVariants as stop

-- the tokens that are left, and the nesting at the last one that was read
pub record Ahead : Type 0 where
  pub rest : List Token
  pub depth : ℕ

abbrev pub tail : List Token → List Token
tail [] = []
tail (t ∷ ts) = ts

-- an expression
abbrev pub expression : Parse Tree
expression ts = limited (counts 0 []) (Want []) ts

-- What a method returned, seen by view, and what it left are what reading gives, unless memory ran out.
abbrev pub Reads : {X A : Type 0} → (X → A) → Reading A → Result X Stop → List Token → Type 0
Reads view r (Ok x) new = r ≡ Ok (view x, new)
Reads view r (Err stop.Memory) new = Unit {0}
Reads view r (Err (stop.Token why left)) new = (left ≡ length new) × (r ≡ Err (why, new))

abbrev pub same : {A : Type 0} → A → A
same a = a

-- the operand that has been read
abbrev pub held_of : Operand → Held
held_of o = held o.level o.is_open (tree_of o.tree)

-- the operands that an operator, a `when` and an `if` make
abbrev pub joined_held : Op → ℕ → Tree → Held → Held
joined_held o at l h = held (level_of o) h.ends_open (Joined o at l h.body)

abbrev pub sampled_held : ℕ → Tree → Name → Held
sampled_held at t clock = held 8 false (Sampled at t clock)

abbrev pub chosen_held : ℕ → Tree → Tree → Tree → Held
chosen_held at a b c = held 10 true (Chosen at a b c)

-- A stop at these tokens: reading comes to it from each of these.
abbrev pub Stops : (X : Type 0) → (X → Limited) → Stop → Ahead → Type 0
Stops X from stop.Memory new = Unit {0}
Stops X from (stop.Token why left) new = (left ≡ length new.rest) × ((x : X) → from x ≡ Err (why, new.rest))

-- the frames around, and the nesting outside their brackets
pub record Around : Type 0 where
  pub frames : List Frame
  pub outside : List ℕ

-- reading from a state with these tokens ahead
abbrev pub from : Ahead → (List Frame → State) → Around → Limited
from a state x = limited (counts a.depth x.outside) (state x.frames) a.rest

-- What is read gives this operand, whatever there is around.
abbrev pub ReadsAs : Ahead → (List Frame → State) → Result Operand Stop → Ahead → Type 0
ReadsAs old state (Ok o) new = (o.level ≤ 10) × ((x : Around) → from old state x ≡ from new (Have (held_of o)) x)
ReadsAs old state (Err e) new = Stops Around (from old state) e new

-- an operand
abbrev pub ReadsOperand : Ahead → Result Operand Stop → Ahead → Type 0
ReadsOperand old r new = ReadsAs old Want r new

-- the frames around, where they want an operand of this level
pub record Wanting (k : ℕ) : Type 0 where
  pub around : Around
  pub wants : need around.frames ≡ k

-- an expression that binds at least as tightly as this level
abbrev pub ReadsExpr : ℕ → Ahead → Result Operand Stop → Ahead → Type 0
ReadsExpr k old (Ok o) new = (x : Wanting k) → from old Want x.around ≡ leave (counts new.depth x.around.outside) (held_of o) x.around.frames new.rest
ReadsExpr k old (Err e) new = Stops (Wanting k) (λ x. from old Want x.around) e new

-- a part of an `if` that has a word behind it: its test, or what it is where that holds
pub data Part : Type 0 where
  Test : (at : ℕ) → Part
  Yes : (at : ℕ) → Tree → Part

abbrev pub mark_behind : Part → Mark
mark_behind (Test at) = mark.Then
mark_behind (Yes at a) = mark.Else

-- the frame around the part, and the one around what follows its word
abbrev pub frame_of : Part → Frame
frame_of (Test at) = Asked at
frame_of (Yes at a) = Answered at a

abbrev pub next_frame : Part → Tree → Frame
next_frame (Test at) t = Answered at t
next_frame (Yes at a) t = Else at a t

-- a part with this word behind it, and what is around its `if`
pub record Choosing (m : Mark) : Type 0 where
  pub part : Part
  pub around : Around
  pub behind : mark_behind part ≡ m

-- reading a part of an `if` from these tokens on
abbrev pub part_from : {m : Mark} → Ahead → Choosing m → Limited
part_from a x = from a (λ s. Want (frame_of x.part ∷ s)) x.around

-- a part of an `if` and the word behind it
abbrev pub ReadsPart : Mark → Ahead → Result Expr Stop → Ahead → Type 0
ReadsPart m old (Ok e) new = (x : Choosing m) → part_from old x ≡ from new (λ s. Want (next_frame x.part (tree_of e) ∷ s)) x.around
ReadsPart m old (Err e) new = Stops (Choosing m) (part_from old) e new

-- what is called, and what is around
pub record Calling : Type 0 where
  pub callee : Callee
  pub around : Around

-- reading the arguments of a call from these on, with the nesting outside its bracket
abbrev pub argued_from : ℕ → List Tree → Ahead → Calling → Limited
argued_from n ts a x = limited (counts a.depth (n ∷ x.around.outside)) (Want (Within x.callee ts ∷ x.around.frames)) a.rest

-- all arguments and the closing bracket
abbrev pub ReadsArguments : ℕ → Ahead → Result (List Expr) Stop → Ahead → Type 0
ReadsArguments n old (Ok es) new = (x : Calling) → argued_from n [] old x ≡ from new (Have (whole (Invoked x.callee (map tree_of es)))) x.around
ReadsArguments n old (Err e) new = Stops Calling (argued_from n [] old) e new

-- a token that is a literal or a name
abbrev pub TakesLeaf : Ahead → Result Expr Stop → Ahead → Type 0
TakesLeaf old (Ok e) new =
    (t : Token) × (old.rest ≡ t ∷ new.rest) × (new.depth ≡ old.depth) × (old.depth ≤ limit) × (tree_of e ≡ leaf_tree t)
TakesLeaf old (Err stop.Memory) new = Unit {0}
TakesLeaf old (Err (stop.Token why left)) new = starting old.rest ≡ start.Operand → ⊥

-- a name, or a stop here
abbrev pub TakesName : Ahead → Result Name Stop → Ahead → Type 0
TakesName old (Ok x) new = (old.rest ≡ name_token x ∷ new.rest) × (new.depth ≡ old.depth) × (old.depth ≤ limit)
TakesName old (Err stop.Memory) new = Unit {0}
TakesName old (Err (stop.Token why left)) new = (left ≡ length old.rest) × (why ≡ Offends) × (new ≡ old) × (starts is_name old.rest ≡ false)

-- this word or symbol, which leaves the nesting as it is, or a stop here
abbrev pub Passes : Mark → Ahead → Result ⊤ Stop → Ahead → Type 0
Passes m old (Ok u) new = (starts (is_mark m) old.rest ≡ true) × (new.rest ≡ tail old.rest) × (new.depth ≡ old.depth) × (old.depth ≤ limit)
Passes m old (Err stop.Memory) new = ⊥
Passes m old (Err (stop.Token why left)) new = (left ≡ length old.rest) × (why ≡ Offends) × (new ≡ old) × (starts (is_mark m) old.rest ≡ false)

-- a name and an opening bracket
abbrev pub starts_call : List Token → Bool
starts_call [] = false
starts_call (t ∷ ts) = is_name t && starts (is_mark mark.Open) ts

-- what goes on with an operand, and the state behind it
abbrev pub link_next : Link → Next
link_next (link.Between o at) = next.Between o at
link_next (link.When at) = next.Gates at

abbrev pub linked : Link → Held → List Frame → State
linked (link.Between o at) h s = Want (After o at h.body ∷ s)
linked (link.When at) h s = Clock at h.body s

-- what goes on with an operand that is no name before a bracket
abbrev pub SeesLink : ℕ → Held → Ahead → Option Link → Type 0
SeesLink k h old None = h.grade ≤ 10 → accepts (following old.rest) k h ≡ false
SeesLink k h old (Some l) = (accepts (link_next l) k h ≡ true) × (following old.rest ≡ link_next l)

-- a token that is counted, unless it is too deep
abbrev pub Enters : Ahead → Result ⊤ Stop → Ahead → Type 0
Enters old (Ok u) new = (old.depth < limit) × (new.rest ≡ tail old.rest) × (new.depth ≡ old.depth + 1)
Enters old (Err stop.Memory) new = ⊥
Enters old (Err (stop.Token why left)) new = (limit ≤ old.depth) × (why ≡ TooDeep) × (new ≡ old) × (left ≡ length old.rest)

-- this symbol, behind which the nesting is this, or nothing
abbrev pub TakesMark : Mark → ℕ → Ahead → Bool → Ahead → Type 0
TakesMark m n old true new = (starts (is_mark m) old.rest ≡ true) × (new.rest ≡ tail old.rest) × (new.depth ≡ n)
TakesMark m n old false new = (starts (is_mark m) old.rest ≡ false) × (new ≡ old)
