-- The first offending token of a text, and its fault.
use Rattle.std.specs.Prelude.{◌≡◌, ◌<◌, ◌⊎◌, ℕ, Bool, true, false, ◌&&◌, ◌||◌, List, [], ◌∷◌, ◌++◌, length}
use Rattle.rv_syntax.specs.{declared.token.Mark.Mark, declared.token.Kind.Kind, declared.token.Token.Token, declared.fault.TextFault.TextFault, Lexing.tokens}
use Rattle.rv_syntax.specs.{Nesting.Outside, Nesting.behind_all, Nesting.depth, Nesting.limit, Nesting.IsShallowText, ProgramText.IsProgram}
use Rattle.rv_syntax.specs.declared.token.Mark.TheVariants as mark
use Rattle.rv_syntax.specs.declared.token.Kind.TheVariants as kind
use Rattle.rv_syntax.specs.declared.fault.TextFault.TheVariants as fault
use Rattle.rv_tree.specs.Tree.{ProgramTree}

-- The tokens of some program begin with these. (The limit on nesting does not matter here.)
abbrev pub BeginsProgram : List Token → Type 0
BeginsProgram front = (more : List Token) × (p : ProgramTree) × IsProgram p (front ++ more)

-- The text is these tokens, one more and the rest, and none of the first ones offends: a program begins with them, and
-- they are nested at most 200 deep.
pub record IsCut (text : List ℕ) (front : List Token) (t : Token) (rest : List Token) : Type 0 where
  pub whole : tokens text ≡ front ++ t ∷ rest
  pub begins : BeginsProgram front
  pub shallow : IsShallowText Outside front

-- no program's tokens begin with these
abbrev pub IsDead : List Token → Type 0
IsDead front = BeginsProgram front → ⊥

-- what a token is to the rules for what is left out
abbrev pub kind_is : (Mark → Bool) → Kind → Bool
kind_is test (kind.Fixed m) = test m
kind_is test (kind.Name x) = false
kind_is test (kind.Number n) = false
kind_is test kind.LeftOut = false
kind_is test kind.Bad = false

abbrev pub is_name : Kind → Bool
is_name (kind.Name x) = true
is_name (kind.Fixed m) = false
is_name (kind.Number n) = false
is_name kind.LeftOut = false
is_name kind.Bad = false

abbrev pub is_when : Mark → Bool
is_when mark.When = true
is_when _ = false

abbrev pub is_open : Mark → Bool
is_open mark.Open = true
is_open _ = false

abbrev pub is_close : Mark → Bool
is_close mark.Close = true
is_close _ = false

abbrev pub is_not : Mark → Bool
is_not mark.Not = true
is_not _ = false

abbrev pub is_colon : Mark → Bool
is_colon mark.Colon = true
is_colon _ = false

abbrev pub is_node : Mark → Bool
is_node mark.Node = true
is_node _ = false

abbrev pub is_basic : Mark → Bool
is_basic mark.Bool = true
is_basic mark.Int = true
is_basic _ = false

-- a type as it is written: `bool`, `int` or a name
abbrev pub is_type : Kind → Bool
is_type k = is_name k || kind_is is_basic k

-- The last three kinds of the tokens before, the last one first; where there are fewer, `Bad` stands for them.
pub record Before : Type 0 where
  pub last : Kind
  pub second : Kind
  pub third : Kind
  -- between the word `node` and the next `var` or `let`
  pub in_header : Bool

abbrev pub headed : Mark → Bool → Bool
headed mark.Node h = true
headed mark.Var h = false
headed mark.Let h = false
headed _ h = h

abbrev pub still_headed : Kind → Bool → Bool
still_headed (kind.Fixed m) h = headed m h
still_headed (kind.Name x) h = h
still_headed (kind.Number n) h = h
still_headed kind.LeftOut h = h
still_headed kind.Bad h = h

abbrev pub nothing_before : Before
nothing_before = record { last = kind.Bad; second = kind.Bad; third = kind.Bad; in_header = false }

abbrev pub one_later : Before → Token → Before
one_later b t = record { last = t.kind; second = b.last; third = b.second; in_header = still_headed t.kind b.in_header }

abbrev pub looked_back : Before → List Token → Before
looked_back b [] = b
looked_back b (t ∷ ts) = looked_back (one_later b t) ts

-- `not` or `(` directly after `when`
abbrev pub negates_clock : Before → Kind → Bool
negates_clock b k = kind_is is_when b.last && (kind_is is_not k || kind_is is_open k)

-- `(` directly after the name of a `when`
abbrev pub calls_clock : Before → Kind → Bool
calls_clock b k = kind_is is_when b.second && is_name b.last && kind_is is_open k

-- `)` directly after the `(` of a node's inputs
abbrev pub has_no_inputs : Before → Kind → Bool
has_no_inputs b k = kind_is is_node b.third && is_name b.second && kind_is is_open b.last && kind_is is_close k

-- `when` directly after the type of an input or output
abbrev pub clocks_port : Before → Kind → Bool
clocks_port b k = b.in_header && kind_is is_colon b.second && is_type b.last && kind_is is_when k

abbrev pub kind_left_out : Kind → Bool
kind_left_out kind.LeftOut = true
kind_left_out (kind.Fixed m) = false
kind_left_out (kind.Name x) = false
kind_left_out (kind.Number n) = false
kind_left_out kind.Bad = false

-- Whether a token behind these is left out of the language: a word or symbol that is left out, or one that is so in
-- its place.
abbrev pub is_left_out : List Token → Token → Bool
is_left_out front t =
    let b = looked_back nothing_before front in
    kind_left_out t.kind || negates_clock b t.kind || calls_clock b t.kind || has_no_inputs b t.kind || clocks_port b t.kind

-- a token that offends, behind tokens of which none does
pub record Offends (text : List ℕ) (at : ℕ) (Why : List Token → Token → Type 0) : Type 0 where
  pub front : List Token
  pub token : Token
  pub rest : List Token
  pub cut : IsCut text front token rest
  pub why : Why front token
  pub place : token.at ≡ at

-- the text ends where it is no program and yet none of its tokens offends
pub record EndsEarly (text : List ℕ) : Type 0 where
  pub begins : BeginsProgram (tokens text)
  pub shallow : IsShallowText Outside (tokens text)
  pub no_program : (p : ProgramTree) → IsProgram p (tokens text) → ⊥

-- The first offending token, or the end of the text, has this fault: `LeftOut` where a token is left out; `BadText` where
-- otherwise no program goes on with it; `TooDeep` where otherwise the nesting including it is above the limit.
abbrev pub IsFault : List ℕ → TextFault → Type 0
IsFault text fault.Memory = ⊥
IsFault text (fault.LeftOut at) = Offends text at (λ front t. IsDead (front ++ t ∷ []) × (is_left_out front t ≡ true))
IsFault text (fault.BadText at) = Offends text at (λ front t. IsDead (front ++ t ∷ []) × (is_left_out front t ≡ false)) ⊎ (EndsEarly text × (at ≡ length text))
IsFault text (fault.TooDeep at) = Offends text at (λ front t. BeginsProgram (front ++ t ∷ []) × (limit < depth (behind_all (front ++ t ∷ []) Outside)))
