-- A whole text is read as its tree, or its reading stops at the first offending token.
use Rattle.std.proofs.Common.{inl, inr, ◌≡◌, ℕ, Bool, true, false, cond, List, [], ◌∷◌, ◌++◌, length, refl, sym, ap, ◌∙◌, subst, append_assoc, length-append}
use Rattle.std.proofs.Common.{arith, ◌≤◌}
use Rattle.std.proofs.lemmas.List.{append-nil, append_cancel_right}
use Rattle.std.specs.Prelude.{◌⊎◌, Option, Some, None, Ok, Err, ◌<◌, Result, IfOk, IfErr}
use Rattle.rv_syntax.specs.Nesting.{Outside, behind_all, depth, limit, IsShallowText}
use Rattle.rv_syntax.specs.Faults.{BeginsProgram, IsCut, IsDead, is_left_out, EndsEarly, IsFault}
use Rattle.rv_syntax.specs.{declared.token.Token.Token, declared.fault.Why.Why, declared.fault.TextFault.TextFault, Lexing.tokens, ProgramText.IsProgram}
use Rattle.rv_syntax.specs.{ProgramText.IsTextOf, ProgramText.program_with_sites, Correct.Finds, Correct.Explains, Correct.IsOrMemory, Correct.Refuses}
use Rattle.rv_syntax.specs.{Parse.Reading, Stopped.fault_at, Stopped.shortfall, Stopped.FallsShort, Stopped.Tells}
use Rattle.rv_syntax.specs.declared.fault.Why.TheVariants as why
use Rattle.rv_syntax.specs.declared.fault.TextFault.TheVariants as fault
use Rattle.rv_tree.specs.{declared.tree.Program.Program, Tree.ProgramTree, Tree.program_tree}
use Rattle.rv_syntax.specs.Reading.{program}
use Rattle.rv_syntax.proofs.ExactRules.{Exact-program}
use Rattle.rv_syntax.proofs.OneFault.{head-same, begins-before, one-fault, no-tree}
use Rattle.rv_syntax.proofs.Exactly.{Answers, left, with_left, ReadsAs}

-- A reading that found something and left nothing.
pub record Whole (p : ProgramTree) (ts : List Token) : Type 0 where
  pub program : IsProgram p ts
  pub shallow : IsShallowText Outside ts

whole-of : (p : ProgramTree) (ts : List Token) (r : Reading ProgramTree) → r ≡ Ok (p, []) → Answers IsProgram Outside ts r → Whole p ts
whole-of p ts (Ok x) e a =
    let same : x.0 ≡ p = cc in
    let none : x.1 ≡ [] = cc in
    let all : ts ≡ a.0 = a.1 ∙ ap (λ z. a.0 ++ z) none ∙ append-nil a.0 in
    record { program = subst (λ q. IsProgram q ts) same (subst (IsProgram x.0) (sym all) a.2); shallow = subst (IsShallowText Outside) (sym all) a.3 }
whole-of p ts (Err x) e a = cc

-- What is read of a word, where all of it is shallow.
reads-shallow : (p : ProgramTree) (ts : List Token) (r : Reading ProgramTree) → IsShallowText Outside ts → ReadsAs Outside p ts [] r → r ≡ Ok (p, [])
reads-shallow p ts r s (inl e) = e
reads-shallow p ts r s (inr d) = absurd (d.2 s)

abbrev stop-why : Option (Why × List Token) → Why
stop-why (Some x) = x.0
stop-why None = why.Offends

abbrev stop-rest : Option (Why × List Token) → List Token
stop-rest (Some x) = x.1
stop-rest None = []

abbrev found-or : ProgramTree → Reading ProgramTree → ProgramTree
found-or p (Ok x) = x.0
found-or p (Err e) = p

no-token : (t : Token) (ts : List Token) → [] ≡ t ∷ ts → ⊥
no-token t ts e = cc

apart : why.Offends ≡ why.TooDeep → ⊥
apart h = cc

-- What falls short for a token that offends, or for the end, is no word.
stops-at : (p : ProgramTree) (ts more : List Token) (r : Reading ProgramTree) → shortfall r ≡ Some (why.Offends, more) → ReadsAs Outside p ts [] r → ⊥
stops-at p ts more (Ok (q, [])) s (inl e) = cc
stops-at p ts more (Ok (q, x ∷ rest)) s (inl e) = cc
stops-at p ts more (Err x) s (inl e) = cc
stops-at p ts more r s (inr d) = apart (ap stop-why (sym s) ∙ ap (λ z. stop-why (shortfall z)) d.1)

-- what is left where a reading falls short
left-of : (w : Why) (rest : List Token) (r : Reading ProgramTree) → shortfall r ≡ Some (w, rest) → left r ≡ rest
left-of w rest (Ok (q, [])) s = cc
left-of w rest _ s = ap stop-rest s

shortfall-with : (w : Why) (t : Token) (rest more : List Token) (r : Reading ProgramTree) → shortfall r ≡ Some (w, rest)
    → shortfall (with_left (t ∷ more) r) ≡ Some (w, t ∷ more)
shortfall-with w t rest more (Ok (q, [])) s = cc
shortfall-with w t rest more _ s = ap (λ z. Some (z, t ∷ more)) (ap stop-why s)

-- What was read before a stop begins a program and is shallow.
record Before (ts rest : List Token) : Type 0 where
  front : List Token
  spelled : ts ≡ front ++ rest
  begins : BeginsProgram front
  shallow : IsShallowText Outside front

-- A program goes on with the first token that is left, and its nesting is above the limit.
record TooFar (ts rest : List Token) : Type 0 where
  front : List Token
  token : Token
  after : List Token
  left : rest ≡ token ∷ after
  spelled : ts ≡ front ++ rest
  begins : BeginsProgram (front ++ token ∷ [])
  deep : limit < depth (behind_all (front ++ token ∷ []) Outside)

some-left : (ts : List Token) → TooFar ts [] → ⊥
some-left ts x = no-token x.token x.after x.left

-- An answer is the tree of the text, or tells its fault.
pub record Answered (bytes : List ℕ) (r : Result Program TextFault) : Type 0 where
  pub tree : IfOk r (λ p. IsTextOf bytes (program_tree p))
  pub told : IfErr r (Explains bytes)

tells : (ts : List Token) (len : ℕ) (r : Reading ProgramTree) (f : TextFault) → FallsShort ts len r f → Tells ts len r f
tells ts len r fault.Memory h = tt
tells ts len r _ h = h

-- What is read whole is a program, and shallow.
pub whole : (ts : List Token) (p : ProgramTree) → program ts ≡ Ok (p, []) → Whole p ts
whole ts p e = whole-of p ts (program ts) e (Exact-program.answers Outside refl ts)

reads : (ts : List Token) (p : ProgramTree) → IsProgram p ts → ReadsAs Outside p ts [] (program ts)
reads ts p h = subst (λ z. ReadsAs Outside p ts [] (program z)) (append-nil ts) (Exact-program.reads Outside refl p ts [] h refl)

-- A shallow program is read whole.
pub reads-whole : (ts : List Token) (p : ProgramTree) → IsProgram p ts → IsShallowText Outside ts → program ts ≡ Ok (p, [])
reads-whole ts p h s = reads-shallow p ts (program ts) s (reads ts p h)

pub one-program : (ts : List Token) (p q : ProgramTree) → IsShallowText Outside ts → IsProgram p ts → IsProgram q ts → p ≡ q
one-program ts p q s h k = ap (found-or p) (sym (reads-whole ts p h s) ∙ reads-whole ts q k s)

pub one-tree : (bytes : List ℕ) (t u : ProgramTree) → IsTextOf bytes t → IsTextOf bytes u → t ≡ u
one-tree bytes t u x y = x.1 ∙ ap program_with_sites (one-program (tokens bytes) x.0 y.0 x.3 x.2 y.2) ∙ sym y.1

-- No program goes on with a token that offends.
dead : (front : List Token) (t : Token) (rest : List Token) → shortfall (program (front ++ t ∷ rest)) ≡ Some (why.Offends, t ∷ rest)
    → IsDead (front ++ t ∷ [])
dead front t rest s b =
    let here = Exact-program.local front t rest b.0 [] (left-of why.Offends (t ∷ rest) (program (front ++ t ∷ rest)) s) in
    stops-at b.1 (front ++ t ∷ b.0) (t ∷ b.0) (program (front ++ t ∷ b.0))
    (ap shortfall here ∙ shortfall-with why.Offends t (t ∷ rest) b.0 (program (front ++ t ∷ rest)) s)
    (reads (front ++ t ∷ b.0) b.1 (subst (IsProgram b.1) (append_assoc front (t ∷ []) b.0) b.2))

-- ---- Where a reading of a text falls short.
cut-off : (ts : List Token) (w : Why) (rest : List Token) (r : Reading ProgramTree) → shortfall r ≡ Some (w, rest) → Answers IsProgram Outside ts r
    → Before ts rest
cut-off ts w rest (Ok (q, [])) s a = cc
cut-off ts w rest (Ok (q, x ∷ more)) s a =
    let begins : BeginsProgram a.0 = ([], q, subst (IsProgram q) (sym (append-nil a.0)) a.2) in
    record { front = a.0; spelled = a.1 ∙ ap (λ z. a.0 ++ z) (ap stop-rest s); begins = begins; shallow = a.3 }
cut-off ts w rest (Err (why.Offends, more)) s a =
    record { front = a.0; spelled = a.1 ∙ ap (λ z. a.0 ++ z) (ap stop-rest s); begins = a.2; shallow = a.3 }
cut-off ts w rest (Err (why.TooDeep, more)) s a =
    record { front = a.0; spelled = a.4 ∙ ap (λ z. a.0 ++ z) (ap stop-rest s); begins = begins-before a.0 (a.1 ∷ []) a.5; shallow = a.6 }

too-far : (ts rest : List Token) (r : Reading ProgramTree) → shortfall r ≡ Some (why.TooDeep, rest) → Answers IsProgram Outside ts r → TooFar ts rest
too-far ts rest (Ok (q, [])) s a = cc
too-far ts rest (Err (why.TooDeep, more)) s a =
    let spelled = a.4 ∙ ap (λ z. a.0 ++ z) (ap stop-rest s) in
    record { front = a.0; token = a.1; after = a.2; left = ap stop-rest (sym s) ∙ a.3; spelled = spelled; begins = a.5; deep = a.7 }
too-far ts rest _ s a = absurd (apart (ap stop-why s))

-- No more is left than there is.
is-cut : (ts : List Token) (w : Why) (rest : List Token) → shortfall (program ts) ≡ Some (w, rest) → (front : List Token) × (ts ≡ front ++ rest)
is-cut ts w rest s =
    let b = cut-off ts w rest (program ts) s (Exact-program.answers Outside refl ts) in
    (b.front, b.spelled)

pub left-within : (ts : List Token) (w : Why) (rest : List Token) → shortfall (program ts) ≡ Some (w, rest) → length rest ≤ length ts
left-within ts w rest s =
    let b = is-cut ts w rest s in
    omega (arith, ap length b.1, length-append b.0 rest)

-- the fault that is told where reading falls short
pub told : (ts : List Token) (len : ℕ) (w : Why) (rest : List Token) (f : TextFault) → shortfall (program ts) ≡ Some (w, rest)
    → ((front after : List Token) → ts ≡ front ++ after → length after ≡ length rest → f ≡ fault_at front after w len) → Tells ts len (program ts) f
told ts len w rest f s e =
    let b = is-cut ts w rest s in
    tells ts len (program ts) f (b.0, w, rest, b.1, s, e b.0 rest b.1 refl)

cut : (bytes : List ℕ) (front : List Token) (t : Token) (more : List Token) (w : Why) → tokens bytes ≡ front ++ t ∷ more
    → shortfall (program (tokens bytes)) ≡ Some (w, t ∷ more) → IsCut bytes front t more
cut bytes front t more w e s =
    let b = cut-off (tokens bytes) w (t ∷ more) (program (tokens bytes)) s (Exact-program.answers Outside refl (tokens bytes)) in
    let same : b.front ≡ front = append_cancel_right b.front front (t ∷ more) (sym b.spelled ∙ e) in
    record { whole = e; begins = subst BeginsProgram same b.begins; shallow = subst (IsShallowText Outside) same b.shallow }

early : (bytes : List ℕ) (front : List Token) → tokens bytes ≡ front ++ [] → shortfall (program (tokens bytes)) ≡ Some (why.Offends, []) → EndsEarly bytes
early bytes front e s =
    let b = cut-off (tokens bytes) why.Offends [] (program (tokens bytes)) s (Exact-program.answers Outside refl (tokens bytes)) in
    let same : b.front ≡ tokens bytes = sym (append-nil b.front) ∙ sym b.spelled in
    record {
      begins = subst BeginsProgram same b.begins;
      shallow = subst (IsShallowText Outside) same b.shallow;
      no_program = λ p h. stops-at p (tokens bytes) [] (program (tokens bytes)) s (reads (tokens bytes) p h);
    }

offends : (bytes : List ℕ) (front : List Token) (t : Token) (more : List Token) → IsCut bytes front t more → IsDead (front ++ t ∷ []) → (b : Bool)
    → is_left_out front t ≡ b → IsFault bytes (cond b (fault.LeftOut t.at) (fault.BadText t.at))
offends bytes front t more c d true e = record { front = front; token = t; rest = more; cut = c; why = (d, e); place = refl }
offends bytes front t more c d false e = inl (record { front = front; token = t; rest = more; cut = c; why = (d, e); place = refl })

nested : (bytes : List ℕ) (front : List Token) (t : Token) (more : List Token) → IsCut bytes front t more → TooFar (tokens bytes) (t ∷ more)
    → IsFault bytes (fault.TooDeep t.at)
nested bytes front t more c x =
    let same : x.front ≡ front = append_cancel_right x.front front (t ∷ more) (sym x.spelled ∙ c.whole) in
    let here : x.token ≡ t = sym (head-same t x.token more x.after x.left) in
    let whole : x.front ++ x.token ∷ [] ≡ front ++ t ∷ [] = ap (λ z. z ++ x.token ∷ []) same ∙ ap (λ z. front ++ z ∷ []) here in
    let deep = subst (λ z. limit < depth (behind_all z Outside)) whole x.deep in
    record { front = front; token = t; rest = more; cut = c; why = (subst BeginsProgram whole x.begins, deep); place = refl }

-- Where reading falls short, there is this fault.
is-fault : (bytes : List ℕ) (front rest : List Token) (w : Why) → tokens bytes ≡ front ++ rest → shortfall (program (tokens bytes)) ≡ Some (w, rest)
    → IsFault bytes (fault_at front rest w (length bytes))
is-fault bytes front [] why.Offends e s = inr (early bytes front e s, refl)
is-fault bytes front [] why.TooDeep e s =
    absurd (some-left (tokens bytes) (too-far (tokens bytes) [] (program (tokens bytes)) s (Exact-program.answers Outside refl (tokens bytes))))
is-fault bytes front (t ∷ more) why.Offends e s =
    let c = cut bytes front t more why.Offends e s in
    offends bytes front t more c (dead front t more (ap (λ z. shortfall (program z)) (sym e) ∙ s)) (is_left_out front t) refl
is-fault bytes front (t ∷ more) why.TooDeep e s =
    nested bytes front t more (cut bytes front t more why.TooDeep e s)
    (too-far (tokens bytes) (t ∷ more) (program (tokens bytes)) s (Exact-program.answers Outside refl (tokens bytes)))

falls-short : (bytes : List ℕ) (f : TextFault) → FallsShort (tokens bytes) (length bytes) (program (tokens bytes)) f → IsFault bytes f
falls-short bytes f h = subst (IsFault bytes) (sym h.5) (is-fault bytes h.0 h.2 h.1 h.3 h.4)

explains : (bytes : List ℕ) (f : TextFault) → Tells (tokens bytes) (length bytes) (program (tokens bytes)) f → Explains bytes f
explains bytes fault.Memory h = tt
explains bytes f h = falls-short bytes f h

text-of : (bytes : List ℕ) (p t : ProgramTree) → program (tokens bytes) ≡ Ok (p, []) → t ≡ program_with_sites p → IsTextOf bytes t
text-of bytes p t e is = let w = whole (tokens bytes) p e in (p, is, w.program, w.shallow)

-- ---- Each text has a tree or a fault.
abbrev TreeOrFault : List ℕ → Type 0
TreeOrFault bytes = ((t : ProgramTree) × IsTextOf bytes t) ⊎ ((f : TextFault) × IsFault bytes f)

fault-there : (bytes : List ℕ) (w : Why) (rest : List Token) → shortfall (program (tokens bytes)) ≡ Some (w, rest) → TreeOrFault bytes
fault-there bytes w rest s =
    let b = is-cut (tokens bytes) w rest s in
    inr (fault_at b.0 rest w (length bytes), is-fault bytes b.0 rest w b.1 s)

either : (bytes : List ℕ) (r : Reading ProgramTree) → program (tokens bytes) ≡ r → TreeOrFault bytes
either bytes (Ok (p, [])) e = inl (program_with_sites p, text-of bytes p (program_with_sites p) e refl)
either bytes (Ok (p, t ∷ rest)) e = fault-there bytes why.Offends (t ∷ rest) (ap shortfall e)
either bytes (Err (w, rest)) e = fault-there bytes w rest (ap shortfall e)

pub tree-or-fault : (bytes : List ℕ) → TreeOrFault bytes
tree-or-fault bytes = either bytes (program (tokens bytes)) refl

-- ---- An answer that is the tree of the text, or tells its fault.
pub answers : (bytes : List ℕ) (ts : List Token) (p : ProgramTree) (q : Program) → ts ≡ tokens bytes → program ts ≡ Ok (p, [])
    → program_tree q ≡ program_with_sites p → Answered bytes (Ok q)
answers bytes ts p q is e sites = record { tree = text-of bytes p (program_tree q) (ap program (sym is) ∙ e) sites; told = tt }

pub refuses : (bytes : List ℕ) (ts : List Token) (f : TextFault) (r : Result Program TextFault) → ts ≡ tokens bytes → Tells ts (length bytes) (program ts) f
    → r ≡ Err f → Answered bytes r
refuses bytes ts f r is h e =
    let told = explains bytes f (subst (λ z. Tells z (length bytes) (program z) f) is h) in
    subst (Answered bytes) (sym e) (record { tree = tt; told = told })

-- ---- Such an answer is all that there is to be found and told.
finds : (bytes : List ℕ) (f : TextFault) (t : ProgramTree) → Explains bytes f → IsTextOf bytes t → Finds {X = Program} program_tree t (Err f)
finds bytes fault.Memory t h x = tt
finds bytes f t h x = no-tree bytes f t h x

pub only-tree : (bytes : List ℕ) (r : Result Program TextFault) → Answered bytes r → (t : ProgramTree) → IsTextOf bytes t → Finds program_tree t r
only-tree bytes (Ok p) h t x = one-tree bytes (program_tree p) t h.tree x
only-tree bytes (Err f) h t x = finds bytes f t h.told x

same-fault : (bytes : List ℕ) (f g : TextFault) → Explains bytes g → IsFault bytes f → IsOrMemory f g
same-fault bytes f fault.Memory h x = tt
same-fault bytes f g h x = one-fault bytes f g x h

pub only-fault : (bytes : List ℕ) (r : Result Program TextFault) → Answered bytes r → (f : TextFault) → IsFault bytes f → Refuses f r
only-fault bytes (Ok p) h f x = no-tree bytes f (program_tree p) x h.tree
only-fault bytes (Err e) h f x = same-fault bytes f e h.told x
