-- What takes one token within an expression reads it as a rule does.
use Rattle.std.proofs.Common.{◌≡◌, ℕ, true, false, cond, List, [], ◌∷◌, length, refl, sym, ap, ◌∙◌}
use Rattle.std.specs.Prelude.{Some, None, Result, Ok, Err, ⊤}
use Rattle.rv_syntax.specs.{Marks.is_mark, Marks.is_name, Marks.has_mark, Marks.kind_named, Marks.kind_name, Marks.name_of, Reads.Ahead, Reads.tail, Reads.same}
use Rattle.rv_syntax.specs.{Reads.Reads, Reads.TakesName, Reads.Passes, declared.token.Mark.Mark, declared.token.Kind.Kind, declared.token.Token.Token}
use Rattle.rv_syntax.specs.{declared.fault.Stop.Stop, declared.fault.Why.TheVariants.Offends, Parse.one_of, Parse.one, Parse.starts}
use Rattle.rv_syntax.specs.declared.token.Kind.TheVariants as kind
use Rattle.rv_tree.specs.declared.tree.Name.{Name}
use Rattle.rv_syntax.specs.declared.fault.Stop.TheVariants as stop

none-named : (k : Kind) (at : ℕ) (ts : List Token) → kind_named k ≡ false
    → one_of (kind_name k at) (record { kind = k; at = at }) ts ≡ Err (Offends, record { kind = k; at = at } ∷ ts)
none-named (kind.Name x) at ts h = cc
none-named _ at ts h = refl

no-name : (ts : List Token) → starts is_name ts ≡ false → one name_of ts ≡ Err (Offends, ts)
no-name [] h = refl
no-name (t ∷ ts) h = none-named t.kind t.at ts h

pub named : (old new : Ahead) (r : Result Name Stop) → TakesName old r new → Reads (same {A = Name}) (one name_of old.rest) r new.rest
named old new (Ok x) p = ap (one name_of) p.0
named old new (Err stop.Memory) p = tt
named old new (Err (stop.Token why left)) p = (
  p.0 ∙ ap (λ a. length a.rest) (sym p.2),
  no-name old.rest p.3 ∙ ap (λ a. Err (Offends, a.rest)) (sym p.2) ∙ ap (λ w. Err (w, new.rest)) (sym p.1),
)

is-one : (m : Mark) (ts : List Token) → starts (is_mark m) ts ≡ true → one (has_mark m) ts ≡ Ok (tt, tail ts)
is-one m [] h = cc
is-one m (t ∷ ts) h = ap (λ b. one_of (cond b (Some tt) None) t ts) h

not-one : (m : Mark) (ts : List Token) → starts (is_mark m) ts ≡ false → one (has_mark m) ts ≡ Err (Offends, ts)
not-one m [] h = refl
not-one m (t ∷ ts) h = ap (λ b. one_of (cond b (Some tt) None) t ts) h

pub passed : (m : Mark) (old new : Ahead) (r : Result ⊤ Stop) → Passes m old r new → Reads (same {A = ⊤}) (one (has_mark m) old.rest) r new.rest
passed m old new (Ok u) p = is-one m old.rest p.0 ∙ ap (λ l. Ok (tt, l)) (sym p.1)
passed m old new (Err stop.Memory) p = tt
passed m old new (Err (stop.Token why left)) p = (
  p.0 ∙ ap (λ a. length a.rest) (sym p.2),
  not-one m old.rest p.3 ∙ ap (λ a. Err (Offends, a.rest)) (sym p.2) ∙ ap (λ w. Err (w, new.rest)) (sym p.1),
)
