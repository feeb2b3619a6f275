use Rattle.std.proofs.Common.{◌≡◌, ◌∙◌, sym, true, false, Bool, not, refl}
use Rattle.std.proofs.lemmas.Bool.{and_from, and_parts, false≢true}
use Rattle.std.specs.Prelude.{MatchBool}
use Rattle.rv_diagram.specs.Nodes.{Valuation, value_of}
use Rattle.rv_terms.proofs.Finding.{some_from}
use Rattle.rv_terms.proofs.calls.meets.Goals as goal

by_answer : (b : Bool) (P Q : Type 0) → (b ≡ false → P) → (b ≡ true → Q) → MatchBool (not b) P Q
by_answer true P Q f g = g refl
by_answer false P Q f g = f refl

pub returns-in-Ok-clause-ok : goal.returns-in-Ok-clause-ok
returns-in-Ok-clause-ok c = by_answer c.is_false-empty.result
    ((v : Valuation) × (value_of c.args.store.now.nodes c.args.a v ≡ true) × (value_of c.args.store.now.nodes c.args.b v ≡ true))
    ((v : Valuation) → value_of c.args.store.now.nodes c.args.a v ≡ true → value_of c.args.store.now.nodes c.args.b v ≡ true → ⊥)
    (λ f.
    let s : (v : Valuation) × (value_of c.both.new.store.nodes c.in-Ok.found v ≡ true) =
    some_from c.both.new.store.nodes c.both.new.store.variables c.in-Ok.found c.mark-count.ensures.reads c.in-Ok.ensures.ok.found
    (λ none. false≢true (sym f ∙ c.is_false-empty.ensures.1 none)) in
    let both : (value_of c.args.store.now.nodes c.args.a s.0 ≡ true) × (value_of c.args.store.now.nodes c.args.b s.0 ≡ true) =
    and_parts (value_of c.args.store.now.nodes c.args.a s.0) (value_of c.args.store.now.nodes c.args.b s.0) (sym (c.in-Ok.ensures.ok.means s.0) ∙ s.1) in
    (s.0, both.0, both.1))
    (λ t v one two. false≢true (sym (c.is_false-empty.ensures.0 t v) ∙ c.in-Ok.ensures.ok.means v
    ∙ and_from (value_of c.args.store.now.nodes c.args.a v) (value_of c.args.store.now.nodes c.args.b v) one two))
