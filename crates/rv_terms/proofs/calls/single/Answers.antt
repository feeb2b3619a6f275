use Rattle.std.proofs.{Common.◌≡◌, Common.sym, Common.subst, Common.length, Common.List, Common.Some, Common.None as Nothing, lemmas.Result.IfOk-weaker}
use Rattle.std.specs.Prelude.{MatchOption}
use Rattle.rv_terms.specs.declared.parted.Part.{Part}
use Rattle.rv_terms.specs.Parts.{part_at, Covers, IsMet, IsAlone, HasNoSingle, IsSingle, term_width}
use Rattle.rv_terms.proofs.Finding.{answer_made}
use Rattle.rv_terms.proofs.calls.single.Goals as goal

pub single_in-requires-clause-covers : goal.single_in-requires-clause-covers
single_in-requires-clause-covers c = subst (λ (l : List Part). Covers c.args.store.now.nodes l) (sym c.as_slice.ensures) c.requires.term.covers

pub returns-in-Ok-clause-ok : goal.returns-in-Ok-clause-ok
returns-in-Ok-clause-ok c =
    let h : MatchOption c.in-Ok.found (IsMet c.args.store.now.nodes c.args.term.now.parts c.args.under)
    (λ i. IsAlone c.args.store.now.nodes c.args.term.now.parts c.args.under (length c.args.term.now.parts) i) =
    subst (λ (l : List Part). MatchOption c.in-Ok.found (IsMet c.args.store.now.nodes l c.args.under)
    (λ i. IsAlone c.args.store.now.nodes l c.args.under (length l) i)) c.as_slice.ensures c.in-Ok.ensures.ok in
    IfOk-weaker c.form_of.result (λ out. MatchOption c.in-Ok.found (out ≡ Nothing) (λ i. out ≡ Some (part_at c.as_slice-in-Ok.result.now i).form))
    (λ out. MatchOption out (HasNoSingle c.args.store.now.nodes c.args.term.now.parts c.args.under)
    (IsSingle c.args.store.now.nodes c.args.term.now.parts c.args.under))
    (λ out e. answer_made c.args.store.now.nodes (term_width c.args.term.now.parts) c.args.under c.args.term.now.parts c.in-Ok.found out c.requires.term h
    (subst (λ (l : List Part). MatchOption c.in-Ok.found (out ≡ Nothing) (λ i. out ≡ Some (part_at l i).form)) c.as_slice-in-Ok.ensures e))
    c.form_of.ensures.is
