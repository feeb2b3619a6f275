-- From what a document's bytes do over an accepted source to what the files hold under the name of the document.
use Rattle.std.proofs.Common.{◌≡◌, ℕ, ◌<◌, ◌≤◌, List, length, sym, ◌∙◌, ap, subst, arith, Option}
use Rattle.rv_base.specs.{Shelf.Shelf, Shelf.HoldsUnder, Limits.source_limit}
use Rattle.rv_tree.specs.{Tree.ProgramTree, Tree.program_tree, Places.Identifier}
use Rattle.rv_syntax.specs.ProgramText.{IsTextOf}
use Rattle.rv_types.specs.Instances.{name_at}
use Rattle.rv_instances.specs.declared.source.Source.{Source}
use Rattle.rv_source.specs.Sources.{IsSourceOf}
use Rattle.rv_run.specs.{declared.report.Report.Report, Answers.Tells, Checked.IsUnlessCut, Checked.IsUnlessLimit, Checked.SaysOf, Traced.IsLongDocument}
use Rattle.rv_run.specs.{Traced.OnAccepted, Traced.file_limit, declared.words.Task.Task}
use Rattle.rv_run.proofs.Named.{loaded_is, more_under, told_under, under_name}
use Rattle.rv_run.proofs.Reported.{cut_off, named, told, told_back}

module _ (held : Option Shelf) (name bytes : List ℕ) (node : Identifier) (s : Source) (source : IsSourceOf bytes node s) (short : length bytes ≤ source_limit)
    (task : Task) where
  abbrev program : ProgramTree
  program = program_tree s.program

  abbrev main : Identifier
  main = name_at (program_tree s.program) s.typed.main

  -- The document was loaded whole.
  module _ (loaded given : List ℕ) (whole : HoldsUnder held name (λ b. (loaded ≡ b) × (length b ≤ file_limit))) (fits : length loaded ≤ file_limit)
      (same : given ≡ loaded) where
    pub document_said : (x : Report) → SaysOf task x given program main → HoldsUnder held name (OnAccepted (SaysOf task x) bytes node)
    document_said x h =
        under_name held name loaded file_limit (OnAccepted (SaysOf task x) bytes node) whole
        (short, fits, told bytes node s source (SaysOf task x loaded) (subst (λ (d : List ℕ). SaysOf task x d program main) same h))

    pub document_told : ((t u : ProgramTree) → IsTextOf bytes t → IsTextOf bytes u → t ≡ u) → (r : Report)
        → ((x : Report) → SaysOf task x given program main → IsUnlessLimit task x r)
        → (x : Report) (document : List ℕ) → Tells held name document → OnAccepted (SaysOf task x) bytes node document → IsUnlessCut task x r
    document_told one r only x document tells on =
        let is : given ≡ document = same ∙ loaded_is held name loaded document file_limit whole tells in
        let here : SaysOf task x document program node = told_back bytes node s source one (SaysOf task x document) on.2 in
        let by_main : SaysOf task x document program main = subst (λ (n : Identifier). SaysOf task x document program n) (sym (named bytes node s source))
        here in
        cut_off task x r (only x (subst (λ (d : List ℕ). SaysOf task x d program main) (sym is) by_main))

    pub whole-not_long : (document : List ℕ) → Tells held name document → IsLongDocument bytes node document → ⊥
    whole-not_long document tells long =
        let many = ap length (loaded_is held name loaded document file_limit whole tells) in
        let lt = long.1 in
        omega (arith, fits, many, lt)

  -- It is too long.
  module _ (long : HoldsUnder held name (λ b. file_limit < length b)) where
    pub long_said : HoldsUnder held name (IsLongDocument bytes node)
    long_said = more_under held name (λ b. file_limit < length b) (IsLongDocument bytes node)
        (λ b lt. (short, lt, told bytes node s source (λ p m. Unit {0}) tt)) long

    pub long-not_said : (x : Report) (document : List ℕ) → Tells held name document → OnAccepted (SaysOf task x) bytes node document → ⊥
    long-not_said x document tells on =
        let lt = told_under held name document (λ b. file_limit < length b) long tells in
        let le = on.1 in
        omega (arith, lt, le)
