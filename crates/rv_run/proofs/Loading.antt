-- In which order files are loaded.
use Rattle.std.proofs.Common.{◌≡◌, ◌⊎◌, ℕ, ◌+◌, inl, inr, List, Option, Some, sym, ◌∙◌, ap, subst, arith}
use Rattle.rv_base.specs.{Causes.raised, Limits.source_limit, Shelf.Shelf}
use Rattle.rv_run.specs.{Answers.IsNodesReport, Answers.IsTouredReport, Answers.OnFile, Programs.IsProgram, Programs.OnProgram, Traced.IsUnlessNoMemory}
use Rattle.rv_run.specs.{Loading.IsAcceptedSource, Loading.IsBehind, Loading.IsBehindSource, Loading.IsOneAtMost, Loading.LoadsInOrder}
use Rattle.rv_run.specs.{declared.report.Report.Report, Traced.file_limit, Words.Wanted}
use Rattle.rv_run.specs.declared.report.Report.TheVariants.{Made, Memory, ReadFault, Refused, TooLong}
use Rattle.rv_run.proofs.Cut.{IsOffFile}
use Rattle.rv_base.proofs.Options.{some_none}

-- nothing was loaded
pub never_loaded : (held : Option Shelf) (w : Wanted) (r : Report) (before now : ℕ) → now ≡ before → IsOffFile r → LoadsInOrder held w r before now
never_loaded held w r before now same off = record {
  most = inl (inl same);
  unnamed = λ none. same;
  alone = λ none. inl same;
  refused = λ fault h. absurd (let bad : IsOffFile (Refused fault) = subst IsOffFile h off in bad);
  too_long = λ h. absurd (let bad : IsOffFile (TooLong (source_limit + 1)) = subst IsOffFile h off in bad);
  read_fault = λ h. absurd (let bad : IsOffFile ReadFault = subst IsOffFile h off in bad);
  told_refused = λ fault told. inl same;
  told_too_long = λ told. inl same;
}

-- the source was loaded, and nothing else
pub loaded_once : (held : Option Shelf) (w : Wanted) (named : List ℕ × List ℕ) (r : Report) (before now : ℕ) → w.named ≡ Some named → now ≡ raised before
    → LoadsInOrder held w r before now
loaded_once held w named r before now is once = record {
  most = inl (inr once);
  unnamed = λ none. absurd (some_none named (sym is ∙ none));
  alone = λ none. inr once;
  refused = λ fault h. once;
  too_long = λ h. once;
  read_fault = λ h. inl once;
  told_refused = λ fault told. inr once;
  told_too_long = λ told. inr once;
}

-- a load of the source, and one more at most behind it
module _ (held : Option Shelf) (w : Wanted) (bytes node : List ℕ) (before between now : ℕ) (once : between ≡ raised before)
    (on_file : OnProgram IsProgram bytes node → OnFile held w IsAcceptedSource) where
  pub behind_source : IsBehind bytes node between now → IsBehindSource held w before now
  behind_source (more, accepted) = (more ∙ ap raised once, on_file accepted)

  pub one_more : (now ≡ between) ⊎ IsBehind bytes node between now → IsOneAtMost before now ⊎ IsBehindSource held w before now
  one_more (inl same) = inl (inr (same ∙ once))
  one_more (inr more) = inr (behind_source more)

-- a document may be longer than a source
pub source-no_document : (source_limit + 1 ≡ file_limit + 1) → ⊥
source-no_document e = omega arith

pub same_words : (held : Option Shelf) (v w : Wanted) (r : Report) (before now : ℕ) → v ≡ w → LoadsInOrder held v r before now
    → LoadsInOrder held w r before now
same_words held v w r before now e = subst (λ (u : Wanted). LoadsInOrder held u r before now) e

-- ---- Reports on what is not in a file.
pub off_made : (source : List ℕ) (r : Report) → IsUnlessNoMemory (Made source) r → IsOffFile r
off_made source r (inl is) = subst IsOffFile (sym is) tt
off_made source r (inr none) = subst IsOffFile (sym none) tt

pub off_toured : (r : Report) → IsTouredReport r ⊎ (IsNodesReport r ⊎ (r ≡ Memory)) → IsOffFile r
off_toured r (inl (n, size, c, is)) = subst IsOffFile (sym is) tt
off_toured r (inr (inl (n, is))) = subst IsOffFile (sym is) tt
off_toured r (inr (inr none)) = subst IsOffFile (sym none) tt
