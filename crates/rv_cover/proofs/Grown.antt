-- What is sought, in a store that has grown.
use Rattle.std.proofs.Common.{◌≡◌, ℕ, ◌≤◌, List, length, Option, Some, IfSome, arith, sym, ◌∙◌, subst, None as Nothing}
use Rattle.rv_diagram.specs.{Nodes.Diagrams, Nodes.IsRef, Nodes.IsOrderedOver, Growing.Extends, declared.frozen.Frozen.Frozen}
use Rattle.rv_rows.specs.declared.linear.Row.{Row}
use Rattle.rv_proofs.specs.{Systems.System, Ranges.AreKept, Ranges.IsControlSet, declared.certificate.Certificate.Certificate}
use Rattle.rv_symbolic.specs.{declared.relation.Parts.Parts, Represented.HaveRefs}
use Rattle.rv_cases.specs.declared.asking.Questions.{Questions}
use Rattle.rv_cases.proofs.{Keeping.questions_later, Gathering.refs_later}
use Rattle.rv_cover.specs.{declared.frame.By.By, declared.frame.Frame.Frame, Seeking.IsWay, Seeking.IsSought, Seeking.IsSearched, Seeking.IsFrameFor}
use Rattle.rv_cover.specs.{Seeking.IsPlausible, Seeking.IsDocument}
use Rattle.rv_cover.proofs.{Chaining.ref_later, Assembling.is_document}

module _ (s : System) (a b : Diagrams) (p : Parts) (q : Questions) (way : By) (first rest : Frozen) (taken : ℕ) (reached : Frozen) (given : List Row)
    (is : IsSought s a p q way first rest taken reached given) (e : Extends a b) where
  variables : b.variables ≡ s.variables
  variables = let means = is.parts in e.variables ∙ means.variables

  ordered : (set : Frozen) → IsControlSet s set → IsOrderedOver b.variables set
  ordered set control = subst (λ (m : ℕ). IsOrderedOver m set) (sym variables) control.ordered

  pub first_ordered : IsOrderedOver b.variables first
  first_ordered = ordered first is.first_set

  pub rest_ordered : IsOrderedOver b.variables rest
  rest_ordered = ordered rest is.rest_set

  pub allowed_found : IsRef b.nodes p.allowed
  allowed_found = let refs = is.refs in ref_later a b p.allowed e refs.allowed

  pub taken_there : IsRef b.nodes taken
  taken_there = ref_later a b taken e is.taken_found

  pub refs_there : HaveRefs b p
  refs_there = let refs = is.refs in record {
    allowed = allowed_found;
    observer = ref_later a b p.observer e refs.observer;
    initial = ref_later a b p.initial e refs.initial;
    next = refs_later a b p.next e refs.next;
    copies = let few = refs.copies in let same = e.variables in omega (arith, few, same);
  }

  pub rows_searched : (m n : ℕ) (f : Frame) → IsFrameFor m n way f → (rows : List Row) → length rows ≤ length given → IsSearched s b q f rows
  rows_searched m n f frame rows few = record {
    system = is.system;
    questions = questions_later s a b q e is.questions;
    way = subst (IsWay s) (sym frame.by_is) is.way;
    few = let most = is.few in omega (arith, few, most);
  }

  frame_is : (f : Frame) → IsFrameFor b.variables (length p.next) way f → IsFrameFor s.variables s.states way f
  frame_is f frame = let means = is.parts in
      subst (λ (n : ℕ). IsFrameFor s.variables n way f) means.states (subst (λ (m : ℕ). IsFrameFor m (length p.next) way f) variables frame)

  pub document : (f : Frame) → IsFrameFor b.variables (length p.next) way f → (rows : List Row) → AreKept s rows → (o : Option Certificate)
      → IfSome o (IsPlausible f (length q.rows) first rest rows) → IfSome o (IsDocument s)
  document f frame rows kept Nothing h = tt
  document f frame rows kept (Some c) h = let ask = is.questions in
      is_document s way f (frame_is f frame) (length q.rows) ask.many_tests first rest is.first_set is.rest_set rows kept c h
