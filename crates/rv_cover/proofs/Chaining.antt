-- References, questions and covers in a store that grows.
use Rattle.std.proofs.Common.{◌≡◌, ℕ, ◌<◌, List, [], ◌∷◌, ◌++◌, length, arith, sym, ap, ◌∙◌, subst, ⊎_elim, Some, slice_get, ◌⊎◌, inl, All}
use Rattle.std.proofs.Common.{inr}
use Rattle.std.proofs.lemmas.List.Elements.{All-weaker}
use Rattle.std.proofs.{lemmas.Bool.cases_lt, lemmas.List.get_or_append_left, lemmas.List.length_push, Math.Seq.get_or-append_seam}
use Rattle.rv_base.proofs.Lists.{push_cases, none_at}
use Rattle.rv_diagram.proofs.Growing.{extends_trans}
use Rattle.rv_diagram.specs.{declared.Triple.Triple, Nodes.Diagrams, Nodes.IsRef, Several.ref_at, Growing.Extends, declared.frozen.Frozen.Frozen}
use Rattle.rv_rows.specs.declared.linear.Row.{Row}
use Rattle.rv_proofs.specs.{Systems.System, declared.certificate.Entry.Entry, declared.certificate.EntryKind.EntryKind}
use Rattle.rv_cases.specs.{declared.asking.Questions.Questions, Conditions.AreRefs}
use Rattle.rv_cases.proofs.Keeping.{questions_later}
use Rattle.rv_cover.specs.{declared.frame.Frame.Frame, declared.covering.Cover.Cover, Entries.IsPlainKind, Entries.IsReadable, Entries.IsPlainEntry}
use Rattle.rv_cover.specs.{Entries.AreShortEntries, Covering.IsCover, Seeking.IsSearched, declared.several.Target.Target, Toward.IsTarget}

pub ref_later : (a b : Diagrams) (r : ℕ) → Extends a b → IsRef a.nodes r → IsRef b.nodes r
ref_later a b r e h = let l = e.longer in omega (arith, l, h)

pub refs_push : (nodes : List Triple) (refs : List ℕ) (r : ℕ) → AreRefs nodes refs → IsRef nodes r → AreRefs nodes (refs ++ r ∷ [])
refs_push nodes refs r are found n low = ⊎_elim
    (λ lt. subst (λ x. IsRef nodes x) (sym (get_or_append_left refs (r ∷ []) 0 n lt)) (are n lt))
    (λ ge.
    let size = length_push refs r in
    let e : length refs ≡ n = omega (arith, low, ge, size) in
    subst (λ x. IsRef nodes x) (sym (ap (ref_at (refs ++ r ∷ [])) (sym e) ∙ get_or-append_seam refs r [] 0)) found)
    (cases_lt n (length refs))

pub searched_later : (s : System) (a b : Diagrams) (q : Questions) (f : Frame) (given : List Row) → Extends a b → IsSearched s a q f given
    → IsSearched s b q f given
searched_later s a b q f given e is = record {
  system = is.system;
  questions = questions_later s a b q e is.questions;
  way = is.way;
  few = is.few;
}

-- other rows, as many
pub searched_as_many : (s : System) (a : Diagrams) (q : Questions) (f : Frame) (given lean : List Row) → length lean ≡ length given → IsSearched s a q f given
    → IsSearched s a q f lean
searched_as_many s a q f given lean same is = record {
  system = is.system;
  questions = is.questions;
  way = is.way;
  few = let few = is.few in omega (arith, same, few);
}

pub cover_later : (a b : Diagrams) (f : Frame) (n : ℕ) (c : Cover) → Extends a b → IsCover a.nodes f n c → IsCover b.nodes f n c
cover_later a b f n c e is = record {
  entries = is.entries;
  left = ref_later a b c.left e is.left;
  rest = ref_later a b c.rest e is.rest;
}

pub target_later : (s : System) (a b : Diagrams) (t : Target) → Extends a b → IsTarget s a.nodes t → IsTarget s b.nodes t
target_later s a b t e is = record { into = ref_later a b t.into e is.into; wanted = is.wanted }

pub targets_later : (s : System) (a b : Diagrams) (ts : List Target) → Extends a b → All (IsTarget s a.nodes) ts → All (IsTarget s b.nodes) ts
targets_later s a b ts e are = All-weaker (IsTarget s a.nodes) (IsTarget s b.nodes) (λ t is. target_later s a b t e is) ts are

-- one entry more
pub short_more : (f : Frame) (n : ℕ) (es more : List Entry) (condition : Frozen) (kind : EntryKind) → AreShortEntries f n es → length es < 16384
    → IsReadable f condition → IsPlainKind n kind → more ≡ es ++ (record { condition = condition; kind = kind }) ∷ [] → AreShortEntries f n more
short_more f n es more condition kind are low read plain is = subst (AreShortEntries f n) (sym is) (record {
  few = let size = length_push es new in omega (arith, low, size);
  each = λ j e at. each j e (push_cases es new e j at);
})
  where
    new : Entry
    new = record { condition = condition; kind = kind }

    each : (j : ℕ) (e : Entry) → (slice_get es j ≡ Some e) ⊎ ((j ≡ length es) × (new ≡ e)) → IsPlainEntry f n e
    each j e (inl at) = are.each j e at
    each j e (inr (_, same)) = subst (IsPlainEntry f n) same (record { condition = read; kind = plain })

pub short_none : (f : Frame) (n : ℕ) (es : List Entry) → es ≡ [] → AreShortEntries f n es
short_none f n es is = record {
  few = omega (arith, ap length is);
  each = λ j e at. absurd (none_at es j e is at);
}

pub twice : (a b c : Diagrams) → Extends a b → Extends b c → Extends a c
twice a b c p q = extends_trans a b c p q
