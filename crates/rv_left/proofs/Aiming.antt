-- Entries of a part, into each set that its allowed valuations lead into.
use Rattle.std.proofs.Common.{◌≡◌, inl, inr, ℕ, ◌+◌, ◌*◌, ◌<◌, Bool, true, false, ◌&&◌, List, [], ◌∷◌, ◌++◌, length, slice_get, refl, sym, ap, ◌∙◌, subst}
use Rattle.std.proofs.Common.{⊎_elim, arith}
use Rattle.std.proofs.lemmas.Bool.{cases_lt, and_parts, and_from}
use Rattle.std.proofs.lemmas.Option.{none-some}
use Rattle.std.proofs.lemmas.List.{length-append, get_or_append_left, get_or_push}
use Rattle.rv_base.proofs.Lists.{push_got, get_push}
use Rattle.rv_diagram.specs.Nodes.{Valuation, Diagrams, Answers, IsRef, IsOrderedOver, value_of}
use Rattle.rv_diagram.specs.{Several.ref_at, Several.replaced, Several.UsesNeeded, Growing.Extends, declared.frozen.Frozen.Frozen}
use Rattle.rv_diagram.proofs.Growing.{extends_trans, grows_extends}
use Rattle.rv_proofs.specs.{Systems.System, Systems.HasSameState, Systems.IsSameValuation, Ranges.IsControlSet}
use Rattle.rv_proofs.specs.{declared.certificate.Entry.Entry, declared.certificate.Location.Location}
use Rattle.rv_symbolic.specs.{Represented.IsRelationOf, Stepped.AreNextStates, Linked.AreRefs}
use Rattle.rv_symbolic.specs.{declared.relation.Relation.Relation, declared.relation.NextStates.NextStates}
use Rattle.rv_symbolic.proofs.Reading.{control-value, control_set, condition_set, valuation_state}
use Rattle.rv_symbolic.proofs.Parting.{kept-append}
use Rattle.rv_split.specs.Partitions.{part_at}
use Rattle.rv_walk.specs.Ends.{has}
use Rattle.rv_left.specs.{declared.entering.Source.Source, Meeting.AreApart, Becoming.AreBecoming, Becoming.IsConditionOf}
use Rattle.rv_left.specs.Targets.{IsSourceOf, moved, IsTarget, HasTarget, AreTargets}
use Rattle.rv_left.specs.Entries.{AreThawn, AreThawnSets, IsLedInto, AreEntriesInto, IsLocationOf, AreLocations}

-- TARGETS

module _ (d : Diagrams) (o : Source) (refs : List ℕ) where
  pub targets_none : AreTargets d o refs 0 []
  targets_none = record {
    few = omega arith;
    each = λ i e here. absurd (none-some e here);
    all = λ j low. absurd (omega (arith, low));
  }

  module _ (n : ℕ) (entries : List Entry) (h : AreTargets d o refs n entries) where
    pub targets_apart : AreApart (value_of d.nodes o.image) (value_of d.nodes (ref_at refs n)) → AreTargets d o refs (n + 1) entries
    targets_apart apart = record {
      few = omega (arith, h.few);
      each = λ i e here. let t : (j : ℕ) × (j < n) × IsTarget d o refs j e = h.each i e here in (t.0, omega (arith, t.1), t.2);
      all = λ j low. ⊎_elim
          (λ less. h.all j less)
          (λ ge. let e : n ≡ j = omega (arith, ge, low) in
          inr (subst (λ (m : ℕ). AreApart (value_of d.nodes o.image) (value_of d.nodes (ref_at refs m))) e apart))
          (cases_lt j n);
    }

    pub targets_more : (e : Entry) → IsTarget d o refs n e → AreTargets d o refs (n + 1) (entries ++ e ∷ [])
    targets_more e is = record {
      few = omega (arith, h.few, length-append entries (e ∷ []));
      each = λ i x here. ⊎_elim
          (λ old. let t : (j : ℕ) × (j < n) × IsTarget d o refs j x = h.each i x old.1 in (t.0, omega (arith, t.1), t.2))
          (λ last. (n, omega arith, subst (IsTarget d o refs n) last.1 is))
          (push_got entries e x i here);
      all = λ j low. ⊎_elim
          (λ less. ⊎_elim (λ old. inl (longer j old)) (λ apart. inr apart) (h.all j less))
          (λ ge. let same : n ≡ j = omega (arith, ge, low) in
          inl (length entries, e, get_push entries e, subst (λ (m : ℕ). IsTarget d o refs m e) same is))
          (cases_lt j n);
    }
      where
        longer : (j : ℕ) → HasTarget d o refs entries j → HasTarget d o refs (entries ++ e ∷ []) j
        longer j (i, x, got, target) = (i, x, kept-append entries e x i got, target)

-- SOURCES

module _ (s : System) (d0 d2 d3 d4 : Diagrams) (r : Relation) (is : IsRelationOf s d0 r) (part : Frozen) (n : NextStates)
    (st : AreNextStates s part n) (whole : ℕ) (whole_found : IsRef d0.nodes whole) (whole_is : (v : Valuation) → value_of d0.nodes whole v ≡ has part v)
    (o : Source) (p : Answers d0 d2 (has n.set) o.image)
    (q : Answers d2 d3 (λ v. value_of d2.nodes r.parts.allowed v && value_of d2.nodes whole v) o.within)
    (b : AreBecoming d3 d4 r.parts.next o.within d3.variables o.by.items) where
  e02 : Extends d0 d2
  e02 = grows_extends d0 d2 p.grows

  e03 : Extends d0 d3
  e03 = extends_trans d0 d2 d3 e02 (grows_extends d2 d3 q.grows)

  e24 : Extends d2 d4
  e24 = extends_trans d2 d3 d4 (grows_extends d2 d3 q.grows) b.extends

  pub source_extends : Extends d0 d4
  source_extends = extends_trans d0 d3 d4 e03 b.extends

  within_is : (v : Valuation) → value_of d4.nodes o.within v ≡ (s.allowed v && has part v)
  within_is v = b.extends.kept o.within q.found v ∙ q.means v
      ∙ ap (λ x. x && value_of d2.nodes whole v) (e02.kept r.parts.allowed is.laid_out.refs.allowed v ∙ is.parts.allowed v)
      ∙ ap (λ x. s.allowed v && x) (e02.kept whole whole_found v ∙ whole_is v)

  image_is : (v : Valuation) → value_of d4.nodes o.image v ≡ has n.set v
  image_is v = e24.kept o.image p.found v ∙ p.means v

  next_is : (v : Valuation) → value_of d4.nodes o.within v ≡ true → HasSameState s (moved d4 o.by.items v) (s.next v)
  next_is v on x (i, low, at) =
      let there : i < length r.parts.next = omega (arith, low, is.parts.states) in
      let small : 2 * i < d3.variables = omega (arith, low, is.system.bits, is.parts.variables, e03.variables) in
      ap (moved d4 o.by.items v) at
      ∙ b.bits i small there v (sym (b.extends.kept o.within q.found v) ∙ on)
      ∙ e03.kept (ref_at r.parts.next i) (is.laid_out.refs.next i there) v
      ∙ is.parts.next i low v
      ∙ ap (s.next v) (sym at)

  pub source_made : IsSourceOf s d4 part o
  source_made = record {
    refs = record {
      image = (let found : IsRef d2.nodes o.image = p.found in omega (arith, found, e24.longer));
      within = (let found : IsRef d3.nodes o.within = q.found in omega (arith, found, b.extends.longer));
      by = record { all = omega (arith, b.size, b.extends.variables); refs = b.found };
    };
    image = λ v. (λ h. (st.exact v).0 (sym (image_is v) ∙ h), λ h. image_is v ∙ (st.exact v).1 h);
    within = within_is;
    next = next_is;
  }

-- ENTRIES

guarded : (a b c : Bool) → (a ≡ true → b ≡ c) → (a && b) ≡ (a && c)
guarded true b c h = h refl
guarded false b c h = refl

module _ (s : System) (d : Diagrams) (r : Relation) (is : IsRelationOf s d r) (part : Frozen) (control : IsControlSet s part) (sets : List Frozen)
    (refs : List ℕ) (thawn : AreThawnSets s d sets refs) (o : Source) (source : IsSourceOf s d part o) where
  module _ (j : ℕ) (low : j < length sets) where
    leads : (v : Valuation) → (value_of d.nodes o.within v && replaced d.nodes (ref_at refs j) o.by.items v)
        ≡ ((s.allowed v && has part v) && has (part_at sets j) (s.next v))
    leads v = guarded (value_of d.nodes o.within v) (replaced d.nodes (ref_at refs j) o.by.items v) (has (part_at sets j) (s.next v))
        (λ on. thawn.thawn.means j low (moved d o.by.items v)
        ∙ control-value s (part_at sets j) (moved d o.by.items v) (s.next v) (thawn.sets_control j low) (source.next v on))
        ∙ ap (λ b. b && has (part_at sets j) (s.next v)) (source.within v)

    leads_same : (v w : Valuation) → IsSameValuation s v w
        → ((s.allowed v && has part v) && has (part_at sets j) (s.next v)) ≡ ((s.allowed w && has part w) && has (part_at sets j) (s.next w))
    leads_same v w same =
        ap (λ b. (b && has part v) && has (part_at sets j) (s.next v)) (is.system.allowed v w same)
        ∙ ap (λ b. (s.allowed w && b) && has (part_at sets j) (s.next v)) (control-value s part v w control (valuation_state s v w is.system.bits same))
        ∙ ap (λ b. (s.allowed w && has part w) && b)
        (control-value s (part_at sets j) (s.next v) (s.next w) (thawn.sets_control j low) (is.system.next v w same))

    led_into : (f : Frozen) → IsConditionOf d o.within (ref_at refs j) o.by.items f → IsLedInto s part (part_at sets j) f
    led_into f c = record {
      given = condition_set s f (λ v. value_of d.nodes o.within v && replaced d.nodes (ref_at refs j) o.by.items v)
          (subst (λ (m : ℕ). IsOrderedOver m f) is.parts.variables c.ordered) c.needed
          (λ v w same. leads v ∙ leads_same v w same ∙ sym (leads w));
      exact = λ v. (
        λ h. let out : ((s.allowed v && has part v) ≡ true) × (has (part_at sets j) (s.next v) ≡ true) =
            and_parts (s.allowed v && has part v) (has (part_at sets j) (s.next v)) (sym (c.means v ∙ leads v) ∙ h) in
            let in_part : (s.allowed v ≡ true) × (has part v ≡ true) = and_parts (s.allowed v) (has part v) out.0 in
            (in_part.0, in_part.1, out.1),
        λ (a, b, x). c.means v ∙ leads v
            ∙ and_from (s.allowed v && has part v) (has (part_at sets j) (s.next v)) (and_from (s.allowed v) (has part v) a b) x,
      );
    }

  pub entries_made : (n : ℕ) (entries : List Entry) → n ≡ length sets → AreTargets d o refs n entries → AreEntriesInto s part sets entries
  entries_made n entries size t = record {
    few = omega (arith, t.few, size);
    each = λ i e here.
        let x : (j : ℕ) × (j < n) × IsTarget d o refs j e = t.each i e here in
        let low : x.0 < length sets = omega (arith, x.1, size) in
        (x.0, low, x.2.kind, led_into x.0 low e.condition x.2.condition);
    all = λ v allowed inside j low there. ⊎_elim
        (λ (i, e, got, target). (i, e, got, ((led_into j low e.condition target.condition).exact v).1 (allowed, inside, there)))
        (λ apart. absurd (apart (s.next v) ((source.image (s.next v)).1 (v, allowed, inside, λ x state. refl))
        (thawn.thawn.means j low (s.next v) ∙ there)))
        (t.all j (omega (arith, low, size)));
  }

-- SETS IN A STORE

pub thawn_none : (d : Diagrams) (sets : List Frozen) (refs : List ℕ) → refs ≡ [] → AreThawn d sets 0 refs
thawn_none d sets refs e = record {
  size = ap (λ (l : List ℕ). length l) e;
  found = λ k low. absurd (omega (arith, low));
  means = λ k low. absurd (omega (arith, low));
}

module _ (d e : Diagrams) (sets : List Frozen) (n : ℕ) (refs : List ℕ) (h : AreThawn d sets n refs) (grown : Extends d e) where
  pub thawn_kept : AreThawn e sets n refs
  thawn_kept = record {
    size = h.size;
    found = λ k low. let found : IsRef d.nodes (ref_at refs k) = h.found k low in omega (arith, found, grown.longer);
    means = λ k low v. grown.kept (ref_at refs k) (h.found k low) v ∙ h.means k low v;
  }

  module _ (r : ℕ) (found : IsRef e.nodes r) (means : (v : Valuation) → value_of e.nodes r v ≡ has (part_at sets n) v) where
    pub thawn_more : AreThawn e sets (n + 1) (refs ++ r ∷ [])
    thawn_more = record {
      size = omega (arith, length-append refs (r ∷ []), h.size);
      found = λ k low. ⊎_elim
          (λ less. subst (IsRef e.nodes) (sym (get_or_append_left refs (r ∷ []) 0 k (omega (arith, less, h.size)))) (thawn_kept.found k less))
          (λ ge. subst (IsRef e.nodes) (sym (get_or_push refs r 0 k (omega (arith, ge, low, h.size)))) found)
          (cases_lt k n);
      means = λ k low v. ⊎_elim
          (λ less. ap (λ (x : ℕ). value_of e.nodes x v) (get_or_append_left refs (r ∷ []) 0 k (omega (arith, less, h.size))) ∙ thawn_kept.means k less v)
          (λ ge. let one : n ≡ k = omega (arith, ge, low) in
          ap (λ (x : ℕ). value_of e.nodes x v) (get_or_push refs r 0 k (omega (arith, one, h.size))) ∙ means v
          ∙ ap (λ (x : ℕ). has (part_at sets x) v) one)
          (cases_lt k n);
    }

pub thawn_refs : (s : System) (d : Diagrams) (sets : List Frozen) (refs : List ℕ) → AreThawnSets s d sets refs → AreRefs d.nodes refs
thawn_refs s d sets refs h k low = h.thawn.found k (omega (arith, low, h.thawn.size))

pub thawn_sets_kept : (s : System) (d e : Diagrams) (sets : List Frozen) (refs : List ℕ) → AreThawnSets s d sets refs → Extends d e
    → AreThawnSets s e sets refs
thawn_sets_kept s d e sets refs h grown = record { sets_control = h.sets_control; thawn = thawn_kept d e sets (length sets) refs h.thawn grown }

-- LOCATIONS

pub part_control : (s : System) (d : Diagrams) (part f : Frozen) (whole : ℕ) → d.variables ≡ s.variables → IsControlSet s part
    → ((v : Valuation) → value_of d.nodes whole v ≡ has part v) → IsOrderedOver d.variables f → UsesNeeded f.nodes (value_of d.nodes whole) → IsControlSet s f
part_control s d part f whole variables control whole_is ordered needed = control_set s f (value_of d.nodes whole)
    (subst (λ (m : ℕ). IsOrderedOver m f) variables ordered) needed
    (λ v w same. whole_is v ∙ control-value s part v w control same ∙ sym (whole_is w))

pub locations_none : (s : System) (sets : List Frozen) (locations : List Location) → locations ≡ [] → AreLocations s sets 0 locations
locations_none s sets locations e = record {
  size = ap (λ (l : List Location). length l) e;
  each = λ k l here. absurd (none-some l (sym (ap (λ (x : List Location). slice_get x k) e) ∙ here));
}

pub locations_more : (s : System) (sets : List Frozen) (n : ℕ) (locations : List Location) (l : Location) → AreLocations s sets n locations
    → IsLocationOf s (part_at sets n) sets l → AreLocations s sets (n + 1) (locations ++ l ∷ [])
locations_more s sets n locations l h is = record {
  size = omega (arith, length-append locations (l ∷ []), h.size);
  each = λ k x here. ⊎_elim
      (λ old. h.each k x old.1)
      (λ last. subst (IsLocationOf s (part_at sets k) sets) last.1
      (subst (λ (m : ℕ). IsLocationOf s (part_at sets m) sets l) (let e : n ≡ k = omega (arith, last.0, h.size) in e) is))
      (push_got locations l x k here);
}
