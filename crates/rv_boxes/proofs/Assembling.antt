-- The certificate of a closed claim, put together from its parts.
use Rattle.std.proofs.Common.{◌≡◌, ℕ, ◌^◌, ◌<◌, true, false, List, [], ◌∷◌, length, Some, IsTrue, slice_get, arith, sym, ap, ◌∙◌, subst, ◌⊎◌, inl, inr}
use Rattle.std.proofs.{lemmas.Bool.cases_Bool, lemmas.Option.slice_get_within}
use Rattle.rv_diagram.specs.{Nodes.Valuation, declared.frozen.Frozen.Frozen}
use Rattle.rv_rows.specs.declared.linear.Row.{Row}
use Rattle.rv_proofs.specs.{Systems.System, Scopes.IsIn, Ranges.IsControlSet, Ranges.AreKept, Boxes.BoxClaim, Boxes.IsTaken, Boxes.IsGood, Cases.AreCases}
use Rattle.rv_proofs.specs.{Cases.IsInitialSet, declared.certificate.Certificate.Certificate, declared.certificate.Location.Location}
use Rattle.rv_proofs.specs.{declared.certificate.Entry.Entry, declared.report.Case.Case}
use Rattle.rv_walk.specs.Ends.{has}
use Rattle.rv_boxes.specs.{Built.AreBounds, Built.HasBounds, Built.IsBuiltEntry, Built.IsBuiltLocation, Built.IsBuilt, Rounds.IsSetting, Rounds.IsInCases}
use Rattle.rv_boxes.specs.{Certifying.IsJudgeable, Certifying.AreEntriesOf, Certifying.IsLocationOf, Certifying.IsPart, Certifying.IsCertifiable}
use Rattle.rv_boxes.specs.{declared.frame.Frame.Frame, declared.claim.Claim.Claim, declared.claim.Others.Others, Claiming.claim_of, Passing.IsProof}
use Rattle.rv_boxes.proofs.{Building.accepted, Building.plain, Rounding.setting_first, Rounding.setting_others, Rounding.in_a_case}
use Rattle.rv_walk.proofs.Stages.{rest_from}
use Rattle.rv_base.proofs.Lists.{item_at}

module _ (s : System) (c : BoxClaim) (from : Frozen) (rows wanted : List Row) (setting : IsSetting s c from rows) (cases : List Case)
    (are : AreCases s from cases)
    (few : length cases < 2 ^ 32) (es : List Entry) (entries : AreEntriesOf s c from rows wanted cases (length cases) es) (l : Location)
    (is : IsLocationOf from rows es l) where
  in_from : (v : Valuation) → IsIn l.control v → IsIn from v
  in_from v i = subst (λ (f : Frozen). IsIn f v) is.control i

  entry_there : (j : ℕ) → j < length cases → (e : Entry) × (slice_get es j ≡ Some e)
  entry_there j m = let size = entries.size in item_at es j (omega (arith, m, size))

  built_entry : (j : ℕ) (e : Entry) → slice_get l.entries j ≡ Some e → IsBuiltEntry s l wanted e
  built_entry j e at =
      let there : slice_get es j ≡ Some e = ap (λ (xs : List Entry). slice_get xs j) (sym is.entries) ∙ at in
      let size = entries.size in
      let (case, case_at) = item_at cases j (omega (arith, slice_get_within es j e there, size)) in
      let x = entries.each j case e case_at there in
      x.built l is.control is.state

  pub part_of : IsPart s c from rows wanted l
  part_of = record {
    control = is.control;
    entry = is.entry;
    built = record {
      control = subst (λ (f : Frozen). IsControlSet s f) (sym is.control) setting.control;
      kept = subst (AreKept s) (sym is.entry) setting.kept;
      few = let size = entries.size in omega (arith, few, size, ap length is.entries);
      state = is.state ∙ sym is.entry;
      first = is.first;
      around = is.around;
      by_first = is.by_first;
      count = is.count ∙ ap length (sym is.state);
      by_entry = λ n m. is.by_entry n (omega (arith, m, ap length is.state));
      claimed = record {
        reached = λ v i. let k = setting.claimed in k.reached v (in_from v i);
        bounds = λ v i on. let k = setting.claimed in subst (HasBounds s c) (sym is.state) (k.bounds v (in_from v i) on);
      };
      covered = λ v a i. covered v (are.covered v a (in_from v i));
      entries = built_entry;
    };
    good = λ v i t. good v t (are.covered v t.allowed i);
  }
    where
      covered : (v : Valuation) → (j : ℕ) × (x : Case) × (slice_get cases j ≡ Some x) × IsIn x.condition v → (j : ℕ) × (e : Entry)
          × (slice_get l.entries j ≡ Some e) × IsIn e.condition v
      covered v (j, x, at, on) =
          let (e, there) = entry_there j (slice_get_within cases j x at) in
          let r = entries.each j x e at there in
          (j, e, ap (λ (xs : List Entry). slice_get xs j) is.entries ∙ there, subst (λ (f : Frozen). IsIn f v) (sym r.condition) on)

      good : (v : Valuation) → IsTaken s c v → (j : ℕ) × (x : Case) × (slice_get cases j ≡ Some x) × IsIn x.condition v → IsTrue (s.observer v)
      good v t (j, x, at, on) =
          let (e, there) = entry_there j (slice_get_within cases j x at) in
          let r = entries.each j x e at there in
          r.good v on t

module _ (s : System) (f : Frame) (c : Claim) (first : Frozen) (from_first : List Case) (o : Others) (can : IsCertifiable s f c first from_first o) where
  initial_set : IsInitialSet s first
  initial_set = let st = can.start in st.initial

  pub first_setting : IsSetting s (claim_of c) first []
  first_setting = let l = can.least in setting_first s can.system f can.frame c l.kept first initial_set

  pub others_setting : IsSetting s (claim_of c) o.control o.given
  others_setting = let l = can.least in let os = can.others in setting_others s can.system f can.frame c l.kept first initial_set o.control o.given os.rest

  pub judgeable : IsJudgeable s f (claim_of c) o.given
  judgeable = let l = can.least in let m = l.least in let st = others_setting in record {
    system = can.system;
    frame = can.frame;
    closed = m.closed;
    bounds = st.bounds;
    kept = st.kept;
  }

  pub covered : (v : Valuation) → IsTaken s (claim_of c) v → IsInCases from_first (length from_first) v ⊎ IsInCases o.cases (length o.cases) v
  covered v t =
      let l = can.least in
      let st = can.start in
      let os = can.others in
      go (in_a_case s can.system f can.frame c l.kept first initial_set o.control o.given os.rest o.control o.cases os.cases (λ u i. i)
      from_first st.cases v t)
    where
      go : (IsInCases from_first (length from_first) v × IsIn first v) ⊎ (IsInCases o.cases (length o.cases) v × IsIn o.control v)
          → IsInCases from_first (length from_first) v ⊎ IsInCases o.cases (length o.cases) v
      go (inl (i, on)) = inl i
      go (inr (i, on)) = inr i

  module _ (initial rest : Location) (one : IsPart s (claim_of c) first [] o.given initial) (two : IsPart s (claim_of c) o.control o.given o.given rest) where
    pub good_claim : IsGood s (claim_of c)
    good_claim v t = go (cases_Bool (has first v))
      where
        go : (has first v ≡ true) ⊎ (has first v ≡ false) → IsTrue (s.observer v)
        go (inl i) = one.good v i t
        go (inr n) = let os = can.others in let r = os.rest in two.good v (r.exact v ∙ rest_from (has c.reached v) (has first v) t.reached n) t

    pub built_certificate : (x : Certificate) → x.locations ≡ initial ∷ rest ∷ [] → IsProof s x
    built_certificate x are = let l = can.least in let m = l.least in record {
      accepted = accepted s can.system (claim_of c) m.closed good_claim x built;
      plain = plain s can.system (claim_of c) m.closed good_claim x built;
    }
      where
        not_first : (v : Valuation) → ¬ IsTrue (s.initial v) → (has first v ≡ true) ⊎ (has first v ≡ false) → has first v ≡ false
        not_first v denied (inl i) = absurd (denied ((initial_set.exact v).0 i))
        not_first v denied (inr e) = e

        built : IsBuilt s (claim_of c) x
        built = record {
          initial = initial;
          rest = rest;
          locations = are;
          starts = λ v i. subst (λ (g : Frozen). IsIn g v) (sym one.control) ((initial_set.exact v).1 i);
          no_rows = one.entry;
          others = λ v r denied. let os = can.others in let rest_is = os.rest in
              subst (λ (g : Frozen). IsIn g v) (sym two.control) (rest_is.exact v ∙ rest_from (has c.reached v) (has first v) r
              (not_first v denied (cases_Bool (has first v))));
          bounds = let st = others_setting in subst (AreBounds s (claim_of c)) (sym two.entry) st.bounds;
          initial_is = subst (λ (rows : List Row). IsBuiltLocation s (claim_of c) rows initial) (sym two.entry) one.built;
          rest_is = subst (λ (rows : List Row). IsBuiltLocation s (claim_of c) rows rest) (sym two.entry) two.built;
        }
