-- The replies of a command that was cut off, or that is not on a file.
use Rattle.std.proofs.Common.{◌≡◌, ℕ, ◌+◌, ◌≤◌, ◌<◌, ◌⊎◌, inl, inr, List, length, Option, Some, None, refl, sym, ◌∙◌, ap, subst, arith, IsSomeAnd}
use Rattle.rv_base.specs.{Shelf.Shelf, Shelf.HoldsUnder, Limits.source_limit}
use Rattle.rv_make.specs.Made.{made_text}
use Rattle.rv_proofs.specs.declared.certificate.Certificate.{Certificate}
use Rattle.std.specs.Prelude.{codes}
use Rattle.rv_meaning.specs.Runs.{IsSafe}
use Rattle.rv_words.specs.Asked.{make, tour}
use Rattle.rv_run.specs.Answers.{OnFile, OnSource, IsNodesReport, IsTold, IsTouredReport, IsVerdict, Tells}
use Rattle.rv_run.specs.Programs.{HasManyVariables, IsCertified, LacksProbe, OnProgram, WithRuns}
use Rattle.rv_run.specs.declared.report.Report.TheVariants.{Safe, Violated, Unknown, Nodes, Accepted, Made, Toured, Refused, TooLong, ReadFault, Usage, Memory}
use Rattle.rv_run.specs.{Words.Wanted, Words.usual_nodes, Words.wanted_of, Checked.IsDocumentAnswer, Replies.Replies, declared.report.Report.Report}
use Rattle.rv_run.proofs.{Named.told_under, Reported.cut_memory, Reported.cut_read_fault}

-- Where the files do not tell what they hold it is free: so a bound on what is held is one on what they tell.
told_long : (held : Option Shelf) (name bytes : List ℕ) (limit : ℕ) → HoldsUnder held name (λ found. limit < length found) → Tells held name bytes
    → limit < length bytes
told_long held name bytes limit = told_under held name bytes (λ found. limit < length found)

none_some : {X : Type 0} (x : X) → (o : Option X) → o ≡ None → o ≡ Some x → ⊥
none_some x o none some = different x (sym some ∙ none)
  where
    different : {X : Type 0} (x : X) → Some x ≡ None → ⊥
    different x e = cc

-- no report that says something of a source, a document or the words
abbrev IsCut : Report → Type 0
IsCut ReadFault = Unit {0}
IsCut Memory = Unit {0}
IsCut report = ⊥

cut-not_document : (x : Report) → IsCut x → IsDocumentAnswer x → ⊥
cut-not_document ReadFault is answer = answer
cut-not_document Memory is answer = answer
cut-not_document x is answer = is

cut-not_verdict : (r : Report) → IsCut r → IsVerdict r → ⊥
cut-not_verdict r is (inl (c, h)) = let bad : IsCut (Safe c) = subst IsCut h is in bad
cut-not_verdict r is (inr (inl (t, h))) = let bad : IsCut (Violated t) = subst IsCut h is in bad
cut-not_verdict r is (inr (inr (l, h))) = let bad : IsCut (Unknown l) = subst IsCut h is in bad

cut-not_nodes : (r : Report) → IsCut r → IsNodesReport r → ⊥
cut-not_nodes r is (n, h) = let bad : IsCut (Nodes n) = subst IsCut h is in bad

module _ (held : Option Shelf) (w : Wanted) (document : List ℕ) where
  -- there was no memory
  pub memory_replies : Replies held w Memory document
  memory_replies = record {
    safe = λ c h. absurd (let bad : IsCut (Safe c) = subst IsCut h tt in bad);
    certified = λ c h. absurd (let bad : IsCut (Safe c) = subst IsCut h tt in bad);
    invariant = λ c h. absurd (let bad : IsCut (Safe c) = subst IsCut h tt in bad);
    plain = λ c h asked. absurd (let bad : IsCut (Safe c) = subst IsCut h tt in bad);
    violated = λ t h. absurd (let bad : IsCut (Violated t) = subst IsCut h tt in bad);
    document_of = λ t h. absurd (let bad : IsCut (Violated t) = subst IsCut h tt in bad);
    unknown = λ l h. absurd (let bad : IsCut (Unknown l) = subst IsCut h tt in bad);
    left = λ l h. absurd (let bad : IsCut (Unknown l) = subst IsCut h tt in bad);
    nodes = λ n h. absurd (let bad : IsCut (Nodes n) = subst IsCut h tt in bad);
    unprobed = λ alone n h. absurd (let bad : IsCut (Nodes n) = subst IsCut h tt in bad);
    checked_safe = λ h. absurd (let bad : IsCut Accepted = subst IsCut h tt in bad);
    not_too_long = λ h. absurd (elim h [
      | inl verdict ↦ cut-not_verdict Memory tt verdict
      | inr nodes ↦ cut-not_nodes Memory tt nodes
    ]);
    proved = λ verdict. absurd (cut-not_verdict Memory tt verdict);
    told = λ x answer h. absurd (cut-not_document x (subst IsCut h tt) answer);
    refused = λ fault h. absurd (let bad : IsCut (Refused fault) = subst IsCut h tt in bad);
    too_long = λ n h. absurd (let bad : IsCut (TooLong n) = subst IsCut h tt in bad);
    made = λ source h. absurd (let bad : IsCut (Made source) = subst IsCut h tt in bad);
    toured = λ n size c h. absurd (let bad : IsCut (Toured n size c) = subst IsCut h tt in bad);
    only_safe = λ alone told. inr (inr (inr refl));
    only_violated = λ alone told. inr (inr (inr refl));
    only_probed = λ alone told. inr (inr refl);
    only_claimed = λ alone told. inr (inr (inr refl));
    only_judged = λ alone told. inr (inr (inr refl));
    only_told = λ task x told. cut_memory task x Memory refl;
    only_refused = λ fault told. inr (inr refl);
    only_too_long = λ told. inr (inr refl);
    only_long_document = λ task told. inr (inr refl);
    only_made = λ n is. inr refl;
    only_toured = λ n is. inr (inr refl);
  }

  -- a file could not be read, where the words name one
  pub fault_replies : w.made ≡ None → w.toured ≡ None → Replies held w ReadFault document
  fault_replies unmade untoured = record {
    safe = λ c h. absurd (let bad : IsCut (Safe c) = subst IsCut h tt in bad);
    certified = λ c h. absurd (let bad : IsCut (Safe c) = subst IsCut h tt in bad);
    invariant = λ c h. absurd (let bad : IsCut (Safe c) = subst IsCut h tt in bad);
    plain = λ c h asked. absurd (let bad : IsCut (Safe c) = subst IsCut h tt in bad);
    violated = λ t h. absurd (let bad : IsCut (Violated t) = subst IsCut h tt in bad);
    document_of = λ t h. absurd (let bad : IsCut (Violated t) = subst IsCut h tt in bad);
    unknown = λ l h. absurd (let bad : IsCut (Unknown l) = subst IsCut h tt in bad);
    left = λ l h. absurd (let bad : IsCut (Unknown l) = subst IsCut h tt in bad);
    nodes = λ n h. absurd (let bad : IsCut (Nodes n) = subst IsCut h tt in bad);
    unprobed = λ alone n h. absurd (let bad : IsCut (Nodes n) = subst IsCut h tt in bad);
    checked_safe = λ h. absurd (let bad : IsCut Accepted = subst IsCut h tt in bad);
    not_too_long = λ h. absurd (elim h [
      | inl verdict ↦ cut-not_verdict ReadFault tt verdict
      | inr nodes ↦ cut-not_nodes ReadFault tt nodes
    ]);
    proved = λ verdict. absurd (cut-not_verdict ReadFault tt verdict);
    told = λ x answer h. absurd (cut-not_document x (subst IsCut h tt) answer);
    refused = λ fault h. absurd (let bad : IsCut (Refused fault) = subst IsCut h tt in bad);
    too_long = λ n h. absurd (let bad : IsCut (TooLong n) = subst IsCut h tt in bad);
    made = λ source h. absurd (let bad : IsCut (Made source) = subst IsCut h tt in bad);
    toured = λ n size c h. absurd (let bad : IsCut (Toured n size c) = subst IsCut h tt in bad);
    only_safe = λ alone told. inr (inr (inl refl));
    only_violated = λ alone told. inr (inr (inl refl));
    only_probed = λ alone told. inr (inl refl);
    only_claimed = λ alone told. inr (inr (inl refl));
    only_judged = λ alone told. inr (inr (inl refl));
    only_told = λ task x told. cut_read_fault task x;
    only_refused = λ fault told. inr (inl refl);
    only_too_long = λ told. inr (inl refl);
    only_long_document = λ task told. inr (inl refl);
    only_made = λ n is. absurd (none_some n w.made unmade is);
    only_toured = λ n is. absurd (none_some n w.toured untoured is);
  }

-- The source is longer than it may be.
abbrev IsLong : Report → Type 0
IsLong (TooLong n) = Unit {0}
IsLong report = ⊥

long-not_document : (x : Report) → IsLong x → IsDocumentAnswer x → ⊥
long-not_document (TooLong n) is answer = answer
long-not_document x is answer = is

long-not_verdict : (r : Report) → IsLong r → IsVerdict r → ⊥
long-not_verdict r is (inl (c, h)) = let bad : IsLong (Safe c) = subst IsLong h is in bad
long-not_verdict r is (inr (inl (t, h))) = let bad : IsLong (Violated t) = subst IsLong h is in bad
long-not_verdict r is (inr (inr (l, h))) = let bad : IsLong (Unknown l) = subst IsLong h is in bad

long-not_nodes : (r : Report) → IsLong r → IsNodesReport r → ⊥
long-not_nodes r is (n, h) = let bad : IsLong (Nodes n) = subst IsLong h is in bad

same_count : (m n : ℕ) → TooLong m ≡ TooLong n → m ≡ n
same_count m n e = cc

module _ (held : Option Shelf) (w : Wanted) (named : List ℕ × List ℕ) (document : List ℕ) (is : w.named ≡ Some named)
    (long : HoldsUnder held named.0 (λ bytes. source_limit < length bytes)) (unmade : w.made ≡ None) (untoured : w.toured ≡ None) where
  -- what the files tell under the name is long
  told_is_long : (file node bytes : List ℕ) → w.named ≡ Some (file, node) → Tells held file bytes → source_limit < length bytes
  told_is_long file node bytes told =
      let pair : named ≡ (file, node) = same named (file, node) (sym is ∙ told) in
      told_long held file bytes source_limit (subst (λ (n : List ℕ × List ℕ). HoldsUnder held n.0 (λ found. source_limit < length found)) pair long)
    where
      same : (a b : List ℕ × List ℕ) → Some a ≡ Some b → a ≡ b
      same a b e = cc

  too_much : {P : List ℕ → List ℕ → Type 0} → IsTold held w (λ bytes node. (length bytes ≤ source_limit) × P bytes node) → ⊥
  too_much told =
      let over = told_is_long told.file told.node told.bytes told.named told.told in
      let fits = told.holds.0 in
      omega (arith, over, fits)

  pub long_replies : Replies held w (TooLong (source_limit + 1)) document
  long_replies = record {
    safe = λ c h. absurd (let bad : IsLong (Safe c) = subst IsLong h tt in bad);
    certified = λ c h. absurd (let bad : IsLong (Safe c) = subst IsLong h tt in bad);
    invariant = λ c h. absurd (let bad : IsLong (Safe c) = subst IsLong h tt in bad);
    plain = λ c h asked. absurd (let bad : IsLong (Safe c) = subst IsLong h tt in bad);
    violated = λ t h. absurd (let bad : IsLong (Violated t) = subst IsLong h tt in bad);
    document_of = λ t h. absurd (let bad : IsLong (Violated t) = subst IsLong h tt in bad);
    unknown = λ l h. absurd (let bad : IsLong (Unknown l) = subst IsLong h tt in bad);
    left = λ l h. absurd (let bad : IsLong (Unknown l) = subst IsLong h tt in bad);
    nodes = λ n h. absurd (let bad : IsLong (Nodes n) = subst IsLong h tt in bad);
    unprobed = λ alone n h. absurd (let bad : IsLong (Nodes n) = subst IsLong h tt in bad);
    checked_safe = λ h. absurd (let bad : IsLong Accepted = subst IsLong h tt in bad);
    not_too_long = λ h. absurd (elim h [
      | inl verdict ↦ long-not_verdict (TooLong (source_limit + 1)) tt verdict
      | inr nodes ↦ long-not_nodes (TooLong (source_limit + 1)) tt nodes
    ]);
    proved = λ verdict. absurd (long-not_verdict (TooLong (source_limit + 1)) tt verdict);
    told = λ x answer h. absurd (long-not_document x (subst IsLong h tt) answer);
    refused = λ fault h. absurd (let bad : IsLong (Refused fault) = subst IsLong h tt in bad);
    too_long = λ n h. inl (sym (same_count (source_limit + 1) n h), on_file);
    made = λ source h. absurd (let bad : IsLong (Made source) = subst IsLong h tt in bad);
    toured = λ n size c h. absurd (let bad : IsLong (Toured n size c) = subst IsLong h tt in bad);
    only_safe = λ alone told. absurd (too_much told);
    only_violated = λ alone told. absurd (too_much told);
    only_probed = λ alone told. absurd (too_much told);
    only_claimed = λ alone told. absurd (too_much told);
    only_judged = λ alone told. absurd (too_much told);
    only_told = λ task x told. absurd (
        let over = told_is_long told.file told.node told.bytes told.named told.told in
        let fits = told.holds.0 in
        omega (arith, over, fits));
    only_refused = λ fault told. absurd (too_much told);
    only_too_long = λ told. inl refl;
    only_long_document = λ task told. absurd (
        let over = told_is_long told.file told.node told.bytes told.named told.told in
        let fits = told.holds.0 in
        omega (arith, over, fits));
    only_made = λ n e. absurd (none_some n w.made unmade e);
    only_toured = λ n e. absurd (none_some n w.toured untoured e);
  }
    where
      on_file : OnFile held w (λ bytes node. source_limit < length bytes)
      on_file = subst (λ (o : Option (List ℕ × List ℕ)). IsSomeAnd o (λ n. HoldsUnder held n.0 (λ bytes. source_limit < length bytes))) (sym is) long

-- ---- Reports on what is not in a file.
abbrev pub IsOffFile : Report → Type 0
IsOffFile (Made source) = Unit {0}
IsOffFile (Toured n size c) = Unit {0}
IsOffFile (Nodes n) = Unit {0}
IsOffFile Usage = Unit {0}
IsOffFile Memory = Unit {0}
IsOffFile report = ⊥

off-not_document : (x : Report) → IsOffFile x → IsDocumentAnswer x → ⊥
off-not_document (Made source) off answer = answer
off-not_document (Toured n size c) off answer = answer
off-not_document (Nodes n) off answer = answer
off-not_document Usage off answer = answer
off-not_document Memory off answer = answer
off-not_document x off answer = off

off-not_verdict : (r : Report) → IsOffFile r → IsVerdict r → ⊥
off-not_verdict r off (inl (c, h)) = let bad : IsOffFile (Safe c) = subst IsOffFile h off in bad
off-not_verdict r off (inr (inl (t, h))) = let bad : IsOffFile (Violated t) = subst IsOffFile h off in bad
off-not_verdict r off (inr (inr (l, h))) = let bad : IsOffFile (Unknown l) = subst IsOffFile h off in bad

module _ (held : Option Shelf) (w : Wanted) (document : List ℕ) (none : w.named ≡ None) (r : Report) (off : IsOffFile r)
    (nodes : (n : ℕ) → r ≡ Nodes n → (n ≡ w.nodes) × OnSource held w (OnProgram (HasManyVariables n)))
    (unprobed : (n : ℕ) → r ≡ Nodes n → OnSource held w (OnProgram LacksProbe))
    (short : IsNodesReport r → OnSource held w (λ bytes node. length bytes ≤ source_limit))
    (made : (source : List ℕ) → r ≡ Made source → (n : ℕ) × (w.made ≡ Some n) × (source ≡ made_text n))
    (toured : (n size : ℕ) (c : Certificate) → r ≡ Toured n size c
    → (w.toured ≡ Some n) × (size ≡ length (made_text n)) × OnProgram (WithRuns IsSafe) (made_text n) (codes "main") × OnProgram (IsCertified c) (made_text n)
    (codes "main"))
    (only_made : (n : ℕ) → w.made ≡ Some n → (r ≡ Made (made_text n)) ⊎ (r ≡ Memory))
    (only_toured : (n : ℕ) → w.toured ≡ Some n → IsTouredReport r ⊎ (IsNodesReport r ⊎ (r ≡ Memory))) where
  pub off_file : Replies held w r document
  off_file = record {
    safe = λ c h. absurd (let bad : IsOffFile (Safe c) = subst IsOffFile h off in bad);
    certified = λ c h. absurd (let bad : IsOffFile (Safe c) = subst IsOffFile h off in bad);
    invariant = λ c h. absurd (let bad : IsOffFile (Safe c) = subst IsOffFile h off in bad);
    plain = λ c h asked. absurd (let bad : IsOffFile (Safe c) = subst IsOffFile h off in bad);
    violated = λ t h. absurd (let bad : IsOffFile (Violated t) = subst IsOffFile h off in bad);
    document_of = λ t h. absurd (let bad : IsOffFile (Violated t) = subst IsOffFile h off in bad);
    unknown = λ l h. absurd (let bad : IsOffFile (Unknown l) = subst IsOffFile h off in bad);
    left = λ l h. absurd (let bad : IsOffFile (Unknown l) = subst IsOffFile h off in bad);
    nodes = nodes;
    unprobed = λ alone. unprobed;
    checked_safe = λ h. absurd (let bad : IsOffFile Accepted = subst IsOffFile h off in bad);
    not_too_long = λ h. elim h [
      | inl verdict ↦ absurd (off-not_verdict r off verdict)
      | inr many ↦ short many
    ];
    proved = λ verdict. absurd (off-not_verdict r off verdict);
    told = λ x answer h. absurd (off-not_document x (subst IsOffFile h off) answer);
    refused = λ fault h. absurd (let bad : IsOffFile (Refused fault) = subst IsOffFile h off in bad);
    too_long = λ n h. absurd (let bad : IsOffFile (TooLong n) = subst IsOffFile h off in bad);
    made = made;
    toured = toured;
    only_safe = λ alone told. absurd (none_some (told.file, told.node) w.named none told.named);
    only_violated = λ alone told. absurd (none_some (told.file, told.node) w.named none told.named);
    only_probed = λ alone told. absurd (none_some (told.file, told.node) w.named none told.named);
    only_claimed = λ alone told. absurd (none_some (told.file, told.node) w.named none told.named);
    only_judged = λ alone told. absurd (none_some (told.file, told.node) w.named none told.named);
    only_told = λ task x told. absurd (none_some (told.file, told.node) w.named none told.named);
    only_refused = λ fault told. absurd (none_some (told.file, told.node) w.named none told.named);
    only_too_long = λ told. absurd (none_some (told.file, told.node) w.named none told.named);
    only_long_document = λ task told. absurd (none_some (told.file, told.node) w.named none told.named);
    only_made = only_made;
    only_toured = only_toured;
  }

-- ---- The words that ask for a source that is made.
inner_text : (s t : List ℕ) → Made s ≡ Made t → s ≡ t
inner_text s t e = cc

same_number : (m n : ℕ) → (let o : Option ℕ = Some m in o) ≡ Some n → m ≡ n
same_number m n e = cc

-- the text is shown
pub make_replies : (held : Option Shelf) (document : List ℕ) (n : ℕ) (r : Report) → (r ≡ Made (made_text n)) ⊎ (r ≡ Memory)
    → Replies held (wanted_of (Some (make n))) r document
make_replies held document n r (inr none) = subst (λ (x : Report). Replies held (wanted_of (Some (make n))) x document) (sym none)
    (memory_replies held (wanted_of (Some (make n))) document)
make_replies held document n r (inl made) = subst (λ (x : Report). Replies held (wanted_of (Some (make n))) x document) (sym made)
    (off_file held (wanted_of (Some (make n))) document refl (Made (made_text n)) tt
    (λ k h. absurd (let bad : ⊥ = cc in bad)) (λ k h. absurd (let bad : ⊥ = cc in bad)) (λ many. absurd (made-not_nodes many))
    (λ source h. (n, refl, sym (inner_text (made_text n) source h))) (λ m size c h. absurd (let bad : ⊥ = cc in bad))
    (λ m is. inl (ap (λ (k : ℕ). Made (made_text k)) (same_number n m is))) (λ m is. absurd (let bad : ⊥ = cc in bad)))
  where
    made-not_nodes : IsNodesReport (Made (made_text n)) → ⊥
    made-not_nodes (k, h) = cc

-- it is proved
module _ (held : Option Shelf) (document : List ℕ) (n : ℕ) (short : length (made_text n) ≤ source_limit) (r : Report)
    (toured : (count size : ℕ) (c : Certificate) → r ≡ Toured count size c → (count ≡ n) × (size ≡ length (made_text n)))
    (safe : (count size : ℕ) (c : Certificate) → r ≡ Toured count size c → OnProgram (WithRuns IsSafe) (made_text n) (codes "main"))
    (certified : (count size : ℕ) (c : Certificate) → r ≡ Toured count size c → OnProgram (IsCertified c) (made_text n) (codes "main"))
    (nodes : (k : ℕ) → r ≡ Nodes k → (k ≡ usual_nodes) × OnProgram (HasManyVariables k) (made_text n) (codes "main"))
    (unprobed : (k : ℕ) → r ≡ Nodes k → OnProgram LacksProbe (made_text n) (codes "main"))
    (only : IsTouredReport r ⊎ (IsNodesReport r ⊎ (r ≡ Memory))) where
  off : IsOffFile r
  off = elim only [
    | inl (count, size, c, is) ↦ subst IsOffFile (sym is) tt
    | inr (inl (k, is)) ↦ subst IsOffFile (sym is) tt
    | inr (inr is) ↦ subst IsOffFile (sym is) tt
  ]

  pub tour_replies : Replies held (wanted_of (Some (tour n))) r document
  tour_replies = off_file held (wanted_of (Some (tour n))) document refl r off
      (λ k h. let two = nodes k h in (two.0, inr two.1)) (λ k h. inr (unprobed k h)) (λ many. inr short)
      (λ source h. absurd (let bad : IsTouredReport (Made source) ⊎ (IsNodesReport (Made source) ⊎ (Made source ≡ Memory)) = subst
      (λ (x : Report). IsTouredReport x ⊎ (IsNodesReport x ⊎ (x ≡ Memory))) h only in
      made-not_toured source bad))
      (λ m size c h. let two = toured m size c h in (
        ap (λ (k : ℕ). Some k) (sym two.0),
        two.1 ∙ ap (λ (k : ℕ). length (made_text k)) (sym two.0),
        subst (λ (k : ℕ). OnProgram (WithRuns IsSafe) (made_text k) (codes "main")) (sym two.0) (safe m size c h),
        subst (λ (k : ℕ). OnProgram (IsCertified c) (made_text k) (codes "main")) (sym two.0) (certified m size c h),
      ))
      (λ m is. absurd (let bad : ⊥ = cc in bad)) (λ m is. only)
    where
      made-not_toured : (source : List ℕ) → IsTouredReport (Made source) ⊎ (IsNodesReport (Made source) ⊎ (Made source ≡ Memory)) → ⊥
      made-not_toured source (inl (count, size, c, e)) = cc
      made-not_toured source (inr (inl (k, e))) = cc
      made-not_toured source (inr (inr e)) = cc
