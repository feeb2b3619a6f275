-- Records that are written and then read.
use Rattle.std.proofs.Common.{◌≡◌, ◌<◌, ℕ, Bool, cond, List, [], ◌∷◌, ◌++◌, length, refl, ap, ◌∙◌, arith}
use Rattle.std.specs.Prelude.{⊤, ◌==◌}
use Rattle.csv.specs.declared.parser.State.TheVariants as st
use Rattle.csv.specs.Reading.{strip_bom}
use Rattle.csv.specs.Writing.{default_writer, row_text, read_back, escaped, field_text, fields_text, is_blank, needs_quotes, by_style}
use Rattle.csv.specs.declared.writer.QuoteStyle.TheVariants as style
use Rattle.rv_invfile.specs.{Writes.any_width, Writes.wide, Rules.Fields, Csv.records_of, Csv.left}
use Rattle.csv.proofs.RoundTrip.{read-write, rows_text}
use Rattle.rv_invfile.proofs.Left.{left-some, none-left}

-- each record has a field
abbrev pub HaveFields : List Fields → Type 0
HaveFields [] = ⊤
HaveFields (r ∷ rs) = (0 < length r) × HaveFields rs

back-same : (r : Fields) → 0 < length r → read_back r ≡ r
back-same [] h = absurd (omega arith)
back-same (x ∷ r) h = refl

left-rows : (rows : List Fields) → HaveFields rows → left st.StartRecord (rows_text rows) ≡ rows
unfolding rows_text
left-rows [] h = none-left 1
left-rows (r ∷ rows) h =
    left-some st.StartRecord (row_text default_writer r ++ rows_text rows) (read_back r, st.StartRecord, rows_text rows) (read-write r (rows_text rows))
    ∙ ap (λ x. x ∷ left st.StartRecord (rows_text rows)) (back-same r h.0) ∙ ap (λ l. r ∷ l) (left-rows rows h.1)

-- What the default writer writes of records with fields reads as them, where the text does not begin as a byte order mark.
pub written-read : (rows : List Fields) → HaveFields rows → strip_bom (rows_text rows) ≡ rows_text rows → records_of (rows_text rows) ≡ rows
written-read rows h b = ap (λ t. left st.StartRecord t) b ∙ left-rows rows h

-- ---- How many fields a record may have changes nothing of its text.
wide-escaped : (text : List ℕ) → escaped any_width text ≡ escaped default_writer text
unfolding escaped
wide-escaped [] = refl
wide-escaped (b ∷ bs) = ap (λ l. cond (b == 34) (34 ∷ b ∷ l) (b ∷ l)) (wide-escaped bs) ∙ after-mark (b == 34) b (escaped default_writer bs)
  where
    after-mark : (c : Bool) (b : ℕ) (l : List ℕ) → cond c (34 ∷ b ∷ l) (b ∷ l) ≡ cond c (34 ∷ b ∷ l) (b ∷ l)
    after-mark c b l = refl

wide-field : (f : List ℕ) → field_text any_width f ≡ field_text default_writer f
wide-field f = ap (λ l. cond (by_style style.Necessary (needs_quotes default_writer f)) (34 ∷ (l ++ (34 ∷ []))) f) (wide-escaped f)

wide-fields : (fs : List (List ℕ)) → fields_text any_width fs ≡ fields_text default_writer fs
unfolding fields_text
wide-fields [] = refl
wide-fields (f ∷ fs) = ap (λ l. 44 ∷ (l ++ fields_text any_width fs)) (wide-field f) ∙ ap (λ l. 44 ∷ (field_text default_writer f ++ l)) (wide-fields fs)

wide-blank : (r : Fields) → is_blank any_width r ≡ is_blank default_writer r
unfolding is_blank
wide-blank (f ∷ []) = ap (λ l. length l == 0) (wide-field f)
wide-blank _ = refl

wide-row : (r : Fields) → row_text any_width r ≡ row_text default_writer r
wide-row [] = ap (λ b. cond b (34 ∷ 34 ∷ []) [] ++ (10 ∷ [])) (wide-blank [])
wide-row (f ∷ fs) =
    ap (λ l. (l ++ fields_text any_width fs) ++ (cond (is_blank any_width (f ∷ fs)) (34 ∷ 34 ∷ []) [] ++ (10 ∷ []))) (wide-field f)
    ∙ ap (λ l. (field_text default_writer f ++ l) ++ (cond (is_blank any_width (f ∷ fs)) (34 ∷ 34 ∷ []) [] ++ (10 ∷ []))) (wide-fields fs)
    ∙ ap (λ b. (field_text default_writer f ++ fields_text default_writer fs) ++ (cond b (34 ∷ 34 ∷ []) [] ++ (10 ∷ []))) (wide-blank (f ∷ fs))

pub wide-rows : (rows : List Fields) → wide rows ≡ rows_text rows
unfolding wide rows_text
wide-rows [] = refl
wide-rows (r ∷ rows) = ap (λ l. l ++ wide rows) (wide-row r) ∙ ap (λ l. row_text default_writer r ++ l) (wide-rows rows)
