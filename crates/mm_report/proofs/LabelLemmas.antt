-- Lines of answers, part by part; and lines of labels, one more at a time.
use Rattle.std.proofs.{Common.{arith, ◌≡◌, ℕ, ◌+◌, ◌<◌, List, [], ◌++◌, length, map, take, drop, get_or, append_assoc, codes, decimal, unwrap_or}, lemmas.Grind.{common_steps, flat_map-append}}
use Rattle.std.proofs.lemmas.List.{append-nil, length-map, map-append, take_more, take-append-drop}
use Rattle.mm_keep.specs.{mm_text.{declared.fault.TextFault.{TextFault}, Language.{Place.{line_at, column_at}, Asked.{Asked}}}, mm_store.declared.edit.EditError.{EditError}}
use Rattle.mm_keep.specs.mm_frame.Language.Base.{BaseView, said_at}
use Rattle.mm_report.specs.{Code.Answered.{label_lines, text_brought}, Language.Answers.{batch_refusal_line, numbers_listed, refusal_line, refusal_words, text_code}}
use Rattle.mm_keep.specs.mm_store.declared.edit.EditError.TheVariants as refusals

-- ---- part by part

-- the place and the number of a fault of a text
pub fault_words : (text : List ℕ) (fault : TextFault) → refusal_words text (refusals.Text fault)
    ≡ (codes "S03 " ++ decimal (line_at text fault.at)) ++ ((codes ":" ++ decimal (column_at text fault.at)) ++ (codes " " ++ text_code fault.number))
fault_words text fault = simp append_assoc

-- the line of a refused edit
pub refusal_parts : (edit : Asked) (error : EditError) → refusal_line edit error ≡ codes "refused " ++ (refusal_words (text_brought edit) error ++ codes "\n")
refusal_parts edit error = simp append_assoc

-- that of a refused batch
pub batch_refusal_parts : (n : ℕ) (edit : Asked) (error : EditError)
    → batch_refusal_line n edit error ≡ (codes "refused " ++ decimal n) ++ (codes " " ++ (refusal_words (text_brought edit) error ++ codes "\n"))
batch_refusal_parts n edit error = simp append_assoc

-- labels that are listed
pub listed_parts : (word : List ℕ) (base : BaseView) (numbers : List ℕ)
    → numbers_listed word base numbers ≡ (word ++ codes " ") ++ (decimal (length numbers) ++ (codes "\n" ++ label_lines (map (said_at base) numbers)))
listed_parts word base numbers = grind (arith, common_steps, length-map) steps 200000

-- ---- lines of labels

-- the lines of the labels of items with these numbers
abbrev pub lines_of : BaseView → List ℕ → List ℕ
lines_of base numbers = label_lines (map (said_at base) numbers)

abbrev pub line_at_number : BaseView → ℕ → List ℕ
line_at_number base n = unwrap_or (said_at base n).label [] ++ codes "\n"

lines_join : (base : BaseView) (xs ys : List ℕ) → lines_of base (xs ++ ys) ≡ lines_of base xs ++ lines_of base ys
lines_join base xs ys = grind (arith, common_steps, map-append (said_at base) xs ys, flat_map-append) steps 200000

-- one more item has its line after the others'
pub lines_more : (base : BaseView) (numbers : List ℕ) (k : ℕ) → k < length numbers
    → lines_of base (take (k + 1) numbers) ≡ lines_of base (take k numbers) ++ line_at_number base (get_or numbers k 0)
lines_more base numbers k within = grind (arith, common_steps, append-nil, lines_join, take_more) steps 200000

-- the lines of all, of which this is one
pub lines_around : (base : BaseView) (numbers : List ℕ) (k : ℕ) → k < length numbers
    → lines_of base numbers ≡ lines_of base (take k numbers) ++ (line_at_number base (get_or numbers k 0) ++ lines_of base (drop (k + 1) numbers))
lines_around base numbers k within =
    grind (arith, common_steps, take-append-drop (k + 1) numbers, lines_join base (take (k + 1) numbers) (drop (k + 1) numbers), lines_more base numbers k within) steps 200000
