-- The lines of a report, one more at a time, and each part by part.
use Rattle.std.proofs.{Common.{arith, ◌≡◌, ℕ, List, [], ◌∷◌, ◌++◌, length, sym, ◌∙◌, ap, append_assoc, append-nil, codes, decimal, slice_index_or}, lemmas.Grind.{common_steps}}
use Rattle.mm_keep.specs.{mm_statement.Language.Item.{Said}, mm_frame.declared.FrameNumber.{FrameNumber}, mm_machine.declared.ProofNumber.{ProofNumber}, declared.finding.At.{At}}
use Rattle.mm_keep.specs.{declared.tally.Tally.{Tally}, Language.{Findings.{counted}, Told.{Told}}}
use Rattle.mm_report.specs.Language.Report.{item_line, lines, place_in, fault_line, incomplete_line, wrong_line, code_of, proof_code, summary}

-- ---- lines

-- the lines of some items, and then those of more
pub lines_join : (names : List (List ℕ)) (items more : List Said) (all others : List Told) → length all ≡ length items → lines names (items ++ more) (all ++ others) ≡ lines names items all ++ lines names more others
lines_join names (x ∷ xs) more (y ∷ ys) others e = ap (λ bytes. item_line names x y ++ bytes) (lines_join names xs more ys others (cc)) ∙ sym (append_assoc (item_line names x y) (lines names xs ys) (lines names more others))
lines_join names items more all others e = grind (arith, common_steps) steps 200000

-- one more item has its line after the others'
pub lines_push : (names : List (List ℕ)) (items : List Said) (all : List Told) (item : Said) (one : Told) → length all ≡ length items → lines names (items ++ item ∷ []) (all ++ one ∷ []) ≡ lines names items all ++ item_line names item one
lines_push names items all item one e = lines_join names items (item ∷ []) all (one ∷ []) e ∙ ap (λ bytes. lines names items all ++ bytes) (append-nil (item_line names item one))

-- ---- the summary

-- what is counted, and how many there are
abbrev pub named_count : List ℕ → ℕ → List ℕ
named_count name number = name ++ decimal number

-- the summary as it is written, part by part
pub summary_parts : (tally : Tally) → summary (counted tally)
    ≡ named_count (codes "axioms ") tally.axioms
    ++ (named_count (codes " theorems ") tally.theorems
    ++ (named_count (codes " proved ") tally.proved
    ++ (named_count (codes " incomplete ") tally.incomplete
    ++ (named_count (codes " wrong ") tally.wrong
    ++ (named_count (codes " faults ") tally.faults ++ codes "\n")))))
summary_parts tally = simp append_assoc

-- ---- lines, part by part

-- a place as it is written
pub place_parts : (names : List (List ℕ)) (at : At) → place_in names at ≡ (slice_index_or names at.file [] ++ codes ":") ++ (decimal at.line ++ (codes ":" ++ decimal at.column))
place_parts names at = simp append_assoc

-- the line of a fault
pub fault_parts : (names : List (List ℕ)) (number : FrameNumber) (at : At) (word : List ℕ)
    → fault_line names number (record { at = at; word = word }) ≡ codes "fault " ++ (place_in names at ++ ((codes " " ++ code_of number) ++ ((codes " " ++ word) ++ codes "\n")))
fault_parts names number at word = simp append_assoc

five : (a b c d e : List ℕ) → a ++ b ++ c ++ d ++ e ≡ (a ++ b) ++ (c ++ (d ++ e))
five a b c d e = simp append_assoc

seven : (a b c d e f g : List ℕ) → a ++ b ++ c ++ d ++ e ++ f ++ g ≡ (a ++ b) ++ (c ++ (d ++ ((e ++ f) ++ g)))
seven a b c d e f g = simp append_assoc

-- that of an incomplete proof
pub incomplete_parts : (names : List (List ℕ)) (label : List ℕ) (at : At) → incomplete_line names label at ≡ (codes "incomplete " ++ label) ++ (codes " " ++ (place_in names at ++ codes "\n"))
incomplete_parts names label at = five (codes "incomplete ") label (codes " ") (place_in names at) (codes "\n")

-- that of a wrong one
pub wrong_parts : (names : List (List ℕ)) (label : List ℕ) (number : ProofNumber) (at : At)
    → wrong_line names label number at ≡ (codes "wrong " ++ label) ++ (codes " " ++ (place_in names at ++ ((codes " " ++ proof_code number) ++ codes "\n")))
wrong_parts names label number at = seven (codes "wrong ") label (codes " ") (place_in names at) (codes " ") (proof_code number) (codes "\n")
