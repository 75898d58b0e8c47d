-- A report without a line: no item is at fault, and each theorem is derived.
use Rattle.std.proofs.{Common.{rules, ◌≡◌, ◌<◌, ℕ, zero, suc, Bool, true, false, Some, List, [], ◌∷◌, length, get_or, slice_get, sym, ap, ◌∙◌, arith}, lemmas.{Grind.{common_steps}, Bool.{and_parts}}}
use Rattle.std.proofs.lemmas.{List.{length-map}, Option.{slice_get-get_or, same_Some}}
use Rattle.mm_keep.specs.{mm_store.Language.FilesView.{File}, mm_statement.Language.{Database.{Located}, Item.{Said, is_kind, Theorem}}, mm_frame.Language.Base.{base_of, is_sound_at, said_at}}
use Rattle.mm_keep.specs.Language.{Laws.{ProvedIsDerivable}, Told.{Told, Quiet, AnAxiom, Proved, IsRightlyTold}}
use Rattle.mm_report.specs.Language.{Laws.{CleanIsDerived, IsInOrder}, Report.{lines, names_of}}

-- an item of which this is reported has no line
abbrev has_none : Told → Bool
has_none Quiet = true
has_none AnAxiom = true
has_none Proved = true
has_none _ = false

no_line : (names : List (List ℕ)) (items : List Said) (all : List Told) → length all ≡ length items → lines names items all ≡ [] → (n : ℕ) (one : Told) → slice_get all n ≡ Some one → has_none one ≡ true
no_line names items [] e l n one there = absurd (cc)
no_line names (x ∷ xs) (Quiet ∷ ys) e l zero one there = ap has_none (sym (same_Some Quiet one there))
no_line names (x ∷ xs) (AnAxiom ∷ ys) e l zero one there = ap has_none (sym (same_Some AnAxiom one there))
no_line names (x ∷ xs) (Proved ∷ ys) e l zero one there = ap has_none (sym (same_Some Proved one there))
no_line names (x ∷ xs) (Quiet ∷ ys) e l (suc n) one there = no_line names xs ys (cc) l n one there
no_line names (x ∷ xs) (AnAxiom ∷ ys) e l (suc n) one there = no_line names xs ys (cc) l n one there
no_line names (x ∷ xs) (Proved ∷ ys) e l (suc n) one there = no_line names xs ys (cc) l n one there
no_line names items all e l n one there = absurd (cc)

in_order : ProvedIsDerivable → (files : List File) (items : List Located) (i : ℕ) (one : Told) → has_none one ≡ true → IsRightlyTold files items i one → IsInOrder (base_of items) i
in_order law files items i Quiet none f = record { sound = f.sound; derivable = λ is. absurd (grind (arith, common_steps) steps 200000) }
in_order law files items i AnAxiom none f = record { sound = f.sound; derivable = λ is. absurd (cc) }
in_order law files items i Proved none f = search (rules, and_parts (is_sound_at (base_of items) i) (is_kind Theorem (said_at (base_of items) i).kind) f.proof)
in_order law files items i one none f = absurd (cc)

pub clean_is_derived : ProvedIsDerivable → CleanIsDerived
clean_is_derived law session items all of_files told clean i within =
    let count : i < length all = omega (arith, within, told.count) in
    let there = slice_get-get_or all i Quiet count in
    let long : length all ≡ length (base_of items) = told.count ∙ sym (length-map items (λ (item : Located). item.said)) in
    in_order law session.files items i (get_or all i Quiet) (no_line (names_of session.files) (base_of items) all long clean i (get_or all i Quiet) there) (told.each i (get_or all i Quiet) there)
