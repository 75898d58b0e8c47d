-- Each edit is accepted, or refused for one reason.
use Rattle.std.proofs.{Common.{rules, ◌≡◌, ◌≢◌, ◌⊎◌, inl, inr, ℕ, ◌-◌, ◌<◌, ◌≤◌, List, [], Option, Some, None, length, get_or, refl, arith, slice_get}, lemmas.{Grind.{common_steps}, Bool.{cases_eq}}}
use Rattle.std.proofs.lemmas.{Bool.Decides.{nat_tests}, Option.{slice_get-get_or, cond_some}}
use Rattle.mm_text.specs.{declared.fault.TextFault.{TextFault}, Language.{Cut.{IsCut, IsFirstFault}, Asked.{Asked, Move, edited_name, edited_text, IsAmong}}}
use Rattle.mm_store.specs.{declared.edit.EditError.{EditError}, Language.FilesView.{File, file_number, bytes_of}}
use Rattle.mm_store.specs.Language.{Edits.{IsEditedFile, IsPlaced, BringsOneUnit, BringsFault, BringsNotOne, IsEditOf, after_edit}, Answers.{IsEditError}}
use Rattle.mm_store.specs.declared.edit.EditError.TheVariants as edits

abbrev pub SomeCut : Type 0
SomeCut = (text : List ℕ) → ((pieces : List (List ℕ)) × (tail : List ℕ) × IsCut text pieces tail) ⊎ ((fault : TextFault) × IsFirstFault text fault)

le_or : (m n : ℕ) → (m ≤ n) ⊎ (n < m)
le_or m n = grind (arith, common_steps, cases_eq (m - n) 0) steps 200000

is_among : (edit : Asked) (count : ℕ) → IsAmong edit count ⊎ (¬ IsAmong edit count)
is_among (Move file at to) count = grind (arith, common_steps, le_or count at, le_or count to) steps 200000
is_among edit count = grind (arith, common_steps, le_or) steps 200000

text_is : SomeCut → (brought : Option (List ℕ)) → BringsOneUnit brought ⊎ (((fault : TextFault) × BringsFault brought fault) ⊎ ((count : ℕ) × BringsNotOne brought count))
text_is some None = inl tt
text_is some (Some text) = elim (some text) [
  | inl cut ↦ elim (cases_eq (length cut.0) 1) [
    | inl one ↦ inl (record { pieces = cut.0; tail = cut.1; is_cut = cut.2; is_count = one })
    | inr differs ↦ inr (inr (length cut.0, (record { pieces = cut.0; tail = cut.1; is_cut = cut.2; is_count = refl }, differs)))
  ]
  | inr fault ↦ inr (inl fault)
]

abbrev no_file : File
no_file = record { name = []; pieces = []; tail = [] }

number_there : (files : List File) (name : List ℕ) (n : ℕ) → file_number files name ≡ Some n → slice_get files n ≡ Some (get_or files n no_file)
number_there files name n at = grind (arith, common_steps, cond_some, nat_tests, slice_get-get_or) steps 200000

abbrev Answered : Asked → List File → Type 0
Answered edit files = ((after : List File) × IsEditOf edit files after) ⊎ ((error : EditError) × (error ≢ edits.Memory) × IsEditError edit files error)

placed_answer : SomeCut → (edit : Asked) (files : List File) (number : ℕ) (file : File) → IsPlaced files edit number file → Answered edit files
placed_answer some edit files number file placed = elim (text_is some (edited_text edit)) [
  | inl one ↦ search (rules, le_or (bytes_of (after_edit files edit number file)) 4294967295) steps 500000
  | inr wrong ↦ elim wrong [
    | inl fault ↦ inr (edits.Text fault.0, (λ e. cc), (number, file, placed, fault.1))
    | inr other ↦ inr (edits.NotOne other.0, (λ e. cc), (number, file, placed, other.1))
  ]
]

file_answer : SomeCut → (edit : Asked) (files : List File) (number : ℕ) (file : File) → IsEditedFile files edit number file → Answered edit files
file_answer some edit files number file there = elim (is_among edit (length file.pieces)) [
  | inl among ↦ placed_answer some edit files number file (record { file_there = there; among = among })
  | inr none ↦ inr (edits.NoPiece (length file.pieces), (λ e. cc), (number, file, there, refl, none))
]

by_number : SomeCut → (edit : Asked) (files : List File) (number : Option ℕ) → file_number files (edited_name edit) ≡ number → Answered edit files
by_number some edit files None at = inr (edits.NoFile, (λ e. cc), at)
by_number some edit files (Some number) at = file_answer some edit files number (get_or files number no_file) (record { named = at; there = number_there files (edited_name edit) number at })

-- each edit has an answer other than out of memory
pub some_answer : SomeCut → (edit : Asked) (files : List File) → Answered edit files
some_answer some edit files = by_number some edit files (file_number files (edited_name edit)) refl
