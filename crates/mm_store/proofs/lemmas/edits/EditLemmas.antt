-- From what is done by keys to the edit of the files without keys, and why an edit is refused.
use Rattle.std.{proofs.{Common.{arith, ◌≡◌, ℕ, ◌+◌, ◌<◌, ◌≤◌, List, Some, length, sym, ◌∙◌, subst, Result}, lemmas.{Grind.{common_steps}, Option.{none-some}}}, specs.Result.{IfErr, IsErrAnd}}
use Rattle.mm_text.specs.Language.{Cut.{ended}, Asked.{Asked, edited_name, edited_text, IsAmong}}
use Rattle.mm_store.specs.{declared.edit.EditError.{EditError, TheVariants.{Memory}}, Language.{FilesView.{FilesView, plain, file_number, bytes_of}, Undoing.{keys_in}}}
use Rattle.mm_store.specs.{Language.{Edits.{edited, IsPlaced, NamesNoMember, BringsOneUnit, IsEditOf}, Answers.{IsEditError}}, Code.Edited.{pieces_in, with_pieces, NamesPlace}}
use Rattle.mm_store.{specs.Code.Units.{IsTextRefused}, proofs.lemmas.files.NumberLemmas.{IsThere, file_there, with_pieces_is}}

-- the edit names a file, and a place that it does not have
pub no_member : (view : FilesView) (edit : Asked) (number count : ℕ) → file_number (plain view) (edited_name edit) ≡ Some number → number < length view.keyed → count ≡ length (keys_in view.keyed number)
    → ¬ IsAmong edit count → NamesNoMember edit (plain view) count
no_member view edit number count named there counted beyond = grind (arith, common_steps, file_there view.keyed view.pieces number there) steps 200000

module _ {view : FilesView} {edit : Asked} {number : ℕ} (had : NamesPlace edit view number) where
  abbrev pub found : IsThere view number
  found = file_there view.keyed view.pieces number had.there

  pub placed : IsPlaced (plain view) edit number found.file
  placed = record { file_there = record { named = had.named; there = found.there }; among = subst (IsAmong edit) (sym found.count) had.among }

  pub is_edit : (new : FilesView) → BringsOneUnit (edited_text edit) → plain new ≡ with_pieces (plain view) number (edited edit (pieces_in (plain view) number)) → bytes_of (plain new) ≤ 4294967295
      → IsEditOf edit (plain view) (plain new)
  is_edit new one means within = grind (arith, common_steps, placed, with_pieces_is) steps 200000

  module _ (text : List ℕ) (brings : edited_text edit ≡ Some text) where
    pub no_memory : IsEditError edit (plain view) Memory
    no_memory = (number, found.file, placed, λ none. none-some text (sym none ∙ brings))

    -- what is reported of a text is reported of the edit that brings it
    pub not_new : (held : ℕ)
        → (4294967295 < held + length (ended text) → 4294967295 < bytes_of (with_pieces (plain view) number (edited edit (pieces_in (plain view) number))))
        → (error : EditError) → IsTextRefused held text error → IsEditError edit (plain view) error
    not_new held more error fails = grind (arith, common_steps, placed, no_memory, with_pieces_is) steps 200000

pub if_err : {T E : Type 0} (r : Result T E) (P Q : E → Type 0) → IsErrAnd r P → ((e : E) → P e → Q e) → IfErr r Q
if_err r P Q h f = grind (arith, common_steps) steps 200000
