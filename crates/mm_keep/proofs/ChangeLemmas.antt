-- How a session goes on with edited files.
use Rattle.std.proofs.{Common.{rules, arith, ◌≡◌, ℕ, List, sym, ◌∙◌, subst}, lemmas.Grind.{common_steps}}
use Rattle.mm_proof.specs.mm_store.Language.{Undoing.{UndoView}, Batches.{IsBatchOf, IsSpendable, KeepsReading, KeepsStanding}, FileFacts.{parked_in}, FilesView.{FilesView, files_in, plain}}
use Rattle.mm_proof.specs.{mm_text.Language.Asked.{Asked}, mm_frame.{Language.{Base.{BaseView}, Older.{IsOlder}}, declared.base.Base.{Base}}, mm_verdict.Language.Work.{Recorded}}
use Rattle.mm_keep.specs.{declared.keeping.Next.{Next}, Code.{Changing.{CanTake, HasKept, HasRun, WereKept}, KeptCheck.{Kept}, KeptSession.{AreChecked}, Next.{IsBuilt, IsNextBase}}}
use Rattle.mm_keep.{specs.Code.Planned.{CanCarry}, proofs.KeepLemmas.{ItemsStand, KeepsNumbers, batch_top, expansion_top, base_settled, says_edited}}

-- what is checked can be carried
pub can_carry : (before after : FilesView) (undos : List UndoView) (top : List ℕ) (names : List (List ℕ)) (checked : List Kept) (next : Next) → (can : CanTake before after undos top names checked next)
    → CanCarry can.old can.base checked next.ran.plan next.ran.checked
can_carry before after undos top names checked next can = grind (arith, common_steps) steps 200000

-- what is kept once the edits are settled
pub kept_settled : ItemsStand → (before after settled : FilesView) (undos : List UndoView) (top : List ℕ) (names : List (List ℕ)) (checked : List Kept) (next : Next) → (can : CanTake before after undos top names checked next)
    → files_in settled ≡ files_in after → KeepsStanding after settled → parked_in settled ≡ parked_in before
    → (code : Base) (now : List Kept) → code ≡ next.base → AreChecked can.base now → HasKept settled top names code now
kept_settled stand before after settled undos top names checked next can same keeps parked code now is are = (
  can.base,
  record {
    built = subst (λ (b : Base). IsBuilt names settled top b can.base) (sym is) (record {
      of_files = base_settled stand after settled top next.base.items can.base same keeps can.built.of_files;
      by_names = can.built.by_names;
      later = can.built.later;
    });
    checked_is = are;
    parked = parked ∙ can.parked;
  },
)

-- what was run
pub changed_settled : ItemsStand → (before after settled : FilesView) (undos : List UndoView) (top : List ℕ) (names : List (List ℕ)) (checked : List Kept) (next : Next) → (can : CanTake before after undos top names checked next)
    → files_in settled ≡ files_in after → KeepsStanding after settled → (work : Recorded) → work ≡ next.ran.work → HasRun before settled top work
changed_settled stand before after settled undos top names checked next can same keeps work is =
    search (rules, base_settled stand after settled top next.base.items can.base same keeps can.built.of_files)

-- the old base can be read in edited files
pub old_in : (before after : FilesView) (undos : List UndoView) (top : List ℕ) (names : List (List ℕ)) (code : Base) (checked : List Kept)
    → (were : WereKept before after undos top names code checked) → IsOlder names after code were.base
old_in before after undos top names code checked were = record { later = were.kept.built.later; each = says_edited before after were.reading code.items were.base were.kept.built.of_files.each }

pub can_take : (before after : FilesView) (undos : List UndoView) (top : List ℕ) (names all : List (List ℕ)) (code : Base)
    (checked : List Kept) (next : Next) → (were : WereKept before after undos top names code checked)
    → ((view : BaseView) → IsOlder names after code view → IsNextBase all after top view next) → CanTake before after undos top all checked next
can_take before after undos top names all code checked next were goes = search (rules, old_in before after undos top names code checked were)

-- files that are edited, with what was kept of them before
pub were_kept : KeepsNumbers → (before after : FilesView) (undos : List UndoView) (top : List ℕ) (names : List (List ℕ)) (code : Base) (checked : List Kept) → HasKept before top names code checked
    → (edits : List Asked) → IsBatchOf edits (plain before) (plain after) → KeepsReading before after → IsSpendable before after undos → WereKept before after undos top names code checked
were_kept keeps before after undos top names code checked has edits done reading spendable = grind (arith, common_steps, batch_top, expansion_top) steps 200000
