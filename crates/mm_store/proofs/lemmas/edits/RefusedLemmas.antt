-- Edits that are done one after another, and why one of them is refused.
use Rattle.std.proofs.{Common.{rules, ◌≡◌, ℕ, suc, ◌+◌, ◌<◌, List, [], ◌∷◌, ◌++◌, Some, is_some, length, map, take, get_or, refl, ap, subst, arith, slice_get}, lemmas.Grind.{common_steps, elements}}
use Rattle.std.proofs.{lemmas.Option.{none-some}, Math.Numerals.{suc-eq-add-one}}
use Rattle.mm_store.specs.{declared.batch.BatchError.{BatchError}, Language.{Batches.{IsBatchError, IsBatchOf, KeepsReading, StartsPlaced}, EditedKeys.{IsBatchByKeys, IsEditByKeys}}}
use Rattle.mm_store.{specs.{Language.{Edits.{IsEditOf, IsPlaced}, FilesView.{File, FilesView}, Undoing.{KeepsKeys, UndoView}}, Code.Batched.{IsNextError}}, proofs.lemmas.files.ViewLemmas.{some_is}}
use Rattle.mm_text.specs.Language.Asked.{Asked, asked}
use Rattle.std.specs.FinMap as finite
use Rattle.mm_text.specs.declared.edit.Edit as code

-- one edit more
pub batch_last : (edits : List Asked) (edit : Asked) (files between after : List File) → IsBatchOf edits files between → IsEditOf edit between after → IsBatchOf (edits ++ edit ∷ []) files after
batch_last [] edit files between after are is = (after, subst (λ files. IsEditOf edit files after) are is, refl)
batch_last (first ∷ edits) edit files between after are is = (are.0, are.1, batch_last edits edit are.0 between after are.2 is)

-- one edit more, by keys
pub by_keys_last : (edits : List Asked) (edit : Asked) (old between new : FilesView) (undos : List UndoView) (undo : UndoView) → IsBatchByKeys edits old between undos
    → IsEditByKeys edit between new undo → IsBatchByKeys (edits ++ edit ∷ []) old new (undos ++ undo ∷ [])
by_keys_last [] edit old between new [] undo are is = (new, subst (λ view. IsEditByKeys edit view new undo) are is, refl)
by_keys_last (first ∷ edits) edit old between new (one ∷ undos) undo are is = (are.0, are.1, by_keys_last edits edit are.0 between new undos undo are.2 is)
by_keys_last _ edit old between new _ undo are is = absurd are

-- the edits of a list of which this many are done
pub mapped_there : (edits : List code.Edit) (n : ℕ) (default : code.Edit) → n < length edits → slice_get (map asked edits) n ≡ Some (asked (get_or edits n default))
mapped_there (edit ∷ edits) (suc n) default lt = mapped_there edits n default (omega arith)
mapped_there edits n default lt = grind (arith, common_steps) steps 200000

next_taken : (edits : List code.Edit) (n : ℕ) (default : code.Edit) → n < length edits → take (suc n) (map asked edits) ≡ take n (map asked edits) ++ asked (get_or edits n default) ∷ []
next_taken (edit ∷ edits) (suc n) default lt = ap (λ rest. asked edit ∷ rest) (next_taken edits n default (omega arith))
next_taken edits n default lt = grind (arith, common_steps) steps 200000

pub batch_next : (edits : List code.Edit) (n : ℕ) (default : code.Edit) (files between after : List File)
    → n < length edits → IsBatchOf (take n (map asked edits)) files between → IsEditOf (asked (get_or edits n default)) between after → IsBatchOf (take (n + 1) (map asked edits)) files after
batch_next edits n default files between after lt are is =
    search (rules, batch_last (take n (map asked edits)) (asked (get_or edits n default)) files between after are is, next_taken edits n default lt, suc-eq-add-one n) steps 200000

pub by_keys_next : (edits : List code.Edit) (n : ℕ) (default : code.Edit) (old between new : FilesView) (undos : List UndoView) (undo : UndoView)
    → n < length edits → IsBatchByKeys (take n (map asked edits)) old between undos → IsEditByKeys (asked (get_or edits n default)) between new undo
    → IsBatchByKeys (take (n + 1) (map asked edits)) old new (undos ++ undo ∷ [])
by_keys_next edits n default old between new undos undo lt are is =
    search (rules, by_keys_last (take n (map asked edits)) (asked (get_or edits n default)) old between new undos undo are is, next_taken edits n default lt, suc-eq-add-one n) steps 200000

pub keys_then : (a b c : FilesView) → KeepsKeys a b → KeepsKeys b c → KeepsKeys a c
keys_then a b c first then = grind (arith, elements) steps 200000

starts_placed : (edits : List Asked) (files between : List File) (n : ℕ) (edit : Asked) → IsBatchOf (take n edits) files between → slice_get edits n ≡ Some edit → (at : ℕ) (file : File) → IsPlaced between edit at file → StartsPlaced edits files
starts_placed (first ∷ edits) files between (suc n) edit are there at file placed = (first, are.1.number, are.1.file, refl, are.1.placed)
starts_placed edits files between n edit are there at file placed = grind (arith, common_steps, none-some) steps 200000

-- why the edit after others is not done is why they all are not
pub batch_error : (edits : List Asked) (files between : List File) (n : ℕ) (edit : Asked) (error : BatchError) → IsBatchOf (take n edits) files between
    → slice_get edits n ≡ Some edit → IsNextError edit between n error → IsBatchError edits files error
batch_error edits files between n edit error are there fails = grind (arith, common_steps, starts_placed) steps 200000

-- if each key keeps its text, what can be read is read alike
pub reads_alike : (old new : FilesView) → KeepsKeys old new → KeepsReading old new
reads_alike old new keeps = λ item was.
    let kept = keeps item.key.at (ap is_some was.live.held) in
    let held = some_is (finite.get new.pieces item.key.at) kept.there in
    record {
      read = grind (arith, common_steps) steps 200000;
      text = refl;
      words = refl;
    }
