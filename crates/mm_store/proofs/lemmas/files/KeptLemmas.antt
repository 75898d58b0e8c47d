-- The files after a change of the keys of one file and of the pieces.
use Rattle.std.proofs.{Common.{◌+◌, ◌≡◌, ℕ, suc, ◌<◌, ◌≤◌, List, ◌∷◌, length, map, refl, sym, ap, ◌∙◌, subst, arith, Global, Vec}, lemmas.{Grind.{common_steps}, Bool.{cases_eq}, List.{length-map}}}
use Rattle.mm_store.proofs.lemmas.{files.{EntryLemmas.{view_set, room_set, room_same, starts_set, tail_at}, FileLemmas.{IsFile}}, edits.StepLemmas.{Step, settled_here, step_bytes}}
use Rattle.mm_store.specs.{declared.{file_text.FileText.{FileText}, files.Files.TheInside.{Inside}}, Code.Starts.{HasKeys, HasStarts}}
use Rattle.mm_store.specs.{Code.Kept.{files_view, keyed_file, places, standing_count, deletions, AreFilesKept}, Language.FilesView.{FilesView, plain, plain_file, bytes_of}}
use Rattle.mm_store.specs.Language.{Pieces.{Deleted, text_under, Pieces, IsParked}, Undoing.{with_keys}}
use Rattle.indexmap.specs.IndexMap.{set_value_at, with_value_at}
use Rattle.std.specs.FinMap as finite

length_set : {Y : Type 0} (es : List (Vec ℕ Y × FileText)) (n : ℕ) (w : FileText) → length (set_value_at es n w) ≡ length es
length_set (e ∷ es) (suc n) w = omega (arith, length_set es n w)
length_set _ _ w = refl

-- a file was lent, and has other keys; and there are other pieces
module _ {inside : Inside} {n : ℕ} {v w : FileText} {keys : List ℕ} (file : IsFile inside n v) (has : HasKeys inside.pieces v w keys)
    {actual now : Pieces} (pieces : actual ≡ now) (bytes : ℕ) where
  abbrev after : Inside
  after = record { files = with_value_at inside.files n w; pieces = actual; bytes = bytes }

  pub view_after : {view : FilesView} → files_view inside ≡ view → files_view after ≡ record { keyed = with_keys view.keyed n keys; pieces = now }
  view_after {view} is = grind (arith, common_steps, view_set inside.files.entries n v w file.here has.tail, has.items) steps 200000

  pub kept_edited : {less more fewer further : ℕ} → AreFilesKept inside → Step (map keyed_file inside.files.entries) inside.pieces n keys now less more fewer further
      → w.deleted + fewer ≡ v.deleted + further → bytes + less ≡ inside.bytes + more → bytes ≤ 4294967295 → AreFilesKept after
  kept_edited kept step deleted counted within =
      let es = inside.files.entries in
      let p = inside.pieces in
      let files = ap (λ (view : FilesView). plain view) (view_after refl) in
      let starts = subst (λ ks. HasStarts (map (text_under p) ks) w) has.items (has.starts file.starts) in
      record {
        once = λ q. ap (λ (view : FilesView). places q view.keyed) (view_after refl) ∙ step.once q ∙ ap (λ m. standing_count (finite.get m q)) (sym pieces);
        room = grind (arith, common_steps, room_set) steps 200000;
        known = grind (arith, common_steps, length-map es (keyed_file {Y = Global}), length_set es n w) steps 200000;
        starts = grind (arith, common_steps, starts_set, tail_at) steps 200000;
        counted = omega (arith, counted, kept.counted, step_bytes step, ap bytes_of files);
        within = within;
      }

-- a piece that no file has is held or dropped, and no file keeps room for it
pub kept_beside : {inside : Inside} {actual now : Pieces} → AreFilesKept inside → actual ≡ now → ((q : ℕ) → standing_count (finite.get now q) ≡ standing_count (finite.get inside.pieces q))
    → ((m : ℕ) → deletions m now ≡ deletions m inside.pieces) → map (plain_file now) (map keyed_file inside.files.entries) ≡ plain (files_view inside)
    → AreFilesKept (record { files = inside.files; pieces = actual; bytes = inside.bytes })
kept_beside {inside} {actual} {now} kept pieces stand same files =
    grind (arith, common_steps, room_same inside.pieces now 0 inside.files.entries (λ m lt. same m) kept.room) steps 200000

-- a file has the pieces that were deleted from it
pub deleted_from : {view : FilesView} (inside : Inside) (n old : ℕ) → AreFilesKept inside → files_view inside ≡ view → IsParked view.pieces old n Deleted → 0 < deletions n inside.pieces
deleted_from inside n old kept is is_parked =
    omega (arith, settled_here {fs = map keyed_file inside.files.entries} {n = n} (record { is = refl; once = kept.once }) old (subst (λ (view : FilesView). IsParked view.pieces old n Deleted) (sym is) is_parked))

pub deleted_file : {view : FilesView} (inside : Inside) (n old : ℕ) → AreFilesKept inside → files_view inside ≡ view → IsParked view.pieces old n Deleted → n < length inside.files.entries
deleted_file inside n old kept is is_parked = grind (arith, common_steps, deleted_from inside n old kept is is_parked, cases_eq) steps 200000
