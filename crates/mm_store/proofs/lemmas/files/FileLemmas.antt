-- What is known of a file, and of a piece of it, by the fields of `Files`.
use Rattle.std.proofs.lemmas.{Grind.{common_steps}, List.{length-map}, Option.{slice_get-map, slice_get_within}}
use Rattle.std.{proofs.Common.{◌≡◌, ℕ, ◌<◌, ◌≤◌, List, Some, Option, length, map, deque_len, refl, sym, ap, ◌∙◌, arith, Global, Vec, slice_get, Bor, MutBor}, specs.List.{concat}}
use Rattle.std.specs.{Option.{option_map, option_copied_mut}, Map.Iter.{deref_pair}}
use Rattle.mm_store.specs.{declared.{file_text.FileText.{FileText}, files.Files.TheInside.{Inside}}, Language.{Pieces.{text_under}, FilesView.{FilesView}, Undoing.{keys_in}}}
use Rattle.mm_store.{specs.Code.{Kept.{files_view, keyed_file, IsRoomy, AreFilesKept}, Starts.{KnowsStarts}}, proofs.lemmas.files.{EntryLemmas.{texts_of, keys_at, room_at}, FilesLemmas.{file_small}}}
use Rattle.mm_store.proofs.lemmas.{files.ListLemmas.{in_files}, places.ChangeLemmas.{starts_here}, edits.StepLemmas.{IsKeyed}}

-- the file of this number
pub record IsFile (inside : Inside) (n : ℕ) (v : FileText) : Type 0 where
  pub here : slice_get (texts_of inside.files.entries) n ≡ Some v
  pub keyed : IsKeyed (map keyed_file inside.files.entries) inside.pieces n v.keys.items
  pub there : n < length (map keyed_file inside.files.entries)
  pub has : IsRoomy inside.pieces n v
  pub starts : KnowsStarts inside.pieces v
  pub small : length (concat (map (text_under inside.pieces) v.keys.items)) ≤ 4294967295

pub file_is : (inside : Inside) (n : ℕ) (v : FileText) → AreFilesKept inside → slice_get (texts_of inside.files.entries) n ≡ Some v → IsFile inside n v
file_is inside n v kept here = record {
  here = here;
  keyed = record { is = keys_at inside.files.entries n v here; once = kept.once };
  there = omega (arith, slice_get_within (texts_of inside.files.entries) n v here, length-map inside.files.entries (λ (e : Vec ℕ Global × FileText). e.1), length-map inside.files.entries (keyed_file {Y = Global}));
  has = room_at inside.pieces 0 inside.files.entries n n v (omega arith) kept.room here;
  starts = starts_here inside.pieces inside.pieces inside.files.entries n v kept.starts here refl;
  small = omega (arith, file_small inside.pieces (map keyed_file inside.files.entries) n v.keys.items (keys_at inside.files.entries n v here), kept.counted, kept.within);
}

-- as it is lent to be changed
pub lent : {o : Option (MutBor FileText)} {file : MutBor FileText} (inside : Inside) (n : ℕ) → AreFilesKept inside → option_copied_mut o ≡ slice_get (texts_of inside.files.entries) n → o ≡ Some file → IsFile inside n file.now
lent {o} {file} inside n kept is some = file_is inside n file.now kept (sym is ∙ ap option_copied_mut some)

-- and to be read
pub record IsShown (inside : Inside) (n : ℕ) (entry : Vec ℕ Global × FileText) : Type 0 where
  pub there : slice_get inside.files.entries n ≡ Some entry
  pub file : IsFile inside n entry.1

pub shown : {entries : List (Vec ℕ Global × FileText)} {o : Option (Bor (Vec ℕ Global) × Bor FileText)} {pair : Bor (Vec ℕ Global) × Bor FileText} (inside : Inside) (n : ℕ)
    → AreFilesKept inside → entries ≡ inside.files.entries → option_map deref_pair o ≡ slice_get entries n → o ≡ Some pair → IsShown inside n (deref_pair pair)
shown {entries} {o} {pair} inside n kept same is some =
    let there : slice_get inside.files.entries n ≡ Some (deref_pair pair) = ap (λ es. slice_get es n) (sym same) ∙ sym is ∙ ap (option_map deref_pair) some in
    grind (arith, common_steps, file_is inside n pair.1.now kept (slice_get-map (λ (e : Vec ℕ Global × FileText). e.1) inside.files.entries n ∙ ap (option_map (λ (e : Vec ℕ Global × FileText). e.1)) there)) steps 200000

-- its keys, said of the view
pub keys_now : {inside : Inside} {n : ℕ} {v : FileText} {view : FilesView} → IsFile inside n v → files_view inside ≡ view → v.keys.items ≡ keys_in view.keyed n
keys_now {n = n} file is = sym file.keyed.is ∙ ap (λ (view : FilesView). keys_in view.keyed n) is

-- a file of this number, which has a piece at this place
pub there_is : {view : FilesView} (inside : Inside) (n at : ℕ) → files_view inside ≡ view → at < length (keys_in view.keyed n) → n < length inside.files.entries
there_is inside n at is there = grind (arith, common_steps, in_files, length-map) steps 200000

pub record IsPlace (inside : Inside) (n at : ℕ) (v : FileText) : Type 0 where
  pub file : IsFile inside n v
  pub there : at < length v.keys.items
  pub in_keys : at < deque_len v.keys

pub at_place : {inside : Inside} {n : ℕ} {v : FileText} {view : FilesView} → IsFile inside n v → files_view inside ≡ view → (at : ℕ) → at < length (keys_in view.keyed n) → IsPlace inside n at v
at_place {v = v} file is at there =
    let at_there : at < length v.keys.items = omega (arith, there, ap length (keys_now file is)) in
    record { file = file; there = at_there; in_keys = omega (arith, at_there, v.keys.ok.0) }

-- as it is lent to be changed
pub lent_at : {o : Option (MutBor FileText)} {file : MutBor FileText} {view : FilesView} (inside : Inside) (n at : ℕ) → AreFilesKept inside → files_view inside ≡ view → at < length (keys_in view.keyed n)
    → option_copied_mut o ≡ slice_get (texts_of inside.files.entries) n → o ≡ Some file → IsPlace inside n at file.now
lent_at inside n at kept view_is there is some = at_place (lent inside n kept is some) view_is at there
