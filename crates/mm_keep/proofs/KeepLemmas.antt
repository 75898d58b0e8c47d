-- What stays of files when they are edited and settled, and how a session goes on.
use Rattle.std.proofs.{Common.{arith, ◌≡◌, ℕ, ◌+◌, ◌⊎◌, Bool, not, cond, List, [], ◌∷◌, map, bytes_eq, refl, sym, ◌∙◌, ap, inl, inr, All, position}, lemmas.{Grind.{common_steps}, List.{length-map}}}
use Rattle.std.{proofs.lemmas.{List.Elements.{recursion_from_All}, Option.{none-some}}, specs.List.{AllZip, AllByRecursion, position_or_len}}
use Rattle.mm_proof.specs.mm_store.Language.{Batches.{IsBatchOf, KeepsReading, KeepsStanding, ReadsAlike, StartsPlaced}, Edits.{IsEditOf}, Expansion.{IsExpansion}, FileFacts.{StandsIn}}
use Rattle.mm_proof.specs.{mm_store.Language.FilesView.{File, FilesView, file_number, file_view, files_in, number_of, plain, plain_file}, mm_text.Language.Asked.{Asked}}
use Rattle.mm_proof.specs.{mm_frame.Language.Base.{BaseView, IsOfFiles}, mm_statement.Language.{Item.{Said}, Statement.{Says}}}
use Rattle.mm_keep.specs.Code.Next.{HasTop}
use Rattle.mm_proof.specs.mm_store.declared.item.Item as store

before_map : {X Y : Type 0} (test : Y → Bool) (f : X → Y) (xs : List X) → position_or_len test (map f xs) ≡ position_or_len (λ x. test (f x)) xs
before_map test f [] = refl
before_map test f (x ∷ xs) = ap (λ (k : ℕ). cond (not (test (f x))) (1 + k) 0) (before_map test f xs)

position_map : {X Y : Type 0} (test : Y → Bool) (f : X → Y) (xs : List X) → position test (map f xs) ≡ position (λ x. test (f x)) xs
position_map test f xs = rw (before_map test f xs, length-map xs f) refl

-- a name has one number, with keys and without
pub number_plain : (view : FilesView) (name : List ℕ) → file_number (plain view) name ≡ number_of (files_in view) name
number_plain view name = position_map (λ file. bytes_eq name file.name) (plain_file view.pieces) view.keyed ∙ sym (position_map (λ file. bytes_eq name file.name) (file_view view.pieces) view.keyed)

-- an edit keeps the numbers of names
abbrev pub KeepsNumbers : Type 0
KeepsNumbers = (edit : Asked) (files after : List File) (name : List ℕ) → IsEditOf edit files after → file_number after name ≡ file_number files name

-- and so do several
batch_numbers : KeepsNumbers → (edits : List Asked) (files after : List File) (name : List ℕ) → IsBatchOf edits files after → file_number after name ≡ file_number files name
batch_numbers keeps [] files after name e = ap (λ (fs : List File). file_number fs name) e
batch_numbers keeps (edit ∷ edits) files after name b = batch_numbers keeps edits b.0 after name b.2 ∙ keeps edit files b.0 name b.1

-- the top file is there
pub expansion_top : (files : FilesView) (top : List ℕ) (items : List store.Item) → IsExpansion (files_in files) top items → HasTop files top
expansion_top files top items is none = none-some is.number (sym none ∙ is.is_top)

-- and stays
pub batch_top : KeepsNumbers → (edits : List Asked) (files after : FilesView) (top : List ℕ) → IsBatchOf edits (plain files) (plain after) → HasTop files top → HasTop after top
batch_top keeps edits files after top batch has none = grind (arith, number_plain files top, batch_numbers keeps edits (plain files) (plain after) top batch, number_plain after top) steps 200000

says_alike : (old new : FilesView) (item : store.Item) (said : Said) (says : Says old item said) → ReadsAlike old new item says.read → Says new item said
says_alike old new item said says alike = record { read = alike.read; is = rw (alike.text, alike.words) says.is }

-- what items say stays
pub says_edited : (old new : FilesView) → KeepsReading old new → (found : List store.Item) (said : List Said) → AllZip (Says old) found said → AllZip (Says new) found said
says_edited old new keeps (x ∷ xs) (y ∷ ys) z = (says_alike old new x y z.0 (keeps x z.0.read), says_edited old new keeps xs ys z.1)
says_edited old new keeps found said z = grind (arith, common_steps) steps 200000

says_settled : (old new : FilesView) → KeepsStanding old new → (found : List store.Item) (said : List Said) → AllByRecursion (StandsIn old) found → AllZip (Says old) found said → AllZip (Says new) found said
says_settled old new keeps (x ∷ xs) (y ∷ ys) a z = (says_alike old new x y z.0 (keeps x z.0.read a.0), says_settled old new keeps xs ys a.1 z.1)
says_settled old new keeps found said a z = grind (arith, common_steps) steps 200000

-- each item is in the files
abbrev pub ItemsStand : Type 0
ItemsStand = (files : FilesView) (top : List ℕ) (items : List store.Item) → IsExpansion (files_in files) top items → All (StandsIn files) items

-- files that are settled have the base of before
pub base_settled : ItemsStand → (old new : FilesView) (top : List ℕ) (found : List store.Item) (base : BaseView) → files_in new ≡ files_in old → KeepsStanding old new → IsOfFiles old top found base → IsOfFiles new top found base
base_settled stand old new top found base same keeps is =
    grind (arith, common_steps, says_settled old new keeps found base (recursion_from_All (StandsIn old) found (stand old top found is.expansion)) is.each) steps 200000

-- edits that are done start with one that names a file and members of it, if there are any
pub batch_starts : (edits : List Asked) (files after : List File) → IsBatchOf edits files after → StartsPlaced edits files ⊎ (edits ≡ [])
batch_starts [] files after b = inr refl
batch_starts (edit ∷ edits) files after b = inl (edit, b.1.number, b.1.file, refl, b.1.placed)
