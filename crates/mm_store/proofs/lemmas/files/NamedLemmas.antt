-- Files by name: each name has one number, and a file that comes last is found if no other has its name.
use Rattle.std.proofs.lemmas.{Grind.{common_steps}, Bool.{false_from_ne_true, Decides.{nat_tests}}, List.{Folds.{find_at}, Sums.{passes_at_first}}}
use Rattle.std.proofs.lemmas.{Option.{get_or_from_slice_get, none-some, same_Some, slice_get_past, cond_some}, Slice.Eq.{bytes_eq-Decides}}
use Rattle.std.{proofs.Common.{◌≡◌, ◌≢◌, ℕ, Bool, true, false, cond, nat_lt, List, [], ◌∷◌, ◌++◌, Some, None, length, get_or, sym, ap, ◌∙◌, arith, slice_get}, specs.List.{find, position_or_len}}
use Rattle.std.specs.{Option.{option_map}, Str.{bytes_eq}}
use Rattle.mm_text.specs.Language.{Cut.{IsCut, ended}, Asked.{Asked, edited_name}}
use Rattle.mm_store.specs.Language.{FilesView.{File, file_number, file_at, find_file, text_of}, FileFacts.{IsAdded}, Edits.{edited, with_members, IsEditOf}}
use Rattle.mm_store.proofs.lemmas.edits.EditLawLemmas.{changed_there, number_kept, others_kept}

-- the file of a name has this name
named_is : (files : List File) (name : List ℕ) (n : ℕ) (file : File) → file_number files name ≡ Some n → slice_get files n ≡ Some file → name ≡ file.name
named_is files name n file at there =
    let first = position_or_len (λ (file : File). bytes_eq name file.name) files in
    let s = cond_some (nat_lt first (length files)) first n at in
    let pass = passes_at_first (λ (file : File). bytes_eq name file.name) files file (grind (arith, nat_tests)) in
    let here : get_or files first file ≡ file = ap (λ k. get_or files k file) s.1 ∙ get_or_from_slice_get files n file file there in
    (bytes_eq-Decides name file.name).0 (ap (λ (file : File). bytes_eq name file.name) (sym here) ∙ pass)

pub other_kept : (edit : Asked) (files after : List File) (name : List ℕ) → IsEditOf edit files after → name ≢ edited_name edit → find_file after name ≡ find_file files name
other_kept edit files after name is differs =
    let there = is.placed.file_there.there in
    others_kept edit files after is name (λ at. differs (named_is files name is.number is.file at there ∙ sym (named_is files (edited_name edit) is.number is.file is.placed.file_there.named there)))

pub edited_kept : (edit : Asked) (files after : List File) (file : File) → IsEditOf edit files after → find_file files (edited_name edit) ≡ Some file → find_file after (edited_name edit) ≡ Some (with_members file (edited edit file.pieces))
edited_kept edit files after file is found = grind (arith, common_steps, number_kept edit files after is (edited_name edit), changed_there edit files after is, same_Some) steps 200000

-- the file of a name is the first with it
found_first : (files : List File) (name : List ℕ) → find_file files name ≡ find (λ file. bytes_eq name file.name) files
found_first files name = grind (arith, common_steps, find_at, slice_get_past, nat_tests) steps 200000

module _ (test : File → Bool) (file : File) where
  find_last : (files : List File) → find test files ≡ None → test file ≡ true → find test (files ++ file ∷ []) ≡ Some file
  find_last [] none is = ap (λ b. cond b (Some file) None) is
  find_last (first ∷ files) none is = by (test first) none (λ e. find_last files e is)
    where
      by : (b : Bool) → cond b (Some first) (find test files) ≡ None → (find test files ≡ None → find test (files ++ file ∷ []) ≡ Some file) → cond b (Some first) (find test (files ++ file ∷ [])) ≡ Some file
      by true e later = absurd (none-some first (sym e))
      by false e later = later e

  find_other : (files : List File) → test file ≡ false → find test (files ++ file ∷ []) ≡ find test files
  find_other [] is = ap (λ b. cond b (Some file) None) is
  find_other (first ∷ files) is = ap (λ found. cond (test first) (Some first) found) (find_other files is)

pub added_text : (old new : List File) (name text : List ℕ) → file_number old name ≡ None → IsAdded old new name text → option_map text_of (find_file new name) ≡ Some (ended text)
added_text old new name text none is =
    let test = (bytes_eq-Decides name is.file.name).1 (sym is.is_name) in
    let absent : find (λ (file : File). bytes_eq name file.name) old ≡ None = sym (found_first old name) ∙ ap (file_at old) none in
    ap (λ files. option_map text_of (find_file files name)) is.last
    ∙ ap (option_map text_of) (found_first (old ++ is.file ∷ []) name ∙ find_last (λ (file : File). bytes_eq name file.name) is.file old absent test) ∙ ap Some is.is_cut.joined

pub added_others : (old new : List File) (name text other : List ℕ) → IsAdded old new name text → other ≢ name → find_file new other ≡ find_file old other
added_others old new name text other is differs = grind (arith, common_steps, bytes_eq-Decides, false_from_ne_true, find_other, found_first) steps 200000

abbrev pub OneCut : Type 0
OneCut = (text : List ℕ) (a b : List (List ℕ)) (s t : List ℕ) → IsCut text a s → IsCut text b t → (a ≡ b) × (s ≡ t)

pub one_added : OneCut → (old a b : List File) (name text : List ℕ) → IsAdded old a name text → IsAdded old b name text → a ≡ b
one_added one_cut old a b name text is other = grind (arith, common_steps) steps 200000
