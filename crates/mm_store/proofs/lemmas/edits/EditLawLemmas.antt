-- Edits over files without keys: what they leave as it was, and what reverses them.
use Rattle.std.proofs.Common.{rules, ◌≡◌, ◌≢◌, ℕ, suc, ◌+◌, ◌≤◌, List, [], ◌∷◌, ◌++◌, Some, length, map, get_or, set, refl, sym, ap, ◌∙◌, append_assoc, arith, length-append, slice_get, length-set}
use Rattle.std.proofs.lemmas.{Grind.{common_steps}, List.{set-set, Edits.{get_or-insert_at, length-insert, length-remove}, Folds.{position_or_len-set}, Sums.{sum_by-insert, sum_by-remove}}}
use Rattle.std.{proofs.{lemmas.Option.{get_or_from_slice_get, none-some, same_Some}, Math.Seq.{map-set_same}}, specs.{List.{sum_by, insert, remove}, Str.{bytes_eq}}}
use Rattle.mm_text.specs.Language.{Cut.{ended}, Asked.{Asked, Insert, Replace, Delete, Move}}
use Rattle.mm_store.specs.Language.{FilesView.{File, file_number, find_file, bytes_of, text_of}, Edits.{edited, with_members, IsEditOf}}
use Rattle.mm_store.proofs.lemmas.files.ListLemmas.{insert_removed, remove_inserted, size_is}

-- one element of a list set
module _ {X : Type 0} where
  set_back : (xs : List X) (n : ℕ) (x : X) → slice_get xs n ≡ Some x → set xs n x ≡ xs
  set_back (z ∷ xs) (suc n) x there = ap (λ ys. z ∷ ys) (set_back xs n x there)
  set_back xs n x there = grind (arith, common_steps, same_Some) steps 200000

  get_set : (xs : List X) (n : ℕ) (x y : X) → slice_get xs n ≡ Some x → slice_get (set xs n y) n ≡ Some y
  get_set (z ∷ xs) (suc n) x y there = get_set xs n x y there
  get_set xs n x y there = grind (arith, common_steps, none-some) steps 200000

  pub get_other : (xs : List X) (n m : ℕ) (y : X) → m ≢ n → slice_get (set xs n y) m ≡ slice_get xs m
  get_other (z ∷ xs) (suc n) (suc m) y differs = get_other xs n m y (λ e. differs (ap suc e))
  get_other xs n m y differs = grind (arith, common_steps) steps 200000

  -- in a list of three parts
  put_at : (before behind : List X) (x : X) → insert (before ++ behind) (length before) x ≡ before ++ x ∷ behind
  put_at [] behind x = refl
  put_at (y ∷ before) behind x = ap (λ ys. y ∷ ys) (put_at before behind x)

  drop_at : (before behind : List X) (x : X) → remove (before ++ x ∷ behind) (length before) ≡ before ++ behind
  drop_at [] behind x = refl
  drop_at (y ∷ before) behind x = ap (λ ys. y ∷ ys) (drop_at before behind x)

  set_at : (before behind : List X) (x y : X) → set (before ++ x ∷ behind) (length before) y ≡ before ++ y ∷ behind
  set_at [] behind x y = refl
  set_at (z ∷ before) behind x y = ap (λ ys. z ∷ ys) (set_at before behind x y)

  read_at : (before behind : List X) (x d : X) → get_or (before ++ x ∷ behind) (length before) d ≡ x
  read_at [] behind x d = refl
  read_at (z ∷ before) behind x d = read_at before behind x d

-- what an edit makes of the members, in parts
pub insert_parts : (name text : List ℕ) (before behind : List (List ℕ)) → edited (Insert name (length before) text) (before ++ behind) ≡ before ++ ended text ∷ behind
insert_parts name text before behind = put_at before behind (ended text)

pub replace_parts : (name text old : List ℕ) (before behind : List (List ℕ)) → edited (Replace name (length before) text) (before ++ old ∷ behind) ≡ before ++ ended text ∷ behind
replace_parts name text old before behind = set_at before behind old (ended text)

pub delete_parts : (name old : List ℕ) (before behind : List (List ℕ)) → edited (Delete name (length before)) (before ++ old ∷ behind) ≡ before ++ behind
delete_parts name old before behind = drop_at before behind old

pub down_parts : (name moved : List ℕ) (before middle behind : List (List ℕ)) → edited (Move name (length before) (length before + length middle)) (before ++ moved ∷ (middle ++ behind)) ≡ before ++ (middle ++ moved ∷ behind)
down_parts name moved before middle behind =
    let all = before ++ moved ∷ (middle ++ behind) in
    let to : length before + length middle ≡ length (before ++ middle) = sym (length-append before middle) in
    ap (λ x. insert (remove all (length before)) (length before + length middle) x) (read_at before (middle ++ behind) moved [])
    ∙ ap (λ xs. insert xs (length before + length middle) moved) (drop_at before (middle ++ behind) moved ∙ sym (append_assoc before middle behind))
    ∙ ap (λ n. insert ((before ++ middle) ++ behind) n moved) to ∙ put_at (before ++ middle) behind moved ∙ append_assoc before middle (moved ∷ behind)

pub up_parts : (name moved : List ℕ) (before middle behind : List (List ℕ)) → edited (Move name (length before + length middle) (length before)) (before ++ (middle ++ moved ∷ behind)) ≡ before ++ moved ∷ (middle ++ behind)
up_parts name moved before middle behind =
    let all = before ++ (middle ++ moved ∷ behind) in
    let from : length before + length middle ≡ length (before ++ middle) = sym (length-append before middle) in
    let joined : all ≡ (before ++ middle) ++ moved ∷ behind = sym (append_assoc before middle (moved ∷ behind)) in
    let read : get_or all (length before + length middle) [] ≡ moved =
    ap (λ xs. get_or xs (length before + length middle) []) joined ∙ ap (λ n. get_or ((before ++ middle) ++ moved ∷ behind) n []) from ∙ read_at (before ++ middle) behind moved [] in
    let rest : remove all (length before + length middle) ≡ before ++ (middle ++ behind) =
    ap (λ xs. remove xs (length before + length middle)) joined ∙ ap (λ n. remove ((before ++ middle) ++ moved ∷ behind) n) from ∙ drop_at (before ++ middle) behind moved ∙ append_assoc before middle behind in
    ap (λ x. insert (remove all (length before + length middle)) (length before) x) read ∙ ap (λ xs. insert xs (length before) moved) rest ∙ put_at before (middle ++ behind) moved

-- another file in the place of one, of the same name
module _ (files : List File) (n : ℕ) (file other : File) (there : slice_get files n ≡ Some file) (same : other.name ≡ file.name) where
  pub number_set : (name : List ℕ) → file_number (set files n other) name ≡ file_number files name
  number_set name =
      let a = position_or_len-set (λ (file : File). bytes_eq name file.name) files n other file (ap (bytes_eq name) (same ∙ sym (ap (λ (file : File). file.name) (get_or_from_slice_get files n file file there)))) in
      let b = length-set files n other in
      rw (a, b) refl

bytes_set : (files : List File) (n : ℕ) (file other : File) → slice_get files n ≡ Some file → bytes_of (set files n other) + length (text_of file) ≡ bytes_of files + length (text_of other)
bytes_set (first ∷ files) (suc n) file other there = omega (arith, bytes_set files n file other there)
bytes_set files n file other there = grind (arith, common_steps, none-some, same_Some) steps 200000

-- an edit of the edited file that gives its members of before gives the files of before
module _ (edit : Asked) (files between : List File) (is : IsEditOf edit files between) where
  abbrev pub changed : File
  changed = with_members is.file (edited edit is.file.pieces)

  pub number_kept : (name : List ℕ) → file_number between name ≡ file_number files name
  number_kept name = ap (λ fs. file_number fs name) is.is_after ∙ number_set files is.number is.file changed is.placed.file_there.there refl name

  pub names_kept : map (λ file. file.name) between ≡ map (λ file. file.name) files
  names_kept =
      let there = is.placed.file_there.there in
      ap (map (λ (file : File). file.name)) is.is_after
      ∙ map-set_same (λ (file : File). file.name) files is.number changed is.file (sym (ap (λ (file : File). file.name) (get_or_from_slice_get files is.number is.file is.file there)))

  pub changed_there : slice_get between is.number ≡ Some changed
  changed_there = ap (λ fs. slice_get fs is.number) is.is_after ∙ get_set files is.number is.file changed is.placed.file_there.there

  pub given_back : (members : List (List ℕ)) → members ≡ is.file.pieces → files ≡ set between is.number (with_members changed members)
  given_back members same = grind (arith, common_steps, set_back, set-set) steps 200000

  pub bytes_before : bytes_of between + sum_by length is.file.pieces ≡ bytes_of files + sum_by length (edited edit is.file.pieces)
  bytes_before = grind (arith, common_steps, bytes_set files is.number is.file changed is.placed.file_there.there, length-append, size_is) steps 200000

  -- a file of another number is as it was
  pub others_kept : (name : List ℕ) → file_number files name ≢ Some is.number → find_file between name ≡ find_file files name
  others_kept name differs = grind (arith, common_steps, number_kept, get_other) steps 200000

-- the deletion of what was inserted
pub insert_reversed : (name text : List ℕ) (at : ℕ) (files between : List File) → IsEditOf (Insert name at text) files between → IsEditOf (Delete name at) between files
insert_reversed name text at files between is = record {
  number = is.number;
  file = changed (Insert name at text) files between is;
  placed =
      grind (arith, common_steps, changed_there (Insert name at text) files between is, length-insert is.file.pieces at (ended text) is.placed.among, number_kept (Insert name at text) files between is name) steps 200000;
  one_unit = tt;
  is_after = given_back (Insert name at text) files between is (remove (insert is.file.pieces at (ended text)) at) (remove_inserted is.file.pieces at (ended text) is.placed.among);
  within = omega (arith, is.within, bytes_before (Insert name at text) files between is, sum_by-insert length is.file.pieces at (ended text));
}

-- the move back
pub move_reversed : (name : List ℕ) (at to : ℕ) (files between : List File) → IsEditOf (Move name at to) files between → IsEditOf (Move name to at) between files
move_reversed name at to files between is =
    let pieces = is.file.pieces in
    let old = get_or pieces at [] in
    let rest = remove pieces at in
    let short = length-remove pieces at is.placed.among.0 in
    let le : to ≤ length rest = omega (arith, short, is.placed.among.1) in
    let long = length-insert rest to old le in
    record {
      number = is.number;
      file = changed (Move name at to) files between is;
      placed = grind (arith, common_steps, changed_there (Move name at to) files between is, number_kept (Move name at to) files between is name) steps 200000;
      one_unit = tt;
      is_after = search (rules, get_or-insert_at, given_back, insert_removed, remove_inserted);
      within = omega (arith, is.within, bytes_before (Move name at to) files between is, sum_by-insert length rest to old, sum_by-remove length pieces at [] is.placed.among.0);
    }

-- an edit gives one list of files
pub one_after : (edit : Asked) (files a b : List File) → IsEditOf edit files a → IsEditOf edit files b → a ≡ b
one_after edit files a b is other = grind (arith, common_steps, same_Some) steps 200000
