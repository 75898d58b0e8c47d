-- Keys in lists of files, and what the files mean.
use Rattle.std.proofs.lemmas.{Grind.{common_steps}, Bool.Decides.{nat_tests}, List.{get_or-map, length-map, Sums.{sum_by-cons, sum_by-insert, sum_by-set, get_or-le-sum_by}}}
use Rattle.std.{proofs.Common.{◌≡◌, ◌≢◌, ℕ, suc, ◌+◌, ◌<◌, ◌≤◌, List, [], ◌∷◌, length, map, get_or, set, refl, ap, ◌∙◌, arith, length-append}, specs.List.{concat, sum_by, insert, remove}}
use Rattle.mm_store.specs.{Code.{Edited.{pieces_in, with_pieces}, Kept.{one, times, places}}, Language.{FilesView.{File, KeyedFile, plain_file, bytes_of}, Pieces.{Pieces, text_under}}}
use Rattle.mm_store.specs.Language.Undoing.{keys_in, with_keys}

pub one_same : (k : ℕ) → one k k ≡ 1
one_same k = grind (arith, nat_tests)

pub one_other : (k x : ℕ) → k ≢ x → one k x ≡ 0
one_other k x differs = grind (arith, nat_tests)

pub times_at : (keys : List ℕ) (at d : ℕ) → at < length keys → 1 ≤ times (get_or keys at d) keys
times_at keys at d lt = omega (arith, one_same (get_or keys at d), get_or-le-sum_by (one (get_or keys at d)) keys at d lt)

pub places_with : (q : ℕ) (files : List KeyedFile) (n : ℕ) (keys : List ℕ) → n < length files → places q (with_keys files n keys) + times q (keys_in files n) ≡ places q files + times q keys
places_with q (file ∷ files) (suc n) keys lt = omega (arith, places_with q files n keys (omega arith))
places_with q files n keys lt = grind (arith, common_steps) steps 200000

pub places_in : (q : ℕ) (files : List KeyedFile) (n : ℕ) → times q (keys_in files n) ≤ places q files
places_in q (file ∷ files) (suc n) = omega (arith, places_in q files n)
places_in q _ _ = omega arith

pub in_files : (files : List KeyedFile) (n at : ℕ) → at < length (keys_in files n) → n < length files
in_files (file ∷ files) (suc n) at lt = omega (arith, in_files files n at lt)
in_files files n at lt = grind (arith, common_steps) steps 200000

-- keys once more, and the keys that are there
pub with_with : (files : List KeyedFile) (n : ℕ) (a b : List ℕ) → with_keys (with_keys files n a) n b ≡ with_keys files n b
with_with (file ∷ files) (suc n) a b = ap (λ fs. file ∷ fs) (with_with files n a b)
with_with _ _ a b = refl

pub with_same : (files : List KeyedFile) (n : ℕ) → with_keys files n (keys_in files n) ≡ files
with_same (file ∷ files) (suc n) = ap (λ fs. file ∷ fs) (with_same files n)
with_same _ _ = refl

pub keys_with : (files : List KeyedFile) (n : ℕ) (a : List ℕ) → n < length files → keys_in (with_keys files n a) n ≡ a
keys_with (file ∷ files) (suc n) a lt = keys_with files n a (omega arith)
keys_with files n a lt = grind (arith, common_steps) steps 200000

-- what a change back gives
pub back : (files : List KeyedFile) (n : ℕ) (a b : List ℕ) → b ≡ keys_in files n → with_keys (with_keys files n a) n b ≡ files
back files n a b is = with_with files n a b ∙ ap (with_keys files n) is ∙ with_same files n

-- what keys of the files, or of one, become by functions that agree on them
pub map_kept : {X : Type 0} (f g : ℕ → X) (keys : List ℕ) → ((q : ℕ) → 1 ≤ times q keys → g q ≡ f q) → map g keys ≡ map f keys
map_kept f g [] same = refl
map_kept f g (k ∷ keys) same =
    grind (arith, common_steps, map_kept f g keys (λ q some. same q (omega (arith, some, sum_by-cons (one q) k keys))), one_same, sum_by-cons) steps 200000

pub plain_kept : (p p' : Pieces) (files : List KeyedFile) → ((q : ℕ) → 1 ≤ places q files → text_under p' q ≡ text_under p q) → map (plain_file p') files ≡ map (plain_file p) files
plain_kept p p' [] same = refl
plain_kept p p' (file ∷ files) same = grind (arith, common_steps, plain_kept p p' files (λ q some. same q (omega (arith, some))), map_kept) steps 200000

module _ (p p' : Pieces) (k : ℕ) (same : (q : ℕ) → q ≢ k → text_under p' q ≡ text_under p q) where
  pub texts_same : (keys : List ℕ) → times k keys ≡ 0 → map (text_under p') keys ≡ map (text_under p) keys
  texts_same keys none = map_kept (text_under p) (text_under p') keys (λ q some. same q (λ e. omega (arith, some, none, ap (λ q. times q keys) e)))

  pub plain_same : (files : List KeyedFile) → places k files ≡ 0 → map (plain_file p') files ≡ map (plain_file p) files
  plain_same files none = plain_kept p p' files (λ q some. same q (λ e. omega (arith, some, none, ap (λ q. places q files) e)))

pub plain_with : (p : Pieces) (files : List KeyedFile) (n : ℕ) (keys : List ℕ) → map (plain_file p) (with_keys files n keys) ≡ with_pieces (map (plain_file p) files) n (map (text_under p) keys)
plain_with p (file ∷ files) (suc n) keys = ap (λ fs. plain_file p file ∷ fs) (plain_with p files n keys)
plain_with p _ _ keys = refl

pub plain_pieces : (p : Pieces) (files : List KeyedFile) (n : ℕ) → pieces_in (map (plain_file p) files) n ≡ map (text_under p) (keys_in files n)
plain_pieces p (file ∷ files) (suc n) = plain_pieces p files n
plain_pieces p _ _ = refl

-- how many bytes these texts have
abbrev pub size : List (List ℕ) → ℕ
size texts = sum_by length texts

pub size_is : (texts : List (List ℕ)) → length (concat texts) ≡ size texts
size_is [] = refl
size_is (text ∷ texts) = omega (arith, length-append text (concat texts), sum_by-cons length text texts, size_is texts)

pub bytes_with : (files : List File) (n : ℕ) (texts : List (List ℕ)) → n < length files → bytes_of (with_pieces files n texts) + size (pieces_in files n) ≡ bytes_of files + size texts
bytes_with (file ∷ files) (suc n) texts lt = omega (arith, bytes_with files n texts (omega arith))
bytes_with files n texts lt = grind (arith, common_steps, length-append, size_is) steps 200000

-- no text of a piece is longer than all texts
pub text_within : (p : Pieces) (files : List KeyedFile) (n at : ℕ) → at < length (keys_in files n) → length (text_under p (get_or (keys_in files n) at 0)) ≤ bytes_of (map (plain_file p) files)
text_within p files n at there =
    let all = map (plain_file p) files in
    let same = plain_pieces p files n in
    let pieces = pieces_in all n in
    let long : n < length all = omega (arith, length-map files (plain_file p), in_files files n at there) in
    let within : at < length pieces = omega (arith, ap length same, length-map (keys_in files n) (text_under p)) in
    let read : get_or pieces at [] ≡ text_under p (get_or (keys_in files n) at 0) = ap (λ ts. get_or ts at []) same ∙ get_or-map (text_under p) (keys_in files n) at 0 [] there in
    omega (arith, bytes_with all n [] long, get_or-le-sum_by length pieces at [] within, ap length read)

-- the bytes after an insertion
pub bytes_more : (files : List File) (n at : ℕ) (text : List ℕ) → n < length files → bytes_of (with_pieces files n (insert (pieces_in files n) at text)) ≡ bytes_of files + length text
bytes_more files n at text lt = omega (arith, bytes_with files n (insert (pieces_in files n) at text) lt, sum_by-insert length (pieces_in files n) at text)

-- the bytes after a replacement
pub bytes_other : (files : List File) (n at : ℕ) (text : List ℕ) → n < length files → at < length (pieces_in files n)
    → bytes_of (with_pieces files n (set (pieces_in files n) at text)) + length (get_or (pieces_in files n) at []) ≡ bytes_of files + length text
bytes_other files n at text lt there = omega (arith, bytes_with files n (set (pieces_in files n) at text) lt, sum_by-set length (pieces_in files n) at text [] there)

pub read_member : (p : Pieces) (files : List KeyedFile) (n at : ℕ) → at < length (keys_in files n) → get_or (pieces_in (map (plain_file p) files) n) at [] ≡ text_under p (get_or (keys_in files n) at 0)
read_member p files n at there = ap (λ ts. get_or ts at []) (plain_pieces p files n) ∙ get_or-map (text_under p) (keys_in files n) at 0 [] there

pub count_members : (p : Pieces) (files : List KeyedFile) (n : ℕ) → length (pieces_in (map (plain_file p) files) n) ≡ length (keys_in files n)
count_members p files n = ap length (plain_pieces p files n) ∙ length-map (keys_in files n) (text_under p)

-- the members of a file are no longer than all texts
pub members_within : (files : List File) (n : ℕ) → length (concat (pieces_in files n)) ≤ bytes_of files
members_within (file ∷ files) (suc n) = omega (arith, members_within files n)
members_within files n = grind (arith, common_steps, length-append) steps 200000

-- a member put in and taken out, or taken out and put back
module _ {X : Type 0} where
  pub remove_inserted : (xs : List X) (i : ℕ) (x : X) → i ≤ length xs → remove (insert xs i x) i ≡ xs
  remove_inserted (y ∷ xs) (suc i) x le = ap (λ ys. y ∷ ys) (remove_inserted xs i x (omega arith))
  remove_inserted xs i x le = grind (arith, common_steps) steps 200000

  pub insert_removed : (xs : List X) (i : ℕ) (d : X) → i < length xs → insert (remove xs i) i (get_or xs i d) ≡ xs
  insert_removed (y ∷ xs) (suc i) d lt = ap (λ ys. y ∷ ys) (insert_removed xs i d (omega arith))
  insert_removed xs i d lt = grind (arith, common_steps) steps 200000
