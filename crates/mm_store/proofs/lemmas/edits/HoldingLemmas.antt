-- Files each piece of which holds one unit: edits keep this, and keys can be given to the files.
use Rattle.std.proofs.lemmas.{Grind.{common_steps, elements}, List.Elements.{All-nil, All-cons}, Option.{none-some, same_Some, slice_get-map}}
use Rattle.std.proofs.Common.{◌≡◌, ℕ, suc, ◌+◌, ◌<◌, Some, is_some, List, [], ◌∷◌, ◌++◌, length, map, refl, sym, ap, ◌∙◌, subst, arith, All, IsSome, slice_get}
use Rattle.std.specs.{List.{AllByRecursion, insert, remove}, Option.{option_map}}
use Rattle.mm_text.specs.Language.{Cut.{HoldsOneUnit, IsCut, ended}, Asked.{Asked, edited_text, IsAmong}}
use Rattle.mm_store.specs.Language.{Edits.{edited, with_members, BringsOneUnit, HasUnitCount, IsEditOf}, FileFacts.{HoldsPieces}}
use Rattle.mm_store.specs.Language.{FilesView.{File, FileView, FilesView, KeyedFile, PieceView, file_view, files_in, piece_view, plain, plain_file}, Holding.{HoldOneEach}}
use Rattle.mm_store.{specs.{Language.Pieces.{Pieces, HeldPiece, standing_piece, text_in, text_under}, Code.Gains.{HoldUnits}}, proofs.lemmas.files.MapLemmas.{get_put_same, get_put_other}}
use Rattle.mm_store.proofs.lemmas.files.ViewLemmas.{there_from_map}
use Rattle.std.specs.FinMap as finite

-- ---- what holds of each element

module _ {X : Type 0} (P : X → Type 0) where
  pub all_there : (xs : List X) (n : ℕ) (x : X) → AllByRecursion P xs → slice_get xs n ≡ Some x → P x
  all_there (y ∷ xs) (suc n) x h e = all_there xs n x h.1 e
  all_there xs n x h e = grind (arith, common_steps, none-some, same_Some) steps 200000

  all_from : (xs : List X) → ((n : ℕ) (x : X) → slice_get xs n ≡ Some x → P x) → AllByRecursion P xs
  all_from [] f = tt
  all_from (x ∷ xs) f = (f 0 x refl, all_from xs (λ n y e. f (suc n) y e))

  all_joined : (xs ys : List X) → AllByRecursion P xs → AllByRecursion P ys → AllByRecursion P (xs ++ ys)
  all_joined [] ys h k = k
  all_joined (x ∷ xs) ys h k = (h.0, all_joined xs ys h.1 k)

  all_put : (xs : List X) (n : ℕ) (x : X) → AllByRecursion P xs → P x → AllByRecursion P (insert xs n x)
  all_put xs n x h p = grind (arith, common_steps) steps 200000

  all_less : (xs : List X) (n : ℕ) → AllByRecursion P xs → AllByRecursion P (remove xs n)
  all_less xs n h = grind (arith, common_steps, all_joined) steps 200000

-- ---- with keys and without

pub units_held : (view : FilesView) → HoldOneEach (plain view) → HoldUnits (files_in view)
units_held view h number file there n piece here =
    let k = there_from_map (file_view view.pieces) view.keyed number file there in
    let is = slice_get-map (plain_file view.pieces) view.keyed number ∙ ap (option_map (plain_file view.pieces)) k.1 in
    let own : AllByRecursion HoldsOneUnit (plain_file view.pieces k.0).pieces = all_there (λ (file : File). AllByRecursion HoldsOneUnit file.pieces) (plain view) number (plain_file view.pieces k.0) h is in
    let p = there_from_map (piece_view view.pieces) k.0.keys n piece (subst (λ (file : FileView). slice_get file.pieces n ≡ Some piece) k.2 here) in
    let one = all_there HoldsOneUnit (map (text_under view.pieces) k.0.keys) n (text_under view.pieces p.0) own (slice_get-map (text_under view.pieces) k.0.keys n ∙ ap (option_map (text_under view.pieces)) p.1) in
    subst (λ (piece : PieceView). HoldsOneUnit piece.text) (sym p.2) one

pub units_each : (view : FilesView) → HoldUnits (files_in view) → HoldOneEach (plain view)
units_each view hold = all_from (λ (file : File). AllByRecursion HoldsOneUnit file.pieces) (plain view) by_file
  where
    by_piece : (number : ℕ) (file : KeyedFile) → slice_get view.keyed number ≡ Some file → (n : ℕ) (text : List ℕ) → slice_get (map (text_under view.pieces) file.keys) n ≡ Some text → HoldsOneUnit text
    by_piece number file there n text here =
        let p = there_from_map (text_under view.pieces) file.keys n text here in
        let is = slice_get-map (file_view view.pieces) view.keyed number ∙ ap (option_map (file_view view.pieces)) there in
        let at = slice_get-map (piece_view view.pieces) file.keys n ∙ ap (option_map (piece_view view.pieces)) p.1 in
        subst HoldsOneUnit (sym p.2) (hold number (file_view view.pieces file) is n (piece_view view.pieces p.0) at)

    by_file : (number : ℕ) (file : File) → slice_get (plain view) number ≡ Some file → AllByRecursion HoldsOneUnit file.pieces
    by_file number file there =
        let k = there_from_map (plain_file view.pieces) view.keyed number file there in
        subst (λ (file : File). AllByRecursion HoldsOneUnit file.pieces) (sym k.2) (all_from HoldsOneUnit (map (text_under view.pieces) k.0.keys) (by_piece number k.0 k.1))

-- ---- edits

abbrev pub OneUnitOfCut : Type 0
OneUnitOfCut = (text piece tail : List ℕ) → IsCut text (piece ∷ []) tail → HoldsOneUnit (ended text)

one_of : OneUnitOfCut → (text : List ℕ) (pieces : List (List ℕ)) (tail : List ℕ) → IsCut text pieces tail → length pieces ≡ 1 → HoldsOneUnit (ended text)
one_of law text (piece ∷ []) tail cut count = law text piece tail cut
one_of law text _ tail cut count = absurd (omega arith)

brought : OneUnitOfCut → (text : List ℕ) → HasUnitCount text 1 → HoldsOneUnit (ended text)
brought law text has = one_of law text has.pieces has.tail has.is_cut has.is_count

pub edited_each : OneUnitOfCut → (edit : Asked) (pieces : List (List ℕ)) → AllByRecursion HoldsOneUnit pieces → IsAmong edit (length pieces) → BringsOneUnit (edited_text edit) → AllByRecursion HoldsOneUnit (edited edit pieces)
edited_each law edit pieces h among one = grind (arith, common_steps, all_put, brought, all_less) steps 200000

pub edits_keep : OneUnitOfCut → (edit : Asked) (files after : List File) → HoldOneEach files → IsEditOf edit files after → HoldOneEach after
edits_keep law edit files after h is = grind (arith, common_steps, all_there, edited_each) steps 200000

-- ---- keys that are given to files

abbrev keys_from : ℕ → List (List ℕ) → List ℕ
keys_from n [] = []
keys_from n (text ∷ texts) = n ∷ keys_from (suc n) texts

abbrev keyed_from : ℕ → List File → List KeyedFile
keyed_from n [] = []
keyed_from n (file ∷ files) = record { name = file.name; keys = keys_from n file.pieces; tail = file.tail } ∷ keyed_from (n + length file.pieces) files

abbrev all_texts : List File → List (List ℕ)
all_texts [] = []
all_texts (file ∷ files) = file.pieces ++ all_texts files

abbrev table : ℕ → List (List ℕ) → Pieces
table n [] = finite.empty
table n (text ∷ texts) = finite.insert (table (suc n) texts) n (standing_piece text)

-- the texts are under the keys from one on
abbrev Under : Pieces → ℕ → List (List ℕ) → Type 0
Under p n [] = Unit {0}
Under p n (text ∷ texts) = (finite.get p n ≡ Some (standing_piece text)) × Under p (suc n) texts

under_put : (p : Pieces) (k : ℕ) (v : HeldPiece) (n : ℕ) (texts : List (List ℕ)) → k < n → Under p n texts → Under (finite.insert p k v) n texts
under_put p k v n [] l h = tt
under_put p k v n (text ∷ texts) l h = (get_put_other p k v n (λ e. (omega (arith, l, e))) ∙ h.0, under_put p k v (suc n) texts (omega (arith, l)) h.1)

table_under : (n : ℕ) (texts : List (List ℕ)) → Under (table n texts) n texts
table_under n [] = tt
table_under n (text ∷ texts) = (get_put_same (table (suc n) texts) n (standing_piece text), under_put (table (suc n) texts) n (standing_piece text) (suc n) texts (omega arith) (table_under (suc n) texts))

under_split : (p : Pieces) (n : ℕ) (xs ys : List (List ℕ)) → Under p n (xs ++ ys) → Under p n xs × Under p (n + length xs) ys
under_split p n [] ys h = grind (arith, elements) steps 200000
under_split p n (x ∷ xs) ys h = grind (arith, common_steps, under_split p (suc n) xs ys h.1) steps 200000

texts_under : (p : Pieces) (n : ℕ) (texts : List (List ℕ)) → Under p n texts → map (text_under p) (keys_from n texts) ≡ texts
texts_under p n [] h = refl
texts_under p n (text ∷ texts) h = ap (λ (t : List ℕ). t ∷ map (text_under p) (keys_from (suc n) texts)) (ap text_in h.0) ∙ ap (λ ts. text ∷ ts) (texts_under p (suc n) texts h.1)

keys_held : (p : Pieces) (n : ℕ) (texts : List (List ℕ)) → Under p n texts → All (λ key. IsSome (finite.get p key)) (keys_from n texts)
keys_held p n [] h = All-nil (λ key. IsSome (finite.get p key))
keys_held p n (text ∷ texts) h = All-cons (λ key. IsSome (finite.get p key)) n (keys_from (suc n) texts) (ap is_some h.0) (keys_held p (suc n) texts h.1)

files_plain : (p : Pieces) (n : ℕ) (files : List File) → Under p n (all_texts files) → map (plain_file p) (keyed_from n files) ≡ files
files_plain p n [] h = refl
files_plain p n (file ∷ files) h =
    let s = under_split p n file.pieces (all_texts files) h in
    let first : plain_file p (record { name = file.name; keys = keys_from n file.pieces; tail = file.tail }) ≡ file = ap (λ (pieces : List (List ℕ)). with_members file pieces) (texts_under p n file.pieces s.0) in
    ap (λ (f : File). f ∷ map (plain_file p) (keyed_from (n + length file.pieces) files)) first ∙ ap (λ fs. file ∷ fs) (files_plain p (n + length file.pieces) files s.1)

files_held : (p : Pieces) (n : ℕ) (files : List File) → Under p n (all_texts files) → All (λ (file : KeyedFile). All (λ key. IsSome (finite.get p key)) file.keys) (keyed_from n files)
files_held p n [] h = All-nil (λ (file : KeyedFile). All (λ key. IsSome (finite.get p key)) file.keys)
files_held p n (file ∷ files) h =
    let s = under_split p n file.pieces (all_texts files) h in
    All-cons (λ (file : KeyedFile). All (λ key. IsSome (finite.get p key)) file.keys) (record { name = file.name; keys = keys_from n file.pieces; tail = file.tail })
    (keyed_from (n + length file.pieces) files) (keys_held p n file.pieces s.0) (files_held p (n + length file.pieces) files s.1)

pub keys_given : (files : List File) → (view : FilesView) × HoldsPieces view × (plain view ≡ files)
keys_given files =
    let all = all_texts files in
    let u = table_under 0 all in
    (record { keyed = keyed_from 0 files; pieces = table 0 all }, files_held (table 0 all) 0 files u, files_plain (table 0 all) 0 files u)
