-- One more unit behind all others of the top file: the items of before come first.
use Rattle.std.proofs.lemmas.{Grind.{common_steps}, List.{length-map, map_push, Elements.{Contains-append_left}}, Option.{slice_get-map, same_Some}}
use Rattle.std.proofs.Common.{◌≡◌, ◌≢◌, ℕ, zero, suc, ◌+◌, Some, List, [], ◌∷◌, ◌++◌, length, map, set, refl, sym, ap, ◌∙◌, subst, subst₂, arith, append_assoc, append-nil, Contains, slice_get}
use Rattle.std.specs.{List.{insert}, Option.{option_map}}
use Rattle.mm_text.specs.Language.{Cut.{ended}, Asked.{Asked, Insert}}
use Rattle.mm_store.specs.{declared.item.Item.{Item}, Language.{Appending.{IsAppended}, Edits.{edited}, FilesView.{PieceView, FileView, File, FilesView, files_in, plain, file_number, number_of}}}
use Rattle.mm_store.specs.Language.{Expansion.{Placed, ArePlaced, Expands, nothing, own, again, missing, included, IsExpansion}, Keyless.{bare, bare_file, keyless_item, one_key}}
use Rattle.mm_store.proofs.lemmas.{edits.EditLawLemmas.{changed, changed_there, get_other, number_kept}, expansion.{ExpansionLemmas.{OneReading, OneDivision, placed_one, same}, GoesLemmas.{split}}}
use Rattle.mm_store.proofs.lemmas.{expansion.KeylessLemmas.{expansion_bare}, files.{GrowthLemmas.{name_of_number}, ViewLemmas.{before_map}}}

-- ---- the parts of one more piece

placed_split : (file n : ℕ) (pieces : List PieceView) (piece : PieceView) (parts : List Placed) → ArePlaced file n (pieces ++ piece ∷ []) parts
    → (first : List Placed) × (rest : List Placed) × ArePlaced file n pieces first × (parts ≡ first ++ rest)
placed_split file n [] piece parts are = ([], parts, refl, refl)
placed_split file n (one ∷ pieces) piece parts are =
    let later = placed_split file (n + 1) pieces piece are.1 are.3 in
    (are.0 ++ later.0, later.1, (are.0, later.0, are.2, later.2, refl), are.4 ∙ ap (λ parts. are.0 ++ parts) later.3 ∙ sym (append_assoc are.0 later.0 later.1))

-- ---- files that differ in the top file alone

-- names are only taken
names_grow : {files : List FileView} {parts : List Placed} {names after : List (List ℕ)} {items : List Item} (name : List ℕ) → Expands files parts names items after → Contains names name → Contains after name
names_grow name nothing known = known
names_grow name (own not d) known = names_grow name d known
names_grow name (again is old d) known = names_grow name d known
names_grow name (missing {part = part} {names = names} is new none d) known = names_grow name d (Contains-append_left names (part.name ∷ []) name known)
names_grow name (included {part = part} {names = names} is new at there placed inside d) known = names_grow name d (names_grow name inside (Contains-append_left names (part.name ∷ []) name known))

module _ (a b : List FileView) (top : List ℕ) (number : ℕ) (is_top : number_of a top ≡ Some number)
    (numbers : (name : List ℕ) → number_of b name ≡ number_of a name) (others : (n : ℕ) → n ≢ number → slice_get b n ≡ slice_get a n) where
  -- an included file is not the top file, whose name is taken
  is_other : (names : List (List ℕ)) (name : List ℕ) (n : ℕ) (file : FileView) → Contains names top → ¬ Contains names name → number_of a name ≡ Some n → slice_get a n ≡ Some file → n ≢ number
  is_other names name n file known new at there same =
      let top_is = name_of_number a top number file is_top (subst (λ m. slice_get a m ≡ Some file) same there) in
      new (subst (Contains names) (top_is ∙ sym (name_of_number a name n file at there)) known)

  -- so what parts give is the same
  expands_too : {parts : List Placed} {names after : List (List ℕ)} {items : List Item} → Contains names top → Expands a parts names items after → Expands b parts names items after
  expands_too known nothing = nothing
  expands_too known (own not d) = own not (expands_too known d)
  expands_too known (again is old d) = again is old (expands_too known d)
  expands_too known (missing {part = part} {names = names} is new none d) = missing is new (numbers part.name ∙ none) (expands_too (Contains-append_left names (part.name ∷ []) top known) d)
  expands_too known (included {part = part} {names = names} {number = n} {file = file} is new at there placed inside d) =
      let more = Contains-append_left names (part.name ∷ []) top known in
      included is new (numbers part.name ∙ at) (others n (is_other names part.name n file known new at there) ∙ there) placed (expands_too more inside) (expands_too (names_grow top inside more) d)

-- ---- files and their pieces

put_last : {X : Type 0} (xs : List X) (x : X) → insert xs (length xs) x ≡ xs ++ x ∷ []
put_last [] x = refl
put_last (y ∷ xs) x = ap (λ ys. y ∷ ys) (put_last xs x)

-- a file is as it was, or it is the one with more pieces
begins_in : (files : List File) (k n : ℕ) (one other f g : File) (more : List (List ℕ)) → slice_get files k ≡ Some one → other.pieces ≡ one.pieces ++ more
    → slice_get files n ≡ Some f → slice_get (set files k other) n ≡ Some g → (behind : List (List ℕ)) × (g.pieces ≡ f.pieces ++ behind)
begins_in [] k n one other f g more is longer at there = absurd (cc)
begins_in (x ∷ files) zero zero one other f g more is longer at there =
    grind (arith, common_steps, longer, same_Some other g there, same_Some one f (sym is ∙ at)) steps 200000
begins_in (x ∷ files) zero (suc n) one other f g more is longer at there = ([], ap (λ (file : File). file.pieces) (same_Some g f (sym there ∙ at)) ∙ sym (append-nil f.pieces))
begins_in (x ∷ files) (suc k) zero one other f g more is longer at there = ([], ap (λ (file : File). file.pieces) (same_Some g f (sym there ∙ at)) ∙ sym (append-nil f.pieces))
begins_in (x ∷ files) (suc k) (suc n) one other f g more is longer at there = begins_in files k n one other f g more is longer at there

-- a piece without its key
abbrev bare_piece : List ℕ → PieceView
bare_piece text = record { key = one_key; text = text }

number_bare : (files : List File) (name : List ℕ) → number_of (bare files) name ≡ file_number files name
number_bare files name = grind (arith, common_steps, before_map, length-map) steps 200000

there_bare : (files : List File) (n : ℕ) → slice_get (bare files) n ≡ option_map bare_file (slice_get files n)
there_bare files n = slice_get-map bare_file files n

module _ (name : List ℕ) (old new : List File) (is : IsAppended name old new) where
  -- the pieces after the edit
  longer : edited (Insert name (length is.file.pieces) is.text) is.is_edit.file.pieces ≡ is.is_edit.file.pieces ++ ended is.text ∷ []
  longer = grind (arith, common_steps, put_last, same, same_Some) steps 200000

  -- each file has the pieces that it had, and those of the one file have one more behind them
  pub files_begin : (n : ℕ) (f g : File) → slice_get old n ≡ Some f → slice_get new n ≡ Some g → (more : List (List ℕ)) × (g.pieces ≡ f.pieces ++ more)
  files_begin n f g at there = grind (arith, common_steps, begins_in, longer) steps 200000

  -- what the edit asks, the file that it changes, and that file after it
  abbrev asked : Asked
  asked = Insert name (length is.file.pieces) is.text

  abbrev number : ℕ
  number = is.is_edit.number

  abbrev before : FileView
  before = bare_file is.is_edit.file

  abbrev after : FileView
  after = bare_file (changed asked old new is.is_edit)

  -- without keys: the numbers of names are as they were, and so are all other files
  numbers : (other : List ℕ) → number_of (bare new) other ≡ number_of (bare old) other
  numbers other = number_bare new other ∙ number_kept asked old new is.is_edit other ∙ sym (number_bare old other)

  named : number_of (bare old) name ≡ Some number
  named = number_bare old name ∙ is.is_edit.placed.file_there.named

  others_stay : (n : ℕ) → n ≢ number → slice_get (bare new) n ≡ slice_get (bare old) n
  others_stay n other = there_bare new n ∙ ap (option_map bare_file) (ap (λ files. slice_get files n) is.is_edit.is_after ∙ get_other old number n _ other) ∙ sym (there_bare old n)

  before_there : slice_get (bare old) number ≡ Some before
  before_there = there_bare old number ∙ ap (option_map bare_file) is.is_edit.placed.file_there.there

  after_there : slice_get (bare new) number ≡ Some after
  after_there = there_bare new number ∙ ap (option_map bare_file) (changed_there asked old new is.is_edit)

  one_more : after.pieces ≡ before.pieces ++ bare_piece (ended is.text) ∷ []
  one_more = ap (map bare_piece) longer ∙ map_push bare_piece is.is_edit.file.pieces (ended is.text)

  -- so the items of before come first
  module _ (one_reading : OneReading) (one_division : OneDivision) (items others : List Item) (p : IsExpansion (bare old) name items) (q : IsExpansion (bare new) name others) where
    first : p.number ≡ number
    first = same_Some p.number number (sym p.is_top ∙ named)

    second : q.number ≡ number
    second = same_Some q.number number (sym q.is_top ∙ numbers name ∙ named)

    own_file : p.file ≡ before
    own_file = same_Some p.file before (sym p.there ∙ ap (slice_get (bare old)) first ∙ before_there)

    new_file : q.file ≡ after
    new_file = same_Some q.file after (sym q.there ∙ ap (slice_get (bare new)) second ∙ after_there)

    pieces : q.file.pieces ≡ before.pieces ++ bare_piece (ended is.text) ∷ []
    pieces = ap (λ (file : FileView). file.pieces) new_file ∙ one_more

    begin_bare : (more : List Item) × (others ≡ items ++ more)
    begin_bare =
        let parts = placed_split number 0 before.pieces (bare_piece (ended is.text)) q.parts (subst₂ (λ n all. ArePlaced n 0 all q.parts) second pieces q.placed) in
        let own_placed : ArePlaced number 0 before.pieces p.parts = subst₂ (λ n (file : FileView). ArePlaced n 0 file.pieces p.parts) first own_file p.placed in
        let own_parts : parts.0 ≡ p.parts = placed_one one_reading one_division number 0 before.pieces parts.0 p.parts parts.2 own_placed in
        let whole = split p.parts parts.1 (name ∷ []) q.after others (subst (λ all. Expands (bare new) all (name ∷ []) others q.after) (parts.3 ∙ ap (λ all. all ++ parts.1) own_parts) q.expands) in
        let given = same one_reading one_division (expands_too (bare old) (bare new) name number named numbers others_stay (0, omega arith, refl) p.expands) whole.first in
        (whole.items, whole.joined ∙ ap (λ all. all ++ whole.items) (sym given.0))

-- the items of before come first, but for keys
pub items_begin : OneReading → OneDivision → (old new : FilesView) (top : List ℕ) (items others : List Item) → IsAppended top (plain old) (plain new)
    → IsExpansion (files_in old) top items → IsExpansion (files_in new) top others → (more : List Item) × (map keyless_item others ≡ map keyless_item items ++ more)
items_begin one_reading one_division old new top items others is p q =
    begin_bare top (plain old) (plain new) is one_reading one_division (map keyless_item items) (map keyless_item others) (expansion_bare old top items p) (expansion_bare new top others q)
