-- What the files weigh whose names are not taken. Each inclusion of a file takes its name, and its weight with it.
use Rattle.std.proofs.lemmas.{Grind.{common_steps}, Bool.{false≢true}, Slice.Eq.{bytes_eq-Decides}, List.{map-id, Elements.{Contains-append_right}}, Option.{none-some, same_Some}, Simd.{map-map}}
use Rattle.std.proofs.Common.{◌≡◌, ℕ, zero, suc, ◌+◌, ◌≤◌, Bool, true, false, ◌||◌, List, [], ◌∷◌, ◌++◌, Some, length, map, refl, sym, ap, ◌∙◌, arith, length-append, Contains, if◌then◌else◌}
use Rattle.std.{proofs.Common.{slice_get}, specs.{List.{list_any, concat}, Str.{bytes_eq}}}
use Rattle.mm_store.specs.{declared.item.Item.{Item}, Language.{Keyless.{bare, one_key}, Pieces.{text_under}, Walking.{Goes, IsWalk, WalkView}}}
use Rattle.mm_store.specs.Language.FilesView.{File, KeyedFile, FileView, FilesView, PieceView, files_in, file_view, piece_texts, plain, plain_file, bytes_of}
use Rattle.mm_store.{specs.Language.Expansion.{Placed, Expands, nothing, own, again, missing, included, IsExpansion}, proofs.lemmas.expansion.CountLemmas.{placed_few}}
use Rattle.mm_store.proofs.lemmas.files.GrowthLemmas.{name_of_number}
use Rattle.mm_store.specs.Language.Walking as walking

abbrev pub is_among : List ℕ → List (List ℕ) → Bool
is_among name names = list_any (λ other. bytes_eq name other) names

contains_case : (name other : List ℕ) (names : List (List ℕ)) (b : Bool) → bytes_eq name other ≡ b → (b || is_among name names) ≡ true → (is_among name names ≡ true → Contains names name) → Contains (other ∷ names) name
contains_case name other names true e h later = (0, omega arith, sym ((bytes_eq-Decides name other).0 e))
contains_case name other names false e h later = Contains-append_right (other ∷ []) names name (later h)

pub contains_from_among : (name : List ℕ) (names : List (List ℕ)) → is_among name names ≡ true → Contains names name
contains_from_among name [] h = absurd (false≢true h)
contains_from_among name (other ∷ names) h = contains_case name other names (bytes_eq name other) refl h (contains_from_among name names)

pub among_from_contains : (name : List ℕ) (names : List (List ℕ)) → Contains names name → is_among name names ≡ true
among_from_contains name [] h = absurd (omega (arith, h.1))
among_from_contains name (other ∷ names) h = grind (arith, common_steps, among_from_contains name names, false≢true, bytes_eq-Decides) steps 200000

module _ (w : FileView → ℕ) where
  abbrev pub weight : List FileView → List (List ℕ) → ℕ
  weight [] names = 0
  weight (file ∷ files) names = (if is_among file.name names then 0 else w file) + weight files names

  pub weight_less : (files : List FileView) (names : List (List ℕ)) (name : List ℕ) → weight files (names ++ name ∷ []) ≤ weight files names
  weight_less [] names name = omega arith
  weight_less (file ∷ files) names name = grind (arith, common_steps, weight_less files names name, among_from_contains, contains_from_among) steps 200000

  -- a file whose name is taken weighs no more
  weight_taken : (files : List FileView) (names : List (List ℕ)) (n : ℕ) (file : FileView) → slice_get files n ≡ Some file → is_among file.name names ≡ false → weight files (names ++ file.name ∷ []) + w file ≤ weight files names
  weight_taken [] names n file there new = absurd (none-some file there)
  weight_taken (other ∷ files) names zero file there new =
      let same : file ≡ other = same_Some file other (sym there) in
      let taken : is_among other.name (names ++ file.name ∷ []) ≡ true =
      among_from_contains other.name (names ++ file.name ∷ []) (Contains-append_right names (file.name ∷ []) other.name (0, omega arith, ap (λ (file : FileView). file.name) same)) in
      let fresh : is_among other.name names ≡ false = ap (λ (file : FileView). is_among file.name names) (sym same) ∙ new in
      let a : (if is_among other.name (names ++ file.name ∷ []) then 0 else w other) ≡ 0 = ap (λ b. if b then 0 else w other) taken in
      let b : (if is_among other.name names then 0 else w other) ≡ w other = ap (λ b. if b then 0 else w other) fresh in
      omega (arith, a, b, ap w same, weight_less files names file.name)
  weight_taken (other ∷ files) names (suc n) file there new =
      grind (arith, common_steps, weight_taken files names n file there new, among_from_contains, contains_from_among) steps 200000

  pub weight_entered : (files : List FileView) (names : List (List ℕ)) (name : List ℕ) (n : ℕ) (file : FileView) → slice_get files n ≡ Some file
      → name ≡ file.name → ¬ Contains names name → weight files (names ++ name ∷ []) + w file ≤ weight files names
  weight_entered files names name n file there is new = grind (arith, common_steps, contains_from_among, weight_taken) steps 200000

-- the bytes of the pieces of a file
abbrev pub piece_bytes : FileView → ℕ
piece_bytes file = length (concat (piece_texts file.pieces))

-- items are no more than the parts that give them, and the bytes of the files that are included
pub expands_few : {files : List FileView} {parts : List Placed} {names after : List (List ℕ)} {items : List Item} → Expands files parts names items after → length items + weight piece_bytes files after ≤ length parts + weight piece_bytes files names
expands_few nothing = omega arith
expands_few (own not d) = omega (arith, expands_few d)
expands_few (again is old d) = omega (arith, expands_few d)
expands_few {files} (missing {part = part} {names = names} is new none d) = omega (arith, expands_few d, weight_less piece_bytes files names part.name)
expands_few {files} (included {part = part} {inner = inner} {names = names} {gained = gained} {items = items} {number = number} {file = file} is new at there placed inside d) =
    grind (arith, common_steps, expands_few inside, expands_few d, length-append, name_of_number, placed_few, weight_entered) steps 200000

-- all files weigh no more than all of their pieces
abbrev pub all_bytes : List FileView → ℕ
all_bytes [] = 0
all_bytes (file ∷ files) = piece_bytes file + all_bytes files

weight_all : (files : List FileView) → weight piece_bytes files [] ≤ all_bytes files
weight_all [] = omega arith
weight_all (file ∷ files) = omega (arith, weight_all files)

-- so are the names that are taken, and the parts that are left
goes_few : {files : List FileView} {parts rest : List Placed} {names after : List (List ℕ)} {items : List Item} → Goes files parts names items rest after
    → length after + length rest + weight piece_bytes files after ≤ length names + length parts + weight piece_bytes files names
goes_few walking.here = omega arith
goes_few (walking.own not d) = omega (arith, goes_few d)
goes_few (walking.again is old d) = omega (arith, goes_few d)
goes_few {files} (walking.missing {part = part} {names = names} is new none d) =
    grind (arith, common_steps, goes_few d, length-append, weight_less) steps 200000
goes_few {files} (walking.included {part = part} {parts = parts} {names = names} {number = number} {file = file} inner is new at there placed d) =
    omega (
      arith,
      goes_few d,
      placed_few number 0 file.pieces inner placed,
      weight_entered piece_bytes files names part.name number file there (name_of_number files part.name number file at there) new,
      length-append names (part.name ∷ []),
      length-append inner parts,
    )

pub walk_few : (files : List FileView) (top : List ℕ) (items : List Item) (walk : WalkView) → IsWalk files top items walk → length walk.names ≤ all_bytes files + 1
walk_few files top items walk is =
    omega (
      arith,
      goes_few is.goes,
      placed_few is.number 0 is.file.pieces is.parts is.placed,
      weight_all files,
      weight_entered piece_bytes files [] top is.number is.file is.there (name_of_number files top is.number is.file is.is_top is.there) (λ h. (omega (arith, h.1))),
    )

pub expansion_few : (files : List FileView) (top : List ℕ) (items : List Item) → IsExpansion files top items → length items ≤ all_bytes files
expansion_few files top items is =
    omega (
      arith,
      expands_few is.expands,
      placed_few is.number 0 is.file.pieces is.parts is.placed,
      weight_all files,
      weight_entered piece_bytes files [] top is.number is.file is.there (name_of_number files top is.number is.file is.is_top is.there) (λ h. (omega (arith, h.1))),
    )

-- the bytes of the pieces are no more than those of the texts
pub bare_few : (files : List File) → all_bytes (bare files) ≤ bytes_of files
bare_few [] = omega arith
bare_few (file ∷ files) =
    omega (
      arith,
      bare_few files,
      length-append (concat file.pieces) file.tail,
      ap (λ (texts : List (List ℕ)). length (concat texts)) (map-map (λ (piece : PieceView). piece.text) (λ text. record { key = one_key; text = text }) file.pieces ∙ map-id file.pieces),
    )

pub bytes_few : (view : FilesView) → all_bytes (files_in view) ≤ bytes_of (plain view)
bytes_few view = few view.keyed
  where
    few : (keyed : List KeyedFile) → all_bytes (map (file_view view.pieces) keyed) ≤ bytes_of (map (plain_file view.pieces) keyed)
    few [] = omega arith
    few (file ∷ keyed) = grind (arith, common_steps, few keyed, length-append (concat (map (text_under view.pieces) file.keys)) file.tail, map-map) steps 200000
