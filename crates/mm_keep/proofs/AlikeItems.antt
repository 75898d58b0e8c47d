-- Items that are alike, of files that begin alike: the same bytes of the same pieces, which are one item, at one place.
use Rattle.std.proofs.Common.{rules, ◌≡◌, ℕ, zero, suc, ◌+◌, ◌≤◌, List, [], ◌∷◌, ◌++◌, Some, length, count_by, map, take, slice_get, slice_range, refl, sym, ap, ◌∙◌, subst, arith, length-append}
use Rattle.std.{proofs.lemmas.{Grind.{common_steps}, List.{take-append-le, Folds.{concat-append}}, Option.{slice_get-map, slice_get_within, same_Some}}, specs.List.{after_last, concat}}
use Rattle.std.specs.Option.{option_map}
use Rattle.mm_proof.specs.mm_text.{declared.word.Word.{Word}, Language.{Place.{column_at, is_line_feed, line_at}, Reading.{HasWords}, Stretch.{moved}, Unit.{tokens_of}}}
use Rattle.mm_proof.specs.mm_store.Language.{Pieces.{text_in, text_under}, FilesView.{FilesView, File, plain, plain_file, text_of}, FileFacts.{CanBeRead, IsByte, StandsIn, piece_offset}}
use Rattle.mm_proof.specs.{mm_store.Language.Keyless.{keyless_item}, mm_statement.Language.{Database.{Located}, Locating.{IsLocated}, Statement.{Says, item_of, kind_of}}}
use Rattle.mm_keep.{specs.{declared.finding.At.{At}, Code.KeyedTold.{word_spelling}, Language.WordPlaces.{HasPlace, start_of}}, proofs.PlacedLemmas.{begins_there, spelled_there}}
use Rattle.mm_keep.proofs.SpotLemmas.{letter_within, own_text, word_is_byte}
use Rattle.mm_proof.specs.mm_store.declared.item.Item as store

-- a text has one list of words
abbrev pub OneReading : Type 0
OneReading = (text : List ℕ) (a b : List Word) → HasWords text a → HasWords text b → a ≡ b

-- each file has the pieces of the file with its number among the others, which may have more behind them
abbrev pub BeginAlike : List File → List File → Type 0
BeginAlike files others = (n : ℕ) (file other : File) → slice_get files n ≡ Some file → slice_get others n ≡ Some other → (more : List (List ℕ)) × (other.pieces ≡ file.pieces ++ more)

-- an item each of files that begin alike, the same but for its key
pub record AreAlike (a b : FilesView) (x y : store.Item) : Type 0 where
  pub files : BeginAlike (plain a) (plain b)
  pub item : keyless_item x ≡ keyless_item y
  pub first : StandsIn a x
  pub second : StandsIn b y

-- ---- lists that begin alike

pub got_before : {X : Type 0} (xs ys : List X) (n : ℕ) (x : X) → slice_get xs n ≡ Some x → slice_get (xs ++ ys) n ≡ Some x
got_before [] ys n x there = absurd (cc)
got_before (z ∷ xs) ys zero x there = there
got_before (z ∷ xs) ys (suc n) x there = got_before xs ys n x there

-- a text and those before it are no longer than all texts
joined_within : (texts : List (List ℕ)) (n : ℕ) (text : List ℕ) → slice_get texts n ≡ Some text → length (concat (take n texts)) + length text ≤ length (concat texts)
joined_within [] n text there = absurd (cc)
joined_within (one ∷ texts) zero text there = omega (arith, ap length (same_Some one text there), length-append one (concat texts))
joined_within (one ∷ texts) (suc n) text there = omega (arith, joined_within texts n text there, length-append one (concat texts), length-append one (concat (take n texts)))

-- ---- the bytes of items

-- the text of the piece that an item is in
piece_there : (files : FilesView) (item : store.Item) (stands : StandsIn files item) → slice_get (plain_file files.pieces stands.file).pieces item.piece ≡ Some (text_under files.pieces item.key.at)
piece_there files item stands = slice_get-map (text_under files.pieces) stands.file.keys item.piece ∙ ap (option_map (text_under files.pieces)) stands.is_key

file_there : (files : FilesView) (item : store.Item) (stands : StandsIn files item) → slice_get (plain files) item.file ≡ Some (plain_file files.pieces stands.file)
file_there files item stands = slice_get-map (plain_file files.pieces) files.keyed item.file ∙ ap (option_map (plain_file files.pieces)) stands.there

-- the text under the key of an item is the one that the item is read in
read_under : (files : FilesView) (item : store.Item) → (r : CanBeRead files item) → r.text ≡ text_under files.pieces item.key.at
read_under files item r = r.live.is_text ∙ sym (ap text_in r.live.held)

-- the bytes of an item
abbrev pub bytes_in : List ℕ → store.Item → List ℕ
bytes_in text item = slice_range text item.start item.end

module _ (a b : FilesView) (x y : store.Item) (alike : AreAlike a b x y) where
  same_number : x.file ≡ y.file
  same_number = ap (λ (item : store.Item). item.file) alike.item

  same_place : x.piece ≡ y.piece
  same_place = ap (λ (item : store.Item). item.piece) alike.item

  -- the files that they are in
  more_pieces : (file other : File) → slice_get (plain a) x.file ≡ Some file → slice_get (plain b) y.file ≡ Some other → (more : List (List ℕ)) × (other.pieces ≡ file.pieces ++ more)
  more_pieces file other at there = alike.files x.file file other at (ap (slice_get (plain b)) same_number ∙ there)

  -- their pieces have the same text
  same_piece : text_under a.pieces x.key.at ≡ text_under b.pieces y.key.at
  same_piece =
      let file = plain_file a.pieces alike.first.file in
      let other = plain_file b.pieces alike.second.file in
      let more = more_pieces file other (file_there a x alike.first) (file_there b y alike.second) in
      let text = text_under a.pieces x.key.at in
      let mine : slice_get other.pieces x.piece ≡ Some text = ap (λ pieces. slice_get pieces x.piece) more.1 ∙ got_before file.pieces more.0 x.piece text (piece_there a x alike.first) in
      same_Some text (text_under b.pieces y.key.at) (sym mine ∙ ap (slice_get other.pieces) same_place ∙ piece_there b y alike.second)

  pub same_bytes : (s : CanBeRead a x) (t : CanBeRead b y) → bytes_in s.text x ≡ bytes_in t.text y
  same_bytes s t = ap (λ text. bytes_in text x) (read_under a x s ∙ same_piece ∙ sym (read_under b y t)) ∙ ap (λ (z : store.Item). bytes_in t.text z) alike.item

  -- a byte of the one and the same byte of the other
  module _ (m n : ℕ) (text other : List ℕ) (at there : ℕ) (number : m ≡ n) (f : IsByte a x.file x.piece m text at) (g : IsByte b y.file y.piece n other there) where
    more : (more : List (List ℕ)) × (g.file.pieces ≡ f.file.pieces ++ more)
    more = more_pieces f.file g.file f.there g.there

    -- have one place in their files
    pub same_offset : at ≡ there
    same_offset = grind (arith, common_steps, same_place, slice_get_within, take-append-le) steps 200000

    -- and the same bytes before them
    pub same_front : take at text ≡ take there other
    same_front = search (rules, concat-append, joined_within, same_offset, take-append-le)

  -- ---- their words

  module _ (one_reading : OneReading) where
    pub same_words : (s : CanBeRead a x) (t : CanBeRead b y) → s.words ≡ t.words
    same_words s t = one_reading (bytes_in t.text y) s.words t.words (subst (λ bytes. HasWords bytes s.words) (same_bytes s t) s.has_words) t.has_words

-- ---- an item where it stands

-- alike items are one item where they stand
pub same_located : OneReading → (a b : FilesView) (x y : store.Item) (one two : Located) → AreAlike a b x y → IsLocated a x one → IsLocated b y two → Says a x one.said → Says b y two.said → one ≡ two
same_located reading a b x y one two alike here there says tells =
    let tokens : tokens_of (bytes_in says.read.text x) says.read.words ≡ tokens_of (bytes_in tells.read.text y) tells.read.words =
    (λ i. tokens_of (same_bytes a b x y alike says.read tells.read i) (same_words a b x y alike reading says.read tells.read i)) in
    let file : one.file ≡ two.file = here.file ∙ (λ i. (alike.item i).file) ∙ sym there.file in
    let piece : one.piece ≡ two.piece = here.piece ∙ (λ i. (alike.item i).piece) ∙ sym there.piece in
    let words : one.words ≡ two.words = here.words says.read ∙ (λ i. map (moved (alike.item i).start) (tokens i)) ∙ sym (there.words tells.read) in
    let said : one.said ≡ two.said = says.is ∙ (λ i. item_of (kind_of (alike.item i).kind) (tokens i)) ∙ sym tells.is in
    λ i. record { file = file i; piece = piece i; words = words i; said = said i }

-- and a byte of its words has one place in both files
pub place_stays : (a b : FilesView) (x y : store.Item) (one : Located) → AreAlike a b x y → IsLocated a x one → IsLocated b y one → (word letter : ℕ) (at other : At)
    → HasPlace (plain a) one word letter at → HasPlace (plain b) one word letter other → at ≡ other
place_stays a b x y one alike here there word letter at other f g =
    let m = start_of one (slice_get one.words word) + letter in
    let read = here.read in
    let less : letter ≤ length (word_spelling (bytes_in read.text x) (slice_get read.words word)) = subst (λ (bytes : List ℕ). letter ≤ length bytes) (spelled_there a x one here read word) f.within in
    let inside : m ≤ x.end = omega (arith, letter_within a x read word letter less, begins_there a x one here read word) in
    let first = plain_file a.pieces alike.first.file in
    let second = plain_file b.pieces alike.second.file in
    let mine : f.file ≡ first = same_Some f.file first (sym f.there ∙ ap (slice_get (plain a)) here.file ∙ file_there a x alike.first) in
    let yours : g.file ≡ second = same_Some g.file second (sym g.there ∙ ap (slice_get (plain b)) there.file ∙ file_there b y alike.second) in
    let byte = word_is_byte a x read read.text (own_text a x read) alike.first m inside in
    let copy = word_is_byte b y there.read there.read.text (own_text b y there.read) alike.second m (subst (λ (item : store.Item). m ≤ item.end) alike.item inside) in
    let front = same_front a b x y alike m m _ _ _ _ refl byte copy in
    let line : at.line ≡ other.line =
    f.line ∙ (λ i. line_at (text_of (mine i)) (piece_offset (mine i) (here.piece i) + m)) ∙ ap (λ bytes. count_by is_line_feed bytes + 1) front
    ∙ sym (λ i. line_at (text_of (yours i)) (piece_offset (yours i) (there.piece i) + m)) ∙ sym g.line in
    let column : at.column ≡ other.column =
    f.column ∙ (λ i. column_at (text_of (mine i)) (piece_offset (mine i) (here.piece i) + m)) ∙ ap (λ bytes. length (after_last is_line_feed bytes) + 1) front
    ∙ sym (λ i. column_at (text_of (yours i)) (piece_offset (yours i) (there.piece i) + m)) ∙ sym g.column in
    let number : at.file ≡ other.file = f.in_file ∙ sym g.in_file in
    λ i. record { file = number i; line = line i; column = column i }
