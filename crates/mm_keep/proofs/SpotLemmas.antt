-- Where the words of items are, and the spots of their proofs.
use Rattle.std.proofs.Common.{rules, ◌≤◌, ◌≡◌, ℕ, suc, ◌+◌, Some, List, [], ◌∷◌, ◌++◌, length, take, drop, slice_get, refl, sym, ap, ◌∙◌, subst, arith, slice_range, slice_index_or}
use Rattle.std.proofs.lemmas.{Grind.{common_steps}, Bool.{cases_Bool}, Option.{same_Some, slice_get-map}, List.{length-take-le, length-drop, length-map}}
use Rattle.std.specs.{List.{AllByRecursion, flat_map, prefix_len}, Option.{option_map}}
use Rattle.mm_proof.specs.mm_text.{declared.word.Word.{Word}, Language.{Place.{line_at, column_at}, Run.{Run, with_first_byte, runs_from}}}
use Rattle.mm_proof.specs.mm_text.Language.{Reading.{HasWords, Segment, Single, Comment, IsSegment, segment_runs, segment_words}, Unit.{Token, tokens_of}}
use Rattle.mm_proof.specs.mm_store.Language.{FilesView.{FilesView, plain, plain_file, text_of}, FileFacts.{CanBeRead, StandsIn, IsByte, IsLive, piece_offset}}
use Rattle.mm_proof.specs.mm_statement.Language.{Item.{Kind, Said}, Statement.{Says, kind_of, is_plain, token_names, symbols_from, symbols_in, proof_in, item_of}}
use Rattle.mm_proof.specs.{mm_verdict.Language.ItemLaws.{IsSpotIn}, mm_machine.declared.Spot.{Spot}}
use Rattle.mm_keep.specs.{declared.finding.At.{At}, Language.WordPlaces.{proof_word}, Code.{KeyedTold.{word_start, word_spelling}, OfFiles.{IsPlaceIn}}}
use Rattle.mm_proof.specs.mm_store.declared.item.Item as store

-- ---- where words begin

-- the runs begin up to this byte
abbrev RunsBegin : ℕ → List Run → Type 0
RunsBegin bound rs = AllByRecursion (λ (run : Run). run.start ≤ bound) rs

abbrev WordsBegin : ℕ → List Word → Type 0
WordsBegin bound words = AllByRecursion (λ (word : Word). word.start ≤ bound) words

front_begins : (bound at b : ℕ) (rs : List Run) → at ≤ bound → RunsBegin bound rs → RunsBegin bound (with_first_byte at b rs)
front_begins bound at b rs h k = grind (arith, common_steps) steps 200000

-- the runs of bytes begin in them
runs_begin : (bound at : ℕ) (text : List ℕ) → at + length text ≤ bound → RunsBegin bound (runs_from at text)
runs_begin bound at [] h = tt
runs_begin bound at (b ∷ bytes) h = search (rules, runs_begin bound (at + 1) bytes (omega (arith, h)), cases_Bool, front_begins)

behind_begin : (bound : ℕ) (front later : List Run) → RunsBegin bound (front ++ later) → RunsBegin bound later
behind_begin bound [] later h = h
behind_begin bound (run ∷ front) later h = behind_begin bound front later h.1

-- each word begins as its run does
parts_begin : (bound : ℕ) (parts : List Segment) → AllByRecursion IsSegment parts → RunsBegin bound (flat_map segment_runs parts) → WordsBegin bound (flat_map segment_words parts)
parts_begin bound [] each h = tt
parts_begin bound (Single run word ∷ parts) each h = (omega (arith, each.0.start, h.0), parts_begin bound parts each.1 h.1)
parts_begin bound (Comment first inside last ∷ parts) each h = parts_begin bound parts each.1 (behind_begin bound (first ∷ (inside ++ last ∷ [])) (flat_map segment_runs parts) h)

nth_begins : (bound : ℕ) (words : List Word) (n : ℕ) → WordsBegin bound words → word_start (slice_get words n) ≤ bound
nth_begins bound (word ∷ words) (suc n) h = nth_begins bound words n h.1
nth_begins bound words n h = grind (arith, common_steps) steps 200000

word_begins : (text : List ℕ) (words : List Word) (n : ℕ) → HasWords text words → word_start (slice_get words n) ≤ length text
word_begins text words n has =
    let are = has.words_are in
    let runs = subst (RunsBegin (length text)) (sym are.joined) (runs_begin (length text) 0 text (omega arith)) in
    nth_begins (length text) words n (subst (WordsBegin (length text)) are.singles (parts_begin (length text) are.parts are.each runs))

-- ---- the byte of a word

-- what a piece's text is that is read under the key of an item
abbrev pub IsTextOf : FilesView → store.Item → List ℕ → Type 0
IsTextOf files item piece = (text : List ℕ) → IsLive files item.key text → piece ≡ text

module _ (files : FilesView) (item : store.Item) (read : CanBeRead files item) (piece : List ℕ) (same : IsTextOf files item piece) where
  pub item_text : piece ≡ read.text
  item_text = same read.text read.live

  pub item_within : item.end ≤ length piece
  item_within = omega (arith, ap length item_text, read.within)

  pub item_words : HasWords (slice_range piece item.start item.end) read.words
  item_words = subst (λ text. HasWords (slice_range text item.start item.end) read.words) (sym item_text) read.has_words

  -- the file of an item, without keys
  pub file_there : (stands : StandsIn files item) → slice_get (plain files) item.file ≡ Some (plain_file files.pieces stands.file)
  file_there stands = slice_get-map (plain_file files.pieces) files.keyed item.file ∙ ap (option_map (plain_file files.pieces)) stands.there

  -- where a byte of the piece is in its file
  pub word_is_byte : (stands : StandsIn files item) (at : ℕ) → at ≤ item.end
      → IsByte files item.file item.piece at (text_of (plain_file files.pieces stands.file)) (piece_offset (plain_file files.pieces stands.file) item.piece + at)
  word_is_byte stands at less = grind (arith, common_steps, file_there, slice_get-map) steps 200000

-- there is one text under the key of an item
pub own_text : (files : FilesView) (item : store.Item) → (read : CanBeRead files item) → IsTextOf files item read.text
own_text files item read text live = grind (arith, common_steps, same_Some read.live.piece live.piece (sym read.live.held ∙ live.held)) steps 200000

-- a byte of a word of an item is in the item, or its end
pub letter_within : (files : FilesView) (item : store.Item) (read : CanBeRead files item) (word letter : ℕ) → letter ≤ length (word_spelling (slice_range read.text item.start item.end) (slice_get read.words word))
    → item.start + (word_start (slice_get read.words word) + letter) ≤ item.end
letter_within files item read word letter less = grind (arith, common_steps, length-drop, length-take-le, word_begins) steps 200000

-- so a byte of an item has a place
pub placed_in : (files : FilesView) (item : store.Item) (stands : StandsIn files item) (byte : ℕ) (at : At) → at.file ≡ item.file
    → at.line ≡ line_at (text_of (plain_file files.pieces stands.file)) (piece_offset (plain_file files.pieces stands.file) item.piece + (item.start + byte))
    → at.column ≡ column_at (text_of (plain_file files.pieces stands.file)) (piece_offset (plain_file files.pieces stands.file) item.piece + (item.start + byte))
    → item.start + byte ≤ item.end → IsPlaceIn files item byte at
placed_in files item stands byte at file line column less word letter read same = record {
  offset = piece_offset (plain_file files.pieces stands.file) item.piece + (item.start + byte);
  is_byte = record {
    stands = stands;
    read = read;
    text = text_of (plain_file files.pieces stands.file);
    byte = subst (λ b. IsByte files item.file item.piece (item.start + b) (text_of (plain_file files.pieces stands.file)) (piece_offset (plain_file files.pieces stands.file) item.piece + (item.start + byte))) (sym same)
        (word_is_byte files item read read.text (own_text files item read) stands (item.start + byte) less);
  };
  in_file = file;
  line = line;
  column = column;
}

-- ---- the words of a proof among those of its item

-- how the word with a number is word_spelling
spelled_at : (text : List ℕ) (words : List Word) (n : ℕ) → word_spelling text (slice_get words n) ≡ slice_index_or (token_names (tokens_of text words)) n []
spelled_at text (word ∷ words) (suc n) = spelled_at text words n
spelled_at text _ _ = refl

-- what is there of the first words is there of all
taken_less : (p n : ℕ) (tokens : List Token) → length (slice_index_or (token_names (take p tokens)) n []) ≤ length (slice_index_or (token_names tokens) n [])
taken_less (suc p) (suc n) (token ∷ tokens) = taken_less p n tokens
taken_less p n tokens = grind (arith, common_steps) steps 200000

-- words after the first ones are words after these
dropped_at : (m n : ℕ) (tokens : List Token) → slice_index_or (token_names (drop m tokens)) n [] ≡ slice_index_or (token_names tokens) (m + n) []
dropped_at (suc m) n (token ∷ tokens) = grind (arith, common_steps, dropped_at m n tokens) steps 200000
dropped_at m n tokens = grind (arith, common_steps) steps 200000

-- the number of the first word of a proof
abbrev proof_from : Kind → List Token → ℕ
proof_from kind tokens = symbols_from kind + length (symbols_in kind tokens) + 1

proof_word_is : (kind : Kind) (tokens : List Token) (n : ℕ) → proof_word (item_of kind tokens) n ≡ proof_from kind tokens + n
proof_word_is kind tokens n = ap (λ (k : ℕ). symbols_from kind + k + 1 + n) (length-map (symbols_in kind tokens) (λ (token : Token). token.bytes))

-- a spot of the proof of an item is at a byte of one of its words
pub letter_in : (files : FilesView) (item : store.Item) (said : Said) (spot : Spot) (says : Says files item said) → IsSpotIn said.proof spot
    → spot.letter ≤ length (word_spelling (slice_range says.read.text item.start item.end) (slice_get says.read.words (proof_word said spot.word)))
letter_in files item said spot says is =
    let kind = kind_of item.kind in
    let bytes = slice_range says.read.text item.start item.end in
    let tokens = tokens_of bytes says.read.words in
    let from = proof_from kind tokens in
    let proof : said.proof ≡ token_names (proof_in kind tokens) = ap (λ (one : Said). one.proof) says.is in
    let word : proof_word said spot.word ≡ from + spot.word = ap (λ (one : Said). proof_word one spot.word) says.is ∙ proof_word_is kind tokens spot.word in
    let first : length (slice_index_or said.proof spot.word []) ≡ length (slice_index_or (token_names (proof_in kind tokens)) spot.word []) = ap (λ (ws : List (List ℕ)). length (slice_index_or ws spot.word [])) proof in
    let less = taken_less (prefix_len is_plain (drop from tokens)) spot.word (drop from tokens) in
    let whole = ap length (spelled_at bytes says.read.words (proof_word said spot.word)) in
    omega (arith, is.letter, first, less, ap length (dropped_at from spot.word tokens), whole, ap (λ k. length (slice_index_or (token_names tokens) k [])) word)
