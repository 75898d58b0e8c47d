-- The items that are kept of files, by parts of pieces, and the items where they stand, by units: each of one list belongs to one of the other.
use Rattle.std.proofs.lemmas.{Grind.{common_steps}, List.{length-map, drop-drop, drop-map, map-append, Elements.{recursion_from_All}}, Option.{same_Some, slice_get-map}}
use Rattle.std.proofs.Common.{[], ◌≡◌, ◌≢◌, ℕ, suc, ◌+◌, Bool, true, false, not, cond, List, ◌∷◌, ◌++◌, append_assoc, append-nil, length, take, map, drop, one-add, Some, None, refl, sym, ap, ◌∙◌}
use Rattle.std.{proofs.Common.{subst, inl, inr, ◌⊎◌, arith, slice_range, slice_get, Contains, All}, specs.{List.{AllZip, AllByRecursion, prefix_len, position_or_len}, Option.{option_map}}}
use Rattle.mm_store.specs.mm_text.{declared.{word.{Word.{Word}, Keyword.{Keyword}, WordKind.{WordKind}}, part.{Part.{Part}, PartKind.{PartKind}}}, Language.Reading.{HasWords}}
use Rattle.mm_store.specs.mm_text.Language.{Stretch.{moved, IsStretch}, Part.{HasUnits, token_end, shape_part, word_part, part}}
use Rattle.mm_store.specs.mm_text.Language.Unit.{Token, tokens_of, IsKeyword, IsPlain, Shape, Declaration, Labelled, Provable, Inclusion, shape_tokens, IsShape, Units, Nothing, Simple, Block}
use Rattle.mm_store.specs.{mm_text.Language.Unit.{unit_tokens, AreUnits}, Language.Pieces.{Pieces, text_under}}
use Rattle.mm_store.specs.Language.FilesView.{FilesView, FileView, File, file_view, files_in, number_of, plain, plain_file, file_number, piece_view, key_of}
use Rattle.mm_store.specs.Language.{FileFacts.{CanBeRead, StandsIn, HoldsPieces}, Holding.{HoldOneEach}}
use Rattle.mm_store.specs.Language.Expansion.{Named, Placed, named_parts, nameless, included_name, placed_part, placed_item, item_kind, IsInclusion, ArePartsOf, ArePlaced, Expands, IsExpansion}
use Rattle.mm_statement.specs.Language.Item.{Kind, Said, is_labelled}
use Rattle.mm_statement.specs.Language.Statement.{Says, is_plain, is_plain_kind, plain_from, token_names, kind_of, symbols_from, symbols_in, proof_in, label_in, item_of}
use Rattle.mm_statement.specs.Language.{Database.{Located, first_byte, keyword_kind, said_of, bracket, unit_items, AreLocated, AreOfFile, Refers, Unfolds, IsDatabase}, Locating.{IsLocated}}
use Rattle.mm_statement.specs.Language.Laws.{ItemsAreLocated, LocatedAreItems, FilesHaveOneDatabase, DatabasesAreThere, DatabasesHaveOneListOfNames}
use Rattle.mm_statement.proofs.PieceLemmas.{OneReading, read_under, same_said}
use Rattle.mm_store.specs.mm_text.declared.word.Keyword.TheVariants as keywords
use Rattle.mm_store.specs.mm_text.declared.part.PartKind.TheVariants as parts
use Rattle.mm_store.specs.declared.item.Item as store
use Rattle.mm_store.specs.Language.Expansion as kept
use Rattle.mm_statement.specs.Language.Item as kinds
use Rattle.mm_statement.specs.Language.Database as located

-- ---- what words say, wherever they begin

-- plain words go on, or a keyword ends them
plain_more : (s : Token) (ts : List Token) → is_plain s ≡ true → plain_from 0 (s ∷ ts) ≡ s ∷ plain_from 0 ts
plain_more s ts plain = ap (λ b. take (cond b (1 + prefix_len is_plain ts) 0) (s ∷ ts)) plain ∙ ap (λ n. take n (s ∷ ts)) (one-add (prefix_len is_plain ts))

plain_end : (s : Token) (ts : List Token) → is_plain s ≡ false → plain_from 0 (s ∷ ts) ≡ []
plain_end s ts stop = ap (λ b. take (cond b (1 + prefix_len is_plain ts) 0) (s ∷ ts)) stop

names_with : (from : ℕ) (t : Token) (ts : List Token) (plain : Bool) → is_plain t ≡ plain → token_names (plain_from 0 (map (moved from) ts)) ≡ token_names (plain_from 0 ts)
    → token_names (plain_from 0 (map (moved from) (t ∷ ts))) ≡ token_names (plain_from 0 (t ∷ ts))
names_with from t ts true e same = grind (arith, common_steps, plain_more (moved from t) (map (moved from) ts) e, plain_more t ts e) steps 200000
names_with from t ts false e same = ap token_names (plain_end (moved from t) (map (moved from) ts) e) ∙ sym (ap token_names (plain_end t ts e))

names_moved : (from : ℕ) (ts : List Token) → token_names (plain_from 0 (map (moved from) ts)) ≡ token_names (plain_from 0 ts)
names_moved from [] = refl
names_moved from (t ∷ ts) = names_with from t ts (is_plain t) refl (names_moved from ts)

plain_moved : (from n : ℕ) (tokens : List Token) → token_names (plain_from n (map (moved from) tokens)) ≡ token_names (plain_from n tokens)
plain_moved from n tokens = ap (λ ts. token_names (plain_from 0 ts)) (drop-map (moved from) n tokens) ∙ names_moved from (drop n tokens)

count_moved : (from n : ℕ) (tokens : List Token) → length (plain_from n (map (moved from) tokens)) ≡ length (plain_from n tokens)
count_moved from n tokens =
    sym (length-map (plain_from n (map (moved from) tokens)) (λ (t : Token). t.bytes)) ∙ ap length (plain_moved from n tokens) ∙ length-map (plain_from n tokens) (λ (t : Token). t.bytes)

label_moved : (kind : Kind) (from : ℕ) (tokens : List Token) → label_in kind (map (moved from) tokens) ≡ label_in kind tokens
label_moved kind from [] = refl
label_moved kind from (t ∷ tokens) = refl

item_moved : (kind : Kind) (from : ℕ) (tokens : List Token) → item_of kind (map (moved from) tokens) ≡ item_of kind tokens
item_moved kind from tokens = grind (arith, common_steps, count_moved, label_moved, plain_moved) steps 200000

-- ---- what the words of a shape say

plain_stop : (symbols rest : List Token) (close : Token) → AllByRecursion IsPlain symbols → is_plain close ≡ false → plain_from 0 (symbols ++ close ∷ rest) ≡ symbols
plain_stop [] rest close all stop = plain_end close rest stop
plain_stop (s ∷ symbols) rest close all stop =
    plain_more s (symbols ++ close ∷ rest) (ap is_plain_kind all.0) ∙ ap (λ (ts : List Token). s ∷ ts) (plain_stop symbols rest close all.1 stop)

behind : (symbols rest : List Token) (close : Token) → drop (length symbols + 1) (symbols ++ close ∷ rest) ≡ rest
behind [] rest close = refl
behind (s ∷ symbols) rest close = grind (arith, common_steps, behind symbols rest close) steps 200000

stops : (keyword : Keyword) (token : Token) → IsKeyword keyword token → is_plain token ≡ false
stops keyword token is = ap is_plain_kind is

module _ (kind : Kind) (front symbols rest : List Token) (close : Token) (plain : AllByRecursion IsPlain symbols) (stop : is_plain close ≡ false)
    (few : drop (symbols_from kind) (front ++ (symbols ++ close ∷ rest)) ≡ symbols ++ close ∷ rest) where
  abbrev tokens : List Token
  tokens = front ++ (symbols ++ close ∷ rest)

  symbols_are : symbols_in kind tokens ≡ symbols
  symbols_are = ap (plain_from 0) few ∙ plain_stop symbols rest close plain stop

  proof_is : proof_in kind tokens ≡ plain_from 0 rest
  proof_is = grind (arith, common_steps, behind symbols rest close, drop-drop (length symbols + 1) (symbols_from kind) tokens, symbols_are) steps 200000

  pub item_is : item_of kind tokens ≡ record { kind = kind; label = label_in kind tokens; symbols = token_names symbols; proof = token_names (plain_from 0 rest) }
  item_is = λ i. record { kind = kind; label = label_in kind tokens; symbols = token_names (symbols_are i); proof = token_names (proof_is i) }

-- what a part that a shape gives says, by its words
abbrev part_said : PartKind → List Token → Said
part_said kind tokens = item_of (kind_of (item_kind kind)) tokens

-- an item says what the words of a part of this kind say, which includes the file of this name if it is an inclusion
pub record SaysBy (kind : PartKind) (said : Said) (tokens : List Token) (name : List ℕ) : Type 0 where
  pub is : part_said kind tokens ≡ said
  pub refers : kind ≡ parts.Inclusion → (said.kind ≡ kinds.Missing) × (said.symbols ≡ name ∷ [])
  pub own : said.kind ≡ kinds.Missing → kind ≡ parts.Inclusion

module _ (keyword end : Token) (symbols : List Token) (plain : AllByRecursion IsPlain symbols) (ends : IsKeyword keywords.StatementEnd end) where
  abbrev Declares : WordKind → Type 0
  Declares word =
      SaysBy (word_part parts.Constants word) (record { kind = keyword_kind word; label = None; symbols = token_names symbols; proof = [] }) (keyword ∷ (symbols ++ end ∷ [])) []

  stop : is_plain end ≡ false
  stop = stops keywords.StatementEnd end ends

  declares : IsKeyword keywords.Constants keyword ⊎ (IsKeyword keywords.Variables keyword ⊎ IsKeyword keywords.Disjoint keyword) → Declares keyword.kind
  declares (inl e) = subst Declares (sym e) (record { is = item_is kinds.Constants (keyword ∷ []) symbols [] end plain stop refl; refers = λ e. absurd (cc); own = λ e. absurd (cc) })
  declares (inr (inl e)) = subst Declares (sym e) (record { is = item_is kinds.Variables (keyword ∷ []) symbols [] end plain stop refl; refers = λ e. absurd (cc); own = λ e. absurd (cc) })
  declares (inr (inr e)) = subst Declares (sym e) (record { is = item_is kinds.Disjoint (keyword ∷ []) symbols [] end plain stop refl; refers = λ e. absurd (cc); own = λ e. absurd (cc) })

  module _ (label : Token) where
    abbrev Labels : WordKind → Type 0
    Labels word =
        SaysBy (word_part parts.Axiom word) (record { kind = keyword_kind word; label = Some label.bytes; symbols = token_names symbols; proof = [] }) (label ∷ keyword ∷ (symbols ++ end ∷ [])) []

    labels : IsKeyword keywords.Floating keyword ⊎ (IsKeyword keywords.Essential keyword ⊎ IsKeyword keywords.Axiom keyword) → Labels keyword.kind
    labels (inl e) = subst Labels (sym e) (record { is = item_is kinds.Floating (label ∷ keyword ∷ []) symbols [] end plain stop refl; refers = λ e. absurd (cc); own = λ e. absurd (cc) })
    labels (inr (inl e)) = subst Labels (sym e) (record { is = item_is kinds.Essential (label ∷ keyword ∷ []) symbols [] end plain stop refl; refers = λ e. absurd (cc); own = λ e. absurd (cc) })
    labels (inr (inr e)) = subst Labels (sym e) (record { is = item_is kinds.Axiom (label ∷ keyword ∷ []) symbols [] end plain stop refl; refers = λ e. absurd (cc); own = λ e. absurd (cc) })

abbrev theorem : Token → List Token → List Token → Said
theorem label symbols steps = record { kind = kinds.Theorem; label = Some label.bytes; symbols = token_names symbols; proof = token_names steps }

pub shape_says : (outside : Bool) (shape : Shape) → IsShape outside shape → SaysBy (shape_part shape).kind (said_of shape) (shape_tokens shape) (included_name shape)
shape_says outside (Declaration keyword symbols end) is = declares keyword end symbols is.1 is.2 is.0
shape_says outside (Labelled label keyword symbols end) is = labels keyword end symbols is.2 is.3 label is.1
shape_says outside (Provable label keyword symbols proof steps end) is = record {
  is = item_is kinds.Theorem (label ∷ keyword ∷ []) symbols (steps ++ end ∷ []) proof is.2 (stops keywords.ProofStart proof is.3) refl
      ∙ ap (theorem label symbols) (plain_stop steps [] end is.4 (stops keywords.StatementEnd end is.5));
  refers = λ e. absurd (cc);
  own = λ e. absurd (cc);
}
shape_says outside (Inclusion begin name end) is =
    record { is = item_is kinds.Missing (begin ∷ []) (name ∷ []) [] end (is.2, tt) (stops keywords.InclusionEnd end is.3) refl; refers = λ e. (refl, refl); own = λ e. refl }

-- ---- a part and an item of one shape or bracket

-- a statement or an inclusion begins with its first word
shape_begins : (shape : Shape) → first_byte (shape_tokens shape) ≡ (shape_part shape).start
shape_begins (Declaration keyword symbols end) = refl
shape_begins (Labelled label keyword symbols end) = refl
shape_begins (Provable label keyword symbols proof steps end) = refl
shape_begins (Inclusion begin name end) = refl

-- a part of a piece with these bytes, and the item where it stands
record Belongs (bytes : List ℕ) (placed : Placed) (one : Located) : Type 0 where
  pub file : one.file ≡ placed.file
  pub piece : one.piece ≡ placed.piece
  pub begins : first_byte one.words ≡ placed.part.start
  pub words : (own : List Word) → HasWords (slice_range bytes placed.part.start placed.part.end) own
      → map (moved placed.part.start) (tokens_of (slice_range bytes placed.part.start placed.part.end) own) ≡ one.words
  pub says : SaysBy placed.part.kind one.said one.words placed.name

-- the same of a part under its key
abbrev Of : Pieces → Placed → Located → Type 0
Of pieces placed one = Belongs (text_under pieces placed.key.at) placed one

pub zip_append : {X Y : Type 0} (R : X → Y → Type 0) (xs others : List X) (ys more : List Y) → AllZip R xs ys → AllZip R others more → AllZip R (xs ++ others) (ys ++ more)
zip_append R [] others [] more h g = g
zip_append R [] others (y ∷ ys) more h g = absurd h
zip_append R (x ∷ xs) others [] more h g = absurd h
zip_append R (x ∷ xs) others (y ∷ ys) more h g = (h.0, zip_append R xs others ys more h.1 g)

pub before_map : {X Y : Type 0} (test : Y → Bool) (f : X → Y) (xs : List X) → position_or_len test (map f xs) ≡ position_or_len (λ x. test (f x)) xs
before_map test f [] = refl
before_map test f (x ∷ xs) = ap (λ (k : ℕ). cond (not (test (f x))) (1 + k) 0) (before_map test f xs)

-- a name has one number, with keys and without
number_same : (view : FilesView) (name : List ℕ) → number_of (files_in view) name ≡ file_number (plain view) name
number_same view name = grind (arith, common_steps, before_map, length-map) steps 200000

-- the element that a list of values has at a place
there_from_map : {X Y : Type 0} (f : X → Y) (xs : List X) (n : ℕ) (y : Y) → slice_get (map f xs) n ≡ Some y → (x : X) × (slice_get xs n ≡ Some x) × (y ≡ f x)
there_from_map f (x ∷ xs) (suc n) y h = there_from_map f xs n y h
there_from_map f xs n y h = grind (arith, common_steps, same_Some) steps 200000

-- ---- what the laws of lower crates say

abbrev pub ItemsStand : Type 0
ItemsStand =
    ((files : FilesView) (top : List ℕ) (items : List store.Item) → HoldsPieces files → IsExpansion (files_in files) top items → All (CanBeRead files) items)
    × ((files : FilesView) (top : List ℕ) (items : List store.Item) → IsExpansion (files_in files) top items → All (StandsIn files) items)

abbrev pub FilesHaveKeys : Type 0
FilesHaveKeys = (files : List File) → (view : FilesView) × HoldsPieces view × (plain view ≡ files)

abbrev pub OneExpansion : Type 0
OneExpansion = (files : List FileView) (top : List ℕ) (a b : List store.Item) → IsExpansion files top a → IsExpansion files top b → a ≡ b

abbrev pub HasExpansion : Type 0
HasExpansion = (files : FilesView) (top : List ℕ) → HoldOneEach (plain files) → number_of (files_in files) top ≢ None
    → (items : List store.Item) × IsExpansion (files_in files) top items

abbrev pub StandAlone : Type 0
StandAlone =
    (text : List ℕ) (all own : List Word) (words : List Token) (first last : Token) → HasWords text all → IsStretch (tokens_of text all) words first last
    → HasWords (slice_range text first.start (token_end last)) own → map (moved first.start) (tokens_of (slice_range text first.start (token_end last)) own) ≡ words

module _ (alone : StandAlone) where
  module _ (text : List ℕ) (all : List Word) (has : HasWords text all) where
    abbrev HasPart : Part → List Token → Type 0
    HasPart part tokens = (own : List Word) → HasWords (slice_range text part.start part.end) own → map (moved part.start) (tokens_of (slice_range text part.start part.end) own) ≡ tokens

    bracket_words : (kind : PartKind) (token : Token) (before behind : List Token) → tokens_of text all ≡ before ++ token ∷ behind → HasPart (part kind token token) (token ∷ [])
    bracket_words kind token before behind joined own =
        alone text all own (token ∷ []) token token has (record { before = before; behind = behind; joined = joined; more = []; begins = refl; front = []; closes = refl })

    shape_words : (shape : Shape) (before behind : List Token) → tokens_of text all ≡ before ++ (shape_tokens shape ++ behind) → HasPart (shape_part shape) (shape_tokens shape)
    shape_words (Declaration keyword symbols end) before behind joined own = alone text all own (keyword ∷ (symbols ++ end ∷ [])) keyword end has
        (record { before = before; behind = behind; joined = joined; more = symbols ++ end ∷ []; begins = refl; front = keyword ∷ symbols; closes = refl })
    shape_words (Labelled label keyword symbols end) before behind joined own = alone text all own (label ∷ keyword ∷ (symbols ++ end ∷ [])) label end has
        (record { before = before; behind = behind; joined = joined; more = keyword ∷ (symbols ++ end ∷ []); begins = refl; front = label ∷ keyword ∷ symbols; closes = refl })
    shape_words (Provable label keyword symbols proof steps end) before behind joined own =
        alone text all own (label ∷ keyword ∷ (symbols ++ proof ∷ (steps ++ end ∷ []))) label end has (record {
          before = before;
          behind = behind;
          joined = joined;
          more = keyword ∷ (symbols ++ proof ∷ (steps ++ end ∷ []));
          begins = refl;
          front = label ∷ keyword ∷ (symbols ++ proof ∷ steps);
          closes = ap (λ tokens. label ∷ keyword ∷ tokens) (sym (append_assoc symbols (proof ∷ steps) (end ∷ [])));
        })
    shape_words (Inclusion begin name end) before behind joined own = alone text all own (begin ∷ name ∷ end ∷ []) begin end has
        (record { before = before; behind = behind; joined = joined; more = name ∷ end ∷ []; begins = refl; front = begin ∷ name ∷ []; closes = refl })

  -- ---- the units of a piece, and the pieces of a file

  module _ (pieces : Pieces) where
    module _ (key : ℕ) (all : List Word) (has : HasWords (text_under pieces key) all) (file piece : ℕ) where
      abbrev text : List ℕ
      text = text_under pieces key

      units_belong : (outside : Bool) (units : Units) (before behind : List Token) → AreUnits outside units → tokens_of text all ≡ before ++ (unit_tokens units ++ behind)
          → AllZip (Of pieces) (map (placed_part file piece (key_of key)) (named_parts units)) (unit_items file piece units)
      units_belong outside Nothing before behind are joined = tt
      units_belong outside (Simple shape later) before behind are joined =
          let here = joined ∙ ap (λ l. before ++ l) (append_assoc (shape_tokens shape) (unit_tokens later) behind) in (
            record { file = refl; piece = refl; begins = shape_begins shape; words = shape_words text all has shape before (unit_tokens later ++ behind) here; says = shape_says outside shape are.0 },
            units_belong outside later (before ++ shape_tokens shape) behind are.1 (here ∙ sym (append_assoc before (shape_tokens shape) (unit_tokens later ++ behind))),
          )
      units_belong outside (Block begin inner end later) before behind are joined =
          let opened = before ++ begin ∷ [] in
          let inside = opened ++ unit_tokens inner in
          let rest = unit_tokens later ++ behind in
          let at_inner : tokens_of text all ≡ opened ++ (unit_tokens inner ++ end ∷ rest) = joined ∙ ap (λ l. before ++ begin ∷ l) (append_assoc (unit_tokens inner) (end ∷ unit_tokens later) behind)
          ∙ sym (append_assoc before (begin ∷ []) (unit_tokens inner ++ end ∷ rest)) in
          let at_end : tokens_of text all ≡ inside ++ end ∷ rest = at_inner ∙ sym (append_assoc opened (unit_tokens inner) (end ∷ rest)) in
          let place = placed_part file piece (key_of key) in
          let both = zip_append (Of pieces) (map place (named_parts inner)) (place (nameless (part parts.BlockEnd end end)) ∷ map place (named_parts later)) (unit_items file piece inner)
          (bracket file piece kinds.BlockEnd end ∷ unit_items file piece later) (units_belong false inner opened (end ∷ rest) are.1 at_inner) (
            record {
              file = refl;
              piece = refl;
              begins = refl;
              words = bracket_words text all has parts.BlockEnd end inside rest at_end;
              says = record { is = refl; refers = λ e. absurd (cc); own = λ e. absurd (cc) };
            },
            units_belong outside later (inside ++ end ∷ []) behind are.3 (at_end ∙ sym (append_assoc inside (end ∷ []) rest)),
          ) in (
            record {
              file = refl;
              piece = refl;
              begins = refl;
              words = bracket_words text all has parts.BlockStart begin before ((unit_tokens inner ++ end ∷ unit_tokens later) ++ behind) joined;
              says = record { is = refl; refers = λ e. absurd (cc); own = λ e. absurd (cc) };
            },
            subst (λ placed. AllZip (Of pieces) placed (unit_items file piece inner ++ bracket file piece kinds.BlockEnd end ∷ unit_items file piece later))
                (sym (map-append place (named_parts inner) (nameless (part parts.BlockEnd end end) ∷ named_parts later))) both,
          )

      whole_piece : (units : Units) → AreUnits true units → unit_tokens units ≡ tokens_of text all
          → AllZip (Of pieces) (map (placed_part file piece (key_of key)) (named_parts units)) (unit_items file piece units)
      whole_piece units are spells = units_belong true units [] [] are (sym spells ∙ sym (append-nil (unit_tokens units)))

    pieces_belong : (file n : ℕ) (keys : List ℕ) (placed : List Placed) → ArePlaced file n (map (piece_view pieces) keys) placed
        → (items : List Located) × AreLocated file n (map (text_under pieces) keys) items × AllZip (Of pieces) placed items
    pieces_belong file n [] placed are = ([], refl, subst (λ l. AllZip (Of pieces) l []) (sym are) tt)
    pieces_belong file n (key ∷ keys) placed (first, rest, of, are, joined) =
        let later = pieces_belong file (n + 1) keys rest are in
        let here = whole_piece key of.words of.has_words file n of.units of.are_units of.spells in
        let has : HasUnits (text_under pieces key) of.units = record { words = of.words; has_words = of.has_words; are_units = of.are_units; spells = of.spells } in (
          unit_items file n of.units ++ later.0,
          (of.units, has, later.0, later.1, refl),
          subst (λ l. AllZip (Of pieces) l (unit_items file n of.units ++ later.0)) (sym (joined ∙ ap (λ l. l ++ rest) of.parts))
              (zip_append (Of pieces) (map (placed_part file n (key_of key)) (named_parts of.units)) rest (unit_items file n of.units) later.0 here later.2),
        )

    texts_belong : (file n : ℕ) (keys : List ℕ) (items : List Located) → AreLocated file n (map (text_under pieces) keys) items
        → (placed : List Placed) × ArePlaced file n (map (piece_view pieces) keys) placed × AllZip (Of pieces) placed items
    texts_belong file n [] items are = ([], refl, subst (λ l. AllZip (Of pieces) [] l) (sym are) tt)
    texts_belong file n (key ∷ keys) items (units, has, later_items, are, joined) =
        let later = texts_belong file (n + 1) keys later_items are in
        let here = whole_piece key has.words has.has_words file n units has.are_units has.spells in
        let first = map (placed_part file n (key_of key)) (named_parts units) in
        let of : ArePartsOf file n (piece_view pieces key) first = record { words = has.words; units = units; has_words = has.has_words; are_units = has.are_units; spells = has.spells; parts = refl } in (
          first ++ later.0,
          (first, later.0, of, later.1, refl),
          subst (λ l. AllZip (Of pieces) (first ++ later.0) l) (sym joined) (zip_append (Of pieces) first later.0 (unit_items file n units) later_items here later.2),
        )

  -- ---- files

  module _ (view : FilesView) where
    of_file : (name : List ℕ) (number : ℕ) (file : FileView) (placed : List Placed) → number_of (files_in view) name ≡ Some number → slice_get (files_in view) number ≡ Some file
        → ArePlaced number 0 file.pieces placed → (items : List Located) × AreOfFile (plain view) name items × AllZip (Of view.pieces) placed items
    of_file name number file placed is there are =
        let kept = there_from_map (file_view view.pieces) view.keyed number file there in
        let belong = pieces_belong view.pieces number 0 kept.0.keys placed (subst (λ (f : FileView). ArePlaced number 0 f.pieces placed) kept.2 are) in
        let located : AreOfFile (plain view) name belong.0 = record {
          number = number;
          file = plain_file view.pieces kept.0;
          is_number = sym (number_same view name) ∙ is;
          there = slice_get-map (plain_file view.pieces) view.keyed number ∙ ap (option_map (plain_file view.pieces)) kept.1;
          located = belong.1;
        } in
        (belong.0, located, belong.2)

    record KeptFile (name : List ℕ) (items : List Located) : Type 0 where
      pub number : ℕ
      pub file : FileView
      pub is_number : number_of (files_in view) name ≡ Some number
      pub there : slice_get (files_in view) number ≡ Some file
      pub placed : List Placed
      pub are_placed : ArePlaced number 0 file.pieces placed
      pub belong : AllZip (Of view.pieces) placed items

    kept_file : (name : List ℕ) (items : List Located) → AreOfFile (plain view) name items → KeptFile name items
    kept_file name items are =
        let kept = there_from_map (plain_file view.pieces) view.keyed are.number are.file are.there in
        let belong = texts_belong view.pieces are.number 0 kept.0.keys items (subst (λ (f : File). AreLocated are.number 0 f.pieces items) kept.2 are.located) in
        record {
          number = are.number;
          file = file_view view.pieces kept.0;
          is_number = number_same view name ∙ are.is_number;
          there = slice_get-map (file_view view.pieces) view.keyed are.number ∙ ap (option_map (file_view view.pieces)) kept.1;
          placed = belong.0;
          are_placed = belong.1;
          belong = belong.2;
        }

    -- an item that is kept, and the item where it stands
    record ItemOf (item : store.Item) (one : Located) : Type 0 where
      pub placed : Placed
      pub is : item ≡ placed_item placed
      pub belongs : Of view.pieces placed one

    -- ---- what parts give, and what items give

    located_by : {placed : List Placed} {names after : List (List ℕ)} {items : List store.Item} → Expands (files_in view) placed names items after
        → (all : List Located) → AllZip (Of view.pieces) placed all → (ones : List Located) × Unfolds (plain view) all names ones after × AllZip ItemOf items ones
    located_by kept.nothing [] zip = ([], located.nothing, tt)
    located_by kept.nothing (one ∷ all) zip = absurd zip
    located_by (kept.own not d) [] zip = absurd zip
    located_by (kept.own {part = part} not d) (one ∷ all) zip =
        let later = located_by d all zip.1 in
        (one ∷ later.0, located.own (λ missing. not (zip.0.says.own missing)) later.1, (record { placed = part; is = refl; belongs = zip.0 }, later.2))
    located_by (kept.again is old d) [] zip = absurd zip
    located_by (kept.again is old d) (one ∷ all) zip =
        let later = located_by d all zip.1 in
        (later.0, located.again (zip.0.says.refers is) old later.1, later.2)
    located_by (kept.missing is new none d) [] zip = absurd zip
    located_by (kept.missing {part = part} is new none d) (one ∷ all) zip =
        let later = located_by d all zip.1 in
        (one ∷ later.0, located.missing (zip.0.says.refers is) new (sym (number_same view part.name) ∙ none) later.1, (record { placed = part; is = refl; belongs = zip.0 }, later.2))
    located_by (kept.included is new at there placed inside d) [] zip = absurd zip
    located_by (kept.included {part = part} {inner = inner} {gained = gained} {items = items} {number = number} {file = file} is new at there placed inside d) (one ∷ all) zip =
        let within = of_file part.name number file inner at there placed in
        let first = located_by inside within.0 within.2 in
        let later = located_by d all zip.1 in
        (first.0 ++ later.0, located.included (zip.0.says.refers is) new within.1 first.1 later.1, zip_append ItemOf gained items first.0 later.0 first.2 later.2)

    same_name : {placed : Placed} {one : Located} (name : List ℕ) → Of view.pieces placed one → Refers one name → name ≡ placed.name
    same_name name belongs refers = let own = belongs.says.refers (belongs.says.own refers.0) in cc

    kept_by : {all : List Located} {names after : List (List ℕ)} {ones : List Located} → Unfolds (plain view) all names ones after
        → (placed : List Placed) → AllZip (Of view.pieces) placed all → (items : List store.Item) × Expands (files_in view) placed names items after × AllZip ItemOf items ones
    kept_by located.nothing [] zip = ([], kept.nothing, tt)
    kept_by located.nothing (part ∷ placed) zip = absurd zip
    kept_by (located.own not d) [] zip = absurd zip
    kept_by (located.own not d) (part ∷ placed) zip =
        let later = kept_by d placed zip.1 in
        (placed_item part ∷ later.0, kept.own (λ is. not (zip.0.says.refers is).0) later.1, (record { placed = part; is = refl; belongs = zip.0 }, later.2))
    kept_by (located.again refers old d) [] zip = absurd zip
    kept_by (located.again {name = name} {names = names} refers old d) (part ∷ placed) zip =
        let later = kept_by d placed zip.1 in
        let same = same_name name zip.0 refers in
        (later.0, kept.again (zip.0.says.own refers.0) (subst (Contains names) same old) later.1, later.2)
    kept_by (located.missing refers new none d) [] zip = absurd zip
    kept_by (located.missing {name = name} {names = names} {after = after} refers new none d) (part ∷ placed) zip =
        let later = kept_by d placed zip.1 in
        let same = same_name name zip.0 refers in (
          placed_item part ∷ later.0,
          kept.missing (zip.0.says.own refers.0) (λ known. new (subst (Contains names) (sym same) known)) (number_same view part.name ∙ ap (file_number (plain view)) (sym same) ∙ none)
              (subst (λ n. Expands (files_in view) placed (names ++ n ∷ []) later.0 after) same later.1),
          (record { placed = part; is = refl; belongs = zip.0 }, later.2),
        )
    kept_by (located.included refers new of inside d) [] zip = absurd zip
    kept_by (located.included {name = name} {inner = inner} {gained = gained} {items = items} {names = names} {between = between} refers new of inside d) (part ∷ placed) zip =
        let within = kept_file name inner of in
        let first = kept_by inside within.placed within.belong in
        let later = kept_by d placed zip.1 in
        let same = same_name name zip.0 refers in (
          first.0 ++ later.0,
          kept.included (zip.0.says.own refers.0) (λ known. new (subst (Contains names) (sym same) known)) (ap (number_of (files_in view)) (sym same) ∙ within.is_number) within.there within.are_placed
              (subst (λ n. Expands (files_in view) within.placed (names ++ n ∷ []) first.0 between) same first.1) later.1,
          zip_append ItemOf first.0 later.0 gained items first.2 later.2,
        )

    -- ---- what items say, and where they stand

    abbrev HasWordsOf : Located → store.Item → Type 0
    HasWordsOf one item = (read : CanBeRead view item) → one.words ≡ map (moved item.start) (tokens_of (slice_range read.text item.start item.end) read.words)

    words_by : (item : store.Item) (one : Located) → ItemOf item one → HasWordsOf one item
    words_by item one of = subst (HasWordsOf one) (sym of.is) (λ read.
        subst (λ text. HasWords (slice_range text of.placed.part.start of.placed.part.end) read.words
        → one.words ≡ map (moved of.placed.part.start) (tokens_of (slice_range text of.placed.part.start of.placed.part.end) read.words))
        (sym (read_under view (placed_item of.placed) read)) (λ own. sym (of.belongs.words read.words own)) read.has_words)

    says_by : (item : store.Item) (one : Located) → ItemOf item one → (read : CanBeRead view item) → Says view item one.said
    says_by item one of read =
        let kind : kind_of item.kind ≡ kind_of (item_kind of.placed.part.kind) = ap (λ (item : store.Item). kind_of item.kind) of.is in
        let tokens = tokens_of (slice_range read.text item.start item.end) read.words in
        record {
          read = read;
          is = sym of.belongs.says.is ∙ ap (λ kind. item_of kind one.words) (sym kind) ∙ ap (item_of (kind_of item.kind)) (words_by item one of read)
              ∙ item_moved (kind_of item.kind) item.start tokens;
        }

    is_located : (item : store.Item) (one : Located) → ItemOf item one → CanBeRead view item → StandsIn view item → IsLocated view item one
    is_located item one of read stands = record {
      stands = stands;
      read = read;
      file = of.belongs.file ∙ ap (λ (item : store.Item). item.file) (sym of.is);
      piece = of.belongs.piece ∙ ap (λ (item : store.Item). item.piece) (sym of.is);
      begins = of.belongs.begins ∙ ap (λ (item : store.Item). item.start) (sym of.is);
      words = words_by item one of;
    }

    abbrev AreTold : List store.Item → List Located → Type 0
    AreTold found items = AllZip (Says view) found (map (λ item. item.said) items) × AllZip (IsLocated view) found items

    each_told : (found : List store.Item) (items : List Located) → AllByRecursion (CanBeRead view) found → AllByRecursion (StandsIn view) found → AllZip ItemOf found items → AreTold found items
    each_told [] [] reads stand zip = (tt, tt)
    each_told [] (one ∷ items) reads stand zip = absurd zip
    each_told (item ∷ found) [] reads stand zip = absurd zip
    each_told (item ∷ found) (one ∷ items) reads stand zip =
        let later = each_told found items reads.1 stand.1 zip.1 in
        ((says_by item one zip.0 reads.0, later.0), (is_located item one zip.0 reads.0 stand.0, later.1))

    -- ---- the two lists

    told : HoldsPieces view → ItemsStand → (top : List ℕ) (found : List store.Item) (items : List Located) → IsExpansion (files_in view) top found → AllZip ItemOf found items → AreTold found items
    told holds stand top found items is zip = each_told found items
        (recursion_from_All (CanBeRead view) found (stand.0 view top found holds is)) (recursion_from_All (StandsIn view) found (stand.1 view top found is)) zip

    kept_of : (top : List ℕ) (items : List Located) → IsDatabase (plain view) top items → (found : List store.Item) × IsExpansion (files_in view) top found × AllZip ItemOf found items
    kept_of top items is =
        let file = kept_file top is.own is.of_top in
        let given = kept_by is.unfolds file.placed file.belong in
        let expansion : IsExpansion (files_in view) top given.0 = record {
          number = file.number;
          file = file.file;
          is_top = file.is_number;
          there = file.there;
          parts = file.placed;
          placed = file.are_placed;
          after = is.after;
          expands = given.1;
        } in
        (given.0, expansion, given.2)

    located_of : (top : List ℕ) (found : List store.Item) → IsExpansion (files_in view) top found → (items : List Located) × IsDatabase (plain view) top items × AllZip ItemOf found items
    located_of top found is =
        let own = of_file top is.number is.file is.parts is.is_top is.there is.placed in
        let given = located_by is.expands own.0 own.2 in
        let database : IsDatabase (plain view) top given.0 = record { own = own.0; of_top = own.1; after = is.after; unfolds = given.1 } in
        (given.0, database, given.2)

-- ---- the laws

one_said : OneReading → (view : FilesView) (found : List store.Item) (a b : List Said) → AllZip (Says view) found a → AllZip (Says view) found b → a ≡ b
one_said one view [] [] [] p q = refl
one_said one view [] (x ∷ a) b p q = absurd p
one_said one view [] [] (y ∷ b) p q = absurd q
one_said one view (item ∷ found) [] b p q = absurd p
one_said one view (item ∷ found) (x ∷ a) [] p q = absurd q
one_said one view (item ∷ found) (x ∷ a) (y ∷ b) p q =
    λ i. same_said view item item (record { kind = refl; key = refl; start = refl; end = refl }) one x y p.0 q.0 i ∷ one_said one view found a b p.1 q.1 i

pub items_located : StandAlone → OneReading → ItemsStand → ItemsAreLocated
items_located alone one stand view top found said holds is says =
    let located = located_of alone view top found is in
    let tells = told alone view holds stand top found located.0 is located.2 in
    (located.0, located.1, one_said one view found (map (λ item. item.said) located.0) said tells.0 says, tells.1)

pub items_kept : StandAlone → ItemsStand → LocatedAreItems
items_kept alone stand view top items holds is =
    let kept = kept_of alone view top items is in
    let tells = told alone view holds stand top kept.0 items kept.1 kept.2 in
    (kept.0, kept.1, tells.0, tells.1)

one_located : (view : FilesView) (found : List store.Item) (a b : List Located) → AllZip (IsLocated view) found a → AllZip (IsLocated view) found b
    → map (λ item. item.said) a ≡ map (λ item. item.said) b → a ≡ b
one_located view [] [] [] p q same = refl
one_located view [] (x ∷ a) b p q same = absurd p
one_located view [] [] (y ∷ b) p q same = absurd q
one_located view (item ∷ found) [] b p q same = absurd p
one_located view (item ∷ found) (x ∷ a) [] p q same = absurd q
one_located view (item ∷ found) (x ∷ a) (y ∷ b) p q same =
    let said : x.said ≡ y.said = cc in
    let others : map (λ (item : Located). item.said) a ≡ map (λ (item : Located). item.said) b = cc in
    let file = p.0.file ∙ sym q.0.file in
    let piece = p.0.piece ∙ sym q.0.piece in
    let words = p.0.words p.0.read ∙ sym (q.0.words p.0.read) in
    λ i. record { file = file i; piece = piece i; words = words i; said = said i } ∷ one_located view found a b p.1 q.1 others i

pub one_database : OneReading → FilesHaveKeys → OneExpansion → LocatedAreItems → FilesHaveOneDatabase
one_database one keys one_list items_kept files top a b p q =
    let view = keys files in
    let first = items_kept view.0 top a view.1 (subst (λ files. IsDatabase files top a) (sym view.2) p) in
    let second = items_kept view.0 top b view.1 (subst (λ files. IsDatabase files top b) (sym view.2) q) in
    let found : second.0 ≡ first.0 = one_list (files_in view.0) top second.0 first.0 second.1 first.1 in
    let said = one_said one view.0 first.0 (map (λ item. item.said) a) (map (λ item. item.said) b) first.2 (subst (λ found. AllZip (Says view.0) found (map (λ item. item.said) b)) found second.2) in
    one_located view.0 first.0 a b first.3 (subst (λ found. AllZip (IsLocated view.0) found b) found second.3) said

all_said : (view : FilesView) (found : List store.Item) → AllByRecursion (CanBeRead view) found → (said : List Said) × AllZip (Says view) found said
all_said view [] reads = ([], tt)
all_said view (item ∷ found) reads =
    let later = all_said view found reads.1 in
    let own = item_of (kind_of item.kind) (tokens_of (slice_range reads.0.text item.start item.end) reads.0.words) in
    (own ∷ later.0, (record { read = reads.0; is = refl }, later.1))

pub database_there : FilesHaveKeys → HasExpansion → ItemsStand → ItemsAreLocated → DatabasesAreThere
database_there keys has stand items_located files top hold = (only, some)
  where
    view : (view : FilesView) × HoldsPieces view × (plain view ≡ files)
    view = keys files

    only : (items : List Located) × IsDatabase files top items → file_number files top ≢ None
    only (items, is) none = absurd (let e : None ≡ Some is.of_top.number = sym none ∙ is.of_top.is_number in cc)

    some : file_number files top ≢ None → (items : List Located) × IsDatabase files top items
    some named =
        let found = has view.0 top (subst HoldOneEach (sym view.2) hold) (λ none. named (ap (λ files. file_number files top) (sym view.2) ∙ sym (number_same view.0 top) ∙ none)) in
        let said = all_said view.0 found.0 (recursion_from_All (CanBeRead view.0) found.0 (stand.0 view.0 top found.0 view.1 found.1)) in
        let located = items_located view.0 top found.0 said.0 view.1 found.1 said.1 in
        (located.0, subst (λ files. IsDatabase files top located.0) view.2 located.1)

abbrev pub TakesOnce : Type 0
TakesOnce =
    (files : List FileView) (top : List ℕ) (items others : List store.Item) (a : IsExpansion files top items) (b : IsExpansion files top others) → a.after ≡ b.after

pub one_list : StandAlone → FilesHaveKeys → TakesOnce → DatabasesHaveOneListOfNames
unfolding kept_of
one_list alone keys once files top items others =
    let view = keys files in
    subst (λ files. (a : IsDatabase files top items) (b : IsDatabase files top others) → a.after ≡ b.after) view.2
    (λ a b.
    let first = kept_of alone view.0 top items a in
    let second = kept_of alone view.0 top others b in
    once (files_in view.0) top first.0 second.0 first.1 second.1)
