-- The worked examples of files, by computing.
use Rattle.std.proofs.{Common.{◌≡◌, ℕ, ◌+◌, ◌==◌, true, not, List, [], ◌∷◌, length, get_or, None, refl, ◌∙◌, codes, Contains, inl, inr, arith, append-nil}, lemmas.List.Sums.{AllPass-from_list_all}}
use Rattle.std.specs.{List.{flat_map, list_all}, Str.{bytes_eq}}
use Rattle.mm_text.specs.{declared.word.{Keyword.{Keyword, TheVariants.{Constants, Variables, StatementEnd, InclusionStart, InclusionEnd}}, Word.{Word}}, Language.Run.{Run, runs, is_white}}
use Rattle.mm_text.specs.Language.{Spelling.{spelling}, Reading.{Segment, Single, segment_runs, HasWords, first_bad, is_allowed}}
use Rattle.mm_text.specs.Language.{Unit.{token_of, tokens_of, Shape, Declaration, Inclusion, IsShape, shape_tokens, Nothing, Simple}, Part.{shape_part}}
use Rattle.mm_store.specs.{declared.item.Item.{Item}, Language.FilesView.{FileView, PieceView, key_of}}
use Rattle.mm_store.specs.Language.Expansion.{Placed, placed_part, included_name, ArePartsOf, ArePlaced, Expands, nothing, own, again, missing, included}
use Rattle.mm_store.{specs.Language.Examples.{piece, item, ring, RingGivesThree}, proofs.EditExampleLemmas.{no_dollar}}
use Rattle.mm_text.specs.declared.word.WordKind.TheVariants as kinds
use Rattle.mm_text.specs.declared.part.PartKind.TheVariants as parts
use Rattle.mm_store.specs.declared.item.ItemKind.TheVariants as items

not_among : (names : List (List ℕ)) (name : List ℕ) → list_all (λ other. not (bytes_eq name other)) names ≡ true → bytes_eq name name ≡ true → ¬ Contains names name
not_among names name all same there =
    let passes : not (bytes_eq name (get_or names there.0 name)) ≡ true = AllPass-from_list_all (λ other. not (bytes_eq name other)) names all there.0 name there.1 in
    let is : get_or names there.0 name ≡ name = there.2 in
    let never : not true ≡ true = rw (is, same) at passes in
    cc

abbrev run : ℕ → List ℕ → Run
run start bytes = record { start = start; bytes = bytes }

abbrev keyword : Keyword → ℕ → Word
keyword kind start = record { kind = kinds.Keyword kind; start = start; end = start + 2 }

abbrev plain : ℕ → ℕ → Word
plain start end = record { kind = kinds.Plain; start = start; end = end }

-- the words of a declaration of one symbol, `$c x $.`, and of an inclusion
abbrev declaration_words : Keyword → List Word
declaration_words kind = keyword kind 0 ∷ plain 3 4 ∷ keyword StatementEnd 5 ∷ []

abbrev inclusion_words : ℕ → List Word
inclusion_words size = keyword InclusionStart 0 ∷ plain 3 (3 + size) ∷ keyword InclusionEnd (4 + size) ∷ []

abbrev declaration_parts : Keyword → List ℕ → List Segment
declaration_parts kind name = Single (run 0 (spelling kind)) (keyword kind 0) ∷ Single (run 3 name) (plain 3 4) ∷ Single (run 5 (spelling StatementEnd)) (keyword StatementEnd 5) ∷ []

abbrev inclusion_parts : List ℕ → List Segment
inclusion_parts name =
    Single (run 0 (spelling InclusionStart)) (keyword InclusionStart 0) ∷ Single (run 3 name) (plain 3 (3 + length name))
    ∷ Single (run (4 + length name) (spelling InclusionEnd)) (keyword InclusionEnd (4 + length name)) ∷ []

are_parts : (piece : PieceView) (file number : ℕ) (words : List Word) (shape : Shape) → HasWords piece.text words → IsShape true shape
    → shape_tokens shape ≡ tokens_of piece.text words → ArePartsOf file number piece (placed_part file number piece.key (record { part = shape_part shape; name = included_name shape }) ∷ [])
are_parts piece file number words shape has is spells = record {
  words = words;
  units = Simple shape Nothing;
  has_words = has;
  are_units = (is, tt);
  spells = append-nil (shape_tokens shape) ∙ spells;
  parts = refl;
}

-- ---- the four texts

symbol_x : HasWords (codes "$c x $.\n") (declaration_words Constants)
unfolding is_white is_allowed
symbol_x = record {
  allowed = refl;
  words_are = record {
    parts = declaration_parts Constants (codes "x");
    each = (record { kind = refl; start = refl; end = refl }, (record { kind = no_dollar (codes "x") refl; start = refl; end = refl }, (record { kind = refl; start = refl; end = refl }, tt)));
    joined = refl;
    singles = refl;
  };
}

symbol_y : HasWords (codes "$v y $.\n") (declaration_words Variables)
unfolding is_white is_allowed
symbol_y = record {
  allowed = refl;
  words_are = record {
    parts = declaration_parts Variables (codes "y");
    each = (record { kind = refl; start = refl; end = refl }, (record { kind = no_dollar (codes "y") refl; start = refl; end = refl }, (record { kind = refl; start = refl; end = refl }, tt)));
    joined = refl;
    singles = refl;
  };
}

including : (name text : List ℕ) → first_bad text ≡ None → flat_map segment_runs (inclusion_parts name) ≡ runs text → list_all (λ b. not (b == 36)) name ≡ true
    → HasWords text (inclusion_words (length name))
including name text allowed joined plain_name = record {
  allowed = allowed;
  words_are = record {
    parts = inclusion_parts name;
    each = (record { kind = refl; start = refl; end = refl }, (record { kind = no_dollar name plain_name; start = refl; end = refl }, (record { kind = refl; start = refl; end = refl }, tt)));
    joined = joined;
    singles = refl;
  };
}

-- ---- the parts of the pieces

abbrev includes : List ℕ → List ℕ → Shape
includes name text = Inclusion (token_of text (keyword InclusionStart 0)) (token_of text (plain 3 (3 + length name))) (token_of text (keyword InclusionEnd (4 + length name)))

abbrev declares : Keyword → List ℕ → Shape
declares kind text = Declaration (token_of text (keyword kind 0)) (token_of text (plain 3 4) ∷ []) (token_of text (keyword StatementEnd 5))

abbrev inclusion : ℕ → ℕ → ℕ → List ℕ → List ℕ → Placed
inclusion file number key name text = placed_part file number (key_of key) (record { part = shape_part (includes name text); name = included_name (includes name text) })

abbrev declaration : ℕ → ℕ → ℕ → Keyword → List ℕ → Placed
declaration file number key kind text = placed_part file number (key_of key) (record { part = shape_part (declares kind text); name = [] })

abbrev to_sub : Placed
to_sub = inclusion 0 0 0 (codes "sub.mm") (codes "$[ sub.mm $]\n")

abbrev constant_x : Placed
constant_x = declaration 0 1 1 Constants (codes "$c x $.\n")

abbrev to_top : Placed
to_top = inclusion 1 0 2 (codes "top.mm") (codes "$[ top.mm $]\n")

abbrev variable_y : Placed
variable_y = declaration 1 1 3 Variables (codes "$v y $.\n")

abbrev to_none : ℕ → ℕ → Placed
to_none number key = inclusion 1 number key (codes "none.mm") (codes "$[ none.mm $]\n")

sub_words : HasWords (codes "$[ sub.mm $]\n") (inclusion_words 6)
unfolding is_white is_allowed
sub_words = including (codes "sub.mm") (codes "$[ sub.mm $]\n") refl refl refl

top_words : HasWords (codes "$[ top.mm $]\n") (inclusion_words 6)
unfolding is_white is_allowed
top_words = including (codes "top.mm") (codes "$[ top.mm $]\n") refl refl refl

none_words : HasWords (codes "$[ none.mm $]\n") (inclusion_words 7)
unfolding is_white is_allowed
none_words = including (codes "none.mm") (codes "$[ none.mm $]\n") refl refl refl

to_sub_is : ArePartsOf 0 0 (piece 0 (codes "$[ sub.mm $]\n")) (to_sub ∷ [])
to_sub_is = are_parts (piece 0 (codes "$[ sub.mm $]\n")) 0 0 (inclusion_words 6) (includes (codes "sub.mm") (codes "$[ sub.mm $]\n")) sub_words (refl, refl, refl, refl) refl

constant_x_is : ArePartsOf 0 1 (piece 1 (codes "$c x $.\n")) (constant_x ∷ [])
constant_x_is = are_parts (piece 1 (codes "$c x $.\n")) 0 1 (declaration_words Constants) (declares Constants (codes "$c x $.\n")) symbol_x (inl refl, (refl, tt), refl) refl

to_top_is : ArePartsOf 1 0 (piece 2 (codes "$[ top.mm $]\n")) (to_top ∷ [])
to_top_is = are_parts (piece 2 (codes "$[ top.mm $]\n")) 1 0 (inclusion_words 6) (includes (codes "top.mm") (codes "$[ top.mm $]\n")) top_words (refl, refl, refl, refl) refl

variable_y_is : ArePartsOf 1 1 (piece 3 (codes "$v y $.\n")) (variable_y ∷ [])
variable_y_is = are_parts (piece 3 (codes "$v y $.\n")) 1 1 (declaration_words Variables) (declares Variables (codes "$v y $.\n")) symbol_y (inr (inl refl), (refl, tt), refl) refl

to_none_is : (number key : ℕ) → ArePartsOf 1 number (piece key (codes "$[ none.mm $]\n")) (to_none number key ∷ [])
to_none_is number key = are_parts (piece key (codes "$[ none.mm $]\n")) 1 number (inclusion_words 7) (includes (codes "none.mm") (codes "$[ none.mm $]\n")) none_words (refl, refl, refl, refl) refl

-- ---- the two files

abbrev top_file : FileView
top_file = record { name = codes "top.mm"; pieces = piece 0 (codes "$[ sub.mm $]\n") ∷ piece 1 (codes "$c x $.\n") ∷ []; tail = [] }

abbrev sub_file : FileView
sub_file = record {
  name = codes "sub.mm";
  pieces = piece 2 (codes "$[ top.mm $]\n") ∷ piece 3 (codes "$v y $.\n") ∷ piece 4 (codes "$[ none.mm $]\n") ∷ piece 5 (codes "$[ none.mm $]\n") ∷ [];
  tail = codes "\n";
}

abbrev top_parts : List Placed
top_parts = to_sub ∷ constant_x ∷ []

abbrev sub_parts : List Placed
sub_parts = to_top ∷ variable_y ∷ to_none 2 4 ∷ to_none 3 5 ∷ []

top_placed : ArePlaced 0 0 top_file.pieces top_parts
top_placed = (to_sub ∷ [], constant_x ∷ [], to_sub_is, (constant_x ∷ [], [], constant_x_is, refl, refl), refl)

sub_placed : ArePlaced 1 0 sub_file.pieces sub_parts
sub_placed = (
  to_top ∷ [],
  variable_y ∷ to_none 2 4 ∷ to_none 3 5 ∷ [],
  to_top_is,
  (
    variable_y ∷ [],
    to_none 2 4 ∷ to_none 3 5 ∷ [],
    variable_y_is,
    (to_none 2 4 ∷ [], to_none 3 5 ∷ [], to_none_is 2 4, (to_none 3 5 ∷ [], [], to_none_is 3 5, refl, refl), refl),
    refl,
  ),
  refl,
)

abbrev at_first : List (List ℕ)
at_first = codes "top.mm" ∷ []

abbrev with_sub : List (List ℕ)
with_sub = codes "top.mm" ∷ codes "sub.mm" ∷ []

abbrev at_last : List (List ℕ)
at_last = codes "top.mm" ∷ codes "sub.mm" ∷ codes "none.mm" ∷ []

abbrev sub_items : List Item
sub_items = item items.Variables 1 1 3 7 ∷ item items.Missing 1 2 4 13 ∷ []

sub_expands : Expands ring sub_parts with_sub sub_items at_last
sub_expands =
    again refl (0, omega arith, refl)
    (own (λ (e : parts.Variables ≡ parts.Inclusion). cc)
    (missing refl (not_among with_sub (codes "none.mm") refl refl) refl
    (again refl (2, omega arith, refl) nothing)))

top_expands : Expands ring top_parts at_first (item items.Variables 1 1 3 7 ∷ item items.Missing 1 2 4 13 ∷ item items.Constants 0 1 1 7 ∷ []) at_last
top_expands =
    included {gained = sub_items} {items = item items.Constants 0 1 1 7 ∷ []} {number = 1} {file = sub_file} refl (not_among at_first (codes "sub.mm") refl refl) refl refl
    sub_placed sub_expands (own (λ (e : parts.Constants ≡ parts.Inclusion). cc) nothing)

pub ring_gives_three : RingGivesThree
ring_gives_three = record {
  number = 0;
  file = top_file;
  is_top = refl;
  there = refl;
  parts = top_parts;
  placed = top_placed;
  after = at_last;
  expands = top_expands;
}
