-- The worked example of files, by computing.
use Rattle.std.proofs.Common.{◌≡◌, ℕ, ◌+◌, ◌==◌, true, not, List, [], ◌∷◌, ◌++◌, length, get_or, map, drop, None, refl, sym, ap, codes, Contains, inl, inr, arith}
use Rattle.std.{proofs.lemmas.List.Sums.{AllPass-from_list_all}, specs.{List.{AllByRecursion, flat_map, list_all}, Str.{bytes_eq}}}
use Rattle.mm_store.specs.mm_text.{declared.word.Word.{Word}, Language.{Run.{runs, is_white}, Spelling.{IsSpelled}}}
use Rattle.mm_store.specs.mm_text.Language.Reading.{Segment, Single, segment_runs, segment_words, IsSegment, HasWords, first_bad, is_allowed}
use Rattle.mm_store.specs.mm_text.Language.Unit.{Token, tokens_of, is_label_byte, Declaration, Labelled, Provable, Inclusion, Units, Nothing, Simple, Block, unit_tokens, AreUnits}
use Rattle.mm_store.specs.mm_text.Language.{Cut.{IsOneUnit, IsPiece, end_of_words, ends_white}, Part.{HasUnits}}
use Rattle.mm_statement.specs.Language.Database.{Located, unit_items, AreOfFile, IsDatabase, Unfolds, nothing, own, again, missing, included}
use Rattle.mm_statement.specs.Language.Examples.{plain_at, keyword_at, looped, looped_items, LoopGivesNine, LoopIsCut}
use Rattle.mm_store.specs.mm_text.declared.word.Keyword.TheVariants as keywords
use Rattle.mm_statement.specs.Language.Item as kinds

no_dollar : (bytes : List ℕ) → list_all (λ b. not (b == 36)) bytes ≡ true → ¬ Contains bytes 36
no_dollar bytes all there =
    let passes : not (get_or bytes there.0 36 == 36) ≡ true = AllPass-from_list_all (λ b. not (b == 36)) bytes all there.0 36 there.1 in
    let is : get_or bytes there.0 36 ≡ 36 = there.2 in
    let never : not (36 == 36) ≡ true = rw is at passes in
    cc

not_among : (names : List (List ℕ)) (name : List ℕ) → list_all (λ other. not (bytes_eq name other)) names ≡ true → bytes_eq name name ≡ true → ¬ Contains names name
not_among names name all same there =
    let passes : not (bytes_eq name (get_or names there.0 name)) ≡ true = AllPass-from_list_all (λ other. not (bytes_eq name other)) names all there.0 name there.1 in
    let is : get_or names there.0 name ≡ name = there.2 in
    let never : not true ≡ true = rw (is, same) at passes in
    cc

-- ---- words without comments between them

abbrev word_of : Token → Word
word_of token = record { kind = token.kind; start = token.start; end = token.start + length token.bytes }

abbrev single : Token → Segment
single token = Single (record { start = token.start; bytes = token.bytes }) (word_of token)

singles : (tokens : List Token) → flat_map segment_words (map single tokens) ≡ map word_of tokens
singles [] = refl
singles (token ∷ tokens) = ap (λ (ws : List Word). word_of token ∷ ws) (singles tokens)

-- each word is spelled as its kind says
abbrev AreSpelled : List Token → Type 0
AreSpelled tokens = AllByRecursion (λ token. IsSpelled token.kind token.bytes) tokens

each_single : (tokens : List Token) → AreSpelled tokens → AllByRecursion IsSegment (map single tokens)
each_single [] each = tt
each_single (token ∷ tokens) each = (record { kind = each.0; start = refl; end = refl }, each_single tokens each.1)

-- a piece with one unit
has_piece : (text : List ℕ) (units : Units) → first_bad text ≡ None → flat_map segment_runs (map single (unit_tokens units)) ≡ runs text → AreSpelled (unit_tokens units)
    → AreUnits true units → tokens_of text (map word_of (unit_tokens units)) ≡ unit_tokens units → IsOneUnit units
    → list_all is_white (drop (end_of_words (map word_of (unit_tokens units))) text) ≡ true → ends_white text ≡ true → HasUnits text units × IsPiece text
has_piece text units allowed joined spelled are same one white ends =
    let has_words : HasWords text (map word_of (unit_tokens units)) = record {
      allowed = allowed;
      words_are = record { parts = map single (unit_tokens units); each = each_single (unit_tokens units) spelled; joined = joined; singles = singles (unit_tokens units) };
    } in (
      record { words = map word_of (unit_tokens units); has_words = has_words; are_units = are; spells = sym same },
      record {
        unit = record { words = map word_of (unit_tokens units); units = units; has_words = has_words; are_units = are; spells = sym same; one = one; ends = ends };
        white = AllPass-from_list_all is_white (drop (end_of_words (map word_of (unit_tokens units))) text) white;
      },
    )

-- ---- the units of each piece

abbrev includes : List ℕ → ℕ → Units
includes name end = Simple (Inclusion (keyword_at 0 keywords.InclusionStart) (plain_at 3 name) (keyword_at end keywords.InclusionEnd)) Nothing

abbrev constant : Units
constant = Simple (Declaration (keyword_at 0 keywords.Constants) (plain_at 3 (codes "wff") ∷ []) (keyword_at 7 keywords.StatementEnd)) Nothing

abbrev variable : Units
variable = Simple (Declaration (keyword_at 0 keywords.Variables) (plain_at 3 (codes "p") ∷ []) (keyword_at 5 keywords.StatementEnd)) Nothing

abbrev typed : Units
typed = Simple (Labelled (plain_at 0 (codes "wp")) (keyword_at 3 keywords.Floating) (plain_at 6 (codes "wff") ∷ plain_at 10 (codes "p") ∷ []) (keyword_at 12 keywords.StatementEnd)) Nothing

abbrev block : Units
block =
    Block (keyword_at 0 keywords.BlockStart)
    (Simple (Labelled (plain_at 3 (codes "e")) (keyword_at 5 keywords.Essential) (plain_at 8 (codes "wff") ∷ plain_at 12 (codes "p") ∷ []) (keyword_at 14 keywords.StatementEnd))
    (Simple (Labelled (plain_at 17 (codes "a")) (keyword_at 19 keywords.Axiom) (plain_at 22 (codes "wff") ∷ plain_at 26 (codes "p") ∷ []) (keyword_at 28 keywords.StatementEnd)) Nothing))
    (keyword_at 31 keywords.BlockEnd) Nothing

abbrev proved : Units
proved =
    Simple (Provable (plain_at 0 (codes "t")) (keyword_at 2 keywords.Theorem) (plain_at 5 (codes "wff") ∷ plain_at 9 (codes "p") ∷ []) (keyword_at 11 keywords.ProofStart)
    (plain_at 14 (codes "wp") ∷ plain_at 17 (codes "wp") ∷ plain_at 20 (codes "a") ∷ []) (keyword_at 22 keywords.StatementEnd)) Nothing

including : (text name : List ℕ) (end : ℕ) → first_bad text ≡ None → flat_map segment_runs (map single (unit_tokens (includes name end))) ≡ runs text
    → list_all (λ b. not (b == 36)) name ≡ true → tokens_of text (map word_of (unit_tokens (includes name end))) ≡ unit_tokens (includes name end)
    → list_all is_white (drop (end_of_words (map word_of (unit_tokens (includes name end)))) text) ≡ true → ends_white text ≡ true
    → HasUnits text (includes name end) × IsPiece text
including text name end allowed joined plain same white ends =
    has_piece text (includes name end) allowed joined (refl, (no_dollar name plain, (refl, tt))) ((refl, refl, refl, refl), tt) same refl white ends

to_sub : HasUnits (codes "$[ sub.mm $]\n") (includes (codes "sub.mm") 10) × IsPiece (codes "$[ sub.mm $]\n")
unfolding is_white is_allowed
to_sub = including (codes "$[ sub.mm $]\n") (codes "sub.mm") 10 refl refl refl refl refl refl

to_top : HasUnits (codes "$[ top.mm $]\n") (includes (codes "top.mm") 10) × IsPiece (codes "$[ top.mm $]\n")
unfolding is_white is_allowed
to_top = including (codes "$[ top.mm $]\n") (codes "top.mm") 10 refl refl refl refl refl refl

to_none : HasUnits (codes "$[ no.mm $]\n") (includes (codes "no.mm") 9) × IsPiece (codes "$[ no.mm $]\n")
unfolding is_white is_allowed
to_none = including (codes "$[ no.mm $]\n") (codes "no.mm") 9 refl refl refl refl refl refl

has_constant : HasUnits (codes "$c wff $.\n") constant × IsPiece (codes "$c wff $.\n")
unfolding is_white is_allowed
has_constant = has_piece (codes "$c wff $.\n") constant refl refl (refl, (no_dollar (codes "wff") refl, (refl, tt))) ((inl refl, (refl, tt), refl), tt) refl refl refl refl

has_variable : HasUnits (codes "$v p $.\n") variable × IsPiece (codes "$v p $.\n")
unfolding is_white is_allowed
has_variable = has_piece (codes "$v p $.\n") variable refl refl (refl, (no_dollar (codes "p") refl, (refl, tt))) ((inr (inl refl), (refl, tt), refl), tt) refl refl refl refl

has_typed : HasUnits (codes "wp $f wff p $.\n") typed × IsPiece (codes "wp $f wff p $.\n")
unfolding is_white is_allowed is_label_byte
has_typed = has_piece (codes "wp $f wff p $.\n") typed refl refl (no_dollar (codes "wp") refl, (refl, (no_dollar (codes "wff") refl, (no_dollar (codes "p") refl, (refl, tt)))))
    (((refl, refl), inl refl, (refl, (refl, tt)), refl), tt) refl refl refl refl

has_block : HasUnits (codes "${ e $e wff p $. a $a wff p $. $}\n") block × IsPiece (codes "${ e $e wff p $. a $a wff p $. $}\n")
unfolding is_white is_allowed is_label_byte
has_block = has_piece (codes "${ e $e wff p $. a $a wff p $. $}\n") block refl refl (
  refl,
  (
    no_dollar (codes "e") refl,
    (
      refl,
      (
        no_dollar (codes "wff") refl,
        (
          no_dollar (codes "p") refl,
          (
            refl,
            (no_dollar (codes "a") refl, (refl, (no_dollar (codes "wff") refl, (no_dollar (codes "p") refl, (refl, (refl, tt)))))),
          ),
        ),
      ),
    ),
  ),
)
    (refl, (((refl, refl), inr (inl refl), (refl, (refl, tt)), refl), (((refl, refl), inr (inr refl), (refl, (refl, tt)), refl), tt)), refl, tt) refl refl refl refl

has_proved : HasUnits (codes "t $p wff p $= wp wp a $.\n") proved × IsPiece (codes "t $p wff p $= wp wp a $.\n")
unfolding is_white is_allowed is_label_byte
has_proved = has_piece (codes "t $p wff p $= wp wp a $.\n") proved refl refl (
  no_dollar (codes "t") refl,
  (
    refl,
    (
      no_dollar (codes "wff") refl,
      (
        no_dollar (codes "p") refl,
        (
          refl,
          (no_dollar (codes "wp") refl, (no_dollar (codes "wp") refl, (no_dollar (codes "a") refl, (refl, tt)))),
        ),
      ),
    ),
  ),
)
    (((refl, refl), refl, (refl, (refl, tt)), refl, (refl, (refl, (refl, tt))), refl), tt) refl refl refl refl

-- ---- the two files

abbrev own_items : List Located
own_items =
    unit_items 0 1 constant ++ (unit_items 0 2 variable ++ (unit_items 0 3 typed ++ (unit_items 0 4 block ++ (unit_items 0 5 proved ++ []))))

top_items : AreOfFile looped (codes "top.mm") (unit_items 0 0 (includes (codes "sub.mm") 10) ++ own_items)
top_items = record {
  number = 0;
  file = record {
    name = codes "top.mm";
    pieces =
        codes "$[ sub.mm $]\n" ∷ codes "$c wff $.\n" ∷ codes "$v p $.\n" ∷ codes "wp $f wff p $.\n" ∷ codes "${ e $e wff p $. a $a wff p $. $}\n"
        ∷ codes "t $p wff p $= wp wp a $.\n" ∷ [];
    tail = [];
  };
  is_number = refl;
  there = refl;
  located =
      (includes (codes "sub.mm") 10, to_sub.0, own_items, (constant, has_constant.0, _, (variable, has_variable.0, _, (typed, has_typed.0, _, (block, has_block.0, _, (proved, has_proved.0, [], refl, refl), refl), refl), refl), refl), refl);
}

abbrev sub_own : List Located
sub_own = unit_items 1 0 (includes (codes "top.mm") 10) ++ (unit_items 1 1 (includes (codes "no.mm") 9) ++ [])

sub_items : AreOfFile looped (codes "sub.mm") sub_own
sub_items = record {
  number = 1;
  file = record { name = codes "sub.mm"; pieces = codes "$[ top.mm $]\n" ∷ codes "$[ no.mm $]\n" ∷ []; tail = [] };
  is_number = refl;
  there = refl;
  located = (includes (codes "top.mm") 10, to_top.0, _, (includes (codes "no.mm") 9, to_none.0, [], refl, refl), refl);
}

abbrev with_top : List (List ℕ)
with_top = codes "top.mm" ∷ []

abbrev with_sub : List (List ℕ)
with_sub = codes "top.mm" ∷ codes "sub.mm" ∷ []

abbrev with_none : List (List ℕ)
with_none = codes "top.mm" ∷ codes "sub.mm" ∷ codes "no.mm" ∷ []

sub_unfolds : Unfolds looped sub_own with_sub (unit_items 1 1 (includes (codes "no.mm") 9)) with_none
sub_unfolds = again (refl, refl) (0, omega arith, refl) (missing (refl, refl) (not_among with_sub (codes "no.mm") refl refl) refl nothing)

own_unfolds : Unfolds looped own_items with_none own_items with_none
own_unfolds =
    own (λ (e : kinds.Constants ≡ kinds.Missing). cc) (own (λ (e : kinds.Variables ≡ kinds.Missing). cc) (own (λ (e : kinds.Floating ≡ kinds.Missing). cc)
    (own (λ (e : kinds.BlockStart ≡ kinds.Missing). cc) (own (λ (e : kinds.Essential ≡ kinds.Missing). cc) (own (λ (e : kinds.Axiom ≡ kinds.Missing). cc)
    (own (λ (e : kinds.BlockEnd ≡ kinds.Missing). cc) (own (λ (e : kinds.Theorem ≡ kinds.Missing). cc) nothing)))))))

database : IsDatabase looped (codes "top.mm") looped_items
database = record {
  own = unit_items 0 0 (includes (codes "sub.mm") 10) ++ own_items;
  of_top = top_items;
  after = with_none;
  unfolds = included {name = codes "sub.mm"} (refl, refl) (not_among with_top (codes "sub.mm") refl refl) sub_items sub_unfolds own_unfolds;
}

pub loop_gives_nine : LoopGivesNine
unfolding database
loop_gives_nine = (database, refl)

pub loop_is_cut : LoopIsCut
unfolding is_white is_allowed
loop_is_cut =
    let ends : HasWords [] [] = record { allowed = refl; words_are = record { parts = []; each = tt; joined = refl; singles = refl } } in (
      record { joined = refl; are_pieces = (to_sub.1, refl, (has_constant.1, refl, (has_variable.1, refl, (has_typed.1, refl, (has_block.1, refl, (has_proved.1, tt, ends)))))) },
      (record { joined = refl; are_pieces = (to_top.1, refl, (to_none.1, tt, ends)) }, tt),
    )
