-- The worked examples of texts, by computing.
use Rattle.std.proofs.Common.{◌≡◌, ◌≢◌, ◌<◌, ◌≤◌, ◌+◌, ◌-◌, ℕ, zero, suc, None, Ok, Err, List, [], ◌∷◌, ◌++◌, take, drop, slice_index, refl, sym, ap, subst, inl, inr, arith, codes}
use Rattle.std.proofs.lemmas.{Bool.{false≢true}, List.{take-append-drop, Sums.{AllPass-from_list_all}}}
use Rattle.mm_text.specs.declared.word.Keyword.TheVariants.{BlockStart, BlockEnd, Constants, Floating, Disjoint, Essential, InclusionEnd, InclusionStart, ProofStart, StatementEnd, Theorem, Variables}
use Rattle.mm_text.specs.{declared.{word.Word.{Word}, fault.TextNumber.{TextNumber, TheVariants.{T02, T03, T04, T05, T06, T07, T08, T09, T10, T11, T12}}}, Language.Run.{Run, is_white, runs}}
use Rattle.mm_text.specs.Language.{Reading.{first_bad, is_allowed}, Spelling.{opening, closing}, Cut.{IsFirstFaultAt, IsPiece}}
use Rattle.mm_text.specs.Language.Unit.{token_of, tokens_of, Declaration, Inclusion, Labelled, Provable, Units, Nothing, Simple, Block, is_label_byte}
use Rattle.mm_text.specs.Language.Examples.{plain_word, keyword, CutsNothing, HasFiveWords, HoldOneUnitEach, HasThreeMembers, HaveTheirFaults, IsCutInTwo, MissesEnd, NameAndBring, SortBytes}
use Rattle.mm_text.specs.{Language.Examples.{StandsInSecondLine}, Code.{LeftToRight.{read_runs}, UnitReading.{Phase, Begin, Symbols, Including, could_label, next, phase_state, run}}}
use Rattle.mm_text.proofs.{ReadingLemmas.{none_read, words_from_read, words_of_text}, GrammarLemmas.{first_of_units, is_no_begin}, KindLemmas.{stands_mark}, ReaderLemmas.{first_of_words}}
use Rattle.mm_text.proofs.{UnitFaultLemmas.{ends_in_unit, may_begin_from}, UnitReadingLemmas.{run-IsViable}}

pub has_five_words : HasFiveWords
unfolding is_white is_allowed
has_five_words = words_of_text (codes "$( a type $)\nwp $f wff p $.\n") (plain_word 13 15 ∷ keyword Floating 16 ∷ plain_word 19 22 ∷ plain_word 23 24 ∷ keyword StatementEnd 25 ∷ []) refl

pub stands_in_second_line : StandsInSecondLine
stands_in_second_line = (refl, refl)

abbrev unended : List ℕ
unended = codes "$c a $c b $."

pub misses_end : MissesEnd
unfolding is_white is_allowed
misses_end = first_of_units unended (keyword Constants 0 ∷ plain_word 3 4 ∷ []) (keyword Constants 5) (take 3 (runs unended)) (drop 3 (runs unended)) Symbols 0 T06 refl refl
    (words_from_read (take 3 (runs unended)) (keyword Constants 0 ∷ plain_word 3 4 ∷ keyword Constants 5 ∷ []) refl) refl refl

-- the words of `$c a $.`
abbrev declared : List Word
declared = keyword Constants 0 ∷ plain_word 3 4 ∷ keyword StatementEnd 5 ∷ []

-- a run of a text
abbrev run_at : ℕ → List ℕ → Run
run_at start bytes = record { start = start; bytes = bytes }

abbrev comment_open : List ℕ
comment_open = codes "$c a $. $( b"

ends_in_comment : IsFirstFaultAt comment_open T02 8
unfolding is_white is_allowed
ends_in_comment = first_of_words comment_open declared T02 8 refl (run-IsViable (tokens_of comment_open declared) (Begin, 0) refl) (
  record {
    front = take 3 (runs comment_open);
    first = run_at 8 opening;
    inside = run_at 11 (codes "b") ∷ [];
    joined = refl;
    before = words_from_read (take 3 (runs comment_open)) declared refl;
    opened = refl;
    no_marks = (λ marked. false≢true (stands_mark (codes "b") marked), tt);
  },
  refl,
)

abbrev mark_in_comment : List ℕ
mark_in_comment = codes "$( a $( b $)"

meets_mark : IsFirstFaultAt mark_in_comment T03 5
unfolding is_white is_allowed
meets_mark = first_of_words mark_in_comment [] T03 5 refl (run-IsViable [] (Begin, 0) refl) (record {
  front = take 2 (runs mark_in_comment);
  run = run_at 5 opening;
  rest = drop 3 (runs mark_in_comment);
  joined = refl;
  place = refl;
  refused = (
    record {
      front = [];
      first = run_at 0 opening;
      inside = run_at 3 (codes "a") ∷ [];
      joined = refl;
      before = none_read;
      opened = refl;
      no_marks = (λ marked. false≢true (stands_mark (codes "a") marked), tt);
    },
    (0, inl refl),
    λ e. omega (arith, ap (λ (w : List ℕ). slice_index w 1) e),
  );
})

abbrev mark_outside : List ℕ
mark_outside = codes "$c a $) $."

meets_end_mark : IsFirstFaultAt mark_outside T04 5
unfolding is_white is_allowed
meets_end_mark = first_of_words mark_outside begun T04 5 refl (run-IsViable (tokens_of mark_outside begun) (Symbols, 0) refl) (record {
  front = take 2 (runs mark_outside);
  run = run_at 5 closing;
  rest = drop 3 (runs mark_outside);
  joined = refl;
  place = refl;
  refused = (words_from_read (take 2 (runs mark_outside)) begun refl, refl);
}) where
  begun : List Word
  begun = keyword Constants 0 ∷ plain_word 3 4 ∷ []

abbrev dollar_inside : List ℕ
dollar_inside = codes "$c a$b $."

meets_dollar : IsFirstFaultAt dollar_inside T05 3
unfolding is_white is_allowed
meets_dollar = first_of_words dollar_inside (keyword Constants 0 ∷ []) T05 3 refl (run-IsViable (tokens_of dollar_inside (keyword Constants 0 ∷ [])) (Symbols, 0) refl) (record {
  front = take 1 (runs dollar_inside);
  run = run_at 3 (codes "a$b");
  rest = drop 2 (runs dollar_inside);
  joined = refl;
  place = refl;
  refused = (
    words_from_read (take 1 (runs dollar_inside)) (keyword Constants 0 ∷ []) refl,
    λ e. omega (arith, ap (λ (w : List ℕ). slice_index w 0) e),
    λ e. omega (arith, ap (λ (w : List ℕ). slice_index w 0) e),
    refl,
  );
})

abbrev unit_open : List ℕ
unit_open = codes "$c a $. $c b"

abbrev unit_open_words : List Word
unit_open_words = keyword Constants 0 ∷ plain_word 3 4 ∷ keyword StatementEnd 5 ∷ keyword Constants 8 ∷ plain_word 11 12 ∷ []

-- the phase after this many words is not that between units
IsInside : ℕ → Type 0
IsInside n = (phase : Phase) × (depth : ℕ) × (run Begin 0 (take n (tokens_of unit_open unit_open_words)) ≡ Ok (phase_state phase depth)) × (phase ≢ Begin)

ends_in_statement : IsFirstFaultAt unit_open T07 8
unfolding is_white is_allowed IsInside
ends_in_statement = record {
  found = unit_open_words;
  has_words = words_of_text unit_open unit_open_words refl;
  word = 3;
  token = token_of unit_open (keyword Constants 8);
  ends = ends_in_unit (tokens_of unit_open unit_open_words) 3 0 (omega arith) refl (λ n l g. subst IsInside (n_is n l) (later (n - 4) (omega arith)));
  there = refl;
  place = refl;
} where
  n_is : (n : ℕ) → 3 < n → 4 + (n - 4) ≡ n
  n_is n l = omega arith

  later : (k : ℕ) → k ≤ 1 → IsInside (4 + k)
  later zero l = (Symbols, 0, refl, is_no_begin Symbols refl)
  later (suc zero) l = (Symbols, 0, refl, is_no_begin Symbols refl)
  later (suc (suc k)) l = absurd (omega arith)

abbrev block_open : List ℕ
block_open = codes "${ ${ $c a $. $}"

abbrev block_open_words : List Word
block_open_words = keyword BlockStart 0 ∷ keyword BlockStart 3 ∷ keyword Constants 6 ∷ plain_word 9 10 ∷ keyword StatementEnd 11 ∷ keyword BlockEnd 14 ∷ []

abbrev block_open_inner : Units
block_open_inner = Block (token_of block_open (keyword BlockStart 3))
    (Simple (Declaration (token_of block_open (keyword Constants 6)) (token_of block_open (plain_word 9 10) ∷ []) (token_of block_open (keyword StatementEnd 11))) Nothing)
    (token_of block_open (keyword BlockEnd 14)) Nothing

ends_in_outer : IsFirstFaultAt block_open T08 0
unfolding is_white is_allowed
ends_in_outer = record {
  found = block_open_words;
  has_words = words_of_text block_open block_open_words refl;
  word = 0;
  token = token_of block_open (keyword BlockStart 0);
  ends = record {
    begin = token_of block_open (keyword BlockStart 0);
    inner = block_open_inner;
    there = refl;
    opens = refl;
    begins = may_begin_from [] 0 refl;
    inside = (refl, ((inl refl, (refl, tt), refl), tt), refl, tt);
    behind = refl;
  };
  there = refl;
  place = refl;
}

-- a word with which units do not go on, after these words and this many runs
refused : (text : List ℕ) (found : List Word) (word : Word) (count : ℕ) (phase : Phase) (depth : ℕ) (number : TextNumber) → first_bad text ≡ None
    → read_runs None (take count (runs text)) ≡ Ok (found ++ word ∷ []) → run Begin 0 (tokens_of text found) ≡ Ok (phase_state phase depth)
    → next phase depth word.kind (could_label (token_of text word)) ≡ Err number → IsFirstFaultAt text number word.start
refused text found word count phase depth number allowed reads state stops =
    first_of_units text found word (take count (runs text)) (drop count (runs text)) phase depth number allowed (sym (take-append-drop count (runs text)))
    (words_from_read (take count (runs text)) (found ++ word ∷ []) reads) state stops

pub have_their_faults : HaveTheirFaults
unfolding is_white is_allowed is_label_byte
have_their_faults = record {
  bad_byte = refl;
  comment_open = ends_in_comment;
  mark_in_comment = meets_mark;
  mark_outside = meets_end_mark;
  dollar_inside = meets_dollar;
  unit_open = ends_in_statement;
  block_open = ends_in_outer;
  no_block_open = refused (codes "$c a $. $}") declared (keyword BlockEnd 8) 4 Begin 0 T09 refl refl refl refl;
  inclusion_inside = refused (codes "${ $[ a.mm $] $}") (keyword BlockStart 0 ∷ []) (keyword InclusionStart 3) 2 Begin 1 T10 refl refl refl refl;
  no_label = refused (codes "$c a $. a+b $a a $.") declared (plain_word 8 11) 4 Begin 0 T11 refl refl refl refl;
  keyword_as_name = refused (codes "$[ $c $]") (keyword InclusionStart 0 ∷ []) (keyword Constants 3) 2 Including 0 T12 refl refl refl refl;
}

pub sort_bytes : SortBytes
unfolding is_white is_allowed is_label_byte
sort_bytes = record { white = refl; allowed = refl; digits = refl; letters = refl; others = refl }

pub has_three_members : HasThreeMembers
has_three_members = record {
  last = (omega arith, omega arith);
  behind = (λ h. omega arith, λ h. omega arith);
  inserted = (omega arith, λ h. omega arith);
  moved = ((omega arith, omega arith), λ h. omega (arith, h.1), λ h. omega (arith, h.0));
}

pub name_and_bring : NameAndBring
name_and_bring = record { replaced = refl; text = refl; moved = refl; none = refl }

abbrev constants : List ℕ
constants = codes "$c $( the type $) wff $. "

abbrev type : List ℕ
type = codes "$( typed $)\nwp $f wff p $.\n"

constants_piece : IsPiece constants
unfolding is_white is_allowed
constants_piece = record {
  unit = record {
    words = keyword Constants 0 ∷ plain_word 18 21 ∷ keyword StatementEnd 22 ∷ [];
    units = Simple (Declaration (token_of constants (keyword Constants 0)) (token_of constants (plain_word 18 21) ∷ []) (token_of constants (keyword StatementEnd 22))) Nothing;
    has_words = words_of_text constants (keyword Constants 0 ∷ plain_word 18 21 ∷ keyword StatementEnd 22 ∷ []) refl;
    are_units = ((inl refl, (refl, tt), refl), tt);
    spells = refl;
    one = refl;
    ends = refl;
  };
  white = AllPass-from_list_all is_white (codes " ") refl;
}

type_piece : IsPiece type
unfolding is_white is_allowed is_label_byte
type_piece = record {
  unit = record {
    words = plain_word 12 14 ∷ keyword Floating 15 ∷ plain_word 18 21 ∷ plain_word 22 23 ∷ keyword StatementEnd 24 ∷ [];
    units = Simple (Labelled (token_of type (plain_word 12 14)) (token_of type (keyword Floating 15)) (token_of type (plain_word 18 21) ∷ token_of type (plain_word 22 23) ∷ [])
        (token_of type (keyword StatementEnd 24))) Nothing;
    has_words = words_of_text type (plain_word 12 14 ∷ keyword Floating 15 ∷ plain_word 18 21 ∷ plain_word 22 23 ∷ keyword StatementEnd 24 ∷ []) refl;
    are_units = (((refl, refl), inl refl, (refl, (refl, tt)), refl), tt);
    spells = refl;
    one = refl;
    ends = refl;
  };
  white = AllPass-from_list_all is_white (codes "\n") refl;
}

pub is_cut_in_two : IsCutInTwo
unfolding is_white is_allowed
is_cut_in_two = record { joined = refl; are_pieces = (constants_piece, refl, (type_piece, refl, words_of_text (codes "$( end $)\n") [] refl)) }

pub cuts_nothing : CutsNothing
unfolding is_white is_allowed
cuts_nothing = record { joined = refl; are_pieces = words_of_text [] [] refl }

abbrev inclusion : List ℕ
inclusion = codes "$[ a.mm $]\n"

abbrev block : List ℕ
block = codes "${ $v x y $. $d x y $. e $e w $. p $p w $= e $. $}\n"

abbrev block_words : List Word
block_words = keyword BlockStart 0 ∷ keyword Variables 3 ∷ plain_word 6 7 ∷ plain_word 8 9 ∷ keyword StatementEnd 10 ∷ keyword Disjoint 13 ∷ plain_word 16 17 ∷ plain_word 18 19 ∷ keyword StatementEnd 20
    ∷ plain_word 23 24 ∷ keyword Essential 25 ∷ plain_word 28 29 ∷ keyword StatementEnd 30 ∷ plain_word 33 34 ∷ keyword Theorem 35 ∷ plain_word 38 39 ∷ keyword ProofStart 40 ∷ plain_word 43 44 ∷ keyword StatementEnd 45 ∷ keyword BlockEnd 48 ∷ []

abbrev block_unit : Units
block_unit = Block (token_of block (keyword BlockStart 0))
    (Simple (Declaration (token_of block (keyword Variables 3)) (token_of block (plain_word 6 7) ∷ token_of block (plain_word 8 9) ∷ []) (token_of block (keyword StatementEnd 10)))
    (Simple (Declaration (token_of block (keyword Disjoint 13)) (token_of block (plain_word 16 17) ∷ token_of block (plain_word 18 19) ∷ []) (token_of block (keyword StatementEnd 20)))
    (Simple (Labelled (token_of block (plain_word 23 24)) (token_of block (keyword Essential 25)) (token_of block (plain_word 28 29) ∷ []) (token_of block (keyword StatementEnd 30)))
    (Simple (Provable (token_of block (plain_word 33 34)) (token_of block (keyword Theorem 35)) (token_of block (plain_word 38 39) ∷ []) (token_of block (keyword ProofStart 40))
    (token_of block (plain_word 43 44) ∷ []) (token_of block (keyword StatementEnd 45))) Nothing))))
    (token_of block (keyword BlockEnd 48)) Nothing

pub hold_one_unit_each : HoldOneUnitEach
unfolding is_white is_allowed is_label_byte
hold_one_unit_each = record {
  inclusion = record {
    words = keyword InclusionStart 0 ∷ plain_word 3 7 ∷ keyword InclusionEnd 8 ∷ [];
    units = Simple (Inclusion (token_of inclusion (keyword InclusionStart 0)) (token_of inclusion (plain_word 3 7)) (token_of inclusion (keyword InclusionEnd 8))) Nothing;
    has_words = words_of_text inclusion (keyword InclusionStart 0 ∷ plain_word 3 7 ∷ keyword InclusionEnd 8 ∷ []) refl;
    are_units = ((refl, refl, refl, refl), tt);
    spells = refl;
    one = refl;
    ends = refl;
  };
  block = record {
    words = block_words;
    units = block_unit;
    has_words = words_of_text block block_words refl;
    are_units = (
      refl,
      (
        (inr (inl refl), (refl, (refl, tt)), refl),
        (
          (inr (inr refl), (refl, (refl, tt)), refl),
          (
            ((refl, refl), inr (inl refl), (refl, tt), refl),
            (((refl, refl), refl, (refl, tt), refl, (refl, tt), refl), tt),
          ),
        ),
      ),
      refl,
      tt,
    );
    spells = refl;
    one = refl;
    ends = refl;
  };
}
