-- The worked examples of edits and of files, by computing.
use Rattle.std.proofs.Common.{◌≡◌, ℕ, ◌+◌, ◌==◌, ◌≤◌, ◌<◌, Bool, true, false, not, List, [], ◌∷◌, ◌++◌, length, get_or, map, drop, Some, None, refl, sym, ap, subst, ◌∙◌, take, codes, zero, suc}
use Rattle.std.proofs.{Common.{Contains, inl, inr, arith, slice_get, unwrap_or, replicate, ◌↔◌, nat_cmp, All, IsSome}, lemmas.List.{length-replicate, nil_from_length, Sums.{AllPass-from_list_all}}}
use Rattle.std.{proofs.lemmas.{List.Elements.{All-from_recursion}, Grind.{common_steps}, Slice.Eq.{bytes_eq-Decides}}, specs.{List.{AllByRecursion, flat_map, list_all, sum_by}, Str.{bytes_eq}}}
use Rattle.std.specs.FinMap.{get-empty, get-from_sorted, entries-from_sorted, find}
use Rattle.mm_text.specs.declared.{word.{Word.{Word}, WordKind.{WordKind}, Keyword.{Keyword, TheVariants.{Constants, Variables, StatementEnd}}}, fault.TextNumber.TheVariants.{T01}}
use Rattle.mm_text.specs.Language.{Run.{runs, is_white}, Spelling.{spelling, opening, closing, IsSpelled, HoldsMark}}
use Rattle.mm_text.specs.Language.Reading.{Segment, Single, Comment, segment_runs, segment_words, IsSegment, HasWords, first_bad, is_allowed}
use Rattle.mm_text.specs.Language.{Unit.{Token, tokens_of, Declaration, Units, Nothing, Simple, unit_tokens, AreUnits}, Cut.{IsPiece, HoldsOneUnit, IsCut, ends_white, ended, IsFirstFault}}
use Rattle.mm_text.specs.Language.Asked.{Asked, Insert, Replace, Delete, Move, edited_name, edited_text, IsAmong}
use Rattle.mm_store.specs.{declared.{edit.EditError.TheVariants.{TooMany}, error.StoreError.TheVariants.{Known}}, Language.Pieces.{HeldPiece, Standing, Parked, Replaced, parked_state, text_in}}
use Rattle.mm_store.specs.Language.{FilesView.{KeyedFile, File, no_files, plain, file_number, bytes_of, text_of}, FileFacts.{HoldsPieces, parked_in}}
use Rattle.mm_store.specs.Language.{Edits.{IsEditOf, IsEditedFile, IsPlaced, HasUnitCount, NamesNoMember, BringsOneUnit, after_edit}, Answers.{HasTooMany, IsEditError, IsExpansionError}}
use Rattle.mm_store.specs.Language.Batches.{StartsPlaced}
use Rattle.mm_store.specs.Language.EditExamples.{declaring, lettered, spaces, parking, EditsAreSeen, EditsAreDone, EditsAreRefused, EditsAreNotDone, BatchIsDone, BatchIsRefused, FilesAreFound}
use Rattle.mm_store.specs.Language.EditExamples.{TextsAreAdded, FilesAreBounded, KeysAreTexts}
use Rattle.mm_text.specs.declared.word.WordKind.TheVariants as words
use Rattle.std.specs.FinMap as finite

pub no_dollar : (bytes : List ℕ) → list_all (λ b. not (b == 36)) bytes ≡ true → ¬ Contains bytes 36
no_dollar bytes all there =
    let passes : not (get_or bytes there.0 36 == 36) ≡ true = AllPass-from_list_all (λ b. not (b == 36)) bytes all there.0 36 there.1 in
    let is : get_or bytes there.0 36 ≡ 36 = there.2 in
    let never : not (36 == 36) ≡ true = rw is at passes in
    cc

-- ---- texts of statements without comments

abbrev word_of : Token → Word
word_of token = record { kind = token.kind; start = token.start; end = token.start + length token.bytes }

abbrev single : Token → Segment
single token = Single (record { start = token.start; bytes = token.bytes }) (word_of token)

singles : (tokens : List Token) → flat_map segment_words (map single tokens) ≡ map word_of tokens
singles [] = refl
singles (token ∷ tokens) = ap (λ (ws : List Word). word_of token ∷ ws) (singles tokens)

abbrev is_spelled : WordKind → List ℕ → Bool
is_spelled words.Plain bytes = list_all (λ b. not (b == 36)) bytes
is_spelled (words.Keyword keyword) bytes = bytes_eq bytes (spelling keyword)

spelled_so : (kind : WordKind) (bytes : List ℕ) → is_spelled kind bytes ≡ true → IsSpelled kind bytes
spelled_so words.Plain bytes e = no_dollar bytes e
spelled_so (words.Keyword keyword) bytes e = (bytes_eq-Decides bytes (spelling keyword)).0 e

are_spelled : (tokens : List Token) → list_all (λ token. is_spelled token.kind token.bytes) tokens ≡ true → AllByRecursion IsSegment (map single tokens)
are_spelled [] e = tt
are_spelled (token ∷ tokens) e =
    let own : is_spelled token.kind token.bytes ≡ true = grind (arith, common_steps) steps 200000 in
    let others : list_all (λ (token : Token). is_spelled token.kind token.bytes) tokens ≡ true = grind (arith, common_steps) steps 200000 in
    (record { kind = spelled_so token.kind token.bytes own; start = refl; end = refl }, are_spelled tokens others)

-- a keyword, a letter and `$.`
abbrev declared : Keyword → ℕ → Units
declared keyword letter = Simple (Declaration
    (record { kind = words.Keyword keyword; bytes = spelling keyword; start = 0 })
    (record { kind = words.Plain; bytes = letter ∷ []; start = 3 } ∷ [])
    (record { kind = words.Keyword StatementEnd; bytes = spelling StatementEnd; start = 5 })) Nothing

abbrev declared_words : Keyword → ℕ → List Word
declared_words keyword letter = map word_of (unit_tokens (declared keyword letter))

is_piece : (keyword : Keyword) (letter : ℕ) (text : List ℕ) → first_bad text ≡ None → flat_map segment_runs (map single (unit_tokens (declared keyword letter))) ≡ runs text
    → list_all (λ token. is_spelled token.kind token.bytes) (unit_tokens (declared keyword letter)) ≡ true → AreUnits true (declared keyword letter)
    → unit_tokens (declared keyword letter) ≡ tokens_of text (declared_words keyword letter) → list_all is_white (drop 7 text) ≡ true → ends_white text ≡ true → IsPiece text
is_piece keyword letter text allowed joined spelled are same white ends = record {
  unit = record {
    words = declared_words keyword letter;
    units = declared keyword letter;
    has_words = record {
      allowed = allowed;
      words_are = record {
        parts = map single (unit_tokens (declared keyword letter));
        each = are_spelled (unit_tokens (declared keyword letter)) spelled;
        joined = joined;
        singles = singles (unit_tokens (declared keyword letter));
      };
    };
    are_units = are;
    spells = same;
    one = refl;
    ends = ends;
  };
  white = AllPass-from_list_all is_white (drop 7 text) white;
}

constant_a : IsPiece (codes "$c a $.\n")
unfolding is_white is_allowed
constant_a = is_piece Constants 97 (codes "$c a $.\n") refl refl refl ((inl refl, (refl, tt), refl), tt) refl refl refl

constant_b : IsPiece (codes "$c b $.\n")
unfolding is_white is_allowed
constant_b = is_piece Constants 98 (codes "$c b $.\n") refl refl refl ((inl refl, (refl, tt), refl), tt) refl refl refl

constant_e : IsPiece (codes "$c e $.\n")
unfolding is_white is_allowed
constant_e = is_piece Constants 101 (codes "$c e $.\n") refl refl refl ((inl refl, (refl, tt), refl), tt) refl refl refl

constant_f : IsPiece (codes "$c f $.\n")
unfolding is_white is_allowed
constant_f = is_piece Constants 102 (codes "$c f $.\n") refl refl refl ((inl refl, (refl, tt), refl), tt) refl refl refl

spaced_e : IsPiece (codes "$c e $. ")
unfolding is_white is_allowed
spaced_e = is_piece Constants 101 (codes "$c e $. ") refl refl refl ((inl refl, (refl, tt), refl), tt) refl refl refl

variable_y : IsPiece (codes "$v y $.\n")
unfolding is_white is_allowed
variable_y = is_piece Variables 121 (codes "$v y $.\n") refl refl refl ((inr (inl refl), (refl, tt), refl), tt) refl refl refl

-- ---- texts without words

no_words : HasWords [] []
no_words = record { allowed = refl; words_are = record { parts = []; each = tt; joined = refl; singles = refl } }

no_mark : (bytes rest : List ℕ) (k : ℕ) → list_all (λ b. not (b == 36)) bytes ≡ true → ¬ (take 2 (drop k bytes) ≡ 36 ∷ rest)
no_mark [] rest zero all e = cc
no_mark [] rest (suc k) all e = cc
no_mark (b ∷ bytes) rest zero all e = grind (arith, common_steps) steps 200000
no_mark (b ∷ bytes) rest (suc k) all e = no_mark bytes rest k (grind (arith, common_steps) steps 200000) e

end_no_mark : ¬ HoldsMark (codes "end")
end_no_mark (k, inl e) = no_mark (codes "end") (40 ∷ []) k refl e
end_no_mark (k, inr e) = no_mark (codes "end") (41 ∷ []) k refl e

abbrev end_comment : Segment
end_comment = Comment (record { start = 0; bytes = opening }) (record { start = 3; bytes = codes "end" } ∷ []) (record { start = 7; bytes = closing })

comment_words : HasWords (codes "$( end $)\n") []
unfolding is_white is_allowed
comment_words = record {
  allowed = refl;
  words_are = record {
    parts = end_comment ∷ [];
    each = (record { opened = refl; no_marks = (end_no_mark, tt); closed = refl }, tt);
    joined = refl;
    singles = refl;
  };
}

-- ---- cuts

cut_e : IsCut (codes "$c e $.") (codes "$c e $.\n" ∷ []) []
unfolding is_white
cut_e = record { joined = refl; are_pieces = (constant_e, tt, no_words) }

ended_e : IsCut (codes "$c e $.\n") (codes "$c e $.\n" ∷ []) []
unfolding is_white
ended_e = record { joined = refl; are_pieces = (constant_e, tt, no_words) }

cut_two : IsCut (codes "$c e $. $c f $.") (codes "$c e $. " ∷ codes "$c f $.\n" ∷ []) []
unfolding is_white
cut_two = record { joined = refl; are_pieces = (spaced_e, refl, (constant_f, tt, no_words)) }

cut_comment : IsCut (codes "$( end $)") [] (codes "$( end $)\n")
unfolding is_white
cut_comment = record { joined = refl; are_pieces = comment_words }

cut_all : IsCut (codes "$c e $. $c f $.\n$( end $)") (codes "$c e $. " ∷ codes "$c f $.\n" ∷ []) (codes "$( end $)\n")
unfolding is_white
cut_all = record { joined = refl; are_pieces = (spaced_e, refl, (constant_f, refl, comment_words)) }

one_e : HasUnitCount (codes "$c e $.") 1
one_e = record { pieces = codes "$c e $.\n" ∷ []; tail = []; is_cut = cut_e; is_count = refl }

one_ended_e : HasUnitCount (codes "$c e $.\n") 1
one_ended_e = record { pieces = codes "$c e $.\n" ∷ []; tail = []; is_cut = ended_e; is_count = refl }

-- ---- edits of the second file

abbrev file_b : List ℕ → File
file_b letters = record { name = codes "b.mm"; pieces = map declaring letters; tail = codes "$( end $)\n" }

abbrev four : List File
four = lettered (codes "abcd")

placed_b : (edit : Asked) → file_number four (edited_name edit) ≡ Some 1 → IsAmong edit 4 → IsPlaced four edit 1 (file_b (codes "abcd"))
placed_b edit named among = record { file_there = record { named = named; there = refl }; among = among }

done_b : (edit : Asked) (letters : List ℕ) → IsPlaced four edit 1 (file_b (codes "abcd")) → BringsOneUnit (edited_text edit)
    → lettered letters ≡ after_edit four edit 1 (file_b (codes "abcd")) → bytes_of (lettered letters) ≤ 4294967295 → IsEditOf edit four (lettered letters)
done_b edit letters placed one_unit is_after within = record { number = 1; file = file_b (codes "abcd"); placed = placed; one_unit = one_unit; is_after = is_after; within = within }

abbrev refuses : Asked → ℕ → Type 0
refuses edit count = NamesNoMember edit four count

refused_b : (edit : Asked) → file_number four (edited_name edit) ≡ Some 1 → ¬ IsAmong edit 4 → refuses edit 4
refused_b edit named not_among = (1, file_b (codes "abcd"), record { named = named; there = refl }, refl, not_among)

pub edits_are_seen : EditsAreSeen
edits_are_seen file text = (refl, refl, refl, refl)

pub edits_are_done : EditsAreDone
unfolding is_white
edits_are_done = (
  done_b (Insert (codes "b.mm") 1 (codes "$c e $.")) (codes "aebcd") (placed_b _ refl (omega arith)) one_e refl (omega arith),
  done_b (Insert (codes "b.mm") 4 (codes "$c e $.\n")) (codes "abcde") (placed_b _ refl (omega arith)) one_ended_e refl (omega arith),
  done_b (Replace (codes "b.mm") 1 (codes "$c e $.")) (codes "aecd") (placed_b _ refl (omega arith)) one_e refl (omega arith),
  done_b (Delete (codes "b.mm") 1) (codes "acd") (placed_b _ refl (omega arith)) tt refl (omega arith),
  done_b (Move (codes "b.mm") 0 2) (codes "bcad") (placed_b _ refl (omega arith, omega arith)) tt refl (omega arith),
  done_b (Move (codes "b.mm") 2 0) (codes "cabd") (placed_b _ refl (omega arith, omega arith)) tt refl (omega arith),
)

same_place : (files : List File) (edit : Asked) (n number : ℕ) (f file : File) → IsEditedFile files edit n f → IsEditedFile files edit number file → (n ≡ number) × (f ≡ file)
same_place files edit n number f file a b =
    let number_is : n ≡ number = ap (λ o. unwrap_or o n) (sym a.named ∙ b.named) in
    let there : slice_get files n ≡ Some file = subst (λ k. slice_get files k ≡ Some file) (sym number_is) b.there in
    (number_is, ap (λ o. unwrap_or o f) (sym a.there ∙ there))

two_units : HasUnitCount (codes "$c e $. $c f $.") 2
two_units = record { pieces = codes "$c e $. " ∷ codes "$c f $.\n" ∷ []; tail = []; is_cut = cut_two; is_count = refl }

no_unit : HasUnitCount (codes "$( end $)") 0
no_unit = record { pieces = []; tail = codes "$( end $)\n"; is_cut = cut_comment; is_count = refl }

bad_byte : IsFirstFault (codes "$c " ++ 127 ∷ codes " $.") (record { number = T01; at = 3 })
unfolding is_white is_allowed
bad_byte = refl

pub edits_are_refused : EditsAreRefused
edits_are_refused = (
  refl,
  refused_b (Delete (codes "b.mm") 4) refl (λ (among : 4 < 4). omega arith),
  refused_b (Move (codes "b.mm") 0 4) refl (λ (among : (0 < 4) × (4 < 4)). let no : 4 < 4 = among.1 in omega arith),
  refused_b (Insert (codes "b.mm") 5 (codes "$c e $.")) refl (λ (among : 5 ≤ 4). omega arith),
  (1, file_b (codes "abcd"), placed_b (Insert (codes "b.mm") 4 (codes "$c " ++ 127 ∷ codes " $.")) refl (omega arith), bad_byte),
  (1, file_b (codes "abcd"), placed_b (Replace (codes "b.mm") 1 (codes "$c e $. $c f $.")) refl (omega arith), (two_units, λ (e : 2 ≡ 1). omega arith)),
  (1, file_b (codes "abcd"), placed_b (Replace (codes "b.mm") 1 (codes "$( end $)")) refl (omega arith), (no_unit, λ (e : 0 ≡ 1). omega arith)),
  (1, file_b (codes "abcd"), placed_b (Replace (codes "b.mm") 1 (codes "$c e $.")) refl (omega arith), λ e. cc),
  λ refused. refused.3 refl,
)

abbrev OneCut : Type 0
OneCut = (text : List ℕ) (a b : List (List ℕ)) (s t : List ℕ) → IsCut text a s → IsCut text b t → (a ≡ b) × (s ≡ t)

four_there : (edit : Asked) → file_number four (edited_name edit) ≡ Some 1 → IsEditedFile four edit 1 (file_b (codes "abcd"))
four_there edit named = record { named = named; there = refl }

not_this : (after : List File) → ¬ IsEditOf (Delete (codes "c.mm") 0) four after
not_this after is = let no : None ≡ Some is.number = is.placed.file_there.named in cc

not_fifth : (after : List File) → ¬ IsEditOf (Delete (codes "b.mm") 4) four after
not_fifth after is =
    let same = same_place four (Delete (codes "b.mm") 4) 1 is.number (file_b (codes "abcd")) is.file (four_there _ refl) is.placed.file_there in
    let among : 4 < length (file_b (codes "abcd")).pieces = subst (λ (f : File). 4 < length f.pieces) (sym same.1) is.placed.among in
    omega arith

not_two : OneCut → (after : List File) → ¬ IsEditOf (Replace (codes "b.mm") 1 (codes "$c e $. $c f $.")) four after
not_two one after is =
    let has : HasUnitCount (codes "$c e $. $c f $.") 1 = is.one_unit in
    let same = one (codes "$c e $. $c f $.") has.pieces (codes "$c e $. " ∷ codes "$c f $.\n" ∷ []) has.tail [] has.is_cut cut_two in
    let two : length has.pieces ≡ 2 = ap length same.0 in
    omega (arith, two, has.is_count)

not_third : ¬ IsEditOf (Delete (codes "b.mm") 1) four (lettered (codes "abd"))
not_third is =
    let same = same_place four (Delete (codes "b.mm") 1) 1 is.number (file_b (codes "abcd")) is.file (four_there _ refl) is.placed.file_there in
    let after : lettered (codes "abd") ≡ lettered (codes "acd") = is.is_after ∙ rw (sym same.0, sym same.1) refl in
    let letter : ◌≡◌ {A = ℕ} 98 99 = ap (λ (files : List File). get_or (text_of (get_or files 1 (file_b []))) 11 0) after in
    omega arith

pub edits_are_not_done : OneCut → EditsAreNotDone
edits_are_not_done one = (not_this, not_fifth, not_two one, not_third)

pub batch_is_done : BatchIsDone
batch_is_done = (
  lettered (codes "bcad"),
  done_b (Move (codes "b.mm") 0 2) (codes "bcad") (placed_b _ refl (omega arith, omega arith)) tt refl (omega arith),
  (
    lettered (codes "cad"),
    record {
      number = 1;
      file = file_b (codes "bcad");
      placed = record { file_there = record { named = refl; there = refl }; among = omega arith };
      one_unit = tt;
      is_after = refl;
      within = omega arith;
    },
    refl,
  ),
)

no_start : ¬ StartsPlaced (Delete (codes "b.mm") 4 ∷ Delete (codes "b.mm") 3 ∷ []) four
no_start starts =
    let is : Delete (codes "b.mm") 4 ≡ starts.0 = ap (λ o. unwrap_or o (Delete (codes "b.mm") 4)) starts.3 in
    let placed : IsPlaced four (Delete (codes "b.mm") 4) starts.1 starts.2 = subst (λ edit. IsPlaced four edit starts.1 starts.2) (sym is) starts.4 in
    let number : 1 ≡ starts.1 = ap (λ o. unwrap_or o 1) placed.file_there.named in
    let there : slice_get four 1 ≡ Some starts.2 = subst (λ n. slice_get four n ≡ Some starts.2) (sym number) placed.file_there.there in
    let file : file_b (codes "abcd") ≡ starts.2 = ap (λ o. unwrap_or o (file_b (codes "abcd"))) there in
    let among : 4 < length (file_b (codes "abcd")).pieces = subst (λ (f : File). 4 < length f.pieces) (sym file) placed.among in
    omega arith

pub batch_is_refused : BatchIsRefused
batch_is_refused = (
  record {
    before = lettered (codes "abc");
    accepted = (lettered (codes "abc"), done_b (Delete (codes "b.mm") 3) (codes "abc") (placed_b _ refl (omega arith)) tt refl (omega arith), refl);
    edit = Delete (codes "b.mm") 3;
    there = refl;
    refused = (1, file_b (codes "abc"), record { named = refl; there = refl }, refl, λ (among : 3 < 3). omega arith);
    told = λ e. cc;
  },
  λ refused. refused.told refl,
  (Delete (codes "b.mm") 3, 1, file_b (codes "abcd"), refl, placed_b _ refl (omega arith)),
  no_start,
)

-- ---- files

not_ended : ¬ HoldsOneUnit (codes "$c f $.")
unfolding is_white
not_ended one = let no : false ≡ true = one.ends in cc

pub files_are_found : FilesAreFound
files_are_found = (
  refl,
  refl,
  refl,
  refl,
  refl,
  refl,
  refl,
  ((variable_y.unit, tt), ((constant_a.unit, (constant_b.unit, tt)), tt)),
  λ hold. not_ended hold.1.1.0.1.0,
)

other_fault : ¬ IsExpansionError Known
other_fault (inl e) = cc
other_fault (inr e) = cc

pub texts_are_added : TextsAreAdded
unfolding is_white is_allowed
texts_are_added = (
  record {
    file = record { name = codes "c.mm"; pieces = codes "$c e $. " ∷ codes "$c f $.\n" ∷ []; tail = codes "$( end $)\n" };
    last = refl;
    is_name = refl;
    is_cut = cut_all;
  },
  record {
    file = file_b (codes "ab");
    found = refl;
    text = codes "$c e $.";
    is_edit = record {
      number = 1;
      file = file_b (codes "ab");
      placed = record { file_there = record { named = refl; there = refl }; among = omega arith };
      one_unit = one_e;
      is_after = refl;
      within = omega arith;
    };
  },
  λ e. cc,
  λ e. cc,
  (refl, refl),
  omega arith,
  λ (within : 2 < 2). omega arith,
  inl refl,
  inr refl,
  λ is. other_fault is,
)

-- ---- how many bytes files may have

abbrev inserting : Asked
inserting = Insert (codes "a.mm") 0 (codes "$c e $.")

abbrev blank : ℕ → File
blank count = record { name = codes "a.mm"; pieces = []; tail = replicate count 32 }

abbrev filled : ℕ → List File
filled count = record { name = codes "a.mm"; pieces = codes "$c e $.\n" ∷ []; tail = replicate count 32 } ∷ []

size : (count : ℕ) → bytes_of (spaces count) ≡ count
size count = omega (arith, length-replicate {A = ℕ} count 32)

filled_size : (count : ℕ) → bytes_of (filled count) ≡ count + 8
filled_size count = omega (arith, length-replicate {A = ℕ} count 32)

blank_there : (count : ℕ) → IsEditedFile (spaces count) inserting 0 (blank count)
blank_there count = record { named = refl; there = refl }

blank_placed : (count : ℕ) → IsPlaced (spaces count) inserting 0 (blank count)
blank_placed count = record { file_there = blank_there count; among = omega arith }

is_filled : (count : ℕ) → filled count ≡ after_edit (spaces count) inserting 0 (blank count)
unfolding is_white
is_filled count = refl

adding_size : length (ended (codes "$c e $.")) ≡ 8
unfolding is_white
adding_size = refl

too_many : (count : ℕ) → HasTooMany (spaces count) (codes "$c e $.") ↔ 4294967287 < count
too_many count = (
  λ has. omega (arith, has.too_many, size count, adding_size),
  λ large. record { pieces = codes "$c e $.\n" ∷ []; tail = []; is_cut = cut_e; too_many = omega (arith, large, size count, adding_size) },
)

inserted_so : (count : ℕ) → IsEditOf inserting (spaces count) (filled count) ↔ count ≤ 4294967287
inserted_so count = (
  λ is. omega (arith, is.within, filled_size count),
  λ small. record { number = 0; file = blank count; placed = blank_placed count; one_unit = one_e; is_after = is_filled count; within = omega (arith, small, filled_size count) },
)

refused_so : (count : ℕ) → IsEditError inserting (spaces count) TooMany ↔ 4294967287 < count
refused_so count = (
  λ is.
      let same = same_place (spaces count) inserting 0 is.0 (blank count) is.1 (blank_there count) is.2.file_there in
      let after : after_edit (spaces count) inserting is.0 is.1 ≡ filled count = rw (sym same.0, sym same.1) (sym (is_filled count)) in
      omega (arith, is.4, ap bytes_of after, filled_size count),
  λ large. (0, blank count, blank_placed count, one_e, omega (arith, large, ap bytes_of (is_filled count), filled_size count)),
)

pub files_are_bounded : FilesAreBounded
files_are_bounded count = (too_many count, inserted_so count, refused_so count)

-- ---- pieces under keys

abbrev held : List (ℕ × HeldPiece)
held =
    (3, record { text = declaring 97; state = Standing }) ∷ (5, record { text = declaring 98; state = Parked 0 Replaced })
    ∷ (7, record { text = declaring 99; state = Standing }) ∷ []

under : (key : ℕ) → finite.get parking.pieces key ≡ find nat_cmp key held
under key = get-from_sorted nat_cmp held key tt

one_parked : parked_in parking ≡ 1
one_parked = ap (sum_by (λ (entry : ℕ × HeldPiece). parked_state entry.1.state)) (entries-from_sorted nat_cmp held tt)

none_parked : parked_in no_files ≡ 0
none_parked = ap (sum_by (λ (entry : ℕ × HeldPiece). parked_state entry.1.state)) (nil_from_length (finite.entries finite.empty) (sym (finite.len-entries finite.empty) ∙ finite.len-empty nat_cmp HeldPiece))

is_plain : plain parking ≡ record { name = codes "b.mm"; pieces = map declaring (codes "ca"); tail = codes "\n" } ∷ []
is_plain = rw (under 7, under 3) refl

pieces_are_held : HoldsPieces parking
pieces_are_held =
    All-from_recursion (λ (file : KeyedFile). All (λ key. IsSome (finite.get parking.pieces key)) file.keys) parking.keyed
    (All-from_recursion (λ key. IsSome (finite.get parking.pieces key)) (7 ∷ 3 ∷ []) (subst IsSome (sym (under 7)) refl, (subst IsSome (sym (under 3)) refl, tt)), tt)

abbrev keyed_b : KeyedFile
keyed_b = record { name = codes "b.mm"; keys = 7 ∷ 3 ∷ []; tail = codes "\n" }

nothing_there : ¬ IsSome {T = HeldPiece} None
nothing_there e = cc

pub keys_are_texts : KeysAreTexts
keys_are_texts = (
  is_plain,
  ap text_in (under 5),
  ap text_in (under 4),
  one_parked,
  refl,
  none_parked,
  pieces_are_held,
  λ holds. nothing_there (subst (IsSome {T = HeldPiece}) (get-empty nat_cmp 7) (holds 0 keyed_b (omega arith) 0 0 (omega arith))),
  λ key there. absurd (nothing_there (subst (IsSome {T = HeldPiece}) (get-empty nat_cmp key) there)),
  λ keeps. nothing_there (subst (IsSome {T = HeldPiece}) (sym (keeps 3 (subst IsSome (sym (under 3)) refl)) ∙ get-empty nat_cmp 3) (subst IsSome (sym (under 3)) refl)),
)
