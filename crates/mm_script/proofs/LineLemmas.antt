-- What a line asks for is known from its first space on.
use Rattle.std.proofs.Common.{[], ◌≡◌, ◌≢◌, ◌≤◌, ◌+◌, ◌-◌, ℕ, Bool, true, false, not, List, ◌∷◌, ◌++◌, append_assoc, length, length-append, take, drop, refl, sym, ap, ◌∙◌, subst, arith, Option, None}
use Rattle.std.proofs.{Common.{Result, Ok, slice_range, ◌==◌, codes, decimal}, lemmas.{Grind.{common_steps}, Slice.Eq.{bytes_eq-Decides}, Str.{IsUtf8-from_ascii}}}
use Rattle.std.proofs.lemmas.{Fmt.{parse-decimal, IsAscii-decimal}, Bool.{and_from}, List.{append-nil, drop_at, length-drop, length-take, length-take-le, take_at, take-append-drop}}
use Rattle.std.{proofs.lemmas.List.Folds.{drop_split}, specs.{List.{list_all}, Str.{IsUtf8, bytes_eq, Parse.{ParsesUnsigned}}, Option.{is_some}}}
use Rattle.mm_text.specs.Language.Asked.{Asked, Insert, Replace, Delete, Move, edited_name}
use Rattle.mm_script.specs.{declared.{command.{PendingRange.{PendingRange}, Question.{Question}}, script_lines.LineAt.{LineAt}}, Code.Growing.{IsLineAt, line_bytes}}
use Rattle.mm_script.specs.{Code.{Lines.{AreNumbers, CutsAt, CutsName, HasNoSpace, IsAlone, SaysEdit}, Stops.{IsOneLine}}, Language.Commands.{bytes_of_part, IsPartWithin}}
use Rattle.mm_script.specs.Language.Script.{Command, Change, Batch, Report, Ask, IsGood, line_of, question_word, IsGoodEdit, IsName, IsNumber, edit_line, is_word_byte}
use Rattle.mm_script.proofs.{SplitLemmas.{split_at, solid_space}, WordLemmas.{solid_decimal, small_number}}
use Rattle.mm_script.specs.declared.command.EditAt.TheVariants as found
use Rattle.mm_script.specs.declared.command.CommandAt.TheVariants as code

-- bytes of a line without a space are a name
pub solid_by : (xs : List ℕ) → HasNoSpace xs → IsOneLine xs → list_all is_word_byte xs ≡ true
solid_by [] f g = refl
solid_by (x ∷ xs) f g = and_from _ _ (grind (arith, common_steps) steps 200000) (solid_by xs f.1 g.1)

pub is_name_by : (xs : List ℕ) → xs ≢ [] → HasNoSpace xs → IsOneLine xs → IsName xs
is_name_by xs some f g = record { some = some; bytes = solid_by xs f g }

-- a name has no space, and neither has a number
pub name_space : (xs : List ℕ) → IsName xs → HasNoSpace xs
name_space xs n = solid_space xs n.bytes

pub number_space : (n : ℕ) → IsNumber n → HasNoSpace (decimal n)
number_space n h = solid_space (decimal n) (solid_decimal n (small_number n h))

-- what is cut at a space is cut there
pub cut_so : (bytes head tail left right : List ℕ) → CutsAt bytes head tail → HasNoSpace left → bytes ≡ left ++ 32 ∷ right → (head ≡ left) × (tail ≡ right)
cut_so bytes head tail left right cut none is = split_at 32 head left tail right cut.none none (sym cut.is ∙ is)

-- an answer that is none, by its test
pub none_by : {X : Type 0} (found : Option X) (none : Bool) → is_some found ≡ not none → none ≡ true → found ≡ None
none_by found none e h = grind (arith, common_steps) steps 200000

pub some_by : (xs : List ℕ) → false ≡ (length xs == 0) → xs ≢ []
some_by xs e = grind (arith, common_steps) steps 200000

-- what std reads as a number that is written like this is the number
pub read_so : {E : Type 0} (n : ℕ) (word text : List ℕ) (r : Result ℕ E) → IsNumber n → word ≡ decimal n → text ≡ word → ParsesUnsigned 32 10 text r → r ≡ Ok n
read_so n word text r h is same parses = parse-decimal 32 n text r (omega arith) (omega arith) (same ∙ is) parses

pub utf8_so : (n : ℕ) (word : List ℕ) → IsNumber n → word ≡ decimal n → IsUtf8 word
utf8_so n word h is = subst IsUtf8 (sym is) (IsUtf8-from_ascii (decimal n) (IsAscii-decimal n (omega arith)))

pub unequal : (xs ys : List ℕ) → false ≡ bytes_eq xs ys → xs ≡ ys → ⊥
unequal xs ys e is = let same : bytes_eq xs ys ≡ true = (bytes_eq-Decides xs ys).1 is in absurd (cc)

pub empty_by : (xs : List ℕ) → true ≡ (length xs == 0) → xs ≡ []
empty_by xs e = grind (arith, common_steps) steps 200000

pub equal : (xs ys : List ℕ) → true ≡ bytes_eq xs ys → xs ≡ ys
equal xs ys e = (bytes_eq-Decides xs ys).0 (sym e)

-- what comes before a space in a line, and after it
pub parts_of_line : (line head tail : List ℕ) → IsOneLine line → line ≡ head ++ 32 ∷ tail → IsOneLine head × IsOneLine tail
parts_of_line line head tail one is = by head (subst IsOneLine is one)
  where
    by : (xs : List ℕ) → IsOneLine (xs ++ 32 ∷ tail) → IsOneLine xs × IsOneLine tail
    by [] f = (tt, f.1)
    by (x ∷ xs) f = let rest = by xs f.1 in ((f.0, rest.0), rest.1)

-- ---- the line of an edit: its first word, the name of the file, and its numbers

abbrev pub edit_word : Asked → List ℕ
edit_word (Insert file at text) = codes "insert"
edit_word (Replace file at text) = codes "replace"
edit_word (Delete file at) = codes "delete"
edit_word (Move file at to) = codes "move"

abbrev pub edit_numbers : Asked → List ℕ
edit_numbers (Insert file at text) = decimal at ++ 32 ∷ decimal (length text)
edit_numbers (Replace file at text) = decimal at ++ 32 ∷ decimal (length text)
edit_numbers (Delete file at) = decimal at
edit_numbers (Move file at to) = decimal at ++ 32 ∷ decimal to

edit_parts : (e : Asked) → edit_line e ≡ edit_word e ++ 32 ∷ (edited_name e ++ 32 ∷ edit_numbers e)
edit_parts (Insert file at text) = refl
edit_parts (Replace file at text) = refl
edit_parts (Delete file at) = refl
edit_parts (Move file at to) = refl

pub edit_named : (e : Asked) → IsGoodEdit e → IsName (edited_name e)
edit_named e good = grind (arith, common_steps) steps 200000

word_space : (e : Asked) → HasNoSpace (edit_word e)
word_space e = grind (arith, common_steps) steps 200000

-- the line has no other parts
pub word_is : (line word tail : List ℕ) (e : Asked) → CutsAt line word tail → line ≡ edit_line e → (word ≡ edit_word e) × (tail ≡ edited_name e ++ 32 ∷ edit_numbers e)
word_is line word tail e cut is = cut_so line word tail (edit_word e) _ cut (word_space e) (is ∙ edit_parts e)

pub numbers_are : (line word tail name numbers : List ℕ) (e : Asked) → CutsAt line word tail → CutsName tail name numbers → IsGoodEdit e → line ≡ edit_line e
    → (word ≡ edit_word e) × (numbers ≡ edit_numbers e)
numbers_are line word tail name numbers e cut named good is =
    let first = word_is line word tail e cut is in
    (first.0, (split_at 32 name (edited_name e) numbers (edit_numbers e) (name_space name named.good) (name_space _ (edit_named e good)) (sym named.is ∙ first.1)).1)

-- each edit but a deletion has two numbers
pub both_numbers : (e : Asked) → IsGoodEdit e → edit_word e ≢ codes "delete" → (n : ℕ) × (m : ℕ) × IsNumber n × IsNumber m × (edit_numbers e ≡ decimal n ++ 32 ∷ decimal m)
both_numbers (Insert file at text) good other = (at, length text, good.1, good.2, refl)
both_numbers (Replace file at text) good other = (at, length text, good.1, good.2, refl)
both_numbers (Delete file at) good other = absurd (other refl)
both_numbers (Move file at to) good other = (at, to, good.1, good.2, refl)

-- ---- where the parts of a line are

six : (f h p t d m : List ℕ) → (f ++ ((h ++ 32 ∷ (p ++ t)) ++ d)) ++ m ≡ (f ++ (h ++ 32 ∷ [])) ++ (p ++ (t ++ (d ++ m)))
six f h p t d m = grind (arith, common_steps, append_assoc) steps 200000

-- the part behind the first word and its space
pub part_there : (bytes more : List ℕ) (start end : ℕ) (head part tail : List ℕ) → start ≤ end → end ≤ length bytes
    → slice_range bytes start end ≡ head ++ 32 ∷ (part ++ tail)
    → (slice_range (bytes ++ more) (start + length head + 1) (start + length head + 1 + length part) ≡ part) × (start + length head + 1 + length part ≤ length (bytes ++ more))
part_there bytes more start end head part tail ordered within is =
    let all = bytes ++ more in
    let front = take start bytes ++ (head ++ 32 ∷ []) in
    let rest = tail ++ (drop end bytes ++ more) in
    let cut : bytes ≡ take start bytes ++ ((head ++ 32 ∷ (part ++ tail)) ++ drop end bytes) =
    sym (take-append-drop start bytes) ∙ ap (λ (xs : List ℕ). take start bytes ++ xs) (drop_split bytes start end ordered ∙ ap (λ (xs : List ℕ). xs ++ drop end bytes) is) in
    let whole : all ≡ front ++ (part ++ rest) = ap (λ (xs : List ℕ). xs ++ more) cut ∙ six (take start bytes) head part tail (drop end bytes) more in
    let long : length front ≡ start + length head + 1 = omega (arith, length-append (take start bytes) (head ++ 32 ∷ []), length-append head (32 ∷ []), length-take-le start bytes (omega arith)) in
    let behind : drop (start + length head + 1) all ≡ part ++ rest = ap (drop (start + length head + 1)) whole ∙ drop_at front (part ++ rest) _ long in (
      ap (take ((start + length head + 1 + length part) - (start + length head + 1))) behind ∙ take_at part rest _ (omega arith),
      omega (arith, ap length whole, length-append front (part ++ rest), length-append part rest, long),
    )

-- ---- what a line asks for, by the parts that are found in it

module _ (bytes : List ℕ) (left : Option (List ℕ)) (line : LineAt) (is : IsLineAt bytes left line) (word tail : List ℕ) (cut : CutsAt (line_bytes bytes line) word tail) where
  -- the part behind the first word, of this many bytes
  abbrev behind : ℕ → PendingRange
  behind count = record { start = line.start + length word + 1; end = line.start + length word + 1 + count }

  pub says_question : (q : Question) → word ≡ question_word q → IsName tail → IsAlone bytes line (code.Ask q (behind (length tail)))
  says_question q first good =
      let there = part_there bytes [] line.start line.end word tail [] is.ordered is.within (cut.is ∙ ap (λ (xs : List ℕ). word ++ 32 ∷ xs) (sym (append-nil tail))) in
      let label : bytes_of_part bytes (behind (length tail)) ≡ tail = subst (λ (xs : List ℕ). bytes_of_part xs (behind (length tail)) ≡ tail) (append-nil bytes) there.0 in
      record {
        command = Ask q (bytes_of_part bytes (behind (length tail)));
        good = subst IsName (sym label) good;
        is_command = (record { ordered = omega arith; within = subst (λ (xs : List ℕ). (behind (length tail)).end ≤ length xs) (append-nil bytes) there.1 }, refl);
        is = cut.is ∙ (λ i. first i ++ 32 ∷ sym label i);
        none_behind = refl;
        in_line = tt;
      }

  module _ (name numbers : List ℕ) (named : CutsName tail name numbers) where
    file_there : (more : List ℕ) → (bytes_of_part (bytes ++ more) (behind (length name)) ≡ name) × IsPartWithin (bytes ++ more) (behind (length name))
    file_there more =
        let there = part_there bytes more line.start line.end word name (32 ∷ numbers) is.ordered is.within (cut.is ∙ ap (λ (xs : List ℕ). word ++ 32 ∷ xs) named.is) in
        (there.0, record { ordered = omega arith; within = there.1 })

    pub says_delete : (n : ℕ) → word ≡ codes "delete" → IsNumber n → numbers ≡ decimal n → SaysEdit bytes line (found.Delete (behind (length name)) n)
    says_delete n first number last = record { text = tt; is = λ more _. grind (arith, common_steps, file_there more, edit_parts) steps 200000 }

    pub says_move : (n m : ℕ) → word ≡ codes "move" → AreNumbers numbers n m → SaysEdit bytes line (found.Move (behind (length name)) n m)
    says_move n m first both = record { text = tt; is = λ more _. grind (arith, common_steps, file_there more, edit_parts) steps 200000 }

    -- the text of this many bytes behind the line
    abbrev text_behind : ℕ → PendingRange
    text_behind m = record { start = line.end + 1; end = line.end + 1 + m }

    -- once it is there, it is as long as the second number says
    texted : (all : List ℕ) (n m : ℕ) → AreNumbers numbers n m → (text_behind m).end ≤ length all
        → IsPartWithin all (text_behind m) × IsNumber (length (bytes_of_part all (text_behind m))) × (numbers ≡ decimal n ++ 32 ∷ decimal (length (bytes_of_part all (text_behind m))))
    texted all n m both within =
        grind (arith, common_steps, length-drop (line.end + 1) all, length-take (line.end + 1 + m - (line.end + 1)) (drop (line.end + 1) all)) steps 200000

    pub says_insert : (n m : ℕ) → word ≡ codes "insert" → AreNumbers numbers n m → SaysEdit bytes line (found.Insert (behind (length name)) n (text_behind m))
    says_insert n m first both = record { text = (refl, omega arith); is = λ more within. grind (arith, common_steps, file_there more, texted (bytes ++ more) n m both within, edit_parts) steps 200000 }

    pub says_replace : (n m : ℕ) → word ≡ codes "replace" → AreNumbers numbers n m → SaysEdit bytes line (found.Replace (behind (length name)) n (text_behind m))
    says_replace n m first both = record { text = (refl, omega arith); is = λ more within. grind (arith, common_steps, file_there more, texted (bytes ++ more) n m both within, edit_parts) steps 200000 }

-- a line with another first word is that of an edit, or of no command
pub no_command_by : (line word tail : List ℕ) → CutsAt line word tail → line ≢ codes "report" → word ≢ codes "batch" → ((q : Question) → word ≢ question_word q)
    → ((e : Asked) → IsGoodEdit e → line ≢ edit_line e) → (c : Command) → IsGood c → line ≢ line_of c
no_command_by line word tail cut report batch question edit (Change e) good is = edit e good is
no_command_by line word tail cut report batch question edit (Batch xs) good is = batch (cut_so line word tail (codes "batch") (decimal (length xs)) cut (grind (arith, common_steps) steps 200000) is).0
no_command_by line word tail cut report batch question edit Report good is = report is
no_command_by line word tail cut report batch question edit (Ask q label) good is = question q (cut_so line word tail (question_word q) label cut (question_space q) is).0
  where
    question_space : (q : Question) → HasNoSpace (question_word q)
    question_space q = grind (arith, common_steps) steps 200000
