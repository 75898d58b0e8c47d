-- What is read from left to right is the meaning of the runs.
use Rattle.std.proofs.Common.{[], arith, ◌≡◌, ◌≢◌, ℕ, true, false, List, ◌∷◌, ◌++◌, append_assoc, Option, Some, None, Ok, Err, refl, sym, ap, ◌∙◌, subst, inl, inr, append-nil}
use Rattle.std.{proofs.lemmas.{Grind.{common_steps}, Bool.{cases_Bool, false≢true}, Slice.Eq.{bytes_eq-Decides}}, specs.{List.{flat_map, AllByRecursion}, Str.{bytes_eq}}}
use Rattle.mm_text.specs.{declared.{word.{Word.{Word}, WordKind.{WordKind}}, fault.{TextFault.{TextFault}, TextNumber.{TextNumber, TheVariants.{T01, T02, T03, T04, T05}}}}, Language.Run.{Run, runs}}
use Rattle.mm_text.specs.Language.Spelling.{IsWord, IsSpelled, HoldsMark, opening, closing}
use Rattle.mm_text.specs.Language.Reading.{Segment, Single, Comment, segment_runs, segment_words, IsSegment, AreWords, AreViableRuns, EndsInComment, EndsOpen, IsRunNumber, StopsAtRun, IsRunFault}
use Rattle.mm_text.specs.Language.Reading.{first_bad, HasWords, IsWordsFault, IsWordsFaultAt}
use Rattle.mm_text.specs.Code.{LeftToRight.{Read, read_runs, word_kind, word_alone, word_at, words_fault_at, cons_word, with_words, holds_mark, checked, read_text}, Reader.{HoldNoMarks}}
use Rattle.mm_text.proofs.{KindLemmas.{kind_spelled, spelled_kind, no_kind, mark_stands, stands_mark}, ReadLemmas.{inside_end, inside_mark, inside_more, outside_open, outside_close, outside_word}}

pub all_append : {X : Type 0} (P : X → Type 0) (xs ys : List X) → AllByRecursion P xs → AllByRecursion P ys → AllByRecursion P (xs ++ ys)
all_append P [] ys f g = g
all_append P (x ∷ xs) ys f g = (f.0, all_append P xs ys f.1 g)

-- ---- what was read so far

-- the runs so far end inside a comment that begins at start
pub record InComment (start : ℕ) (seen : List Run) (words : List Word) : Type 0 where
  pub front : List Run
  pub first : Run
  pub inside : List Run
  pub joined : seen ≡ front ++ first ∷ inside
  pub before : AreWords front words
  pub begins : first.start ≡ start
  pub opened : first.bytes ≡ opening
  pub no_marks : HoldNoMarks inside

abbrev pub Behind : Option ℕ → List Run → List Word → Type 0
Behind None seen words = AreWords seen words
Behind (Some start) seen words = InComment start seen words

pub with_part : (seen : List Run) (words : List Word) (part : Segment) → AreWords seen words → IsSegment part → AreWords (seen ++ segment_runs part) (words ++ segment_words part)
with_part seen words part h is = grind (arith, common_steps, all_append IsSegment h.parts (part ∷ []) h.each (is, tt)) steps 200000

pub word_step : (seen : List Run) (words : List Word) (run : Run) (word : Word) → AreWords seen words → IsWord run word → AreWords (seen ++ run ∷ []) (words ++ word ∷ [])
word_step seen words run word h is = with_part seen words (Single run word) h is

pub more_step : (start : ℕ) (seen : List Run) (words : List Word) (run : Run) → InComment start seen words → ¬ HoldsMark run.bytes → InComment start (seen ++ run ∷ []) words
more_step start seen words run h no_mark = grind (arith, common_steps) steps 200000

pub close_step : (start : ℕ) (seen : List Run) (words : List Word) (run : Run) → InComment start seen words → run.bytes ≡ closing → AreWords (seen ++ run ∷ []) words
close_step start seen words run h closes =
    let all : AreWords (h.front ++ h.first ∷ (h.inside ++ run ∷ [])) (words ++ []) = with_part h.front words (Comment h.first h.inside run) h.before (record { opened = h.opened; no_marks = h.no_marks; closed = closes }) in
    grind (arith, common_steps, append-nil words, append_assoc h.front (h.first ∷ h.inside) (run ∷ [])) steps 200000

-- ---- a reading is what is read

read_inside : (start : ℕ) (inside tail : List Run) → HoldNoMarks inside → read_runs (Some start) (inside ++ tail) ≡ read_runs (Some start) tail
read_inside start [] tail h = refl
read_inside start (run ∷ inside) tail h = inside_more start run (inside ++ tail) (λ e. h.0 (mark_stands run.bytes (ap holds_mark e)))
    (grind (arith, common_steps, cases_Bool, mark_stands) steps 200000) ∙ read_inside start inside tail h.1

pub with_none : (r : Read) → with_words [] r ≡ r
with_none r = grind (arith, common_steps) steps 200000

with_cons : (word : Word) (words : List Word) (r : Read) → cons_word word (with_words words r) ≡ with_words (word ∷ words) r
with_cons word words r = grind (arith, common_steps) steps 200000

read_parts : (parts : List Segment) → AllByRecursion IsSegment parts → (tail : List Run) → read_runs None (flat_map segment_runs parts ++ tail) ≡ with_words (flat_map segment_words parts) (read_runs None tail)
read_parts [] each tail = sym (with_none (read_runs None tail))
read_parts (Single run word ∷ parts) each tail = (grind (arith, common_steps, outside_word, spelled_kind) steps 200000)
    ∙ ap (cons_word word) (read_parts parts each.1 tail) ∙ with_cons word (flat_map segment_words parts) (read_runs None tail)
read_parts (Comment first inside last ∷ parts) each tail = grind (arith, common_steps, read_parts parts each.1 tail, inside_end, outside_open, read_inside) steps 200000

pub read_whole : (seen : List Run) (words : List Word) → AreWords seen words → (tail : List Run) → read_runs None (seen ++ tail) ≡ with_words words (read_runs None tail)
read_whole seen words h tail = ap (λ (rs : List Run). read_runs None (rs ++ tail)) (sym h.joined) ∙ read_parts h.parts h.each tail ∙ ap (λ (ws : List Word). with_words ws (read_runs None tail)) h.singles

pub read_behind : (state : Option ℕ) (seen : List Run) (words : List Word) → Behind state seen words → (tail : List Run) → read_runs None (seen ++ tail) ≡ with_words words (read_runs state tail)
read_behind None seen words h tail = read_whole seen words h tail
read_behind (Some start) seen words h tail =
    grind (arith, common_steps, read_whole h.front words h.before (h.first ∷ (h.inside ++ tail)), outside_open h.first (h.inside ++ tail) h.opened, read_inside h.first.start h.inside tail h.no_marks) steps 200000

-- runs that are read as words give these
pub read_words : (runs : List Run) (words : List Word) → AreWords runs words → read_runs None runs ≡ Ok words
read_words runs words h = ap (read_runs None) (sym (append-nil runs)) ∙ read_behind None runs words h [] ∙ ap Ok (append-nil words)

-- so there is one list of words at most
pub same_words : (runs : List Run) (a b : List Word) → AreWords runs a → AreWords runs b → a ≡ b
same_words runs a b f g = let e : read_runs None runs ≡ Ok a = read_words runs a f in let e' : read_runs None runs ≡ Ok b = read_words runs b g in cc

-- ---- where no reading goes on

pub stops : (state : Option ℕ) (seen : List Run) (words : List Word) (run : Run) (fault : TextFault) → Behind state seen words → ((tail : List Run) → read_runs state (run ∷ tail) ≡ Err fault) → ¬ AreViableRuns (seen ++ run ∷ [])
stops state seen words run fault h fails goes =
    let all : read_runs None ((seen ++ run ∷ []) ++ goes.0) ≡ Ok goes.1 = read_words ((seen ++ run ∷ []) ++ goes.0) goes.1 goes.2 in
    let none : read_runs None ((seen ++ run ∷ []) ++ goes.0) ≡ Err fault = ap (read_runs None) (append_assoc seen (run ∷ []) goes.0) ∙ read_behind state seen words h (run ∷ goes.0)
    ∙ (ap (with_words words) (fails goes.0)) in
    cc

pub closer : Run
closer = record { start = 0; bytes = closing }

pub closer_closes : closer.bytes ≡ closing
unfolding closer
closer_closes = refl

pub goes_on : (state : Option ℕ) (seen : List Run) (words : List Word) → Behind state seen words → AreViableRuns seen
goes_on None seen words h = ([], words, subst (λ (rs : List Run). AreWords rs words) (sym (append-nil seen)) h)
goes_on (Some start) seen words h = (closer ∷ [], words, close_step start seen words closer h closer_closes)

abbrev pub is_open : (start : ℕ) (seen : List Run) (words : List Word) → InComment start seen words → EndsInComment seen words
is_open start seen words h = record { front = h.front; first = h.first; inside = h.inside; joined = h.joined; before = h.before; opened = h.opened; no_marks = h.no_marks }

abbrev pub in_comment : (runs : List Run) (found : List Word) (h : EndsInComment runs found) → InComment h.first.start runs found
in_comment runs found h = record { front = h.front; first = h.first; inside = h.inside; joined = h.joined; before = h.before; begins = refl; opened = h.opened; no_marks = h.no_marks }

pub not_whole : (start : ℕ) (seen : List Run) (words : List Word) → InComment start seen words → (others : List Word) → ¬ AreWords seen others
not_whole start seen words h others whole =
    grind (arith, common_steps, append-nil seen, read_behind (Some start) seen words h [], read_words seen others whole) steps 200000

-- ---- what is read

abbrev Outcome : List Run → List Word → Read → Type 0
Outcome runs words (Ok more) = AreWords runs (words ++ more)
Outcome runs words (Err fault) = IsRunFault runs fault.number fault.at

one_word : (runs : List Run) (words : List Word) (word : Word) (r : Read) → Outcome runs (words ++ word ∷ []) r → Outcome runs words (cons_word word r)
one_word runs words word r h = grind (arith, common_steps) steps 200000

moved : (seen : List Run) (run : Run) (runs : List Run) (words : List Word) (r r' : Read) → r' ≡ r → Outcome ((seen ++ run ∷ []) ++ runs) words r → Outcome (seen ++ run ∷ runs) words r'
moved seen run runs words r r' e h = subst (λ (v : Read). Outcome (seen ++ run ∷ runs) words v) (sym e) (subst (λ (rs : List Run). Outcome rs words r) (append_assoc seen (run ∷ []) runs) h)

at_fault : (runs : List Run) (words : List Word) (fault : TextFault) (r : Read) → r ≡ Err fault → IsRunFault runs fault.number fault.at → Outcome runs words r
at_fault runs words fault r e h = subst (λ (v : Read). Outcome runs words v) (sym e) h

-- nothing goes on at a run that is no part of a reading
stops_at : (state : Option ℕ) (seen : List Run) (words : List Word) (run : Run) (runs : List Run) (number : TextNumber) → Behind state seen words
    → ((tail : List Run) → read_runs state (run ∷ tail) ≡ Err (words_fault_at number run.start)) → IsRunNumber number seen run → StopsAtRun (seen ++ run ∷ runs) number run.start
stops_at state seen words run runs number h fails is = grind (arith, goes_on state seen words h, stops state seen words run (words_fault_at number run.start) h fails, goes_on, stops) steps 200000

-- a run that is one word
alone_is : (seen : List Run) (words : List Word) (run : Run) (runs : List Run) (kind : Option WordKind) → AreWords seen words → run.bytes ≢ opening → run.bytes ≢ closing → word_kind run.bytes ≡ kind
    → ((word : Word) → IsWord run word → Outcome ((seen ++ run ∷ []) ++ runs) (words ++ word ∷ []) (read_runs None runs)) → Outcome (seen ++ run ∷ runs) words (read_runs None (run ∷ runs))
alone_is seen words run runs (Some kind) h no_open no_close is later =
    let word : IsWord run (word_at run kind) = record { kind = kind_spelled run.bytes kind is; start = refl; end = refl } in
    grind (arith, common_steps, outside_word run runs no_open no_close, one_word ((seen ++ run ∷ []) ++ runs) words (word_at run kind) (read_runs None runs) (later (word_at run kind) word), moved) steps 200000
alone_is seen words run runs None h no_open no_close is later =
    let fails : (tail : List Run) → read_runs None (run ∷ tail) ≡ Err (words_fault_at T05 run.start) = λ tail. outside_word run tail no_open no_close ∙ ap (λ (k : Option WordKind). word_alone run k (read_runs None tail)) is in
    at_fault (seen ++ run ∷ runs) words (words_fault_at T05 run.start) (read_runs None (run ∷ runs)) (fails runs)
    (stops_at None seen words run runs T05 h fails
    (words, h, no_kind run.bytes is, no_close, λ kind spelled. (let found : word_kind run.bytes ≡ Some kind = spelled_kind kind run.bytes spelled in cc)))

pub not_from : (bytes part : List ℕ) → bytes_eq bytes part ≡ false → bytes ≢ part
not_from bytes part e is = false≢true (sym e ∙ (bytes_eq-Decides bytes part).1 is)

pub is_from : (bytes part : List ℕ) → bytes_eq bytes part ≡ true → bytes ≡ part
is_from bytes part e = (bytes_eq-Decides bytes part).0 e

outcome : (state : Option ℕ) (runs : List Run) (seen : List Run) (words : List Word) → Behind state seen words → Outcome (seen ++ runs) words (read_runs state runs)
outcome None [] seen words h = subst (λ (ws : List Word). AreWords (seen ++ []) ws) (sym (append-nil words)) (subst (λ (rs : List Run). AreWords rs words) (sym (append-nil seen)) h)
outcome (Some start) [] seen words h = subst (λ (rs : List Run). EndsOpen rs start) (sym (append-nil seen)) (record {
  found = words;
  comment = is_open start seen words h;
  place = sym h.begins;
  goes_on = goes_on (Some start) seen words h;
  not_whole = not_whole start seen words h;
})
outcome None (run ∷ runs) seen words h =
    elim (cases_Bool (bytes_eq run.bytes opening)) [
      | inl opens ↦
          let is = is_from run.bytes opening opens in
          moved seen run runs words (read_runs (Some run.start) runs) (read_runs None (run ∷ runs)) (outside_open run runs is) (outcome (Some run.start) runs
          (seen ++ run ∷ []) words (grind (arith, common_steps) steps 200000))
      | inr no_open ↦ elim (cases_Bool (bytes_eq run.bytes closing)) [
        | inl closes ↦
            let is = is_from run.bytes closing closes in
            at_fault (seen ++ run ∷ runs) words (words_fault_at T04 run.start) (read_runs None (run ∷ runs)) (outside_close run runs is)
            (stops_at None seen words run runs T04 h (λ tail. outside_close run tail is) (words, h, is))
        | inr no_close ↦ alone_is seen words run runs (word_kind run.bytes) h (not_from run.bytes opening no_open) (not_from run.bytes closing no_close) refl
            (λ word is. outcome None runs (seen ++ run ∷ []) (words ++ word ∷ []) (word_step seen words run word h is))
      ]
    ]
outcome (Some start) (run ∷ runs) seen words h =
    elim (cases_Bool (bytes_eq run.bytes closing)) [
      | inl closes ↦
          let is = is_from run.bytes closing closes in
          moved seen run runs words (read_runs None runs) (read_runs (Some start) (run ∷ runs)) (inside_end start run runs is) (outcome None runs (seen ++ run ∷ []) words (close_step start seen words run h is))
      | inr no_close ↦ elim (cases_Bool (holds_mark run.bytes)) [
        | inl mark ↦
            let differs = not_from run.bytes closing no_close in
            at_fault (seen ++ run ∷ runs) words (words_fault_at T03 run.start) (read_runs (Some start) (run ∷ runs)) (inside_mark start run runs differs mark)
            (stops_at (Some start) seen words run runs T03 h (λ tail. inside_mark start run tail differs mark) (words, is_open start seen words h, mark_stands run.bytes mark, differs))
        | inr no_mark ↦
            let more = more_step start seen words run h (λ marked. false≢true (sym no_mark ∙ stands_mark run.bytes marked)) in
            grind (arith, common_steps, outcome (Some start) runs (seen ++ run ∷ []) words more, moved, not_from) steps 200000
      ]
    ]

pub none_read : AreWords [] []
none_read = record { parts = []; each = tt; joined = refl; singles = refl }

-- what is read from all the runs
pub words_from_read : (runs : List Run) (words : List Word) → read_runs None runs ≡ Ok words → AreWords runs words
words_from_read runs words e = subst (λ (r : Read). Outcome runs [] r) e (outcome None runs [] [] none_read)

-- ---- a fault is what is read

split_read : (runs front : List Run) (run : Run) (rest : List Run) (state : Option ℕ) (words : List Word) (fault : TextFault) → runs ≡ front ++ run ∷ rest → Behind state front words
    → read_runs state (run ∷ rest) ≡ Err fault → read_runs None runs ≡ Err fault
split_read runs front run rest state words fault joined h e =
    ap (read_runs None) joined ∙ read_behind state front words h (run ∷ rest) ∙ (grind (arith, common_steps) steps 200000)

pub placed : (number : TextNumber) (runs : List Run) (start at : ℕ) → at ≡ start → read_runs None runs ≡ Err (words_fault_at number start) → read_runs None runs ≡ Err (words_fault_at number at)
placed number runs start at e h = h ∙ ap (λ (k : ℕ). Err (words_fault_at number k)) (sym e)

no_kind_found : (run : Run) (found : Option WordKind) → word_kind run.bytes ≡ found → ((kind : WordKind) → ¬ IsSpelled kind run.bytes) → found ≡ None
no_kind_found run None e none = refl
no_kind_found run (Some kind) e none = absurd (none kind (kind_spelled run.bytes kind e))

pub stop_fault : (number : TextNumber) (runs : List Run) (at : ℕ) → StopsAtRun runs number at → read_runs None runs ≡ Err (words_fault_at number at)
stop_fault T03 runs at h =
    let comment = h.is_number.1 in
    placed T03 runs h.run.start at h.place (split_read runs h.front h.run h.rest (Some comment.first.start) h.is_number.0 (words_fault_at T03 h.run.start) h.joined
    (in_comment h.front h.is_number.0 comment) (inside_mark comment.first.start h.run h.rest h.is_number.3 (stands_mark h.run.bytes h.is_number.2)))
stop_fault T04 runs at h =
    placed T04 runs h.run.start at h.place (split_read runs h.front h.run h.rest None h.is_number.0 (words_fault_at T04 h.run.start) h.joined h.is_number.1
    (outside_close h.run h.rest h.is_number.2))
stop_fault T05 runs at h =
    let words = h.is_number.0 in
    let none : word_kind h.run.bytes ≡ None = no_kind_found h.run (word_kind h.run.bytes) refl h.is_number.4 in
    placed T05 runs h.run.start at h.place (split_read runs h.front h.run h.rest None words (words_fault_at T05 h.run.start) h.joined h.is_number.1
    (outside_word h.run h.rest (λ opens. h.stops (goes_on (Some h.run.start) (h.front ++ h.run ∷ []) words (grind (arith, common_steps) steps 200000)))
    h.is_number.3
    ∙ ap (λ (k : Option WordKind). word_alone h.run k (read_runs None h.rest)) none))
stop_fault number runs at h = absurd h.is_number

-- ---- whole texts

pub text_words : (text : List ℕ) (words : List Word) → HasWords text words → read_text text ≡ Ok words
text_words text words h = ap (λ (o : Option ℕ). checked o (read_runs None (runs text))) h.allowed ∙ read_words (runs text) words h.words_are

pub text_fault : (text : List ℕ) (number : TextNumber) (at : ℕ) → IsWordsFaultAt text number at → read_text text ≡ Err (words_fault_at number at)
text_fault text T01 at h = ap (λ (o : Option ℕ). checked o (read_runs None (runs text))) h
text_fault text T02 at h = ap (λ (o : Option ℕ). checked o (read_runs None (runs text))) h.0
    ∙ placed T02 (runs text) h.1.comment.first.start at h.1.place (ap (read_runs None) (sym (append-nil (runs text)))
    ∙ read_behind (Some h.1.comment.first.start) (runs text) h.1.found (in_comment (runs text) h.1.found h.1.comment) [])
text_fault text number at h = ap (λ (o : Option ℕ). checked o (read_runs None (runs text))) h.0 ∙ stop_fault number (runs text) at h.1

checked_fault : (text : List ℕ) (bad : Option ℕ) (fault : TextFault) → first_bad text ≡ bad → checked bad (read_runs None (runs text)) ≡ Err fault → IsWordsFault text fault
checked_fault text None fault is e = grind (arith, common_steps, none_read, outcome None (runs text) [] [] none_read) steps 200000
checked_fault text (Some at) fault is e = let same : words_fault_at T01 at ≡ fault = cc in subst (IsWordsFault text) same is

pub words_of_text : (text : List ℕ) (words : List Word) → read_text text ≡ Ok words → HasWords text words
words_of_text text words e = grind (arith, common_steps, words_from_read) steps 200000

pub fault_of_text : (text : List ℕ) (fault : TextFault) → read_text text ≡ Err fault → IsWordsFault text fault
fault_of_text text fault e = checked_fault text (first_bad text) fault refl e
