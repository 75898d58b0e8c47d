-- Where the words of a text are, and which bytes a text has.
use Rattle.std.proofs.Common.{[], ◌≡◌, ℕ, ◌+◌, ◌<◌, ◌≤◌, Bool, true, false, not, ◌&&◌, List, ◌∷◌, ◌++◌, append_assoc, length, get_or, Some, None, Result, length-append, nat_le, slice_range, slice_get}
use Rattle.std.proofs.{Common.{IfErr, All, AllPairs, refl, sym, ap, ◌∙◌, subst, arith}, lemmas.Grind.{common_steps}}
use Rattle.std.proofs.lemmas.{Bool.{cases_Bool, false≢true, or_cases, and_parts, leb-true, ltb-false, not-false}, Option.{slice_get_within, get_or_from_slice_get}, List.Elements.{All-nil, All-cons}}
use Rattle.std.{proofs.lemmas.List.{Kept.{AllPairs-cons}, Quantifiers.{position-Some}, Sums.{fails_before_first}}, specs.List.{flat_map, AllByRecursion, position}}
use Rattle.mm_text.specs.declared.{word.Word.{Word}, fault.{TextFault.{TextFault}, TextError.{TextError}, TextNumber.{TextNumber, TheVariants.{T01, T02, T03, T04, T05, T07, T08}}}}
use Rattle.mm_text.specs.Language.{Run.{Run, is_white, ends_run, runs}, Layout.{IsLaidOut}}
use Rattle.mm_text.specs.Language.Reading.{is_allowed, first_bad, Segment, Single, Comment, segment_runs, segment_words, IsSegment, HasWords, LiesIn, AreWithin, StopsAtRun, IsWordsFaultAt}
use Rattle.mm_text.specs.Language.{Reading.{IsWordsFault, IsTextErrorIn}, Unit.{Token, token_of, tokens_of, EndsInUnit, EndsInBlock}}
use Rattle.mm_text.{specs.Language.Cut.{StopsUnits, EndsUnits, IsFirstFaultAt, IsFirstFault, IsCutError}, proofs.LayoutLemmas.{laid_out}}

-- ---- runs

-- a run is in the text, at a place or after it
pub record Stands (text : List ℕ) (at : ℕ) (run : Run) : Type 0 where
  pub behind : at ≤ run.start
  pub some : 0 < length run.bytes
  pub within : run.start + length run.bytes ≤ length text
  pub bytes_are : slice_range text run.start (run.start + length run.bytes) ≡ run.bytes

-- the runs are in the text one after another, with a gap between them
abbrev pub Standing : List ℕ → ℕ → List Run → Type 0
Standing text at [] = Unit {0}
Standing text at (run ∷ runs) = Stands text at run × Standing text (run.start + length run.bytes + 1) runs

at_or_before : (text : List ℕ) (low at : ℕ) (runs : List Run) → (Standing text at runs → low ≤ at) → Standing text at runs → Standing text low runs
at_or_before text low at [] le h = tt
at_or_before text low at (run ∷ runs) le h = grind (arith, common_steps) steps 200000

-- runs in front are left out
pub skip : (text : List ℕ) (at : ℕ) (front later : List Run) → Standing text at (front ++ later) → Standing text at later
skip text at [] later h = h
skip text at (run ∷ front) later h = at_or_before text at (run.start + length run.bytes + 1) later (λ x. omega (arith, h.0.behind)) (skip text (run.start + length run.bytes + 1) front later h.1)

-- later runs are left out
pub standing_front : (text : List ℕ) (at : ℕ) (a b : List Run) → Standing text at (a ++ b) → Standing text at a
standing_front text at [] b h = tt
standing_front text at (run ∷ a) b h = (h.0, standing_front text (run.start + length run.bytes + 1) a b h.1)

-- after a run there is a gap
gap_behind : (text : List ℕ) (at : ℕ) (later : List ℕ) (runs : List Run) → ends_run later ≡ true → IsLaidOut at later runs → Standing text at runs → Standing text (at + 1) runs
gap_behind text at later [] ends laid h = tt
gap_behind text at later (run ∷ runs) ends laid h = by_gap laid.gap run.bytes laid.joined laid.place laid.solid laid.some where
  by_gap : (gap bytes : List ℕ) → later ≡ gap ++ (bytes ++ laid.later) → run.start ≡ at + length gap → AllByRecursion (λ b. is_white b ≡ false) bytes → 0 < length bytes → Standing text (at + 1) (run ∷ runs)
  by_gap p0 p1 p2 p3 p4 p5 = grind (arith, common_steps, false≢true) steps 200000

pub runs_stand : (text front bytes : List ℕ) (at : ℕ) (runs : List Run) → text ≡ front ++ bytes → at ≡ length front → IsLaidOut at bytes runs → Standing text at runs
runs_stand text front bytes at [] joined place h = tt
runs_stand text front bytes at (run ∷ runs) joined place h =
    let before = front ++ h.gap in
    let all : text ≡ before ++ (run.bytes ++ h.later) = joined ∙ ap (λ (bs : List ℕ). front ++ bs) h.joined ∙ sym (append_assoc front h.gap (run.bytes ++ h.later)) in
    let on : text ≡ (before ++ run.bytes) ++ h.later = all ∙ sym (append_assoc before run.bytes h.later) in
    let start : run.start ≡ length before = omega (arith, h.place, place, length-append front h.gap) in
    let end : run.start + length run.bytes ≡ length (before ++ run.bytes) = omega (arith, start, length-append before run.bytes) in
    grind (arith, common_steps, runs_stand text (before ++ run.bytes) h.later (run.start + length run.bytes) runs on end h.goes_on, gap_behind) steps 200000

-- the runs of a text are in it
text_stands : (text : List ℕ) → Standing text 0 (runs text)
text_stands text = runs_stand text [] text 0 (runs text) refl refl (laid_out 0 text)

-- ---- words

-- the words are in the text one after another, from a place on
abbrev pub Lying : List ℕ → ℕ → List Word → Type 0
Lying text at [] = Unit {0}
Lying text at (word ∷ words) = (at ≤ word.start) × LiesIn text word × Lying text (word.end + 1) words

pub parts_lie : (text : List ℕ) (at : ℕ) (parts : List Segment) → AllByRecursion IsSegment parts → Standing text at (flat_map segment_runs parts) → Lying text at (flat_map segment_words parts)
parts_lie text at [] each h = tt
parts_lie text at (Single run word ∷ parts) each h = (
  omega (arith, each.0.start, h.0.behind),
  (grind (arith, common_steps) steps 200000),
  parts_lie text (word.end + 1) parts each.1 (at_or_before text (word.end + 1) (run.start + length run.bytes + 1) (flat_map segment_runs parts) (λ x. omega (arith, each.0.end)) h.1),
)
parts_lie text at (Comment first inside last ∷ parts) each h = parts_lie text at parts each.1 (skip text at (first ∷ (inside ++ last ∷ [])) (flat_map segment_runs parts) h)

each_lies : (text : List ℕ) (at : ℕ) (words : List Word) → Lying text at words → All (LiesIn text) words
each_lies text at [] h = All-nil (LiesIn text)
each_lies text at (word ∷ words) h = All-cons (LiesIn text) word words h.1 (each_lies text (word.end + 1) words h.2)

all_behind : (text : List ℕ) (place at : ℕ) (words : List Word) → place < at → Lying text at words → All (λ word. place < word.start) words
all_behind text place at [] lt h = All-nil (λ word. place < word.start)
all_behind text place at (word ∷ words) lt h = All-cons (λ word. place < word.start) word words (omega (arith, lt, h.0)) (all_behind text place (word.end + 1) words (omega (arith, lt, h.0, h.1.some)) h.2)

all_rise : (text : List ℕ) (at : ℕ) (words : List Word) → Lying text at words → AllPairs (λ earlier later. earlier.end < later.start) words
all_rise text at [] h = λ i j d lt within. absurd (omega (arith, within))
all_rise text at (word ∷ words) h = AllPairs-cons (λ (earlier later : Word). earlier.end < later.start) word words (all_behind text word.end (word.end + 1) words (omega arith) h.2) (all_rise text (word.end + 1) words h.2)

pub words_lie : (text : List ℕ) (words : List Word) → HasWords text words → Lying text 0 words
words_lie text words h = grind (arith, common_steps, parts_lie, text_stands) steps 200000

-- the words of a text are in it, in order
pub are_within : (text : List ℕ) (words : List Word) → HasWords text words → AreWithin text words
are_within text words h = let lying = words_lie text words h in record { each = each_lies text 0 words lying; rising = all_rise text 0 words lying }

-- ---- bytes

white_below : (b : ℕ) → is_white b ≡ true → b < 127
unfolding is_white
white_below b e = grind (arith, common_steps) steps 200000

allowed_below : (b : ℕ) → is_allowed b ≡ true → b < 127
unfolding is_allowed
allowed_below b e = grind (arith, common_steps, or_cases (is_white b) (nat_le 33 b && nat_le b 126) e, white_below, leb-true, and_parts) steps 200000

pub none_found : (test : ℕ → Bool) (bytes : List ℕ) → position test bytes ≡ None → (k d : ℕ) → k < length bytes → test (get_or bytes k d) ≡ false
none_found test bytes e k d lt = grind (arith, common_steps, cases_Bool, fails_before_first, ltb-false) steps 200000

-- a text without a bad byte has only bytes below 127
pub all_below : (text : List ℕ) → first_bad text ≡ None → All (λ b. b < 127) text
all_below text e k d lt = allowed_below (get_or text k d) (not-false (is_allowed (get_or text k d)) (none_found (λ b. not (is_allowed b)) text e k d lt))

-- ---- faults

-- a run among those of a text begins in it
run_begins : (text : List ℕ) (front rest : List Run) (run : Run) → runs text ≡ front ++ run ∷ rest → run.start < length text
run_begins text front rest run joined = let here = skip text 0 front (run ∷ rest) (subst (Standing text 0) joined (text_stands text)) in omega (arith, here.0.some, here.0.within)

stop_lies : (text : List ℕ) (number : TextNumber) (at : ℕ) → StopsAtRun (runs text) number at → at < length text
stop_lies text number at h = let begins = run_begins text h.front h.rest h.run h.joined in omega (arith, h.place)

fault_at_lies : (text : List ℕ) (number : TextNumber) (at : ℕ) → IsWordsFaultAt text number at → at < length text
fault_at_lies text T01 at h = (position-Some (λ b. not (is_allowed b)) text at 0 h).0
fault_at_lies text T02 at h = grind (arith, common_steps, run_begins) steps 200000
fault_at_lies text number at h = stop_lies text number at h.1

-- the fault of a text is at one of its bytes
pub fault_lies : (text : List ℕ) (fault : TextFault) → IsWordsFault text fault → fault.at < length text
fault_lies text fault h = fault_at_lies text fault.number fault.at h

-- ---- first faults

each_begins : (text : List ℕ) (at : ℕ) (words : List Word) → Lying text at words → All (λ token. token.start < length text) (tokens_of text words)
each_begins text at [] h = All-nil (λ (token : Token). token.start < length text)
each_begins text at (word ∷ words) h = All-cons (λ (token : Token). token.start < length text) (token_of text word) (tokens_of text words) (omega (arith, h.1.some, h.1.within)) (each_begins text (word.end + 1) words h.2)

-- a word among those of a text begins in it
token_begins : (text : List ℕ) (at : ℕ) (words : List Word) (n : ℕ) (token : Token) → Lying text at words → slice_get (tokens_of text words) n ≡ Some token → token.start < length text
token_begins text at words n token h there = subst (λ (t : Token). t.start < length text) (get_or_from_slice_get (tokens_of text words) n token token there) (each_begins text at words h n token (slice_get_within (tokens_of text words) n token there))

unit_stop_lies : (text : List ℕ) (number : TextNumber) (at : ℕ) → StopsUnits text number at → at < length text
unit_stop_lies text number at h =
    let front = standing_front text 0 h.front h.rest (subst (Standing text 0) h.joined (text_stands text)) in
    let parts = parts_lie text 0 h.read.parts h.read.each (subst (Standing text 0) (sym h.read.joined) front) in
    let lying : Lying text 0 h.found = subst (Lying text 0) h.read.singles parts in
    grind (arith, common_steps, token_begins text 0 h.found h.word h.stop.token lying h.stop.there) steps 200000

unit_end_lies : (text : List ℕ) (Ends : List Token → ℕ → Type 0) (at : ℕ) → EndsUnits text Ends at → at < length text
unit_end_lies text Ends at h = let begins = token_begins text 0 h.found h.word h.token (words_lie text h.found h.has_words) h.there in omega (arith, h.place)

first_fault_at_lies : (text : List ℕ) (number : TextNumber) (at : ℕ) → IsFirstFaultAt text number at → at < length text
first_fault_at_lies text T01 at h = fault_at_lies text T01 at h
first_fault_at_lies text T02 at h = grind (arith, common_steps, run_begins) steps 200000
first_fault_at_lies text T03 at h = stop_lies text T03 at h.1.stop
first_fault_at_lies text T04 at h = stop_lies text T04 at h.1.stop
first_fault_at_lies text T05 at h = stop_lies text T05 at h.1.stop
first_fault_at_lies text T07 at h = unit_end_lies text EndsInUnit at h
first_fault_at_lies text T08 at h = unit_end_lies text EndsInBlock at h
first_fault_at_lies text number at h = unit_stop_lies text number at h.1

-- the first fault of a text is at one of its bytes
pub first_fault_lies : (text : List ℕ) (fault : TextFault) → IsFirstFault text fault → fault.at < length text
first_fault_lies text fault h = first_fault_at_lies text fault.number fault.at h

-- so an error of `cut` is reported at one of them
pub cut_error_lies : {X : Type 0} (text : List ℕ) (r : Result X TextError) → IfErr r (IsCutError text) → IfErr r (IsTextErrorIn text)
cut_error_lies text r h = grind (arith, common_steps, first_fault_lies) steps 200000
