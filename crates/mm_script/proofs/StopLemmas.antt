-- Where a script ends that begins with no whole command, and where it has to be read on.
use Rattle.std.proofs.{Common.{[], ◌≡◌, ◌≢◌, ◌<◌, ◌≤◌, ◌+◌, ℕ, None, List, ◌∷◌, ◌++◌, length, length-append, replicate, refl, sym, ap, ◌∙◌, subst, arith, append_assoc}, lemmas.Grind.{common_steps}}
use Rattle.std.{proofs.lemmas.List.{append-nil, length-replicate, replicate_more}, specs.List.{flat_map}}
use Rattle.mm_text.specs.Language.Asked.{Asked, edited_text}
use Rattle.mm_script.specs.{Code.Stops.{IsOneLine, IsBadLine, IsBadEditLine, HasTextOf, AreListed, batch_line, batch_bytes}, Language.Commands.{StopsSo, HasNoEntry}}
use Rattle.mm_script.specs.Language.Script.{Command, Batch, Change, Listed, CutShort, BadLine, EndsInLine, IsCutShort, IsGood, IsGoodEdit, IsNumber, LastInLine, behind_line, edit_bytes, edit_line}
use Rattle.mm_script.{specs.Language.Script.{ended_text, line_of, listed_bytes}, proofs.ScriptLemmas.{NoEntry, NoLast, none_so_far}}
use Rattle.mm_script.proofs.ScriptLineLemmas.{LacksWhole, HasTextBehind, IsBegun, edit_line_some, line_is_begun, line_no_entry, line_no_last, no_entry_by, no_last_by, stops_bad, stops_bad_line}
use Rattle.mm_script.proofs.ScriptLineLemmas.{stops_cut, text_is_begun, text_of_line, too_long}
use Rattle.mm_script.proofs.ScriptBatchLemmas.{NextEdit, any_are_good, any_edit, any_listed, batch_by_line, batch_is_cut, batch_is_cut_in, batch_lacks, batch_no_entry, batch_no_last, batch_stops_bad}
use Rattle.mm_script.proofs.{ScriptBatchLemmas.{feeds_no_line, line_behind_feeds, listed_some}, SplitLemmas.{not_inside, split_at}, WordLemmas.{edit_lacks_feed, same_front}}

-- a bad line, with its line feed or as the last
bad_line_entry : (line more : List ℕ) → IsBadLine line → NoEntry (line ++ 10 ∷ more)
bad_line_entry line more bad = no_entry_by line more bad.one_line bad.some (λ c left g e k. bad.no_command c g e)

pub bad_line : (line more : List ℕ) → IsBadLine line → StopsSo (line ++ 10 ∷ more) BadLine
bad_line line more bad = stops_bad_line line more (bad_line_entry line more bad) (λ missing. bad_line_entry line (more ++ 10 ∷ missing) bad)

pub bad_last : (line : List ℕ) → IsBadLine line → StopsSo line BadLine
bad_last line bad = stops_bad line bad.some (line_no_entry line bad.one_line) (λ missing. bad_line_entry line missing bad)

-- a line that is not ended
pub no_feed : (bytes : List ℕ) → IsOneLine bytes → HasNoEntry bytes
no_feed bytes one_line = none_so_far bytes (line_no_entry bytes one_line)

-- an edit whose text is not all there, or whose line is the last
pub text_no_entry : (edit : Asked) (count : ℕ) (part : List ℕ) → HasTextOf edit count → length part ≤ count → NoEntry (edit_line edit ++ 10 ∷ part)
text_no_entry edit count part has short = no_entry_by (edit_line edit) part (edit_lacks_feed edit has.good) (edit_line_some edit) none
  where
    none : LacksWhole (edit_line edit) part
    none c left g e k = let t = text_of_line edit count has c g e in too_long part t.text left count (k ∙ ap (λ (bytes : List ℕ). bytes ++ left) t.is_behind) t.count_is short

edit_is_cut : {bytes : List ℕ} → IsBegun bytes → IsCutShort bytes
edit_is_cut b = record { command = Change b.edit; good = b.good; missing = b.missing; is = b.is }

pub text_cut : (edit : Asked) (count : ℕ) (part : List ℕ) → HasTextOf edit count → length part ≤ count → StopsSo (edit_line edit ++ 10 ∷ part) CutShort
text_cut edit count part has short = stops_cut (edit_line edit ++ 10 ∷ part) (text_no_entry edit count part has short)
    (grind (arith, common_steps, edit_lacks_feed, no_last_by, text_of_line) steps 200000)
    (edit_is_cut (text_is_begun edit count part has short))

pub text_line_cut : (edit : Asked) (count : ℕ) → HasTextOf edit count → StopsSo (edit_line edit) CutShort
text_line_cut edit count has =
    stops_cut (edit_line edit) (line_no_entry (edit_line edit) (edit_lacks_feed edit has.good))
    (line_no_last (edit_line edit) (edit_lacks_feed edit has.good) (λ c g ends e k. (text_of_line edit count has c g e).not_in_line ends))
    (edit_is_cut (line_is_begun edit has.good))

-- one with another byte in the place of the line feed after the text
other_end : (text : List ℕ) (byte count : ℕ) → length text ≡ count → byte ≢ 10 → (t s u : List ℕ) → length t ≡ count → text ++ byte ∷ s ≡ (t ++ 10 ∷ []) ++ u
    → ⊥
other_end text byte count is other t s u l e = grind (arith, common_steps, append_assoc, same_front) steps 200000

pub text_bad : (edit : Asked) (count : ℕ) (text more : List ℕ) (byte : ℕ) → HasTextOf edit count → length text ≡ count → byte ≢ 10
    → StopsSo (edit_line edit ++ 10 ∷ (text ++ byte ∷ more)) BadLine
text_bad edit count text more byte has is other = stops_bad_line (edit_line edit) (text ++ byte ∷ more) (none more)
    (λ missing. subst (λ (bytes : List ℕ). NoEntry (edit_line edit ++ 10 ∷ bytes)) (sym (append_assoc text (byte ∷ more) (10 ∷ missing))) (none (more ++ 10 ∷ missing)))
  where
    none : (after : List ℕ) → NoEntry (edit_line edit ++ 10 ∷ (text ++ byte ∷ after))
    none after = no_entry_by (edit_line edit) (text ++ byte ∷ after) (edit_lacks_feed edit has.good) (edit_line_some edit)
        (λ c left g e k. let t = text_of_line edit count has c g e in
        other_end text byte count is other t.text after left t.count_is (k ∙ ap (λ (bytes : List ℕ). bytes ++ left) t.is_behind))

-- the line of a batch that is the last
pub batch_line_cut : (n : ℕ) → IsNumber n → 0 < n → StopsSo (batch_line n) CutShort
batch_line_cut n number some =
    stops_cut (batch_line n) (line_no_entry (batch_line n) (batch_lacks n number)) (line_no_last (batch_line n) (batch_lacks n number) last) (record {
      command = Batch all;
      good = (subst IsNumber (sym count) number, any_are_good n);
      missing = flat_map listed_bytes all;
      is = ap (λ (k : ℕ). batch_line k ++ 10 ∷ flat_map listed_bytes all) (sym count);
    })
  where
    nothing : (edits : List Listed) → n ≡ length edits → [] ≡ flat_map listed_bytes edits → ⊥
    nothing [] e k = omega arith
    nothing (x ∷ xs) e k = let p = listed_some x xs in omega (arith, p, ap length k)

    last : (c : Command) → IsGood c → EndsInLine c → batch_line n ≡ line_of c → [] ≡ behind_line c → ⊥
    last c g ends e k = let b = batch_by_line n number c g e in nothing b.edits b.count (k ∙ ap behind_line b.is)

    all : List Listed
    all = replicate n any_listed

    count : length all ≡ n
    count = length-replicate n any_listed

-- a batch with a line that is not ended, or not there
no_feed_next : (n : ℕ) (front : List Listed) (blanks : ℕ) (inner left : List ℕ) (c : Command) → IsOneLine inner → NextEdit n front blanks inner left c → ⊥
no_feed_next n front blanks [] left c l x = feeds_no_line blanks x.next.blanks x.next.edit (ended_text (edited_text x.next.edit) ++ (flat_map listed_bytes x.later ++ left)) (sym (append-nil (replicate blanks 10)) ∙ x.left)
no_feed_next n front blanks (b ∷ inner) left c l x =
    let s = ended_text (edited_text x.next.edit) ++ (flat_map listed_bytes x.later ++ left) in
    let both = line_behind_feeds blanks x.next.blanks (b ∷ inner) [] x.next.edit (10 ∷ s) (λ e. cc) l (ap (λ (w : List ℕ). replicate blanks 10 ++ w) (append-nil (b ∷ inner)) ∙ x.left) in
    not_inside 10 (b ∷ inner) (edit_line x.next.edit) s l (sym (append-nil (b ∷ inner)) ∙ both.1)

pub no_feed_entry : (n : ℕ) (front : List Listed) (blanks : ℕ) (inner : List ℕ) → AreListed n front → IsOneLine inner → NoEntry (batch_bytes n front blanks inner)
no_feed_entry n front blanks inner are one_line = batch_no_entry n front blanks inner are (λ c left x. no_feed_next n front blanks inner left c one_line x)

pub batch_cut : (n : ℕ) (front : List Listed) (blanks : ℕ) → AreListed n front → StopsSo (batch_bytes n front blanks []) CutShort
batch_cut n front blanks are = stops_cut (batch_bytes n front blanks []) (no_feed_entry n front blanks [] are tt) last
    (batch_is_cut n front blanks [] (edit_bytes any_edit) (record { blanks = blanks + 1; edit = any_edit }) are (any_are_good 1).0 one_more)
  where
    one_more : (replicate blanks 10 ++ []) ++ 10 ∷ edit_bytes any_edit ≡ listed_bytes (record { blanks = blanks + 1; edit = any_edit })
    one_more = ap (λ (w : List ℕ). w ++ 10 ∷ edit_bytes any_edit) (append-nil (replicate blanks 10)) ∙ sym (append_assoc (replicate blanks 10) (10 ∷ []) (edit_bytes any_edit))
        ∙ ap (λ (w : List ℕ). w ++ edit_bytes any_edit) (replicate_more blanks 10)

    last : NoLast (batch_bytes n front blanks [])
    last = batch_no_last n front blanks [] are (λ c ends x. feeds_no_line (blanks + 1) x.next.blanks x.next.edit (ended_text (edited_text x.next.edit) ++ (flat_map listed_bytes x.later ++ [])) (sym (replicate_more blanks 10) ∙ x.left))

-- the line of the next edit is this one, and what comes after it is what is here
next_line : (n : ℕ) (front : List Listed) (blanks : ℕ) (line all more left : List ℕ) (c : Command) → line ≢ [] → IsOneLine line → all ≡ line ++ 10 ∷ more
    → (x : NextEdit n front blanks all left c)
    → (line ≡ edit_line x.next.edit) × (more ≡ ended_text (edited_text x.next.edit) ++ (flat_map listed_bytes x.later ++ left))
next_line n front blanks line all more left c some l is x = grind (arith, common_steps, edit_lacks_feed, line_behind_feeds, split_at) steps 200000

-- a batch with a bad line
bad_edit_entry : (n : ℕ) (front : List Listed) (blanks : ℕ) (line more : List ℕ) → AreListed n front → IsBadEditLine line
    → NoEntry (batch_bytes n front blanks (line ++ 10 ∷ more))
bad_edit_entry n front blanks line more are bad = batch_no_entry n front blanks (line ++ 10 ∷ more) are
    (λ c left x. bad.no_edit x.next.edit x.good (next_line n front blanks line _ more left c bad.some bad.one_line refl x).0)

pub batch_bad_line : (n : ℕ) (front : List Listed) (blanks : ℕ) (line more : List ℕ) → AreListed n front → IsBadEditLine line
    → StopsSo (batch_bytes n front blanks (line ++ 10 ∷ more)) BadLine
batch_bad_line n front blanks line more are bad = batch_stops_bad n front blanks (line ++ 10 ∷ more) (bad_edit_entry n front blanks line more are bad)
    (λ missing. subst (λ (bytes : List ℕ). NoEntry (batch_bytes n front blanks bytes)) (sym (append_assoc line (10 ∷ more) (10 ∷ missing)))
    (bad_edit_entry n front blanks line (more ++ 10 ∷ missing) are bad))

pub batch_bad_last : (n : ℕ) (front : List Listed) (blanks : ℕ) (line : List ℕ) → AreListed n front → IsBadEditLine line → StopsSo (batch_bytes n front blanks line) BadLine
batch_bad_last n front blanks line are bad = grind (arith, common_steps, bad_edit_entry, batch_stops_bad, no_feed_entry) steps 200000

-- a batch with an edit whose text is not all there, or whose line is the last
ends_so : (front : List Listed) (x : Listed) → LastInLine (front ++ x ∷ []) → edited_text x.edit ≡ None
ends_so (y ∷ z ∷ front) x h = ends_so (z ∷ front) x h
ends_so _ x h = h

-- the text of the next edit, whose line is that of an edit with a text
next_text : (n : ℕ) (front : List Listed) (blanks : ℕ) (edit : Asked) (count : ℕ) (all more left : List ℕ) (c : Command) → HasTextOf edit count
    → all ≡ edit_line edit ++ 10 ∷ more → (x : NextEdit n front blanks all left c)
    → (t : HasTextBehind (Change x.next.edit) count) × (more ≡ (t.text ++ 10 ∷ []) ++ (flat_map listed_bytes x.later ++ left))
next_text n front blanks edit count all more left c has is x =
    let both = next_line n front blanks (edit_line edit) all more left c (edit_line_some edit) (edit_lacks_feed edit has.good) is x in
    let t = text_of_line edit count has (Change x.next.edit) x.good both.0 in
    (t, both.1 ∙ ap (λ (w : List ℕ). w ++ (flat_map listed_bytes x.later ++ left)) t.is_behind)

pub text_entry : (n : ℕ) (front : List Listed) (blanks : ℕ) (edit : Asked) (count : ℕ) (part : List ℕ)
    → AreListed n front → HasTextOf edit count → length part ≤ count → NoEntry (batch_bytes n front blanks (edit_line edit ++ 10 ∷ part))
text_entry n front blanks edit count part are has short = batch_no_entry n front blanks (edit_line edit ++ 10 ∷ part) are
    (λ c left x. let t = next_text n front blanks edit count _ part left c has refl x in too_long part t.0.text (flat_map listed_bytes x.later ++ left) count
    t.1 t.0.count_is short)

pub batch_text_cut : (n : ℕ) (front : List Listed) (blanks : ℕ) (edit : Asked) (count : ℕ) (part : List ℕ) → AreListed n front → HasTextOf edit count
    → length part ≤ count → StopsSo (batch_bytes n front blanks (edit_line edit ++ 10 ∷ part)) CutShort
batch_text_cut n front blanks edit count part are has short = stops_cut (batch_bytes n front blanks (edit_line edit ++ 10 ∷ part))
    (text_entry n front blanks edit count part are has short) (batch_no_last n front blanks (edit_line edit ++ 10 ∷ part) are
    (λ c ends x. let t = next_text n front blanks edit count _ _ [] c has (append_assoc (edit_line edit) (10 ∷ part) (10 ∷ [])) x in let none = no_later
    t.0.text [] x.later t.1 t.0.count_is in t.0.not_in_line
    (ends_so front x.next (subst EndsInLine (x.is ∙ ap (λ (w : List Listed). Batch (front ++ x.next ∷ w)) none) ends))))
    (batch_is_cut_in n front blanks (edit_line edit ++ 10 ∷ part) are (text_is_begun edit count part has short))
  where
    no_later : (t s : List ℕ) (later : List Listed) → part ++ 10 ∷ [] ≡ (t ++ 10 ∷ []) ++ (flat_map listed_bytes later ++ []) → length t ≡ count → later ≡ []
    no_later t s [] e l = refl
    no_later t s (y ∷ ys) e l = grind (arith, common_steps, length-append, listed_some) steps 200000

pub batch_text_line_cut : (n : ℕ) (front : List Listed) (blanks : ℕ) (edit : Asked) (count : ℕ) → AreListed n front → HasTextOf edit count
    → StopsSo (batch_bytes n front blanks (edit_line edit)) CutShort
batch_text_line_cut n front blanks edit count are has = stops_cut (batch_bytes n front blanks (edit_line edit)) (no_feed_entry n front blanks (edit_line edit)
    are (grind (arith, common_steps, edit_lacks_feed edit has.good) steps 200000)) (batch_no_last n front blanks (edit_line edit) are
    (λ c ends x. let t = next_text n front blanks edit count _ [] [] c has refl x in too_long [] t.0.text (flat_map listed_bytes x.later ++ []) count t.1
    t.0.count_is (omega arith)))
    (batch_is_cut_in n front blanks (edit_line edit) are (line_is_begun edit has.good))

pub batch_text_bad : (n : ℕ) (front : List Listed) (blanks : ℕ) (edit : Asked) (count : ℕ) (text more : List ℕ) (byte : ℕ) → AreListed n front
    → HasTextOf edit count → length text ≡ count → byte ≢ 10 → StopsSo (batch_bytes n front blanks (edit_line edit ++ 10 ∷ (text ++ byte ∷ more))) BadLine
batch_text_bad n front blanks edit count text more byte are has is other = batch_stops_bad n front blanks (bytes more) (none more)
    (λ missing. subst (λ (w : List ℕ). NoEntry (batch_bytes n front blanks w)) (sym (longer missing)) (none (more ++ 10 ∷ missing)))
  where
    bytes : List ℕ → List ℕ
    bytes after = edit_line edit ++ 10 ∷ (text ++ byte ∷ after)

    longer : (missing : List ℕ) → bytes more ++ 10 ∷ missing ≡ bytes (more ++ 10 ∷ missing)
    longer missing = append_assoc (edit_line edit) (10 ∷ (text ++ byte ∷ more)) (10 ∷ missing) ∙ ap (λ (w : List ℕ). edit_line edit ++ 10 ∷ w) (append_assoc text (byte ∷ more) (10 ∷ missing))

    none : (after : List ℕ) → NoEntry (batch_bytes n front blanks (bytes after))
    none after = batch_no_entry n front blanks (bytes after) are (λ c left x. (let t = next_text n front blanks edit count (bytes after) (text ++ byte ∷ after) left c has refl x in
        other_end text byte count is other t.0.text after (flat_map listed_bytes x.later ++ left) t.0.count_is t.1))

-- a batch whose last line is that of an edit without a text, with more edits missing
pub batch_edit_cut : (n : ℕ) (front : List Listed) (blanks : ℕ) (edit : Asked) → AreListed n front → IsGoodEdit edit → edited_text edit ≡ None
    → length front + 1 < n → StopsSo (batch_bytes n front blanks (edit_line edit)) CutShort
batch_edit_cut n front blanks edit are good none more = stops_cut (batch_bytes n front blanks (edit_line edit)) (no_feed_entry n front blanks (edit_line edit)
    are (grind (arith, common_steps, edit_lacks_feed edit good) steps 200000)) (batch_no_last n front blanks (edit_line edit) are
    (λ c ends x. by x.next x.later x.count (next_line n front blanks (edit_line edit) _ [] [] c (edit_line_some edit)
    (grind (arith, common_steps, edit_lacks_feed edit good) steps 200000) refl x).1))
    (batch_is_cut_in n front blanks (edit_line edit) are (line_is_begun edit good))
  where
    by : (next : Listed) (later : List Listed) → n ≡ length (front ++ next ∷ later) → [] ≡ ended_text (edited_text next.edit) ++ (flat_map listed_bytes later ++ []) → ⊥
    by next [] e k = let l : length (front ++ next ∷ []) ≡ length front + 1 = length-append front (next ∷ []) in omega arith
    by next (y ∷ ys) e k = grind (arith, common_steps, length-append (ended_text (edited_text next.edit)) (flat_map listed_bytes (y ∷ ys) ++ [])) steps 200000
