-- Each script has a reading, and what is left of it ends it.
use Rattle.std.proofs.Common.{[], ◌≡◌, ◌≢◌, ◌⊎◌, ℕ, zero, suc, ◌+◌, ◌≤◌, Option, Some, None, List, ◌∷◌, ◌++◌, length, length-append, replicate, refl, sym, ap, ◌∙◌, subst, inl, inr, arith}
use Rattle.std.{proofs.{Common.{append_assoc, append-nil}, lemmas.{Grind.{common_steps}, List.Concat.{flat_map-append}}, Math.Decide.{ℕ_discrete}}, specs.List.{flat_map}}
use Rattle.mm_text.specs.Language.Asked.{Asked, edited_text}
use Rattle.mm_script.specs.{Code.Stops.{HasTextOf, AreListed, batch_line, batch_bytes, AreGoodEdits}, Language.Commands.{StopsSo}}
use Rattle.mm_script.specs.Language.Script.{Listed, Command, Change, Batch, Entry, Blank, Given, End, Done, CutShort, BadLine, EndsInLine, IsGood, IsGoodEdit, IsGoodEntry, IsNumber, command_bytes}
use Rattle.mm_script.specs.Language.{Script.{edit_bytes, edit_line, ended_text, entry_bytes, line_of, listed_bytes}, ReadingLaws.{HasReading, IsReadSo}}
use Rattle.mm_script.proofs.{BatchReadLemmas.{good_more, last_in_line}, SplitLemmas.{Lacks}, WordDecidingLemmas.{IsCommandLine, IsEditLine, command_line_or_not, edit_line_or_not}}
use Rattle.mm_script.proofs.{ScriptLemmas.{entry_some}, ScriptLineLemmas.{WithText, with_text}, JoinLemmas.{reading_behind, reading_done, reading_last}}
use Rattle.mm_script.proofs.StopLemmas.{bad_last, bad_line, batch_bad_last, batch_bad_line, batch_cut, batch_edit_cut, batch_line_cut, batch_text_bad, batch_text_cut, batch_text_line_cut, text_bad}
use Rattle.mm_script.proofs.StopLemmas.{text_cut, text_line_cut}

-- ---- parts of bytes

-- the first line of some bytes, which has a line feed
record HasLine (bytes : List ℕ) : Type 0 where
  line : List ℕ
  tail : List ℕ
  is : bytes ≡ line ++ 10 ∷ tail
  lacks : Lacks 10 line

find_feed : (bytes : List ℕ) → HasLine bytes ⊎ Lacks 10 bytes
find_feed [] = inr tt
find_feed (b ∷ bytes) = by (ℕ_discrete b 10) (find_feed bytes)
  where
    by : Dec (b ≡ 10) → HasLine bytes ⊎ Lacks 10 bytes → HasLine (b ∷ bytes) ⊎ Lacks 10 (b ∷ bytes)
    by (yes e) r = inl (record { line = []; tail = bytes; is = ap (λ (x : ℕ). x ∷ bytes) e; lacks = tt })
    by (no e) (inl h) = inl (record { line = b ∷ h.line; tail = h.tail; is = ap (λ (x : List ℕ). b ∷ x) h.is; lacks = (e, h.lacks) })
    by (no e) (inr l) = inr (e, l)

-- what there is of a text of this many bytes and the line feed after it
data TextIs (count : ℕ) (bytes : List ℕ) : Type 0 where
  whole : (text left : List ℕ) → length text ≡ count → bytes ≡ text ++ 10 ∷ left → TextIs count bytes
  short : length bytes ≤ count → TextIs count bytes
  other : (text more : List ℕ) (byte : ℕ) → length text ≡ count → byte ≢ 10 → bytes ≡ text ++ byte ∷ more → TextIs count bytes

text_is : (count : ℕ) (bytes : List ℕ) → TextIs count bytes
text_is count [] = short (omega arith)
text_is zero (b ∷ bytes) = by (ℕ_discrete b 10)
  where
    by : Dec (b ≡ 10) → TextIs zero (b ∷ bytes)
    by (yes e) = whole [] bytes refl (ap (λ (x : ℕ). x ∷ bytes) e)
    by (no n) = other [] bytes b refl n refl
text_is (suc count) (b ∷ bytes) = by (text_is count bytes)
  where
    by : TextIs count bytes → TextIs (suc count) (b ∷ bytes)
    by (whole text left l e) = whole (b ∷ text) left (ap suc l) (ap (λ (x : List ℕ). b ∷ x) e)
    by (short h) = short (omega arith)
    by (other text more byte l n e) = other (b ∷ text) more byte (ap suc l) n (ap (λ (x : List ℕ). b ∷ x) e)

-- what there is of an edit, whose line is there with its line feed
data EditIs (bytes : List ℕ) : Type 0 where
  whole_edit : (e : Asked) (left : List ℕ) → IsGoodEdit e → bytes ≡ edit_bytes e ++ left → EditIs bytes
  short_text : (e : Asked) (count : ℕ) (part : List ℕ) → HasTextOf e count → length part ≤ count → bytes ≡ edit_line e ++ 10 ∷ part → EditIs bytes
  other_text : (e : Asked) (count : ℕ) (text more : List ℕ) (byte : ℕ) → HasTextOf e count → length text ≡ count → byte ≢ 10 → bytes ≡ edit_line e ++ 10 ∷ (text ++ byte ∷ more) → EditIs bytes

edit_is : (bytes line tail : List ℕ) → bytes ≡ line ++ 10 ∷ tail → (e : Asked) → IsGoodEdit e → line ≡ edit_line e → EditIs bytes
edit_is bytes line tail k e g is = by (edited_text e) refl
  where
    with : (text left : List ℕ) → tail ≡ text ++ 10 ∷ left → WithText e text → EditIs bytes
    with text left q w = whole_edit w.other left w.good ((grind (arith, common_steps, is, tail) steps 200000) ∙ ap (λ (x : List ℕ). x ++ 10 ∷ tail) w.same_line
        ∙ ap (λ (x : List ℕ). edit_line w.other ++ 10 ∷ x) (q ∙ sym (append_assoc text (10 ∷ []) left) ∙ ap (λ (t : Option (List ℕ)). ended_text t ++ left)
        (sym w.is_text)) ∙ sym (append_assoc (edit_line w.other) (10 ∷ ended_text (edited_text w.other)) left))

    on : (t : List ℕ) → HasTextOf e (length t) → TextIs (length t) tail → EditIs bytes
    on t has (whole text left l q) = with text left q (with_text e (length t) text has l)
    on t has (short h) = short_text e (length t) tail has h (grind (arith, common_steps, is, tail) steps 200000)
    on t has (other text more byte l n q) =
        other_text e (length t) text more byte has l n ((grind (arith, common_steps, is, tail) steps 200000) ∙ ap (λ (x : List ℕ). edit_line e ++ 10 ∷ x) q)

    by : (o : Option (List ℕ)) → edited_text e ≡ o → EditIs bytes
    by None p = whole_edit e tail g ((grind (arith, common_steps, is, tail) steps 200000) ∙ ap (λ (o : Option (List ℕ)). edit_line e ++ 10 ∷
        (ended_text o ++ tail)) (sym p) ∙ sym (append_assoc (edit_line e) (10 ∷ ended_text (edited_text e)) tail))
    by (Some t) p = on t (record { good = g; text = t; is_text = p; count_is = refl }) (text_is (length t) tail)

-- empty lines, and what comes after them
record HasBlanks (bytes : List ℕ) : Type 0 where
  blanks : ℕ
  inner : List ℕ
  is : bytes ≡ replicate blanks 10 ++ inner
  starts : (inner ≡ []) ⊎ ((b : ℕ) × (more : List ℕ) × (inner ≡ b ∷ more) × (b ≢ 10))

pass_blanks : (bytes : List ℕ) → HasBlanks bytes
pass_blanks [] = record { blanks = 0; inner = []; is = refl; starts = inl refl }
pass_blanks (b ∷ bytes) = by (ℕ_discrete b 10) (pass_blanks bytes)
  where
    by : Dec (b ≡ 10) → HasBlanks bytes → HasBlanks (b ∷ bytes)
    by (yes e) h = record { blanks = suc h.blanks; inner = h.inner; is = λ i. e i ∷ h.is i; starts = h.starts }
    by (no n) h = record { blanks = 0; inner = b ∷ bytes; is = refl; starts = inr (b, bytes, refl, n) }

-- ---- how bytes begin

-- with a command or an empty line; not at all; with nothing that is whole; or with a command without its last line feed alone
data Begins (bytes : List ℕ) : Type 0 where
  an_entry : (x : Entry) (left : List ℕ) → IsGoodEntry x → bytes ≡ entry_bytes x ++ left → Begins bytes
  at_end : bytes ≡ [] → Begins bytes
  a_stop : (end : End) → StopsSo bytes end → Begins bytes
  a_last : (c : Command) → IsGood c → EndsInLine c → bytes ++ 10 ∷ [] ≡ command_bytes c → Begins bytes

stop_by : (bytes others : List ℕ) (end : End) → bytes ≡ others → StopsSo others end → Begins bytes
stop_by bytes others end e s = a_stop end (subst (λ (w : List ℕ). StopsSo w end) (sym e) s)

-- ---- a batch

-- the last edit of a batch, without a text and without a line feed
batch_last : (n : ℕ) (front : List Listed) (blanks : ℕ) (e : Asked) (bytes : List ℕ) → IsNumber n → AreGoodEdits front → IsGoodEdit e → edited_text e ≡ None → n ≡ length front + 1 → bytes ≡ batch_bytes n front blanks (edit_line e) → Begins bytes
batch_last n front blanks e bytes number goods good none count is =
    a_last (Batch (front ++ one ∷ [])) (subst IsNumber (grind (arith, common_steps, length-append, one) steps 200000) number, good_more front one goods good)
    (last_in_line front one none) ((ap (λ (w : List ℕ). w ++ 10 ∷ []) is ∙ append_assoc (batch_line n)
    (10 ∷ (flat_map listed_bytes front ++ (replicate blanks 10 ++ edit_line e))) (10 ∷ []) ∙ ap (λ (w : List ℕ). batch_line n ++ 10 ∷ w) inside)
    ∙ ap (λ (k : ℕ). batch_line k ++ 10 ∷ flat_map listed_bytes (front ++ one ∷ [])) (grind (arith, common_steps, length-append, one) steps 200000)) where
      one : Listed
      one = record { blanks = blanks; edit = e }

      inside : (flat_map listed_bytes front ++ (replicate blanks 10 ++ edit_line e)) ++ 10 ∷ [] ≡ flat_map listed_bytes (front ++ one ∷ [])
      inside = grind (arith, common_steps, append-nil, append_assoc, blanks, flat_map-append, one) steps 200000

-- the next edit, whose line is not ended
batch_unfed : (n k : ℕ) (front : List Listed) (blanks : ℕ) (inner bytes : List ℕ) → AreListed n front → length front + suc k ≡ n → inner ≢ [] → Lacks 10 inner → bytes ≡ batch_bytes n front blanks inner → Dec (IsEditLine inner) → Begins bytes
batch_unfed n k front blanks inner bytes are count some l is (no none) =
    stop_by bytes (batch_bytes n front blanks inner) BadLine is (batch_bad_last n front blanks inner are (record { some = some; one_line = l; no_edit = λ e g q. none (record { edit = e; good = g; is = q }) }))
batch_unfed n k front blanks inner bytes are count some l is (yes e) = by (edited_text e.edit) k refl count
  where
    by : (o : Option (List ℕ)) (k : ℕ) → edited_text e.edit ≡ o → length front + suc k ≡ n → Begins bytes
    by None zero p c = batch_last n front blanks e.edit bytes are.number are.good e.good p (sym c) (grind (arith, common_steps, blanks, is) steps 200000)
    by None (suc k) p c = stop_by bytes (batch_bytes n front blanks (edit_line e.edit)) CutShort (grind (arith, common_steps, blanks, is) steps 200000)
        (batch_edit_cut n front blanks e.edit are e.good p (omega arith))
    by (Some t) k p c = stop_by bytes (batch_bytes n front blanks (edit_line e.edit)) CutShort (grind (arith, common_steps, blanks, is) steps 200000)
        (batch_text_line_cut n front blanks e.edit (length t) are (record { good = e.good; text = t; is_text = p; count_is = refl }))

not_empty : (bytes more : List ℕ) (b : ℕ) → bytes ≡ b ∷ more → bytes ≢ []
not_empty bytes more b e k = cc

-- a batch of which these edits are there, if it is known how one with the next edit begins
batch_next : (n k : ℕ) (front : List Listed) (s bytes : List ℕ) → IsNumber n → AreGoodEdits front → length front + suc k ≡ n → bytes ≡ batch_line n ++ 10 ∷ (flat_map listed_bytes front ++ s)
    → ((longer : List Listed) (left : List ℕ) → AreGoodEdits longer → length longer + k ≡ n → bytes ≡ batch_line n ++ 10 ∷ (flat_map listed_bytes longer ++ left) → Begins bytes) → HasBlanks s → Begins bytes
batch_next n k front s bytes number goods count is again h = starts h.starts
  where
    are : AreListed n front
    are = record { number = number; good = goods; fewer = omega arith }

    so : bytes ≡ batch_bytes n front h.blanks h.inner
    so = is ∙ ap (λ (w : List ℕ). batch_line n ++ 10 ∷ (flat_map listed_bytes front ++ w)) h.is

    more : (e : Asked) (left : List ℕ) → IsGoodEdit e → h.inner ≡ edit_bytes e ++ left → Begins bytes
    more e left g q =
        let one : Listed = record { blanks = h.blanks; edit = e } in
        again (front ++ one ∷ []) left (good_more front one goods g) (ap (λ (m : ℕ). m + k) (length-append front (one ∷ [])) ∙ omega arith)
        (so ∙ ap (λ (w : List ℕ). batch_line n ++ 10 ∷ w) (ap (λ (w : List ℕ). flat_map listed_bytes front ++ (replicate h.blanks 10 ++ w)) q
        ∙ ap (λ (w : List ℕ). flat_map listed_bytes front ++ w) (sym (append_assoc (replicate h.blanks 10) (edit_bytes e) left) ∙ ap (λ (w : List ℕ). w ++ left) (sym (append-nil (listed_bytes one))))
        ∙ sym (append_assoc (flat_map listed_bytes front) (flat_map listed_bytes (one ∷ [])) left) ∙ ap (λ (w : List ℕ). w ++ left) (sym (flat_map-append listed_bytes front (one ∷ [])))))

    edit : EditIs h.inner → Begins bytes
    edit (whole_edit e left g q) = more e left g q
    edit (short_text e m part has less q) = stop_by bytes (batch_bytes n front h.blanks (edit_line e ++ 10 ∷ part)) CutShort (so ∙ ap (λ (w : List ℕ). batch_bytes n front h.blanks w) q) (batch_text_cut n front h.blanks e m part are has less)
    edit (other_text e m text rest byte has l b q) =
        stop_by bytes (batch_bytes n front h.blanks (edit_line e ++ 10 ∷ (text ++ byte ∷ rest))) BadLine (so ∙ ap (λ (w : List ℕ). batch_bytes n front h.blanks w) q) (batch_text_bad n front h.blanks e m text rest byte are has l b)

    fed : (f : HasLine h.inner) → f.line ≢ [] → Dec (IsEditLine f.line) → Begins bytes
    fed f some (yes e) = edit (edit_is h.inner f.line f.tail f.is e.edit e.good e.is)
    fed f some (no none) = stop_by bytes (batch_bytes n front h.blanks (f.line ++ 10 ∷ f.tail)) BadLine (so ∙ ap (λ (w : List ℕ). batch_bytes n front h.blanks w) f.is)
        (batch_bad_line n front h.blanks f.line f.tail are (record { some = some; one_line = f.lacks; no_edit = λ e g q. none (record { edit = e; good = g; is = q }) }))

    line : (b : ℕ) (rest : List ℕ) → h.inner ≡ b ∷ rest → b ≢ 10 → HasLine h.inner ⊎ Lacks 10 h.inner → Begins bytes
    line b rest e d (inl f) = fed f (grind (arith, common_steps) steps 200000) (edit_line_or_not f.line)
    line b rest e d (inr l) = batch_unfed n k front h.blanks h.inner bytes are count (not_empty h.inner rest b e) l so (edit_line_or_not h.inner)

    starts : (h.inner ≡ []) ⊎ ((b : ℕ) × (more : List ℕ) × (h.inner ≡ b ∷ more) × (b ≢ 10)) → Begins bytes
    starts (inl e) = stop_by bytes (batch_bytes n front h.blanks []) CutShort (so ∙ ap (λ (w : List ℕ). batch_bytes n front h.blanks w) e) (batch_cut n front h.blanks are)
    starts (inr w) = line w.0 w.1 w.2 w.3 (find_feed h.inner)

-- a batch of which these edits are there, and this many are left
batch_is : (n k : ℕ) (front : List Listed) (s bytes : List ℕ) → IsNumber n → AreGoodEdits front → length front + k ≡ n → bytes ≡ batch_line n ++ 10 ∷ (flat_map listed_bytes front ++ s) → Begins bytes
batch_is n zero front s bytes number goods count is = an_entry (Given (Batch front)) s (subst IsNumber (grind (arith, common_steps) steps 200000) number, goods)
    (is ∙ ap (λ (k : ℕ). batch_line k ++ 10 ∷ (flat_map listed_bytes front ++ s)) (grind (arith, common_steps) steps 200000)
    ∙ sym (append_assoc (batch_line (length front)) (10 ∷ flat_map listed_bytes front) s))
batch_is n (suc k) front s bytes number goods count is = batch_next n k front s bytes number goods count is (λ longer left g c q. batch_is n k longer left bytes number g c q) (pass_blanks s)

-- ---- a script

change_is : (bytes : List ℕ) → EditIs bytes → Begins bytes
change_is bytes (whole_edit e left g q) = an_entry (Given (Change e)) left g q
change_is bytes (short_text e count part has less q) = stop_by bytes (edit_line e ++ 10 ∷ part) CutShort q (text_cut e count part has less)
change_is bytes (other_text e count text more byte has l n q) = stop_by bytes (edit_line e ++ 10 ∷ (text ++ byte ∷ more)) BadLine q (text_bad e count text more byte has l n)

fed_is : (bytes line tail : List ℕ) → bytes ≡ line ++ 10 ∷ tail → (c : Command) → IsGood c → line ≡ line_of c → Begins bytes
fed_is bytes line tail k (Change e) g is = change_is bytes (edit_is bytes line tail k e g is)
fed_is bytes line tail k (Batch edits) g is = batch_is (length edits) (length edits) [] tail bytes g.0 tt (omega arith) (k ∙ ap (λ (w : List ℕ). w ++ 10 ∷ tail) is)
fed_is bytes line tail k c g is = an_entry (Given c) tail g (k ∙ ap (λ (w : List ℕ). w ++ 10 ∷ tail) is ∙ sym (append_assoc (line_of c) (10 ∷ []) tail))

fed_line : (bytes others : List ℕ) → bytes ≡ others → bytes ++ 10 ∷ [] ≡ others ++ 10 ∷ []
fed_line bytes others e = ap (λ (w : List ℕ). w ++ 10 ∷ []) e

unfed_edit : (bytes : List ℕ) (e : Asked) → IsGoodEdit e → bytes ≡ edit_line e → (o : Option (List ℕ)) → edited_text e ≡ o → Begins bytes
unfed_edit bytes e g is None p = a_last (Change e) g p (fed_line bytes (edit_line e) is ∙ ap (λ (o : Option (List ℕ)). edit_line e ++ 10 ∷ ended_text o) (sym p))
unfed_edit bytes e g is (Some t) p = stop_by bytes (edit_line e) CutShort is (text_line_cut e (length t) (record { good = g; text = t; is_text = p; count_is = refl }))

unfed_is : (bytes : List ℕ) (c : Command) → IsGood c → bytes ≡ line_of c → Begins bytes
unfed_is bytes (Change e) g is = unfed_edit bytes e g is (edited_text e) refl
unfed_is bytes (Batch []) g is = a_last (Batch []) g tt (fed_line bytes (line_of (Batch [])) is)
unfed_is bytes (Batch (x ∷ xs)) g is = stop_by bytes (batch_line (length (x ∷ xs))) CutShort is (batch_line_cut (length (x ∷ xs)) g.0 (omega arith))
unfed_is bytes c g is = a_last c g tt (fed_line bytes (line_of c) is)

unfed_line : (bytes : List ℕ) → Lacks 10 bytes → bytes ≢ [] → Dec (IsCommandLine bytes) → Begins bytes
unfed_line bytes l some (yes c) = unfed_is bytes c.command c.good c.is
unfed_line bytes l some (no none) = a_stop BadLine (bad_last bytes (record { some = some; one_line = l; no_command = λ c g q. none (record { command = c; good = g; is = q }) }))

fed_line_is : (bytes line tail : List ℕ) → bytes ≡ line ++ 10 ∷ tail → Lacks 10 line → line ≢ [] → Dec (IsCommandLine line) → Begins bytes
fed_line_is bytes line tail k l some (yes c) = fed_is bytes line tail k c.command c.good c.is
fed_line_is bytes line tail k l some (no none) = stop_by bytes (line ++ 10 ∷ tail) BadLine k (bad_line line tail (record { some = some; one_line = l; no_command = λ c g q. none (record { command = c; good = g; is = q }) }))

-- all bytes begin in one of these ways
begins_is : (bytes : List ℕ) → Begins bytes
begins_is bytes = by (find_feed bytes)
  where
    fed : (line tail : List ℕ) → bytes ≡ line ++ 10 ∷ tail → Lacks 10 line → Begins bytes
    fed [] tail e l = an_entry Blank tail tt e
    fed (b ∷ line) tail e l = fed_line_is bytes (b ∷ line) tail e l (λ k. cc) (command_line_or_not (b ∷ line))

    unfed : (xs : List ℕ) → bytes ≡ xs → Lacks 10 bytes → Begins bytes
    unfed [] e l = at_end e
    unfed (b ∷ xs) e l = unfed_line bytes l (not_empty bytes xs b e) (command_line_or_not bytes)

    by : HasLine bytes ⊎ Lacks 10 bytes → Begins bytes
    by (inl h) = fed h.line h.tail h.is h.lacks
    by (inr l) = unfed bytes refl l

record HasOne (script : List ℕ) : Type 0 where
  entries : List Entry
  rest : List ℕ
  end : End
  is : IsReadSo script entries rest end

one_more : (bytes left : List ℕ) (x : Entry) → IsGoodEntry x → bytes ≡ entry_bytes x ++ left → HasOne left → HasOne bytes
one_more bytes left x g e r =
    grind (arith, common_steps, reading_behind bytes (x ∷ []) r.entries left r.rest (grind (arith, common_steps) steps 200000) r.is.reading) steps 200000

fewer : (bytes left : List ℕ) (x : Entry) (n : ℕ) → bytes ≡ entry_bytes x ++ left → length bytes ≤ suc n → length left ≤ n
fewer bytes left x n e h = let m : length bytes ≡ length (entry_bytes x) + length left = ap length e ∙ length-append (entry_bytes x) left in omega (arith, entry_some x)

has_one : (n : ℕ) (bytes : List ℕ) → length bytes ≤ n → Begins bytes → HasOne bytes
has_one n bytes h (at_end e) = record { entries = []; rest = []; end = Done; is = record { reading = reading_done bytes [] (record { good = tt; joined = e }); ends = refl } }
has_one n bytes h (a_stop end s) = record { entries = []; rest = bytes; end = end; is = record { reading = s.reading; ends = s.ends } }
has_one n bytes h (a_last c g i k) = record { entries = Given c ∷ []; rest = []; end = Done; is = record { reading = reading_last bytes [] bytes c (record { good = tt; joined = refl }) g i k; ends = refl } }
has_one zero bytes h (an_entry x left g e) = let m : length bytes ≡ length (entry_bytes x) + length left = ap length e ∙ length-append (entry_bytes x) left in absurd (omega (arith, entry_some x))
has_one (suc n) bytes h (an_entry x left g e) = one_more bytes left x g e (has_one n left (fewer bytes left x n e h) (begins_is left))

pub has_reading : HasReading
has_reading script = let r = has_one (length script) script (omega arith) (begins_is script) in (r.entries, r.rest, r.end, r.is)
