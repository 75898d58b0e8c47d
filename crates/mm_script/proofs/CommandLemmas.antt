-- Commands that are read, from their lines on.
use Rattle.std.proofs.Common.{◌≡◌, ◌⊎◌, ℕ, ◌+◌, Bool, true, false, List, ◌∷◌, ◌++◌, append_assoc, length, drop, refl, sym, ap, ◌∙◌, subst, arith, Option, inl, inr, length-drop}
use Rattle.std.{proofs.lemmas.{Grind.{common_steps}, List.Folds.{drop_split}}, specs.Io.KnownBytes.{IsAtEnd}}
use Rattle.mm_script.proofs.{ScriptLemmas.{none_so_far}, StopLemmas.{text_no_entry, bad_line, bad_last, text_cut, text_line_cut, text_bad}, BatchLemmas.{always, at_end}}
use Rattle.mm_script.{proofs.{BatchReadLemmas.{edits_counted}, EditLemmas.{unfed_line}}, specs.declared.command.{EditAt.{EditAt}, CommandAt.{CommandAt}, Complete.{Complete}}}
use Rattle.mm_script.specs.{declared.script_lines.LineAt.{LineAt}, Code.{Batches.{IsBatchRead}, Growing.{IsLineAt, IsTextBad, IsTextLine, IsTextShort, line_bytes}, Lines.{IsAlone}, Stops.{IsBadLine}}}
use Rattle.mm_script.specs.Language.Commands.{AreEditsIn, IsCommandIn, IsNextCommand, IsWholeOrLast, StopsSo, HasNoEntry, rest_of_script}
use Rattle.mm_script.specs.Language.Script.{CutShort, BadLine, Command, Batch, Listed, edit_line}

all_bytes : (bytes : List ℕ) (start : ℕ) → start ≡ 0 → bytes ≡ drop start bytes
all_bytes bytes start none = sym (ap (λ (n : ℕ). drop n bytes) none)

-- a line that is that of no command
pub bad_first : (bytes : List ℕ) (left : Option (List ℕ)) (line : LineAt) → IsLineAt bytes left line → line.start ≡ 0 → IsBadLine (line_bytes bytes line) → StopsSo (rest_of_script bytes left) BadLine
bad_first bytes left line is start bad = by line.fed refl
  where
    by : (fed : Bool) → line.fed ≡ fed → StopsSo (rest_of_script bytes left) BadLine
    by true e =
        let whole = all_bytes bytes line.start start ∙ (grind (arith, common_steps, drop_split bytes line.start line.end is.ordered) steps 200000) in
        always (λ (xs : List ℕ). StopsSo xs BadLine) bytes left (λ (more : List ℕ).
        subst (λ (xs : List ℕ). StopsSo xs BadLine) (sym (ap (λ (xs : List ℕ). xs ++ more) whole ∙ append_assoc (line_bytes bytes line) (10 ∷ drop (line.end + 1) bytes) more))
        (bad_line (line_bytes bytes line) (drop (line.end + 1) bytes ++ more) bad))
    by false e =
        let whole = all_bytes bytes line.start start ∙ unfed_line bytes left line is e in
        at_end (λ (xs : List ℕ). StopsSo xs BadLine) bytes left (is.unfed e).1 (subst (λ (xs : List ℕ). StopsSo xs BadLine) (sym whole) (bad_last (line_bytes bytes line) bad))

-- an edit whose text is not all there, or followed by another byte
pub bad_edit : (bytes : List ℕ) (left : Option (List ℕ)) (start : ℕ) → start ≡ 0 → IsTextBad (drop start bytes) → StopsSo (rest_of_script bytes left) BadLine
bad_edit bytes left start none t =
    let whole = all_bytes bytes start none ∙ t.are in
    always (λ (xs : List ℕ). StopsSo xs BadLine) bytes left (λ (more : List ℕ).
    subst (λ (xs : List ℕ). StopsSo xs BadLine)
    (sym (ap (λ (xs : List ℕ). xs ++ more) whole ∙ append_assoc (edit_line t.edit) (10 ∷ (t.text ++ t.byte ∷ t.more)) more ∙ ap (λ (xs : List ℕ). edit_line t.edit ++ 10 ∷ xs) (append_assoc t.text (t.byte ∷ t.more) more)))
    (text_bad t.edit t.count t.text (t.more ++ more) t.byte t.has t.is t.other))

pub cut_edit : (bytes : List ℕ) (left : Option (List ℕ)) (start : ℕ) → start ≡ 0 → IsAtEnd left → IsTextShort (drop start bytes) ⊎ IsTextLine (drop start bytes) → StopsSo (rest_of_script bytes left) CutShort
cut_edit bytes left start none end (inl t) =
    at_end (λ (xs : List ℕ). StopsSo xs CutShort) bytes left end (subst (λ (xs : List ℕ). StopsSo xs CutShort) (sym (all_bytes bytes start none ∙ t.are)) (text_cut t.edit t.count t.part t.has t.short))
cut_edit bytes left start none end (inr t) =
    at_end (λ (xs : List ℕ). StopsSo xs CutShort) bytes left end (subst (λ (xs : List ℕ). StopsSo xs CutShort) (sym (all_bytes bytes start none ∙ t.are)) (text_line_cut t.edit t.count t.has))

pub held_edit : (bytes : List ℕ) (start : ℕ) → start ≡ 0 → IsTextShort (drop start bytes) → HasNoEntry bytes
held_edit bytes start none t = subst HasNoEntry (sym (all_bytes bytes start none ∙ t.are))
    (grind (arith, common_steps, none_so_far (edit_line t.edit ++ 10 ∷ t.part) (text_no_entry t.edit t.count t.part t.has t.short)) steps 200000)

-- a command that is no more than its line
pub line_next : (bytes : List ℕ) (left : Option (List ℕ)) (line : LineAt) (found : CommandAt) (end : ℕ) → IsLineAt bytes left line → line.start ≡ 0 → IsAlone bytes line found
    → (line.fed ≡ true → end ≡ line.end + 1) → (line.fed ≡ false → end ≡ line.end) → IsNextCommand bytes left record { found = found; end = end; fed = line.fed }
line_next bytes left line found end is start alone fed unfed =
    record { command = alone.command; good = alone.good; is_command = alone.is_command; whole = by line.fed refl }
  where
    by : (b : Bool) → line.fed ≡ b → IsWholeOrLast bytes left record { found = found; end = end; fed = line.fed } alone.command
    by true e = grind (arith, common_steps, length-drop line.end bytes) steps 200000
    by false e = grind (arith, common_steps, is.unfed e, all_bytes bytes line.start start, unfed_line bytes left line is e, at_end) steps 200000

-- a batch
pub batch_next : (bytes : List ℕ) (left : Option (List ℕ)) (n : ℕ) (next : Complete CommandAt) (found : List EditAt) → IsBatchRead bytes left n found next.end next.fed → length found ≡ n
    → ((command : Command) → ((listed : List Listed) × AreEditsIn bytes found listed × (command ≡ Batch listed)) → IsCommandIn bytes next.found command) → IsNextCommand bytes left next
batch_next bytes left n next found b count is_command =
    grind (arith, common_steps, by next.fed refl, edits_counted bytes found b.front b.edits) steps 200000 where
      by : (f : Bool) → next.fed ≡ f → IsWholeOrLast bytes left next (Batch b.front)
      by p0 p1 = grind (arith, common_steps, at_end, edits_counted bytes found b.front b.edits) steps 200000
