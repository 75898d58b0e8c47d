-- Batches whose edits are not all read, or that stop.
use Rattle.std.proofs.Common.{[], ◌≡◌, ◌≢◌, ◌⊎◌, inl, inr, ℕ, ◌+◌, ◌-◌, ◌<◌, ◌≤◌, Bool, true, false, List, ◌∷◌, ◌++◌, append_assoc, length, drop, refl, sym, ap, ◌∙◌, subst, arith, Option, Some, None}
use Rattle.std.{proofs.{Common.{unwrap_or, append-nil}, lemmas.{Grind.{common_steps}, List.{length-drop, length-take, take-append-drop, take-append-le, drop_all}}}, specs.Io.KnownBytes.{IsAtEnd}}
use Rattle.mm_script.proofs.ScriptLemmas.{none_so_far}
use Rattle.mm_script.proofs.StopLemmas.{text_entry, no_feed_entry, batch_cut, batch_bad_line, batch_bad_last, batch_text_cut, batch_text_line_cut, batch_text_bad, batch_edit_cut}
use Rattle.mm_script.{proofs.{EditLemmas.{fed_line, unfed_line}, GrowLemmas.{grows_not}}, specs.{declared.{input.Input.{Input}, script_lines.LineAt.{LineAt}}, Code.Batches.{IsBatchFront}}}
use Rattle.mm_script.specs.Code.{Growing.{InputGrows, HasBlanks, IsLineAt, IsTextBad, IsTextLine, IsTextShort, line_bytes}, Stops.{IsBadEditLine, IsOneLine, batch_bytes}}
use Rattle.mm_script.specs.Language.{Commands.{pending, rest_of_script, StopsSo, HasNoEntry}, Script.{CutShort, BadLine, IsGoodEdit, Listed, edit_line}}
use Rattle.mm_text.specs.Language.Asked.{Asked, edited_text}

-- if nothing is left
pub at_end : (P : List ℕ → Type 0) (bytes : List ℕ) (left : Option (List ℕ)) → IsAtEnd left → P bytes → P (rest_of_script bytes left)
at_end P bytes None end h = subst P (sym (append-nil bytes)) h
at_end P bytes (Some more) end h = subst P (sym (ap (λ (xs : List ℕ). bytes ++ xs) end ∙ append-nil bytes)) h

-- whatever is left
pub always : (P : List ℕ → Type 0) (bytes : List ℕ) (left : Option (List ℕ)) → ((more : List ℕ) → P (bytes ++ more)) → P (rest_of_script bytes left)
always P bytes left h = h (unwrap_or left [])

-- the bytes are those of a batch, with what comes after some of its edits and empty lines
pub front_bytes : (a b : Input) (u v : Option (List ℕ)) (n : ℕ) (front : List Listed) (from start : ℕ) → IsBatchFront (pending a) n front from → InputGrows a b u v → HasBlanks (pending b) from start
    → pending b ≡ batch_bytes n front (start - from) (drop start (pending b))
front_bytes a b u v n front from start f grows blanks = grind (arith, common_steps, take-append-le from (pending a) grows.part f.within, take-append-drop from (pending b)) steps 200000

-- with more after them
pub batch_more : (n : ℕ) (front : List Listed) (blanks : ℕ) (bytes inner more : List ℕ) → bytes ≡ batch_bytes n front blanks inner → bytes ++ more ≡ batch_bytes n front blanks (inner ++ more)
batch_more n front blanks bytes inner more is = grind (arith, common_steps) steps 200000

-- ---- the ends of a batch, from its first edits on

module _ (a b : Input) (u v : Option (List ℕ)) (n : ℕ) (front : List Listed) (from start : ℕ) (f : IsBatchFront (pending a) n front from) (grows : InputGrows a b u v) (blanks : HasBlanks (pending b) from start) where
  whole : pending b ≡ batch_bytes n front (start - from) (drop start (pending b))
  whole = front_bytes a b u v n front from start f grows blanks

  inner_is : (inner : List ℕ) → drop start (pending b) ≡ inner → pending b ≡ batch_bytes n front (start - from) inner
  inner_is inner is = whole ∙ ap (λ (xs : List ℕ). batch_bytes n front (start - from) xs) is

  -- the bytes have this end
  pub ends_here : (End : List ℕ → Type 0) (inner : List ℕ) → drop start (pending b) ≡ inner → IsAtEnd v → End (batch_bytes n front (start - from) inner) → End (rest_of_script (pending b) v)
  ends_here End inner is end h = at_end End (pending b) v end (subst End (sym (inner_is inner is)) h)

  pub ends_always : (End : List ℕ → Type 0) (inner : List ℕ) → drop start (pending b) ≡ inner → ((more : List ℕ) → End (batch_bytes n front (start - from) (inner ++ more)))
      → End (rest_of_script (pending b) v)
  ends_always End inner is h = always End (pending b) v (λ (more : List ℕ). subst End (sym (batch_more n front (start - from) (pending b) inner more (inner_is inner is))) (h more))

  pub holds_here : (inner : List ℕ) → drop start (pending b) ≡ inner → HasNoEntry (batch_bytes n front (start - from) inner) → HasNoEntry (pending b)
  holds_here inner is h = subst HasNoEntry (sym (inner_is inner is)) h

  pub begun_holds : IsOneLine (drop start (pending b)) → HasNoEntry (pending b)
  begun_holds one = holds_here (drop start (pending b)) refl (none_so_far (batch_bytes n front (start - from) (drop start (pending b)))
      (no_feed_entry n front (start - from) (drop start (pending b)) f.listed one))

  pub none_left : length (pending b) ≤ start → IsAtEnd v → StopsSo (rest_of_script (pending b) v) CutShort
  none_left last end = ends_here (λ (xs : List ℕ). StopsSo xs CutShort) [] (drop_all start (pending b) last) end (batch_cut n front (start - from) f.listed)

  pub text_stops : IsTextShort (drop start (pending b)) ⊎ IsTextLine (drop start (pending b)) → IsAtEnd v
      → StopsSo (rest_of_script (pending b) v) CutShort
  text_stops (inl t) end =
      ends_here (λ (xs : List ℕ). StopsSo xs CutShort) _ t.are end (batch_text_cut n front (start - from) t.edit t.count t.part f.listed t.has t.short)
  text_stops (inr t) end =
      ends_here (λ (xs : List ℕ). StopsSo xs CutShort) _ t.are end (batch_text_line_cut n front (start - from) t.edit t.count f.listed t.has)

  pub short_holds : IsTextShort (drop start (pending b)) → HasNoEntry (pending b)
  short_holds t = holds_here _ t.are (none_so_far (batch_bytes n front (start - from) (edit_line t.edit ++ 10 ∷ t.part)) (text_entry n front (start - from)
      t.edit t.count t.part f.listed t.has t.short))

  pub bad_text : IsTextBad (drop start (pending b)) → StopsSo (rest_of_script (pending b) v) BadLine
  bad_text t = ends_always (λ (xs : List ℕ). StopsSo xs BadLine) _ t.are (λ (more : List ℕ).
      subst (λ (xs : List ℕ). StopsSo (batch_bytes n front (start - from) xs) BadLine)
      (sym (append_assoc (edit_line t.edit) (10 ∷ (t.text ++ t.byte ∷ t.more)) more ∙ ap (λ (xs : List ℕ). edit_line t.edit ++ 10 ∷ xs) (append_assoc t.text (t.byte ∷ t.more) more)))
      (batch_text_bad n front (start - from) t.edit t.count t.text (t.more ++ more) t.byte f.listed t.has t.is t.other))

  pub bad_fed : (line rest : List ℕ) → drop start (pending b) ≡ line ++ 10 ∷ rest → IsBadEditLine line → StopsSo (rest_of_script (pending b) v) BadLine
  bad_fed line rest is bad = ends_always (λ (xs : List ℕ). StopsSo xs BadLine) _ is (λ (more : List ℕ).
      subst (λ (xs : List ℕ). StopsSo (batch_bytes n front (start - from) xs) BadLine) (sym (append_assoc line (10 ∷ rest) more)) (batch_bad_line n front (start - from) line (rest ++ more) f.listed bad))

  pub bad_unfed : (line : List ℕ) → drop start (pending b) ≡ line → IsBadEditLine line → IsAtEnd v → StopsSo (rest_of_script (pending b) v) BadLine
  bad_unfed line is bad end = ends_here (λ (xs : List ℕ). StopsSo xs BadLine) line is end (batch_bad_last n front (start - from) line f.listed bad)

  pub edit_missing : (edit : Asked) → drop start (pending b) ≡ edit_line edit → IsGoodEdit edit → edited_text edit ≡ None → length front + 1 < n → IsAtEnd v → StopsSo (rest_of_script (pending b) v) CutShort
  edit_missing edit is good none fewer end = ends_here (λ (xs : List ℕ). StopsSo xs CutShort) _ is end (batch_edit_cut n front (start - from) edit f.listed good none fewer)

-- a line that is that of no edit
pub bad_listed : (a b : Input) (u v : Option (List ℕ)) (n : ℕ) (front : List Listed) (from : ℕ) (line : LineAt) → IsBatchFront (pending a) n front from → InputGrows a b u v → HasBlanks (pending b) from line.start
    → IsLineAt (pending b) v line → IsBadEditLine (line_bytes (pending b) line) → StopsSo (rest_of_script (pending b) v) BadLine
bad_listed a b u v n front from line f grows blanks is bad = by line.fed refl
  where
    by : (fed : Bool) → line.fed ≡ fed → StopsSo (rest_of_script (pending b) v) BadLine
    by true e = bad_fed a b u v n front from line.start f grows blanks (line_bytes (pending b) line) (drop (line.end + 1) (pending b)) (fed_line b b v v line is (grows_not b v) e) bad
    by false e = bad_unfed a b u v n front from line.start f grows blanks (line_bytes (pending b) line) (unfed_line (pending b) v line is e) bad (is.unfed e).1

-- its bytes are some
pub line_some : (bytes : List ℕ) (left : Option (List ℕ)) (line : LineAt) → IsLineAt bytes left line → line.start < line.end → line_bytes bytes line ≢ []
line_some bytes left line is some none = grind (arith, common_steps, length-take (line.end - line.start) (drop line.start bytes), length-drop line.start bytes) steps 200000
