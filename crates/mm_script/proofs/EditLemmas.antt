-- Edits that are in the bytes of a script: their lines, and their texts.
use Rattle.std.proofs.Common.{[], ◌≡◌, ℕ, ◌+◌, ◌-◌, ◌≤◌, false, List, ◌∷◌, ◌++◌, length, length-append, drop, replicate, sym, ap, subst, arith, ◌⊎◌, true, Option, Some, None, IfSome}
use Rattle.std.{proofs.lemmas.{Grind.{common_steps}, List.{append-nil, length-drop, length-take, length-replicate, drop_all, Folds.{drop_split}}}, specs.Io.KnownBytes.{IsAtEnd}}
use Rattle.mm_text.specs.Language.Asked.{Asked, edited_text}
use Rattle.mm_script.specs.declared.{command.{EditAt.{EditAt}, PendingRange.{PendingRange}}, input.Input.{Input}, script_lines.LineAt.{LineAt}}
use Rattle.mm_script.specs.Code.{Growing.{InputGrows, IsEditRead, IsLineAt, IsOtherByte, IsTextBad, IsTextLine, IsTextShort, line_bytes}, Lines.{IsLineOfEdit, SaysEdit, text_part}, Stops.{HasTextOf}}
use Rattle.mm_script.{specs.Language.{Commands.{pending, bytes_of_part, edit_in, IsPartWithin}, Script.{edit_line}}, proofs.GrowLemmas.{part_grown, rest_grown}}

-- the text of an edit that has one, and of one that has none
text_is : (bytes : List ℕ) (edit : EditAt) (text : PendingRange) → text_part edit ≡ Some text → edited_text (edit_in bytes edit) ≡ Some (bytes_of_part bytes text)
text_is bytes edit text is = grind (arith, common_steps) steps 200000

no_text : (bytes : List ℕ) (edit : EditAt) → text_part edit ≡ None → edited_text (edit_in bytes edit) ≡ None
no_text bytes edit is = grind (arith, common_steps) steps 200000

some_is : (P : PendingRange → Type 0) (found : Option PendingRange) (text : PendingRange) → found ≡ Some text → P text → IfSome found P
some_is P found text is p = subst (λ (x : Option PendingRange). IfSome x P) (sym is) p

is_some : (P : PendingRange → Type 0) (found : Option PendingRange) (text : PendingRange) → found ≡ Some text → IfSome found P → P text
is_some P found text is p = subst (λ (x : Option PendingRange). IfSome x P) is p

text_long : (bytes : List ℕ) (text : PendingRange) → text.end ≤ length bytes → length (bytes_of_part bytes text) ≡ text.end - text.start
text_long bytes text within = omega (arith, length-take (text.end - text.start) (drop text.start bytes), length-drop text.start bytes, within)

-- ---- the edit that a line asks for, whose text is not there yet

module _ (bytes : List ℕ) (line : LineAt) (edit : EditAt) (text : PendingRange) (says : SaysEdit bytes line edit) (is : text_part edit ≡ Some text) where
  -- an edit of this line, with some text
  pub record OfThisLine : Type 0 where
    pub asked : Asked
    pub has : HasTextOf asked (text.end - text.start)
    pub line_is : line_bytes bytes line ≡ edit_line asked

  pub of_this_line : OfThisLine
  of_this_line =
      let more = replicate text.end 10 in
      let within : text.end ≤ length (bytes ++ more) = omega (arith, length-append bytes more, length-replicate {A = ℕ} text.end 10) in
      let so = says.is more (some_is _ (text_part edit) text is within) in
      record {
        asked = edit_in (bytes ++ more) edit;
        has = record { good = so.good; text = bytes_of_part (bytes ++ more) text; is_text = text_is (bytes ++ more) edit text is; count_is = text_long (bytes ++ more) text within };
        line_is = so.is;
      }

  pub text_begins : (text.start ≡ line.end + 1) × (text.start ≤ text.end)
  text_begins = is_some _ (text_part edit) text is says.text

-- a line that has its line feed, as the bytes grow
pub fed_line : (a b : Input) (u v : Option (List ℕ)) (line : LineAt) → IsLineAt (pending a) u line → InputGrows a b u v → line.fed ≡ true
    → drop line.start (pending b) ≡ line_bytes (pending a) line ++ 10 ∷ drop (line.end + 1) (pending b)
fed_line a b u v line is grows fed =
    grind (arith, common_steps, drop_split (pending b) line.start line.end is.ordered, length-drop line.end (pending a), part_grown a b u v line.start line.end grows is.ordered is.within, rest_grown a b u v line.end grows is.within) steps 200000

-- and one that is the last
pub unfed_line : (bytes : List ℕ) (left : Option (List ℕ)) (line : LineAt) → IsLineAt bytes left line → line.fed ≡ false → drop line.start bytes ≡ line_bytes bytes line
unfed_line bytes left line is unfed = grind (arith, common_steps, append-nil, drop_all, drop_split) steps 200000

pub text_line_last : (bytes : List ℕ) (left : Option (List ℕ)) (line : LineAt) (edit : EditAt) (text : PendingRange)
    → SaysEdit bytes line edit → text_part edit ≡ Some text → IsLineAt bytes left line → line.fed ≡ false
    → IsAtEnd left × (IsTextShort (drop line.start bytes) ⊎ IsTextLine (drop line.start bytes))
text_line_last bytes left line edit text says is at unfed =
    grind (arith, common_steps, of_this_line bytes line edit text says is, unfed_line bytes left line at unfed) steps 200000

-- a line whose text has a wrong end, or is not all there; or is there
module _ (a b : Input) (u v : Option (List ℕ)) (line : LineAt) (edit : EditAt) (text : PendingRange) (says : SaysEdit (pending a) line edit)
    (is : text_part edit ≡ Some text) (at : IsLineAt (pending a) u line) (grows : InputGrows a b u v) (fed : line.fed ≡ true) where
  behind : drop (line.end + 1) (pending b) ≡ bytes_of_part (pending b) text ++ drop text.end (pending b)
  behind = grind (arith, common_steps, drop_split, text_begins) steps 200000

  pub text_fails : (IsOtherByte (pending b) text.end → IsTextBad (drop line.start (pending b))) × (length (pending b) ≤ text.end → IsTextShort (drop line.start (pending b)))
  text_fails = (
    λ other. grind (arith, common_steps, of_this_line (pending a) line edit text says is, fed_line a b u v line at grows fed, behind, length-drop text.end (pending b), text_long (pending b) text) steps 200000,
    λ short. grind (arith, common_steps, of_this_line (pending a) line edit text says is, text_begins (pending a) line edit text says is, fed_line a b u v line at grows fed, length-drop (line.end + 1) (pending b)) steps 200000,
  )

  pub text_read : drop text.end (pending b) ≡ 10 ∷ drop (text.end + 1) (pending b) → IsEditRead (pending b) v line.start record { found = edit; end = text.end + 1; fed = true }
  text_read feed =
      let begins = text_begins (pending a) line edit text says is in
      let within : text.end + 1 ≤ length (pending b) = omega (arith, ap length feed, length-drop text.end (pending b), length-drop (text.end + 1) (pending b)) in
      let so = subst (λ (xs : List ℕ). IsLineOfEdit (line_bytes (pending a) line) xs edit) (sym grows.are)
      (says.is grows.part (some_is _ (text_part edit) text is (omega (arith, within, ap length grows.are)))) in
      grind (arith, common_steps, so, begins, within, fed_line a b u v line at grows fed, behind, text_is (pending b) edit text is, feed) steps 200000

pub bytes_grown : (a b : Input) (u v : Option (List ℕ)) (part : PendingRange) → InputGrows a b u v → IsPartWithin (pending a) part → bytes_of_part (pending b) part ≡ bytes_of_part (pending a) part
bytes_grown a b u v part grows within = part_grown a b u v part.start part.end grows within.ordered within.within

-- the beginning of what comes after a line
pub behind_within : (bytes : List ℕ) (left : Option (List ℕ)) (line : LineAt) (end : ℕ) → IsLineAt bytes left line → (line.fed ≡ true → end ≡ line.end + 1) → (line.fed ≡ false → end ≡ line.end)
    → (end ≤ length bytes) × (line.end ≤ end)
behind_within bytes left line end is fed unfed = grind (arith, common_steps, length-drop) steps 200000

-- an edit without a text
pub plain_read : (bytes : List ℕ) (left : Option (List ℕ)) (line : LineAt) (edit : EditAt) (end : ℕ) → SaysEdit bytes line edit → text_part edit ≡ None → IsLineAt bytes left line
    → (line.fed ≡ true → end ≡ line.end + 1) → (line.fed ≡ false → end ≡ line.end) → IsEditRead bytes left line.start record { found = edit; end = end; fed = line.fed }
plain_read bytes left line edit end says is at fed unfed =
    let so = subst (λ (xs : List ℕ). IsLineOfEdit (line_bytes bytes line) xs edit) (append-nil bytes)
    (says.is [] (subst (λ (x : Option PendingRange). IfSome x (λ text. text.end ≤ length (bytes ++ []))) (sym is) tt)) in
    let long = behind_within bytes left line end at fed unfed in
    grind (arith, common_steps, so, long, no_text bytes edit is, drop_split, unfed_line) steps 500000
