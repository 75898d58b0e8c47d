-- Whether bytes are the line of an edit or of a command.
use Rattle.std.proofs.{Common.{[], ◌≡◌, ◌≢◌, ◌⊎◌, ⊎_elim, ℕ, ◌<◌, ◌≤◌, true, List, ◌∷◌, length, replicate, refl, sym, ap, ◌∙◌, subst, inl, inr, arith, codes, decimal}, lemmas.Grind.{common_steps}}
use Rattle.std.proofs.{lemmas.{Bool.{cases_lt, ne_eqb}, Fmt.{decimal_is_IsNumeral}, List.{length-replicate, Splits.{join_with_byte-slice_split, slice_split_none, slice_split_at}}}, Math.Dec.{eqb}}
use Rattle.std.{proofs.Math.{Decide.{map_dec, ℕ_discrete}, Bool.{Bool-discrete}}, specs.{List.{AllByRecursion, list_all, join_with_byte, slice_split}, Str.Parse.{digits_value}}}
use mathlib.Core.List.{List-discrete}
use Rattle.mm_text.specs.Language.Asked.{Asked, Insert, Replace, Delete, Move}
use Rattle.mm_script.specs.declared.command.Question.{Question, TheVariants.{Verdict, Axioms, Cites, Users}}
use Rattle.mm_script.specs.Language.Script.{Command, Change, Batch, Report, Ask, edit_line, edit_words, command_words, line_of, is_word_byte, IsName, IsNumber, IsGood, question_word, IsGoodEdit}
use Rattle.mm_script.proofs.{SplitLemmas.{Lacks}, WordLemmas.{words_solid, has_first, small_number, HasFirst, lack_spaces}, ScriptBatchLemmas.{any_are_good, any_listed}}

dec_and : {P Q : Type 0} → Dec P → Dec Q → Dec (P × Q)
dec_and (yes p) (yes q) = yes (p, q)
dec_and (no n) _ = no (λ h. n h.0)
dec_and (yes p) (no n) = no (λ h. n h.1)

same_bytes : (xs ys : List ℕ) → Dec (xs ≡ ys)
same_bytes = List-discrete ℕ_discrete

name_or_not : (x : List ℕ) → Dec (IsName x)
name_or_not [] = no (λ (h : IsName []). h.some refl)
name_or_not (b ∷ x) = map_dec (λ e. record { some = λ (k : b ∷ x ≡ []). cc; bytes = e }) (λ h. h.bytes) (Bool-discrete (list_all is_word_byte (b ∷ x)) true)

-- the word is a number that a line can have
record Spells (word : List ℕ) : Type 0 where
  number : ℕ
  small : IsNumber number
  is : word ≡ decimal number

number_or_not : (word : List ℕ) → Dec (Spells word)
number_or_not word = by (cases_lt 4294967295 (digits_value 10 word)) (same_bytes word (decimal (digits_value 10 word)))
  where
    by : (4294967295 < digits_value 10 word) ⊎ (digits_value 10 word ≤ 4294967295) → Dec (word ≡ decimal (digits_value 10 word)) → Dec (Spells word)
    by (inl h) e = no (λ (s : Spells word). omega
        (arith, (ap (λ (w : List ℕ). digits_value 10 w) s.is ∙ (decimal_is_IsNumeral s.number (small_number s.number s.small)).1), s.small))
    by (inr h) d = map_dec (λ e. record { number = digits_value 10 word; small = h; is = e }) (λ s. s.is
        ∙ ap decimal (sym (ap (λ (w : List ℕ). digits_value 10 w) s.is ∙ (decimal_is_IsNumeral s.number (small_number s.number s.small)).1))) d

-- ---- the words of lines

record Asks (keyword : List ℕ) (words : List (List ℕ)) : Type 0 where
  label : List ℕ
  name : IsName label
  is : words ≡ keyword ∷ label ∷ []

record Deletes (words : List (List ℕ)) : Type 0 where
  file : List ℕ
  name : IsName file
  at : ℕ
  small : IsNumber at
  is : words ≡ codes "delete" ∷ file ∷ decimal at ∷ []

record Counts (keyword : List ℕ) (words : List (List ℕ)) : Type 0 where
  file : List ℕ
  name : IsName file
  at : ℕ
  small : IsNumber at
  count : ℕ
  small_count : IsNumber count
  is : words ≡ keyword ∷ file ∷ decimal at ∷ decimal count ∷ []

asks_or_not : (keyword : List ℕ) (words : List (List ℕ)) → Dec (Asks keyword words)
asks_or_not keyword (w ∷ l ∷ []) = grind (arith, common_steps, dec_and (same_bytes w keyword) (name_or_not l), name_or_not l, same_bytes w keyword) steps 200000
asks_or_not keyword _ = no (λ a. cc)

deletes_or_not : (words : List (List ℕ)) → Dec (Deletes words)
deletes_or_not (w ∷ f ∷ n ∷ []) = grind (arith, common_steps, dec_and (same_bytes w (codes "delete")) (dec_and (name_or_not f) (number_or_not n))) steps 200000
deletes_or_not _ = no (λ a. cc)

counts_or_not : (keyword : List ℕ) (words : List (List ℕ)) → Dec (Counts keyword words)
counts_or_not keyword (w ∷ f ∷ n ∷ c ∷ []) =
    map_dec (λ b. record { file = f; name = b.1.0; at = b.1.1.0.number; small = b.1.1.0.small; count = b.1.1.1.number; small_count = b.1.1.1.small; is = λ i. b.0 i ∷ f ∷ b.1.1.0.is i ∷ b.1.1.1.is i ∷ [] }) back
    (dec_and (same_bytes w keyword) (dec_and (name_or_not f) (dec_and (number_or_not n) (number_or_not c)))) where
      back : Counts keyword (w ∷ f ∷ n ∷ c ∷ []) → (w ≡ keyword) × (IsName f × (Spells n × Spells c))
      back a = let h : a.file ≡ f = cc in (cc, (subst IsName h a.name, (record { number = a.at; small = a.small; is = cc }, record { number = a.count; small = a.small_count; is = cc })))
counts_or_not keyword _ = no (λ a. cc)

record Batches (words : List (List ℕ)) : Type 0 where
  count : ℕ
  small : IsNumber count
  is : words ≡ codes "batch" ∷ decimal count ∷ []

batches_or_not : (words : List (List ℕ)) → Dec (Batches words)
batches_or_not (w ∷ n ∷ []) =
    grind (arith, common_steps, dec_and (same_bytes w (codes "batch")) (number_or_not n), number_or_not n, same_bytes w (codes "batch")) steps 200000
batches_or_not _ = no (λ b. cc)

-- ---- a line

-- the line of an edit
pub record IsEditLine (line : List ℕ) : Type 0 where
  pub edit : Asked
  pub good : IsGoodEdit edit
  pub is : line ≡ edit_line edit

-- the line of a command
pub record IsCommandLine (line : List ℕ) : Type 0 where
  pub command : Command
  pub good : IsGood command
  pub is : line ≡ line_of command

-- the words of a line, which are joined to it
words_in : List ℕ → List (List ℕ)
words_in line = slice_split (λ b. eqb b 32) line

joined : (line : List ℕ) → join_with_byte 32 (words_in line) ≡ line
unfolding words_in
joined line = join_with_byte-slice_split 32 line

split_join : (w : List ℕ) (ws : List (List ℕ)) → AllByRecursion (Lacks 32) (w ∷ ws) → words_in (join_with_byte 32 (w ∷ ws)) ≡ w ∷ ws
unfolding words_in
split_join w [] f = slice_split_none (λ b. eqb b 32) w (grind (arith, common_steps, eqb, ne_eqb) steps 200000)
split_join w (v ∷ ws) f = slice_split_at (λ b. eqb b 32) w 32 (join_with_byte 32 (v ∷ ws)) (grind (arith, common_steps, eqb, ne_eqb) steps 200000) refl
    ∙ ap (λ (x : List (List ℕ)). w ∷ x) (split_join v ws f.1)

words_are : (c : Command) → IsGood c → (line : List ℕ) → line ≡ line_of c → command_words c ≡ words_in line
words_are c g line e = by (command_words c) (has_first c) (lack_spaces (command_words c) (words_solid c g)) e
  where
    by : (words : List (List ℕ)) → HasFirst words → AllByRecursion (Lacks 32) words → line ≡ join_with_byte 32 words → words ≡ words_in line
    by words f h k = grind (arith, common_steps, split_join f.0 f.1 (subst (λ (x : List (List ℕ)). AllByRecursion (Lacks 32) x) f.2 h), words_in) steps 200000

-- some text of this many bytes, and this many edits
abbrev some_text : ℕ → List ℕ
some_text count = replicate count 0

some_long : (count : ℕ) → length (some_text count) ≡ count
some_long count = length-replicate count 0

-- ---- the line of an edit

-- nothing that the line of an edit could be
record IsNoEdit (words : List (List ℕ)) : Type 0 where
  insert : ¬ Counts (codes "insert") words
  replace : ¬ Counts (codes "replace") words
  move : ¬ Counts (codes "move") words
  delete : ¬ Deletes words

no_edit_is : (words : List (List ℕ)) → IsNoEdit words → (e : Asked) → IsGoodEdit e → edit_words e ≡ words → ⊥
no_edit_is words n (Insert f at text) g e = n.insert (record { file = f; name = g.0; at = at; small = g.1; count = length text; small_count = g.2; is = sym e })
no_edit_is words n (Replace f at text) g e = n.replace (record { file = f; name = g.0; at = at; small = g.1; count = length text; small_count = g.2; is = sym e })
no_edit_is words n (Delete f at) g e = n.delete (record { file = f; name = g.0; at = at; small = g.1; is = sym e })
no_edit_is words n (Move f at to) g e = n.move (record { file = f; name = g.0; at = at; small = g.1; count = to; small_count = g.2; is = sym e })

edit_by_words : (line : List ℕ) (e : Asked) → IsGoodEdit e → words_in line ≡ edit_words e → IsEditLine line
edit_by_words line e g k = record { edit = e; good = g; is = sym (joined line) ∙ ap (λ (x : List (List ℕ)). join_with_byte 32 x) k }

with_count : (keyword : List ℕ) (words : List (List ℕ)) → (c : Counts keyword words) → words ≡ keyword ∷ c.file ∷ decimal c.at ∷ decimal (length (some_text c.count)) ∷ []
with_count keyword words c = c.is ∙ ap (λ (n : ℕ). keyword ∷ c.file ∷ decimal c.at ∷ decimal n ∷ []) (sym (some_long c.count))

edit_words_are : (line : List ℕ) → IsEditLine line ⊎ IsNoEdit (words_in line)
edit_words_are line = by (counts_or_not (codes "insert") _) (counts_or_not (codes "replace") _) (counts_or_not (codes "move") _) (deletes_or_not _)
  where
    by : Dec (Counts (codes "insert") (words_in line)) → Dec (Counts (codes "replace") (words_in line)) → Dec (Counts (codes "move") (words_in line))
        → Dec (Deletes (words_in line)) → IsEditLine line ⊎ IsNoEdit (words_in line)
    by (yes c) _ _ _ = inl (edit_by_words line (Insert c.file c.at (some_text c.count)) (c.name, c.small, subst IsNumber (sym (some_long c.count)) c.small_count) (with_count (codes "insert") _ c))
    by (no i) (yes c) _ _ = inl (edit_by_words line (Replace c.file c.at (some_text c.count)) (c.name, c.small, subst IsNumber (sym (some_long c.count)) c.small_count) (with_count (codes "replace") _ c))
    by (no i) (no r) (yes c) _ = inl (edit_by_words line (Move c.file c.at c.count) (c.name, c.small, c.small_count) c.is)
    by (no i) (no r) (no m) (yes d) = inl (edit_by_words line (Delete d.file d.at) (d.name, d.small) d.is)
    by (no i) (no r) (no m) (no d) = inr (record { insert = i; replace = r; move = m; delete = d })

pub edit_line_or_not : (line : List ℕ) → Dec (IsEditLine line)
edit_line_or_not line = ⊎_elim yes (λ n. no (λ e. no_edit_is (words_in line) n e.edit e.good (words_are (Change e.edit) e.good line e.is))) (edit_words_are line)

-- ---- the line of a command

-- nothing else that the line of a command could be
record IsNoOther (words : List (List ℕ)) : Type 0 where
  batch : ¬ Batches words
  report : words ≢ codes "report" ∷ []
  ask : (question : Question) → ¬ Asks (question_word question) words

no_command_is : (words : List (List ℕ)) → IsNoEdit words → IsNoOther words → (c : Command) → IsGood c → command_words c ≡ words → ⊥
no_command_is words n o (Change edit) g e = no_edit_is words n edit g e
no_command_is words n o (Batch edits) g e = o.batch (record { count = length edits; small = g.0; is = sym e })
no_command_is words n o Report g e = o.report (sym e)
no_command_is words n o (Ask q l) g e = o.ask q (record { label = l; name = g; is = sym e })

command_by_words : (line : List ℕ) (c : Command) → IsGood c → words_in line ≡ command_words c → IsCommandLine line
command_by_words line c g k = record { command = c; good = g; is = sym (joined line) ∙ ap (λ (x : List (List ℕ)). join_with_byte 32 x) k }

-- the words are one of the questions, or none
asked_or_not : (words : List (List ℕ)) → Dec ((question : Question) × Asks (question_word question) words)
asked_or_not words = by (asks_or_not (codes "verdict") _) (asks_or_not (codes "axioms") _) (asks_or_not (codes "cites") _) (asks_or_not (codes "users") _)
  where
    by : Dec (Asks (codes "verdict") words) → Dec (Asks (codes "axioms") words) → Dec (Asks (codes "cites") words) → Dec (Asks (codes "users") words)
        → Dec ((question : Question) × Asks (question_word question) words)
    by (yes a) _ _ _ = yes (Verdict, a)
    by _ (yes a) _ _ = yes (Axioms, a)
    by _ _ (yes a) _ = yes (Cites, a)
    by _ _ _ (yes a) = yes (Users, a)
    by (no v) (no a) (no c) (no u) = no (λ asked. grind (arith, common_steps) steps 200000)

pub command_line_or_not : (line : List ℕ) → Dec (IsCommandLine line)
command_line_or_not line = ⊎_elim (λ e. yes (record { command = Change e.edit; good = e.good; is = e.is })) (λ n. by n (batches_or_not _)
    (List-discrete same_bytes _ _) (asked_or_not _)) (edit_words_are line)
  where
    by : IsNoEdit (words_in line) → Dec (Batches (words_in line)) → Dec (words_in line ≡ codes "report" ∷ [])
        → Dec ((question : Question) × Asks (question_word question) (words_in line)) → Dec (IsCommandLine line)
    by n (yes b) _ _ = yes (command_by_words line (Batch (replicate b.count any_listed)) (subst IsNumber (sym (length-replicate b.count any_listed)) b.small, any_are_good b.count)
        (b.is ∙ ap (λ (k : ℕ). codes "batch" ∷ decimal k ∷ []) (sym (length-replicate b.count any_listed))))
    by n (no b) (yes e) _ = yes (command_by_words line Report tt e)
    by n (no b) (no r) (yes a) = yes (command_by_words line (Ask a.0 a.1.label) a.1.name a.1.is)
    by n (no b) (no r) (no a) =
        no (λ (k : IsCommandLine line). no_command_is _ n (record { batch = b; report = r; ask = λ q h. a (q, h) }) k.command k.good (words_are k.command k.good line k.is))
