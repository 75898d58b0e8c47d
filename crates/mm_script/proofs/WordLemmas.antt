-- The words of commands, and what follows from equal bytes.
use Rattle.std.proofs.Common.{[], ◌≡◌, ◌≢◌, ◌⊎◌, ℕ, zero, suc, ◌+◌, ◌*◌, ◌^◌, ◌%◌, ◌<◌, ◌≤◌, true, List, ◌∷◌, ◌++◌, length, length-append, replicate, refl, sym, ap, ◌∙◌, subst, arith, append_assoc}
use Rattle.std.{proofs.lemmas.{Grind.{common_steps}, List.{append-nil}, Fmt.{decimal_by_steps, decimal_injective}, Bool.{and_from, and_parts}}, specs.Prelude.{decimal, slice_index, slice_index_or}}
use Rattle.std.specs.List.{AllByRecursion, flat_map, list_all, join_with_byte}
use Rattle.mm_text.specs.Language.Asked.{Asked, Insert, edited_text}
use Rattle.mm_script.specs.declared.command.Question.{Question}
use Rattle.mm_script.specs.Language.Script.{Listed, Command, Change, Report, Ask, Batch, edit_line, listed_bytes, edit_words, command_words, line_of, ended_text, behind_line, question_word}
use Rattle.mm_script.specs.{Language.Script.{is_word_byte, IsNumber, IsGoodEdit, IsGood}, Code.Stops.{AreGoodEdits}}
use Rattle.mm_script.proofs.SplitLemmas.{Lacks, split_at, same_words, join_lacks, solid_space, solid_feed}

-- a word has neither a space nor a line feed
abbrev pub IsSolid : List ℕ → Type 0
IsSolid w = list_all is_word_byte w ≡ true

solid_more : (xs ys : List ℕ) → IsSolid xs → IsSolid ys → IsSolid (xs ++ ys)
solid_more [] ys f g = g
solid_more (x ∷ xs) ys f g = and_from _ _ (and_parts _ _ f).0 (solid_more xs ys (and_parts _ _ f).1 g)

pub solid_decimal : (n : ℕ) → n < 2 ^ 64 → IsSolid (decimal n)
solid_decimal n small = decimal_by_steps (λ (n : ℕ) (ds : List ℕ). IsSolid ds) (λ (n : ℕ) (h : n < 10). (grind (arith, common_steps, and_from) steps 200000))
    (λ (n : ℕ) (ds : List ℕ) (h : 10 ≤ n) (g : IsSolid ds). solid_more ds ((48 + n % 10) ∷ []) g (grind (arith, common_steps, and_from) steps 200000)) n small

-- a number that a line can have is small
pub small_number : (n : ℕ) → IsNumber n → n < 2 ^ 64
small_number n h = omega arith

abbrev pub AreSolid : List (List ℕ) → Type 0
AreSolid words = AllByRecursion IsSolid words

pub words_solid : (c : Command) → IsGood c → AreSolid (command_words c)
words_solid c g = grind (arith, common_steps, small_number, solid_decimal) steps 200000

pub lack_spaces : (words : List (List ℕ)) → AreSolid words → AllByRecursion (Lacks 32) words
lack_spaces [] h = tt
lack_spaces (w ∷ words) h = (solid_space w h.0, lack_spaces words h.1)

pub lack_feeds : (words : List (List ℕ)) → AreSolid words → AllByRecursion (Lacks 10) words
lack_feeds [] h = tt
lack_feeds (w ∷ words) h = (solid_feed w h.0, lack_feeds words h.1)

pub line_lacks_feed : (c : Command) → IsGood c → Lacks 10 (line_of c)
line_lacks_feed c g = join_lacks 32 10 (command_words c) (λ (e : 32 ≡ 10). omega arith) (lack_feeds (command_words c) (words_solid c g))

-- each line has a word
abbrev pub HasFirst : List (List ℕ) → Type 0
HasFirst words = (w : List ℕ) × (ws : List (List ℕ)) × (words ≡ w ∷ ws)

pub has_first : (c : Command) → HasFirst (command_words c)
has_first (Change (Insert file at text)) = (_, _, refl)
has_first _ = (_, _, refl)

pub same_words_by_line : (words others : List (List ℕ)) → HasFirst words → HasFirst others → AreSolid words → AreSolid others → join_with_byte 32 words ≡ join_with_byte 32 others → words ≡ others
same_words_by_line words others f g h k e = let h' : AllByRecursion (Lacks 32) (f.0 ∷ f.1) = subst (λ (x : List (List ℕ)). AllByRecursion (Lacks 32) x) f.2
    (lack_spaces words h) in let e' : join_with_byte 32 (f.0 ∷ f.1) ≡ join_with_byte 32 (g.0 ∷ g.1) = ap (λ (x : List (List ℕ)). join_with_byte 32 x) (sym f.2)
    ∙ e ∙ ap (λ (x : List (List ℕ)). join_with_byte 32 x) g.2 in
    f.2 ∙ same_words 32 f.0 g.0 f.1 g.1 h' (subst (λ (x : List (List ℕ)). AllByRecursion (Lacks 32) x) g.2 (lack_spaces others k)) e' ∙ sym g.2

-- a number by which first words differ
abbrev pub tag : List (List ℕ) → ℕ
tag words = slice_index (slice_index_or words 0 []) 0 * 1000 + slice_index (slice_index_or words 0 []) 3

-- texts of one length in front of other bytes
pub same_front : (xs ys s t : List ℕ) → length xs ≡ length ys → xs ++ s ≡ ys ++ t → (xs ≡ ys) × (s ≡ t)
same_front [] [] s t l e = (refl, e)
same_front (x ∷ xs) (y ∷ ys) s t l e = grind (arith, common_steps, same_front xs ys s t (omega arith) cc) steps 200000
same_front _ _ s t l e = absurd (omega arith)

same_counted : (keyword : List ℕ) (f f' text text' : List ℕ) (at at' : ℕ) (s t : List ℕ) → IsNumber at → IsNumber at' → IsNumber (length text) → IsNumber (length text')
    → keyword ∷ f ∷ decimal at ∷ decimal (length text) ∷ [] ≡ keyword ∷ f' ∷ decimal at' ∷ decimal (length text') ∷ []
    → (text ++ 10 ∷ []) ++ s ≡ (text' ++ 10 ∷ []) ++ t → ((f ≡ f') × (at ≡ at') × (text ≡ text')) × (s ≡ t)
same_counted keyword f f' text text' at at' s t a a' n n' e g =
    let file : f ≡ f' = cc in
    let at_word : decimal at ≡ decimal at' = cc in
    let count_word : decimal (length text) ≡ decimal (length text') = cc in
    let ats : at ≡ at' = decimal_injective at at' (small_number at a) (small_number at' a') at_word in
    let counts : length text ≡ length text' = decimal_injective (length text) (length text') (small_number _ n) (small_number _ n') count_word in
    grind (arith, common_steps, append_assoc, same_front) steps 200000

-- by what the first word of an edit is known
pub edit_tag : (e : Asked) → (tag (edit_words e) ≡ 105101) ⊎ ((tag (edit_words e) ≡ 114108) ⊎ ((tag (edit_words e) ≡ 100101) ⊎ (tag (edit_words e) ≡ 109101)))
edit_tag e = grind (arith, common_steps) steps 200000

same_edit : (c d : Asked) (s t : List ℕ) → IsGoodEdit c → IsGoodEdit d → edit_words c ≡ edit_words d → ended_text (edited_text c) ++ s ≡ ended_text (edited_text d) ++ t → (c ≡ d) × (s ≡ t)
same_edit c d s t g h e k = grind (arith, common_steps, decimal_injective, same_counted, small_number) steps 200000

-- the line of an edit begins with another byte than a line feed
pub edit_head : (e : Asked) → (b : ℕ) × (rest : List ℕ) × (edit_line e ≡ b ∷ rest) × (b ≢ 10)
edit_head (Insert file at text) = (_, _, refl, λ e. omega arith)
edit_head _ = (_, _, refl, λ e. omega arith)

-- empty lines before another byte are counted
pub same_blanks : (m n b c : ℕ) (s t : List ℕ) → b ≢ 10 → c ≢ 10 → replicate m 10 ++ b ∷ s ≡ replicate n 10 ++ c ∷ t → (m ≡ n) × (b ∷ s ≡ c ∷ t)
same_blanks zero zero b c s t f g e = (refl, e)
same_blanks zero (suc n) b c s t f g e = let same : b ≡ 10 = cc in absurd (f same)
same_blanks (suc m) zero b c s t f g e = let same : c ≡ 10 = cc in absurd (g same)
same_blanks (suc m) (suc n) b c s t f g e = grind (arith, common_steps, same_blanks m n b c s t f g cc) steps 200000

pub edit_lacks_feed : (e : Asked) → IsGoodEdit e → Lacks 10 (edit_line e)
edit_lacks_feed e g = line_lacks_feed (Change e) g

pub words_by_edit_line : (e f : Asked) → IsGoodEdit e → IsGoodEdit f → edit_line e ≡ edit_line f → edit_words e ≡ edit_words f
words_by_edit_line e f g h k = same_words_by_line (edit_words e) (edit_words f) (has_first (Change e)) (has_first (Change f)) (words_solid (Change e) g) (words_solid (Change f) h) k

-- the bytes of an edit of a batch: the empty lines, the line, and what comes after it
pub listed_parts : (x : Listed) (s : List ℕ) → listed_bytes x ++ s ≡ replicate x.blanks 10 ++ (edit_line x.edit ++ 10 ∷ (ended_text (edited_text x.edit) ++ s))
listed_parts x s = grind (arith, common_steps) steps 200000

-- empty lines and a line of an edit are known from their bytes
pub same_line : (m n : ℕ) (e f : Asked) (s t : List ℕ) → IsGoodEdit e → IsGoodEdit f → replicate m 10 ++ (edit_line e ++ 10 ∷ s) ≡ replicate n 10 ++ (edit_line f ++ 10 ∷ t) → ((m ≡ n) × (edit_line e ≡ edit_line f)) × (s ≡ t)
same_line m n e f s t g h k = grind (arith, common_steps, edit_head e, edit_head f, edit_lacks_feed, same_blanks, split_at) steps 200000

same_listed : (x y : Listed) (s t : List ℕ) → IsGoodEdit x.edit → IsGoodEdit y.edit → listed_bytes x ++ s ≡ listed_bytes y ++ t → (x ≡ y) × (s ≡ t)
same_listed x y s t g h k = grind (arith, common_steps, listed_parts, same_edit, same_line, words_by_edit_line) steps 200000

-- the first edits are a beginning of the others, and the bytes after them begin with the rest of the others
pub record BeginsEdits (xs ys : List Listed) (s t : List ℕ) : Type 0 where
  pub later : List Listed
  pub are : ys ≡ xs ++ later
  pub left : s ≡ flat_map listed_bytes later ++ t

pub edits_begin : (xs ys : List Listed) (s t : List ℕ) → AreGoodEdits xs → AreGoodEdits ys → length xs ≤ length ys → flat_map listed_bytes xs ++ s ≡ flat_map listed_bytes ys ++ t → BeginsEdits xs ys s t
edits_begin [] ys s t g h l e = record { later = ys; are = refl; left = e }
edits_begin (x ∷ xs) [] s t g h l e = absurd (omega arith)
edits_begin (x ∷ xs) (y ∷ ys) s t g h l e =
    let first = same_listed x y (flat_map listed_bytes xs ++ s) (flat_map listed_bytes ys ++ t) g.0 h.0 (sym (append_assoc (listed_bytes x) (flat_map listed_bytes xs) s) ∙ e ∙ append_assoc (listed_bytes y) (flat_map listed_bytes ys) t) in
    let rest : BeginsEdits xs ys s t = edits_begin xs ys s t g.1 h.1 (omega arith) first.1 in
    record { later = rest.later; are = λ i. (sym first.0) i ∷ rest.are i; left = rest.left }

same_edits : (xs ys : List Listed) (s t : List ℕ) → AreGoodEdits xs → AreGoodEdits ys → length xs ≡ length ys → flat_map listed_bytes xs ++ s ≡ flat_map listed_bytes ys ++ t → (xs ≡ ys) × (s ≡ t)
same_edits xs ys s t g h l e = grind (arith, common_steps, append-nil, edits_begin xs ys s t g h (omega arith) e, length-append) steps 200000

question_tag : (q : Question) (l : List ℕ) → let t = tag (question_word q ∷ l ∷ []) in (t ≡ 118100) ⊎ ((t ≡ 97111) ⊎ ((t ≡ 99101) ⊎ (t ≡ 117114)))
question_tag q l = grind (arith, common_steps) steps 200000

-- a question is known from its word
pub same_question : (q r : Question) → question_word q ≡ question_word r → q ≡ r
same_question q r e = grind (arith, common_steps) steps 200000

pub same_command : (c d : Command) (s t : List ℕ) → IsGood c → IsGood d → command_words c ≡ command_words d → behind_line c ++ s ≡ behind_line d ++ t → (c ≡ d) × (s ≡ t)
same_command (Batch xs) (Batch ys) s t g h e k = grind (arith, common_steps, decimal_injective, same_edits, small_number) steps 200000
same_command Report Report s t g h e k = (refl, k)
same_command (Ask q l) (Ask r m) s t g h e k = (grind (arith, common_steps, same_question q r) steps 200000, k)
same_command (Change e) (Change f) s t g h w k = let both = same_edit e f s t g h w k in (ap Change both.0, both.1)
same_command (Change f) (Ask q l) s t g h e k = absurd (omega (arith, edit_tag f, question_tag q l, ap tag e))
same_command (Ask q l) (Change f) s t g h e k = absurd (omega (arith, edit_tag f, question_tag q l, ap tag e))
same_command (Change f) _ s t g h e k = absurd (omega (arith, edit_tag f, ap tag e))
same_command _ (Change f) s t g h e k = absurd (omega (arith, edit_tag f, ap tag e))
same_command (Ask q l) _ s t g h e k = absurd (omega (arith, question_tag q l, ap tag e))
same_command _ (Ask q l) s t g h e k = absurd (omega (arith, question_tag q l, ap tag e))
same_command _ _ s t g h e k = absurd (omega (arith, ap tag e))
