-- A script that begins with a line, and with no whole command.
use Rattle.std.proofs.Common.{[], ◌≡◌, ◌≢◌, ℕ, zero, suc, ◌+◌, ◌-◌, ◌≤◌, Some, List, ◌∷◌, ◌++◌, length, length-append, replicate, refl, sym, ap, ◌∙◌, subst, arith, append_assoc, codes, decimal}
use Rattle.std.{proofs.lemmas.{Grind.{common_steps}, Fmt.{decimal_injective}, List.{append-nil, length-replicate}, Option.{same_Some, none-some}}, specs.List.{join_with_byte}}
use Rattle.mm_text.specs.Language.Asked.{Asked, Insert, Replace, edited_text}
use Rattle.mm_script.specs.{Code.Stops.{HasTextOf}, Language.Commands.{StopsSo}}
use Rattle.mm_script.specs.Language.Script.{Command, Change, Blank, Given, CutShort, BadLine, EndsInLine, IsCutShort, IsGood, IsGoodEdit, IsNumber, behind_line, command_bytes, edit_bytes, edit_line}
use Rattle.mm_script.{specs.Language.Script.{edit_words, ended_text, line_of, command_words}, proofs.SplitLemmas.{Lacks, not_inside, split_at}}
use Rattle.mm_script.proofs.{WordLemmas.{edit_head, has_first, line_lacks_feed, same_words_by_line, small_number, tag, words_solid}, ScriptLemmas.{NoEntry, NoLast, entry_ends, none_is_read}}

-- ---- bytes of one line

pub line_no_entry : (line : List ℕ) → Lacks 10 line → NoEntry line
line_no_entry line l x left g e = let f = entry_ends x in not_inside 10 line f.0 left l (e ∙ ap (λ (w : List ℕ). w ++ left) f.1 ∙ append_assoc f.0 (10 ∷ []) left)

pub line_no_last : (line : List ℕ) → Lacks 10 line → ((c : Command) → IsGood c → EndsInLine c → line ≡ line_of c → [] ≡ behind_line c → ⊥) → NoLast line
line_no_last line l none c g ends e = let both = split_at 10 line (line_of c) [] (behind_line c) l (line_lacks_feed c g) e in none c g ends both.0 both.1

-- ---- a line, its line feed, and more

-- no command of this line is whole
abbrev pub LacksWhole : List ℕ → List ℕ → Type 0
LacksWhole line more = (c : Command) (left : List ℕ) → IsGood c → line ≡ line_of c → more ≡ behind_line c ++ left → ⊥

-- none is whole but for its last line feed
abbrev pub LacksLast : List ℕ → List ℕ → Type 0
LacksLast line more = (c : Command) → IsGood c → EndsInLine c → line ≡ line_of c → more ++ 10 ∷ [] ≡ behind_line c → ⊥

pub no_entry_by : (line more : List ℕ) → Lacks 10 line → line ≢ [] → LacksWhole line more → NoEntry (line ++ 10 ∷ more)
no_entry_by line more l some none Blank left g e = let both = split_at 10 line [] more left l tt e in some both.0
no_entry_by line more l some none (Given c) left g e = let both = split_at 10 line (line_of c) more (behind_line c ++ left) l (line_lacks_feed c g) (e ∙ append_assoc (line_of c) (10 ∷ behind_line c) left) in none c left g both.0 both.1

pub no_last_by : (line more : List ℕ) → Lacks 10 line → LacksLast line more → NoLast (line ++ 10 ∷ more)
no_last_by line more l none c g ends e = let both = split_at 10 line (line_of c) (more ++ 10 ∷ []) (behind_line c) l (line_lacks_feed c g) (sym (append_assoc line (10 ∷ more) (10 ∷ [])) ∙ e) in none c g ends both.0 both.1

pub some_with : (line more : List ℕ) → line ++ 10 ∷ more ≢ []
some_with [] more e = cc
some_with (x ∷ line) more e = cc

pub stops_cut : (bytes : List ℕ) → NoEntry bytes → NoLast bytes → IsCutShort bytes → StopsSo bytes CutShort
stops_cut bytes none last cut = record { reading = none_is_read bytes none last; ends = cut }

-- bytes with which no entry begins, whatever comes in a line after them
pub stops_bad : (bytes : List ℕ) → bytes ≢ [] → NoEntry bytes → ((missing : List ℕ) → NoEntry (bytes ++ 10 ∷ missing)) → StopsSo bytes BadLine
stops_bad bytes some none later = record {
  reading = none_is_read bytes none (λ c g ends e. begun c [] g e);
  ends = (some, λ cut. begun cut.command cut.missing cut.good cut.is);
}
  where
    begun : (c : Command) (missing : List ℕ) → IsGood c → bytes ++ 10 ∷ missing ≡ command_bytes c → ⊥
    begun c missing g e = later missing (Given c) [] g (e ∙ sym (append-nil (command_bytes c)))

-- the same with a line before its line feed
pub stops_bad_line : (line more : List ℕ) → NoEntry (line ++ 10 ∷ more) → ((missing : List ℕ) → NoEntry (line ++ 10 ∷ (more ++ 10 ∷ missing)))
    → StopsSo (line ++ 10 ∷ more) BadLine
stops_bad_line line more none later = stops_bad (line ++ 10 ∷ more) (some_with line more) none
    (λ missing. subst NoEntry (sym (append_assoc line (10 ∷ more) (10 ∷ missing))) (later missing))

-- ---- the lines of edits with a text

pub edit_line_some : (e : Asked) → edit_line e ≢ []
edit_line_some e k = let p = edit_head e in let w : p.0 ∷ p.1 ≡ [] = sym p.2 ∙ k in cc

-- what comes after the line of a command is a text of this many bytes
pub record HasTextBehind (c : Command) (count : ℕ) : Type 0 where
  pub text : List ℕ
  pub is_behind : behind_line c ≡ text ++ 10 ∷ []
  pub count_is : length text ≡ count
  pub not_in_line : EndsInLine c → ⊥

its_count : (text : List ℕ) (t : List ℕ) (count : ℕ) → Some t ≡ Some text → length text ≡ count → length t ≡ count
its_count text t count e l = ap length (same_Some t text e) ∙ l

text_behind : (e : Asked) (count : ℕ) → HasTextOf e count → (c : Command) → IsGood c → edit_words e ≡ command_words c → HasTextBehind c count
text_behind e count h c g h1 = grind (arith, common_steps, its_count, none-some, tag, decimal_injective, small_number) steps 200000

pub text_of_line : (e : Asked) (count : ℕ) → HasTextOf e count → (c : Command) → IsGood c → edit_line e ≡ line_of c → HasTextBehind c count
text_of_line e count h c g k = text_behind e count h c g (same_words_by_line (edit_words e) (command_words c) (has_first (Change e)) (has_first c) (words_solid (Change e) h.good) (words_solid c g) k)

-- an edit of the same line with another text
pub record WithText (e : Asked) (text : List ℕ) : Type 0 where
  pub other : Asked
  pub good : IsGoodEdit other
  pub same_line : edit_line e ≡ edit_line other
  pub is_text : edited_text other ≡ Some text

pub with_text : (e : Asked) (count : ℕ) (text : List ℕ) → HasTextOf e count → length text ≡ count → WithText e text
with_text (Insert f a t) count text h l =
    let long : length t ≡ length text = its_count h.text t count h.is_text h.count_is ∙ sym l in
    record { other = Insert f a text; good = (h.good.0, h.good.1, subst IsNumber long h.good.2); is_text = refl; same_line = ap (λ (n : ℕ). join_with_byte 32 (codes "insert" ∷ f ∷ decimal a ∷ decimal n ∷ [])) long }
with_text (Replace f a t) count text h l =
    let long : length t ≡ length text = its_count h.text t count h.is_text h.count_is ∙ sym l in
    record { other = Replace f a text; good = (h.good.0, h.good.1, subst IsNumber long h.good.2); is_text = refl; same_line = ap (λ (n : ℕ). join_with_byte 32 (codes "replace" ∷ f ∷ decimal a ∷ decimal n ∷ [])) long }
with_text _ count text h l = absurd (none-some h.text h.is_text)

-- a text that is not all there, and other bytes after a text

pub too_long : (part text left : List ℕ) (count : ℕ) → part ≡ (text ++ 10 ∷ []) ++ left → length text ≡ count → length part ≤ count → ⊥
too_long part text left count e l h = grind (arith, common_steps, length-append (text ++ 10 ∷ []) left, length-append text (10 ∷ [])) steps 200000

-- line feeds by which a text that is not all there is filled up
abbrev filling : List ℕ → ℕ → List ℕ
filling part count = replicate (count - length part) 10

feeds_turn : (n : ℕ) → ◌≡◌ {A = List ℕ} (10 ∷ replicate n 10) (replicate n 10 ++ 10 ∷ [])
feeds_turn zero = refl
feeds_turn (suc n) = ap (λ (bytes : List ℕ). 10 ∷ bytes) (feeds_turn n)

-- with a line feed after them the bytes begin an edit
pub record IsBegun (bytes : List ℕ) : Type 0 where
  pub edit : Asked
  pub good : IsGoodEdit edit
  pub missing : List ℕ
  pub is : bytes ++ 10 ∷ missing ≡ edit_bytes edit

pub line_is_begun : (edit : Asked) → IsGoodEdit edit → IsBegun (edit_line edit)
line_is_begun edit good = record { edit = edit; good = good; missing = ended_text (edited_text edit); is = refl }

pub text_is_begun : (edit : Asked) (count : ℕ) (part : List ℕ) → HasTextOf edit count → length part ≤ count → IsBegun (edit_line edit ++ 10 ∷ part)
text_is_begun edit count part has short = with (with_text edit count (part ++ filling part count) has long)
  where
    long : length (part ++ filling part count) ≡ count
    long = length-append part (filling part count) ∙ ap (λ (n : ℕ). length part + n) (length-replicate (count - length part) 10) ∙ omega (arith, short)

    filled : part ++ 10 ∷ filling part count ≡ (part ++ filling part count) ++ 10 ∷ []
    filled = ap (λ (bytes : List ℕ). part ++ bytes) (feeds_turn (count - length part)) ∙ sym (append_assoc part (filling part count) (10 ∷ []))

    with : WithText edit (part ++ filling part count) → IsBegun (edit_line edit ++ 10 ∷ part)
    with w = record {
      edit = w.other;
      good = w.good;
      missing = filling part count;
      is = append_assoc (edit_line edit) (10 ∷ part) (10 ∷ filling part count) ∙ ap (λ (line : List ℕ). line ++ 10 ∷ (part ++ 10 ∷ filling part count)) w.same_line
          ∙ ap (λ (bytes : List ℕ). edit_line w.other ++ 10 ∷ bytes) (filled ∙ sym (ap ended_text w.is_text));
    }
