-- The answers of scripts are one.
use Rattle.std.proofs.lemmas.{Bool.{cases_lt}, List.Elements.{filter_map-append}, Option.{same_Some, slice_get_within}, Grind.{common_steps}}
use Rattle.std.proofs.Common.{◌≡◌, ◌≢◌, ◌⊎◌, ℕ, zero, suc, ◌<◌, ◌≤◌, Some, List, [], ◌∷◌, ◌++◌, length, map, take, refl, sym, ap, ◌∙◌, subst, inl, inr, arith, append_assoc, codes, slice_get}
use Rattle.std.proofs.Common.{append-nil, take_all}
use Rattle.mm_keep.specs.mm_store.{declared.edit.EditError.{EditError, TheVariants.{Memory}}, Language.{Answers.{IsEditError}, Batches.{IsBatchOf, IsRefusedAt}, Edits.{IsEditOf}, FilesView.{File}}}
use Rattle.mm_keep.specs.{mm_text.Language.Asked.{Asked}, mm_statement.Language.{Database.{Located, IsDatabase}, Laws.{FilesHaveOneDatabase}}, mm_frame.Language.Base.{base_of}}
use Rattle.mm_keep.specs.Language.{Laws.{IsOneList, OneFinding, OneListEach, OneListOfRuns, OneVerdict}, Runs.{AreRunsOf}, Sessions.{SessionView, HasAssertion, AreAxiomsOf, AreCitesOf, AreUsersOf}}
use Rattle.mm_report.specs.Language.Answers.{AreAnswers, IsAnswer, IsAnswerOf, IsBatchAnswer, IsEditAnswer, IsFound, IsRunAnswer, IsUnknown, batch_refusal_line, numbers_listed, told_line}
use Rattle.mm_report.{specs.Language.{Report.{names_of}, ScriptLaws.{AnswersBegin, OneScriptAnswer}, Scripting.{AreFirst}}, proofs.AnswerLemmas.{same_report}}
use Rattle.mm_script.specs.declared.command.Question.{Question, TheVariants.{Verdict, Axioms, Cites, Users}}
use Rattle.mm_script.specs.Language.{Script.{Command, Change, Batch, Report, Ask, EndsSo, Entry, command_of, commands_of, entries_bytes, HasEntries}, ReadingLaws.{DivisionsAgree, OneEnd, OneReading}}

-- what is known of all files, their edits, runs and labels
pub record AnswerLaws : Type 0 where
  pub reading : OneReading
  pub ends : OneEnd
  pub divisions : DivisionsAgree
  pub databases : FilesHaveOneDatabase
  pub findings : OneFinding
  pub verdicts : OneVerdict
  pub runs : OneListOfRuns
  pub lists : OneListEach
  pub edits : (edit : Asked) (files a b : List File) → IsEditOf edit files a → IsEditOf edit files b → a ≡ b
  pub refused : (edit : Asked) (files after : List File) (error : EditError) → IsEditOf edit files after → IsEditError edit files error → error ≡ Memory
  pub reason : (edit : Asked) (files : List File) (a b : EditError) → a ≢ Memory → b ≢ Memory → IsEditError edit files a → IsEditError edit files b → a ≡ b

same_listed : (word : List ℕ) (items others : List Located) (xs ys : List ℕ) → items ≡ others → xs ≡ ys → numbers_listed word (base_of items) xs ≡ numbers_listed word (base_of others) ys
same_listed word items others xs ys e f = λ i. numbers_listed word (base_of (e i)) (f i)

-- two answers and the sessions after them are the same
abbrev AreOne : List ℕ → List ℕ → SessionView → SessionView → Type 0
AreOne x y new copy = (x ≡ y) × (new ≡ copy)

-- ---- edits

same_ran : AnswerLaws → (s new copy : SessionView) (x y : List ℕ) → new.files ≡ copy.files → IsRunAnswer s new x → IsRunAnswer s copy y → AreOne x y new copy
same_ran laws s new copy x y files f g =
    let top : new.top ≡ copy.top = f.top ∙ sym g.top in
    let are : AreRunsOf s.files copy.files s.top f.runs = subst (λ (fs : List File). AreRunsOf s.files fs s.top f.runs) files f.are_runs in
    let runs : f.runs ≡ g.runs = laws.runs s.files copy.files s.top f.runs g.runs are g.are_runs in
    let items : f.are_runs.new ≡ g.are_runs.new =
    laws.databases copy.files s.top f.are_runs.new g.are_runs.new (subst (λ (fs : List File). IsDatabase fs s.top f.are_runs.new) files f.are_runs.are) g.are_runs.are in
    (f.answer_is ∙ same_listed (codes "ran") f.are_runs.new g.are_runs.new f.runs g.runs items runs ∙ sym g.answer_is, λ i. record { files = files i; top = top i })

same_edit : AnswerLaws → (s new copy : SessionView) (edit : Asked) (x y : List ℕ) → IsEditAnswer s edit x new → IsEditAnswer s edit y copy → AreOne x y new copy
same_edit laws s new copy edit x y (inl f) (inl g) = same_ran laws s new copy x y (laws.edits edit s.files new.files copy.files f.0 g.0) f.1 g.1
same_edit laws s new copy edit x y (inl f) (inr g) = absurd (g.told (laws.refused edit s.files new.files g.error f.0 g.refused))
same_edit laws s new copy edit x y (inr f) (inl g) = absurd (f.told (laws.refused edit s.files copy.files f.error g.0 f.refused))
same_edit laws s new copy edit x y (inr f) (inr g) = grind (arith, common_steps) steps 200000

-- several edits give one list of files
same_batch : AnswerLaws → (edits : List Asked) (files a b : List File) → IsBatchOf edits files a → IsBatchOf edits files b → a ≡ b
same_batch laws [] files a b f g = f ∙ sym g
same_batch laws (edit ∷ edits) files a b f g =
    let same : g.0 ≡ f.0 = laws.edits edit files g.0 f.0 g.1 f.1 in
    same_batch laws edits f.0 a b f.2 (subst (λ (fs : List File). IsBatchOf edits fs b) same g.2)

-- if more edits are accepted, the next one after the first of them is
accepted : AnswerLaws → (edits : List Asked) (files before after : List File) (n m : ℕ) (edit : Asked) → n < m → slice_get edits n ≡ Some edit → IsBatchOf (take n edits) files before → IsBatchOf (take m edits) files after
    → (next : List File) × IsEditOf edit before next
accepted laws [] files before after n m edit less there f g = absurd (let l : n < 0 = slice_get_within [] n edit there in omega arith)
accepted laws (e ∷ edits) files before after n zero edit less there f g = absurd (omega arith)
accepted laws (e ∷ edits) files before after zero (suc m) edit less there f g = grind (arith, common_steps, same_Some e edit there) steps 200000
accepted laws (e ∷ edits) files before after (suc n) (suc m) edit less there f g =
    let same : g.0 ≡ f.0 = laws.edits e files g.0 f.0 g.1 f.1 in
    accepted laws edits f.0 before after n m edit (omega arith) there f.2 (subst (λ (fs : List File). IsBatchOf (take m edits) fs after) same g.2)

-- so no edit before the refused one is refused
first_refused : AnswerLaws → (edits : List Asked) (files after : List File) (n m : ℕ) (error : EditError) → n < m → IsRefusedAt edits files n error → IsBatchOf (take m edits) files after → ⊥
first_refused laws edits files after n m error less f g =
    let w = accepted laws edits files f.before after n m f.edit less f.there f.accepted g in
    f.told (laws.refused f.edit f.before w.0 error w.1 f.refused)

all_refused : AnswerLaws → (edits : List Asked) (files after : List File) (n : ℕ) (error : EditError) → IsRefusedAt edits files n error → IsBatchOf edits files after → ⊥
all_refused laws edits files after n error f g =
    first_refused laws edits files after n (length edits) error (slice_get_within edits n f.edit f.there) f (subst (λ (es : List Asked). IsBatchOf es files after) (sym (take_all (length edits) edits (omega arith))) g)

same_refusal : AnswerLaws → (edits : List Asked) (files : List File) (n m : ℕ) (a b : EditError) → (f : IsRefusedAt edits files n a) (g : IsRefusedAt edits files m b) → batch_refusal_line n f.edit a ≡ batch_refusal_line m g.edit b
same_refusal laws edits files n m a b f g = by (cases_lt n m) (cases_lt m n)
  where
    on : n ≡ m → batch_refusal_line n f.edit a ≡ batch_refusal_line m g.edit b
    on e = grind (arith, same_Some f.edit g.edit (sym f.there ∙ ap (slice_get edits) e ∙ g.there), laws.reason, same_batch) steps 200000

    by : (n < m) ⊎ (m ≤ n) → (m < n) ⊎ (n ≤ m) → batch_refusal_line n f.edit a ≡ batch_refusal_line m g.edit b
    by (inl h) k = absurd (first_refused laws edits files g.before n m a h f g.accepted)
    by (inr h) (inl k) = absurd (first_refused laws edits files f.before m n b k g f.accepted)
    by (inr h) (inr k) = on (omega arith)

same_batch_answer : AnswerLaws → (s new copy : SessionView) (edits : List Asked) (x y : List ℕ) → IsBatchAnswer s edits x new → IsBatchAnswer s edits y copy → AreOne x y new copy
same_batch_answer laws s new copy edits x y (inl f) (inl g) = same_ran laws s new copy x y (same_batch laws edits s.files new.files copy.files f.0 g.0) f.1 g.1
same_batch_answer laws s new copy edits x y (inl f) (inr g) = absurd (all_refused laws edits s.files new.files g.n g.error g.refused f.0)
same_batch_answer laws s new copy edits x y (inr f) (inl g) = absurd (all_refused laws edits s.files copy.files f.n f.error f.refused g.0)
same_batch_answer laws s new copy edits x y (inr f) (inr g) =
    (f.answer_is ∙ same_refusal laws edits s.files f.n g.n f.error g.error f.refused g.refused ∙ sym g.answer_is, f.unchanged ∙ sym g.unchanged)

-- ---- questions

-- an assertion of which something is answered is there
asked_there : (s : SessionView) (question : Question) (label x : List ℕ) → IsAnswerOf s question label x → HasAssertion s label
asked_there s Verdict label x f = (f.1.0, f.1.1, (f.1.2, f.1.3))
asked_there s Axioms label x f = (f.1.0, f.1.1, (f.1.2.0, f.1.2.1))
asked_there s Cites label x f = (f.1.0, f.1.1, (f.1.2.0, f.1.2.1))
asked_there s Users label x f = (f.1.0, f.1.1, (f.1.2.0, f.1.2.1))

-- the items in a relation to the assertion of a label, if they are one list
same_found : AnswerLaws → (s : SessionView) (label : List ℕ) (AreSo : SessionView → List ℕ → List ℕ → Type 0) (x y : List ℕ) → IsOneList AreSo → IsFound s (AreSo s label) x → IsFound s (AreSo s label) y → x ≡ y
same_found laws s label AreSo x y one f g =
    let items : f.2.0 ≡ g.2.0 = laws.databases s.files s.top f.2.0 g.2.0 f.2.1 g.2.1 in
    f.2.2 ∙ same_listed (codes "found") f.2.0 g.2.0 f.0 g.0 items (one label s f.0 g.0 f.1 g.1) ∙ sym g.2.2

same_asked : AnswerLaws → (s : SessionView) (question : Question) (label x y : List ℕ) → IsAnswerOf s question label x → IsAnswerOf s question label y → x ≡ y
same_asked laws s Verdict label x y f g = f.2 ∙ ap (told_line (names_of s.files) label) (laws.verdicts label s f.0 g.0 f.1 g.1) ∙ sym g.2
same_asked laws s Axioms label x y f g = same_found laws s label AreAxiomsOf x y laws.lists.2 f g
same_asked laws s Cites label x y f g = same_found laws s label AreCitesOf x y laws.lists.0 f g
same_asked laws s Users label x y f g = same_found laws s label AreUsersOf x y laws.lists.1 f g

same_question : AnswerLaws → (s : SessionView) (question : Question) (label x y : List ℕ) → IsUnknown s label x ⊎ IsAnswerOf s question label x → IsUnknown s label y ⊎ IsAnswerOf s question label y → x ≡ y
same_question laws s question label x y (inl f) (inl g) = f.answer_is ∙ sym g.answer_is
same_question laws s question label x y (inl f) (inr g) = absurd (f.none (asked_there s question label y g))
same_question laws s question label x y (inr f) (inl g) = absurd (g.none (asked_there s question label x f))
same_question laws s question label x y (inr f) (inr g) = same_asked laws s question label x y f g

-- ---- answers

same_answer : AnswerLaws → (s new copy : SessionView) (command : Command) (x y : List ℕ) → IsAnswer s command x new → IsAnswer s command y copy → AreOne x y new copy
same_answer laws s new copy (Change edit) x y f g = same_edit laws s new copy edit x y f g
same_answer laws s new copy (Batch edits) x y f g = same_batch_answer laws s new copy (map (λ listed. listed.edit) edits) x y f g
same_answer laws s new copy Report x y f g = (same_report laws.databases laws.findings s x y f.0 g.0, f.1 ∙ sym g.1)
same_answer laws s new copy (Ask question label) x y f g = (same_question laws s question label x y f.0 g.0, f.1 ∙ sym g.1)

same_answers : AnswerLaws → (s new copy : SessionView) (commands : List Command) (x y : List ℕ) → AreAnswers s commands x new → AreAnswers s commands y copy → AreOne x y new copy
same_answers laws s new copy [] x y f g = (f.0 ∙ sym g.0, f.1 ∙ sym g.1)
same_answers laws s new copy (command ∷ commands) x y f g =
    let first = same_answer laws s f.1 g.1 command f.0 g.0 f.3 g.3 in
    let rest = same_answers laws g.1 new copy commands f.2 g.2 (subst (λ (next : SessionView). AreAnswers next commands f.2 new) first.1 f.4) g.4 in
    (f.5 ∙ (λ i. first.0 i ++ rest.0 i) ∙ sym g.5, rest.1)

pub same_script : AnswerLaws → OneScriptAnswer
same_script laws s new copy script x y end ended f g =
    let read = laws.reading script f.entries g.entries f.rest g.rest f.reading g.reading in
    let all = same_answers laws s new copy (commands_of g.entries) x y (subst (λ (es : List Entry). AreAnswers s (commands_of es) x new) read.0 f.answered) g.answered in
    (all.0, all.1, laws.ends g.rest end ended (subst (λ (rest : List ℕ). EndsSo rest end) read.1 f.ends) g.ends)

-- ---- the answers to the first commands

-- answers to commands and more, in two parts
record AreInParts (s : SessionView) (commands more : List Command) (all : List ℕ) (final : SessionView) : Type 0 where
  first : List ℕ
  between : SessionView
  later : List ℕ
  answered : AreAnswers s commands first between
  are : all ≡ first ++ later

in_parts : (s : SessionView) (commands more : List Command) (all : List ℕ) (final : SessionView) → AreAnswers s (commands ++ more) all final → AreInParts s commands more all final
in_parts s [] more all final f = record { first = []; between = s; later = all; answered = (refl, refl); are = refl }
in_parts s (command ∷ commands) more all final f =
    let r : AreInParts f.1 commands more f.2 final = in_parts f.1 commands more f.2 final f.4 in
    record {
      first = f.0 ++ r.first;
      between = r.between;
      later = r.later;
      answered = (f.0, f.1, r.first, f.3, r.answered, refl);
      are = f.5 ∙ ap (λ (w : List ℕ). f.0 ++ w) r.are ∙ sym (append_assoc f.0 r.first r.later);
    }

divided_of : (bytes more : List ℕ) (entries : List Entry) (rest : List ℕ) → AreFirst (Some more) bytes entries rest → (left : List ℕ) × HasEntries (bytes ++ more) entries left
divided_of bytes more entries rest (inl r) = (rest ++ more, record { good = r.good; joined = inl (ap (λ (w : List ℕ). w ++ more) r.joined ∙ append_assoc (entries_bytes entries) rest more) })
divided_of bytes more entries rest (inr d) = (rest, subst (λ (w : List ℕ). HasEntries w entries rest) (sym (append-nil bytes) ∙ ap (λ (w : List ℕ). bytes ++ w) (sym d.0)) d.1)

begin_by : AnswerLaws → (s new final : SessionView) (commands more : List Command) (answers all : List ℕ) → AreAnswers s commands answers new → AreInParts s commands more all final → (later : List ℕ) × (all ≡ answers ++ later)
begin_by laws s new final commands more answers all f parts =
    (parts.later, parts.are ∙ ap (λ (first : List ℕ). first ++ parts.later) (sym (same_answers laws s new parts.between commands answers parts.first f parts.answered).0))

pub answers_begin : AnswerLaws → AnswersBegin
answers_begin laws s new final bytes more answers all entries rest end first f g = on (divided_of bytes more entries rest first)
  where
    by : (later : List Entry) → entries ++ later ≡ g.entries → (later : List ℕ) × (all ≡ answers ++ later)
    by later e =
        let commands : commands_of g.entries ≡ commands_of entries ++ commands_of later = ap commands_of (sym e) ∙ filter_map-append command_of entries later in
        begin_by laws s new final (commands_of entries) (commands_of later) answers all f
        (in_parts s (commands_of entries) (commands_of later) all final (subst (λ (cs : List Command). AreAnswers s cs all final) commands g.answered))

    on : (left : List ℕ) × HasEntries (bytes ++ more) entries left → (later : List ℕ) × (all ≡ answers ++ later)
    on d = let w = laws.divisions (bytes ++ more) entries g.entries d.0 g.rest d.1 g.reading.divided (g.reading.longest entries d.0 d.1) in by w.0 w.1
