-- Each script has answers, in sessions as they are.
use Rattle.std.proofs.Common.{◌≡◌, ◌≢◌, ◌⊎◌, ◌<◌, ℕ, zero, suc, Some, List, [], ◌∷◌, ◌++◌, length, refl, sym, ap, ◌∙◌, subst, inl, inr, arith, codes, map, slice_get}
use Rattle.std.proofs.lemmas.Option.{none-some, same_Some}
use Rattle.mm_keep.specs.mm_store.{declared.edit.EditError.{EditError, TheVariants.{Memory}}, Language.{Answers.{IsEditError}, Batches.{IsBatchOf, IsRefusedAt}, Edits.{IsEditOf}}}
use Rattle.mm_keep.specs.{mm_store.Language.{FilesView.{File, file_number}, Holding.{HoldOneEach}}, mm_text.Language.Asked.{Asked}, mm_statement.Language.Laws.{DatabasesAreThere}}
use Rattle.mm_keep.specs.{mm_frame.Language.Base.{base_of}, Language.Laws.{HasListOf, HasListOfRuns, HasListEach, ItemsHaveFindings, LabelsAreDecided}}
use Rattle.mm_keep.specs.Language.{Sessions.{SessionView, HasAssertion, AreAxiomsOf, AreCitesOf, AreUsersOf}, Told.{Told, IsRightlyTold}}
use Rattle.mm_report.specs.Language.Answers.{AreAnswers, IsAnswer, IsAnswerOf, IsFound, IsRunAnswer, IsUnknown, IsVerdictAnswer, batch_refusal_line, numbers_listed, refusal_line, told_line}
use Rattle.mm_report.{specs.Language.{Report.{names_of, report, IsReport}, ScriptLaws.{HasScriptAnswer, IsWholeSession}}, proofs.WrittenLemmas.{as_many}}
use Rattle.mm_script.specs.{declared.command.Question.{Question, TheVariants.{Verdict, Axioms, Cites, Users}}, Language.Script.{Command, Change, Batch, Report, Ask, Listed, commands_of}}
use Rattle.mm_script.specs.Language.ReadingLaws.{HasReading}

-- what is known of all files and sessions
pub record HavingLaws : Type 0 where
  pub edits : (edit : Asked) (files : List File) → ((after : List File) × IsEditOf edit files after) ⊎ ((error : EditError) × (error ≢ Memory) × IsEditError edit files error)
  pub numbers : (edit : Asked) (files after : List File) (name : List ℕ) → IsEditOf edit files after → file_number after name ≡ file_number files name
  pub units : (edit : Asked) (files after : List File) → HoldOneEach files → IsEditOf edit files after → HoldOneEach after
  pub databases : DatabasesAreThere
  pub findings : ItemsHaveFindings
  pub runs : HasListOfRuns
  pub decided : LabelsAreDecided
  pub lists : HasListEach
  pub reading : HasReading

-- ---- what is reported of each item

-- a list with something at each number
pub record Chosen (P : ℕ → Told → Type 0) (count : ℕ) : Type 0 where
  all : List Told
  long : length all ≡ count
  each : (k : ℕ) (one : Told) → slice_get all k ≡ Some one → P k one

chosen : (P : ℕ → Told → Type 0) (count : ℕ) → ((k : ℕ) → k < count → (one : Told) × P k one) → Chosen P count
chosen P zero f = record { all = []; long = refl; each = λ k one e. absurd (none-some one e) }
chosen P (suc count) f = by (f 0 (omega arith)) (chosen (λ k. P (suc k)) count (λ k l. f (suc k) (omega (arith, l))))
  where
    by : (one : Told) × P 0 one → Chosen (λ k. P (suc k)) count → Chosen P (suc count)
    by first rest = record { all = first.0 ∷ rest.all; long = ap suc rest.long; each = each }
      where
        each : (k : ℕ) (one : Told) → slice_get (first.0 ∷ rest.all) k ≡ Some one → P k one
        each zero one e = subst (P 0) (same_Some first.0 one e) first.1
        each (suc k) one e = rest.each k one e

-- ---- one command

abbrev edits_of : List Listed → List Asked
edits_of listed = map (λ (one : Listed). one.edit) listed

-- a command is answered
pub record Answered (session : SessionView) (command : Command) : Type 0 where
  answer : List ℕ
  new : SessionView
  is : IsAnswer session command answer new
  whole : IsWholeSession new

module _ (laws : HavingLaws) (session : SessionView) (whole : IsWholeSession session) where
  -- the session with other files
  abbrev with_files : List File → SessionView
  with_files files = record { files = files; top = session.top }

  -- edits are done, and what is run is reported
  record Ran (after : List File) : Type 0 where
    new_whole : IsWholeSession (with_files after)
    answer : List ℕ
    ran : IsRunAnswer session (with_files after) answer

  has_ran : (after : List File) → HoldOneEach after → ((name : List ℕ) → file_number after name ≡ file_number session.files name) → Ran after
  has_ran after units numbers =
      let had = (laws.databases session.files session.top whole.units).0 whole.items in
      let items = (laws.databases after session.top units).1 (λ e. had (sym (numbers session.top) ∙ e)) in
      let runs = laws.runs session.files after session.top whole.items.0 items.0 whole.items.1 items.1 in
      record {
        new_whole = record { units = units; items = items };
        answer = numbers_listed (codes "ran") (base_of runs.1.new) runs.0;
        ran = record { top = refl; runs = runs.0; are_runs = runs.1; answer_is = refl };
      }

  edit_answered : (edit : Asked) → Answered session (Change edit)
  edit_answered edit = elim (laws.edits edit session.files) [
    | inl e ↦ (let r = has_ran e.0 (laws.units edit session.files e.0 whole.units e.1) (λ name. laws.numbers edit session.files e.0 name e.1) in
        record { answer = r.answer; new = with_files e.0; is = inl (e.1, r.ran); whole = r.new_whole })
    | inr e ↦ record {
      answer = refusal_line edit e.0;
      new = session;
      is = inr (record { error = e.0; refused = e.2; told = e.1; unchanged = refl; answer_is = refl });
      whole = whole;
    }
  ]

  -- edits one after another, all of them or up to the first that is refused
  record Done (edits : List Asked) (files : List File) : Type 0 where
    after : List File
    batch : IsBatchOf edits files after
    units : HoldOneEach after
    numbers : (name : List ℕ) → file_number after name ≡ file_number files name

  edits_done : (edits : List Asked) (files : List File) → HoldOneEach files → Done edits files ⊎ ((n : ℕ) × (error : EditError) × IsRefusedAt edits files n error)
  edits_done [] files units = inl (record { after = files; batch = refl; units = units; numbers = λ name. refl })
  edits_done (edit ∷ edits) files units = elim (laws.edits edit files) [
    | inl e ↦ elim (edits_done edits e.0 (laws.units edit files e.0 units e.1)) [
      | inl d ↦ inl (record { after = d.after; batch = (e.0, e.1, d.batch); units = d.units; numbers = λ name. d.numbers name ∙ laws.numbers edit files e.0 name e.1 })
      | inr r ↦ inr (suc r.0, r.1, record { before = r.2.before; accepted = (e.0, e.1, r.2.accepted); edit = r.2.edit; there = r.2.there; refused = r.2.refused; told = r.2.told })
    ]
    | inr e ↦ inr (0, e.0, record { before = files; accepted = refl; edit = edit; there = refl; refused = e.2; told = e.1 })
  ]

  batch_answered : (listed : List Listed) → Answered session (Batch listed)
  batch_answered listed = elim (edits_done (edits_of listed) session.files whole.units) [
    | inl d ↦ (let r = has_ran d.after d.units d.numbers in record { answer = r.answer; new = with_files d.after; is = inl (d.batch, r.ran); whole = r.new_whole })
    | inr f ↦ record {
      answer = batch_refusal_line f.0 f.2.edit f.1;
      new = session;
      is = inr (record { n = f.0; error = f.1; refused = f.2; unchanged = refl; answer_is = refl });
      whole = whole;
    }
  ]

  -- ---- what leaves the session as it is

  reported : (bytes : List ℕ) × IsReport session bytes
  reported =
      let items = whole.items.0 in
      let c = chosen (IsRightlyTold session.files items) (length items) (laws.findings session.files session.top items whole.items.1) in
      (report (names_of session.files) (base_of items) c.all, record { items = items; of_files = whole.items.1; all = c.all; are_told = record { count = c.long; each = c.each }; bytes_are = refl })

  -- an assertion has the label, or none has, and the answer says so
  by_label : (label : List ℕ) (P : List ℕ → Type 0) → (HasAssertion session label → (answer : List ℕ) × P answer) → (answer : List ℕ) × (IsUnknown session label answer ⊎ P answer)
  by_label label P f = elim (laws.decided session label whole.items) [
    | inl has ↦ (let a = f has in (a.0, inr a.1))
    | inr none ↦ (codes "refused K01\n", inl (record { none = none; answer_is = refl }))
  ]

  verdict_there : (label : List ℕ) → HasAssertion session label → (answer : List ℕ) × IsVerdictAnswer session label answer
  verdict_there label has =
      let within : has.2.0 < length has.0 = subst (λ (n : ℕ). has.2.0 < n) (as_many has.0) has.2.1.within in
      let told = laws.findings session.files session.top has.0 has.1 has.2.0 within in
      (told_line (names_of session.files) label told.0, (told.0, (has.0, has.1, has.2.0, has.2.1, told.1), refl))

  list_there : (AreSo : SessionView → List ℕ → List ℕ → Type 0) → HasListOf AreSo → (label : List ℕ) → HasAssertion session label → (answer : List ℕ) × IsFound session (AreSo session label) answer
  list_there AreSo lists label has =
      let numbers = lists session label has in
      (numbers_listed (codes "found") (base_of has.0) numbers.0, (numbers.0, numbers.1, (has.0, has.1, refl)))

  answer_there : (question : Question) (label : List ℕ) → HasAssertion session label → (answer : List ℕ) × IsAnswerOf session question label answer
  answer_there Verdict = verdict_there
  answer_there Axioms = list_there AreAxiomsOf laws.lists.2
  answer_there Cites = list_there AreCitesOf laws.lists.0
  answer_there Users = list_there AreUsersOf laws.lists.1

  pub answered : (command : Command) → Answered session command
  answered (Change edit) = edit_answered edit
  answered (Batch listed) = batch_answered listed
  answered Report = record { answer = reported.0; new = session; is = (reported.1, refl); whole = whole }
  answered (Ask question label) =
      let a = by_label label (IsAnswerOf session question label) (answer_there question label) in
      record { answer = a.0; new = session; is = (a.1, refl); whole = whole }

-- ---- a script

record AllAnswered (session : SessionView) (commands : List Command) : Type 0 where
  answers : List ℕ
  new : SessionView
  are : AreAnswers session commands answers new
  whole : IsWholeSession new

all_answered : HavingLaws → (session : SessionView) (commands : List Command) → IsWholeSession session → AllAnswered session commands
all_answered laws session [] whole = record { answers = []; new = session; are = (refl, refl); whole = whole }
all_answered laws session (command ∷ commands) whole =
    let a = answered laws session whole command in
    let r = all_answered laws a.new commands a.whole in
    record { answers = a.answer ++ r.answers; new = r.new; are = (a.answer, a.new, r.answers, a.is, r.are, refl); whole = r.whole }

pub has_script_answer : HavingLaws → HasScriptAnswer
has_script_answer laws session script whole =
    let r = laws.reading script in
    let a = all_answered laws session (commands_of r.0) whole in
    record {
      answers = a.answers;
      new = a.new;
      end = r.2;
      is = record { entries = r.0; rest = r.1; reading = r.3.reading; answered = a.are; ends = r.3.ends };
      whole = a.whole;
    }
