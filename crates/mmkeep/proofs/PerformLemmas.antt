-- What a command has done, by what its parts have done.
use Rattle.std.proofs.Common.{arith, ◌≡◌, ◌⊎◌, ◌↔◌, ◌∙◌, ℕ, Bool, true, false, IsTrue, List, [], length, Option, None, Some, Result, Ok, Err, IfErr, IfOk, inl, inr, sym, subst}
use Rattle.std.{proofs.{lemmas.{Grind.{common_steps}, Bool.{false≢true}, List.{length-map}}, KnownBytes.{Keeps-refl}}, specs.Io.{KnownBytes.{Appends, Keeps, append_known}, Buffered.{writer_contents}}}
use Rattle.std.specs.declared.io.buffered.BufWriter.{BufWriter}
use Rattle.mm_report.specs.mm_keep.{declared.tally.Tally.{Tally}, Language.{Findings.{counted}, Sessions.{SessionView, HasAssertion, IsTally}, Told.{Told, counts}}}
use Rattle.mm_report.specs.{mm_script.{declared.{error.ScriptError.{ScriptError}, stream.Writing.{Writing}}, Language.Stream.{AppendsPart, gone_out, written}}, Language.Answers.{IsAnswer}}
use Rattle.mm_report.specs.{Language.{Laws.{CleanIsDerived}, Report.{lines, names_of}}, mm_statement.Language.{Database.{Located}, Item.{Said}}, mm_frame.Language.Base.{base_of}}
use Rattle.mmkeep.specs.declared.{arguments.Invocation.{Invocation}, outcome.Outcome.{Outcome, TheVariants.{Clean, Findings}}}
use Rattle.mmkeep.specs.Language.Performing.{AllInOrder, GoesOut, IsCutOff, IsDone, IsJudged, ListsAxioms, StopsAxioms}
use Rattle.mm_report.specs.mm_script.declared.error.ScriptError.TheVariants as errors
use Rattle.mm_report.specs.mm_script.Language.Script as script
use Rattle.mm_report.specs.mm_script.declared.command.Question.TheVariants as questions

-- the axioms of an assertion that is there are listed
pub lists_there : (session : SessionView) (label word : List ℕ) (before after : Option (List ℕ)) → word ≡ label
    → ((answer : List ℕ) × IsAnswer session (script.Ask questions.Axioms word) answer session × Appends before after answer)
    → HasAssertion session word → ListsAxioms session label before after Clean
lists_there session label word before after same (answer, is, out) there =
    rw (← same) (record { answer = answer; is_answer = is; out = out; is_by_label = there })

-- why they are not
pub stops_axioms : {W : Type 0} (session : SessionView) (label word : List ℕ) (contents : W → Option (List ℕ)) (old new : Writing W) (error : ScriptError)
    → word ≡ label → (error ≡ errors.Write) ⊎ (error ≡ errors.Memory)
    → (error ≡ errors.Write → (answer : List ℕ) × IsAnswer session (script.Ask questions.Axioms word) answer session × AppendsPart (written contents old) (written contents new) answer)
    → (error ≡ errors.Memory → new ≡ old) → (error ≡ errors.Memory → ¬ HasAssertion session word → ⊥)
    → StopsAxioms session label (written contents old) (written contents new) error
stops_axioms session label word contents old new error same (inl e) write memory known =
    let (answer, is, part) = write e in rw (← same, e) (record { answer = answer; is_answer = is; out = part })
stops_axioms session label word contents old new error same (inr e) write memory known = rw (← same, e, memory e) (Keeps-refl (written contents old), known e)

-- what an error says says what else follows from it
pub on_error : {T E : Type 0} {P Q : E → Type 0} (result : Result T E) → ((error : E) → P error → Q error) → IfErr result P → IfErr result Q
on_error (Ok value) more p = tt
on_error (Err error) more p = more error p

-- a session is judged by its tally
module _ (session : SessionView) (tally : Tally) (clean : Bool) (are : IsTally session (counted tally)) where
  abbrev KnowsLines : Type 0
  KnowsLines = (names : List (List ℕ)) (items : List Said) (all : List Told) → length all ≡ length items → counted tally ≡ counts all → IsTrue clean ↔ (lines names items all ≡ [])

  long : length are.all ≡ length (base_of are.items)
  long = are.are_told.count ∙ sym (length-map are.items (λ (item : Located). item.said))

  pub judged_clean : KnowsLines → clean ≡ true → IsJudged session Clean
  judged_clean knows is =
      record { items = are.items; of_files = are.of_files; all = are.all; are_told = are.are_told; is = (knows (names_of session.files) (base_of are.items) are.all long are.is).0 is }

  pub judged_else : KnowsLines → clean ≡ false → IsJudged session Findings
  judged_else knows is = record {
    items = are.items;
    of_files = are.of_files;
    all = are.all;
    are_told = are.are_told;
    is = λ none. (let so : clean ≡ true = (knows (names_of session.files) (base_of are.items) are.all long are.is).1 none in false≢true (sym is ∙ so));
  }

-- a session that is judged clean is in order
pub clean_in_order : CleanIsDerived → (session : SessionView) (outcome : Outcome) → IsJudged session outcome → outcome ≡ Clean → AllInOrder session
clean_in_order law session outcome judged clean =
    let is : IsJudged session Clean = subst (IsJudged session) clean judged in
    record { items = is.items; of_files = is.of_files; each = law session is.items is.all is.of_files is.are_told is.is }

-- ---- what does not go out

-- what is kept back comes after what has gone out
goes_out : (written out : Option (List ℕ)) (kept : List ℕ) → Keeps written (append_known out kept) → GoesOut written out
goes_out None out kept is = tt
goes_out (Some bytes) None kept is = absurd is
goes_out (Some bytes) (Some out) kept is = (kept, sym is)

-- a command is done, and then the flush fails
pub cut_after : {W A : Type 0} (command : Invocation) (old new : SessionView) (unread left before : Option (List ℕ)) (contents : W → Option (List ℕ))
    (all last : Writing (BufWriter W A)) (result : Result Outcome ScriptError) (outcome : Outcome) → result ≡ Ok outcome
    → IfOk result (IsDone command old new unread before (written (writer_contents contents) all))
    → Keeps (written (writer_contents contents) all) (written (writer_contents contents) last)
    → IsCutOff command old new unread left before (gone_out contents last) errors.Write
cut_after command old new unread left before contents all last result outcome is done kept = grind (arith, common_steps, goes_out) steps 200000
