-- The worked examples of commands, from those of mm_report.
use Rattle.std.proofs.Common.{◌≡◌, ◌≢◌, ◌⊎◌, ℕ, Some, List, [], ◌∷◌, ◌++◌, refl, ap, ◌∙◌, inl, inr, arith, codes}
use Rattle.mm_report.specs.{mm_keep.Language.{Sessions.{HasAssertion, AreAxiomsOf}, Told.{counts}}, Language.Answers.{IsFound, IsUnknown}}
use Rattle.mm_report.specs.Language.{Examples.{proved, one_incomplete, five_commands, five_answers, AnswersFive, HasNoLine, HasThisReport, RestsOnOne}, Laws.{CleanIsDerived}, Report.{summary}}
use Rattle.mmkeep.specs.Language.{Performing.{AllInOrder}, Examples.{AxiomsLists, GivesWords, HasTheseWords, HasThisStatus, IsCutThere, IsInOrderThen, ReadsNothing, SessionEnds, VerifyFinds}}

first_byte : List ℕ → ℕ
first_byte [] = 0
first_byte (b ∷ bytes) = b

-- bytes that begin with others
begin_apart : (a b : List ℕ) → first_byte a ≢ first_byte b → a ≢ b
begin_apart a b apart same = apart (ap first_byte same)

pub verify_finds : HasThisReport → VerifyFinds
unfolding first_byte
verify_finds r = (
  refl,
  record {
    bytes = one_incomplete;
    is_report = r;
    out = refl;
    is_judged = record {
      items = r.items;
      of_files = r.of_files;
      all = r.all;
      are_told = r.are_told;
      is = λ none. begin_apart one_incomplete (summary (counts r.all)) (λ (e : 105 ≡ 97). omega (arith, e)) (r.bytes_are ∙ ap (λ (first : List ℕ). first ++ summary (counts r.all)) none);
    };
  },
)

has_no : IsUnknown proved (codes "no") (codes "found 1\nax\n") ⊎ IsFound proved (AreAxiomsOf proved (codes "no")) (codes "found 1\nax\n") → HasAssertion proved (codes "no")
unfolding first_byte
has_no (inl unknown) = absurd (begin_apart (codes "found 1\nax\n") (codes "refused K01\n") (λ (e : 102 ≡ 114). omega (arith, e)) unknown.answer_is)
has_no (inr (numbers, are, found)) = (are.0, are.1, (are.2.0, are.2.1))

pub axioms_lists : RestsOnOne → AxiomsLists
axioms_lists r = (refl, record { answer = codes "found 1\nax\n"; is_answer = r; out = refl; is_by_label = has_no r.0 })

pub session_ends : AnswersFive → HasNoLine → SessionEnds
session_ends a (items, of_files, all, told, none) = record {
  answers = record { script = five_commands; is_script = refl; answers = five_answers; is = a; out = refl };
  is_judged = record { items = items; of_files = of_files; all = all; are_told = told; is = none };
}

pub is_in_order_then : CleanIsDerived → HasNoLine → IsInOrderThen
is_in_order_then law (items, of_files, all, told, none) =
    let order : AllInOrder proved = record { items = items; of_files = of_files; each = law proved items all of_files told none } in
    (order, order, order, tt)

pub reads_nothing : ReadsNothing
reads_nothing old new = ((λ same. same), tt)

pub is_cut_there : HasThisReport → IsCutThere
is_cut_there r = record {
  written = Some (codes "incomplete no d.mm");
  why = inl (refl, record { bytes = one_incomplete; is_report = r; appends = record { count = 18; appends = refl } });
  goes_out = (codes " d.mm", refl);
}

pub has_this_status : HasThisStatus
has_this_status = (refl, refl, λ reading. refl)

pub gives_words : GivesWords
gives_words name verb file = refl

pub has_these_words : HasTheseWords
has_these_words = (refl, refl, refl, refl)
