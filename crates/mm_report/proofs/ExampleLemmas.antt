-- The worked examples of a report and a script, by computing.
use Rattle.std.proofs.Common.{AllPairs, ◌≡◌, ◌≢◌, ℕ, zero, suc, ◌+◌, ◌<◌, ◌==◌, Bool, true, false, not, Some, None, List, [], ◌∷◌, ◌++◌, length, map, get_or, slice_get, slice_range, refl, sym, ap}
use Rattle.std.proofs.{Common.{◌∙◌, subst, inl, inr, arith, codes, bytes_eq, Contains, append-nil, ◌↔◌}, lemmas.{Bool.{and_parts, false≢true}, Option.{none-some, same_Some}}}
use Rattle.std.{proofs.lemmas.{List.{Elements.{All-nil, Contains-push_cases}, Sums.{AllPass-from_list_all}}, Slice.Eq.{bytes_eq-Decides}}, specs.Fmt.{digits}}
use Rattle.std.specs.{List.{flat_map, list_all, AllByRecursion}, Prelude.{⊤}}
use Rattle.mm_keep.specs.mm_text.declared.word.{Keyword.{Keyword, TheVariants.{Constants, Variables, Floating, Axiom, Theorem, StatementEnd, ProofStart}}, Word.{Word}, WordKind.{WordKind}}
use Rattle.mm_keep.specs.mm_text.Language.{Asked.{Asked, Delete}, Cut.{IsPiece}, Part.{HasUnits}, Reading.{Segment, Single, IsSegment, HasWords, segment_runs, segment_words, first_bad, is_allowed}}
use Rattle.mm_keep.specs.mm_text.Language.{Run.{Run, runs, is_white}, Spelling.{IsSpelled, spelling}}
use Rattle.mm_keep.specs.mm_text.Language.Unit.{token_of, tokens_of, Shape, Declaration, Labelled, Provable, IsShape, shape_tokens, Nothing, Simple, is_label_byte}
use Rattle.mm_keep.specs.mm_store.{declared.edit.EditError.TheVariants.{NoPiece, Memory}, Language.{Batches.{IsRefusedAt}, Edits.{IsEditOf, IsPlaced}, FilesView.{File, bytes_of}}}
use Rattle.mm_keep.specs.mm_statement.Language.{Database.{Located, said_of, AreLocated, Unfolds, nothing, own, IsDatabase}, Laws.{FilesHaveOneDatabase}}
use Rattle.mm_keep.specs.{mm_frame.Language.{Base.{base_of, is_framed_at, is_proof_at}, Resolving.{IsLabelOf}}, mm_verdict.Language.{BaseLabels.{setting_at}, VerdictAt.{AreDoneAt, IsVerdictAt}}}
use Rattle.mm_keep.specs.{mm_machine.Language.{Frame.{Symbol, Frame, Hypothesis, Assertion, Setting, AreSamePairs}, Expansion.{Step, NotKnown}}, Language.Citations.{IsAxiomOf, none as itself, step}}
use Rattle.mm_keep.specs.Language.{Runs.{AreRunsOf, AreThose, HadView, HasSameView, IsRun}, Derivable.{IsDerivableAt, IsLabelDerivable}, Laws.{OneCount, OneFinding}, Refusals.{IsBatchRefusal}}
use Rattle.mm_keep.specs.Language.{Resting.{RestsOn, by_axiom, by_labels}, Sessions.{HasItem, IsAssertion, IsCount, IsFinding}}
use Rattle.mm_keep.specs.Language.Told.{Told, Quiet, AnAxiom, Proved, Incomplete, IsRightlyTold, AreRightlyTold}
use Rattle.mm_report.specs.Language.Examples.{ending_in, unproved, proved, gives_proof, deletes_two, BeginsWithTwo, ChangesOne, CountsSo, HasNoLine, HasThisReport, RunsOne, RestsOnOne, RefusesSecond}
use Rattle.mm_report.specs.Language.Examples.{AnswersFive, at_step, CountsEach, FindingsAreSeen, FindsLast, HasSixItems, LastIsDerivable, LastRestsOnAxiom, RefusesSo, WritesLines}
use Rattle.mm_script.specs.{declared.command.Question.TheVariants.{Verdict, Axioms}, Language.Script.{IsGoodEntry, Entry, Given, Change, Report, Ask, IsName, is_word_byte}}
use Rattle.mm_script.specs.Language.ReadingLaws.{CommandsLeaveNothing}
use Rattle.mm_keep.specs.mm_store.declared.batch.BatchError.TheVariants as batch
use Rattle.mm_keep.specs.mm_text.declared.word.WordKind.TheVariants as kinds
use Rattle.mm_keep.specs.mm_statement.Language.Item as meant
use Rattle.mm_keep.specs.mm_machine.Language.Derivation as proofs
use Rattle.mm_keep.specs.mm_machine.declared.Verdict.TheVariants as verdicts

-- ---- words of a text

no_dollar : (bytes : List ℕ) → list_all (λ b. not (b == 36)) bytes ≡ true → ¬ Contains bytes 36
no_dollar bytes all there =
    let passes : not (get_or bytes there.0 36 == 36) ≡ true = AllPass-from_list_all (λ b. not (b == 36)) bytes all there.0 36 there.1 in
    let is : get_or bytes there.0 36 ≡ 36 = there.2 in
    let never : not (36 == 36) ≡ true = rw is at passes in
    cc

abbrev keyword : Keyword → ℕ → Word
keyword kind start = record { kind = kinds.Keyword kind; start = start; end = start + 2 }

abbrev plain : ℕ → ℕ → Word
plain start end = record { kind = kinds.Plain; start = start; end = end }

abbrev run_of : List ℕ → Word → Run
run_of text word = record { start = word.start; bytes = slice_range text word.start word.end }

abbrev single : List ℕ → Word → Segment
single text word = Single (run_of text word) word

-- the bytes spell a word of this kind
abbrev spells : WordKind → List ℕ → Bool
spells kinds.Plain bytes = list_all (λ b. not (b == 36)) bytes
spells (kinds.Keyword keyword) bytes = bytes_eq bytes (spelling keyword)

spelled : (kind : WordKind) (bytes : List ℕ) → spells kind bytes ≡ true → IsSpelled kind bytes
spelled kinds.Plain bytes s = no_dollar bytes s
spelled (kinds.Keyword keyword) bytes s = (bytes_eq-Decides bytes (spelling keyword)).0 s

are_words : (text : List ℕ) (words : List Word) → list_all (λ word. spells word.kind (run_of text word).bytes) words ≡ true
    → map (λ word. word.end) words ≡ map (λ word. word.start + length (run_of text word).bytes) words → AllByRecursion IsSegment (map (single text) words)
are_words text [] s e = tt
are_words text (word ∷ words) s e =
    let both = and_parts (spells word.kind (run_of text word).bytes) (list_all (λ word. spells word.kind (run_of text word).bytes) words) s in
    (record { kind = spelled word.kind (run_of text word).bytes both.0; start = refl; end = cc }, are_words text words both.1 (cc))

singles : (text : List ℕ) (words : List Word) → flat_map segment_words (map (single text) words) ≡ words
singles text [] = refl
singles text (word ∷ words) = ap (λ (rest : List Word). word ∷ rest) (singles text words)

has_words : (text : List ℕ) (words : List Word) → first_bad text ≡ None → flat_map segment_runs (map (single text) words) ≡ runs text
    → list_all (λ word. spells word.kind (run_of text word).bytes) words ≡ true
    → map (λ word. word.end) words ≡ map (λ word. word.start + length (run_of text word).bytes) words → HasWords text words
has_words text words allowed joined s e =
    record { allowed = allowed; words_are = record { parts = map (single text) words; each = are_words text words s e; joined = joined; singles = singles text words } }

-- ---- the pieces

has_units : (text : List ℕ) (words : List Word) (shape : Shape) → HasWords text words → IsShape true shape → shape_tokens shape ≡ tokens_of text words → HasUnits text (Simple shape Nothing)
has_units text words shape has is same = record { words = words; has_words = has; are_units = (is, tt); spells = append-nil (shape_tokens shape) ∙ same }

abbrev declared : List ℕ → Keyword → List Word → ℕ → Shape
declared text kind symbols end = Declaration (token_of text (keyword kind 0)) (tokens_of text symbols) (token_of text (keyword StatementEnd end))

abbrev labelled : List ℕ → Keyword → List Word → ℕ → Shape
labelled text kind symbols end = Labelled (token_of text (plain 0 2)) (token_of text (keyword kind 3)) (tokens_of text symbols) (token_of text (keyword StatementEnd end))

-- a theorem `|- p`, whose label has two letters
abbrev theorem_words : List Word → ℕ → List Word
theorem_words steps end = plain 0 2 ∷ keyword Theorem 3 ∷ plain 6 8 ∷ plain 9 10 ∷ keyword ProofStart 11 ∷ (steps ++ keyword StatementEnd end ∷ [])

abbrev theorem : List ℕ → List Word → ℕ → Shape
theorem text steps end =
    Provable (token_of text (plain 0 2)) (token_of text (keyword Theorem 3)) (token_of text (plain 6 8) ∷ token_of text (plain 9 10) ∷ [])
    (token_of text (keyword ProofStart 11)) (tokens_of text steps) (token_of text (keyword StatementEnd end))

abbrev constants : List ℕ
constants = codes "$c |- wff $.\n"

abbrev variable : List ℕ
variable = codes "$v p $.\n"

abbrev typing : List ℕ
typing = codes "wp $f wff p $.\n"

abbrev assumed : List ℕ
assumed = codes "ax $a |- p $.\n"

abbrev first_theorem : List ℕ
first_theorem = codes "th $p |- p $= wp ax $.\n"

abbrev without_proof : List ℕ
without_proof = codes "no $p |- p $= ? $.\n"

abbrev with_proof : List ℕ
with_proof = codes "no $p |- p $= wp ax $.\n"

abbrev constants_shape : Shape
constants_shape = declared constants Constants (plain 3 5 ∷ plain 6 9 ∷ []) 10

abbrev variable_shape : Shape
variable_shape = declared variable Variables (plain 3 4 ∷ []) 5

abbrev typing_shape : Shape
typing_shape = labelled typing Floating (plain 6 9 ∷ plain 10 11 ∷ []) 12

abbrev assumed_shape : Shape
assumed_shape = labelled assumed Axiom (plain 6 8 ∷ plain 9 10 ∷ []) 11

abbrev first_shape : Shape
first_shape = theorem first_theorem (plain 14 16 ∷ plain 17 19 ∷ []) 20

constants_is : HasUnits constants (Simple constants_shape Nothing)
unfolding is_white is_allowed
constants_is =
    has_units constants (keyword Constants 0 ∷ plain 3 5 ∷ plain 6 9 ∷ keyword StatementEnd 10 ∷ []) _ (has_words constants _ refl refl refl refl) (inl refl, (refl, (refl, tt)), refl) refl

variable_is : HasUnits variable (Simple variable_shape Nothing)
unfolding is_white is_allowed
variable_is = has_units variable (keyword Variables 0 ∷ plain 3 4 ∷ keyword StatementEnd 5 ∷ []) _ (has_words variable _ refl refl refl refl) (inr (inl refl), (refl, tt), refl) refl

typing_is : HasUnits typing (Simple typing_shape Nothing)
unfolding is_white is_allowed is_label_byte
typing_is =
    has_units typing (plain 0 2 ∷ keyword Floating 3 ∷ plain 6 9 ∷ plain 10 11 ∷ keyword StatementEnd 12 ∷ []) _ (has_words typing _ refl refl refl refl)
    ((refl, refl), inl refl, (refl, (refl, tt)), refl) refl

assumed_is : HasUnits assumed (Simple assumed_shape Nothing)
unfolding is_white is_allowed is_label_byte
assumed_is =
    has_units assumed (plain 0 2 ∷ keyword Axiom 3 ∷ plain 6 8 ∷ plain 9 10 ∷ keyword StatementEnd 11 ∷ []) _ (has_words assumed _ refl refl refl refl)
    ((refl, refl), inr (inr refl), (refl, (refl, tt)), refl) refl

first_theorem_is : HasUnits first_theorem (Simple first_shape Nothing)
unfolding is_white is_allowed is_label_byte
first_theorem_is =
    has_units first_theorem (theorem_words (plain 14 16 ∷ plain 17 19 ∷ []) 20) _ (has_words first_theorem _ refl refl refl refl)
    ((refl, refl), refl, (refl, (refl, tt)), refl, (refl, (refl, tt)), refl) refl

abbrev no_proof : Shape
no_proof = theorem without_proof (plain 14 15 ∷ []) 16

abbrev a_proof : Shape
a_proof = theorem with_proof (plain 14 16 ∷ plain 17 19 ∷ []) 20

without_proof_is : HasUnits without_proof (Simple no_proof Nothing)
unfolding is_white is_allowed is_label_byte
without_proof_is =
    has_units without_proof (theorem_words (plain 14 15 ∷ []) 16) _ (has_words without_proof _ refl refl refl refl) ((refl, refl), refl, (refl, (refl, tt)), refl, (refl, tt), refl) refl

with_proof_words : HasWords with_proof (theorem_words (plain 14 16 ∷ plain 17 19 ∷ []) 20)
unfolding is_white is_allowed
with_proof_words = has_words with_proof _ refl refl refl refl

a_proof_is : IsShape true a_proof
unfolding is_label_byte
a_proof_is = ((refl, refl), refl, (refl, (refl, tt)), refl, (refl, (refl, tt)), refl)

with_proof_is : HasUnits with_proof (Simple a_proof Nothing)
with_proof_is = has_units with_proof (theorem_words (plain 14 16 ∷ plain 17 19 ∷ []) 20) a_proof with_proof_words a_proof_is refl

-- ---- the items

abbrev item : ℕ → Shape → Located
item piece shape = record { file = 0; piece = piece; words = shape_tokens shape; said = said_of shape }

abbrev five : List Located
five = item 0 constants_shape ∷ item 1 variable_shape ∷ item 2 typing_shape ∷ item 3 assumed_shape ∷ item 4 first_shape ∷ []

abbrev six : Shape → List Located
six shape = five ++ item 5 shape ∷ []

module _ (texts : List (List ℕ)) (later : List Located) where
  abbrev from_four : List Located
  from_four = item 4 first_shape ∷ later

  abbrev from_three : List Located
  from_three = item 3 assumed_shape ∷ from_four

  abbrev from_two : List Located
  from_two = item 2 typing_shape ∷ from_three

  abbrev from_one : List Located
  from_one = item 1 variable_shape ∷ from_two

  five_is : AreLocated 0 5 texts later → AreLocated 0 0 (constants ∷ variable ∷ typing ∷ assumed ∷ first_theorem ∷ texts) (five ++ later)
  five_is rest = (
    Simple constants_shape Nothing,
    constants_is,
    from_one,
    (
      Simple variable_shape Nothing,
      variable_is,
      from_two,
      (
        Simple typing_shape Nothing,
        typing_is,
        from_three,
        (Simple assumed_shape Nothing, assumed_is, from_four, (Simple first_shape Nothing, first_theorem_is, later, rest, refl), refl),
        refl,
      ),
      refl,
    ),
    refl,
  )

abbrev top : List ℕ
top = codes "d.mm"

five_unfold : {files : List File} {later items : List Located} → Unfolds files later (top ∷ []) items (top ∷ []) → Unfolds files (five ++ later) (top ∷ []) (five ++ items) (top ∷ [])
five_unfold rest =
    own (λ (e : meant.Constants ≡ meant.Missing). cc) (own (λ (e : meant.Variables ≡ meant.Missing). cc) (own (λ (e : meant.Floating ≡ meant.Missing). cc)
    (own (λ (e : meant.Axiom ≡ meant.Missing). cc) (own (λ (e : meant.Theorem ≡ meant.Missing). cc) rest))))

six_are : (last : List ℕ) (shape : Shape) → HasUnits last (Simple shape Nothing) → (said_of shape).kind ≢ meant.Missing → IsDatabase (ending_in last).files top (six shape)
six_are last shape units kind = record {
  own = six shape;
  of_top = record { number = 0; file = _; is_number = refl; there = refl; located = five_is (last ∷ []) (item 5 shape ∷ []) (Simple shape Nothing, units, [], refl, refl) };
  after = top ∷ [];
  unfolds = five_unfold (own kind nothing);
}

unproved_are : IsDatabase unproved.files top (six no_proof)
unproved_are = six_are without_proof no_proof without_proof_is (λ (e : meant.Theorem ≡ meant.Missing). cc)

proved_are : IsDatabase proved.files top (six a_proof)
proved_are = six_are with_proof a_proof with_proof_is (λ (e : meant.Theorem ≡ meant.Missing). cc)

-- ---- proofs

abbrev wff_p : List Symbol
wff_p = record { name = codes "wff"; variable = false } ∷ record { name = codes "p"; variable = true } ∷ []

abbrev proves_p : List Symbol
proves_p = record { name = codes "|-"; variable = false } ∷ record { name = codes "p"; variable = true } ∷ []

abbrev ax_frame : Frame
ax_frame = record { expression = proves_p; hypotheses = record { floating = true; expression = wff_p } ∷ []; pairs = [] }

-- `p` for `p`
abbrev p_for_p : Symbol → List Symbol
p_for_p s = record { name = codes "p"; variable = true } ∷ []

takes_p : (active : List (Symbol × Symbol)) → proofs.Takes 1000000 active ax_frame p_for_p (wff_p ∷ []) proves_p
takes_p active = record { entries_match = refl; result_matches = refl; apart = All-nil (λ pair. proofs.AreApart active (p_for_p pair.0) (p_for_p pair.1)); short = omega arith }

derives_p : (place : Setting) → place.resolve (codes "wp") ≡ Hypothesis wff_p → place.resolve (codes "ax") ≡ Assertion ax_frame
    → proofs.Derives place (codes "wp" ∷ codes "ax" ∷ []) proves_p
derives_p place w a = proofs.by_assertion {labels = codes "wp" ∷ []} {label = codes "ax"} (proofs.first_then (proofs.by_hypothesis w) proofs.nothing) a (takes_p place.active)

first_verdict : (shape : Shape) → IsVerdictAt (base_of (six shape)) 4 verdicts.Proved
first_verdict shape = record { expanded = _; expands = refl; in_order = proofs.first_then (derives_p (setting_at (base_of (six shape)) 4) refl refl) proofs.nothing }

last_verdict : IsVerdictAt (base_of (six a_proof)) 5 verdicts.Proved
last_verdict = record { expanded = _; expands = refl; in_order = proofs.first_then (derives_p (setting_at (base_of (six a_proof)) 5) refl refl) proofs.nothing }

-- ---- what is reported

abbrev told_of : Told → List Told
told_of last = Quiet ∷ Quiet ∷ Quiet ∷ AnAxiom ∷ Proved ∷ last ∷ []

-- this holds of each element and its number
abbrev AllIn : (ℕ → Told → Type 0) → List Told → Type 0
AllIn P [] = ⊤
AllIn P (x ∷ xs) = P 0 x × AllIn (λ n. P (suc n)) xs

each_in : (P : ℕ → Told → Type 0) (xs : List Told) → AllIn P xs → (n : ℕ) (one : Told) → slice_get xs n ≡ Some one → P n one
each_in P [] all n one e = absurd (none-some one e)
each_in P (x ∷ xs) all zero one e = subst (P 0) (same_Some x one e) all.0
each_in P (x ∷ xs) all (suc n) one e = each_in (λ n. P (suc n)) xs all.1 n one e

-- what is reported of the items, if this is of the last one
rightly : (last : List ℕ) (shape : Shape) (told : Told) → IsRightlyTold (ending_in last).files (six shape) 5 told → AreRightlyTold (ending_in last).files (six shape) (told_of told)
rightly last shape told is = record {
  count = refl;
  each = each_in (IsRightlyTold (ending_in last).files (six shape)) (told_of told) (
    record { sound = refl; kind = refl },
    (
      record { sound = refl; kind = refl },
      (record { sound = refl; kind = refl }, (record { sound = refl; kind = refl }, (record { proof = refl; is_verdict = first_verdict shape }, (is, tt)))),
    ),
  );
}

abbrev nothing_run : List Step
nothing_run = []

abbrev one_unknown : List Step
one_unknown = NotKnown ∷ []

told_unproved : IsRightlyTold unproved.files (six no_proof) 5 (Incomplete at_step)
told_unproved = record {
  spot = record { word = 0; letter = 0 };
  has_verdict = record {
    proof = refl;
    is_verdict = (λ (e : nothing_run ≡ one_unknown). cc, refl, ([], record { expanded = record { labels = []; saved = [] }; expands = refl; in_order = proofs.nothing }));
  };
  is_place = record {
    item = item 5 no_proof;
    there = refl;
    has_place = record { within = omega arith; file = _; there = refl; in_file = refl; line = refl; column = refl };
  };
}

told_proved : IsRightlyTold proved.files (six a_proof) 5 Proved
told_proved = record { proof = refl; is_verdict = last_verdict }

pub has_this_report : HasThisReport
unfolding digits
has_this_report = record {
  items = six no_proof;
  of_files = unproved_are;
  all = told_of (Incomplete at_step);
  are_told = rightly without_proof no_proof (Incomplete at_step) told_unproved;
  bytes_are = refl;
}

pub counts_so : CountsSo
counts_so = record {
  items = six no_proof;
  of_files = unproved_are;
  all = told_of (Incomplete at_step);
  are_told = rightly without_proof no_proof (Incomplete at_step) told_unproved;
  is = refl;
}

pub has_no_line : HasNoLine
has_no_line = (six a_proof, proved_are, told_of Proved, rightly with_proof a_proof Proved told_proved, refl)

-- ---- steps

first_done : (shape : Shape) → AreDoneAt (base_of (six shape)) 4 2
first_done shape = inr ((proves_p ∷ [], record { expanded = _; expands = refl; in_order = proofs.first_then (derives_p (setting_at (base_of (six shape)) 4) refl refl) proofs.nothing }), refl)

last_done : AreDoneAt (base_of (six a_proof)) 5 2
last_done = inr ((proves_p ∷ [], record { expanded = _; expands = refl; in_order = proofs.first_then (derives_p (setting_at (base_of (six a_proof)) 5) refl refl) proofs.nothing }), refl)

none_done : AreDoneAt (base_of (six no_proof)) 5 0
none_done = inr (([], record { expanded = record { labels = []; saved = [] }; expands = refl; in_order = proofs.nothing }), refl)

both_theorems : (k : ℕ) → Contains (4 ∷ 5 ∷ []) k ↔ ((k < 6) × (is_proof_at (base_of (six no_proof)) k ≡ true))
both_theorems k = (
  λ there. elim (Contains-push_cases (4 ∷ []) 5 k there) [
    | inl first ↦ (elim (Contains-push_cases [] 4 k first) [
      | inl other ↦ absurd (omega (arith, other.1))
      | inr same ↦ subst (λ k. (k < 6) × (is_proof_at (base_of (six no_proof)) k ≡ true)) same (omega arith, refl)
    ])
    | inr same ↦ subst (λ k. (k < 6) × (is_proof_at (base_of (six no_proof)) k ≡ true)) same (omega arith, refl)
  ],
  λ both. by k both.0 both.1,
)
  where
    by : (k : ℕ) → k < 6 → is_proof_at (base_of (six no_proof)) k ≡ true → Contains (4 ∷ 5 ∷ []) k
    by zero within is = let e : false ≡ true = is in cc
    by (suc zero) within is = let e : false ≡ true = is in cc
    by (suc (suc zero)) within is = let e : false ≡ true = is in cc
    by (suc (suc (suc zero))) within is = let e : false ≡ true = is in cc
    by (suc (suc (suc (suc zero)))) within is = (0, omega arith, refl)
    by (suc (suc (suc (suc (suc zero))))) within is = (1, omega arith, refl)
    by (suc (suc (suc (suc (suc (suc k)))))) within is = absurd (omega (arith, within))

pub begins_with_two : BeginsWithTwo
begins_with_two = record {
  items = six no_proof;
  of_files = unproved_are;
  those = record { rising = rising; each = both_theorems };
  steps = record { counts = 2 ∷ 0 ∷ []; each = (first_done no_proof, (none_done, tt)); total_is = refl };
}
  where
    rising : AllPairs (λ m n. m < n) (4 ∷ 5 ∷ [])
    rising zero zero d less within = absurd (omega (arith, less))
    rising zero (suc zero) d less within = omega arith
    rising i (suc (suc j)) d less within = absurd (omega (arith, within))
    rising (suc i) zero d less within = absurd (omega (arith, less))
    rising (suc i) (suc zero) d less within = absurd (omega (arith, less))

-- ---- one number alone

one_of : (P : ℕ → Type 0) (n count : ℕ) → n < count → P n → ((k : ℕ) → k < count → P k → k ≡ n) → AreThose P count (n ∷ [])
one_of P n count within is only = record {
  rising = λ i j d less inside. absurd (omega (arith, less, inside));
  each = λ k. (
    λ there. elim (Contains-push_cases [] n k there) [ inl other ↦ absurd (omega (arith, other.1)) | inr same ↦ subst (λ k. (k < count) × P k) same (within, is) ],
    λ both. (0, omega arith, sym (only k both.0 both.1)),
  );
}

-- ---- what a session has and finds

pub has_six_items : OneCount → HasSixItems
has_six_items one = ((six a_proof, proved_are), six_counted, (six a_proof, proved_are, omega arith), no_more, (six a_proof, proved_are, refl), (six a_proof, proved_are, refl))
  where
    six_counted : IsCount proved 6
    six_counted = (six a_proof, proved_are, refl)

    no_more : HasItem proved 6 → ⊥
    no_more (items, are, within) =
        let same : 6 ≡ length (base_of items) = one proved 6 (length (base_of items)) six_counted (items, are, refl) in
        omega (arith, within, same)

pub finds_last : OneFinding → FindsLast
finds_last one = (incomplete, not_proved, (six a_proof, proved_are, told_proved))
  where
    incomplete : IsFinding unproved 5 (Incomplete at_step)
    incomplete = (six no_proof, unproved_are, told_unproved)

    not_proved : IsFinding unproved 5 Proved → ⊥
    not_proved found = let e : Incomplete at_step ≡ Proved = one 5 unproved (Incomplete at_step) Proved incomplete found in cc

-- two labels, by their bytes
other_label : (a b : List ℕ) → bytes_eq a b ≡ false → Some a ≡ Some b → ⊥
other_label a b differ same = false≢true (sym differ ∙ (bytes_eq-Decides a b).1 (same_Some a b same))

-- ---- what labels derive, and what an item rests on

has_last : IsAssertion (base_of (six a_proof)) (codes "no") 5
has_last = record { within = omega arith; framed = refl; label_is = refl }

unproved_derivable : IsDerivableAt (base_of (six no_proof)) 5
unproved_derivable = record { theorem = refl; labels = codes "wp" ∷ codes "ax" ∷ []; derive = derives_p (setting_at (base_of (six no_proof)) 5) refl refl }

last_derivable : IsDerivableAt (base_of (six a_proof)) 5
last_derivable = record { theorem = refl; labels = codes "wp" ∷ codes "ax" ∷ []; derive = derives_p (setting_at (base_of (six a_proof)) 5) refl refl }

-- the label `ax` is that of an axiom
no_theorem : (i : ℕ) → IsAssertion (base_of (six a_proof)) (codes "ax") i → is_proof_at (base_of (six a_proof)) i ≡ true → ⊥
no_theorem zero is theorem = none-some (codes "ax") is.label_is
no_theorem (suc zero) is theorem = none-some (codes "ax") is.label_is
no_theorem (suc (suc zero)) is theorem = other_label (codes "wp") (codes "ax") refl is.label_is
no_theorem (suc (suc (suc zero))) is theorem = false≢true theorem
no_theorem (suc (suc (suc (suc zero)))) is theorem = other_label (codes "th") (codes "ax") refl is.label_is
no_theorem (suc (suc (suc (suc (suc zero))))) is theorem = other_label (codes "no") (codes "ax") refl is.label_is
no_theorem (suc (suc (suc (suc (suc (suc i)))))) is theorem = let within = is.within in absurd (omega (arith, within))

pub last_is_derivable : FilesHaveOneDatabase → LastIsDerivable
last_is_derivable one = ((six no_proof, unproved_are, unproved_derivable), (six a_proof, proved_are, (5, has_last, last_derivable)), no_axiom)
  where
    no_axiom : IsLabelDerivable proved (codes "ax") → ⊥
    no_axiom (items, are, (i, is, derivable)) =
        let same : items ≡ six a_proof = one proved.files top items (six a_proof) are proved_are in
        no_theorem i (subst (λ (items : List Located). IsAssertion (base_of items) (codes "ax") i) same is)
        (subst (λ (items : List Located). is_proof_at (base_of items) i ≡ true) same derivable.theorem)

-- the labels that derive the last item are those of the `$f` and of the axiom
rests_by : (label : List ℕ) (k : ℕ) → Contains (codes "wp" ∷ codes "ax" ∷ []) label → IsLabelOf (base_of (six a_proof)) 5 k label × (is_framed_at (base_of (six a_proof)) k ≡ true)
    → RestsOn (base_of (six a_proof)) (3 ∷ []) k
rests_by label zero there is = absurd (false≢true is.1)
rests_by label (suc zero) there is = absurd (false≢true is.1)
rests_by label (suc (suc zero)) there is = absurd (false≢true is.1)
rests_by label (suc (suc (suc zero))) there is = by_axiom (record { sound = refl; kind = refl }) (0, omega arith, refl)
rests_by label (suc (suc (suc (suc zero)))) there is = elim (Contains-push_cases (codes "wp" ∷ []) (codes "ax") label there) [
  | inl first ↦ (elim (Contains-push_cases [] (codes "wp") label first) [
    | inl other ↦ absurd (omega (arith, other.1))
    | inr same ↦ absurd (other_label (codes "th") (codes "wp") refl (is.0.carrier.label_is ∙ ap (λ (l : List ℕ). Some l) (sym same)))
  ])
  | inr same ↦ absurd (other_label (codes "th") (codes "ax") refl (is.0.carrier.label_is ∙ ap (λ (l : List ℕ). Some l) (sym same)))
]
rests_by label (suc (suc (suc (suc (suc k))))) there is = let earlier = is.0.earlier in absurd (omega (arith, earlier))

pub last_rests_on_axiom : LastRestsOnAxiom
unfolding last_derivable
last_rests_on_axiom = (six a_proof, proved_are, by_labels last_derivable rests_by)

-- ---- what the code finds, and what is written

pub findings_are_seen : FindingsAreSeen
findings_are_seen word = (refl, refl, refl, refl, refl, refl, refl)

pub counts_each : CountsEach
unfolding digits
counts_each = (refl, refl)

pub writes_lines : WritesLines
unfolding digits
writes_lines = (refl, refl)

-- ---- the edit

with_proof_piece : IsPiece with_proof
unfolding is_white
with_proof_piece = record {
  unit = record {
    words = theorem_words (plain 14 16 ∷ plain 17 19 ∷ []) 20;
    units = Simple a_proof Nothing;
    has_words = with_proof_words;
    are_units = (a_proof_is, tt);
    spells = refl;
    one = refl;
    ends = refl;
  };
  white = AllPass-from_list_all is_white (codes "\n") refl;
}

no_words : HasWords [] []
unfolding is_white is_allowed
no_words = has_words [] [] refl refl refl refl

gives_proof_is : IsEditOf gives_proof unproved.files proved.files
unfolding is_white
gives_proof_is =
    let size : bytes_of proved.files ≡ 96 = refl in record {
      number = 0;
      file = _;
      placed = record { file_there = record { named = refl; there = refl }; among = omega arith };
      one_unit = record { pieces = with_proof ∷ []; tail = []; is_cut = record { joined = refl; are_pieces = (with_proof_piece, tt, no_words) }; is_count = refl };
      is_after = refl;
      within = omega (arith, size);
    }

same_pairs : (pairs : List (Symbol × Symbol)) → AreSamePairs pairs pairs
same_pairs pairs = λ x y. (λ is. is, λ is. is)

-- the first theorem has the view that it had
had_first : HadView (base_of (six no_proof)) (base_of (six a_proof)) 4
had_first = (
  4,
  record {
    within = omega arith;
    was = refl;
    is = refl;
    label = refl;
    view = record {
      proof = refl;
      expression = refl;
      hypotheses = refl;
      active = same_pairs [];
      meanings = (refl, (record { expression = refl; hypotheses = refl; pairs = same_pairs [] }, tt));
    };
  },
)

other_proof : codes "?" ∷ [] ≡ codes "wp" ∷ codes "ax" ∷ [] → ⊥
other_proof e = cc

had_not : (i : ℕ) → HasSameView (base_of (six no_proof)) (base_of (six a_proof)) i 5 → ⊥
had_not zero h = none-some (codes "no") h.label
had_not (suc zero) h = none-some (codes "no") h.label
had_not (suc (suc zero)) h = other_label (codes "wp") (codes "no") refl h.label
had_not (suc (suc (suc zero))) h = other_label (codes "ax") (codes "no") refl h.label
had_not (suc (suc (suc (suc zero)))) h = other_label (codes "th") (codes "no") refl h.label
had_not (suc (suc (suc (suc (suc zero))))) h = other_proof h.view.proof
had_not (suc (suc (suc (suc (suc (suc i)))))) h = beyond i h.within
  where
    beyond : (i : ℕ) → suc (suc (suc (suc (suc (suc i))))) < 6 → ⊥
    beyond i within = omega (arith, within)

runs_last : IsRun (base_of (six no_proof)) (base_of (six a_proof)) 5
runs_last = record { theorem = refl; changed = λ had. had_not had.0 had.1 }

last_alone : (k : ℕ) → k < 6 → IsRun (base_of (six no_proof)) (base_of (six a_proof)) k → k ≡ 5
last_alone zero within run = let e : false ≡ true = run.theorem in cc
last_alone (suc zero) within run = let e : false ≡ true = run.theorem in cc
last_alone (suc (suc zero)) within run = let e : false ≡ true = run.theorem in cc
last_alone (suc (suc (suc zero))) within run = let e : false ≡ true = run.theorem in cc
last_alone (suc (suc (suc (suc zero)))) within run = absurd (run.changed had_first)
last_alone (suc (suc (suc (suc (suc zero))))) within run = refl
last_alone (suc (suc (suc (suc (suc (suc k)))))) within run = absurd (omega (arith, within))

runs_are : AreRunsOf unproved.files proved.files top (5 ∷ [])
runs_are = record {
  old = six no_proof;
  new = six a_proof;
  were = unproved_are;
  are = proved_are;
  those = one_of (IsRun (base_of (six no_proof)) (base_of (six a_proof))) 5 6 (omega arith) runs_last last_alone;
}

pub runs_one : RunsOne
unfolding digits runs_are
runs_one = inl (gives_proof_is, record { top = refl; runs = 5 ∷ []; are_runs = runs_are; answer_is = refl })

pub changes_one : ChangesOne
changes_one = record {
  top = refl;
  runs = runs_are;
  items = six a_proof;
  of_files = proved_are;
  steps = record { counts = 2 ∷ []; each = (last_done, tt); total_is = refl };
}

-- ---- the axioms

axiom_of_last : IsAxiomOf (base_of (six a_proof)) 5 3
axiom_of_last = record {
  is_axiom = record { sound = refl; kind = refl };
  leads = step (record {
    theorem = refl;
    names = record {
      decoded = _;
      decodes = refl;
      label = codes "ax";
      named = (1, omega arith, refl);
      means = (record { earlier = omega arith; carrier = record { shown = refl; label_is = refl } }, refl);
    };
  }) itself;
}

axiom_alone : (k : ℕ) → k < 6 → IsAxiomOf (base_of (six a_proof)) 5 k → k ≡ 3
axiom_alone zero within is = let e : meant.Constants ≡ meant.Axiom = is.is_axiom.kind in cc
axiom_alone (suc zero) within is = let e : meant.Variables ≡ meant.Axiom = is.is_axiom.kind in cc
axiom_alone (suc (suc zero)) within is = let e : meant.Floating ≡ meant.Axiom = is.is_axiom.kind in cc
axiom_alone (suc (suc (suc zero))) within is = refl
axiom_alone (suc (suc (suc (suc zero)))) within is = let e : meant.Theorem ≡ meant.Axiom = is.is_axiom.kind in cc
axiom_alone (suc (suc (suc (suc (suc zero))))) within is = let e : meant.Theorem ≡ meant.Axiom = is.is_axiom.kind in cc
axiom_alone (suc (suc (suc (suc (suc (suc k)))))) within is = absurd (omega (arith, within))

pub rests_on_one : RestsOnOne
unfolding digits
rests_on_one = (
  inr (
    3 ∷ [],
    (six a_proof, proved_are, (5, has_last, one_of (IsAxiomOf (base_of (six a_proof)) 5) 3 6 (omega arith) axiom_of_last axiom_alone)),
    (six a_proof, proved_are, refl),
  ),
  refl,
)

-- ---- the batch

abbrev five_files : List File
five_files = record { name = top; pieces = constants ∷ variable ∷ typing ∷ assumed ∷ first_theorem ∷ []; tail = [] } ∷ []

deletes_last : IsEditOf (Delete top 5) proved.files five_files
deletes_last =
    let size : bytes_of five_files ≡ 73 = refl in record {
      number = 0;
      file = _;
      placed = record { file_there = record { named = refl; there = refl }; among = omega arith };
      one_unit = tt;
      is_after = refl;
      within = omega (arith, size);
    }

second_refused : IsRefusedAt (Delete top 5 ∷ Delete top 9 ∷ []) proved.files 1 (NoPiece 5)
second_refused = record {
  before = five_files;
  accepted = (five_files, deletes_last, refl);
  edit = Delete top 9;
  there = refl;
  refused = (0, _, record { named = refl; there = refl }, refl, λ (among : 9 < 5). omega (arith, among));
  told = λ (e : NoPiece 5 ≡ Memory). cc;
}

pub refuses_second : RefusesSecond
unfolding digits
refuses_second = inr (record {
  n = 1;
  error = NoPiece 5;
  refused = second_refused;
  unchanged = refl;
  answer_is = refl;
})

pub refuses_so : RefusesSo
refuses_so = (
  second_refused,
  (0, _, record { named = refl; there = refl }, refl, λ (among : 9 < 6). omega (arith, among)),
  (0, _, record { file_there = record { named = refl; there = refl }; among = omega arith }),
  (λ placed. none-some placed.0 placed.2.file_there.named),
  inr refl,
  not_placed,
)
  where
    not_placed : IsBatchRefusal (Delete (codes "c.mm") 5 ∷ []) proved.files batch.Memory → ⊥
    not_placed (inl placed) =
        let same = same_Some (Delete (codes "c.mm") 5) placed.0 placed.3 in
        let is = subst (λ (edit : Asked). IsPlaced proved.files edit placed.1 placed.2) (sym same) placed.4 in
        none-some placed.1 is.file_there.named
    not_placed (inr e) = cc

-- ---- the script

is_name : (name : List ℕ) → name ≢ [] → list_all is_word_byte name ≡ true → IsName name
is_name name some bytes = record { some = some; bytes = bytes }

abbrev entries : List Entry
entries = Given Report ∷ Given (Change gives_proof) ∷ Given (Ask Verdict (codes "no")) ∷ Given (Ask Axioms (codes "no")) ∷ Given deletes_two ∷ []

top_name : IsName top
top_name = is_name top (λ (e : top ≡ []). cc) refl

no_name : IsName (codes "no")
no_name = is_name (codes "no") (λ (e : codes "no" ≡ []). cc) refl

are_good : AllByRecursion IsGoodEntry entries
are_good = (
  tt,
  (
    (top_name, omega arith, omega arith),
    (no_name, (no_name, ((omega arith, ((top_name, omega arith), ((top_name, omega arith), tt))), tt))),
  ),
)

pub answers_five : CommandsLeaveNothing → AnswersFive
unfolding digits
answers_five law = record {
  entries = entries;
  rest = [];
  reading = law _ entries (record { good = are_good; joined = inl refl });
  answered = (
    _,
    unproved,
    _,
    (has_this_report, refl),
    (
      _,
      proved,
      _,
      runs_one,
      (
        codes "proved no\n",
        proved,
        _,
        (inr (Proved, (six a_proof, proved_are, 5, has_last, told_proved), refl), refl),
        (_, proved, _, rests_on_one, (_, proved, [], refuses_second, (refl, refl), refl), refl),
        refl,
      ),
      refl,
    ),
    refl,
  );
  ends = refl;
}
