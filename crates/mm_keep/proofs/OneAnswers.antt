-- A session has one answer each: what is found of its items, the verdict on an assertion, the counts, and the labels.
use Rattle.std.proofs.lemmas.{Grind.{common_steps}, Option.{slice_get-get_or, same_Some}}
use Rattle.std.proofs.Common.{◌≡◌, ℕ, ◌<◌, Bool, true, false, ◌&&◌, List, length, get_or, refl, sym, ◌∙◌, ap, subst, subst₂, Some, slice_get, ext_get_or, arith}
use Rattle.mm_proof.specs.{mm_store.Language.FilesView.{File}, mm_frame.{declared.FrameNumber.{FrameNumber}, Language.{Base.{BaseView, base_of, fault_at, is_sound_at, said_at}, Laws.{HasOwnLabels}}}}
use Rattle.mm_proof.specs.{mm_statement.Language.{Database.{Located}, Item.{Kind, Axiom, Theorem, is_assertion, is_kind}, Laws.{FilesHaveOneDatabase}}, mm_verdict.Language.ItemLaws.{HasOneVerdictAt}}
use Rattle.mm_proof.specs.mm_machine.declared.{ProofNumber.{ProofNumber}, Spot.{Spot}, Verdict.{Verdict}}
use Rattle.mm_keep.specs.{declared.finding.At.{At}, Language.{Laws.{OneCount, OneLabel, OneFinding, OneVerdict, OneTally}, Sessions.{IsAssertion}}}
use Rattle.mm_keep.specs.Language.WordPlaces.{HasPlace, IsPlaceOfSpot, proof_word, spelled}
use Rattle.mm_keep.specs.Language.Told.{Shown, Told, Quiet, AnAxiom, Proved, Incomplete, Wrong, Fault, IsRightlyTold, IsFaultOf, HasProofVerdict, HasVerdictShown, AreRightlyTold, counts}
use Rattle.mm_keep.proofs.CitedItems.{assertion_carries}
use Rattle.mm_proof.specs.mm_machine.declared.Verdict.TheVariants as verdicts

-- what is known of all files, and of the verdicts on their items
pub record Laws : Type 0 where
  pub database : FilesHaveOneDatabase
  pub verdict : HasOneVerdictAt
  pub own : HasOwnLabels

-- ---- what is reported of one item

-- what an item is, as a number: at fault, quiet, an axiom, or a theorem
abbrev pub class_of : Bool → Kind → ℕ
class_of false kind = 0
class_of true Axiom = 2
class_of true Theorem = 3
class_of true _ = 1

abbrev pub class_at : BaseView → ℕ → ℕ
class_at view n = class_of (is_sound_at view n) (said_at view n).kind

-- of which items it is reported
abbrev class_told : Told → ℕ
class_told Quiet = 1
class_told AnAxiom = 2
class_told Proved = 3
class_told (Incomplete at) = 3
class_told (Wrong number at) = 3
class_told (Fault number shown) = 0

quiet_class : (sound : Bool) (kind : Kind) → sound ≡ true → is_assertion kind ≡ false → 1 ≡ class_of sound kind
quiet_class false kind e f = absurd (cc)
quiet_class true kind e f = grind (arith, common_steps) steps 200000

theorem_class : (sound : Bool) (kind : Kind) → (sound && is_kind Theorem kind) ≡ true → 3 ≡ class_of sound kind
theorem_class sound kind e = grind (arith, common_steps) steps 200000

told_class : (files : List File) (items : List Located) (n : ℕ) (one : Told) → IsRightlyTold files items n one → class_told one ≡ class_at (base_of items) n
told_class files items n one f = grind (arith, common_steps, quiet_class, theorem_class) steps 200000

-- ---- items that agree

-- an item of files and one of other files, with one number, are the same, and so are the places of its words
pub record AgreeAt (files others : List File) (items copies : List Located) (n : ℕ) : Type 0 where
  pub item : slice_get items n ≡ slice_get copies n
  pub fault : fault_at (base_of items) n ≡ fault_at (base_of copies) n
  pub class : class_at (base_of items) n ≡ class_at (base_of copies) n
  pub verdict : (v w : Verdict) → HasProofVerdict (base_of items) n v → HasProofVerdict (base_of copies) n w → v ≡ w
  pub places : (x : Located) → slice_get items n ≡ Some x → (word letter : ℕ) (at there : At) → HasPlace files x word letter at → HasPlace others x word letter there → at ≡ there

-- the spot and the number of a verdict, if it has them
abbrev spot_of : Verdict → Spot → Spot
spot_of verdicts.Proved other = other
spot_of (verdicts.Incomplete spot) other = spot
spot_of (verdicts.Wrong number spot) other = spot

abbrev number_of : Verdict → ProofNumber → ProofNumber
number_of (verdicts.Wrong number spot) other = number
number_of _ other = other

module _ (files others : List File) (items copies : List Located) (n : ℕ) (agree : AgreeAt files others items copies n) where
  one_place : (x y : Located) → slice_get items n ≡ Some x → slice_get copies n ≡ Some y → (v w k l : ℕ) (at there : At) → (x ≡ y → v ≡ w) → k ≡ l
      → HasPlace files x v k at → HasPlace others y w l there → at ≡ there
  one_place x y at_x at_y v w k l at there word letter f g =
      let same : x ≡ y = same_Some x y (sym at_x ∙ agree.item ∙ at_y) in
      let moved = subst (λ (z : Located). HasPlace others z v k there) (sym same) (subst₂ (λ (m p : ℕ). HasPlace others y m p there) (sym (word same)) (sym letter) g) in
      agree.places x at_x v k at there f moved

  one_spot_place : (s t : Spot) (at there : At) → s ≡ t → IsPlaceOfSpot files items n s at → IsPlaceOfSpot others copies n t there → at ≡ there
  one_spot_place s t at there same f g =
      one_place f.item g.item f.there g.there _ _ s.letter t.letter at there (λ item. (λ i. proof_word (item i).said (same i).word)) (λ i. (same i).letter) f.has_place g.has_place

  one_incomplete : (at there : At) → HasVerdictShown files items n verdicts.Incomplete at → HasVerdictShown others copies n verdicts.Incomplete there → Incomplete at ≡ Incomplete there
  one_incomplete at there f g =
      let verdict = agree.verdict (verdicts.Incomplete f.spot) (verdicts.Incomplete g.spot) f.has_verdict g.has_verdict in
      ap Incomplete (one_spot_place f.spot g.spot at there (ap (λ (v : Verdict). spot_of v f.spot) verdict) f.is_place g.is_place)

  one_wrong : (number more : ProofNumber) (at there : At) → HasVerdictShown files items n (verdicts.Wrong number) at → HasVerdictShown others copies n (verdicts.Wrong more) there → Wrong number at ≡ Wrong more there
  one_wrong number more at there f g =
      let verdict = agree.verdict (verdicts.Wrong number f.spot) (verdicts.Wrong more g.spot) f.has_verdict g.has_verdict in
      let numbers : number ≡ more = ap (λ (v : Verdict). number_of v number) verdict in
      let places : at ≡ there = one_spot_place f.spot g.spot at there (ap (λ (v : Verdict). spot_of v f.spot) verdict) f.is_place g.is_place in
      (λ i. Wrong (numbers i) (places i))

  one_fault : (number more : FrameNumber) (shown there : Shown) → IsFaultOf files items n number shown → IsFaultOf others copies n more there → Fault number shown ≡ Fault more there
  one_fault number more shown there f g =
      let pair : (f.word, number) ≡ (g.word, more) = same_Some (f.word, number) (g.word, more) (sym f.fault ∙ agree.fault ∙ g.fault) in
      let word : f.word ≡ g.word = ap (λ (p : ℕ × FrameNumber). p.0) pair in
      let numbers : number ≡ more = ap (λ (p : ℕ × FrameNumber). p.1) pair in
      let at : shown.at ≡ there.at = one_place f.item g.item f.there g.there f.word g.word 0 0 shown.at there.at (λ item. word) refl f.is_shown.has_place g.is_shown.has_place in
      let item : f.item ≡ g.item = same_Some f.item g.item (sym f.there ∙ agree.item ∙ g.there) in
      let spelling : shown.word ≡ there.word = f.is_shown.is_word ∙ (λ i. spelled (slice_get (item i).words (word i))) ∙ sym g.is_shown.is_word in
      (λ i. Fault (numbers i) (record { at = at i; word = spelling i }))

  one_told_by : (one copy : Told) → class_told one ≡ class_told copy → IsRightlyTold files items n one → IsRightlyTold others copies n copy → one ≡ copy
  one_told_by Quiet Quiet same f g = refl
  one_told_by AnAxiom AnAxiom same f g = refl
  one_told_by Proved Proved same f g = refl
  one_told_by Proved (Incomplete there) same f g = let v = agree.verdict verdicts.Proved (verdicts.Incomplete g.spot) f g.has_verdict in cc
  one_told_by Proved (Wrong more there) same f g = let v = agree.verdict verdicts.Proved (verdicts.Wrong more g.spot) f g.has_verdict in cc
  one_told_by (Incomplete at) Proved same f g = let v = agree.verdict (verdicts.Incomplete f.spot) verdicts.Proved f.has_verdict g in cc
  one_told_by (Incomplete at) (Incomplete there) same f g = one_incomplete at there f g
  one_told_by (Incomplete at) (Wrong more there) same f g = let v = agree.verdict (verdicts.Incomplete f.spot) (verdicts.Wrong more g.spot) f.has_verdict g.has_verdict in cc
  one_told_by (Wrong number at) Proved same f g = let v = agree.verdict (verdicts.Wrong number f.spot) verdicts.Proved f.has_verdict g in cc
  one_told_by (Wrong number at) (Incomplete there) same f g = let v = agree.verdict (verdicts.Wrong number f.spot) (verdicts.Incomplete g.spot) f.has_verdict g.has_verdict in cc
  one_told_by (Wrong number at) (Wrong more there) same f g = one_wrong number more at there f g
  one_told_by (Fault number shown) (Fault more there) same f g = one_fault number more shown there f g
  one_told_by one copy same f g = absurd (omega arith)

  pub agreed_told : (one copy : Told) → IsRightlyTold files items n one → IsRightlyTold others copies n copy → one ≡ copy
  agreed_told one copy f g = one_told_by one copy (told_class files items n one f ∙ agree.class ∙ sym (told_class others copies n copy g)) f g

-- a byte of a word has one place
same_place : (files : List File) (x : Located) (word letter : ℕ) (at there : At) → HasPlace files x word letter at → HasPlace files x word letter there → at ≡ there
same_place files x word letter at there f g = grind (arith, common_steps, same_Some f.file g.file (sym f.there ∙ g.there)) steps 200000

pub one_told : HasOneVerdictAt → (files : List File) (items : List Located) (n : ℕ) (one copy : Told) → IsRightlyTold files items n one → IsRightlyTold files items n copy → one ≡ copy
one_told law files items n = agreed_told files files items items n (record {
  item = refl;
  fault = refl;
  class = refl;
  verdict = λ v w f g. law (base_of items) n v w f.is_verdict g.is_verdict;
  places = λ x is. same_place files x;
})

-- ---- one answer each

module _ (laws : Laws) (files : List File) (items : List Located) where
  -- what is reported of all items is one list
  all_told : (all others : List Told) → AreRightlyTold files items all → AreRightlyTold files items others → all ≡ others
  all_told all others f g =
      ext_get_or Quiet all others (f.count ∙ sym g.count) (λ n within.
      let behind : n < length others = omega (arith, within, f.count, g.count) in
      one_told laws.verdict files items n (get_or all n Quiet) (get_or others n Quiet)
      (f.each n (get_or all n Quiet) (slice_get-get_or all n Quiet within))
      (g.each n (get_or others n Quiet) (slice_get-get_or others n Quiet behind)))

  -- one label has one assertion
  one_assertion : (label : List ℕ) (i k : ℕ) → IsAssertion (base_of items) label i → IsAssertion (base_of items) label k → i ≡ k
  one_assertion label i k f g = laws.own (base_of items) i k label (assertion_carries (base_of items) label i f) (assertion_carries (base_of items) label k g)

pub one_count : Laws → OneCount
one_count laws session count copy f g = f.2 ∙ ap (λ items. length (base_of items)) (laws.database session.files session.top f.0 g.0 f.1 g.1) ∙ sym g.2

pub one_label : Laws → OneLabel
one_label laws i session label copy f g = f.2 ∙ ap (λ items. (said_at (base_of items) i).label) (laws.database session.files session.top f.0 g.0 f.1 g.1) ∙ sym g.2

pub one_finding : Laws → OneFinding
one_finding laws i session told copy f g =
    let same = laws.database session.files session.top g.0 f.0 g.1 f.1 in
    one_told laws.verdict session.files f.0 i told copy f.2 (subst (λ items. IsRightlyTold session.files items i copy) same g.2)

pub one_verdict : Laws → OneVerdict
one_verdict laws label session told copy f g =
    let same = laws.database session.files session.top g.0 f.0 g.1 f.1 in
    let assertion = subst (λ items. IsAssertion (base_of items) label g.2) same g.3 in
    let number = one_assertion laws session.files f.0 label g.2 f.2 assertion f.3 in
    one_told laws.verdict session.files f.0 f.2 told copy f.4
    (subst (λ k. IsRightlyTold session.files f.0 k copy) number (subst (λ items. IsRightlyTold session.files items g.2 copy) same g.4))

pub one_tally : Laws → OneTally
one_tally laws session tally copy f g =
    let same = laws.database session.files session.top g.items f.items g.of_files f.of_files in
    f.is ∙ ap counts (all_told laws session.files f.items f.all g.all f.are_told (subst (λ items. AreRightlyTold session.files items g.all) same g.are_told)) ∙ sym g.is
