-- The words that cite are labels of exactly the assertions that decoded steps name.
use Rattle.std.proofs.Common.{◌==◌, ◌≡◌, ◌⊎◌, ℕ, suc, ◌+◌, Bool, true, false, not, cond, Some, Result, Ok, Err, List, [], ◌∷◌, ◌++◌, length, map, drop, take, slice_get, refl, sym, ap, ◌∙◌, subst, inl}
use Rattle.std.proofs.{Common.{inr, arith}, lemmas.{Grind.{common_steps}, Bool.{false≢true, and_parts, and_from, or_left, or_right, cases_Bool}, Option.{same_Some}, Slice.Eq.{bytes_eq-Decides}}}
use Rattle.std.{proofs.lemmas.List.{take-append-drop, Elements.{Contains-append_right, Contains-append_cases}}, specs.{Option.{ok_or, option_map_or}, Result.{result_and}}}
use Rattle.std.specs.{Prelude.{◌↔◌, Contains, filter, bytes_eq, codes}, List.{AllZip, AllByRecursion, list_any, enumerate_from, before_first, after_first, range_with_len}}
use Rattle.mm_machine.specs.{declared.{ProofNumber.{ProofNumber, TheVariants.{P06, P03}}, Spot.{Spot}, step.ProofFault.{ProofFault}}, Language.Frame.{Mandatory, Setting}}
use Rattle.mm_machine.specs.Language.{Expansion.{Step, Named, Saved}, Verdict.{Decoded}}
use Rattle.mm_verdict.specs.Language.{Letters.{Letter, Group, groups, letters_from}, BaseLabels.{setting_at}, Citing.{label_words, first_of_each, means_assertion, names_assertion, is_cited, cites}}
use Rattle.mm_verdict.specs.Language.CitingLaws.{NamesAssertionAt, IsCiteOf}
use Rattle.mm_verdict.specs.Language.Decoding.{ProofReading, Steps, read_first, in_order, word_spot, read_label, read_word, readings_of_words, nameable, readings_of_groups, is_close, is_compressed}
use Rattle.mm_verdict.specs.Language.{Decoding.{letter_steps, steps_in, decoding}, ItemLaws.{MandatoryLabelsMean, MeansHypothesis}, SameToDecode.{labels_named}}
use Rattle.mm_verdict.{specs.Language.VerdictAt.{mandatory_labels, decoding_at, cites_at}, proofs.lemmas.lists.Members.{Contains-here, contains_there, contains_cases, kept_at}}
use Rattle.mm_verdict.proofs.lemmas.{lists.Every.{all_at, joined, mapped}, base.StoodLemmas.{assertion_stands}, decoding.SureLemmas.{decoded_ok}}
use Rattle.mm_frame.specs.Language.{Base.{BaseView, AreLabelled, said_at, frame_at}, Laws.{AssertionsMean, KeptNext}}

-- ---- what is in a list, by recursion

abbrev In : {X : Type 0} → X → List X → Type 0
In x [] = ⊥
In x (y ∷ ys) = (y ≡ x) ⊎ In x ys

in_contains : {X : Type 0} (x : X) (xs : List X) → In x xs → Contains xs x
in_contains x [] h = absurd h
in_contains x (y ∷ ys) (inl e) = subst (λ w. Contains (y ∷ ys) w) e (Contains-here y ys)
in_contains x (y ∷ ys) (inr h) = contains_there y ys x (in_contains x ys h)

contains_in : {X : Type 0} (x : X) (xs : List X) → Contains xs x → In x xs
contains_in x [] c = absurd (omega arith)
contains_in x (y ∷ ys) c = elim (contains_cases y ys x c) [ inl e ↦ inl e | inr d ↦ inr (contains_in x ys d) ]

in_right : {X : Type 0} (x : X) (xs ys : List X) → In x ys → In x (xs ++ ys)
in_right x xs ys h = contains_in x (xs ++ ys) (Contains-append_right xs ys x (in_contains x ys h))

in_cases : {X : Type 0} (x : X) (xs ys : List X) → In x (xs ++ ys) → In x xs ⊎ In x ys
in_cases x xs ys h = elim (Contains-append_cases xs ys x (in_contains x (xs ++ ys) h)) [ inl a ↦ inl (contains_in x xs a) | inr b ↦ inr (contains_in x ys b) ]

in_map : {X Y : Type 0} (f : X → Y) (x : X) (xs : List X) → In x xs → In (f x) (map f xs)
in_map f x [] h = absurd h
in_map f x (y ∷ xs) (inl e) = inl (ap f e)
in_map f x (y ∷ xs) (inr h) = inr (in_map f x xs h)

from_map : {X Y : Type 0} (f : X → Y) (y : Y) (xs : List X) → In y (map f xs) → (x : X) × In x xs × (f x ≡ y)
from_map f y [] h = absurd h
from_map f y (x ∷ xs) (inl e) = (x, inl refl, e)
from_map f y (x ∷ xs) (inr h) = let r = from_map f y xs h in (r.0, inr r.1, r.2)

in_filter : {X : Type 0} (p : X → Bool) (x : X) (xs : List X) → In x xs → p x ≡ true → In x (filter p xs)
in_filter p x [] h t = absurd h
in_filter p x (y ∷ xs) (inl e) t = rw (ap p e ∙ t) (inl e)
in_filter p x (y ∷ xs) (inr h) t = elim (cases_Bool (p y)) [ inl f ↦ rw f (inr (in_filter p x xs h t)) | inr f ↦ rw f (in_filter p x xs h t) ]

from_filter : {X : Type 0} (p : X → Bool) (x : X) (xs : List X) → In x (filter p xs) → In x xs × (p x ≡ true)
from_filter p x [] h = absurd h
from_filter p x (y ∷ xs) h = elim (cases_Bool (p y)) [
  | inl f ↦ elim (rw f at h) [ inl q ↦ (inl q, ap p (sym q) ∙ f) | inr k ↦ (let r = from_filter p x xs k in (inr r.0, r.1)) ]
  | inr f ↦ (let r = from_filter p x xs (rw f at h) in (inr r.0, r.1))
]

every : {X : Type 0} (P : X → Type 0) (xs : List X) → ((x : X) → In x xs → P x) → AllByRecursion P xs
every P [] h = tt
every P (x ∷ xs) h = (h x (inl refl), every P xs (λ y i. h y (inr i)))

member : {X : Type 0} (P : X → Type 0) (xs : List X) (x : X) → AllByRecursion P xs → In x xs → P x
member P [] x h i = absurd i
member P (y ∷ xs) x h (inl e) = subst P e h.0
member P (y ∷ xs) x h (inr i) = member P xs x h.1 i

-- ---- what holds of each reading holds of each step

abbrev OfReadings : (Step → Type 0) → List ProofReading → Type 0
OfReadings P readings = AllByRecursion (λ r. (step : Step) → r.step ≡ Ok step → P step) readings

abbrev OfSteps : (Step → Type 0) → Steps → Type 0
OfSteps P (Ok steps) = AllByRecursion (λ s. P s.0) steps
OfSteps P (Err fault) = Unit {0}

with_one : (P : Step → Type 0) (step : Step) (spot : Spot) (rest : Steps) → P step → OfSteps P rest → OfSteps P (read_first spot (Ok step) rest)
with_one P step spot rest p h = grind (arith, common_steps) steps 200000

one_more : (P : Step → Type 0) (spot : Spot) (step : Result Step ProofNumber) (rest : Steps) → ((s : Step) → step ≡ Ok s → P s) → OfSteps P rest → OfSteps P (read_first spot step rest)
one_more P spot step rest p h = grind (arith, common_steps) steps 200000

of_order : (P : Step → Type 0) (readings : List ProofReading) → OfReadings P readings → OfSteps P (in_order readings)
of_order P [] h = tt
of_order P (r ∷ readings) h = one_more P r.spot r.step (in_order readings) h.0 (of_order P readings h.1)

-- the step names no label, or one of these
abbrev IsOf : List (List ℕ) → Step → Type 0
IsOf labels (Named label) = In label labels
IsOf labels _ = Unit {0}

-- ---- normal proofs

word_of : (p : Setting) (labels : List (List ℕ)) (word : List ℕ) (step : Step) → (bytes_eq word (codes "?") ≡ false → In word labels) → read_word p word ≡ Ok step → IsOf labels step
word_of p labels word step h q = grind (arith, common_steps) steps 200000

words_of :
    (p : Setting) (labels : List (List ℕ)) (n : ℕ) (words : List (List ℕ)) → ((word : List ℕ) → In word words → bytes_eq word (codes "?") ≡ false → In word labels) →
    OfReadings (IsOf labels) (readings_of_words (read_word p) n words)
words_of p labels n [] h = tt
words_of p labels n (word ∷ words) h = (λ step q. word_of p labels word step (h word (inl refl)) q, words_of p labels (n + 1) words (λ w i. h w (inr i)))

-- ---- compressed ones

names_of : (labels : List (List ℕ)) (saves : ℕ) → AllByRecursion (IsOf labels) (nameable (map Named labels) saves)
names_of labels saves =
    let saved : (n : ℕ) → In n (range_with_len 0 saves) → IsOf labels (Saved n) = λ n i. tt in
    joined (IsOf labels) (map Named labels) (map Saved (range_with_len 0 saves))
    (mapped (IsOf labels) Named labels (every (λ l. In l labels) labels (λ l i. i)))
    (mapped (IsOf labels) Saved (range_with_len 0 saves) (every (λ n. IsOf labels (Saved n)) (range_with_len 0 saves) saved))

got_of : (labels : List (List ℕ)) (names : List Step) (n : ℕ) (step : Step) → AllByRecursion (IsOf labels) names → ok_or (slice_get names n) P06 ≡ Ok step → IsOf labels step
got_of labels names n step h q = grind (arith, common_steps, all_at (IsOf labels) names n step h) steps 200000

groups_of : (labels : List (List ℕ)) (close : Spot) (saves : ℕ) (gs : List Group) → OfReadings (IsOf labels) (readings_of_groups (map Named labels) close saves gs)
groups_of labels close saves [] = tt
groups_of labels close saves (g ∷ gs) = grind (arith, common_steps, names_of labels saves, groups_of labels close (cond (option_map_or (λ (letter : Letter). letter.byte == 90) g.last false) (saves + 1) saves) gs, got_of) steps 200000

-- ---- all proofs

if_of : (P : Step → Type 0) (first behind : Steps) → OfSteps P behind → OfSteps P (result_and first behind)
if_of P first behind h = grind (arith, common_steps) steps 200000

-- a word that is no `?`
abbrev is_label : List ℕ → Bool
is_label word = not (bytes_eq word (codes "?"))

steps_of : (p : Setting) (mandatory words : List (List ℕ)) (close : Spot) → OfSteps (IsOf (mandatory ++ labels_named words)) (steps_in p mandatory words close)
steps_of p mandatory words close = by (is_compressed words) refl
  where
    listed : List (List ℕ)
    listed = before_first is_close (drop 1 words)

    letters : (b : Bool) → OfSteps (IsOf (mandatory ++ listed)) (cond b (letter_steps mandatory listed (length listed + 2) (after_first is_close (drop 1 words)) close) (Err (record { number = P03; spot = close })))
    letters true = of_order _ _ (groups_of (mandatory ++ listed) close 0 (groups (letters_from (length listed + 2) (after_first is_close (drop 1 words)))))
    letters false = tt

    plain : (word : List ℕ) → In word words → bytes_eq word (codes "?") ≡ false → In word (mandatory ++ filter is_label words)
    plain word i e = in_right word mandatory (filter is_label words) (in_filter is_label word words i (ap not e))

    by : (b : Bool) → is_compressed words ≡ b → OfSteps (IsOf (mandatory ++ labels_named words)) (steps_in p mandatory words close)
    by true e = rw e (if_of _ (in_order (readings_of_words (read_label p) 1 listed)) _ (letters (list_any is_close (drop 1 words))))
    by false e = rw e (of_order _ _ (words_of p (mandatory ++ filter is_label words) 0 words plain))

-- each label that a decoded step names is that of a mandatory hypothesis, or one that the words name
labels_of_steps : (p : Setting) (mandatory words : List (List ℕ)) (d : Decoded) → decoding p mandatory words ≡ Ok d → AllByRecursion (IsOf (mandatory ++ labels_named words)) d.steps
labels_of_steps p mandatory words d e =
    let close = word_spot (length words) in
    let k = decoded_ok close (steps_in p mandatory words close) d e in
    let P = IsOf (mandatory ++ labels_named words) in
    subst (λ (x : Decoded). AllByRecursion P x.steps) (sym k.2)
    (mapped P (λ (s : Step × Spot). s.0) k.0 (subst (OfSteps P) k.1 (steps_of p mandatory words close)))

-- ---- words with their numbers

numbered : (n : ℕ) (x : List ℕ) (xs : List (List ℕ)) → In x xs → (w : ℕ) × In (w, x) (enumerate_from n xs)
numbered n x [] i = absurd i
numbered n x (y ∷ xs) (inl e) = (n, inl (λ i. (n, e i)))
numbered n x (y ∷ xs) (inr i) = let r = numbered (n + 1) x xs i in (r.0, inr r.1)

numbered_at : (n : ℕ) (xs : List (List ℕ)) (w : ℕ) (x : List ℕ) → In (w, x) (enumerate_from n xs) → (k : ℕ) × (w ≡ n + k) × (slice_get xs k ≡ Some x)
numbered_at n [] w x i = absurd i
numbered_at n (y ∷ xs) w x (inl e) = (0, sym (ap (λ (z : ℕ × List ℕ). z.0) e) ∙ omega arith, ap Some (ap (λ (z : ℕ × List ℕ). z.1) e))
numbered_at n (y ∷ xs) w x (inr i) = let r = numbered_at (n + 1) xs w x i in (suc r.0, r.1 ∙ omega arith, r.2)

get_take : (xs : List (List ℕ)) (n k : ℕ) (x : List ℕ) → slice_get (take n xs) k ≡ Some x → slice_get xs k ≡ Some x
get_take xs n k x e = subst (λ w. slice_get w k ≡ Some x) (take-append-drop n xs) (kept_at (take n xs) (drop n xs) k x e)

-- the same holds of a word with its number
abbrev is_label_at : ℕ × List ℕ → Bool
is_label_at word = not (bytes_eq word.1 (codes "?"))

named_word : (words : List (List ℕ)) (label : List ℕ) → In label (labels_named words) → (w : ℕ) × In (w, label) (label_words words)
named_word words label i = by (is_compressed words) i
  where
    by :
        (b : Bool) → In label (cond b (before_first is_close (drop 1 words)) (filter is_label words)) →
        (w : ℕ) × In (w, label) (cond b (enumerate_from 1 (before_first is_close (drop 1 words))) (filter is_label_at (enumerate_from 0 words)))
    by true j = numbered 1 label (before_first is_close (drop 1 words)) j
    by false j =
        let f = from_filter is_label label words j in
        let r = numbered 0 label words f.0 in
        (r.0, in_filter is_label_at (r.0, label) (enumerate_from 0 words) r.1 f.1)

label_there : (words : List (List ℕ)) (w : ℕ) (label : List ℕ) → In (w, label) (label_words words) → slice_get words w ≡ Some label
label_there words w label i = grind (arith, common_steps, from_filter, get_take, numbered_at) steps 200000

in_firsts : (ws : List (ℕ × List ℕ)) (w : ℕ) (label : List ℕ) → In (w, label) ws → (v : ℕ) × In (v, label) (first_of_each ws)
in_firsts [] w label i = absurd i
in_firsts (a ∷ ws) w label (inl e) = (w, inl e)
in_firsts (a ∷ ws) w label (inr i) =
    let r = in_firsts ws w label i in
    elim (cases_Bool (bytes_eq a.1 label)) [
      | inl e ↦ (let same = (bytes_eq-Decides a.1 label).0 e in (a.0, inl (λ i. (a.0, same i))))
      | inr e ↦ (r.0, inr (in_filter (λ other. not (bytes_eq a.1 other.1)) (r.0, label) (first_of_each ws) r.1 (ap not e)))
    ]

from_firsts : (ws : List (ℕ × List ℕ)) (x : ℕ × List ℕ) → In x (first_of_each ws) → In x ws
from_firsts [] x i = absurd i
from_firsts (a ∷ ws) x (inl e) = inl e
from_firsts (a ∷ ws) x (inr i) = inr (from_firsts ws x (from_filter (λ other. not (bytes_eq a.1 other.1)) x (first_of_each ws) i).0)

-- ---- steps that name a label

any_names : (label : List ℕ) (steps : List Step) → In (Named label) steps → list_any (names_assertion label) steps ≡ true
any_names label [] i = absurd i
any_names label (s ∷ steps) (inl e) = grind (arith, common_steps, bytes_eq-Decides label label, or_left) steps 200000
any_names label (s ∷ steps) (inr i) = or_right (names_assertion label s) (list_any (names_assertion label) steps) (any_names label steps i)

named_by : (label : List ℕ) (s : Step) → names_assertion label s ≡ true → s ≡ Named label
named_by label s h = grind (arith, common_steps, bytes_eq-Decides, false≢true) steps 200000

names_any : (label : List ℕ) (steps : List Step) → list_any (names_assertion label) steps ≡ true → In (Named label) steps
names_any label [] e = absurd (false≢true e)
names_any label (s ∷ steps) e =
    elim (cases_Bool (names_assertion label s)) [ inl h ↦ inl (named_by label s h) | inr h ↦ inr (names_any label steps (rw h at e)) ]

-- ---- the words that cite

-- word n is the label of an assertion that a step names
record CitesBy (place : Setting) (words : List (List ℕ)) (r : Result Decoded ProofFault) (n : ℕ) : Type 0 where
  decoded : Decoded
  decodes : r ≡ Ok decoded
  label : List ℕ
  there : slice_get words n ≡ Some label
  assertion : means_assertion (place.resolve label) ≡ true
  named : In (Named label) decoded.steps

from_cites : (place : Setting) (words : List (List ℕ)) (r : Result Decoded ProofFault) (n : ℕ) → In n (cites place words r) → CitesBy place words r n
from_cites place words r n i = grind (arith, common_steps, and_parts, from_filter, from_firsts, from_map, label_there, names_any) steps 200000

-- a word that cites by this label
abbrev CitedWord : Setting → List (List ℕ) → Result Decoded ProofFault → List ℕ → Type 0
CitedWord place words r label = (n : ℕ) × In n (cites place words r) × (slice_get words n ≡ Some label)

to_cites : (place : Setting) (words : List (List ℕ)) (d : Decoded) (label : List ℕ) → In label (labels_named words) → means_assertion (place.resolve label) ≡ true → In (Named label) d.steps → CitedWord place words (Ok d) label
to_cites place words d label i a h =
    let cited : ℕ × List ℕ → Bool = λ word. is_cited place d.steps word.1 in
    let w = named_word words label i in
    let v = in_firsts (label_words words) w.0 label w.1 in
    let is = and_from (means_assertion (place.resolve label)) (list_any (names_assertion label) d.steps) a (any_names label d.steps h) in
    grind (arith, common_steps, in_filter cited (v.0, label) (first_of_each (label_words words)) v.1 is, label_there words v.0 label (from_firsts (label_words words) (v.0, label) v.1), in_map) steps 200000

-- a label of a mandatory hypothesis means no assertion
no_assertion : (place : Setting) (labels : List (List ℕ)) (hs : List Mandatory) → AllZip (MeansHypothesis place) labels hs → (label : List ℕ) → In label labels → means_assertion (place.resolve label) ≡ false
no_assertion place [] hs a label i = absurd i
no_assertion place (l ∷ labels) [] a label i = absurd a
no_assertion place (l ∷ labels) (h ∷ hs) a label (inl s) = ap (λ (x : List ℕ). means_assertion (place.resolve x)) (sym s) ∙ ap means_assertion a.0
no_assertion place (l ∷ labels) (h ∷ hs) a label (inr i) = no_assertion place labels hs a.1 label i

pub each_names : KeptNext → (view : BaseView) (i n : ℕ) → Contains (cites_at view i) n → (k : ℕ) × IsCiteOf view i n k
each_names next view i n c =
    let by = from_cites (setting_at view i) (said_at view i).proof (decoding_at view i) n (contains_in n (cites_at view i) c) in
    let k = assertion_stands next view i by.label by.assertion in
    (k.0, record { cites = c; label = by.label; there = by.there; means = (k.1.0, k.1.1) })

pub cites_tell : MandatoryLabelsMean → AssertionsMean → (view : BaseView) (i k : ℕ) → AreLabelled view → NamesAssertionAt view i k ↔ ((n : ℕ) × IsCiteOf view i n k)
cites_tell mean assertions view i k said = (to, from)
  where
    place : Setting
    place = setting_at view i

    words : List (List ℕ)
    words = (said_at view i).proof

    listed_only : (label : List ℕ) → means_assertion (place.resolve label) ≡ true → In label (mandatory_labels view i) ⊎ In label (labels_named words) → In label (labels_named words)
    listed_only label a (inl h) = absurd (false≢true (sym (no_assertion place (mandatory_labels view i) (frame_at view i).hypotheses (mean view i said) label h) ∙ a))
    listed_only label a (inr h) = h

    to : NamesAssertionAt view i k → (n : ℕ) × IsCiteOf view i n k
    to s =
        let a : means_assertion (place.resolve s.label) ≡ true = ap means_assertion (assertions view i k s.label s.means.0 s.means.1).2 in
        let h = contains_in (Named s.label) s.decoded.steps s.named in
        let known = member (IsOf (mandatory_labels view i ++ labels_named words)) s.decoded.steps (Named s.label) (labels_of_steps place (mandatory_labels view i) words s.decoded s.decodes) h in
        let w = to_cites place words s.decoded s.label (listed_only s.label a (in_cases s.label (mandatory_labels view i) (labels_named words) known)) a h in
        let there = subst (λ (r : Result Decoded ProofFault). In w.0 (cites place words r)) (sym s.decodes) w.1 in
        (w.0, record { cites = in_contains w.0 (cites_at view i) there; label = s.label; there = w.2; means = s.means })

    from : (n : ℕ) × IsCiteOf view i n k → NamesAssertionAt view i k
    from t =
        let n = t.0 in
        let one = t.1 in
        let by = from_cites place words (decoding_at view i) n (contains_in n (cites_at view i) one.cites) in
        let same : by.label ≡ one.label = same_Some by.label one.label (sym by.there ∙ one.there) in
        record {
          decoded = by.decoded;
          decodes = by.decodes;
          label = one.label;
          named = in_contains (Named one.label) by.decoded.steps (subst (λ (l : List ℕ). In (Named l) by.decoded.steps) same by.named);
          means = one.means;
        }
