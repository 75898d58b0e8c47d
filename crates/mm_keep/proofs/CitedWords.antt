-- The words of a proof that cite, one after another, and marks of the items that they are labels of.
use Rattle.std.proofs.lemmas.{Grind.{common_steps}, List.{drop-drop, get_or-set_same, get_or-set_other, length-set}, Option.{same_Some, none-some}}
use Rattle.std.proofs.Common.{rules, ◌≡◌, ◌⊎◌, ◌<◌, ℕ, suc, ◌+◌, Bool, true, Option, Some, None, List, [], ◌∷◌, length, drop, set, slice_get, refl, sym, ap, ◌∙◌, inl, inr, arith, MatchOption}
use Rattle.std.{proofs.{Common.{slice_index}, Math.Decide.{dec_lt}}, specs.Option.{option_map}}
use Rattle.mm_proof.specs.{mm_frame.Language.{Base.{BaseView}, Resolving.{IsCarrier}}, mm_verdict.Language.DecodingLaws.{Rise}}
use Rattle.mm_keep.specs.Code.Cited.{AreRising, HasLabelAmong, IsAmongCited, MarksMore, passed_words}

-- ---- words

pub drop_more : {X : Type 0} (xs : List X) (n m k : ℕ) → k ≡ n + m → drop m (drop n xs) ≡ drop k xs
drop_more xs n m k e = drop-drop m n xs ∙ ap (λ i. drop i xs) (sym e)

pub get_behind : {X : Type 0} (xs : List X) (n m k : ℕ) → k ≡ n + m → slice_get (drop n xs) m ≡ slice_get xs k
get_behind (x ∷ xs) (suc n) m (suc k) e = get_behind xs n m k (omega (arith, e))
get_behind xs n m k e = grind (arith, common_steps) steps 200000

-- a word that is read, and what is left
pub next_left : {W : Type 0} (f : W → List ℕ) (r : Option W) (old new : List (List ℕ)) → MatchOption r ((old ≡ []) × (new ≡ [])) (λ w. old ≡ f w ∷ new) → (new ≡ drop 1 old) × (option_map f r ≡ slice_get old 0)
next_left f r old new h = grind (arith, common_steps) steps 200000

pub passed_next : (cites : List ℕ) (x : ℕ) → passed_words cites (x + 1) ≡ slice_index cites x + 1
passed_next cites x = let e : x + 1 ≡ suc x = omega arith in ap (passed_words cites) e

-- numbers that rise by recursion, by their places
pub rise_pairs : (xs : List ℕ) → Rise xs → AreRising xs
rise_pairs (x ∷ xs) r (suc i) (suc j) d l m = rise_pairs xs r.1 i j d (omega (arith, l)) (omega (arith, m))
rise_pairs xs r i j d l m = grind (arith, common_steps) steps 200000

-- ---- marks

pub marks_same : (P : ℕ → Type 0) (marks : List Bool) → ((k : ℕ) → P k → ⊥) → MarksMore P marks marks
marks_same P marks none = record { count = refl; each = λ k. (λ m. inl m, λ s. elim s [ inl m ↦ m | inr p ↦ absurd (none k p) ]) }

pub mark_one : (P : ℕ → Type 0) (marks : List Bool) (k : ℕ) → k < length marks → P k → ((j : ℕ) → P j → j ≡ k) → MarksMore P marks (set marks k true)
mark_one P marks k within holds one = grind (arith, common_steps, get_or-set_other, get_or-set_same, length-set) steps 200000

-- ---- labels among the first words

-- it is among those before, or the last
pub last_or_before : (words : List (List ℕ)) (cites : List ℕ) (x : ℕ) (label : List ℕ) → IsAmongCited words cites (x + 1) label → IsAmongCited words cites x label ⊎ (slice_get words (slice_index cites x) ≡ Some label)
last_or_before words cites x label a = grind (arith, common_steps, dec_lt a.at x) steps 200000

-- one word that cites more, which is the label of those of which this holds
words_next : (view : BaseView) (words : List (List ℕ)) (cites : List ℕ) (x : ℕ) (Q : ℕ → Type 0) (before now after : List Bool)
    → ((k : ℕ) → Q k → HasLabelAmong view words cites (x + 1) k) → ((k : ℕ) (h : HasLabelAmong view words cites (x + 1) k) → slice_get words (slice_index cites x) ≡ Some h.label → Q k)
    → MarksMore (HasLabelAmong view words cites x) before now → MarksMore Q now after → MarksMore (HasLabelAmong view words cites (x + 1)) before after
words_next view words cites x Q before now after one last first second = search (rules, last_or_before)

pub words_more :
    (view : BaseView) (words : List (List ℕ)) (cites : List ℕ) (x : ℕ) (label : List ℕ) (before now after : List Bool) → slice_get words (slice_index cites x) ≡ Some label →
    MarksMore (HasLabelAmong view words cites x) before now → MarksMore (IsCarrier view label) now after → MarksMore (HasLabelAmong view words cites (x + 1)) before after
words_more view words cites x label before now after there first second = search (rules, same_Some, words_next)

pub words_skip :
    (view : BaseView) (words : List (List ℕ)) (cites : List ℕ) (x : ℕ) (before now : List Bool) → slice_get words (slice_index cites x) ≡ None →
    MarksMore (HasLabelAmong view words cites x) before now → MarksMore (HasLabelAmong view words cites (x + 1)) before now
words_skip view words cites x before now none first = grind (arith, common_steps, words_next, none-some, marks_same) steps 200000
