-- Words of a proof that are no label that is listed as changed.
use Rattle.std.{proofs.{lemmas.{Grind.{common_steps}, Bool.{false≢true}}, Common.{◌≡◌, ℕ, zero, suc, Bool, true, false, not, List, [], ◌∷◌, take, filter, refl, arith}}, specs.Prelude.{◌≢◌}}
use Rattle.std.specs.List.{AllByRecursion}
use Rattle.mm_frame.specs.Language.Base.{BaseView}
use Rattle.mm_proof.specs.Language.BaseMarks.{IsToldChanged}
use Rattle.mm_verdict.specs.Language.SameToDecode.{labels_named}

-- what holds of each word of a proof holds of each label that it names
all_filtered : (P : List ℕ → Type 0) (p : List ℕ → Bool) (words : List (List ℕ)) → AllByRecursion P words → AllByRecursion P (filter p words)
all_filtered P p [] all = tt
all_filtered P p (word ∷ words) all = grind (arith, common_steps, all_filtered P p words all.1) steps 200000

all_taken : (P : List ℕ → Type 0) (n : ℕ) (words : List (List ℕ)) → AllByRecursion P words → AllByRecursion P (take n words)
all_taken P zero words all = tt
all_taken P (suc n) [] all = tt
all_taken P (suc n) (word ∷ words) all = (all.0, all_taken P n words all.1)

pub all_named : (P : List ℕ → Type 0) (words : List (List ℕ)) → AllByRecursion P words → AllByRecursion P (labels_named words)
all_named P words all = grind (arith, common_steps, all_filtered, all_taken) steps 200000

-- what holds of some words leads to what holds of them
pub all_with : (P Q : List ℕ → Type 0) → ((word : List ℕ) → P word → Q word) → (words : List (List ℕ)) → AllByRecursion P words → AllByRecursion Q words
all_with P Q leads [] all = tt
all_with P Q leads (word ∷ words) all = (leads word all.0, all_with P Q leads words all.1)

-- none of the words is a label that is listed as changed, if none is the label of such an item
pub none_changed :
    (copy : BaseView) (changed : List ℕ) (j : ℕ) (words : List (List ℕ)) → ((label : List ℕ) → IsToldChanged copy changed j label → AllByRecursion (λ word. word ≢ label) words) →
    AllByRecursion (λ word. ¬ IsToldChanged copy changed j word) words
none_changed copy changed j [] none = tt
none_changed copy changed j (word ∷ words) none = ((λ t. (none word t).0 refl), none_changed copy changed j words (λ label t. (none label t).1))

pub not_true : (b : Bool) → not b ≡ true → b ≡ false
not_true false e = refl
not_true true e = absurd (false≢true e)
