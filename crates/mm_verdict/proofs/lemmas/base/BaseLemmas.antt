-- Labels of a base belong to one item each, and mandatory hypotheses are active.
use Rattle.std.proofs.Common.{◌≡◌, ℕ, true, Option, Some, List, [], ◌∷◌, sym, ◌∙◌, ap, Contains, unwrap_or}
use Rattle.mm_frame.specs.Language.{Base.{BaseView, AreLabelled, before, said_at, is_shown_at}, Resolving.{IsCarrier, Resolves}, Framing.{mandatory_numbers}}
use Rattle.mm_verdict.{specs.Language.BaseLabels.{label_at, NoLabelTwice, AreActive}, proofs.lemmas.lists.Members.{Contains-here, contains_there}}
use Rattle.mm_frame.specs.Language.Laws as frame
use Rattle.mm_frame.specs.declared.base.Resolved.TheVariants as answers

-- the label of a sound item
own_label : frame.ItemsHaveLabels → (view : BaseView) → AreLabelled view → (j : ℕ) → is_shown_at view j ≡ true → IsCarrier view (label_at view j) j
own_label has view said j shown = let l = has view said j shown in record { shown = shown; label_is = l.1 ∙ ap (λ (w : Option (List ℕ)). Some (unwrap_or w [])) (sym l.1) }

pub labels_are_own : frame.HasOwnLabels → frame.ItemsHaveLabels → (view : BaseView) → AreLabelled view → NoLabelTwice view
labels_are_own own has view said j k s t e =
    own view j k (label_at view j) (own_label has view said j s) (record { shown = t; label_is = (own_label has view said k t).label_is ∙ ap Some (sym e) })

all_active : (view : BaseView) (i : ℕ) (numbers : List ℕ) → ((n : ℕ) → Contains numbers n → Resolves view i (label_at view n) (answers.Hypothesis n)) → AreActive view i numbers
all_active view i [] each = tt
all_active view i (n ∷ numbers) each = (each n (Contains-here n numbers), all_active view i numbers (λ m c. each m (contains_there n numbers m c)))

pub mandatory_are_active : frame.ItemsHaveLabels → frame.MandatoryMeans → frame.MandatoryStandBefore → (view : BaseView) (i : ℕ) → AreLabelled view → AreActive view i (mandatory_numbers (before view i) (said_at view i))
mandatory_are_active has means stand view i said =
    let numbers = mandatory_numbers (before view i) (said_at view i) in
    all_active view i numbers (λ n c. let m = ((stand view i).which n).0 c in means view i n (label_at view n) (own_label has view said n m.shown) m)
