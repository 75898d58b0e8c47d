-- What an assertion rests on: the axioms from which labels derive it, through theorems that labels derive from them.
use Rattle.std.specs.Prelude.{◌≡◌, ℕ, true, List, Contains}
use Rattle.mm_proof.specs.mm_frame.Language.Base.{BaseView, is_framed_at}
use Rattle.mm_proof.specs.mm_frame.Language.Resolving.{IsLabelOf}
use Rattle.mm_keep.specs.Language.Derivable.{IsDerivableAt}
use Rattle.mm_keep.specs.Language.Told.{IsAxiom}

-- the item with this number rests on these axioms
pub data RestsOn (base : BaseView) (axioms : List ℕ) : ℕ → Type 0 where
  -- it is one of them
  by_axiom : {k : ℕ} → IsAxiom base k → Contains axioms k → RestsOn base axioms k
  -- it is a sound `$p`, some labels derive its statement, and each sound assertion before it that has one of these labels rests on these
  -- axioms
  by_labels : {i : ℕ} (derivable : IsDerivableAt base i)
      → ((label : List ℕ) (k : ℕ) → Contains derivable.labels label → IsLabelOf base i k label × (is_framed_at base k ≡ true)
      → RestsOn base axioms k)
      → RestsOn base axioms i
