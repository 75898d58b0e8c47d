-- What the assertions of a database cite: directly, and by chains of citations.
use Rattle.std.specs.Prelude.{◌≡◌, ℕ, true}
use Rattle.mm_proof.specs.mm_frame.Language.Base.{BaseView, is_proof_at}
use Rattle.mm_proof.specs.mm_verdict.Language.CitingLaws.{NamesAssertionAt}
use Rattle.mm_keep.specs.Language.Told.{IsAxiom}

-- item i cites item k: it is a sound `$p`, and a decoded step of its proof names a label that means the assertion k there
pub record CitesItem (base : BaseView) (i k : ℕ) : Type 0 where
  pub theorem : is_proof_at base i ≡ true
  pub names : NamesAssertionAt base i k

-- a chain of citations leads from an item to item k; the chain of no citation leads from k to itself
pub data LeadsTo (base : BaseView) (k : ℕ) : ℕ → Type 0 where
  none : LeadsTo base k k
  step : {i j : ℕ} → CitesItem base i j → LeadsTo base k j → LeadsTo base k i

-- item k is an axiom of item i: a sound `$a` to which a chain of citations leads
pub record IsAxiomOf (base : BaseView) (i k : ℕ) : Type 0 where
  pub is_axiom : IsAxiom base k
  pub leads : LeadsTo base k i
