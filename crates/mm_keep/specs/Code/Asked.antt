-- How items stand to an assertion, as the definitions name it.
use Rattle.std.specs.Prelude.{ℕ}
use Rattle.mm_proof.specs.mm_frame.Language.Base.{BaseView}
use Rattle.mm_keep.specs.declared.citing.Relation.{Relation}
use Rattle.mm_keep.specs.declared.citing.Relation.TheVariants.{Cites, Users, Axioms}
use Rattle.mm_keep.specs.Language.Citations.{CitesItem, IsAxiomOf}

-- item k is one of those that are asked for of item i
abbrev pub stands : Relation → BaseView → ℕ → ℕ → Type 0
stands Cites base i k = CitesItem base i k
stands Users base i k = CitesItem base k i
stands Axioms base i k = IsAxiomOf base i k
