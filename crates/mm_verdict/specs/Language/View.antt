-- The view of a theorem: all of a database that the verdict on its proof depends on.
use Rattle.std.specs.Prelude.{◌≡◌, ℕ, List, map}
use Rattle.std.specs.List.{AllZip}
use Rattle.mm_frame.specs.Language.Base.{BaseView, before, said_at, frame_at}
use Rattle.mm_machine.specs.Language.Frame.{Symbol, Mandatory, LabelMeaning, AreSamePairs}
use Rattle.mm_frame.specs.Language.Framing.{active_pairs, resolve}
use Rattle.mm_verdict.specs.Language.SameToDecode.{labels_named}
use Rattle.mm_machine.specs.Language.SameProof.{AreSameMeaning}
use Rattle.mm_verdict.specs.Language.VerdictAt.{statement_at}

-- The view of a theorem: the words of its proof, its expression, its mandatory hypotheses, all pairs that are active at it, and what each
-- label that its proof names means there. Neither its own label nor those of its hypotheses are in it, but as words
-- of the proof, nor the places of the items.
pub record View : Type 0 where
  pub proof : List (List ℕ)
  pub expression : List Symbol
  pub hypotheses : List Mandatory
  pub active : List (Symbol × Symbol)
  pub meanings : List LabelMeaning

-- the view of the theorem with this number
abbrev pub view_at : BaseView → ℕ → View
view_at base i = record {
  proof = (said_at base i).proof;
  expression = statement_at base i;
  hypotheses = (frame_at base i).hypotheses;
  active = active_pairs (before base i);
  meanings = map (resolve (before base i)) (labels_named (said_at base i).proof);
}

-- Equal views: pairs are compared as sets of unordered pairs, and labels by what they mean.
pub record AreSameViews (one other : View) : Type 0 where
  pub proof : one.proof ≡ other.proof
  pub expression : one.expression ≡ other.expression
  pub hypotheses : one.hypotheses ≡ other.hypotheses
  pub active : AreSamePairs one.active other.active
  pub meanings : AllZip AreSameMeaning one.meanings other.meanings
