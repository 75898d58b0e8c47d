-- Labels and steps in small: what labels weigh, which part a save keeps, which words cite, and which views are the same.
use Rattle.std.specs.Prelude.{◌≡◌, Some, List, [], ◌∷◌, ◌++◌, codes, pos}
use Rattle.mm_frame.specs.Language.Base.{BaseView}
use Rattle.mm_frame.specs.Language.Examples.{letters, labelled_item, unlabelled_item}
use Rattle.mm_frame.specs.mm_statement.Language.Item.{Axiom, Constants, Disjoint, Floating, Said, Theorem, Variables}
use Rattle.mm_machine.specs.Language.Expansion.{expansion, last_part, weight, Named, Save, Saved}
use Rattle.mm_machine.specs.Language.Frame.{Assertion, Frame, Setting}
use Rattle.mm_machine.specs.Language.Typing.{HasFrames, IsFrame}
use Rattle.mm_verdict.specs.Language.Citing.{cites}
use Rattle.mm_verdict.specs.Language.Examples.{proof, whole_base}
use Rattle.mm_verdict.specs.Language.FaultExamples.{bracketed, decoded_here, here}
use Rattle.mm_verdict.specs.Language.ItemLaws.{IsDerivedAt}
use Rattle.mm_verdict.specs.Language.SameToDecode.{labels_named}
use Rattle.mm_verdict.specs.Language.VerdictAt.{AreDoneAt, cites_at}
use Rattle.mm_verdict.specs.Language.View.{AreSameViews, view_at}

-- `wp wi wq` weighs one: each of the three leaves one expression, and `wi` takes two.
abbrev pub WeighsOne : Type 0
WeighsOne = weight here (codes "wp" ∷ codes "wi" ∷ codes "wq" ∷ []) ≡ pos 1

-- So two of the lists at the end of `wp wp wi wq` weigh one, and the shorter one is its last part.
abbrev pub LastIsShorter : Type 0
LastIsShorter = last_part here (codes "wp" ∷ codes "wp" ∷ codes "wi" ∷ codes "wq" ∷ []) ≡ Some (codes "wq" ∷ [])

-- What is saved has the numbers 0, 1, .. in the order of the saves.
abbrev pub SavesAreNumbered : Type 0
SavesAreNumbered = expansion here (Named (codes "wp") ∷ Save ∷ Named (codes "wq") ∷ Save ∷ Saved 1 ∷ Saved 0 ∷ []) ≡ Some (record {
  labels = codes "wp" ∷ codes "wq" ∷ codes "wq" ∷ codes "wp" ∷ [];
  saved = (codes "wp" ∷ []) ∷ (codes "wq" ∷ []) ∷ [];
})

-- The labels of a compressed proof are those up to the first `)`.
abbrev pub NamesUpToEnd : Type 0
NamesUpToEnd = labels_named (codes "(" ∷ codes "wi" ∷ codes ")" ∷ codes "A" ∷ codes ")" ∷ []) ≡ codes "wi" ∷ []

-- Of two words `wi` the first cites, which is word 2, though the letters name the second. `wp` is no assertion.
abbrev pub CitesFirstWord : Type 0
CitesFirstWord = (let words = codes "(" ∷ codes "wp" ∷ codes "wi" ∷ codes "wi" ∷ codes ")" ∷ codes "ABD" ∷ [] in cites here words (decoded_here words)) ≡ 2 ∷ []

-- A listed label that no letter names does not cite, and nothing does in a proof that does not decode.
abbrev pub CitesNothing : Type 0
CitesNothing =
    ((let words = codes "(" ∷ codes "wi" ∷ codes ")" ∷ codes "A" ∷ [] in cites here words (decoded_here words)) ≡ []) ×
    ((let words = codes "(" ∷ codes "wi" ∷ codes ")" ∷ codes "AABU" ∷ [] in cites here words (decoded_here words)) ≡ [])

-- The compressed proof of the theorem `t` cites by its word 1, all its six steps are done, and labels derive its statement.
abbrev pub IsDoneAndDerived : Type 0
IsDoneAndDerived = (cites_at whole_base 7 ≡ 1 ∷ []) × AreDoneAt whole_base 7 6 × IsDerivedAt whole_base 7

-- the same database with `$d` for these variables, and the theorem with the label `u`
abbrev pub base_with : List Said → BaseView
base_with apart =
    unlabelled_item Constants (codes "w(>)") ∷ unlabelled_item Variables (codes "pqr")
    ∷ labelled_item (codes "wp") Floating (codes "wp") ∷ labelled_item (codes "wq") Floating (codes "wq") ∷ labelled_item (codes "wr") Floating (codes "wr")
    ∷ labelled_item (codes "wi") Axiom (codes "w(p>q)")
    ∷ apart ++ record { kind = Theorem; label = Some (codes "u"); symbols = letters (codes "w((p>p)>(p>p))"); proof = proof } ∷ []

-- With `$d r q p $.` and the label `u` the theorem has the same view: the order of variables in pairs, and of pairs, does not count.
abbrev pub KeepsView : Type 0
KeepsView = AreSameViews (view_at whole_base 7) (view_at (base_with (unlabelled_item Disjoint (codes "rqp") ∷ [])) 7)

-- With `$d p q $.` it has another view, though `r` is no variable of the theorem: all active pairs count.
abbrev pub ChangesView : Type 0
ChangesView = AreSameViews (view_at whole_base 7) (view_at (base_with (unlabelled_item Disjoint (codes "pq") ∷ [])) 7) → ⊥

-- a place at which each label means the assertion with this frame
abbrev pub place_of : Frame → Setting
place_of frame = record { resolve = λ label. Assertion frame; active = [] }

-- `w p )` as an assertion without hypotheses
abbrev pub without_typing : Frame
without_typing = record { expression = bracketed.expression; hypotheses = []; pairs = [] }

-- The frame of `w p )` after `w p` has a `$f` for its variable. Without the `$f` there is no frame. So labels may mean the one, and not the
-- other.
abbrev pub HasTypedVariable : Type 0
HasTypedVariable = IsFrame bracketed × (IsFrame without_typing → ⊥) × HasFrames (place_of bracketed) × (HasFrames (place_of without_typing) → ⊥)
