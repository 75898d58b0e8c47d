-- A compressed proof over a small database: what it decodes to, which labels its steps stand for, its view and its verdict.
--
-- The database of mm_frame's examples is followed by `t $p w ( ( p > p ) > ( p > p ) ) $= ( wi ) AABZCB $.`
use Rattle.std.specs.Prelude.{◌≡◌, ℕ, Some, Ok, Err, List, [], ◌∷◌, ◌++◌, codes}
use Rattle.mm_frame.specs.Language.Base.{BaseView}
use Rattle.mm_frame.specs.Language.Examples.{database, letters, p, q, r, letter_symbols, typing}
use Rattle.mm_machine.specs.Language.Frame.{Assertion}
use Rattle.mm_frame.specs.Language.Framing.{setting}
use Rattle.mm_frame.specs.mm_statement.Language.Item.{Said, Theorem}
use Rattle.mm_machine.specs.declared.ProofNumber.TheVariants.{P06}
use Rattle.mm_machine.specs.declared.Spot.{Spot}
use Rattle.mm_machine.specs.declared.Verdict.TheVariants.{Proved}
use Rattle.mm_verdict.specs.Language.Decoding.{decoding}
use Rattle.mm_machine.specs.Language.Expansion.{expansion, Step, Named, Saved, Save}
use Rattle.mm_verdict.specs.Language.VerdictAt.{decoding_at, IsVerdictAt}
use Rattle.mm_verdict.specs.Language.View.{view_at}

-- the words of the proof
abbrev pub proof : List (List ℕ)
proof = codes "(" ∷ codes "wi" ∷ codes ")" ∷ codes "AABZCB" ∷ []

-- the theorem
abbrev pub theorem : Said
theorem = record { kind = Theorem; label = Some (codes "t"); symbols = letters (codes "w((p>p)>(p>p))"); proof = proof }

-- the database, and the theorem after it, which has number 7
abbrev pub whole_base : BaseView
whole_base = database ++ theorem ∷ []

-- a letter of the last word of the proof, by its number there
abbrev pub spot_in_last : ℕ → Spot
spot_in_last n = record { word = 3; letter = n }

-- The letters: `A` is the mandatory hypothesis `wp`, `B` the listed label `wi`, `Z` saves what was derived last, and `C`, the first number
-- after the labels, is what was saved first.
abbrev pub steps : List Step
steps = Named (codes "wp") ∷ Named (codes "wp") ∷ Named (codes "wi") ∷ Save ∷ Saved 0 ∷ Named (codes "wi") ∷ []

-- The proof decodes to six steps. Each is reported at its letter, and the end of the proof at the word after the last.
abbrev pub HasSixSteps : Type 0
HasSixSteps = decoding_at whole_base 7 ≡ Ok (record {
  steps = steps;
  spots = spot_in_last 0 ∷ spot_in_last 1 ∷ spot_in_last 2 ∷ spot_in_last 3 ∷ spot_in_last 4 ∷ spot_in_last 5 ∷ [];
  close = record { word = 4; letter = 0 };
})

-- Without the `Z` nothing is saved, and `C` names nothing: the fault P06, at that letter.
abbrev pub NamesNothing : Type 0
NamesNothing = decoding (setting database) (codes "wp" ∷ []) (codes "(" ∷ codes "wi" ∷ codes ")" ∷ codes "AABCB" ∷ [])
    ≡ Err (record { number = P06; spot = spot_in_last 3 })

-- The steps stand for seven labels: those of `( p > p )`, which are saved, the same once more, and `wi`.
abbrev pub StandForSevenLabels : Type 0
StandForSevenLabels = expansion (setting database) steps ≡ Some (record {
  labels = codes "wp" ∷ codes "wp" ∷ codes "wi" ∷ codes "wp" ∷ codes "wp" ∷ codes "wi" ∷ codes "wi" ∷ [];
  saved = (codes "wp" ∷ codes "wp" ∷ codes "wi" ∷ []) ∷ [];
})

-- The view of the theorem: its proof, its expression, its one mandatory hypothesis, the three pairs that are active at it, and what `wi`
-- means there. `wq`, `wr` and the places of the statements are not in it: an edit that changes these alone runs no proof. Nor is the label
-- `t`; but a theorem with another label was not there before, so it is run.
abbrev pub HasThisView : Type 0
HasThisView = view_at whole_base 7 ≡ record {
  proof = proof;
  expression = letter_symbols (codes "w((p>p)>(p>p))");
  hypotheses = typing (codes "wp") ∷ [];
  active = (p, q) ∷ (p, r) ∷ (q, r) ∷ [];
  meanings = Assertion (record { expression = letter_symbols (codes "w(p>q)"); hypotheses = typing (codes "wp") ∷ typing (codes "wq") ∷ []; pairs = [] }) ∷ [];
}

-- The verdict on the proof: it is proved.
abbrev pub IsProved : Type 0
IsProved = IsVerdictAt whole_base 7 Proved
