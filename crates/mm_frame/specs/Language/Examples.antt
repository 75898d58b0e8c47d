-- A small database, and what is sound, active and mandatory in it. Each of its symbols is one letter.
use Rattle.std.specs.Prelude.{◌≡◌, ℕ, ◌&&◌, nat_le, not, true, false, Some, None, List, [], ◌∷◌, ◌++◌, map, take, filter, codes}
use Rattle.mm_frame.specs.declared.FrameNumber.TheVariants.{F01, F02, F03, F04, F05, F06, F07, F08, F09, F10, F11, F12, F13, F14}
use Rattle.mm_machine.specs.Language.Frame.{Symbol, Mandatory, Hypothesis, Assertion, Inactive, Unknown}
use Rattle.mm_frame.specs.Language.Framing.{active_pairs, frame, resolve}
use Rattle.mm_statement.specs.Language.Item.{Kind, Constants, Variables, Disjoint, Floating, Essential, Axiom, Theorem, BlockStart, BlockEnd, Missing, Said}
use Rattle.mm_frame.specs.Language.Sound.{fault, sound_items}
use Rattle.mm_frame.specs.Language.Base.{AreLabelled, BaseView, fault_at, is_sound_at, is_shown_at, is_framed_at, is_proof_at}
use Rattle.mm_frame.specs.Language.Resolving.{IsLabelOf}
use Rattle.mm_frame.specs.Language.Laws.{is_active_at}

-- each letter as a symbol's name
abbrev pub letters : List ℕ → List (List ℕ)
letters text = map (λ b. b ∷ []) text

-- a letter as a symbol: `p`, `q` and `r` are variables, others are constants
abbrev pub letter_symbol : ℕ → Symbol
letter_symbol b = record { name = b ∷ []; variable = nat_le 112 b && nat_le b 114 }

-- letters as an expression
abbrev pub letter_symbols : List ℕ → List Symbol
letter_symbols text = map letter_symbol text

-- the variable `p`
abbrev pub p : Symbol
p = letter_symbol 112

-- the variable `q`
abbrev pub q : Symbol
q = letter_symbol 113

-- the variable `r`
abbrev pub r : Symbol
r = letter_symbol 114

-- a mandatory `$f` with this typecode and this variable
abbrev pub typing : List ℕ → Mandatory
typing text = record { floating = true; expression = letter_symbols text }

-- a statement without a label
abbrev pub unlabelled_item : Kind → List ℕ → Said
unlabelled_item kind text = record { kind = kind; label = None; symbols = letters text; proof = [] }

-- a statement with this label
abbrev pub labelled_item : List ℕ → Kind → List ℕ → Said
labelled_item label kind text = record { kind = kind; label = Some label; symbols = letters text; proof = [] }

-- `$c w ( > ) $.` `$v p q r $.` `wp $f w p $.` `wq $f w q $.` `wr $f w r $.` `wi $a w ( p > q ) $.` `$d p q r $.`
abbrev pub database : List Said
database =
    unlabelled_item Constants (codes "w(>)") ∷ unlabelled_item Variables (codes "pqr")
    ∷ labelled_item (codes "wp") Floating (codes "wp") ∷ labelled_item (codes "wq") Floating (codes "wq") ∷ labelled_item (codes "wr") Floating (codes "wr")
    ∷ labelled_item (codes "wi") Axiom (codes "w(p>q)") ∷ unlabelled_item Disjoint (codes "pqr") ∷ []

-- Each statement of the database is sound: none is passed over.
abbrev pub AllAreSound : Type 0
AllAreSound = sound_items database ≡ database

-- The `$d` of three variables is three pairs, which are active after it.
abbrev pub ThreePairsAreActive : Type 0
ThreePairsAreActive = active_pairs database ≡ (p, q) ∷ (p, r) ∷ (q, r) ∷ []

-- A `$d` in a block that has ended gives no pair.
abbrev pub PairsEndWithTheirBlock : Type 0
PairsEndWithTheirBlock =
    active_pairs (take 6 database ++ unlabelled_item BlockStart [] ∷ unlabelled_item Disjoint (codes "pqr") ∷ unlabelled_item BlockEnd [] ∷ []) ≡ []

-- The frame of `ax $a w ( q > p ) $.` after them: its mandatory variables are `p` and `q`, so its mandatory hypotheses are `wp` and `wq`,
-- in the order of occurrence, and one of the three pairs is mandatory.
abbrev pub HasOneMandatoryPair : Type 0
HasOneMandatoryPair = frame database (labelled_item (codes "ax") Axiom (codes "w(q>p)")) ≡ record {
  expression = letter_symbols (codes "w(q>p)");
  hypotheses = typing (codes "wp") ∷ typing (codes "wq") ∷ [];
  pairs = (p, q) ∷ [];
}

-- In a block with `h $e w q $.` the frame of `th $p w p $.` has the variable `q` too, and `h` is a mandatory hypothesis.
abbrev pub CountsEssentials : Type 0
CountsEssentials = frame (database ++ unlabelled_item BlockStart [] ∷ labelled_item (codes "h") Essential (codes "wq") ∷ [])
    (labelled_item (codes "th") Theorem (codes "wp")) ≡ record {
      expression = letter_symbols (codes "wp");
      hypotheses = typing (codes "wp") ∷ typing (codes "wq") ∷ record { floating = false; expression = letter_symbols (codes "wq") } ∷ [];
      pairs = (p, q) ∷ [];
    }

-- The label of an active `$f` means its expression, and a label that no statement has is unknown.
abbrev pub MeansItsExpression : Type 0
MeansItsExpression = (resolve database (codes "wp") ≡ Hypothesis (letter_symbols (codes "wp"))) × (resolve database (codes "h") ≡ Unknown)

-- The label `wi` means its own frame, which has no pairs, though the `$d` after it is active now.
abbrev pub MeansItsFrame : Type 0
MeansItsFrame = resolve database (codes "wi") ≡ Assertion (record {
  expression = letter_symbols (codes "w(p>q)");
  hypotheses = typing (codes "wp") ∷ typing (codes "wq") ∷ [];
  pairs = [];
})

-- After a block the label of a `$e` in it is inactive.
abbrev pub EndsWithItsBlock : Type 0
EndsWithItsBlock = resolve (database ++ unlabelled_item BlockStart [] ∷ labelled_item (codes "h") Essential (codes "wp")
    ∷ unlabelled_item BlockEnd [] ∷ []) (codes "h") ≡ Inactive

-- One statement for each of the faults F01 to F11, after the database and, for some, one more item.
abbrev pub HasEachFault : Type 0
HasEachFault = (fault database (unlabelled_item Constants []) ≡ Some (1, F01))
    × (fault (database ++ unlabelled_item BlockStart [] ∷ []) (unlabelled_item Constants (codes "x")) ≡ Some (0, F02))
    × (fault database (unlabelled_item Constants (codes "xx")) ≡ Some (2, F03))
    × (fault database (unlabelled_item Constants (codes "p")) ≡ Some (1, F04))
    × (fault (database ++ labelled_item (codes "h") Axiom (codes "wp") ∷ []) (unlabelled_item Variables (codes "h")) ≡ Some (1, F05))
    × (fault database (labelled_item (codes "wp") Axiom (codes "wp")) ≡ Some (0, F06))
    × (fault database (labelled_item (codes "p") Axiom (codes "wp")) ≡ Some (0, F07))
    × (fault database (labelled_item (codes "ax") Axiom (codes "pw")) ≡ Some (2, F08))
    × (fault database (unlabelled_item Disjoint (codes "pw")) ≡ Some (2, F09))
    × (fault database (labelled_item (codes "ax") Axiom (codes "wx")) ≡ Some (3, F10))
    × (fault (database ++ unlabelled_item Variables (codes "x") ∷ []) (labelled_item (codes "ax") Axiom (codes "wx")) ≡ Some (3, F11))

-- A second `$f` of a variable, `wx $f w p $.`, has the fault F12, at its word 3, which is the variable.
abbrev pub IsTypedTwice : Type 0
IsTypedTwice = fault database (labelled_item (codes "wx") Floating (codes "wp")) ≡ Some (3, F12)

-- After `$c w x $.` `$v p $.` `${` `wp $f w p $.` `$}` a `$f` with another typecode, `xp $f x p $.`, has the fault F13, though the first
-- one is not active any more.
abbrev pub IsTypedOtherwise : Type 0
IsTypedOtherwise = fault (unlabelled_item Constants (codes "wx") ∷ unlabelled_item Variables (codes "p")
    ∷ unlabelled_item BlockStart [] ∷ labelled_item (codes "wp") Floating (codes "wp") ∷ unlabelled_item BlockEnd [] ∷ [])
    (labelled_item (codes "xp") Floating (codes "xp")) ≡ Some (3, F13)

-- A base that says the database, and then `${` `h $e w p $.` `th $p w p $.` `$}`, a `$f` that is at fault, a missing file, and `tq $p w q $.`
abbrev pub base : BaseView
base = database ++ unlabelled_item BlockStart [] ∷ labelled_item (codes "h") Essential (codes "wp") ∷ labelled_item (codes "th") Theorem (codes "wp")
    ∷ unlabelled_item BlockEnd [] ∷ labelled_item (codes "wx") Floating (codes "wp") ∷ unlabelled_item Missing []
    ∷ labelled_item (codes "tq") Theorem (codes "wq") ∷ []

-- the numbers of its items
abbrev pub all_numbers : List ℕ
all_numbers = 0 ∷ 1 ∷ 2 ∷ 3 ∷ 4 ∷ 5 ∷ 6 ∷ 7 ∷ 8 ∷ 9 ∷ 10 ∷ 11 ∷ 12 ∷ 13 ∷ []

-- Two of its items are at fault: the second `$f` of `p`, and the missing file.
abbrev pub HasTwoFaults : Type 0
HasTwoFaults = (filter (λ i. not (is_sound_at base i)) all_numbers ≡ 11 ∷ 12 ∷ []) × (fault_at base 11 ≡ Some (3, F12)) × (fault_at base 12 ≡ Some (1, F14))

-- Its sound `$f`, `$e`, `$a` and `$p` are these; three of them are assertions, and two of these have proofs.
abbrev pub ShowsSeven : Type 0
ShowsSeven = (filter (is_shown_at base) all_numbers ≡ 2 ∷ 3 ∷ 4 ∷ 5 ∷ 8 ∷ 9 ∷ 13 ∷ [])
    × (filter (is_framed_at base) all_numbers ≡ 5 ∷ 9 ∷ 13 ∷ [])
    × (filter (is_proof_at base) all_numbers ≡ 9 ∷ 13 ∷ [])

-- The `$e` is active in its block, and not after it. The `$f` before the block is still active after it.
abbrev pub IsActiveInBlock : Type 0
IsActiveInBlock = (is_active_at base 9 8 ≡ true) × (is_active_at base 13 8 ≡ false) × (is_active_at base 13 2 ≡ true)

-- At the last item, `wi` is the label of item 5. Neither the item at fault has a label, nor is the own label of the last one known there.
abbrev pub HasItsLabel : Type 0
HasItsLabel = IsLabelOf base 13 5 (codes "wi") × (IsLabelOf base 13 11 (codes "wx") → ⊥) × (IsLabelOf base 13 13 (codes "tq") → ⊥)

-- Each of its `$f`, `$e`, `$a` and `$p` has a label. An `$a` without one has none.
abbrev pub EachHasLabel : Type 0
EachHasLabel = AreLabelled base × (AreLabelled (unlabelled_item Axiom (codes "wp") ∷ []) → ⊥)
