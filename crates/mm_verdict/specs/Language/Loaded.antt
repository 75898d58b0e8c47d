-- Items of a base as the lasting expressions of a machine, by their numbers, with numbers in place of the names of symbols.
use Rattle.std.specs.Prelude.{◌≡◌, ◌≢◌, ◌<◌, ℕ, true, List, [], length, All}
use Rattle.mm_frame.specs.declared.base.Base.{Base}
use Rattle.mm_frame.specs.Language.Base.{BaseView, is_shown_at, is_framed_at, before, said_at, hypothesis_at, frame_at}
use Rattle.mm_frame.specs.Language.Answering.{IsBase, IsBaseBy}
use Rattle.mm_frame.specs.Language.Framing.{mandatory_numbers}
use Rattle.mm_machine.specs.Language.Frame.{Mandatory, AreSameFrame}
use Rattle.mm_machine.specs.Language.Lasting.{IsCited, cited_frame, lasting_or}
use Rattle.mm_machine.specs.Language.Numbering.{unnaming}
use Rattle.mm_machine.specs.Language.NumberedSymbols.{by_number}
use Rattle.mm_machine.specs.Language.Renaming.{renamed_mandatory, renamed_frame}
use Rattle.mm_machine.specs.declared.named.Cited.{Cited}
use Rattle.mm_machine.specs.declared.symbol.NumberedSymbol.{NumberedSymbol}

-- this is the expression of the item with a number, as a mandatory hypothesis has it; of an item that has none it may be any
abbrev pub IsItemOf : Base → ℕ → Mandatory → Type 0
IsItemOf code j h = (names : List (List ℕ)) (view : BaseView) → IsBaseBy names view code → is_shown_at view j ≡ true
    → h ≡ renamed_mandatory (unnaming names) (hypothesis_at view j)

-- each of these that has a symbol is the expression of the item with its number
abbrev pub AreItemsOf : Base → List Mandatory → Type 0
AreItemsOf code lasting = (j : ℕ) → (lasting_or lasting j).expression ≢ [] → IsItemOf code j (lasting_or lasting j)

-- the expression of an item is one of these, by its number
abbrev pub HasItem : Base → List Mandatory → ℕ → Type 0
HasItem code lasting j = (j < length lasting) × IsItemOf code j (lasting_or lasting j)

-- so are those of its hypotheses, if it is an assertion
abbrev pub HasHypotheses : Base → List Mandatory → ℕ → Type 0
HasHypotheses code lasting j = (view : BaseView) → IsBase view code → is_framed_at view j ≡ true
    → All (HasItem code lasting) (mandatory_numbers (before view j) (said_at view j))

-- an item is loaded, and with an assertion its hypotheses
abbrev pub IsLoaded : Base → List Mandatory → ℕ → Type 0
IsLoaded code lasting j = HasItem code lasting j × HasHypotheses code lasting j

-- the item with this number is a sound `$a` or `$p`
abbrev pub IsAssertionOf : Base → ℕ → Type 0
IsAssertionOf code j = (view : BaseView) × IsBase view code × (is_framed_at view j ≡ true)

-- the expressions of what is cited are there, as those of items
pub record HasCited (code : Base) (lasting : List Mandatory) (c : Cited NumberedSymbol) : Type 0 where
  pub expression : HasItem code lasting c.expression
  pub hypotheses : All (HasItem code lasting) c.hypotheses.now

-- what is cited can be cited by each machine that has loaded it and its hypotheses
abbrev pub CanBeCited : Base → Cited NumberedSymbol → Type 0
CanBeCited code c = (lasting : List Mandatory) → HasCited code lasting c → IsCited by_number lasting c

-- with these lasting expressions what is cited has the frame of the assertion with a number
abbrev pub CitesItem : Base → ℕ → List Mandatory → Cited NumberedSymbol → Type 0
CitesItem code j lasting c = (names : List (List ℕ)) (view : BaseView) → IsBaseBy names view code → is_framed_at view j ≡ true
    → AreSameFrame (cited_frame by_number lasting c) (renamed_frame (unnaming names) (frame_at view j))
