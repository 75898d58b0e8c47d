-- What is known of a base's items, by their numbers, and what the labels of a proof name.
use Rattle.std.specs.Prelude.{◌≡◌, ◌≢◌, ℕ, ◌≤◌, true, Some, List, [], length, slice_get, All}
use Rattle.mm_frame.specs.declared.base.Base.{Base}
use Rattle.mm_frame.specs.declared.base.Resolved.{Resolved}
use Rattle.mm_frame.specs.declared.base.Resolved.TheVariants as answers
use Rattle.mm_frame.specs.Language.Base.{BaseView, is_framed_at}
use Rattle.mm_frame.specs.Language.Answering.{IsBase}
use Rattle.mm_machine.specs.Language.Frame.{Mandatory}
use Rattle.mm_machine.specs.Language.Keys.{key_by_number}
use Rattle.mm_machine.specs.Language.Lasting.{HoldsLasting, IsCited, lasting_of, lasting_or}
use Rattle.mm_verdict.specs.Language.DecodedSteps.{AreEntries, IsEntry, entry_steps}
use Rattle.mm_verdict.specs.Language.Loaded.{CanBeCited, CitesItem, HasItem, IsAssertionOf, IsLoaded}
use Rattle.mm_machine.specs.Language.NamedSteps.{AreUses, AreUsesWithin}
use Rattle.mm_machine.specs.Language.NumberedSymbols.{by_code, by_number}
use Rattle.mm_verdict.specs.Code.NumberedBase.{ByNames, numbered_frame, numbered_setting}
use Rattle.mm_machine.specs.declared.machine.Machine.{Machine}
use Rattle.mm_machine.specs.declared.named.Cited.{Cited}
use Rattle.mm_machine.specs.declared.symbol.CodedSymbol.{CodedSymbol}
use Rattle.mm_machine.specs.declared.symbol.NumberedSymbol.{NumberedSymbol}
use Rattle.mm_verdict.specs.declared.known.Known.{Known}
use Rattle.mm_machine.specs.declared.named.Use.{Use}
use Rattle.mm_machine.specs.declared.named.Use.TheVariants as uses

-- what a label names is loaded
abbrev pub IsThere : Base → List Mandatory → Resolved → Type 0
IsThere code lasting (answers.Hypothesis j) = IsLoaded code lasting j
IsThere code lasting (answers.Assertion j) = IsLoaded code lasting j
IsThere code lasting _ = Unit {0}

-- each lasting expression of a machine that has a symbol is that of an item of this base, which is loaded
pub record HasItems (code : Base) (machine : Machine CodedSymbol) : Type 0 where
  pub holds : HoldsLasting by_code key_by_number machine
  pub loaded : (j : ℕ) → (lasting_or (lasting_of by_code machine) j).expression ≢ [] → IsLoaded code (lasting_of by_code machine) j

-- there are as many lasting expressions as before, and the items that were among them still are
pub record KeepsItems (code : Base) (old new : Machine CodedSymbol) : Type 0 where
  pub count : length (lasting_of by_code new) ≡ length (lasting_of by_code old)
  pub stay : (j : ℕ) → HasItem code (lasting_of by_code old) j → HasItem code (lasting_of by_code new) j

-- what is kept is of this base
abbrev pub AreKnownOf : Base → Known → Type 0
AreKnownOf code known = HasItems code known.machine

-- an assertion of this base can be cited by these lasting expressions
pub record IsCitedOf (code : Base) (lasting : List Mandatory) (c : Cited NumberedSymbol) : Type 0 where
  pub item : IsAssertionOf code c.expression
  pub citable : CanBeCited code c
  pub cited : IsCited by_number lasting c

-- each assertion that is cited can be, by what is known
abbrev pub AreCited : Base → Known → Type 0
AreCited code known = All (IsCitedOf code (lasting_of by_code known.machine)) known.cited.items

-- the label is an entry of the table of a proof in this base, of an item up to this number
pub record IsNamedBy (code : Base) (count : ℕ) (label : Resolved) : Type 0 where
  pub view : BaseView
  pub i : ℕ
  pub base : IsBase view code
  pub within : i ≤ count
  pub entry : IsEntry view i label

-- the assertion with this number has no mandatory hypothesis and is not too long
abbrev pub TakesNothing : Base → ℕ → Type 0
TakesNothing code j = ByNames code (λ names view. is_framed_at view j ≡ true
    → ((numbered_frame names view j).hypotheses ≡ []) × (length (numbered_frame names view j).expression ≤ 1000000))

-- the use is of what the label resolves to, by these lasting expressions and by these assertions that are cited
abbrev pub IsUseOf : Base → List Mandatory → List (Cited NumberedSymbol) → Use → Resolved → Type 0
IsUseOf code lasting cited (uses.Lasting n) (answers.Hypothesis j) = (n ≡ j) × HasItem code lasting n
IsUseOf code lasting cited (uses.Lasting n) (answers.Assertion j) = (n ≡ j) × HasItem code lasting n × TakesNothing code j
IsUseOf code lasting cited (uses.Assertion n) (answers.Assertion j) =
    (c : Cited NumberedSymbol) × (slice_get cited n ≡ Some c) × CitesItem code j lasting c
IsUseOf code lasting cited uses.Nothing answers.Inactive = Unit {0}
IsUseOf code lasting cited uses.Nothing answers.Unknown = Unit {0}
IsUseOf code lasting cited _ _ = ⊥

-- the same, by what is known
abbrev pub IsUseIn : Base → Known → Use → Resolved → Type 0
IsUseIn code known = IsUseOf code (lasting_of by_code known.machine) known.cited.items

-- what one more label resolves to is known, and this is its use
pub record IsOneMore (code : Base) (old new : Known) (used : Use) (label : Resolved) : Type 0 where
  pub machine : new.machine ≡ old.machine
  pub uses : new.uses ≡ old.uses
  pub stay : (n : ℕ) (c : Cited NumberedSymbol) → slice_get old.cited.items n ≡ Some c → slice_get new.cited.items n ≡ Some c
  pub cited : AreCited code new
  pub stands : IsUseIn code new used label

-- this is what these labels name in a base, as a machine runs it
pub record AreNamesOf (code : Base) (labels : List Resolved) (known : Known) : Type 0 where
  pub of_base : AreKnownOf code known
  pub cited : AreCited code known
  pub within : AreUsesWithin known.machine known.cited.items known.uses.items
  pub means : ByNames code (λ names view. (i : ℕ) → AreEntries view i labels
      → AreUses by_code by_number known.machine known.cited.items known.uses.items (numbered_setting names view i) (entry_steps view labels))
