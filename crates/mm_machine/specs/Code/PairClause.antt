-- Which variables are apart, and where they are numbered in a table.
use Rattle.std.specs.Prelude.{◌≡◌, ◌≢◌, ℕ, ◌+◌, ◌-◌, ◌*◌, ◌≤◌, ◌<◌, Bool, true, false, ◌⊎◌, ◌↔◌, Option, Some, None, List, [], ◌∷◌, ◌++◌, length, map, take, drop, slice_get}
use Rattle.std.specs.{Prelude.{Contains, All, Any, slice_index_or}, Int.{bit_at}}
use Rattle.mm_machine.specs.Language.Frame.{Symbol, Mandatory, ArePair, HasVariable}
use Rattle.mm_machine.specs.Language.Derivation.{AreApart, ShareVariable}
use Rattle.mm_machine.specs.Language.Faults.{LackPair}
use Rattle.mm_machine.specs.declared.ProofNumber.{ProofNumber}
use Rattle.mm_machine.specs.declared.ProofNumber.TheVariants.{P10, P11}
use Rattle.mm_machine.specs.declared.{gather.SlotPair.{SlotPair}, pattern.Entry.{Entry}, sets.Chunk.{Chunk}, apart.{KnownApart.{KnownApart}, KnownChunk.{KnownChunk}}, gather.PairRoom.{PairRoom}}
use Rattle.mm_machine.specs.Code.Flat.{IsEntryWithin}
use Rattle.mm_machine.specs.Language.Keys.{AreNumbered}

-- this slot is of the `$f` of this variable
abbrev pub IsSlot : List Mandatory → ℕ → Symbol → Type 0
IsSlot hs j v = (h : Mandatory) × (slice_get hs j ≡ Some h) × (h.floating ≡ true) × (slice_get h.expression 1 ≡ Some v)

-- the slot is of a `$f`
abbrev pub IsSomeSlot : List Mandatory → ℕ → Type 0
IsSomeSlot hs j = (v : Symbol) × IsSlot hs j v

-- the variable of a slot
abbrev pub variable_at : List Mandatory → ℕ → Symbol
variable_at hs j = slice_index_or (slice_index_or hs j (record { floating = true; expression = [] })).expression 1 (record { name = []; variable = false })

-- the variables of a pair of slots
abbrev pub slot_pair : List Mandatory → SlotPair → Symbol × Symbol
slot_pair hs pair = (variable_at hs pair.first, variable_at hs pair.second)

-- these are the slots of the pairs
pub record HasSlots (hs : List Mandatory) (pairs : List (Symbol × Symbol)) (slots : List SlotPair) : Type 0 where
  pub are : map (slot_pair hs) slots ≡ pairs
  pub some : All (λ p. IsSomeSlot hs p.first × IsSomeSlot hs p.second) slots

-- a pair is of these two, in one order or the other
abbrev pub IsPair : Symbol × Symbol → Symbol → Symbol → Type 0
IsPair p x y = ((p.0 ≡ x) × (p.1 ≡ y)) ⊎ ((p.0 ≡ y) × (p.1 ≡ x))

-- the two are different, and an active pair
abbrev pub Apart : List (Symbol × Symbol) → Symbol → Symbol → Type 0
Apart active x y = (x ≢ y) × ArePair active x y

-- two variables are one, or no active pair
abbrev pub NotApart : List (Symbol × Symbol) → Symbol → Symbol → Type 0
NotApart active x y = (x ≡ y) ⊎ ((x ≢ y) × (ArePair active x y → ⊥))

-- a number is one of a chunk: its bit is there
abbrev pub InChunk : Chunk → ℕ → Type 0
InChunk w n = (k : ℕ) × (k < 64) × (bit_at w.bits k ≡ 1) × (n ≡ 64 * w.at + k)

-- a number is in the set that these chunks are
abbrev pub HasNumber : List Chunk → ℕ → Type 0
HasNumber chunks n = (w : Chunk) × Contains chunks w × InChunk w n

-- a variable has its number in the set
abbrev pub IsIn : List Symbol → List Chunk → Symbol → Type 0
IsIn all chunks v = (n : ℕ) × HasNumber chunks n × (slice_get all n ≡ Some v)

-- two numbers are those of variables that are apart, and of variables that are not
abbrev pub ApartAt : List (Symbol × Symbol) → List Symbol → ℕ → ℕ → Type 0
ApartAt active all m n = (x y : Symbol) × (slice_get all m ≡ Some x) × (slice_get all n ≡ Some y) × Apart active x y

abbrev pub NotApartAt : List (Symbol × Symbol) → List Symbol → ℕ → ℕ → Type 0
NotApartAt active all m n = (x y : Symbol) × (slice_get all m ≡ Some x) × (slice_get all n ≡ Some y) × NotApart active x y

-- a variable is apart from each of a chunk
abbrev pub ApartFrom : List (Symbol × Symbol) → List Symbol → ℕ → Chunk → Type 0
ApartFrom active all m w = (n : ℕ) → InChunk w n → ApartAt active all m n

abbrev pub EachApart : List (Symbol × Symbol) → List Symbol → List Chunk → List Chunk → Type 0
EachApart active all xs ys = (m n : ℕ) → HasNumber xs m → HasNumber ys n → ApartAt active all m n

abbrev pub SomeNotApart : List (Symbol × Symbol) → List Symbol → List Chunk → List Chunk → Type 0
SomeNotApart active all xs ys = (m n : ℕ) × HasNumber xs m × HasNumber ys n × NotApartAt active all m n

-- one number is in both sets
abbrev pub SomeShared : List Chunk → List Chunk → Type 0
SomeShared xs ys = (n : ℕ) × HasNumber xs n × HasNumber ys n

-- each number of the chunks is one of these variables
abbrev pub AreNumbersOf : List Symbol → List Chunk → Type 0
AreNumbersOf all chunks = (n : ℕ) → HasNumber chunks n → n < length all

-- what is kept of pairs is so: each variable is apart from those that it is known to be apart from
pub record KnowsApart (active : List (Symbol × Symbol)) (all : List Symbol) (known : KnownApart) : Type 0 where
  pub first : (m : ℕ) → ApartFrom active all m (record { at = 0; bits = slice_index_or known.first.items m 0 })
  pub later : (r : KnownChunk) → Contains known.later.items r → ApartFrom active all r.variable r.chunk

-- what the pair clause keeps is so, in a run with these active pairs
pub record IsPairRoom {S : Type 0} (means : S → Symbol) (key : Symbol → ℕ) (active : List (Symbol × Symbol)) (room : PairRoom S) : Type 0 where
  pub numbered : AreNumbered key (map means room.variables.all.items) room.variables.places.items
  pub known : KnowsApart active (map means room.variables.all.items) room.known

-- the set that a slot's range has
abbrev pub entry_or : Option Entry → Entry
entry_or None = record { start = 0; end = 0; floor = 0 }
entry_or (Some e) = e

abbrev pub set_of : List Chunk → Entry → List Chunk
set_of chunks e = take (e.end - e.start) (drop e.start chunks)

abbrev pub set_at : List Chunk → List Entry → ℕ → List Chunk
set_at chunks spans j = set_of chunks (entry_or (slice_get spans j))

-- the set has the variables of an entry after its typecode, and no other symbol
abbrev pub IsGathered : List Symbol → List Chunk → List Symbol → Type 0
IsGathered all set e = (v : Symbol) → HasVariable (drop 1 e) v ↔ IsIn all set v

-- the variables of the entries of the first hypotheses that are `$f`
pub record Gathers (hypotheses : List Mandatory) (es : List (List Symbol)) (all : List Symbol) (chunks : List Chunk) (spans : List Entry)
    (n : ℕ) : Type 0 where
  pub count : length spans ≡ n
  pub within : (k : ℕ) (s : Entry) → slice_get spans k ≡ Some s → IsEntryWithin (length chunks) s
  pub numbers : AreNumbersOf all chunks
  pub right : (k : ℕ) (s : Entry) (h : Mandatory) (e : List Symbol) → slice_get spans k ≡ Some s → slice_get hypotheses k ≡ Some h → h.floating ≡ true →
      slice_get es k ≡ Some e → IsGathered all (set_of chunks s) e

-- a number is added to the set from a place on
pub record AddsNumber (start number : ℕ) (before after : List Chunk) : Type 0 where
  pub kept : take start after ≡ take start before
  pub long : start ≤ length after
  pub same : (n : ℕ) → HasNumber (drop start after) n ↔ (HasNumber (drop start before) n ⊎ (n ≡ number))

-- a symbol is added to the set from a place on, by its number, if it is a variable
abbrev pub GathersOne : ℕ → Symbol → List Symbol → List Chunk → List Chunk → Type 0
GathersOne start s all before after = ((s.variable ≡ false) × (after ≡ before))
    ⊎ ((s.variable ≡ true) × (n : ℕ) × (slice_get all n ≡ Some s) × AddsNumber start n before after)

-- behind the front comes the set of the variables of some symbols
pub record GathersSymbols (symbols all : List Symbol) (front chunks : List Chunk) : Type 0 where
  pub kept : take (length front) chunks ≡ front
  pub long : length front ≤ length chunks
  pub numbers : AreNumbersOf all (drop (length front) chunks)
  pub same : (v : Symbol) → HasVariable symbols v ↔ IsIn all (drop (length front) chunks) v

-- the variables of one more entry
pub record GathersEntry (floating : Bool) (e all : List Symbol) (before after : List Chunk) (spans more : List Entry) : Type 0 where
  pub span : Entry
  pub start : span.start ≡ length before
  pub end : span.end ≡ length after
  pub added : more ≡ spans ++ span ∷ []
  pub kept : take (length before) after ≡ before
  pub long : length before ≤ length after
  pub numbers : AreNumbersOf all (drop (length before) after)
  pub same : floating ≡ true → IsGathered all (drop (length before) after) e

-- the ranges are within a list of this length
abbrev pub AreSpans : ℕ → List Entry → Type 0
AreSpans n spans = (k : ℕ) (s : Entry) → slice_get spans k ≡ Some s → IsEntryWithin n s

-- what is found of mandatory pairs: they are kept apart, or the lower of the two numbers that hold
abbrev pub PairsSay : List (Symbol × Symbol) → (Symbol → List Symbol) → List (Symbol × Symbol) → Option ProofNumber → Type 0
PairsSay active given pairs None = All (λ pair. AreApart active (given pair.0) (given pair.1)) pairs
PairsSay active given pairs (Some P10) = Any (λ pair. ShareVariable (given pair.0) (given pair.1)) pairs
PairsSay active given pairs (Some P11) = (Any (λ pair. ShareVariable (given pair.0) (given pair.1)) pairs →
    ⊥) × Any (λ pair. LackPair active (given pair.0) (given pair.1)) pairs
PairsSay active given pairs _ = ⊥

-- the slots of the pairs are among this many
abbrev pub AreSlotPairs : ℕ → List SlotPair → Type 0
AreSlotPairs n pairs = All (λ p. (p.first < n) × (p.second < n)) pairs

-- this holds of the sets of the two slots
abbrev pub AtSlots : (List Chunk → List Chunk → Type 0) → List Chunk → List Entry → SlotPair → Type 0
AtSlots P chunks spans p = P (set_at chunks spans p.first) (set_at chunks spans p.second)

-- this holds at each pair
abbrev pub AtEachPair : (List Chunk → List Chunk → Type 0) → List Chunk → List Entry → List SlotPair → Type 0
AtEachPair P chunks spans pairs = (k : ℕ) (p : SlotPair) → slice_get pairs k ≡ Some p → AtSlots P chunks spans p

-- this holds at some pair
abbrev pub AtSomePair : (List Chunk → List Chunk → Type 0) → List Chunk → List Entry → List SlotPair → Type 0
AtSomePair P chunks spans pairs = (k : ℕ) × (p : SlotPair) × (slice_get pairs k ≡ Some p) × AtSlots P chunks spans p
