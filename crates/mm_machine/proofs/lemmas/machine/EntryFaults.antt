-- What is found wrong with entries, place by place.
use Rattle.std.proofs.{lemmas.{Grind.{elements}, Option.{slice_get_within, get_or_from_slice_get, same_Some}}, Common.{rules, ◌≡◌, ℕ, ◌+◌, ◌<◌, ◌≤◌, Some, List, length, drop, arith, slice_get}}
use Rattle.mm_machine.specs.{Language.{Frame.{Symbol, Mandatory, Frame}, Typing.{IsFrame}, Faults.{AnyZip}}, Code.{Citation.{GivesEntries, AreAllTyped}, PairClause.{IsSlot}}}
use Rattle.mm_machine.proofs.lemmas.{verdicts.Unique.{substituted-typing}, lists.Zips.{any_place, zip_at}}

-- it holds at this place
pub record AreAt {A B : Type 0} (R : A → B → Type 0) (xs : List A) (ys : List B) (k : ℕ) : Type 0 where
  pub x : A
  pub y : B
  pub first : slice_get xs k ≡ Some x
  pub second : slice_get ys k ≡ Some y
  pub holds : R x y

-- it holds at no place so far
abbrev pub NoneUpTo : {A B : Type 0} → (A → B → Type 0) → List A → List B → ℕ → Type 0
NoneUpTo R xs ys n = (k : ℕ) → k < n → AreAt R xs ys k → ⊥

pub none_more : {A B : Type 0} (R : A → B → Type 0) (xs : List A) (ys : List B) (n : ℕ) (x : A) (y : B) → slice_get xs n ≡ Some x → slice_get ys n ≡ Some y → (R x y → ⊥) → NoneUpTo R xs ys n → NoneUpTo R xs ys (n + 1)
none_more R xs ys n x y a b r f k l at = search (rules, same_Some) steps 500000

pub none_all : {A B : Type 0} (R : A → B → Type 0) (xs : List A) (ys : List B) (n : ℕ) → length xs ≤ n → NoneUpTo R xs ys n → AnyZip R xs ys → ⊥
none_all R xs ys n l f a =
    let p = any_place R xs ys a in
    let w = slice_get_within xs p.0 p.1 p.3 in
    f p.0 (omega arith) (record { x = p.1; y = p.2; first = p.3; second = p.4; holds = p.5 })

-- what is given for the variable of a slot
pub slot_gives : (hs : List Mandatory) (given : Symbol → List Symbol) (es : List (List Symbol)) → AreAllTyped hs → GivesEntries given hs es →
    (j : ℕ) (v : Symbol) → IsSlot hs j v → (e : List Symbol) × (slice_get es j ≡ Some e) × (given v ≡ drop 1 e)
slot_gives hs given es is gives j v slot = grind (arith, elements, get_or_from_slice_get, slice_get_within, substituted-typing, zip_at) steps 200000

pub hypotheses_known : (frame : Frame) → IsFrame frame → AreAllTyped frame.hypotheses
hypotheses_known frame is = record { typings = is.typings; typed = is.hypotheses_typed }
