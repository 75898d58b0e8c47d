-- A small database, and what is sound, active and mandatory in it, by computing.
use Rattle.std.proofs.Common.{◌≡◌, ℕ, true, false, Some, None, List, [], ◌∷◌, ◌++◌, refl, codes}
use Rattle.mm_machine.specs.Language.Frame.{Symbol, Hypothesis, Assertion, Unknown, Inactive}
use Rattle.mm_statement.specs.Language.Item.{Kind, Constants, Variables, Disjoint, Floating, Essential, Axiom, Theorem, BlockStart, BlockEnd, Said, item_at, has}
use Rattle.mm_frame.specs.{declared.FrameNumber.TheVariants.{F06, F08, F12}, Language.Sound.{fault, sound_items}}
use Rattle.mm_frame.specs.Language.{Framing.{resolve, active_pairs, setting_of, before_of, expression, mandatory_numbers}, Scope.{active_variables}}
use Rattle.mm_frame.specs.Code.LastItems.{last_where, is_active_last, declares_variable, types, carries}

abbrev plain : Kind → List (List ℕ) → Said
plain kind symbols = record { kind = kind; label = None; symbols = symbols; proof = [] }

abbrev labelled : List ℕ → Kind → List (List ℕ) → Said
labelled label kind symbols = record { kind = kind; label = Some label; symbols = symbols; proof = [] }

abbrev wff : List ℕ
wff = codes "wff"

abbrev turnstile : List ℕ
turnstile = codes "|-"

abbrev arrow : List ℕ
arrow = codes "->"

abbrev left : List ℕ
left = codes "("

abbrev right : List ℕ
right = codes ")"

abbrev p : List ℕ
p = codes "p"

abbrev q : List ℕ
q = codes "q"

abbrev five : List Said
five = plain Constants (wff ∷ turnstile ∷ arrow ∷ left ∷ right ∷ []) ∷ plain Variables (p ∷ q ∷ []) ∷ labelled (codes "wp") Floating (wff ∷ p ∷ []) ∷
    labelled (codes "wq") Floating (wff ∷ q ∷ []) ∷ labelled (codes "wi") Axiom (wff ∷ left ∷ p ∷ arrow ∷ q ∷ right ∷ []) ∷ []

abbrev constant : List ℕ → Symbol
constant name = record { name = name; variable = false }

abbrev variable : List ℕ → Symbol
variable name = record { name = name; variable = true }

-- all five are sound
all_sound : sound_items five ≡ five
all_sound = refl

-- what the labels mean after them
wp_is : resolve five (codes "wp") ≡ Hypothesis (constant wff ∷ variable p ∷ [])
wp_is = refl

wi_is : resolve five (codes "wi") ≡ Assertion (record {
  expression = constant wff ∷ constant left ∷ variable p ∷ constant arrow ∷ variable q ∷ constant right ∷ [];
  hypotheses = record { floating = true; expression = constant wff ∷ variable p ∷ [] } ∷ record { floating = true; expression = constant wff ∷ variable q ∷ [] } ∷ [];
  pairs = [];
})
wi_is = refl

unknown_is : resolve five (codes "wz") ≡ Unknown
unknown_is = refl

-- `wx $f x $.` has F08 at its first symbol
short_float : fault five (labelled (codes "wx") Floating (codes "x" ∷ [])) ≡ Some (2, F08)
short_float = refl

-- a second `$f` of a variable
typed_twice : fault five (labelled (codes "wx") Floating (wff ∷ p ∷ [])) ≡ Some (3, F12)
typed_twice = refl

-- the block of the sixth line
abbrev block : List Said
block = plain BlockStart [] ∷ labelled (codes "mi") Essential (turnstile ∷ p ∷ []) ∷ labelled (codes "ma") Essential (turnstile ∷ left ∷ p ∷ arrow ∷ q ∷ right ∷ []) ∷ labelled (codes "mp") Axiom (turnstile ∷ q ∷ []) ∷ plain BlockEnd [] ∷ []

block_sound : sound_items (five ++ block) ≡ five ++ block
block_sound = refl

mi_is : resolve (five ++ block) (codes "mi") ≡ Inactive
mi_is = refl

-- the mandatory hypotheses of `mp`, in order: wp wq mi ma
mp_is : resolve (five ++ block) (codes "mp") ≡ Assertion (record {
  expression = constant turnstile ∷ variable q ∷ [];
  hypotheses = record { floating = true; expression = constant wff ∷ variable p ∷ [] } ∷ record { floating = true; expression = constant wff ∷ variable q ∷ [] }
      ∷ record { floating = false; expression = constant turnstile ∷ variable p ∷ [] } ∷ record { floating = false; expression = constant turnstile ∷ constant left ∷ variable p ∷ constant arrow ∷ variable q ∷ constant right ∷ [] } ∷ [];
  pairs = [];
})
mp_is = refl

-- `w2 $p wff ( p -> ( p -> q ) )` after the five: its place and statement
abbrev with_w2 : List Said
with_w2 = five ++ labelled (codes "w2") Theorem (wff ∷ left ∷ p ∷ arrow ∷ left ∷ p ∷ arrow ∷ q ∷ right ∷ right ∷ []) ∷ []

w2_wi : (setting_of with_w2 5).resolve (codes "wi") ≡ resolve five (codes "wi")
w2_wi = refl

w2_states : expression (before_of with_w2 5) (item_at with_w2 5) ≡ constant wff ∷ constant left ∷ variable p ∷ constant arrow ∷ constant left ∷ variable p ∷ constant arrow ∷ variable q ∷ constant right ∷ constant right ∷ []
w2_states = refl

-- a `$d`, its pair, and a statement at fault that is passed over
pairs_are : active_pairs (five ++ plain Disjoint (p ∷ q ∷ []) ∷ []) ≡ (variable p, variable q) ∷ []
pairs_are = refl

passed_over : resolve (sound_items (five ++ labelled (codes "bad") Axiom (wff ∷ codes "r" ∷ []) ∷ [])) (codes "bad") ≡ Unknown
passed_over = refl

label_taken : fault five (labelled (codes "wi") Axiom (wff ∷ p ∷ [])) ≡ Some (0, F06)
label_taken = refl

-- the last items that declare, type and carry a name
declared_at : last_where (declares_variable q) five ≡ Some 1
declared_at = refl

typed_at : last_where (types p) five ≡ Some 2
typed_at = refl

carried_at : last_where (carries (codes "wi")) five ≡ Some 4
carried_at = refl

-- a constant is declared by no `$v`
none_declares : last_where (declares_variable wff) five ≡ None
none_declares = refl

-- the mandatory hypotheses of a statement, by their numbers
numbers_are : mandatory_numbers five (labelled (codes "w2") Axiom (wff ∷ q ∷ arrow ∷ p ∷ [])) ≡ 2 ∷ 3 ∷ []
numbers_are = refl

number_is : mandatory_numbers five (labelled (codes "w2") Axiom (wff ∷ q ∷ [])) ≡ 3 ∷ []
number_is = refl

-- a variable of two blocks
abbrev twice : List Said
twice = plain BlockStart [] ∷ plain Variables (p ∷ []) ∷ plain BlockEnd [] ∷ plain BlockStart [] ∷ plain Variables (p ∷ []) ∷ []

declared_twice : last_where (declares_variable p) twice ≡ Some 4
declared_twice = refl

active_there : is_active_last twice (Some 4) ≡ true
active_there = refl

active_no_more : is_active_last (twice ++ plain BlockEnd [] ∷ []) (Some 4) ≡ false
active_no_more = refl

-- why the items have to be sound: here the last `$v` is at fault, and is not active where the first one still is
abbrev unsound : List Said
unsound = plain Variables (p ∷ []) ∷ plain BlockStart [] ∷ plain Variables (p ∷ []) ∷ plain BlockEnd [] ∷ []

active_by_the_first : has (active_variables unsound) p ≡ true
active_by_the_first = refl

inactive_by_the_last : is_active_last unsound (last_where (declares_variable p) unsound) ≡ false
inactive_by_the_last = refl
