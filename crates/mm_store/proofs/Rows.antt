-- A small case of the definition: a file that includes another twice, a missing one twice, and itself.
use Rattle.std.proofs.{lemmas.Grind.{elements}, Common.{◌≡◌, ℕ, List, [], ◌∷◌, refl, arith, Contains}}
use Rattle.mm_text.specs.declared.part.PartKind.{PartKind, TheVariants.{Inclusion, Axiom}}
use Rattle.mm_store.specs.{declared.item.Item.{Item}, Language.{FilesView.{FileView}, Expansion.{Placed, placed_item, Expands, nothing, own, again, missing, included}}}

abbrev named : ℕ → List ℕ
named byte = byte ∷ []

abbrev part : PartKind → ℕ → ℕ → Placed
part kind piece byte = record { file = 0; piece = piece; key = record { at = piece }; name = named byte; part = record { kind = kind; start = 0; end = 9 } }

abbrev file : ℕ → FileView
file byte = record { name = named byte; pieces = []; tail = [] }

-- the files with the names 1, which is the top file, and 2
abbrev files : List FileView
files = file 1 ∷ file 2 ∷ []

abbrev at_first : List (List ℕ)
at_first = named 1 ∷ []

abbrev with_other : List (List ℕ)
with_other = named 1 ∷ named 2 ∷ []

abbrev at_last : List (List ℕ)
at_last = named 1 ∷ named 2 ∷ named 3 ∷ []

new_other : ¬ Contains at_first (named 2)
new_other there = grind (arith, elements) steps 200000

new_missing : ¬ Contains with_other (named 3)
new_missing there = grind (arith, elements) steps 200000

abbrev given : List Placed
given = part Inclusion 0 2 ∷ part Inclusion 1 2 ∷ part Inclusion 2 3 ∷ part Inclusion 3 3 ∷ part Inclusion 4 1 ∷ part Axiom 5 4 ∷ []

abbrev wanted : List Item
wanted = placed_item (part Inclusion 2 3) ∷ placed_item (part Axiom 5 4) ∷ []

pub row : Expands files given at_first wanted at_last
row =
    included {gained = []} new_is new_other refl refl refl nothing
    (again refl (1, omega arith, refl)
    (missing refl new_missing refl
    (again refl (2, omega arith, refl)
    (again refl (0, omega arith, refl)
    (own (λ e. (cc)) nothing)))))
  where
    new_is : Inclusion ≡ Inclusion
    new_is = refl
