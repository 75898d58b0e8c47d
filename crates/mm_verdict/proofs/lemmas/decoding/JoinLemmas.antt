-- The letters read from left to right are the letters read in groups.
use Rattle.std.proofs.{lemmas.{Grind.{common_steps}, Bool.{cases_Bool}}, Common.{◌≡◌, ℕ, ◌+◌, false, ◌==◌, cond, List, [], ◌∷◌, ◌++◌, map, refl, sym, ap, ◌∙◌, arith, inl, inr, eqb-true}}
use Rattle.mm_machine.specs.{Language.Expansion.{Step, Save, NotKnown}, declared.Spot.{Spot}}
use Rattle.mm_verdict.specs.Language.{Numbers.{is_digit, digit_worth, in_base_five}, Letters.{Letter, cut_group, groups_behind, groups, AreDigits}}
use Rattle.mm_verdict.specs.{Language.Decoding.{in_order, without_digits, nameable, read_letter, readings_of_groups}, Code.LeftToRight.{alone_behind, read_behind, end_behind, read_on}}
use Rattle.mm_verdict.proofs.lemmas.decoding.{NumberLemmas.{base_five_more, digit_is, AreWorth, none}, GroupLemmas.{digits_more}}

-- the worths of digits, and their number
abbrev worths : List Letter → List ℕ
worths ds = map digit_worth (map (λ d. d.byte) ds)

abbrev number : List Letter → ℕ
number ds = in_base_five (worths ds)

are_worth : (ds : List Letter) → AreDigits ds → AreWorth (worths ds)
are_worth [] all = tt
are_worth (d ∷ ds) all = let is = digit_is d.byte all.0 in ((omega arith, omega arith), are_worth ds all.1)

worths_more : (ds : List Letter) (l : Letter) → worths (ds ++ l ∷ []) ≡ worths ds ++ digit_worth l.byte ∷ []
worths_more [] l = refl
worths_more (d ∷ ds) l = ap (λ (w : List ℕ). digit_worth d.byte ∷ w) (worths_more ds l)

-- the number 0 means that there are no digits
some_digits : (d : Letter) (ds : List Letter) → AreDigits (d ∷ ds) → (number (d ∷ ds) == 0) ≡ false
some_digits d ds all = grind (arith, common_steps, cases_Bool (number (d ∷ ds) == 0), are_worth (d ∷ ds) all, none, eqb-true) steps 200000

alone_is : (ds : List Letter) (step : Step) → AreDigits ds → alone_behind (number ds) step ≡ without_digits ds step
alone_is ds step all = grind (arith, common_steps, some_digits) steps 200000

behind_is : (names : List Step) (ds : List Letter) (byte : ℕ) → AreDigits ds → read_behind names (number ds) byte ≡ read_letter names ds byte
behind_is names ds byte all = rw (alone_is ds Save all, alone_is ds NotKnown all) refl

end_is : (labels : List Step) (close : Spot) (saves : ℕ) (ds : List Letter) → AreDigits ds → end_behind close (number ds) ≡ in_order (readings_of_groups labels close saves (cut_group ds))
end_is labels close saves ds all = grind (arith, common_steps, some_digits) steps 200000

pub read_on_is : (labels : List Step) (close : Spot) (saves : ℕ) (ds ls : List Letter) → AreDigits ds → read_on labels close saves (number ds) ls ≡ in_order (readings_of_groups labels close saves (groups_behind ds ls))
read_on_is labels close saves ds [] all = end_is labels close saves ds all
read_on_is labels close saves ds (l ∷ ls) all = elim (cases_Bool (is_digit l.byte)) [
  | inl e ↦ rw (e) (ap (λ (n : ℕ). read_on labels close saves n ls) (sym (ap in_base_five (worths_more ds l) ∙ base_five_more (worths ds) (digit_worth l.byte))) ∙ read_on_is labels close saves (ds ++ l ∷ []) ls (digits_more ds l all e))
  | inr e ↦ grind (arith, common_steps, behind_is (nameable labels saves) ds l.byte all, read_on_is labels close (cond (l.byte == 90) (saves + 1) saves) [] ls tt) steps 200000
]

-- what all letters give
pub letters_are : (labels : List Step) (close : Spot) (ls : List Letter) → read_on labels close 0 0 ls ≡ in_order (readings_of_groups labels close 0 (groups ls))
letters_are labels close ls = read_on_is labels close 0 [] ls tt
