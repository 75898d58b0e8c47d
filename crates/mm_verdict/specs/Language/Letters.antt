-- The letters of a compressed proof, over all words after its list of labels, and the groups that they make (Metamath book, Appendix B).
use Rattle.std.specs.Prelude.{◌≡◌, ◌≢◌, ℕ, true, false, if◌then◌else◌, Option, Some, None, List, [], ◌∷◌, ◌++◌, map, flat_map, option_to_list}
use Rattle.std.specs.List.{enumerate_from, AllByRecursion}
use Rattle.mm_machine.specs.declared.Spot.{Spot}
use Rattle.mm_verdict.specs.Language.Numbers.{is_digit}

-- A byte of the letters, and its spot in the proof.
pub record Letter : Type 0 where
  pub byte : ℕ
  pub spot : Spot

-- the byte of a word with its number there, as a letter of the word with this number
abbrev pub letter_at : ℕ → ℕ × ℕ → Letter
letter_at n at = record { byte = at.1; spot = record { word = n; letter = at.0 } }

-- the letters of the word with this number
abbrev pub letters_in : ℕ × List ℕ → List Letter
letters_in word = map (letter_at word.0) (enumerate_from 0 word.1)

-- the letters of words that are numbered from n, as one list: that the words end does not matter
abbrev pub letters_from : ℕ → List (List ℕ) → List Letter
letters_from n words = flat_map letters_in (enumerate_from n words)

-- Digits, and the letter after them; none if the letters end.
pub record Group : Type 0 where
  pub digits : List Letter
  pub last : Option Letter

-- digits that no letter follows
abbrev pub cut_group : List Letter → List Group
cut_group [] = []
cut_group (digit ∷ digits) = record { digits = digit ∷ digits; last = None } ∷ []

-- the groups of letters, with these digits before them
-- In words: `has_one_division`: Letters are divided in one way: into digits with a letter after them that is no digit, and digits at the end.
abbrev pub groups_behind : List Letter → List Letter → List Group
groups_behind digits [] = cut_group digits
groups_behind digits (letter ∷ letters) =
    if is_digit letter.byte then groups_behind (digits ++ letter ∷ []) letters
    else (record { digits = digits; last = Some letter } ∷ groups_behind [] letters)

-- the letters in groups, each of some digits and the first letter after them that is none
abbrev pub groups : List Letter → List Group
groups letters = groups_behind [] letters

-- the letters of a group
abbrev pub group_letters : Group → List Letter
group_letters group = group.digits ++ option_to_list group.last

-- each of these letters is a digit
abbrev pub AreDigits : List Letter → Type 0
AreDigits letters = AllByRecursion (λ letter. is_digit letter.byte ≡ true) letters

-- after the digits of a group comes a letter that is no digit; digits with no letter after them are the last group
abbrev pub EndsGroup : List Letter → Option Letter → List Group → Type 0
EndsGroup digits (Some letter) groups = is_digit letter.byte ≡ false
EndsGroup digits None groups = (digits ≢ []) × (groups ≡ [])

-- each of these groups is digits with a letter after them, and only the last may be without the letter
abbrev pub AreGroups : List Group → Type 0
AreGroups [] = Unit {0}
AreGroups (group ∷ groups) = AreDigits group.digits × EndsGroup group.digits group.last groups × AreGroups groups

-- the letters are divided into these groups
pub record IsDivided (letters : List Letter) (groups : List Group) : Type 0 where
  pub joined : flat_map group_letters groups ≡ letters
  pub each : AreGroups groups
