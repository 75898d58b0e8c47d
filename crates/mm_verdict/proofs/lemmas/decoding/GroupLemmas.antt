-- The letters are divided into groups in exactly one way.
use Rattle.std.proofs.{Common.{arith, ◌≡◌, true, Option, List, [], ◌∷◌, ◌++◌, refl, sym, ap, ◌∙◌, inl, inr, append_assoc, append-nil, flat_map, option_to_list, ◌↔◌}, lemmas.Grind.{common_steps}}
use Rattle.std.proofs.lemmas.Bool.{cases_Bool}
use Rattle.mm_verdict.specs.Language.{Numbers.{is_digit}, Letters.{Letter, Group, cut_group, groups_behind, groups, group_letters, AreDigits, EndsGroup, AreGroups, IsDivided}}
use Rattle.mm_verdict.proofs.lemmas.lists.Every.{joined}

pub digits_more : (ds : List Letter) (l : Letter) → AreDigits ds → is_digit l.byte ≡ true → AreDigits (ds ++ l ∷ [])
digits_more ds l all e = joined (λ (letter : Letter). is_digit letter.byte ≡ true) ds (l ∷ []) all (e, tt)

joined_behind : (ds ls : List Letter) → flat_map group_letters (groups_behind ds ls) ≡ ds ++ ls
joined_behind [] [] = refl
joined_behind (d ∷ ds) [] = append-nil ((d ∷ ds) ++ [])
joined_behind ds (l ∷ ls) = grind (arith, common_steps, cases_Bool (is_digit l.byte), joined_behind (ds ++ l ∷ []) ls, joined_behind [] ls) steps 200000

-- joined they are the letters
pub groups_joined : (ls : List Letter) → flat_map group_letters (groups ls) ≡ ls
groups_joined ls = joined_behind [] ls

cut_is : (ds : List Letter) → AreDigits ds → AreGroups (cut_group ds)
cut_is ds all = grind (arith, common_steps) steps 200000

grouped_behind : (ds ls : List Letter) → AreDigits ds → AreGroups (groups_behind ds ls)
grouped_behind ds [] all = cut_is ds all
grouped_behind ds (l ∷ ls) all = elim (cases_Bool (is_digit l.byte)) [
  | inl e ↦ rw e (grouped_behind (ds ++ l ∷ []) ls (digits_more ds l all e))
  | inr e ↦ rw e (all, e, grouped_behind [] ls tt)
]

-- each is digits with another letter after them, and only the last may be without that letter
pub groups_are : (ls : List Letter) → AreGroups (groups ls)
groups_are ls = grouped_behind [] ls tt

on : (ds es ls : List Letter) → AreDigits es → groups_behind ds (es ++ ls) ≡ groups_behind (ds ++ es) ls
on ds [] ls all = rw (append-nil ds) refl
on ds (e ∷ es) ls all = rw all.0 (on (ds ++ e ∷ []) es ls all.1 ∙ ap (λ (w : List Letter). groups_behind w ls) (append_assoc ds (e ∷ []) es))

one : (ds : List Letter) (last : Option Letter) (gs : List Group) → AreDigits ds → EndsGroup ds last gs → groups (flat_map group_letters gs) ≡ gs
    → groups ((ds ++ option_to_list last) ++ flat_map group_letters gs) ≡ record { digits = ds; last = last } ∷ gs
one ds last gs all e rest = grind (arith, common_steps, append-nil, on) steps 200000

-- and there is no other such division
pub groups_unique : (gs : List Group) → AreGroups gs → groups (flat_map group_letters gs) ≡ gs
groups_unique [] are = refl
groups_unique (g ∷ gs) are = one g.digits g.last gs are.0 are.1 (groups_unique gs are.2)

divided : (ls : List Letter) (gs : List Group) → groups ls ≡ gs → IsDivided ls gs
divided ls gs e = rw (← e) (record { joined = groups_joined ls; each = groups_are ls })

pub one_division : (ls : List Letter) (gs : List Group) → IsDivided ls gs ↔ (groups ls ≡ gs)
one_division ls gs = (λ d. ap groups (sym d.joined) ∙ groups_unique gs d.each, divided ls gs)
