-- What deriving lists weigh, and which part a save keeps.
use Rattle.std.proofs.Common.{rules, ◌≡◌, ◌≢◌, ℕ, suc, ◌+◌, ◌≤◌, Bool, true, false, Option, Some, None, List, [], ◌∷◌, ◌++◌, length, refl, sym, ◌∙◌, ap, subst, arith, length-append, pos, ◌-ℤ◌, ◌≤ℤ◌}
use Rattle.std.{proofs.{Common.{if◌then◌else◌, inl, inr, ◌⊎◌}, lemmas.{Grind.{common_steps}, Int.{ints}, Bool.{cases_Bool, Decides.{Decides-int_eq}}, List.{length-map}}}, specs.Option.{option_or}}
use Rattle.std.specs.Ordering.{int_eq}
use Rattle.mm_machine.specs.Language.{Frame.{Symbol, LabelMeaning, Hypothesis, Assertion, Setting}, Substitution.{substituted}}
use Rattle.mm_machine.specs.Language.{Derivation.{Derives, DeriveInOrder, by_hypothesis, by_assertion, nothing, first_then}, Expansion.{taken_by, weight, last_part, IsLastPart}}

-- what all the labels take
abbrev pub taken : Setting → List (List ℕ) → ℕ
taken place [] = 0
taken place (label ∷ labels) = taken_by (place.resolve label) + taken place labels

-- the weight by what is taken
pub weight_is : (place : Setting) (labels : List (List ℕ)) → weight place labels ≡ pos (length labels) -ℤ pos (taken place labels)
weight_is place [] = omega (arith, ints)
weight_is place (label ∷ labels) = let e = weight_is place labels in omega (arith, ints)

pub taken-append : (place : Setting) (a b : List (List ℕ)) → taken place (a ++ b) ≡ taken place a + taken place b
taken-append place [] b = omega arith
taken-append place (x ∷ a) b = let e = taken-append place a b in omega arith

-- each shorter suffix, with one more, weighs at most n
abbrev pub IsLight : Setting → ℕ → List (List ℕ) → Type 0
IsLight place n [] = Unit {0}
IsLight place n (label ∷ labels) = (length labels + 1 ≤ n + taken place labels) × IsLight place n labels

lighter : (place : Setting) (n : ℕ) (a : List (List ℕ)) → IsLight place n a → IsLight place (suc n) a
lighter place n [] l = l
lighter place n (x ∷ a) l = (omega arith, lighter place n a l.1)

light_append : (place : Setting) (n : ℕ) (a b : List (List ℕ)) → IsLight place 1 a → IsLight place n b → length b ≡ n + taken place b → IsLight place (suc n) (a ++ b)
light_append place n [] b l m w = lighter place n b m
light_append place n (x ∷ a) b l m w = (omega (arith, length-append a b, taken-append place a b), light_append place n a b l.1 m w)

light_label : (place : Setting) (n : ℕ) (a : List (List ℕ)) (label : List ℕ) → taken_by (place.resolve label) ≡ n → IsLight place n a → IsLight place 1 (a ++ label ∷ [])
light_label place n [] label t l = (omega arith, tt)
light_label place n (x ∷ a) label t l = (omega (arith, length-append a (label ∷ []), taken-append place a (label ∷ [])), light_label place n a label t l.1)

-- what a list weighs that derives n expressions in order
pub record Weighs (place : Setting) (n : ℕ) (labels : List (List ℕ)) : Type 0 where
  pub total : length labels ≡ n + taken place labels
  pub light : IsLight place n labels

weighs_label : (place : Setting) (n : ℕ) (a : List (List ℕ)) (label : List ℕ) → taken_by (place.resolve label) ≡ n → Weighs place n a → Weighs place 1 (a ++ label ∷ [])
weighs_label place n a label t w = record { total = omega (arith, length-append a (label ∷ []), taken-append place a (label ∷ [])); light = light_label place n a label t w.light }

weighs_join : (place : Setting) (n : ℕ) (a b : List (List ℕ)) → Weighs place 1 a → Weighs place n b → Weighs place (suc n) (a ++ b)
weighs_join place n a b v w = record { total = omega (arith, length-append a b, taken-append place a b); light = light_append place n a b v.light w.light w.total }

taken_at : (r q : LabelMeaning) (n : ℕ) → r ≡ q → taken_by q ≡ n → taken_by r ≡ n
taken_at r q n e t = ap taken_by e ∙ t

mutual
  pub derived_weighs : (place : Setting) {labels : List (List ℕ)} {e : List Symbol} → Derives place labels e → Weighs place 1 labels
  derived_weighs place (by_hypothesis {label = label} {e = e} is) = weighs_label place 0 [] label (taken_at (place.resolve label) (Hypothesis e) 0 is refl) (record { total = refl; light = tt })
  derived_weighs place (by_assertion {labels = labels} {label = label} {frame = frame} {given = given} {entries = entries} d is t) =
      weighs_label place (length entries) labels label (taken_at (place.resolve label) (Assertion frame) (length entries) is
      (sym (length-map frame.hypotheses (λ h. substituted given h.expression)) ∙ ap length t.entries_match)) (joined_weighs place d)

  pub joined_weighs : (place : Setting) {labels : List (List ℕ)} {es : List (List Symbol)} → DeriveInOrder place labels es → Weighs place (length es) labels
  joined_weighs place nothing = record { total = refl; light = tt }
  joined_weighs place (first_then {first = first} {rest = rest} {es = es} h t) = weighs_join place (length es) first rest (derived_weighs place h) (joined_weighs place t)

not_one : (place : Setting) (labels : List (List ℕ)) → length labels ≤ taken place labels → weight place labels ≢ pos 1
not_one place labels h e = let w = weight_is place labels in omega (arith, ints)

is_one : (place : Setting) (labels : List (List ℕ)) → length labels ≡ 1 + taken place labels → weight place labels ≡ pos 1
is_one place labels h = let w = weight_is place labels in omega (arith, ints)

-- no suffix is kept if each is light
no_part : (place : Setting) (x : List ℕ) (a : List (List ℕ)) → IsLight place 1 (x ∷ a) → last_part place a ≡ None
no_part place x [] l = refl
no_part place x (y ∷ a) l =
    let other = not_one place (y ∷ a) (omega arith) in
    grind (arith, common_steps, Decides-int_eq (weight place (y ∷ a)) (pos 1), cases_Bool, other, no_part place y a l.1) steps 200000

-- a list of weight one whose shorter suffixes are light is its own last part
own_part : (place : Setting) (part : List (List ℕ)) → Weighs place 1 part → last_part place part ≡ Some part
own_part place [] w = absurd (omega arith)
own_part place (x ∷ a) w = grind (arith, common_steps, is_one place (x ∷ a) w.total, no_part place x a w.light) steps 200000

behind : (place : Setting) (front part : List (List ℕ)) (whole : List (List ℕ)) → last_part place part ≡ Some whole → last_part place (front ++ part) ≡ Some whole
behind place [] part whole e = e
behind place (x ∷ front) part whole e = ap (λ o. option_or o (if int_eq (weight place (x ∷ (front ++ part))) (pos 1) then Some (x ∷ (front ++ part)) else None)) (behind place front part whole e)

-- a save keeps the list of the last entry
pub last_part_is : (place : Setting) (front part : List (List ℕ)) (e : List Symbol) → Derives place part e → last_part place (front ++ part) ≡ Some part
last_part_is place front part e d = behind place front part part (own_part place part (derived_weighs place d))

-- the law on weights, in its own words
pub weight_of_derived : (place : Setting) (labels : List (List ℕ)) (e : List Symbol) → Derives place labels e → weight place labels ≡ pos 1
weight_of_derived place labels e d = let w = derived_weighs place d in is_one place labels w.total

light_suffix : (place : Setting) (x : List ℕ) (front back : List (List ℕ)) → IsLight place 1 ((x ∷ front) ++ back) → length back ≤ taken place back
light_suffix place x [] back l = omega arith
light_suffix place x (y ∷ front) back l = light_suffix place y front back l.1

pub weight_of_suffix : (place : Setting) (labels : List (List ℕ)) (e : List Symbol) → Derives place labels e → (front back : List (List ℕ)) → labels ≡ front ++ back → front ≢ [] → weight place back ≤ℤ pos 0
weight_of_suffix place labels e d [] back is n = absurd (n refl)
weight_of_suffix place labels e d (x ∷ front) back is n =
    grind (arith, common_steps, light_suffix place x front back (subst (λ l. IsLight place 1 l) is (derived_weighs place d).light), weight_is place back, ints) steps 200000

-- the function and the words
suffix_cases : {X : Type 0} (x : X) (xs ahead back : List X) → x ∷ xs ≡ ahead ++ back → (back ≡ x ∷ xs) ⊎ ((rest : List X) × (xs ≡ rest ++ back))
suffix_cases x xs [] back e = inl (sym e)
suffix_cases x xs (y ∷ ahead) back e = inr (ahead, cc)

-- what the answer says
abbrev PartSays : Setting → List (List ℕ) → Option (List (List ℕ)) → Type 0
PartSays place labels (Some part) = IsLastPart place labels part
PartSays place labels None = (front back : List (List ℕ)) → labels ≡ front ++ back → weight place back ≢ pos 1

part_more : (place : Setting) (x : List ℕ) (labels : List (List ℕ)) (o : Option (List (List ℕ))) (b : Bool) → int_eq (weight place (x ∷ labels)) (pos 1) ≡ b
    → PartSays place labels o → PartSays place (x ∷ labels) (option_or o (if b then Some (x ∷ labels) else None))
part_more place x labels (Some part) b t p = record {
  front = x ∷ p.front;
  whole = ap (λ w. x ∷ w) p.whole;
  weighs_one = p.weighs_one;
  shortest = grind (arith, common_steps, length-append, suffix_cases) steps 200000;
}
part_more place x labels None true t p = grind (arith, common_steps, suffix_cases) steps 200000
part_more place x labels None false t p = search (rules, suffix_cases) steps 200000

part_says : (place : Setting) (labels : List (List ℕ)) → PartSays place labels (last_part place labels)
part_says place [] = λ front back e w. grind (arith, common_steps, length-append front back) steps 200000
part_says place (x ∷ labels) = part_more place x labels (last_part place labels) (int_eq (weight place (x ∷ labels)) (pos 1)) refl (part_says place labels)

pub last_part_shortest : (place : Setting) (labels : List (List ℕ)) → ((part : List (List ℕ)) → last_part place labels ≡ Some part
    → IsLastPart place labels part) × (last_part place labels ≡ None → (front back : List (List ℕ)) → labels ≡ front ++ back → weight place back ≢ pos 1)
last_part_shortest place labels = (λ part e. subst (PartSays place labels) e (part_says place labels), λ e. subst (PartSays place labels) e (part_says place labels))
