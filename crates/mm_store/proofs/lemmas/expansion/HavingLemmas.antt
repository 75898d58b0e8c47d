-- Files each piece of which holds one unit have an expansion from each top file on.
use Rattle.std.proofs.lemmas.{Grind.{common_steps}, Bool.{false≢true}}
use Rattle.std.proofs.Common.{◌≡◌, ◌≢◌, ℕ, zero, suc, ◌<◌, ◌≤◌, Bool, true, false, Option, Some, None, List, [], ◌∷◌, ◌++◌, refl, sym, ◌∙◌, arith, Contains}
use Rattle.mm_text.specs.declared.part.PartKind.{PartKind}
use Rattle.mm_store.specs.{declared.item.Item.{Item}, Language.Expansion.{Placed, IsInclusion, placed_item, Expands, nothing, own, again, missing, included, IsExpansion}}
use Rattle.mm_store.specs.{Language.FilesView.{FileView, number_of}, Code.Gains.{HoldUnits}}
use Rattle.mm_store.proofs.lemmas.expansion.{BudgetLemmas.{is_among, contains_from_among, among_from_contains, weight, weight_less, weight_entered}, WalkStepLemmas.{parts_there}}
use Rattle.mm_store.proofs.lemmas.files.GrowthLemmas.{there_number, name_of_number}
use Rattle.mm_text.specs.declared.part.PartKind.TheVariants as parts

by_kind : (kind : PartKind) → Dec (kind ≡ parts.Inclusion)
by_kind kind = grind (arith, common_steps) steps 200000

-- how many files there are whose names are not taken
abbrev one_each : FileView → ℕ
one_each file = 1

module _ (files : List FileView) (hold : HoldUnits files) where
  -- what parts give after a set of names; no name is lost
  record Given (given : List Placed) (names : List (List ℕ)) : Type 0 where
    items : List Item
    after : List (List ℕ)
    expands : Expands files given names items after
    fewer : weight one_each files after ≤ weight one_each files names

  abbrev GivenBelow : ℕ → Type 0
  GivenBelow bound = (given : List Placed) (names : List (List ℕ)) → weight one_each files names < bound → Given given names

  -- one part more
  module _ (bound : ℕ) (deeper : GivenBelow bound) (part : Placed) (rest : List Placed) (later : (names : List (List ℕ)) → weight one_each files names ≤ bound → Given rest names)
      (names : List (List ℕ)) (small : weight one_each files names ≤ bound) where
    own_part : ¬ IsInclusion part → Given (part ∷ rest) names
    own_part not = let r = later names small in record { items = placed_item part ∷ r.items; after = r.after; expands = own not r.expands; fewer = r.fewer }

    known_part : IsInclusion part → Contains names part.name → Given (part ∷ rest) names
    known_part is known = let r = later names small in record { items = r.items; after = r.after; expands = again is known r.expands; fewer = r.fewer }

    missing_part : IsInclusion part → ¬ Contains names part.name → number_of files part.name ≡ None → Given (part ∷ rest) names
    missing_part is new none =
        let less = weight_less one_each files names part.name in
        let r = later (names ++ part.name ∷ []) (omega (arith, less, small)) in
        record { items = placed_item part ∷ r.items; after = r.after; expands = missing is new none r.expands; fewer = omega (arith, less, r.fewer) }

    entered_part : IsInclusion part → ¬ Contains names part.name → (number : ℕ) → number_of files part.name ≡ Some number → Given (part ∷ rest) names
    entered_part is new number at =
        let found = there_number files part.name number at in
        let own_name = name_of_number files part.name number found.0 at found.1 in
        let less = weight_entered one_each files names part.name number found.0 found.1 own_name new in
        let inner = parts_there files hold number found.0 found.1 in
        let first = deeper inner.0 (names ++ part.name ∷ []) (omega (arith, less, small)) in
        let r = later first.after (omega (arith, less, small, first.fewer)) in
        record { items = first.items ++ r.items; after = r.after; expands = included is new at found.1 inner.1 first.expands r.expands; fewer = omega (arith, less, first.fewer, r.fewer) }

    by_number : IsInclusion part → ¬ Contains names part.name → (number : Option ℕ) → number_of files part.name ≡ number → Given (part ∷ rest) names
    by_number is new None at = missing_part is new at
    by_number is new (Some number) at = entered_part is new number at

    by_name : IsInclusion part → (known : Bool) → is_among part.name names ≡ known → Given (part ∷ rest) names
    by_name is true e = known_part is (contains_from_among part.name names e)
    by_name is false e = by_number is (λ known. false≢true (sym e ∙ among_from_contains part.name names known)) (number_of files part.name) refl

    by_part : Dec (IsInclusion part) → Given (part ∷ rest) names
    by_part (yes is) = by_name is (is_among part.name names) refl
    by_part (no not) = own_part not

  given_by : (bound : ℕ) → GivenBelow bound → (given : List Placed) (names : List (List ℕ)) → weight one_each files names ≤ bound → Given given names
  given_by bound deeper [] names small = record { items = []; after = names; expands = nothing; fewer = omega arith }
  given_by bound deeper (part ∷ rest) names small = by_part bound deeper part rest (given_by bound deeper rest) names small (by_kind part.part.kind)

  given_all : (bound : ℕ) (given : List Placed) (names : List (List ℕ)) → weight one_each files names ≤ bound → Given given names
  given_all zero given names small = given_by zero (λ inner more less. absurd (omega (arith, less))) given names small
  given_all (suc bound) given names small = given_by (suc bound) (λ inner more less. given_all bound inner more (omega (arith, less))) given names small

  pub expanded : (top : List ℕ) → number_of files top ≢ None → (items : List Item) × IsExpansion files top items
  expanded top some = by_top (number_of files top) refl
    where
      by_top : (number : Option ℕ) → number_of files top ≡ number → (items : List Item) × IsExpansion files top items
      by_top None none = absurd (some none)
      by_top (Some number) at =
          let found = there_number files top number at in
          let inner = parts_there files hold number found.0 found.1 in
          let g = given_all (weight one_each files (top ∷ [])) inner.0 (top ∷ []) (omega arith) in
          (g.items, record { number = number; file = found.0; is_top = at; there = found.1; parts = inner.0; placed = inner.1; after = g.after; expands = g.expands })
