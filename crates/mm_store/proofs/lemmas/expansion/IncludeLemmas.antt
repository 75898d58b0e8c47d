-- A piece is one inclusion, or includes nothing.
use Rattle.std.proofs.lemmas.{Grind.{common_steps}, Bool.{eqb-true}, Option.{none-some, same_Some, slice_get_within}}
use Rattle.std.{proofs.Common.{◌≡◌, ℕ, ◌<◌, true, false, length, arith, List, [], ◌∷◌, Some, map, refl, sym, ap, ◌∙◌, subst, ◌⊎◌, inl, inr, ◌==◌, slice_get}, specs.List.{AllByRecursion}}
use Rattle.mm_text.specs.{declared.{word.Word.{Word}, part.Part.{Part}}, Language.{Reading.{HasWords}, Unit.{Units, Nothing, Simple, Block, AreUnits}, Part.{HasUnits, HasParts, part, part_bytes}}}
use Rattle.mm_text.specs.Language.Cut.{IsOneUnit, HoldsOneUnit}
use Rattle.mm_store.specs.{declared.key.PieceKey.{PieceKey}, Language.{FileFacts.{second_word}, Expansion.{Named, Placed, IsInclusion, nameless, named_parts, placed_part, ArePartsOf}}}
use Rattle.mm_store.{specs.Code.Steps.{IncludesNothing, Includes}, proofs.lemmas.expansion.NameLemmas.{StandsAlone, all_and, all_named, named_are, inner_kind}}
use Rattle.mm_text.specs.declared.part.PartKind.TheVariants as kinds

abbrev IsOwn : Named → Type 0
IsOwn named = named.part.kind ≡ kinds.Inclusion → ⊥

start_own : (kinds.BlockStart ≡ kinds.Inclusion) → ⊥
start_own e = cc

end_own : (kinds.BlockEnd ≡ kinds.Inclusion) → ⊥
end_own e = cc

inner_own : (units : Units) → AreUnits false units → AllByRecursion IsOwn (named_parts units)
inner_own Nothing are = tt
inner_own (Simple shape later) are = (inner_kind shape are.0, inner_own later are.1)
inner_own (Block begin inner end later) are =
    (start_own, all_and IsOwn (named_parts inner) (nameless (part kinds.BlockEnd end end) ∷ named_parts later) (inner_own inner are.1) (end_own, inner_own later are.3))

placed_own : (file n : ℕ) (key : PieceKey) (named : List Named) → AllByRecursion IsOwn named → AllByRecursion (λ part. ¬ IsInclusion part) (map (placed_part file n key) named)
placed_own file n key [] h = tt
placed_own file n key (part ∷ named) h = (h.0, placed_own file n key named h.1)

-- the parts of one unit: an inclusion alone, or no inclusion
abbrev Alone : Units → Type 0
Alone units = (named : Named) × (named_parts units ≡ named ∷ []) × (named.part.kind ≡ kinds.Inclusion)

one_cases : (units : Units) → AreUnits true units → IsOneUnit units → Alone units ⊎ AllByRecursion IsOwn (named_parts units)
one_cases units are one = grind (arith, common_steps, all_and, end_own, inner_own, start_own) steps 200000

-- no parts have no first
pub no_first : (parts : List Part) (part : Part) → slice_get parts 0 ≡ Some part → (length parts == 0) ≡ true → ⊥
no_first parts part there none = absurd (omega (arith, slice_get_within parts 0 part there, eqb-true (length parts) 0 none))

-- parts have a first
pub some_first : (parts : List Part) → (length parts == 0) ≡ false → 0 < length parts
some_first parts some = grind (arith, common_steps) steps 200000

-- the parts of a piece that holds one unit
module _ (text : List ℕ) (parts : List Part) (unit : HoldsOneUnit text) (divided : HasParts text parts) (file n : ℕ) (key : PieceKey) where
  pub units : HasUnits text unit.units
  units = record { words = unit.words; has_words = unit.has_words; are_units = unit.are_units; spells = unit.spells }

  are_these : (placed : List Placed) → placed ≡ map (placed_part file n key) (named_parts unit.units) → ArePartsOf file n (record { key = key; text = text }) placed
  are_these placed is = record { words = unit.words; units = unit.units; has_words = unit.has_words; are_units = unit.are_units; spells = unit.spells; parts = is }

  -- the parts are known, and so the first part of an inclusion
  first_part : (named : Named) → named_parts unit.units ≡ named ∷ [] → parts ≡ named.part ∷ []
  first_part named is = divided unit.units units ∙ sym (named_are unit.units) ∙ ap (map (λ named. named.part)) is

  pub nothing_there : ((part : Part) → slice_get parts 0 ≡ Some part → part.kind ≡ kinds.Inclusion → ⊥) → IncludesNothing file n (record { key = key; text = text })
  nothing_there other = case (one_cases unit.units unit.are_units unit.one)
    where
      case : Alone unit.units ⊎ AllByRecursion IsOwn (named_parts unit.units) → IncludesNothing file n (record { key = key; text = text })
      case (inl (named, is, kind)) = absurd (other named.part (ap (λ l. slice_get l 0) (first_part named is)) kind)
      case (inr h) = record { placed = map (placed_part file n key) (named_parts unit.units); are_parts = are_these _ refl; own = placed_own file n key (named_parts unit.units) h }

  own_first : (part : Part) (named : List Named) → AllByRecursion IsOwn named → slice_get (map (λ named. named.part) named) 0 ≡ Some part → part.kind ≡ kinds.Inclusion → ⊥
  own_first part [] h there kind = none-some part there
  own_first part (first ∷ named) h there kind = h.0 (ap (λ (part : Part). part.kind) (same_Some first.part part there) ∙ kind)

  pub included_there : StandsAlone → (part : Part) (name : List ℕ) (words : List Word) → slice_get parts 0 ≡ Some part → part.kind ≡ kinds.Inclusion
      → HasWords (part_bytes text part) words → name ≡ second_word (part_bytes text part) words → Includes file n (record { key = key; text = text }) name
  included_there alone part name words there kind has is = case (one_cases unit.units unit.are_units unit.one)
    where
      case : Alone unit.units ⊎ AllByRecursion IsOwn (named_parts unit.units) → Includes file n (record { key = key; text = text }) name
      case (inl (named, at, _)) =
          let same : named.part ≡ part = same_Some named.part part (sym (ap (λ l. slice_get l 0) (first_part named at)) ∙ there) in
          let is_named = (subst (AllByRecursion (λ named. named.part.kind ≡ kinds.Inclusion → (words : List Word)
          → HasWords (part_bytes text named.part) words → named.name ≡ second_word (part_bytes text named.part) words)) at
          (all_named alone text unit.units units unit.one)).0 in
          let own : HasWords (part_bytes text named.part) words = subst (λ part. HasWords (part_bytes text part) words) (sym same) has in
          let kind_is : named.part.kind ≡ kinds.Inclusion = ap (λ (part : Part). part.kind) same ∙ kind in
          record {
            part = placed_part file n key named;
            are_parts = are_these (placed_part file n key named ∷ []) (ap (map (placed_part file n key)) (sym at));
            is_inclusion = kind_is;
            is_name = is_named kind_is words own ∙ ap (λ part. second_word (part_bytes text part) words) same ∙ sym is;
          }
      case (inr h) = absurd (own_first part (named_parts unit.units) h (ap (λ l. slice_get l 0) (named_are unit.units ∙ sym (divided unit.units units)) ∙ there) kind)
