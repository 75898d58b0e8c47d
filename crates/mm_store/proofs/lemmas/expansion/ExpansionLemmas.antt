-- Files give one list of items at most.
use Rattle.std.proofs.lemmas.{Grind.{common_steps, elements}, Option.{none-some, same_Some}}
use Rattle.std.proofs.Common.{arith, ◌≡◌, ℕ, ◌+◌, true, List, [], ◌∷◌, ◌++◌, Some, None, map, refl, sym, ap, ◌∙◌, Contains, ◌⊎◌, inl, inr, slice_get}
use Rattle.mm_text.specs.{declared.word.Word.{Word}, Language.{Reading.{HasWords}, Unit.{Units, AreUnits, unit_tokens, tokens_of}}}
use Rattle.mm_store.specs.{declared.item.Item.{Item}, Language.FilesView.{PieceView, FileView, number_of}}
use Rattle.mm_store.specs.Language.Expansion.{Placed, IsInclusion, placed_item, named_parts, placed_part, ArePartsOf, ArePlaced, Expands, nothing, own, again, missing, included, IsExpansion}

abbrev pub OneReading : Type 0
OneReading = (text : List ℕ) (a b : List Word) → HasWords text a → HasWords text b → a ≡ b

abbrev pub OneDivision : Type 0
OneDivision = (a b : Units) → AreUnits true a → AreUnits true b → unit_tokens a ≡ unit_tokens b → a ≡ b

-- what the parts of a list give: nothing, or what its first part gives and then the rest
pub record Own (files : List FileView) (part : Placed) (parts : List Placed) (names : List (List ℕ)) (items : List Item) (after : List (List ℕ)) : Type 0 where
  pub is_own : ¬ IsInclusion part
  pub rest : List Item
  pub is : items ≡ placed_item part ∷ rest
  pub later : Expands files parts names rest after

pub record Again (files : List FileView) (part : Placed) (parts : List Placed) (names : List (List ℕ)) (items : List Item) (after : List (List ℕ)) : Type 0 where
  pub is_inclusion : IsInclusion part
  pub known : Contains names part.name
  pub later : Expands files parts names items after

pub record Lost (files : List FileView) (part : Placed) (parts : List Placed) (names : List (List ℕ)) (items : List Item) (after : List (List ℕ)) : Type 0 where
  pub is_inclusion : IsInclusion part
  pub new : ¬ Contains names part.name
  pub none : number_of files part.name ≡ None
  pub rest : List Item
  pub is : items ≡ placed_item part ∷ rest
  pub later : Expands files parts (names ++ part.name ∷ []) rest after

pub record Taken (files : List FileView) (part : Placed) (parts : List Placed) (names : List (List ℕ)) (items : List Item) (after : List (List ℕ)) : Type 0 where
  pub is_inclusion : IsInclusion part
  pub new : ¬ Contains names part.name
  pub number : ℕ
  pub file : FileView
  pub is_number : number_of files part.name ≡ Some number
  pub there : slice_get files number ≡ Some file
  pub inner : List Placed
  pub placed : ArePlaced number 0 file.pieces inner
  pub gained : List Item
  pub between : List (List ℕ)
  pub inside : Expands files inner (names ++ part.name ∷ []) gained between
  pub rest : List Item
  pub is : items ≡ gained ++ rest
  pub later : Expands files parts between rest after

abbrev pub Way : List FileView → List Placed → List (List ℕ) → List Item → List (List ℕ) → Type 0
Way files [] names items after = (items ≡ []) × (after ≡ names)
Way files (part ∷ parts) names items after = (Own files part parts names items after ⊎ Again files part parts names items after) ⊎ (Lost files part parts names items after ⊎ Taken files part parts names items after)

pub way : {files : List FileView} {parts : List Placed} {names after : List (List ℕ)} {items : List Item} → Expands files parts names items after → Way files parts names items after
way nothing = (refl, refl)
way (own {items = items} not d) = inl (inl (record { is_own = not; rest = items; is = refl; later = d }))
way (again is old d) = inl (inr (record { is_inclusion = is; known = old; later = d }))
way (missing {items = items} is new none d) = inr (inl (record { is_inclusion = is; new = new; none = none; rest = items; is = refl; later = d }))
way (included {inner = inner} {between = between} {gained = gained} {items = items} {number = number} {file = file} is new at there placed inside d) = grind (arith, elements) steps 200000

-- all later parts give one thing
abbrev One : List FileView → List Placed → List (List ℕ) → List Item → List (List ℕ) → Type 0
One files parts names items after = (b : List Item) (y : List (List ℕ)) → Expands files parts names b y → (items ≡ b) × (after ≡ y)

own_one : {files : List FileView} {part : Placed} {parts : List Placed} {names after y : List (List ℕ)} {items b : List Item} → ¬ IsInclusion part
    → One files parts names items after → Way files (part ∷ parts) names b y → (placed_item part ∷ items ≡ b) × (after ≡ y)
own_one not one either = grind (arith, common_steps) steps 200000

again_one : {files : List FileView} {part : Placed} {parts : List Placed} {names after y : List (List ℕ)} {items b : List Item} → IsInclusion part
    → Contains names part.name → One files parts names items after → Way files (part ∷ parts) names b y → (items ≡ b) × (after ≡ y)
again_one is old one either = grind (arith, common_steps) steps 200000

missing_one : {files : List FileView} {part : Placed} {parts : List Placed} {names after y : List (List ℕ)} {items b : List Item} → IsInclusion part → ¬ Contains names part.name
    → number_of files part.name ≡ None → One files parts (names ++ part.name ∷ []) items after → Way files (part ∷ parts) names b y → (placed_item part ∷ items ≡ b) × (after ≡ y)
missing_one is new none one (inl (inl o)) = absurd (o.is_own is)
missing_one is new none one (inl (inr g)) = absurd (new g.known)
missing_one {part = part} {y = y} is new none one (inr (inl l)) = (let r = one l.rest y l.later in (ap (λ rest. placed_item part ∷ rest) r.0 ∙ sym l.is, r.1))
missing_one is new none one (inr (inr t)) = absurd (none-some t.number (sym none ∙ t.is_number))

module _ (one_reading : OneReading) (one_division : OneDivision) where
  pub parts_one : (file n : ℕ) (piece : PieceView) (a b : List Placed) → ArePartsOf file n piece a → ArePartsOf file n piece b → a ≡ b
  parts_one file n piece a b p q =
      let w : p.words ≡ q.words = one_reading piece.text p.words q.words p.has_words q.has_words in
      let u : p.units ≡ q.units = one_division p.units q.units p.are_units q.are_units (p.spells ∙ ap (tokens_of piece.text) w ∙ sym q.spells) in
      p.parts ∙ ap (λ units. map (placed_part file n piece.key) (named_parts units)) u ∙ sym q.parts

  pub placed_one : (file n : ℕ) (pieces : List PieceView) (a b : List Placed) → ArePlaced file n pieces a → ArePlaced file n pieces b → a ≡ b
  placed_one file n [] a b p q = p ∙ sym q
  placed_one file n (piece ∷ pieces) a b p q =
      p.4 ∙ ap (λ l. l ++ p.1) (parts_one file n piece p.0 q.0 p.2 q.2) ∙ ap (λ l. q.0 ++ l) (placed_one file (n + 1) pieces p.1 q.1 p.3 q.3) ∙ sym q.4

  included_one : {files : List FileView} {part : Placed} {parts inner : List Placed} {names between after y : List (List ℕ)} {gained items b : List Item} {number : ℕ} {file : FileView}
      → IsInclusion part → ¬ Contains names part.name → number_of files part.name ≡ Some number → slice_get files number ≡ Some file → ArePlaced number 0 file.pieces inner
      → One files inner (names ++ part.name ∷ []) gained between → One files parts between items after → Way files (part ∷ parts) names b y → (gained ++ items ≡ b) × (after ≡ y)
  included_one is new at there placed inside later (inl (inl o)) = absurd (o.is_own is)
  included_one is new at there placed inside later (inl (inr g)) = absurd (new g.known)
  included_one {number = number} is new at there placed inside later (inr (inl l)) = absurd (none-some number (sym l.none ∙ at))
  included_one {files} {part} {parts} {inner = inner} {names = names} {y = y} {items = items} {number = number} {file = file} is new at there placed inside later (inr (inr t)) =
      grind (arith, common_steps, same_Some, placed_one) steps 200000

  pub same : {files : List FileView} {parts : List Placed} {names x y : List (List ℕ)} {a b : List Item} → Expands files parts names a x → Expands files parts names b y → (a ≡ b) × (x ≡ y)
  same nothing e = (let w = way e in (sym w.0, sym w.1))
  same (own not d) e = own_one not (λ b y later. same d later) (way e)
  same (again is old d) e = again_one is old (λ b y later. same d later) (way e)
  same (missing is new none d) e = missing_one is new none (λ b y later. same d later) (way e)
  same (included is new at there placed inside d) e = included_one is new at there placed (λ b y inner. same inside inner) (λ b y later. same d later) (way e)

  pub expansion_one : (files : List FileView) (top : List ℕ) (a b : List Item) → IsExpansion files top a → IsExpansion files top b → a ≡ b
  expansion_one files top a b p q = grind (arith, common_steps, same, same_Some, placed_one) steps 200000

  pub expansion_names_one : (files : List FileView) (top : List ℕ) (a b : List Item) (p : IsExpansion files top a) (q : IsExpansion files top b) → p.after ≡ q.after
  expansion_names_one files top a b p q = grind (arith, common_steps, same, same_Some, placed_one) steps 200000
