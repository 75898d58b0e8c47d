-- The expansion one part at a time, and the expansion as a whole.
use Rattle.std.proofs.{Common.{◌≡◌, ℕ, List, [], ◌∷◌, ◌++◌, map, refl, sym, ap, ◌∙◌, subst, append_assoc, append-nil, Contains, inl, inr}, lemmas.List.Elements.{Contains-append_left}}
use Rattle.std.specs.List.{AllByRecursion}
use Rattle.mm_store.specs.{declared.item.Item.{Item}, Language.{FilesView.{FileView}, Expansion.{Placed, IsInclusion, placed_item, Expands}, Walking.{Goes, here, own, again, missing, included}}}
use Rattle.mm_store.proofs.lemmas.expansion.ExpansionLemmas.{Way, way}
use Rattle.mm_store.specs.Language.Expansion as whole

-- one way and then another
pub goes_joined : {files : List FileView} {a b c : List Placed} {names between after : List (List ℕ)} {items more : List Item} → Goes files a names items b between → Goes files b between more c after → Goes files a names (items ++ more) c after
goes_joined here e = e
goes_joined (own not d) e = own not (goes_joined d e)
goes_joined (again is old d) e = again is old (goes_joined d e)
goes_joined (missing is new none d) e = missing is new none (goes_joined d e)
goes_joined (included inner is new number there placed d) e = included inner is new number there placed (goes_joined d e)

-- names are only taken
pub goes_grows : {files : List FileView} {a b : List Placed} {names after : List (List ℕ)} {items : List Item} (name : List ℕ) → Goes files a names items b after → Contains names name → Contains after name
goes_grows name here h = h
goes_grows name (own not d) h = goes_grows name d h
goes_grows name (again is old d) h = goes_grows name d h
goes_grows name (missing {part = part} {names = names} is new none d) h = goes_grows name d (Contains-append_left names (part.name ∷ []) name h)
goes_grows name (included {part = part} {names = names} inner is new number there placed d) h = goes_grows name d (Contains-append_left names (part.name ∷ []) name h)

-- and those that were taken stay before the others
abbrev pub Grows : List (List ℕ) → List (List ℕ) → Type 0
Grows names after = (later : List (List ℕ)) × (after ≡ names ++ later)

grows_by : (names after : List (List ℕ)) (name : List ℕ) → Grows (names ++ name ∷ []) after → Grows names after
grows_by names after name (later, is) = (name ∷ later, is ∙ append_assoc names (name ∷ []) later)

pub goes_keeps : {files : List FileView} {a b : List Placed} {names after : List (List ℕ)} {items : List Item} → Goes files a names items b after → Grows names after
goes_keeps {names = names} here = ([], sym (append-nil names))
goes_keeps (own not d) = goes_keeps d
goes_keeps (again is old d) = goes_keeps d
goes_keeps {after = after} (missing {part = part} {names = names} is new none d) = grows_by names after part.name (goes_keeps d)
goes_keeps {after = after} (included {part = part} {names = names} inner is new number there placed d) = grows_by names after part.name (goes_keeps d)

-- parts that include nothing are items
pub goes_own : {files : List FileView} (parts rest : List Placed) (names : List (List ℕ)) → AllByRecursion (λ part. ¬ IsInclusion part) parts → Goes files (parts ++ rest) names (map placed_item parts) rest names
goes_own [] rest names h = here
goes_own (part ∷ parts) rest names h = own h.0 (goes_own parts rest names h.1)

-- what parts give is what the first of them give, and then the others
pub record Split (files : List FileView) (front rest : List Placed) (names : List (List ℕ)) (all : List Item) (after : List (List ℕ)) : Type 0 where
  pub gained : List Item
  pub items : List Item
  pub between : List (List ℕ)
  pub first : Expands files front names gained between
  pub later : Expands files rest between items after
  pub joined : all ≡ gained ++ items

abbrev Splits : List FileView → List Placed → List Placed → Type 0
Splits files front rest = (names after : List (List ℕ)) (all : List Item) → Expands files (front ++ rest) names all after → Split files front rest names all after

split_way : {files : List FileView} (part : Placed) (front rest : List Placed) {names after : List (List ℕ)} {all : List Item} → Splits files front rest
    → Way files (part ∷ (front ++ rest)) names all after → Split files (part ∷ front) rest names all after
split_way part front rest {after = after} splits (inl (inl o)) =
    let s = splits _ after o.rest o.later in
    record { gained = placed_item part ∷ s.gained; items = s.items; between = s.between; first = whole.own o.is_own s.first; later = s.later; joined = o.is ∙ ap (λ l. placed_item part ∷ l) s.joined }
split_way part front rest {after = after} {all = all} splits (inl (inr g)) =
    let s = splits _ after all g.later in
    record { gained = s.gained; items = s.items; between = s.between; first = whole.again g.is_inclusion g.known s.first; later = s.later; joined = s.joined }
split_way part front rest {after = after} splits (inr (inl l)) =
    let s = splits _ after l.rest l.later in
    record { gained = placed_item part ∷ s.gained; items = s.items; between = s.between; first = whole.missing l.is_inclusion l.new l.none s.first; later = s.later; joined = l.is ∙ ap (λ l. placed_item part ∷ l) s.joined }
split_way part front rest {after = after} splits (inr (inr t)) =
    let s = splits t.between after t.rest t.later in
    record {
      gained = t.gained ++ s.gained;
      items = s.items;
      between = s.between;
      first = whole.included t.is_inclusion t.new t.is_number t.there t.placed t.inside s.first;
      later = s.later;
      joined = t.is ∙ ap (λ l. t.gained ++ l) s.joined ∙ sym (append_assoc t.gained s.gained s.items);
    }

pub split : {files : List FileView} (front rest : List Placed) (names after : List (List ℕ)) (all : List Item) → Expands files (front ++ rest) names all after → Split files front rest names all after
split [] rest names after all d = record { gained = []; items = all; between = names; first = whole.nothing; later = d; joined = refl }
split (part ∷ front) rest names after all d = split_way part front rest (split front rest) (way d)

-- to go to the end is to expand
pub expands_from_goes : {files : List FileView} {parts rest : List Placed} {names after : List (List ℕ)} {items : List Item} → Goes files parts names items rest after → rest ≡ [] → Expands files parts names items after
expands_from_goes {files} {names = names} here e = subst (λ parts. Expands files parts names [] names) (sym e) whole.nothing
expands_from_goes (own not d) e = whole.own not (expands_from_goes d e)
expands_from_goes (again is old d) e = whole.again is old (expands_from_goes d e)
expands_from_goes (missing is new none d) e = whole.missing is new none (expands_from_goes d e)
expands_from_goes {files} {after = after} (included {part = part} {parts = parts} {names = names} inner is new number there placed d) e =
    let s = split inner parts (names ++ part.name ∷ []) after _ (expands_from_goes d e) in
    subst (λ all. Expands files (part ∷ parts) names all after) (sym s.joined) (whole.included is new number there placed s.first s.later)
