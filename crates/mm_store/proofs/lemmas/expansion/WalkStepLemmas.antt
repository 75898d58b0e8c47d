-- The steps of a walk go through the expansion.
use Rattle.std.proofs.lemmas.{Grind.{elements, common_steps}, List.{drop_all}, Option.{none-some, slice_get_within, get_or_from_slice_get}}
use Rattle.std.proofs.Common.{◌≡◌, ℕ, suc, ◌+◌, false, List, [], ◌∷◌, ◌++◌, Some, None, map, drop, refl, sym, ap, ◌∙◌, subst, append_assoc, append-nil, arith, Contains, slice_get}
use Rattle.std.proofs.Math.Seq.{drop-cons}
use Rattle.mm_text.specs.Language.Cut.{HoldsOneUnit}
use Rattle.mm_store.specs.{declared.{item.Item.{Item}, walk.PlacedPiece.{PlacedPiece}}, Language.FilesView.{PieceView, FileView, number_of}}
use Rattle.mm_store.specs.Language.Expansion.{Placed, placed_item, named_parts, placed_part, ArePartsOf, ArePlaced, IsExpansion}
use Rattle.mm_store.specs.{Language.Walking.{LevelView, WalkView, IsRest, ArePending, Goes, here, again, missing, included, IsWalk}, Code.Gains.{HoldUnits}}
use Rattle.mm_store.specs.Code.Steps.{piece_at, behind, beginning, IsHere, Includes, Leaves, ComesAgain, Enters, Passes, PassesTold}
use Rattle.mm_store.proofs.lemmas.{expansion.{ExpansionLemmas.{OneReading, OneDivision, parts_one}, GoesLemmas.{goes_joined, goes_own, expands_from_goes}}, files.GrowthLemmas.{there_number}}

-- the innermost file comes first
pub record Innermost (files : List FileView) (front : List LevelView) (level : LevelView) (parts : List Placed) : Type 0 where
  pub own : List Placed
  pub outer : List Placed
  pub rest : IsRest files level own
  pub are_outer : ArePending files front outer
  pub joined : parts ≡ own ++ outer

pub innermost : (files : List FileView) (front : List LevelView) (level : LevelView) (parts : List Placed) → ArePending files (front ++ level ∷ []) parts → Innermost files front level parts
innermost files [] level parts are = record { own = are.1; outer = []; rest = are.3; are_outer = refl; joined = are.4 ∙ ap (λ l. l ++ are.1) are.2 ∙ sym (append-nil are.1) }
innermost files (first ∷ front) level parts are = grind (arith, common_steps, innermost files front level are.0 are.2) steps 200000

pub pending_behind : (files : List FileView) (front : List LevelView) (level : LevelView) (own outer : List Placed) → IsRest files level own → ArePending files front outer → ArePending files (front ++ level ∷ []) (own ++ outer)
pending_behind files [] level own outer rest are = ([], own, refl, rest, ap (λ l. own ++ l) are ∙ append-nil own)
pending_behind files (first ∷ front) level own outer rest are = grind (arith, common_steps, pending_behind files front level own are.0 rest are.2) steps 200000

-- the next piece of a file comes first
pub record NextPiece (files : List FileView) (level : LevelView) (piece : PieceView) (parts : List Placed) : Type 0 where
  pub first : List Placed
  pub later : List Placed
  pub are_parts : ArePartsOf level.file level.piece piece first
  pub rest : IsRest files (behind level) later
  pub joined : parts ≡ first ++ later

next_placed : (file n : ℕ) (piece : PieceView) (pieces : List PieceView) (parts : List Placed) → slice_get pieces n ≡ Some piece → ArePlaced file n (drop n pieces) parts → ArePlaced file n (piece ∷ drop (n + 1) pieces) parts
next_placed file n piece pieces parts there placed =
    grind (arith, common_steps, slice_get_within pieces n piece there, drop-cons pieces n piece (slice_get_within pieces n piece there), get_or_from_slice_get pieces n piece piece there) steps 200000

pub next_piece : (files : List FileView) (level : LevelView) (piece : PieceView) (parts : List Placed) → IsRest files level parts → piece_at files level ≡ Some piece → NextPiece files level piece parts
next_piece files level piece parts rest there = grind (arith, common_steps, next_placed) steps 200000

pub no_piece : (files : List FileView) (level : LevelView) (parts : List Placed) → IsRest files level parts → piece_at files level ≡ None → parts ≡ []
no_piece files level parts rest none = grind (arith, elements, drop_all, none-some) steps 200000

-- each piece has parts
placed_from : (number n : ℕ) (pieces : List PieceView) → ((k : ℕ) (piece : PieceView) → slice_get pieces k ≡ Some piece → HoldsOneUnit piece.text)
    → (parts : List Placed) × ArePlaced number n pieces parts
placed_from number n [] each = ([], refl)
placed_from number n (piece ∷ pieces) each =
    let unit = each 0 piece refl in
    let rest = placed_from number (n + 1) pieces (λ k. each (suc k)) in
    let own = map (placed_part number n piece.key) (named_parts unit.units) in
    (own ++ rest.0, (own, rest.0, record { words = unit.words; units = unit.units; has_words = unit.has_words; are_units = unit.are_units; spells = unit.spells; parts = refl }, rest.1, refl))

pub parts_there : (files : List FileView) → HoldUnits files → (number : ℕ) (file : FileView) → slice_get files number ≡ Some file
    → (parts : List Placed) × ArePlaced number 0 file.pieces parts
parts_there files hold number file there = placed_from number 0 file.pieces (hold number file there)

-- a step goes on from what is still to come
pub record Went (files : List FileView) (old new : WalkView) (pending : List Placed) (items : List Item) : Type 0 where
  pub rest : List Placed
  pub are_pending : ArePending files new.levels rest
  pub goes : Goes files pending old.names items rest new.names

-- what is still to come at a piece
pub record Before (files : List FileView) (front : List LevelView) (level : LevelView) (piece : PieceView) (pending : List Placed) : Type 0 where
  pub first : List Placed
  pub later : List Placed
  pub outer : List Placed
  pub are_parts : ArePartsOf level.file level.piece piece first
  pub rest : IsRest files (behind level) later
  pub are_outer : ArePending files front outer
  pub joined : pending ≡ first ++ (later ++ outer)

pub before : (files : List FileView) (levels front : List LevelView) (level : LevelView) (piece : PieceView) (pending : List Placed) → IsHere files levels front level piece → ArePending files levels pending → Before files front level piece pending
before files levels front level piece pending h are =
    let i = innermost files front level pending (subst (λ levels. ArePending files levels pending) h.last are) in
    let n = next_piece files level piece i.own i.rest h.there in
    record { first = n.first; later = n.later; outer = i.outer; are_parts = n.are_parts; rest = n.rest; are_outer = i.are_outer; joined = i.joined ∙ ap (λ l. l ++ i.outer) n.joined ∙ append_assoc n.first n.later i.outer }

pub leaves : (files : List FileView) (old new : WalkView) (pending : List Placed) → Leaves files old new → ArePending files old.levels pending → Went files old new pending []
leaves files old new pending l are =
    let i = innermost files l.front l.level pending (subst (λ levels. ArePending files levels pending) l.last are) in
    let same : pending ≡ i.outer = i.joined ∙ ap (λ l. l ++ i.outer) (no_piece files l.level i.own i.rest l.none) in
    let went : Went files old (record { names = old.names; levels = l.front; told = false }) pending [] =
    record { rest = i.outer; are_pending = i.are_outer; goes = subst (λ l. Goes files l old.names [] i.outer old.names) (sym same) here } in
    subst (λ new. Went files old new pending []) (sym l.after) went

module _ (one_reading : OneReading) (one_division : OneDivision) (files : List FileView) where
  pub included_first : (front : List LevelView) (level : LevelView) (piece : PieceView) (name : List ℕ) (pending : List Placed)
      (b : Before files front level piece pending) (i : Includes level.file level.piece piece name) → pending ≡ i.part ∷ (b.later ++ b.outer)
  included_first front level piece name pending b i =
      b.joined ∙ ap (λ l. l ++ (b.later ++ b.outer)) (parts_one one_reading one_division level.file level.piece piece b.first (i.part ∷ []) b.are_parts i.are_parts)

  pub comes_again : (old new : WalkView) (pending : List Placed) → ComesAgain files old new → ArePending files old.levels pending → Went files old new pending []
  comes_again old new pending c are =
      let b = before files old.levels c.front c.level c.piece pending c.is_here are in
      let rest = b.later ++ b.outer in
      let known = subst (Contains old.names) (sym c.includes.is_name) c.known in
      let goes = subst (λ l. Goes files l old.names [] rest old.names) (sym (included_first c.front c.level c.piece c.name pending b c.includes)) (again c.includes.is_inclusion known here) in
      let went : Went files old (record { names = old.names; levels = c.front ++ behind c.level ∷ []; told = false }) pending [] =
      record { rest = rest; are_pending = pending_behind files c.front (behind c.level) b.later b.outer b.rest b.are_outer; goes = goes } in
      subst (λ new. Went files old new pending []) (sym c.after) went

  pub passes_told : (old new : WalkView) (spot : PlacedPiece) (pending : List Placed) (p : PassesTold files old spot new) → ArePending files old.levels pending → Went files old new pending (placed_item p.includes.part ∷ [])
  passes_told old new spot pending p are =
      let b = before files old.levels p.front p.level p.piece pending p.is_here are in
      let rest = b.later ++ b.outer in
      let name : p.name ≡ p.includes.part.name = sym p.includes.is_name in
      let item = placed_item p.includes.part in
      let first : Goes files (p.includes.part ∷ rest) old.names (item ∷ []) rest (old.names ++ p.includes.part.name ∷ []) =
      missing p.includes.is_inclusion (λ known. p.fresh (subst (Contains old.names) (sym name) known)) (ap (number_of files) (sym name) ∙ p.none) here in
      let goes = subst (λ l. Goes files l old.names (item ∷ []) rest (old.names ++ p.name ∷ [])) (sym (included_first p.front p.level p.piece p.name pending b p.includes))
      (subst (λ n. Goes files (p.includes.part ∷ rest) old.names (item ∷ []) rest (old.names ++ n ∷ [])) (sym name) first) in
      let went : Went files old (record { names = old.names ++ p.name ∷ []; levels = p.front ++ behind p.level ∷ []; told = false }) pending (item ∷ []) =
      record { rest = rest; are_pending = pending_behind files p.front (behind p.level) b.later b.outer b.rest b.are_outer; goes = goes } in
      subst (λ new. Went files old new pending (item ∷ [])) (sym p.after) went

  pub passes : (old new : WalkView) (spot : PlacedPiece) (pending : List Placed) (p : Passes files old spot new) → ArePending files old.levels pending → Went files old new pending (map placed_item p.nothing.placed)
  passes old new spot pending p are =
      let b = before files old.levels p.front p.level p.piece pending p.is_here are in
      let rest = b.later ++ b.outer in
      let placed = p.nothing.placed in
      let items = map placed_item placed in
      let same : pending ≡ placed ++ rest = b.joined ∙ ap (λ l. l ++ rest) (parts_one one_reading one_division p.level.file p.level.piece p.piece b.first placed b.are_parts p.nothing.are_parts) in
      let went : Went files old (record { names = old.names; levels = p.front ++ behind p.level ∷ []; told = false }) pending items =
      record {
        rest = rest;
        are_pending = pending_behind files p.front (behind p.level) b.later b.outer b.rest b.are_outer;
        goes = subst (λ l. Goes files l old.names items rest old.names) (sym same) (goes_own placed rest old.names p.nothing.own);
      } in
      subst (λ new. Went files old new pending items) (sym p.after) went

  pub enters : HoldUnits files → (old new : WalkView) (pending : List Placed) → Enters files old new → ArePending files old.levels pending → Went files old new pending []
  enters hold old new pending e are =
      let b = before files old.levels e.front e.level e.piece pending e.is_here are in
      let rest = b.later ++ b.outer in
      let name : e.name ≡ e.includes.part.name = sym e.includes.is_name in
      let found = there_number files e.name e.number e.is_number in
      let inner = parts_there files hold e.number found.0 found.1 in
      let names = old.names ++ e.name ∷ [] in
      let first : Goes files (e.includes.part ∷ rest) old.names [] (inner.0 ++ rest) (old.names ++ e.includes.part.name ∷ []) =
      included inner.0 e.includes.is_inclusion (λ known. e.fresh (subst (Contains old.names) (sym name) known)) (ap (number_of files) (sym name) ∙ e.is_number) found.1 inner.1 here in
      let goes = subst (λ l. Goes files l old.names [] (inner.0 ++ rest) names) (sym (included_first e.front e.level e.piece e.name pending b e.includes))
      (subst (λ n. Goes files (e.includes.part ∷ rest) old.names [] (inner.0 ++ rest) (old.names ++ n ∷ [])) (sym name) first) in
      let outer = pending_behind files e.front (behind e.level) b.later b.outer b.rest b.are_outer in
      let begin : IsRest files (beginning e.number) inner.0 = record { file = found.0; there = found.1; placed = inner.1 } in
      let went : Went files old (record { names = names; levels = (e.front ++ behind e.level ∷ []) ++ beginning e.number ∷ []; told = false }) pending [] =
      record { rest = inner.0 ++ rest; are_pending = pending_behind files (e.front ++ behind e.level ∷ []) (beginning e.number) inner.0 rest begin outer; goes = goes } in
      subst (λ new. Went files old new pending []) (sym e.after) went

-- a walk that goes on
pub walk_on : (files : List FileView) (top : List ℕ) (items gained : List Item) (old new : WalkView) (is : IsWalk files top items old) → Went files old new is.pending gained → IsWalk files top (items ++ gained) new
walk_on files top items gained old new is went = grind (arith, common_steps, goes_joined is.goes went.goes) steps 200000

-- a walk at its end has gone past the whole expansion
abbrev pub walk_ends : (files : List FileView) (top : List ℕ) (items : List Item) (walk : WalkView) → IsWalk files top items walk → walk.levels ≡ [] → IsExpansion files top items
walk_ends files top items walk is none = record {
  number = is.number;
  file = is.file;
  is_top = is.is_top;
  there = is.there;
  parts = is.parts;
  placed = is.placed;
  after = walk.names;
  expands = expands_from_goes is.goes (subst (λ levels. ArePending files levels is.pending) none is.are_pending);
}

-- a walk begins before the parts of the top file
pub walk_begins : (files : List FileView) → HoldUnits files → (top : List ℕ) (number : ℕ) → number_of files top ≡ Some number → IsWalk files top [] (record { names = top ∷ []; levels = beginning number ∷ []; told = false })
walk_begins files hold top number is =
    let found = there_number files top number is in
    let parts = parts_there files hold number found.0 found.1 in
    record {
      number = number;
      file = found.0;
      is_top = is;
      there = found.1;
      parts = parts.0;
      placed = parts.1;
      pending = parts.0;
      are_pending = ([], parts.0, refl, record { file = found.0; there = found.1; placed = parts.1 }, refl);
      goes = here;
    }
