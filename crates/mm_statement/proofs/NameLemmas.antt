-- The names that a walk through files takes are those of the database of the files, and missing files have some of them.
use Rattle.std.proofs.Common.{◌≡◌, ◌≢◌, ℕ, ◌+◌, Bool, true, false, Option, Some, None, List, [], ◌∷◌, ◌++◌, map, slice_get, refl, sym, ap, ◌∙◌, subst, arith, append_assoc, append-nil, Contains, All}
use Rattle.std.proofs.lemmas.{Grind.{common_steps}, Option.{none-some, same_Some, slice_get-map}, List.{length-map, map-append}}
use Rattle.std.{proofs.lemmas.List.Elements.{All-append, All-cons, All-nil, Contains-append_left, Contains-push}, specs.List.{AllZip}}
use Rattle.mm_store.specs.mm_text.{declared.word.Word.{Word}, Language.{Part.{HasUnits, part}, Reading.{HasWords}, Unit.{tokens_of, unit_tokens, Units, Nothing, Simple, Block, AreUnits}}}
use Rattle.mm_store.specs.{declared.key.PieceKey.{PieceKey}, Language.{FilesView.{File, FileView, PieceView, file_number, number_of}, Keyless.{bare, one_key}}}
use Rattle.mm_store.specs.Language.Expansion.{Placed, Named, named_parts, nameless, included_name, placed_part, IsInclusion, ArePartsOf, ArePlaced, Expands, IsExpansion}
use Rattle.mm_store.specs.Language.Walking.{LevelView, WalkView, Goes, IsRest, ArePending, IsWalk, StandsBefore}
use Rattle.mm_statement.specs.Language.Database.{Located, said_of, bracket, unit_items, AreLocated, AreOfFile, Refers, Unfolds, IsDatabase}
use Rattle.mm_statement.{specs.Language.Laws.{MissingAreNamed, DatabasesAreThere, WalksTakeNames, ExpansionsTakeNames}, proofs.LocatedLemmas.{shape_says, zip_append, before_map}}
use Rattle.mm_store.specs.mm_text.declared.part.PartKind.TheVariants as parts
use Rattle.mm_store.specs.declared.item.Item as store
use Rattle.mm_store.specs.Language.Expansion as expanding
use Rattle.mm_store.specs.Language.Walking as walking
use Rattle.mm_statement.specs.Language.Database as database
use Rattle.mm_statement.specs.Language.Item as kinds

-- a text has one list of words, and words one sequence of units
pub record OneEach : Type 0 where
  pub words : (text : List ℕ) (a b : List Word) → HasWords text a → HasWords text b → a ≡ b
  pub units : (a b : Units) → AreUnits true a → AreUnits true b → unit_tokens a ≡ unit_tokens b → a ≡ b

-- ---- parts of units, and their items

-- a part and an item: both are an inclusion of one name, or neither is an inclusion
abbrev Matches : Placed → Located → Type 0
Matches part item = (IsInclusion part → Refers item part.name) × (item.said.kind ≡ kinds.Missing → IsInclusion part)

module _ (file piece : ℕ) (key : PieceKey) where
  abbrev placed : Named → Placed
  placed named = placed_part file piece key named

  units_match : (outside : Bool) (units : Units) → AreUnits outside units → AllZip Matches (map placed (named_parts units)) (unit_items file piece units)
  units_match outside Nothing are = tt
  units_match outside (Simple shape later) are =
      let says = shape_says outside shape are.0 in ((says.refers, says.own), units_match outside later are.1)
  units_match outside (Block begin inner end later) are = (
    ((λ e. absurd (cc)), (λ e. absurd (cc))),
    subst (λ placed. AllZip Matches placed (unit_items file piece inner ++ bracket file piece kinds.BlockEnd end ∷ unit_items file piece later))
        (sym (map-append placed (named_parts inner) (nameless (part parts.BlockEnd end end) ∷ named_parts later)))
        (zip_append Matches (map placed (named_parts inner)) (placed (nameless (part parts.BlockEnd end end)) ∷ map placed (named_parts later)) (unit_items file piece inner)
        (bracket file piece kinds.BlockEnd end ∷ unit_items file piece later) (units_match false inner are.1)
        (((λ e. absurd (cc)), (λ e. absurd (cc))), units_match outside later are.3)),
  )

module _ (one : OneEach) where
  same_units : (text : List ℕ) (a b : Units) → HasUnits text a → HasUnits text b → a ≡ b
  same_units text a b f g = one.units a b f.are_units g.are_units (f.spells ∙ ap (tokens_of text) (one.words text f.words g.words f.has_words g.has_words) ∙ sym g.spells)

  abbrev bare_piece : List ℕ → PieceView
  bare_piece text = record { key = one_key; text = text }

  pieces_match : (file piece : ℕ) (texts : List (List ℕ)) (parts : List Placed) (items : List Located) → ArePlaced file piece (map bare_piece texts) parts → AreLocated file piece texts items
      → AllZip Matches parts items
  pieces_match file piece [] parts items placed located = rw (placed, located) tt
  pieces_match file piece (text ∷ texts) parts items (first, rest, are, placed, joined) (units, has, later, located, is) =
      let units_are : are.units ≡ units = same_units text are.units units (record { words = are.words; has_words = are.has_words; are_units = are.are_units; spells = are.spells }) has in
      let own : AllZip Matches (map (placed_part file piece one_key) (named_parts are.units)) (unit_items file piece are.units) = units_match file piece one_key true are.units are.are_units in
      let first_is : AllZip Matches first (unit_items file piece units) =
      subst (λ (units : Units). AllZip Matches first (unit_items file piece units)) units_are (subst (λ (parts : List Placed). AllZip Matches parts (unit_items file piece are.units)) (sym are.parts) own) in
      rw (joined, is) (zip_append Matches first rest (unit_items file piece units) later first_is (pieces_match file (piece + 1) texts rest later placed located))

  -- the parts of pieces are one list, and so is what is still to come
  parts_one : (file n : ℕ) (piece : PieceView) (a b : List Placed) → ArePartsOf file n piece a → ArePartsOf file n piece b → a ≡ b
  parts_one file n piece a b p q =
      let units : p.units ≡ q.units = same_units piece.text p.units q.units (record { words = p.words; has_words = p.has_words; are_units = p.are_units; spells = p.spells })
      (record { words = q.words; has_words = q.has_words; are_units = q.are_units; spells = q.spells }) in
      p.parts ∙ ap (λ units. map (placed_part file n piece.key) (named_parts units)) units ∙ sym q.parts

  placed_one : (file n : ℕ) (pieces : List PieceView) (a b : List Placed) → ArePlaced file n pieces a → ArePlaced file n pieces b → a ≡ b
  placed_one file n [] a b p q = p ∙ sym q
  placed_one file n (piece ∷ pieces) a b p q =
      p.4 ∙ ap (λ l. l ++ p.1) (parts_one file n piece p.0 q.0 p.2 q.2) ∙ ap (λ l. q.0 ++ l) (placed_one file (n + 1) pieces p.1 q.1 p.3 q.3) ∙ sym q.4

  rest_one : (files : List FileView) (level : LevelView) (a b : List Placed) → IsRest files level a → IsRest files level b → a ≡ b
  rest_one files level a b p q = grind (arith, common_steps, placed_one, same_Some) steps 200000

  pending_one : (files : List FileView) (levels : List LevelView) (a b : List Placed) → ArePending files levels a → ArePending files levels b → a ≡ b
  pending_one files [] a b p q = p ∙ sym q
  pending_one files (level ∷ inner) a b p q =
      p.4 ∙ ap (λ l. l ++ p.1) (pending_one files inner p.0 q.0 p.2 q.2) ∙ ap (λ l. q.0 ++ l) (rest_one files level p.1 q.1 p.3 q.3) ∙ sym q.4

-- ---- what items give, one item at a time

one_name : (item : Located) (a b : List ℕ) → Refers item a → Refers item b → a ≡ b
one_name item a b f g = let same : a ∷ [] ≡ b ∷ [] = sym f.1 ∙ g.1 in cc

module _ (files : List File) where
  unfold_own : {item : Located} {later all : List Located} {names final : List (List ℕ)} → Unfolds files (item ∷ later) names all final → item.said.kind ≢ kinds.Missing
      → (items : List Located) × Unfolds files later names items final
  unfold_own (database.own {items = items} kind rest) other = (items, rest)
  unfold_own (database.again refers known rest) other = absurd (other refers.0)
  unfold_own (database.missing refers new none rest) other = absurd (other refers.0)
  unfold_own (database.included refers new of inner rest) other = absurd (other refers.0)

  unfold_again : {item : Located} {later all : List Located} {names final : List (List ℕ)} (name : List ℕ) → Unfolds files (item ∷ later) names all final → Refers item name
      → Contains names name → Unfolds files later names all final
  unfold_again name (database.own kind rest) refers known = absurd (kind refers.0)
  unfold_again name (database.again other is rest) refers known = rest
  unfold_again {item = item} {names = names} name (database.missing {name = copy} other new none rest) refers known = absurd (new (subst (Contains names) (one_name item name copy refers other) known))
  unfold_again {item = item} {names = names} name (database.included {name = copy} other new of inner rest) refers known = absurd (new (subst (Contains names) (one_name item name copy refers other) known))

  unfold_missing : {item : Located} {later all : List Located} {names final : List (List ℕ)} (name : List ℕ) → Unfolds files (item ∷ later) names all final → Refers item name
      → ¬ Contains names name → file_number files name ≡ None → (items : List Located) × Unfolds files later (names ++ name ∷ []) items final
  unfold_missing name (database.own kind rest) refers new none = absurd (kind refers.0)
  unfold_missing {item = item} {names = names} name (database.again {name = copy} other known rest) refers new none = absurd (new (subst (Contains names) (one_name item copy name other refers) known))
  unfold_missing {item = item} {later = later} {names = names} {final = final} name (database.missing {name = copy} {items = items} other is free rest) refers new none =
      (items, subst (λ (name : List ℕ). Unfolds files later (names ++ name ∷ []) items final) (one_name item copy name other refers) rest)
  unfold_missing {item = item} name (database.included {name = copy} other is of inner rest) refers new none =
      grind (arith, common_steps, none-some, one_name) steps 200000

  -- what an included file gives, and what comes after it
  record Included (name : List ℕ) (later : List Located) (names final : List (List ℕ)) : Type 0 where
    inner : List Located
    of : AreOfFile files name inner
    gained : List Located
    items : List Located
    between : List (List ℕ)
    first : Unfolds files inner (names ++ name ∷ []) gained between
    rest : Unfolds files later between items final

  unfold_included : {item : Located} {later all : List Located} {names final : List (List ℕ)} (name : List ℕ) (number : ℕ) → Unfolds files (item ∷ later) names all final → Refers item name
      → ¬ Contains names name → file_number files name ≡ Some number → Included name later names final
  unfold_included name number (database.own kind rest) refers new some = absurd (kind refers.0)
  unfold_included {item = item} {names = names} name number (database.again {name = copy} other known rest) refers new some = absurd (new (subst (Contains names) (one_name item copy name other refers) known))
  unfold_included {item = item} name number (database.missing {name = copy} other is none rest) refers new some =
      grind (arith, common_steps, none-some, one_name) steps 200000
  unfold_included {item = item} {names = names} name number (database.included {name = copy} {inner = inner} {gained = gained} {items = items} {between = between} other is of first rest) refers new some =
      grind (arith, common_steps, between, first, gained, inner, items, of, one_name, rest) steps 200000

  unfold_join : {a b gained items : List Located} {names between final : List (List ℕ)} → Unfolds files a names gained between → Unfolds files b between items final
      → Unfolds files (a ++ b) names (gained ++ items) final
  unfold_join database.nothing then = then
  unfold_join (database.own kind rest) then = database.own kind (unfold_join rest then)
  unfold_join (database.again refers known rest) then = database.again refers known (unfold_join rest then)
  unfold_join (database.missing refers new none rest) then = database.missing refers new none (unfold_join rest then)
  unfold_join {b = b} {items = items} {names = names} {final = final} (database.included {item = item} {later = later} {gained = gained} {items = own} refers new of inner rest) then =
      subst (λ (all : List Located). Unfolds files ((item ∷ later) ++ b) names all final) (sym (append_assoc gained own items)) (database.included refers new of inner (unfold_join rest then))

  -- names stay, and others come after them
  unfold_grows : {items all : List Located} {names final : List (List ℕ)} → Unfolds files items names all final → (later : List (List ℕ)) × (final ≡ names ++ later)
  unfold_grows {names = names} database.nothing = ([], sym (append-nil names))
  unfold_grows (database.own kind rest) = unfold_grows rest
  unfold_grows (database.again refers known rest) = unfold_grows rest
  unfold_grows {names = names} (database.missing {name = name} refers new none rest) =
      let (later, is) = unfold_grows rest in (name ∷ later, is ∙ append_assoc names (name ∷ []) later)
  unfold_grows {names = names} (database.included {name = name} refers new of inner rest) =
      let (first, between_is) = unfold_grows inner in
      let (later, is) = unfold_grows rest in
      (name ∷ (first ++ later), is ∙ ap (λ l. l ++ later) between_is ∙ append_assoc (names ++ name ∷ []) first later ∙ append_assoc names (name ∷ []) (first ++ later))

  unfold_keeps : {items all : List Located} {names final : List (List ℕ)} (name : List ℕ) → Unfolds files items names all final → Contains names name → Contains final name
  unfold_keeps {names = names} name unfolds known =
      let (later, is) = unfold_grows unfolds in subst (λ names. Contains names name) (sym is) (Contains-append_left names later name known)

  -- a new name comes next
  unfold_next : {item : Located} {later all : List Located} {names final : List (List ℕ)} (name : List ℕ) → Unfolds files (item ∷ later) names all final → Refers item name
      → ¬ Contains names name → (behind : List (List ℕ)) × (final ≡ names ++ name ∷ behind)
  unfold_next {names = names} {final = final} name unfolds refers new = by (file_number files name) refl
    where
      by : (number : Option ℕ) → file_number files name ≡ number → (behind : List (List ℕ)) × (final ≡ names ++ name ∷ behind)
      by None none =
          let (behind, is) = unfold_grows (unfold_missing name unfolds refers new none).1 in (behind, is ∙ append_assoc names (name ∷ []) behind)
      by (Some number) some =
          let given = unfold_included name number unfolds refers new some in
          let (first, between_is) = unfold_grows given.first in
          let (behind, is) = unfold_grows given.rest in
          (first ++ behind, is ∙ ap (λ l. l ++ behind) between_is ∙ append_assoc (names ++ name ∷ []) first behind ∙ append_assoc names (name ∷ []) (first ++ behind))

  -- ---- missing files

  abbrev IsNamed : List (List ℕ) → Located → Type 0
  IsNamed names item = item.said.kind ≡ kinds.Missing → (name : List ℕ) × Refers item name × Contains names name × (file_number files name ≡ None)

  each_named : {items all : List Located} {names final : List (List ℕ)} → Unfolds files items names all final
      → (last : List (List ℕ)) → ((name : List ℕ) → Contains final name → Contains last name) → All (IsNamed last) all
  each_named database.nothing last into = All-nil (IsNamed last)
  each_named (database.own {item = item} {items = items} other rest) last into = All-cons (IsNamed last) item items (λ kind. absurd (other kind)) (each_named rest last into)
  each_named (database.again refers known rest) last into = each_named rest last into
  each_named {names = names} (database.missing {item = item} {name = name} {items = items} refers new none rest) last into =
      All-cons (IsNamed last) item items (λ kind. (name, refers, into name (unfold_keeps name rest (Contains-push names name)), none)) (each_named rest last into)
  each_named (database.included {gained = gained} {items = items} refers new of inner rest) last into =
      All-append (IsNamed last) gained items (each_named inner last (λ name known. into name (unfold_keeps name rest known))) (each_named rest last into)

pub missing_named : MissingAreNamed
missing_named files top items is = each_named files is.unfolds is.after (λ name known. known)

-- ---- walks

-- a name has one number, under one key and without
number_bare : (files : List File) (name : List ℕ) → number_of (bare files) name ≡ file_number files name
number_bare files name = grind (arith, common_steps, before_map, length-map) steps 200000

module _ (one : OneEach) (files : List File) where
  -- the parts and the items of an included file
  included_match : (name : List ℕ) (number : ℕ) (file : FileView) (inner : List Placed) (located : List Located) → number_of (bare files) name ≡ Some number
      → slice_get (bare files) number ≡ Some file → ArePlaced number 0 file.pieces inner → AreOfFile files name located → AllZip Matches inner located
  included_match name number file inner located is there placed of =
      grind (arith, common_steps, inner, number_bare, pieces_match, same_Some, slice_get-map) steps 200000

  -- what items give of which a walk has passed a part
  record Passed (rest : List Placed) (after final : List (List ℕ)) : Type 0 where
    left : List Located
    later : List Located
    unfolds : Unfolds files left after later final
    matches : AllZip Matches rest left

  goes_in : {parts rest : List Placed} {names after final : List (List ℕ)} {passed : List store.Item} {located all : List Located} → Goes (bare files) parts names passed rest after
      → Unfolds files located names all final → AllZip Matches parts located → Passed rest after final
  goes_in {located = located} {all = all} walking.here unfolds matches = record { left = located; later = all; unfolds = unfolds; matches = matches }
  goes_in {located = []} (walking.own other goes) unfolds matches = absurd matches
  goes_in {located = item ∷ located} (walking.own other goes) unfolds (match, matches) = goes_in goes (unfold_own files unfolds (λ kind. other (match.1 kind))).1 matches
  goes_in {located = []} (walking.again inclusion known goes) unfolds matches = absurd matches
  goes_in {located = item ∷ located} (walking.again {part = part} inclusion known goes) unfolds (match, matches) =
      goes_in goes (unfold_again files part.name unfolds (match.0 inclusion) known) matches
  goes_in {located = []} (walking.missing inclusion new none goes) unfolds matches = absurd matches
  goes_in {located = item ∷ located} (walking.missing {part = part} inclusion new none goes) unfolds (match, matches) =
      goes_in goes (unfold_missing files part.name unfolds (match.0 inclusion) new (sym (number_bare files part.name) ∙ none)).1 matches
  goes_in {located = []} (walking.included inner inclusion new some there placed goes) unfolds matches = absurd matches
  goes_in {parts = first ∷ parts} {located = item ∷ located} (walking.included {part = part} {number = number} {file = file} inner inclusion new some there placed goes) unfolds (match, matches) =
      let given = unfold_included files part.name number unfolds (match.0 inclusion) new (sym (number_bare files part.name) ∙ some) in
      goes_in goes (unfold_join files given.first given.rest)
      (zip_append Matches inner parts given.inner located (included_match part.name number file inner given.inner some there placed given.of) matches)

  -- the parts and the items of a file give one list of names
  same_names : {parts : List Placed} {names after final : List (List ℕ)} {passed : List store.Item} {located all : List Located} → Expands (bare files) parts names passed after
      → Unfolds files located names all final → AllZip Matches parts located → final ≡ after
  same_names {located = []} expanding.nothing database.nothing matches = refl
  same_names {located = item ∷ located} expanding.nothing unfolds matches = absurd matches
  same_names {located = []} (expanding.own other expands) unfolds matches = absurd matches
  same_names {located = item ∷ located} (expanding.own other expands) unfolds (match, matches) = same_names expands (unfold_own files unfolds (λ kind. other (match.1 kind))).1 matches
  same_names {located = []} (expanding.again inclusion known expands) unfolds matches = absurd matches
  same_names {located = item ∷ located} (expanding.again {part = part} inclusion known expands) unfolds (match, matches) =
      same_names expands (unfold_again files part.name unfolds (match.0 inclusion) known) matches
  same_names {located = []} (expanding.missing inclusion new none expands) unfolds matches = absurd matches
  same_names {located = item ∷ located} (expanding.missing {part = part} inclusion new none expands) unfolds (match, matches) =
      same_names expands (unfold_missing files part.name unfolds (match.0 inclusion) new (sym (number_bare files part.name) ∙ none)).1 matches
  same_names {located = []} (expanding.included inclusion new some there placed inner expands) unfolds matches = absurd matches
  same_names {final = final} {located = item ∷ located} (expanding.included {part = part} {inner = within} {number = number} {file = file} inclusion new some there placed inner expands) unfolds (match, matches) =
      let given = unfold_included files part.name number unfolds (match.0 inclusion) new (sym (number_bare files part.name) ∙ some) in
      let first = same_names inner given.first (included_match part.name number file within given.inner some there placed given.of) in
      same_names expands (subst (λ (names : List (List ℕ)). Unfolds files located names given.items final) first given.rest) matches

  stands_next : (part : Placed) (later : List Placed) {left all : List Located} {names final : List (List ℕ)} → AllZip Matches (part ∷ later) left → Unfolds files left names all final
      → IsInclusion part → ¬ Contains names part.name → (behind : List (List ℕ)) × (final ≡ names ++ part.name ∷ behind)
  stands_next part later {left = []} matches unfolds inclusion new = absurd matches
  stands_next part later {left = item ∷ left} (match, matches) unfolds inclusion new = unfold_next files part.name unfolds (match.0 inclusion) new

named_top : (files : List File) (top : List ℕ) (number : ℕ) → number_of (bare files) top ≡ Some number → file_number files top ≢ None
named_top files top number is none = none-some number (sym none ∙ sym (number_bare files top) ∙ is)

pub walk_takes : OneEach → DatabasesAreThere → WalksTakeNames
walk_takes one there files top items walk part hold is stands =
    let (all, of_files) = (there files top hold).1 (named_top files top is.number is.is_top) in
    let passed = goes_in one files is.goes of_files.unfolds (included_match one files top is.number is.file is.parts of_files.own is.is_top is.there is.placed of_files.of_top) in
    let pending = pending_one one (bare files) walk.levels is.pending (part ∷ stands.later) is.are_pending stands.are_pending in
    let (later, are) = stands_next one files part stands.later (subst (λ parts. AllZip Matches parts passed.left) pending passed.matches) passed.unfolds stands.is_inclusion stands.new in
    (all, of_files, later, are)

pub expansion_takes : OneEach → DatabasesAreThere → ExpansionsTakeNames
expansion_takes one there files top items is hold =
    let (all, of_files) = (there files top hold).1 (named_top files top is.number is.is_top) in
    (all, of_files, same_names one files is.expands of_files.unfolds (included_match one files top is.number is.file is.parts of_files.own is.is_top is.there is.placed of_files.of_top))
