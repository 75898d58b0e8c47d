-- What is proved of the items of files: each is the contract of a function.
use Rattle.std.specs.Prelude.{◌≡◌, ◌≢◌, ◌↔◌, ℕ, None, List, ◌∷◌, ◌++◌, All, Contains, map}
use Rattle.std.specs.List.{AllZip}
use Rattle.mm_store.specs.declared.item.Item as store
use Rattle.mm_store.specs.Language.FilesView.{File, FilesView, files_in, file_number, plain}
use Rattle.mm_store.specs.Language.FileFacts.{HoldsPieces}
use Rattle.mm_store.specs.Language.Expansion.{Placed, IsExpansion}
use Rattle.mm_store.specs.Language.Holding.{HoldOneEach}
use Rattle.mm_store.specs.Language.Keyless.{bare}
use Rattle.mm_store.specs.Language.Walking.{WalkView, IsWalk, StandsBefore}
use Rattle.mm_statement.specs.Language.Item.{Said, Missing}
use Rattle.mm_statement.specs.Language.Statement.{Says}
use Rattle.mm_statement.specs.Language.Database.{Located, Refers, IsDatabase}
use Rattle.mm_statement.specs.Language.Locating.{IsLocated}

-- The items that are kept of files, and what they say, are the items of the database of the files, where they stand.
abbrev pub ItemsAreLocated : Type 0
ItemsAreLocated =
    (files : FilesView) (top : List ℕ) (found : List store.Item) (said : List Said) → HoldsPieces files → IsExpansion (files_in files) top found
    → AllZip (Says files) found said
    → (items : List Located) × IsDatabase (plain files) top items × (map (λ item. item.said) items ≡ said) × AllZip (IsLocated files) found items

-- The items of the database of files can be kept as bytes of pieces under keys, and say the same.
abbrev pub LocatedAreItems : Type 0
LocatedAreItems =
    (files : FilesView) (top : List ℕ) (items : List Located) → HoldsPieces files → IsDatabase (plain files) top items
    → (found : List store.Item) × IsExpansion (files_in files) top found × AllZip (Says files) found (map (λ item. item.said) items)
    × AllZip (IsLocated files) found items

-- Files have one list of items at most from a top file on.
abbrev pub FilesHaveOneDatabase : Type 0
FilesHaveOneDatabase = (files : List File) (top : List ℕ) (a b : List Located) → IsDatabase files top a → IsDatabase files top b → a ≡ b

-- Files each piece of which holds one unit have items from each top file on that is among them, and from no other.
abbrev pub DatabasesAreThere : Type 0
DatabasesAreThere = (files : List File) (top : List ℕ) → HoldOneEach files →
    ((items : List Located) × IsDatabase files top items) ↔ (file_number files top ≢ None)

-- Each reference to a missing file in a database names one file; the name is among those of the database, and no file has it.
abbrev pub MissingAreNamed : Type 0
MissingAreNamed =
    (files : List File) (top : List ℕ) (items : List Located) (database : IsDatabase files top items)
    → All (λ item. item.said.kind ≡ Missing → (name : List ℕ) × Refers item name × Contains database.after name × (file_number files name ≡ None)) items

-- A database of files has one list of names.
abbrev pub DatabasesHaveOneListOfNames : Type 0
DatabasesHaveOneListOfNames =
    (files : List File) (top : List ℕ) (items others : List Located) (a : IsDatabase files top items) (b : IsDatabase files top others) → a.after ≡ b.after

-- The names of the database of files begin with those that a walk has taken, and go on with that of the reference that it stands before.
abbrev pub WalksTakeNames : Type 0
WalksTakeNames =
    (files : List File) (top : List ℕ) (items : List store.Item) (walk : WalkView) (part : Placed) → HoldOneEach files → IsWalk (bare files) top items walk
    → StandsBefore (bare files) walk part
    → (all : List Located) × (database : IsDatabase files top all) × (later : List (List ℕ)) × (database.after ≡ walk.names ++ part.name ∷ later)

-- The names of the database of files are those of the expansion of the files without keys.
abbrev pub ExpansionsTakeNames : Type 0
ExpansionsTakeNames =
    (files : List File) (top : List ℕ) (items : List store.Item) (expansion : IsExpansion (bare files) top items) → HoldOneEach files
    → (all : List Located) × (database : IsDatabase files top all) × (database.after ≡ expansion.after)
