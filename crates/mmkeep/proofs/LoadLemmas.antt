-- Files that are loaded: none is parked, those that are there stay, and a walk goes on among them.
use Rattle.std.proofs.Common.{rules, [], ◌≡◌, ◌≢◌, ℕ, ◌+◌, ◌-◌, ◌*◌, ◌<◌, ◌≤◌, Bool, true, false, append-nil, not, cond, List, ◌∷◌, ◌++◌, ◌⊎◌, append_assoc, get_or, length, length-append, Option}
use Rattle.std.proofs.{Common.{Some, None, Result, Ok, Err, OnOk, IfErr, IsErrAnd, IsErrOf, map, sym, ap, ◌∙◌, subst, subst₂, refl, inl, inr, arith, Contains, position}, lemmas.Grind.{common_steps}}
use Rattle.std.proofs.lemmas.{Bool.{cases_eq, false≢true}, List.{length-map, length_push, nil_from_length, get_or-append-add, get_or_append_left, get_or_push}}
use Rattle.std.proofs.lemmas.List.{Elements.{Contains-append_cases, Contains-append_right, Contains-push, Contains-push_cases}, Folds.{position_or_len_push}, Sums.{prefix_len-le-length}}
use Rattle.std.{proofs.lemmas.Slice.Eq.{bytes_eq-Decides}, specs.{Io.KnownBytes.{Consumes}, List.{position_or_len, sum_by}, Str.{bytes_eq}, Ordering.{nat_cmp}}}
use Rattle.mm_report.specs.mm_store.{declared.{error.StoreError.{StoreError, TheVariants.{Memory as Lacking, NoTop}}, item.Item.{Item}}, Language.Answers.{IsExpansionError}}
use Rattle.mm_report.specs.mm_store.Language.{FileFacts.{IsAdded, parked_in}, FilesView.{File, FileView, file_number, no_files, number_of}, Expansion.{Placed}, Holding.{HoldOneEach}}
use Rattle.mm_report.specs.mm_store.Language.{Keyless.{bare, bare_file}, Pieces.{HeldPiece, parked_state}, Walking.{WalkView, Goes, IsWalk, GoesOn, HasReported, StandsBefore, FindsEnd, FindsMissing}}
use Rattle.mm_report.specs.mm_script.{declared.read_stream.Reading.{Reading}, Language.Stream.{calls_left, unread}}
use Rattle.mm_report.specs.mm_statement.Language.Laws.{DatabasesHaveOneListOfNames, WalksTakeNames, ExpansionsTakeNames}
use Rattle.mmkeep.specs.declared.{adding.FileError.{FileError}, unloaded.Unloaded.{Unloaded, TheVariants.{Input, Read, Memory}}}
use Rattle.mmkeep.specs.Code.Loaded.{AddsIfOpened, AddsOpened, FindsNext, HasFile, KeepsFiles, Loads, StopsOpened, TakesFile, TakesTop, begins, takes}
use Rattle.mmkeep.specs.Language.Loading.{AddsFile, AreLoaded, Bytes, GivesFile, GivesFiles, IsFileError, IsUnloaded, KnownFile, NoFile, Opens, ReadsOn, StopsAt, StopsAtTop, StopsLoading, Unknown}
use Rattle.mmkeep.specs.declared.adding.FileError.TheVariants as errors
use Rattle.mm_report.specs.mm_store.Language.Walking as walking
use Rattle.std.specs.FinMap as finite

pub nothing_parked : parked_in no_files ≡ 0
nothing_parked = ap (sum_by (λ (entry : ℕ × HeldPiece). parked_state entry.1.state)) (nil_from_length (finite.entries finite.empty) (sym (finite.len-entries finite.empty) ∙ finite.len-empty nat_cmp HeldPiece))

-- a file of this name is added, or the files are as before
abbrev pub MayHaveAdded : List File → List File → List ℕ → Type 0
MayHaveAdded old new name = (new ≡ old) ⊎ ((text : List ℕ) × IsAdded old new name text)

-- ---- a file that is added

-- with one more element there is one that passes a test, if this one does, or if one did before
one_passes : {X : Type 0} (test : X → Bool) (xs : List X) (y : X) → (test y ≡ true) ⊎ (position test xs ≢ None) → position test (xs ++ y ∷ []) ≢ None
one_passes test xs y some = grind (arith, common_steps, position_or_len_push test xs y, prefix_len-le-length (λ x. not (test x)) xs) steps 200000

pub added_there : (old new : List File) (name text : List ℕ) → IsAdded old new name text → HasFile new name
added_there old new name text a = grind (arith, common_steps, bytes_eq-Decides, old, one_passes) steps 200000

-- and leaves the others there
pub added_keeps : (old new : List File) (name text : List ℕ) → IsAdded old new name text → KeepsFiles old new
added_keeps old new name text a other has = grind (arith, common_steps, old, one_passes) steps 200000

pub may_keep : (old new : List File) (name : List ℕ) → MayHaveAdded old new name → KeepsFiles old new
may_keep old new name (inl same) = λ other has. subst (λ (files : List File). HasFile files other) (sym same) has
may_keep old new name (inr added) = added_keeps old new name added.0 added.1

pub still_there : {T E : Type 0} (result : Result T E) (old new : List File) (name : List ℕ) → OnOk result (KeepsFiles old new) → HasFile old name
    → OnOk result (HasFile new name)
still_there (Ok done) old new name keeps has = keeps name has
still_there (Err error) old new name keeps has = tt

-- ---- a file that was opened

pub file_there : {T E : Type 0} (result : Result T E) (old new : List File) (name : List ℕ) (unread : Option (List ℕ))
    → OnOk result (AddsFile old new name unread) → OnOk result (HasFile new name)
file_there (Ok done) old new name unread a = added_there old new name a.text a.is_added
file_there (Err error) old new name unread a = tt

pub may_have : (known : KnownFile) (old new : List File) (name : List ℕ) → TakesFile known old new name → MayHaveAdded old new name
may_have Unknown old new name (inl same) = inl same
may_have Unknown old new name (inr a) = inr (a.text, a.is_added)
may_have NoFile old new name same = inl same
may_have (Bytes bytes) old new name a = inr (a.text, a.is_added)

module _ {F E T O : Type 0} (remaining : F → Option (List ℕ)) (Lacks : E → Type 0) (lack : O) (old new : List File) (name : List ℕ) where
  pub takes_file : (known : KnownFile) (opened : Result F E) (result : Result T O) → Opens remaining Lacks known opened
      → OnOk result (AddsIfOpened remaining opened old new name) → IfErr opened (λ error. Lacks error → IsErrOf result lack)
      → OnOk result (TakesFile known old new name)
  takes_file known opened (Err outcome) agrees adds lacking = tt
  takes_file Unknown (Ok file) (Ok done) agrees adds lacking = inr (record { text = adds.text; is_added = adds.is_added; is_text = tt })
  takes_file Unknown (Err error) (Ok done) agrees adds lacking = inl adds
  takes_file NoFile (Ok file) (Ok done) agrees adds lacking = absurd agrees
  takes_file NoFile (Err error) (Ok done) agrees adds lacking = adds
  takes_file (Bytes bytes) (Ok file) (Ok done) agrees adds lacking = subst (AddsFile old new name) agrees adds
  takes_file (Bytes bytes) (Err error) (Ok done) agrees adds lacking = absurd (let no : IsErrOf (Ok done) lack = lacking agrees in cc)

module _ {F E T O : Type 0} (remaining : F → Option (List ℕ)) (Lacks : E → Type 0) (old new : List File) (name : List ℕ) where
  pub takes_top : (known : KnownFile) (opened : Result F E) (result : Result T O) → Opens remaining Lacks known opened
      → OnOk result (AddsOpened remaining opened old new name) → OnOk result (TakesTop known old new name)
  takes_top known opened (Err outcome) agrees adds = tt
  takes_top known (Err error) (Ok done) agrees adds = absurd adds
  takes_top Unknown (Ok file) (Ok done) agrees adds = record { text = adds.text; is_added = adds.is_added; is_text = tt }
  takes_top NoFile (Ok file) (Ok done) agrees adds = absurd agrees
  takes_top (Bytes bytes) (Ok file) (Ok done) agrees adds = subst (AddsFile old new name) agrees adds

-- ---- why a file is not added

-- one more read has brought a part
pub read_on : {R : Type 0} (remaining : R → Option (List ℕ)) (left : Option (List ℕ)) (calls : ℕ) (before after : Reading R) (text part : List ℕ)
    → Consumes left (unread remaining before) text → calls ≤ calls_left before + length text
    → Consumes (unread remaining before) (unread remaining after) part → calls_left before ≡ calls_left after + 1 → ReadsOn remaining left calls after
read_on remaining left calls before after text part come few more one = grind (arith, common_steps, length-append text part, one) steps 200000

-- it is not read to its end, or memory runs out
pub unread_error : (files : List File) (unread : Option (List ℕ)) (error : FileError) → (error ≡ errors.Read) ⊎ (error ≡ errors.Memory)
    → IsFileError files unread error
unread_error files unread error (inl is) = rw is tt
unread_error files None error (inr is) = rw is tt
unread_error files (Some bytes) error (inr is) = rw is tt

-- ---- a file that was opened and is not added

-- if less is known of it
unknown_stops : {R : Type 0} (remaining : R → Option (List ℕ)) (files : List File) (unread : Option (List ℕ)) (unloaded : Unloaded R)
    → StopsLoading remaining files unread unloaded → StopsLoading remaining files None unloaded
unknown_stops remaining files unread Input why = tt
unknown_stops remaining files unread (Read reading) why = (why.0, record { bytes = why.1.bytes; come = tt; few = why.1.few })
unknown_stops remaining files unread Memory why = tt

module _ {F E : Type 0} (remaining : F → Option (List ℕ)) (Lacks : E → Type 0) (files : List File) where
  -- what is known of the file is what its reader has
  of_known : (known : KnownFile) (file : F) (unloaded : Unloaded F) → Opens {E = E} remaining Lacks known (Ok file)
      → StopsLoading remaining files (remaining file) unloaded → StopsAt remaining known files unloaded
  of_known Unknown file unloaded agrees why = unknown_stops remaining files (remaining file) unloaded why
  of_known NoFile file unloaded agrees why = absurd agrees
  of_known (Bytes bytes) file unloaded agrees why = subst (λ unread. StopsLoading remaining files unread unloaded) agrees why

  memory_stops_at : (known : KnownFile) (unloaded : Unloaded F) → unloaded ≡ Memory → StopsAt remaining known files unloaded
  memory_stops_at Unknown unloaded is = rw is tt
  memory_stops_at NoFile unloaded is = is
  memory_stops_at (Bytes bytes) unloaded is = rw is tt

  pub as_any : (known : KnownFile) (unloaded : Unloaded F) → StopsAt remaining known files unloaded → StopsAtTop remaining known files unloaded
  as_any Unknown unloaded stops = stops
  as_any NoFile unloaded stops = inl stops
  as_any (Bytes bytes) unloaded stops = stops

  pub stops_file : {T : Type 0} (known : KnownFile) (opened : Result F E) (result : Result T (Unloaded F)) → Opens remaining Lacks known opened
      → IfErr result (StopsOpened (λ unloaded. unloaded ≡ Memory) remaining opened files) → IfErr result (StopsAt remaining known files)
  stops_file known opened (Ok done) agrees stops = tt
  stops_file known (Ok file) (Err unloaded) agrees stops = of_known known file unloaded agrees stops
  stops_file known (Err error) (Err unloaded) agrees stops = memory_stops_at known unloaded stops

  -- the top file is there, and was not opened: memory has run out
  unopened : {T : Type 0} (known : KnownFile) (error : E) (unloaded : Unloaded F) → Opens {F = F} remaining Lacks known (Err error)
      → (Lacks error → IsErrOf {T = T} (Err unloaded) Memory) → (unloaded ≡ Memory) ⊎ (unloaded ≡ Input) → StopsAtTop remaining known files unloaded
  unopened known error unloaded agrees memory (inl is) = as_any known unloaded (memory_stops_at known unloaded is)
  unopened Unknown error unloaded agrees memory (inr is) = rw is tt
  unopened NoFile error unloaded agrees memory (inr is) = inr is
  unopened {T} (Bytes bytes) error unloaded agrees memory (inr is) = grind (arith, common_steps, as_any, memory_stops_at) steps 200000

  pub stops_top : {T : Type 0} (known : KnownFile) (opened : Result F E) (result : Result T (Unloaded F)) → Opens remaining Lacks known opened
      → IfErr opened (λ error. Lacks error → IsErrOf result Memory)
      → IfErr result (StopsOpened (λ unloaded. (unloaded ≡ Memory) ⊎ (unloaded ≡ Input)) remaining opened files)
      → IfErr result (StopsAtTop remaining known files)
  stops_top known opened (Ok done) agrees memory stops = tt
  stops_top known (Ok file) (Err unloaded) agrees memory stops = as_any known unloaded (of_known known file unloaded agrees stops)
  stops_top known (Err error) (Err unloaded) agrees memory stops = unopened known error unloaded agrees memory stops

-- what is true of an error is true of it when it is handed up
pub handed_up : {T E : Type 0} (result : Result T E) (error : E) (P : E → Type 0) → IsErrAnd result (λ e. e ≡ error) → P error → IfErr result P
handed_up (Ok done) error P is p = tt
handed_up (Err e) error P is p = subst P (sym is) p

-- ---- why files that have the top file are not gone through

before_map : {X Y : Type 0} (test : Y → Bool) (f : X → Y) (xs : List X) → position_or_len test (map f xs) ≡ position_or_len (λ x. test (f x)) xs
before_map test f [] = refl
before_map test f (x ∷ xs) = ap (λ (k : ℕ). cond (not (test (f x))) (1 + k) 0) (before_map test f xs)

position_map : {X Y : Type 0} (test : Y → Bool) (f : X → Y) (xs : List X) → position test (map f xs) ≡ position (λ x. test (f x)) xs
position_map test f xs = rw (before_map test f xs, length-map xs f) refl

-- it is out of memory
pub is_memory : (error : StoreError) → IsExpansionError error → (error ≡ NoTop → ⊥) → error ≡ Lacking
is_memory error (inl e) some = absurd (some e)
is_memory error (inr e) some = e

-- ---- a name that a walk finds missing

-- it is new
pub missing_new : (files : List File) (top name : List ℕ) (items : List Item) (before after : WalkView)
    → FindsMissing (bare files) top items before after name → file_number files name ≡ None
missing_new files top name items before after finds = sym (position_map (λ file. bytes_eq name file.name) bare_file files) ∙ finds.none

-- a walk goes on among more files, if it has not taken the name that is added
abbrev pub WalksOn : Type 0
WalksOn = (old new : List File) (name text top : List ℕ) (items : List Item) (walk : WalkView)
    → IsAdded old new name text → ¬ Contains walk.names name → IsWalk (bare old) top items walk → IsWalk (bare new) top items walk

walked_on : WalksOn → (old new : List File) (top name : List ℕ) (items : List Item) (before after : WalkView)
    → (finds : FindsMissing (bare old) top items before after name) → MayHaveAdded old new name
    → IsWalk (bare new) top (items ++ finds.goes_on.more) after
walked_on law old new top name items before after finds (inl same) = rw same finds.goes_on.is_walk
walked_on law old new top name items before after finds (inr added) =
    law old new name added.0 top (items ++ finds.goes_on.more) after added.1 (λ taken. finds.stands.new (rw finds.is_name taken))
    finds.goes_on.is_walk

-- and stands before the same reference
abbrev pub StandsOn : Type 0
StandsOn = (old new : List File) (name text : List ℕ) (walk : WalkView) (part : Placed) → IsAdded old new name text
    → StandsBefore (bare old) walk part → StandsBefore (bare new) walk part

-- and no other
abbrev pub StandsOnce : Type 0
StandsOnce = (files : List FileView) (walk : WalkView) (a b : Placed) → StandsBefore files walk a → StandsBefore files walk b → a ≡ b

stood_on : StandsOn → (old new : List File) (name : List ℕ) (walk : WalkView) (part : Placed) → MayHaveAdded old new name
    → StandsBefore (bare old) walk part → StandsBefore (bare new) walk part
stood_on law old new name walk part (inl same) stands = rw same stands
stood_on law old new name walk part (inr added) stands = law old new name added.0 walk part added.1 stands

-- 1 before a walk has reported the name that is next
abbrev pub unreported : Bool → ℕ
unreported true = 0
unreported false = 1

-- twice the names that a walk may still take, and one before it reports the first
abbrev pub names_left : WalkView → ℕ
names_left walk = 2 * (4294967297 - length walk.names) + unreported walk.told

module _ (files : List FileView) (top name : List ℕ) (items : List Item) (walk next : WalkView) (finds : FindsMissing files top items walk next name) where
  -- the name that it has reported is one more
  one_more : (before : List ℕ) → HasReported files walk before → (later : List (List ℕ)) → next.names ≡ walk.names ++ later → length walk.names < length next.names
  one_more before reported [] is =
      let known : Contains walk.names before = subst (λ names. Contains names before) (is ∙ append-nil walk.names) (finds.passed before reported) in
      absurd (reported.2.new (subst (Contains walk.names) (sym reported.3) known))
  one_more before reported (first ∷ later) is = omega (arith, ap length is, length-append walk.names (first ∷ later))

  fewer_by : length next.names ≤ 4294967296 → (walk.told ≡ false) ⊎ ((before : List ℕ) × HasReported files walk before) → names_left next < names_left walk
  fewer_by few (inl untold) = grind (arith, common_steps, length-append walk.names finds.goes_on.later) steps 200000
  fewer_by few (inr (before, reported)) =
      let after : unreported next.told ≡ 0 = ap unreported finds.told in
      omega (arith, few, after, one_more before reported finds.goes_on.later finds.goes_on.keeps)

-- ---- why loading stops

module _ {R : Type 0} (remaining : R → Option (List ℕ)) (holds : List ℕ → KnownFile) (top : List ℕ) where
  pub stops_for_memory : (unloaded : Unloaded R) → unloaded ≡ Memory → IsUnloaded remaining holds top unloaded
  stops_for_memory unloaded is = grind (arith, common_steps) steps 200000

  pub all_stops : {T : Type 0} {first : List File} {begin : WalkView} (result : Result T (Unloaded R)) → Loads holds top 0 first begin
      → IfErr result (λ unloaded. (top : List ℕ) → Loads holds top 0 first begin → IsUnloaded remaining holds top unloaded)
      → IfErr result (IsUnloaded remaining holds top)
  all_stops (Ok done) begun stops = tt
  all_stops (Err unloaded) begun stops = stops top begun

  pub memory_stops : {T : Type 0} (result : Result T (Unloaded R)) → IfErr result (λ unloaded. unloaded ≡ Memory) → IfErr result (IsUnloaded remaining holds top)
  memory_stops (Ok done) memory = tt
  memory_stops (Err unloaded) memory = stops_for_memory unloaded memory

-- ---- names that a walk has taken

-- a name is at one place
abbrev AreDistinct : List (List ℕ) → Type 0
AreDistinct names = (name : List ℕ) (i j : ℕ) → i < j → j < length names → get_or names i name ≡ name → get_or names j name ≢ name

one_distinct : (top : List ℕ) → AreDistinct (top ∷ [])
one_distinct top name i j less within first second = omega (arith, less, within)

distinct_push : (names : List (List ℕ)) (new : List ℕ) → AreDistinct names → ¬ Contains names new → AreDistinct (names ++ new ∷ [])
distinct_push names new distinct fresh name i j less within first second = search (rules, cases_eq, distinct, get_or_append_left, get_or_push, length_push)

goes_distinct : {files : List FileView} {parts rest : List Placed} {names after : List (List ℕ)} {items : List Item} → Goes files parts names items rest after
    → AreDistinct names → AreDistinct after
goes_distinct walking.here distinct = distinct
goes_distinct (walking.own other goes) distinct = goes_distinct goes distinct
goes_distinct (walking.again inclusion known goes) distinct = goes_distinct goes distinct
goes_distinct {names = names} (walking.missing {part = part} inclusion new none goes) distinct = goes_distinct goes (distinct_push names part.name distinct new)
goes_distinct {names = names} (walking.included {part = part} inner inclusion new some there placed goes) distinct =
    goes_distinct goes (distinct_push names part.name distinct new)

split_apart : (front back : List (List ℕ)) → AreDistinct (front ++ back) → (name : List ℕ) → Contains front name → ¬ Contains back name
split_apart front back distinct name a b = search (rules, distinct, get_or-append-add, get_or_append_left, length-append)

pub only : (a b : List ℕ) → Contains (a ∷ []) b → a ≡ b
only a b c = elim (Contains-push_cases [] a b c) [ inl other ↦ absurd (omega (arith, other.1)) | inr same ↦ same ]

exactly_none : (later : List (List ℕ)) → ((name : List ℕ) → ¬ Contains later name) → later ≡ []
exactly_none [] never = refl
exactly_none (name ∷ later) never = absurd (never name (0, omega arith, refl))

exactly_one : (old later : List (List ℕ)) (name : List ℕ) → AreDistinct (old ++ later) → ((other : List ℕ) → Contains later other → name ≡ other)
    → Contains later name → later ≡ name ∷ []
exactly_one old [] name distinct all there = absurd (omega (arith, there.1))
exactly_one old (a ∷ []) name distinct all there = ap (λ (n : List ℕ). n ∷ []) (sym (all a (0, omega arith, refl)))
exactly_one old (a ∷ b ∷ later) name distinct all there =
    absurd (split_apart (old ++ a ∷ []) (b ∷ later) (subst AreDistinct (sym (append_assoc old (a ∷ []) (b ∷ later))) distinct) a (Contains-push old a)
    (0, omega arith, sym (all b (1, omega arith, refl)) ∙ all a (0, omega arith, refl)))

-- a file of this name before others
first_passes : {X : Type 0} (test : X → Bool) (x : X) (xs : List X) → position test (x ∷ xs) ≢ None → (test x ≡ true) ⊎ (position test xs ≢ None)
first_passes test x xs some = grind (arith, common_steps, prefix_len-le-length (λ x. not (test x)) xs) steps 200000

added_named : (n : List ℕ) (first later : List File) (name bytes : List ℕ) → IsAdded [] first n bytes → HasFile (first ++ later) name → (n ≡ name) ⊎ HasFile later name
added_named n first later name bytes a has = grind (arith, common_steps, bytes_eq-Decides, first_passes) steps 200000

-- what is proved of the names of a database
pub record NamesAreTaken : Type 0 where
  pub one : DatabasesHaveOneListOfNames
  pub walk : WalksTakeNames
  pub end : ExpansionsTakeNames

-- ---- loading goes on

module _ (holds : List ℕ → KnownFile) (top : List ℕ) where
  -- by its walk, which has gone past some items
  pub loads_walk : WalksOn → {names : ℕ} {files : List File} {walk : WalkView} → Loads holds top names files walk
      → (items : List Item) × IsWalk (bare files) top items walk
  loads_walk law (begins taken is_walk first untold) = ([], is_walk)
  loads_walk law (takes {files = files} {more = more} {walk = walk} {next = next} {name = name} loads finds taken) = (
    finds.items ++ finds.finds.goes_on.more,
    walked_on law files more top name finds.items walk next finds.finds (may_have (holds name) files more name taken),
  )

  -- which goes on to the next missing name
  pub finds_next : WalksOn → {names : ℕ} {files : List File} {walk : WalkView} → Loads holds top names files walk → (next : WalkView) (name : List ℕ)
      → ((top : List ℕ) (items : List Item) → IsWalk (bare files) top items walk → FindsMissing (bare files) top items walk next name)
      → FindsNext files top walk next name
  finds_next law loads next name found = search (rules, loads_walk law loads)

  -- each missing name that the walk goes on to is one more, but for the first
  pub loads_reports : StandsOn → {names : ℕ} {files : List File} {walk : WalkView} → Loads holds top names files walk
      → (walk.told ≡ false) ⊎ ((name : List ℕ) × HasReported (bare files) walk name)
  loads_reports law (begins taken is_walk first untold) = inl untold
  loads_reports law (takes {files = files} {more = more} {next = next} {name = name} loads finds taken) =
      let stands = stood_on law files more name next finds.finds.part (may_have (holds name) files more name taken) finds.finds.stands in
      inr (name, (finds.finds.part, finds.finds.told, stands, finds.finds.is_name))

  pub fewer_left : StandsOn → {names : ℕ} {files : List File} {walk next : WalkView} {name : List ℕ} → Loads holds top names files walk
      → FindsNext files top walk next name → length next.names ≤ 4294967296 → names_left next < names_left walk
  fewer_left law {files = files} {walk = walk} {next = next} {name = name} loads finds few =
      fewer_by (bare files) top name finds.items walk next finds.finds few (loads_reports law loads)

  module _ {T E : Type 0} {first : List File} {begin : WalkView} where
    pub all_loaded : (final : List File) (result : Result T E) → Loads holds top 0 first begin
        → OnOk result ((top : List ℕ) → Loads holds top 0 first begin → AreLoaded holds top final) → OnOk result (AreLoaded holds top final)
    all_loaded final (Ok done) begun loaded = loaded top begun
    all_loaded final (Err error) begun loaded = tt

  -- ---- the names that a walk takes give the files that are loaded

  alone : (old new : List File) (name text : List ℕ) (a : IsAdded old new name text) → IsAdded [] (a.file ∷ []) name text
  alone old new name text a = record { file = a.file; last = refl; is_name = a.is_name; is_cut = a.is_cut }

  taken_gives : (known : KnownFile) (old new : List File) (name : List ℕ) → TakesFile known old new name
      → (own : List File) × GivesFile known name own × (new ≡ old ++ own)
  taken_gives Unknown old new name (inl same) = ([], inl refl, same ∙ sym (append-nil old))
  taken_gives Unknown old new name (inr a) = (a.is_added.file ∷ [], inr (a.text, alone old new name a.text a.is_added), a.is_added.last)
  taken_gives NoFile old new name same = ([], refl, same ∙ sym (append-nil old))
  taken_gives (Bytes bytes) old new name a = grind (arith, common_steps, alone, old) steps 200000

  top_taken : (known : KnownFile) (old new : List File) (name : List ℕ) → TakesTop known old new name → TakesFile known old new name
  top_taken Unknown old new name a = inr a
  top_taken NoFile old new name a = absurd a
  top_taken (Bytes bytes) old new name a = a

  gives_more : (names : List (List ℕ)) (files : List File) (name : List ℕ) (own : List File) → GivesFiles holds names files → GivesFile (holds name) name own
      → GivesFiles holds (names ++ name ∷ []) (files ++ own)
  gives_more [] files name own is given = (own, [], given, refl, ap (λ (l : List File). l ++ own) is ∙ sym (append-nil own))
  gives_more (n ∷ names) files name own (first, later, g, gs, are) given = search (rules, gives_more names later name own gs given, given)

  own_named : (known : KnownFile) (n : List ℕ) (first later : List File) (name : List ℕ) → GivesFile known n first → HasFile (first ++ later) name
      → (n ≡ name) ⊎ HasFile later name
  own_named Unknown n first later name (inl none) has = inr (subst (λ (l : List File). HasFile (l ++ later) name) none has)
  own_named Unknown n first later name (inr (bytes, a)) has = added_named n first later name bytes a has
  own_named NoFile n first later name none has = inr (subst (λ (l : List File). HasFile (l ++ later) name) none has)
  own_named (Bytes bytes) n first later name a has = added_named n first later name bytes a has

  -- the names of files are among those that give them
  gives_named : (names : List (List ℕ)) (files : List File) → GivesFiles holds names files → (name : List ℕ) → HasFile files name → Contains names name
  gives_named [] files is name has = absurd (subst (λ (l : List File). HasFile l name) is has refl)
  gives_named (n ∷ names) files (first, later, g, gs, are) name has =
      elim (own_named (holds n) n first later name g (subst (λ (l : List File). HasFile l name) are has)) [
        | inl is ↦ (0, omega arith, is)
        | inr more ↦ Contains-append_right (n ∷ []) names name (gives_named names later gs name more)
      ]

  -- loading so far: the names that the walk has taken, and the one that it has reported, give the files
  record GivesSoFar (files : List File) (walk : WalkView) : Type 0 where
    reported : List (List ℕ)
    is_reported : ((walk.told ≡ false) × (reported ≡ [])) ⊎ ((name : List ℕ) × HasReported (bare files) walk name × (reported ≡ name ∷ []))
    given : GivesFiles holds (walk.names ++ reported) files

  module _ (once : StandsOnce) where
    -- the names that a walk takes as it goes on
    taken_on : (files : List File) (walk next : WalkView) (items : List Item) (so_far : GivesSoFar files walk) (goes : GoesOn (bare files) top items walk next) (name : List ℕ)
        → Contains goes.later name → Contains so_far.reported name
    taken_on files walk next items so_far goes name is =
        by (goes.taken name (subst (λ (names : List (List ℕ)). Contains names name) (sym goes.keeps) (Contains-append_right walk.names goes.later name is)))
      where
        distinct : AreDistinct (walk.names ++ goes.later)
        distinct = subst AreDistinct goes.keeps (goes_distinct goes.is_walk.goes (one_distinct top))

        old : Contains walk.names name → Contains so_far.reported name
        old known = absurd (split_apart walk.names goes.later distinct name known is)

        named : Contains walk.names name ⊎ Contains so_far.reported name → Contains so_far.reported name
        named (inl known) = old known
        named (inr reported) = reported

        told : HasReported (bare files) walk name → ((walk.told ≡ false) × (so_far.reported ≡ [])) ⊎ ((n : List ℕ) × HasReported (bare files) walk n × (so_far.reported ≡ n ∷ []))
            → Contains so_far.reported name
        told has (inl untold) = absurd (false≢true (sym untold.0 ∙ has.1))
        told has (inr (n, other, are)) =
            let same = once (bare files) walk other.0 has.0 other.2 has.2 in
            subst (λ (names : List (List ℕ)). Contains names name) (sym are) (0, omega arith, sym other.3 ∙ ap (λ (part : Placed). part.name) same ∙ has.3)

        by : Contains walk.names name ⊎ ((number_of (bare files) name ≢ None) ⊎ HasReported (bare files) walk name) → Contains so_far.reported name
        by (inl known) = old known
        by (inr (inl some)) = named (Contains-append_cases walk.names so_far.reported name (gives_named (walk.names ++ so_far.reported) files so_far.given name
            (λ none. some (position_map (λ file. bytes_eq name file.name) bare_file files ∙ none))))
        by (inr (inr has)) = told has so_far.is_reported

    -- they are the one that it had reported, if it had reported one
    goes_exactly : (files : List File) (walk next : WalkView) (items : List Item) (so_far : GivesSoFar files walk) (goes : GoesOn (bare files) top items walk next)
        → ((name : List ℕ) → HasReported (bare files) walk name → Contains next.names name) → GivesFiles holds next.names files
    goes_exactly files walk next items so_far goes passed =
        subst (λ (names : List (List ℕ)). GivesFiles holds names files) (sym (goes.keeps ∙ ap (λ (l : List (List ℕ)). walk.names ++ l) (by so_far.is_reported))) so_far.given
      where
        by : ((walk.told ≡ false) × (so_far.reported ≡ [])) ⊎ ((name : List ℕ) × HasReported (bare files) walk name × (so_far.reported ≡ name ∷ [])) → goes.later ≡ so_far.reported
        by (inl (untold, are)) =
            exactly_none goes.later (λ name is. let never = subst (λ (names : List (List ℕ)). Contains names name) are (taken_on files walk next items so_far goes name is) in omega (arith, never.1))
            ∙ sym are
        by (inr (name, has, are)) =
            exactly_one walk.names goes.later name (subst AreDistinct goes.keeps (goes_distinct goes.is_walk.goes (one_distinct top)))
            (λ other is. only name other (subst (λ (names : List (List ℕ)). Contains names other) are (taken_on files walk next items so_far goes other is)))
            (later_has (Contains-append_cases walk.names goes.later name (subst (λ (names : List (List ℕ)). Contains names name) goes.keeps (passed name has))))
            ∙ sym are
          where
            later_has : Contains walk.names name ⊎ Contains goes.later name → Contains goes.later name
            later_has (inl known) = absurd (has.2.new (subst (Contains walk.names) (sym has.3) known))
            later_has (inr is) = is

    loads_give : StandsOn → {names : ℕ} {files : List File} {walk : WalkView} → Loads holds top names files walk → GivesSoFar files walk
    loads_give on (begins {files = files} {walk = walk} added is_walk first untold) =
        let (own, given, are) = taken_gives (holds top) [] files top (top_taken (holds top) [] files top added) in
        record {
          reported = [];
          is_reported = inl (untold, refl);
          given =
              subst₂ (GivesFiles holds) (sym (append-nil walk.names ∙ first)) (sym are) (own, [], given, refl, sym (append-nil own));
        }
    loads_give on (takes {files = files} {more = more} {walk = walk} {next = next} {name = name} loads finds taken) =
        let found = finds.finds in
        let stands = stood_on on files more name next found.part (may_have (holds name) files more name taken) found.stands in
        let (own, given, are) = taken_gives (holds name) files more name taken in
        let before = goes_exactly files walk next finds.items (loads_give on loads) found.goes_on found.passed in
        record {
          reported = name ∷ [];
          is_reported = inr (name, (found.part, found.told, stands, found.is_name), refl);
          given = subst (GivesFiles holds (next.names ++ name ∷ [])) (sym are) (gives_more next.names files name own before given);
        }

    -- loading stops at the name that the walk finds missing next
    pub stops_at_next : {R : Type 0} (remaining : R → Option (List ℕ)) → StandsOn → WalksTakeNames → {names : ℕ} {files : List File} {walk next : WalkView} {name : List ℕ} (unloaded : Unloaded R)
        → HoldOneEach files → Loads holds top names files walk → FindsNext files top walk next name → StopsAt remaining (holds name) files unloaded
        → IsUnloaded remaining holds top unloaded
    stops_at_next remaining on takes_names {files = files} {walk = walk} {next = next} {name = name} unloaded hold loads finds stops =
        let found = finds.finds in
        let (items, of_files, later, are) = takes_names files top (finds.items ++ found.goes_on.more) next found.part hold found.goes_on.is_walk found.stands in
        inr (record {
          files = files;
          items = items;
          database = of_files;
          before = next.names;
          name = name;
          later = later;
          are = are ∙ ap (λ (n : List ℕ). next.names ++ n ∷ later) found.is_name;
          given = goes_exactly files walk next finds.items (loads_give on loads) found.goes_on found.passed;
          new = missing_new files top name finds.items walk next found;
          stops = stops;
        })

    -- or all names have given their files
    pub all_taken : WalksOn → StandsOn → NamesAreTaken → {names : ℕ} {files : List File} {walk : WalkView} → HoldOneEach files → Loads holds top names files walk → (last : WalkView)
        → ((top : List ℕ) (items : List Item) → IsWalk (bare files) top items walk → FindsEnd (bare files) top items walk last)
        → AreLoaded holds top files
    all_taken walks on laws {files = files} {walk = walk} hold loads last end =
        let (items, is_walk) = loads_walk walks loads in
        let ends = end top items is_walk in
        let (all, of_files, are) = laws.end files top (items ++ ends.goes_on.more) ends.is_expansion hold in
        let names = are ∙ ends.names in
        record {
          items = all;
          database = of_files;
          given = subst (λ (names : List (List ℕ)). GivesFiles holds names files) (sym names)
              (goes_exactly files walk last items (loads_give on loads) ends.goes_on (λ name has.
              let (others, other, later, begin) = laws.walk files top items walk has.0 hold is_walk has.2 in
              subst (λ (names : List (List ℕ)). Contains names name) (sym (sym names ∙ laws.one files top all others of_files other ∙ begin))
              (Contains-append_right walk.names (has.0.name ∷ later) name (0, omega arith, has.3))));
        }
