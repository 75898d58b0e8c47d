-- The names of loaded files: each that the source has is that of a file.
use Rattle.std.proofs.{Common.{◌≡◌, ◌≢◌, ℕ, Bool, true, not, List, [], ◌∷◌, ◌++◌, None, sym, subst, refl, inl, inr, arith, All, Contains, position}, lemmas.Grind.{common_steps}}
use Rattle.std.{proofs.lemmas.{List.{Elements.{Contains-append_cases}, Sums.{prefix_len-le-length}}, Option.{none-some}, Slice.Eq.{bytes_eq-Decides}}, specs.Str.{bytes_eq}}
use Rattle.mm_report.specs.{mm_store.Language.{FileFacts.{IsAdded}, FilesView.{File, file_number}}, mm_statement.Language.{Database.{Refers}, Item.{Missing}, Laws.{MissingAreNamed}}}
use Rattle.mmkeep.{specs.{Code.Loaded.{HasFile}, Language.Loading.{AreLoaded, Bytes, GivesFile, GivesFiles, KnownFile, NoFile, Unknown}}, proofs.LoadLemmas.{only}}

passes_here : {X : Type 0} (test : X → Bool) (x : X) (xs : List X) → test x ≡ true → position test (x ∷ xs) ≢ None
passes_here test x xs is = grind (arith, common_steps, prefix_len-le-length (λ x. not (test x)) xs) steps 200000

passes_later : {X : Type 0} (test : X → Bool) (x : X) (xs : List X) → position test xs ≢ None → position test (x ∷ xs) ≢ None
passes_later test x xs some = grind (arith, common_steps, prefix_len-le-length (λ x. not (test x)) xs) steps 200000

module _ (name : List ℕ) where
  abbrev named : File → Bool
  named file = bytes_eq name file.name

  -- a file before others
  added_here : (first later : List File) (bytes : List ℕ) → IsAdded [] first name bytes → HasFile (first ++ later) name
  added_here first later bytes a =
      grind (arith, common_steps, bytes_eq-Decides name a.file.name, passes_here named a.file later ((bytes_eq-Decides name a.file.name).1 (sym a.is_name))) steps 200000

  added_before : (n : List ℕ) (first later : List File) (bytes : List ℕ) → IsAdded [] first n bytes → HasFile later name → HasFile (first ++ later) name
  added_before n first later bytes a has = subst (λ (l : List File). HasFile (l ++ later) name) (sym a.last) (passes_later named a.file later has)

  before : (known : KnownFile) (n : List ℕ) (first later : List File) → GivesFile known n first → HasFile later name → HasFile (first ++ later) name
  before Unknown n first later (inl none) has = subst (λ (l : List File). HasFile (l ++ later) name) (sym none) has
  before Unknown n first later (inr (bytes, a)) has = added_before n first later bytes a has
  before NoFile n first later none has = subst (λ (l : List File). HasFile (l ++ later) name) (sym none) has
  before (Bytes bytes) n first later a has = added_before n first later bytes a has

  none_later : (known : KnownFile) (n : List ℕ) (first later : List File) → GivesFile known n first → file_number (first ++ later) name ≡ None → file_number later name ≡ None
  none_later known n first later given none = grind (arith, common_steps, before, none-some) steps 200000

  none_here : (known : KnownFile) (first later : List File) → GivesFile known name first → file_number (first ++ later) name ≡ None → GivesFile known name []
  none_here Unknown first later given none = inl refl
  none_here NoFile first later given none = refl
  none_here (Bytes bytes) first later a none = absurd (added_here first later bytes a none)

  gives_none : (holds : List ℕ → KnownFile) (names : List (List ℕ)) (files : List File) → GivesFiles holds names files → Contains names name → file_number files name ≡ None
      → GivesFile (holds name) name []
  gives_none holds [] files given is none = absurd (omega (arith, is.1))
  gives_none holds (n ∷ names) files (first, later, g, gs, are) is none =
      let free = subst (λ (l : List File). file_number l name ≡ None) are none in
      elim (Contains-append_cases (n ∷ []) names name is) [
        | inl own ↦ (none_here (holds name) first later (subst (λ (n : List ℕ). GivesFile (holds n) n first) (only n name own) g) free)
        | inr more ↦ (gives_none holds names later gs more (none_later (holds n) n first later g free))
      ]

module _ (holds : List ℕ → KnownFile) (top : List ℕ) (files : List File) (loaded : AreLoaded holds top files) where
  pub names_lacked : (name : List ℕ) → Contains loaded.database.after name → file_number files name ≡ None → GivesFile (holds name) name []
  names_lacked name is none = gives_none name holds loaded.database.after files loaded.given is none

  pub items_lacked : MissingAreNamed → All (λ item. item.said.kind ≡ Missing → (name : List ℕ) × Refers item name × GivesFile (holds name) name []) loaded.items
  items_lacked named k d less missing =
      let (name, refers, known, none) = named files top loaded.items loaded.database k d less missing in
      (name, refers, names_lacked name known none)
