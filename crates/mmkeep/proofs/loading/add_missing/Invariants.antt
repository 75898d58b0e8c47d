use Rattle.std.proofs.Common.{◌≡◌, ℕ, List}
use Rattle.mm_report.specs.mm_store.Language.{FileFacts.{parked_in}, FilesView.{plain}}
use Rattle.mmkeep.{specs.Code.Loaded.{KeepsFiles, Loads}, proofs.LoadLemmas.{names_left}}
use Rattle.mmkeep.proofs.loading.add_missing.Given as goal

abbrev pub invariant-loop-name : goal.invariant-loop-name
invariant-loop-name g l = record {
  loads : (top : List ℕ) → Loads (g.S.Source.holds l.source) top 0 (plain l.initial.files) l.initial.walk → (names : ℕ) × Loads (g.S.Source.holds l.source) top names (plain l.files) l.walk;
  parked : parked_in l.files ≡ parked_in l.initial.files;
  kept : KeepsFiles (plain l.initial.files) (plain l.files);
}

abbrev pub decreases-loop-name : goal.decreases-loop-name
decreases-loop-name g l = names_left l.walk
