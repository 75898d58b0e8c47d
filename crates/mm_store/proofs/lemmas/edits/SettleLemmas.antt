-- What settling leaves as it was.
use Rattle.std.proofs.{lemmas.{Grind.{common_steps}, List.Sums.{sum_by-cons}, Option.{none-some, same_Some}}, Common.{◌≡◌, ◌≢◌, ℕ, suc, ◌≤◌, List, [], ◌∷◌, Some, map, refl, ap, ◌∙◌, arith, slice_get}}
use Rattle.mm_store.specs.Language.{Batches.{KeepsStanding}, FilesView.{FilesView, KeyedFile, file_view, files_in, piece_view, plain}, Pieces.{Pieces, parked_under, text_under}}
use Rattle.mm_store.specs.{Language.Undoing.{EditAction, CanSettle, dropped, spent}, Code.{Batched.{StandOnce}, Kept.{one, places, times}}}
use Rattle.mm_store.proofs.lemmas.{files.{ListLemmas.{map_kept, one_same, plain_same}, MapLemmas.{get_drop_other}, PieceLemmas.{text_drop_other}}, edits.StepLemmas.{parked, parked_by_some}}
use Rattle.std.specs.FinMap as finite
use Rattle.mm_store.specs.Language.Undoing as action

-- a key that is in a file is at a place
times_there : (keys : List ℕ) (at key : ℕ) → slice_get keys at ≡ Some key → 1 ≤ times key keys
times_there (x ∷ keys) (suc at) key is = omega (arith, sum_by-cons (one key) x keys, times_there keys at key is)
times_there keys at key is = grind (arith, common_steps, none-some, one_same, same_Some, sum_by-cons) steps 200000

places_there : (files : List KeyedFile) (n key : ℕ) (file : KeyedFile) → slice_get files n ≡ Some file → times key file.keys ≤ places key files
places_there (first ∷ files) (suc n) key file is = omega (arith, places_there files n key file is)
places_there files n key file is = grind (arith, common_steps, none-some, same_Some) steps 200000

-- files of which no piece has this key, after what is under it has changed
module _ (p p' : Pieces) (k : ℕ) (same : (q : ℕ) → q ≢ k → text_under p' q ≡ text_under p q) where
  views_same : (keys : List ℕ) → times k keys ≡ 0 → map (piece_view p') keys ≡ map (piece_view p) keys
  views_same keys none = grind (arith, common_steps, keys, map_kept) steps 200000

  keyed_same : (files : List KeyedFile) → places k files ≡ 0 → map (file_view p') files ≡ map (file_view p) files
  keyed_same [] none = refl
  keyed_same (file ∷ files) none = grind (arith, common_steps, keyed_same files (omega arith), views_same file.keys (omega arith)) steps 200000

-- the files stay as they are, and what is in them can be read as before
pub record Stays (old new : FilesView) : Type 0 where
  pub keys : new.keyed ≡ old.keyed
  pub plain_is : plain new ≡ plain old
  pub keyed_is : files_in new ≡ files_in old
  pub standing : KeepsStanding old new

pub stays_same : (view : FilesView) → Stays view view
stays_same view = record { keys = refl; plain_is = refl; keyed_is = refl; standing = λ item was stands. record { read = was; text = refl; words = refl } }

pub stays_then : (a b c : FilesView) → Stays a b → Stays b c → Stays a c
stays_then a b c first then = record {
  keys = then.keys ∙ first.keys;
  plain_is = then.plain_is ∙ first.plain_is;
  keyed_is = then.keyed_is ∙ first.keyed_is;
  standing = λ item was stands.
      let between = first.standing item was stands in
      let now = then.standing item between.read (record { file = stands.file; there = ap (λ files. slice_get files item.file) first.keys ∙ stands.there; is_key = stands.is_key }) in
      record { read = now.read; text = now.text ∙ between.text; words = now.words ∙ between.words };
}

-- a piece that is parked is dropped
dropped_stays : (view : FilesView) (k : ℕ) → StandOnce view → parked_under view.pieces k ≡ 1 → Stays view (dropped k view)
dropped_stays view k once is =
    let p = view.pieces in
    let some = parked_by_some (finite.get p k) is in
    let none : places k view.keyed ≡ 0 = once k ∙ (parked (finite.get p k) some.file some.kind some.by).none in
    record {
      keys = refl;
      plain_is = plain_same p (finite.remove p k) k (text_drop_other p k) view.keyed none;
      keyed_is = keyed_same p (finite.remove p k) k (text_drop_other p k) view.keyed none;
      standing = λ item was stands.
          let key = item.key.at in
          let differs : key ≢ k = λ same. omega (arith, none, ap (λ q. places q view.keyed) same, places_there view.keyed item.file key stands.file stands.there, times_there stands.file.keys item.piece key stands.is_key) in
          record {
            read = grind (arith, common_steps, get_drop_other p k key differs) steps 200000;
            text = refl;
            words = refl;
          };
    }

pub spent_stays : (view : FilesView) (act : EditAction) → StandOnce view → CanSettle act view → Stays view (spent act view)
spent_stays view (action.Replaced at k) once can = dropped_stays view k once can
spent_stays view (action.Deleted at k) once can = dropped_stays view k once can
spent_stays view _ once can = stays_same view
