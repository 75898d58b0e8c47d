-- What is reported of items that are kept as bytes under keys is rightly reported of them where they stand.
use Rattle.std.proofs.lemmas.{Grind.{common_steps}, List.{length-map}, Option.{get_or_from_slice_get, slice_get-map}}
use Rattle.std.{proofs.Common.{◌≡◌, ◌≤◌, ℕ, ◌+◌, Some, List, length, slice_get, slice_range, sym, ap, ◌∙◌, subst, arith}, specs.{List.{AllZip}, Option.{option_map}}}
use Rattle.mm_proof.specs.{mm_text.Language.{Place.{line_at, column_at}, Stretch.{moved}, Unit.{token_of, tokens_of}}, mm_store.Language.FilesView.{FilesView, plain}}
use Rattle.mm_proof.specs.{mm_store.Language.FileFacts.{CanBeRead, piece_offset}, mm_frame.Language.Base.{base_of, said_at}, mm_statement.Language.{Database.{Located}, Item.{Said, passed}}}
use Rattle.mm_proof.specs.{mm_statement.Language.{Locating.{IsLocated}, Statement.{Says}}, mm_verdict.Language.ItemLaws.{SpotsAreIn, IsSpotIn}, mm_machine.declared.Spot.{Spot}}
use Rattle.mm_keep.specs.{declared.finding.At.{At}, Language.WordPlaces.{HasPlace, IsPlaceOfSpot, proof_word, spelled, start_of, word_offset}}
use Rattle.mm_keep.specs.Language.Told.{Shown, Told, Quiet, AnAxiom, Proved, Incomplete, Wrong, Fault, IsRightlyTold, IsShown, AreRightlyTold}
use Rattle.mm_keep.{specs.Code.KeyedTold.{HasKeyedPlace, IsKeyedPlaceOfSpot, AreKeyedTold, IsKeyedShown, IsKeyedTold, word_start, word_spelling}, proofs.SpotLemmas.{letter_in}}
use Rattle.mm_keep.proofs.ZipLemmas.{zip_found}
use Rattle.mm_proof.specs.mm_store.declared.item.Item as store
use Rattle.mm_proof.specs.mm_machine.declared.Verdict.TheVariants as verdicts

-- ---- one item

module _ (files : FilesView) (item : store.Item) (one : Located) (is : IsLocated files item one) (read : CanBeRead files item) where
  -- its bytes
  abbrev Bytes : List ℕ
  Bytes = slice_range read.text item.start item.end

  word_there : (word : ℕ) → slice_get one.words word ≡ option_map (moved item.start) (option_map (token_of Bytes) (slice_get read.words word))
  word_there word =
      grind (arith, common_steps, slice_get-map (moved item.start) (tokens_of Bytes read.words) word, slice_get-map (token_of Bytes) read.words word) steps 200000

  -- where a word begins
  pub begins_there : (word : ℕ) → start_of one (slice_get one.words word) ≡ item.start + word_start (slice_get read.words word)
  begins_there word = grind (arith, common_steps, word_there word) steps 200000

  -- how it is spelled
  pub spelled_there : (word : ℕ) → spelled (slice_get one.words word) ≡ word_spelling Bytes (slice_get read.words word)
  spelled_there word = grind (arith, common_steps, word_there word) steps 200000

module _ (files : FilesView) (item : store.Item) (one : Located) (is : IsLocated files item one) where
  placed : (word letter : ℕ) (at : At) → HasKeyedPlace files item word letter at → letter ≤ length (spelled (slice_get one.words word)) → HasPlace (plain files) one word letter at
  placed word letter at keyed less =
      let byte = keyed.is_byte.byte in
      let read = keyed.is_byte.read in
      let begins = begins_there files item one is read word in
      let offset : keyed.offset ≡ word_offset byte.file one word letter =
      byte.is_offset ∙ (λ i. piece_offset byte.file (sym is.piece i) + (item.start + (word_start (slice_get read.words word) + letter)))
      ∙ omega (arith, begins) in
      record {
        within = less;
        file = byte.file;
        there = subst (λ (n : ℕ). slice_get (plain files) n ≡ Some byte.file) (sym is.file) byte.there;
        in_file = keyed.in_file ∙ sym is.file;
        line = keyed.line ∙ (λ i. line_at (byte.is_text i) (offset i));
        column = keyed.column ∙ (λ i. column_at (byte.is_text i) (offset i));
      }

  shown_there : (word : ℕ) (shown : Shown) → IsKeyedShown files item word shown → IsShown (plain files) one word shown
  shown_there word shown keyed =
      grind (arith, common_steps, placed word 0 shown.at keyed.has_place (omega arith), spelled_there files item one is keyed.has_place.is_byte.read word) steps 200000

-- ---- the items of files

module _ (spots : SpotsAreIn) (files : FilesView) (found : List store.Item) (items : List Located) (says : AllZip (Says files) found (base_of items)) (located : AllZip (IsLocated files) found items) where
  -- what an item says
  pub said_there : (n : ℕ) (one : Located) → slice_get items n ≡ Some one → said_at (base_of items) n ≡ one.said
  said_there n one there =
      get_or_from_slice_get (base_of items) n one.said passed (slice_get-map (λ (item : Located). item.said) items n ∙ ap (option_map (λ (item : Located). item.said)) there)

  spot_there : (n : ℕ) (spot : Spot) (at : At) → IsSpotIn (said_at (base_of items) n).proof spot → IsKeyedPlaceOfSpot files found (base_of items) n spot at → IsPlaceOfSpot (plain files) items n spot at
  spot_there n spot at is keyed =
      let one = zip_found (IsLocated files) found items n keyed.item located keyed.there in
      let tells = zip_found (Says files) found (base_of items) n keyed.item says keyed.there in
      let say : Says files keyed.item (said_at (base_of items) n) = subst (Says files keyed.item) (sym (get_or_from_slice_get (base_of items) n tells.0 passed tells.1)) tells.2 in
      let word = proof_word (said_at (base_of items) n) spot.word in
      let less = subst (λ (bytes : List ℕ). spot.letter ≤ length bytes) (sym (spelled_there files keyed.item one.0 one.2 say.read word))
      (letter_in files keyed.item (said_at (base_of items) n) spot say is) in
      let place = placed files keyed.item one.0 one.2 word spot.letter at keyed.has_place less in
      record {
        item = one.0;
        there = one.1;
        has_place = subst (λ (said : Said). HasPlace (plain files) one.0 (proof_word said spot.word) spot.letter at) (said_there n one.0 one.1) place;
      }

  pub told_there : (n : ℕ) (one : Told) → IsKeyedTold files found (base_of items) n one → IsRightlyTold (plain files) items n one
  told_there n Quiet keyed = keyed
  told_there n AnAxiom keyed = keyed
  told_there n Proved keyed = keyed
  told_there n (Incomplete at) keyed =
      let is = spots (base_of items) n (verdicts.Incomplete keyed.spot) keyed.has_verdict.is_verdict in
      record { spot = keyed.spot; has_verdict = keyed.has_verdict; is_place = spot_there n keyed.spot at is keyed.is_place }
  told_there n (Wrong number at) keyed =
      let is = spots (base_of items) n (verdicts.Wrong number keyed.spot) keyed.has_verdict.is_verdict in
      record { spot = keyed.spot; has_verdict = keyed.has_verdict; is_place = spot_there n keyed.spot at is keyed.is_place }
  told_there n (Fault number shown) keyed =
      let one = zip_found (IsLocated files) found items n keyed.item located keyed.there in
      record { word = keyed.word; fault = keyed.fault; item = one.0; there = one.1; is_shown = shown_there files keyed.item one.0 one.2 keyed.word shown keyed.is_shown }

  pub all_there : (all : List Told) → AreKeyedTold files found (base_of items) all → AreRightlyTold (plain files) items all
  all_there all keyed = grind (arith, common_steps, length-map, told_there) steps 200000
