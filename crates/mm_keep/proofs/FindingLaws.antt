-- Something is rightly reported of each item of files: its fault at a word, or the verdict on its proof, each at a place that there is.
use Rattle.std.proofs.lemmas.{Grind.{common_steps}, Option.{get_or_from_slice_get, slice_get_within}}
use Rattle.std.proofs.Common.{◌≡◌, ◌<◌, ◌≤◌, ◌⊎◌, ℕ, zero, suc, ◌+◌, Some, None, Option, is_none, true, false, ◌&&◌, List, ◌∷◌, length, slice_get, refl, sym, ap, subst, inl, inr, arith, All}
use Rattle.std.{proofs.Common.{slice_range}, specs.List.{AllZip}}
use Rattle.mm_proof.specs.{mm_text.Language.Place.{line_at, column_at}, mm_store.Language.{FilesView.{FilesView, plain_file, text_of}, FileFacts.{StandsIn, piece_offset}}}
use Rattle.mm_proof.specs.mm_frame.{declared.FrameNumber.{FrameNumber}, Language.{Base.{BaseView, IsOfFiles, said_at, fault_at, is_sound_at, is_proof_at}, Laws.{SaidAreLabelled}}}
use Rattle.mm_proof.specs.mm_statement.Language.{Item.{Kind, Axiom, Theorem, is_assertion, is_kind, passed}, Statement.{Says}}
use Rattle.mm_proof.specs.{mm_verdict.Language.{ItemLaws.{HasVerdictAt, SpotsAreIn, TellsSpotIn, IsSpotIn}, VerdictAt.{IsVerdictAt}}, mm_machine.declared.{Spot.{Spot}, Verdict.{Verdict}}}
use Rattle.mm_keep.specs.{declared.finding.At.{At}, Code.{OfFiles.{IsPlaceIn}, KeyedTold.{word_start, word_spelling, IsKeyedPlaceOfSpot, IsKeyedTold}}}
use Rattle.mm_keep.{specs.Language.{Told.{Told, Quiet, AnAxiom, Proved, Incomplete, Wrong, Fault}, WordPlaces.{proof_word}}, proofs.FoundLemmas.{ItemsStand}}
use Rattle.mm_keep.proofs.{SpotLemmas.{letter_in, letter_within, placed_in}, ZipLemmas.{zip_found}}
use Rattle.mm_proof.specs.mm_store.declared.item.Item as store
use Rattle.mm_proof.specs.mm_machine.declared.Verdict.TheVariants as verdicts

-- a byte of an item has a place
has_place : (files : FilesView) (item : store.Item) → StandsIn files item → (byte : ℕ) → item.start + byte ≤ item.end → (at : At) × IsPlaceIn files item byte at
has_place files item stands byte less =
    let file = plain_file files.pieces stands.file in
    let offset = piece_offset file item.piece + (item.start + byte) in
    let at : At = record { file = item.file; line = line_at (text_of file) offset; column = column_at (text_of file) offset } in
    (at, placed_in files item stands byte at refl refl refl less)

-- ---- what is reported of an item

-- a `$a`, a `$p`, or neither
kind_of : (kind : Kind) → (kind ≡ Axiom) ⊎ (kind ≡ Theorem) ⊎ (is_assertion kind ≡ false)
kind_of kind = grind (arith, common_steps) steps 200000

module _ (files : FilesView) (all : List store.Item) (base : BaseView) (i : ℕ) (item : store.Item) (found : slice_get all i ≡ Some item) (says : Says files item (said_at base i)) (stands : StandsIn files item) where
  -- its fault, at a word
  fault_told : (word : ℕ) (number : FrameNumber) → fault_at base i ≡ Some (word, number) → (one : Told) × IsKeyedTold files all base i one
  fault_told word number fault =
      let there = says.read in
      let at = has_place files item stands (word_start (slice_get there.words word) + 0) (letter_within files item there word 0 (omega arith)) in
      let place = at.1 word 0 there refl in
      let read = place.is_byte.read in
      let shown = word_spelling (slice_range read.text item.start item.end) (slice_get read.words word) in (
        Fault number (record { at = at.0; word = shown }),
        record { word = word; fault = fault; item = item; there = found; is_shown = record { has_place = place; is_word = refl } },
      )

  -- the place of a spot of its proof
  spot_place : (spot : Spot) → IsSpotIn (said_at base i).proof spot → (at : At) × IsKeyedPlaceOfSpot files all base i spot at
  spot_place spot is =
      let word = proof_word (said_at base i) spot.word in
      let place = has_place files item stands (word_start (slice_get says.read.words word) + spot.letter) (letter_within files item says.read word spot.letter (letter_in files item (said_at base i) spot says is)) in
      (place.0, record { item = item; there = found; has_place = place.1 word spot.letter says.read refl })

  -- the verdict on its proof
  verdict_told : is_proof_at base i ≡ true → (v : Verdict) → IsVerdictAt base i v → TellsSpotIn (said_at base i).proof v → (one : Told) × IsKeyedTold files all base i one
  verdict_told proof verdicts.Proved is spot_in = (Proved, record { proof = proof; is_verdict = is })
  verdict_told proof (verdicts.Incomplete spot) is spot_in =
      let place = spot_place spot spot_in in
      (Incomplete place.0, record { spot = spot; has_verdict = record { proof = proof; is_verdict = is }; is_place = place.1 })
  verdict_told proof (verdicts.Wrong number spot) is spot_in =
      let place = spot_place spot spot_in in
      (Wrong number place.0, record { spot = spot; has_verdict = record { proof = proof; is_verdict = is }; is_place = place.1 })

  -- what it is, if it is sound
  sound_told : ((v : Verdict) × IsVerdictAt base i v) → SpotsAreIn → is_sound_at base i ≡ true → (one : Told) × IsKeyedTold files all base i one
  sound_told verdict spots sound =
      elim (kind_of (said_at base i).kind) [
        | inl is ↦ (AnAxiom, record { sound = sound; kind = is })
        | inr (inl is) ↦
            let proof : is_proof_at base i ≡ true = (λ k. sound k && is_kind Theorem (is k)) in
            verdict_told proof verdict.0 verdict.1 (spots base i verdict.0 verdict.1)
        | inr (inr other) ↦ (Quiet, record { sound = sound; kind = other })
      ]

  item_told : ((v : Verdict) × IsVerdictAt base i v) → SpotsAreIn → (fault : Option (ℕ × FrameNumber)) → fault_at base i ≡ fault → (one : Told) × IsKeyedTold files all base i one
  item_told verdict spots None is = sound_told verdict spots (ap is_none is)
  item_told verdict spots (Some fault) is = fault_told fault.0 fault.1 is

-- ---- the items of files

-- the element of one list, if there is one of the other
pub zip_there : {A B : Type 0} (R : A → B → Type 0) (xs : List A) (ys : List B) (i : ℕ) → AllZip R xs ys → i < length ys → (x : A) × (slice_get xs i ≡ Some x)
zip_there R (w ∷ xs) (z ∷ ys) zero a less = (w, refl)
zip_there R (w ∷ xs) (z ∷ ys) (suc i) a less = zip_there R xs ys i a.1 (omega (arith, less))
zip_there R xs ys i a less = grind (arith, common_steps) steps 200000

-- the item with a number says what the base says it does, and is where it says
item_at : (files : FilesView) (found : List store.Item) (base : BaseView) (i : ℕ) → AllZip (Says files) found base → All (StandsIn files) found → i < length base
    → (item : store.Item) × (slice_get found i ≡ Some item) × Says files item (said_at base i) × StandsIn files item
item_at files found base i each stand less =
    let there = zip_there (Says files) found base i each less in
    let item = there.0 in
    let y = zip_found (Says files) found base i item each there.1 in
    (item, there.1, subst (Says files item) (sym (get_or_from_slice_get base i y.0 passed y.1)) y.2, subst (StandsIn files) (get_or_from_slice_get found i item item there.1) (stand i item (slice_get_within found i item there.1)))

-- each is reported rightly
pub findings : ItemsStand → SaidAreLabelled → HasVerdictAt → SpotsAreIn → (files : FilesView) (top : List ℕ) (found : List store.Item) (base : BaseView) → IsOfFiles files top found base → (i : ℕ) → i < length base
    → (one : Told) × IsKeyedTold files found base i one
findings stand labelled verdict spots files top found base of_files i less =
    let t = item_at files found base i of_files.each (stand files top found of_files.expansion) less in
    item_told files found base i t.0 t.1 t.2 t.3 (verdict base i (labelled files found base of_files.each)) spots (fault_at base i) refl
