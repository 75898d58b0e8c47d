-- From the entries of the map of files to the files.
use Rattle.std.proofs.{lemmas.{Grind.{common_steps}, Option.{same_Some, none-some}}, Common.{◌≡◌, ◌≢◌, ℕ, suc, ◌+◌, ◌<◌, List, [], ◌∷◌, Some, map, sym, ap, ◌∙◌, arith, Vec, slice_get}}
use Rattle.mm_text.specs.Language.Reading.{HasWords}
use Rattle.mm_store.specs.{Code.{Starts.{HasStarts}, Edited.{pieces_in, with_pieces}, Kept.{keyed_file, IsRoomy, HaveRoom, deletions, HaveStarts}}, declared.file_text.FileText.{FileText}}
use Rattle.mm_store.specs.Language.{FilesView.{FilesView, File}, Pieces.{Pieces}, Undoing.{keys_in, with_keys}}
use Rattle.indexmap.specs.IndexMap.{set_value_at}

module _ {Y : Type 0} where
  abbrev pub texts_of : List (Vec ℕ Y × FileText) → List FileText
  texts_of entries = map (λ e. e.1) entries

  pub keys_at : (es : List (Vec ℕ Y × FileText)) (n : ℕ) (v : FileText) → slice_get (texts_of es) n ≡ Some v → keys_in (map keyed_file es) n ≡ v.keys.items
  keys_at (e ∷ es) (suc n) v there = keys_at es n v there
  keys_at es n v there = grind (arith, common_steps, none-some, same_Some) steps 200000

  pub view_set : (es : List (Vec ℕ Y × FileText)) (n : ℕ) (v w : FileText) → slice_get (texts_of es) n ≡ Some v → w.tail ≡ v.tail → map keyed_file (set_value_at es n w) ≡ with_keys (map keyed_file es) n w.keys.items
  view_set (e ∷ es) (suc n) v w there same = ap (λ fs. keyed_file e ∷ fs) (view_set es n v w there same)
  view_set es n v w there same = grind (arith, common_steps, same_Some) steps 200000

  pub room_at : (p : Pieces) (start : ℕ) (es : List (Vec ℕ Y × FileText)) (n at : ℕ) (v : FileText) → at ≡ start + n → HaveRoom p start es → slice_get (texts_of es) n ≡ Some v → IsRoomy p at v
  room_at p start (e ∷ es) (suc n) at v is room there = room_at p (suc start) es n at v (omega arith) room.1 there
  room_at p start es n at v is room there = grind (arith, common_steps, none-some, same_Some) steps 200000

  -- the other files, if no piece deleted from them was parked or dropped
  pub room_same : (p p' : Pieces) (start : ℕ) (es : List (Vec ℕ Y × FileText)) → ((m : ℕ) → start < m + 1 → deletions m p' ≡ deletions m p) → HaveRoom p start es → HaveRoom p' start es
  room_same p p' start [] same room = tt
  room_same p p' start (e ∷ es) same room = (
    record { parked = room.0.parked ∙ sym (same start (omega arith)); room = room.0.room },
    room_same p p' (suc start) es (λ m lt. same m (omega arith)) room.1,
  )

  pub room_set : (p p' : Pieces) (start : ℕ) (es : List (Vec ℕ Y × FileText)) (n at : ℕ) (w : FileText) → at ≡ start + n
      → ((m : ℕ) → m ≢ at → deletions m p' ≡ deletions m p) → IsRoomy p' at w → HaveRoom p start es → HaveRoom p' start (set_value_at es n w)
  room_set p p' start (e ∷ es) (suc n) at w is same has room = (
    record { parked = room.0.parked ∙ sym (same start (λ e. omega (arith, e))); room = room.0.room },
    room_set p p' (suc start) es n at w (omega arith) same has room.1,
  )
  room_set p p' start es n at w is same has room = grind (arith, common_steps, room_same) steps 200000

  -- where pieces begin in the file of this number, and in the files after a change of one
  pub starts_at : (files : List File) (es : List (Vec ℕ Y × FileText)) (n : ℕ) (v : FileText) → HaveStarts files es → slice_get (texts_of es) n ≡ Some v → HasStarts (pieces_in files n) v
  starts_at [] (e ∷ es) n v have there = absurd have
  starts_at (file ∷ files) (e ∷ es) (suc n) v have there = starts_at files es n v have.2 there
  starts_at files es n v have there = grind (arith, common_steps, none-some, same_Some) steps 200000

  pub tail_at : (files : List File) (es : List (Vec ℕ Y × FileText)) (n : ℕ) (v : FileText) → HaveStarts files es → slice_get (texts_of es) n ≡ Some v → HasWords v.tail.items []
  tail_at [] (e ∷ es) n v have there = absurd have
  tail_at (file ∷ files) (e ∷ es) (suc n) v have there = tail_at files es n v have.2 there
  tail_at files es n v have there = grind (arith, common_steps, none-some, same_Some) steps 200000

  pub starts_set : (files : List File) (es : List (Vec ℕ Y × FileText)) (n : ℕ) (w : FileText) (members : List (List ℕ)) → HaveStarts files es → HasStarts members w → HasWords w.tail.items []
      → HaveStarts (with_pieces files n members) (set_value_at es n w)
  starts_set [] (e ∷ es) n w members have are tail = absurd have
  starts_set (file ∷ files) (e ∷ es) (suc n) w members have are tail = (have.0, have.1, starts_set files es n w members have.2 are tail)
  starts_set files es n w members have are tail = grind (arith, common_steps) steps 200000

-- views are one if their files and their pieces are
pub same_view : (a b : FilesView) → a.keyed ≡ b.keyed → a.pieces ≡ b.pieces → a ≡ b
same_view a b files pieces = λ i. record { keyed = files i; pieces = pieces i }
