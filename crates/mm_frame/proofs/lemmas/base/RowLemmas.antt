-- The labels and faults of items: how many there are, each of them, and one more.
use Rattle.std.proofs.lemmas.{Grind.{common_steps}, List.{get_or_append_left}, Bool.{false≢true}, Option.{slice_get_past, slice_get-get_or}}
use Rattle.std.proofs.Common.{◌≡◌, ℕ, zero, suc, ◌+◌, ◌<◌, ◌≤◌, Bool, true, false, cond, ◌&&◌, Option, Some, None, List, [], ◌∷◌, ◌++◌, length, slice_get, get_or, refl, ◌∙◌, ap, arith, is_some}
use Rattle.std.{proofs.{Common.{length-append}, Math.Seq.{get_or-append_seam}}, specs.Option.{option_map}}
use native.Mathlib.Decide.{dec_lt}
use Rattle.mm_frame.specs.{declared.{judge.FrameFault.{FrameFault}, item_rows.Rows.{Rows}}, Code.KeptLists.{item_list, list_or_none}}
use Rattle.mm_frame.specs.Code.KeptRows.{fault_kept, fault_told, row_told, rows_from, rows_of, is_shown_in, AreRowsKept}

pub rows_length : (n : ℕ) (labels : List (List ℕ)) (flags : List Bool) (faults : List (Option FrameFault)) → length (rows_from n labels flags faults) ≡ length labels
rows_length n [] flags faults = refl
rows_length n (x ∷ labels) flags faults = ap suc (rows_length (suc n) labels flags faults)

row_from : (n : ℕ) (labels : List (List ℕ)) (flags : List Bool) (faults : List (Option FrameFault)) (k : ℕ) (bytes : List ℕ)
    → slice_get labels k ≡ Some bytes → slice_get (rows_from n labels flags faults) k ≡ Some (row_told flags faults (n + k) bytes)
row_from n [] flags faults k bytes e = cc
row_from n (x ∷ labels) flags faults zero bytes e =
    let same : x ≡ bytes = cc in
    let z : n ≡ n + 0 = omega arith in
    λ i. Some (row_told flags faults (z i) (same i))
row_from n (x ∷ labels) flags faults (suc k) bytes e =
    let z : suc n + k ≡ n + suc k = omega arith in
    row_from (suc n) labels flags faults k bytes e ∙ (λ i. Some (row_told flags faults (z i) bytes))

pub row_there : (rows : Rows) (k : ℕ) (bytes : List ℕ) → slice_get rows.labels k ≡ Some bytes → slice_get (rows_of rows) k ≡ Some (row_told rows.labelled.items rows.faults.items k bytes)
row_there rows k bytes e =
    let z : 0 + k ≡ k = omega arith in
    row_from 0 rows.labels rows.labelled.items rows.faults.items k bytes e ∙ (λ i. Some (row_told rows.labelled.items rows.faults.items (z i) bytes))

pub row_at : (rows : Rows) (k : ℕ) → k < length rows.labels → slice_get (rows_of rows) k ≡ Some (row_told rows.labelled.items rows.faults.items k (item_list rows.labels k))
row_at rows k l = grind (arith, common_steps, row_there, slice_get-get_or rows.labels k [] l) steps 200000

pub no_row : (rows : Rows) (k : ℕ) → length rows.labels ≤ k → slice_get (rows_of rows) k ≡ None
no_row rows k l = grind (arith, common_steps, slice_get_past, rows_length) steps 200000

-- a flag that is set is there
pub flag_within : (flags : List Bool) (n : ℕ) → get_or flags n false ≡ true → n < length flags
flag_within [] n e = absurd (false≢true e)
flag_within (x ∷ flags) zero e = omega arith
flag_within (x ∷ flags) (suc n) e = let l = flag_within flags n e in omega arith

pub shown_none : (rows : Rows) (k : ℕ) → get_or rows.labelled.items k false ≡ false → is_shown_in (slice_get (rows_of rows) k) ≡ false
shown_none rows k f = elim (dec_lt k (length rows.labels)) [
  | yes l ↦ grind (arith, common_steps, row_at rows k l) steps 200000
  | no m ↦ ap is_shown_in (no_row rows k (omega arith))
]
  where
    never : (b : Bool) → (b && false) ≡ false
    never true = refl
    never false = refl

-- one more
rows_same : (n : ℕ) (labels : List (List ℕ)) (flags other : List Bool) (faults more : List (Option FrameFault))
    → ((k : ℕ) → k < n + length labels → get_or flags k false ≡ get_or other k false) → ((k : ℕ) → k < n + length labels
    → fault_kept faults k ≡ fault_kept more k)
    → rows_from n labels flags faults ≡ rows_from n labels other more
rows_same n [] flags other faults more f g = refl
rows_same n (x ∷ labels) flags other faults more f g =
    let a = f n (omega arith) in
    let b = g n (omega arith) in
    λ i. (cond (a i) (Some x) None, fault_told (b i)) ∷ (rows_same (suc n) labels flags other faults more (λ k l. f k (omega arith)) (λ k l. g k (omega arith))) i

rows_last : (n : ℕ) (labels : List (List ℕ)) (bytes : List ℕ) (flags : List Bool) (faults : List (Option FrameFault))
    → rows_from n (labels ++ bytes ∷ []) flags faults ≡ rows_from n labels flags faults ++ row_told flags faults (n + length labels) bytes ∷ []
rows_last n [] bytes flags faults = let z : n ≡ n + 0 = omega arith in λ i. row_told flags faults (z i) bytes ∷ []
rows_last n (x ∷ labels) bytes flags faults =
    let z : suc n + length labels ≡ n + suc (length labels) = omega arith in
    ap (λ w. row_told flags faults n x ∷ w) (rows_last (suc n) labels bytes flags faults ∙ (λ i. rows_from (suc n) labels flags faults ++ row_told flags faults (z i) bytes ∷ []))

-- what is added for one more item
pub record AddsRow (old : Rows) (label : Option (List ℕ)) (fault : Option FrameFault) (new : Rows) : Type 0 where
  pub labels : new.labels ≡ old.labels ++ list_or_none label ∷ []
  pub flags : new.labelled.items ≡ old.labelled.items ++ is_some label ∷ []
  pub same : (n : ℕ) → n < length old.labels → fault_kept new.faults.items n ≡ fault_kept old.faults.items n
  pub here : fault_kept new.faults.items (length old.labels) ≡ fault
  pub within : length new.faults.items ≤ length old.labels + 1

pub some_lent : {L X : Type 0} (now : L → X) (lent : Option L) → is_some (option_map now lent) ≡ is_some lent
some_lent now lent = grind (arith, common_steps) steps 200000

-- by the count of the items before it
pub adds_row : (old new : Rows) (label : Option (List ℕ)) (fault : Option FrameFault) (count : ℕ) → count ≡ length old.labels → AreRowsKept old → new.labels ≡ old.labels ++ list_or_none label ∷ []
    → new.labelled.items ≡ old.labelled.items ++ is_some label ∷ []
    → (length old.faults.items ≤ count → (n : ℕ) → n < count → fault_kept new.faults.items n ≡ fault_kept old.faults.items n) → (length old.faults.items ≤ count → fault_kept new.faults.items count ≡ fault)
    → (length old.faults.items ≤ count → length new.faults.items ≤ count + 1) → AddsRow old label fault new
adds_row old new label fault count e kept labels flags same here within = grind (arith, common_steps) steps 200000

pub kept_more : (old new : Rows) (label : Option (List ℕ)) (fault : Option FrameFault) → AreRowsKept old → AddsRow old label fault new → AreRowsKept new
kept_more old new label fault k a = grind (arith, common_steps, length-append) steps 200000

pub rows_more : (old new : Rows) (label : Option (List ℕ)) (fault : Option FrameFault) → AreRowsKept old → AddsRow old label fault new → rows_of new ≡ rows_of old ++ (label, fault_told fault) ∷ []
rows_more old new label fault k a =
    let count : 0 + length old.labels ≡ length old.labelled.items = omega (arith, k.flags) in
    let flag = ap (λ n. get_or new.labelled.items n false) count ∙ ap (λ w. get_or w (length old.labelled.items) false) a.flags ∙ get_or-append_seam old.labelled.items (is_some label) [] false in
    let flags = λ (n : ℕ) (l : n < 0 + length old.labels). ap (λ w. get_or w n false) a.flags ∙ get_or_append_left old.labelled.items (is_some label ∷ []) false n (omega (arith, count)) in
    let same = rows_same 0 old.labels new.labelled.items old.labelled.items new.faults.items old.faults.items flags (λ n l. a.same n (omega arith)) in
    let here = ap (fault_kept new.faults.items) (omega arith) ∙ a.here in
    ap (λ w. rows_from 0 w new.labelled.items new.faults.items) a.labels ∙ rows_last 0 old.labels (list_or_none label) new.labelled.items new.faults.items
    ∙ (λ i. same i ++ (told label (flag i), fault_told (here i)) ∷ []) ∙ ap (λ l. rows_of old ++ (l, fault_told fault) ∷ []) (shown label)
  where
    told : Option (List ℕ) → Bool → Option (List ℕ)
    told label b = cond b (Some (list_or_none label)) None

    shown : (label : Option (List ℕ)) → told label (is_some label) ≡ label
    shown None = refl
    shown (Some l) = refl
