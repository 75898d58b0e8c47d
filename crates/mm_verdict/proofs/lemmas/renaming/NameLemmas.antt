-- What numbers name.
use Rattle.std.proofs.lemmas.Grind.{elements}
use Rattle.std.proofs.Common.{◌≡◌, ℕ, zero, suc, ◌+◌, ◌-◌, ◌<◌, ◌≤◌, Option, Some, None, Result, Ok, Err, List, [], ◌∷◌, length, map, refl, sym, ap, arith, slice_get, ◌++◌, ◌∙◌}
use Rattle.std.specs.{Option.{ok_or}, List.{range_with_len}}
use Rattle.mm_machine.specs.{Language.Expansion.{Step, Saved}, declared.ProofNumber.{ProofNumber, TheVariants.{P06}}}
use Rattle.mm_verdict.specs.Language.Decoding.{nameable}

saved_get : (from saves k j : ℕ) → k < saves → from + k ≡ j → slice_get (map Saved (range_with_len from saves)) k ≡ Some (Saved j)
saved_get from zero k j less e = absurd (omega arith)
saved_get from (suc saves) zero j less e = let f : from ≡ j = omega arith in ap (λ (w : ℕ). Some (Saved w)) f
saved_get from (suc saves) (suc k) j less e = saved_get (from + 1) saves k j (omega arith) (omega arith)

saved_past : (from saves k : ℕ) → saves ≤ k → slice_get (map Saved (range_with_len from saves)) k ≡ None
saved_past from zero k past = refl
saved_past from (suc saves) zero past = absurd (omega arith)
saved_past from (suc saves) (suc k) past = saved_past (from + 1) saves k (omega arith)

past_front : {X : Type 0} (xs ys : List X) (j k : ℕ) → length xs + j ≡ k → slice_get (xs ++ ys) k ≡ slice_get ys j
past_front [] ys j k e = let same : k ≡ j = omega arith in ap (slice_get ys) same
past_front (x ∷ xs) ys j zero e = absurd (omega arith)
past_front (x ∷ xs) ys j (suc k) e = past_front xs ys j k (omega arith)

-- a number after the labels names a save
pub named_save : (names : List Step) (labels saves v w : ℕ) → length names ≡ labels → v ≡ w → labels ≤ v → v - labels < saves → ◌≡◌ {A = Result Step ProofNumber} (Ok (Saved (v - labels))) (ok_or (slice_get (nameable names saves) w) P06)
named_save names labels saves v w len same more few =
    let k = v - labels in
    sym (ap (λ (found : Option Step). ok_or found P06) (past_front names (map Saved (range_with_len 0 saves)) k w (omega arith) ∙ saved_get 0 saves k k (omega arith) (omega arith)))

-- and one after the saves names nothing
pub named_nothing : (names : List Step) (labels saves w : ℕ) → length names ≡ labels → labels + saves ≤ w → ◌≡◌ {A = Result Step ProofNumber} (Err P06) (ok_or (slice_get (nameable names saves) w) P06)
named_nothing names labels saves w len past = grind (arith, elements, past_front, saved_past) steps 200000
