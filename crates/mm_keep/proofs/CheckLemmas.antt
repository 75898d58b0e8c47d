-- What checks said, by the places of items: one item more, and one check in the place of another.
use Rattle.std.proofs.lemmas.{Grind.{common_steps}, Bool.{false≢true}, List.{length_push, get_or_append_left, map-append}, Option.{slice_get-get_or, slice_get_past, none-some, same_Some}}
use Rattle.std.proofs.Common.{cond, Result, Ok, is_ok, ◌≡◌, ◌≢◌, ℕ, zero, suc, ◌<◌, true, Option, Some, None, List, [], ◌∷◌, ◌++◌, length, map, get_or, set, is_some, refl, sym, ◌∙◌, ap, arith}
use Rattle.std.proofs.{Common.{length-set, get_or-set_other, get_or-set_same, slice_get}, Math.Seq.{get_or-append_seam}}
use native.Mathlib.Decide.{dec_lt}
use Rattle.mm_proof.specs.mm_verdict.Language.Work.{Judgement}
use Rattle.mm_keep.specs.Code.KeptCheck.{IsPlaced, Kept, kept_at}

-- the same element of a list with one more
get_before : {X : Type 0} (xs : List X) (y : X) (k : ℕ) → k < length xs → slice_get (xs ++ y ∷ []) k ≡ slice_get xs k
get_before xs y k l =
    let long = length_push xs y in
    slice_get-get_or (xs ++ y ∷ []) k y (omega arith) ∙ ap Some (get_or_append_left xs (y ∷ []) y k l) ∙ sym (slice_get-get_or xs k y l)

get_last : {X : Type 0} (xs : List X) (y : X) → slice_get (xs ++ y ∷ []) (length xs) ≡ Some y
get_last xs y = let long = length_push xs y in slice_get-get_or (xs ++ y ∷ []) (length xs) y (omega arith) ∙ ap Some (get_or-append_seam xs y [] y)

-- the element that was put, and any other one
get_put : {X : Type 0} (xs : List X) (q : ℕ) (y : X) → q < length xs → slice_get (set xs q y) q ≡ Some y
get_put xs q y l = let long = length-set xs q y in slice_get-get_or (set xs q y) q y (omega arith) ∙ ap Some (get_or-set_same xs q y y l)

get_elsewhere : {X : Type 0} (xs : List X) (q k : ℕ) (y : X) → k ≢ q → slice_get (set xs q y) k ≡ slice_get xs k
get_elsewhere xs q k y ne =
    let long = length-set xs q y in
    elim (dec_lt k (length xs)) [
      | yes l ↦ slice_get-get_or (set xs q y) k y (omega arith) ∙ ap Some (get_or-set_other xs q k y y ne) ∙ sym (slice_get-get_or xs k y l)
      | no n ↦ slice_get_past (set xs q y) k (omega arith) ∙ sym (slice_get_past xs k (omega arith))
    ]

-- what is kept of an item
pub kept_here : (checks : List (Option Judgement)) (places : List (Option ℕ)) (i : ℕ) → get_or (map (kept_at checks) places) i None ≡ kept_at checks (get_or places i None)
kept_here checks [] i = refl
kept_here checks (p ∷ places) zero = refl
kept_here checks (p ∷ places) (suc i) = kept_here checks places i

-- what is at a place of a list with one check more, and with one put in the place of another
at_before : (checks : List (Option Judgement)) (one : Option Judgement) (place : Option ℕ) → ((n : ℕ) → place ≡ Some n → n < length checks) → kept_at (checks ++ one ∷ []) place ≡ kept_at checks place
at_before checks one None l = refl
at_before checks one (Some n) l = get_before checks one n (l n refl)

at_elsewhere : (checks : List (Option Judgement)) (q : ℕ) (one : Option Judgement) (place : Option ℕ) → place ≢ Some q → kept_at (set checks q one) place ≡ kept_at checks place
at_elsewhere checks q one None ne = refl
at_elsewhere checks q one (Some n) ne = get_elsewhere checks q n one (λ e. ne (ap Some e))

-- an item whose place this is
place_there : (places : List (Option ℕ)) (i q : ℕ) → Some q ≡ get_or places i None → slice_get places i ≡ Some (Some q)
place_there [] i q e = absurd (none-some q (sym e))
place_there (p ∷ places) zero q e = ap Some (sym e)
place_there (p ∷ places) (suc i) q e = place_there places i q e

-- one item more, with a check
pub added : (checks : List (Option Judgement)) (places : List (Option ℕ)) (one : Option Judgement) → IsPlaced places (length checks)
    → map (kept_at (checks ++ one ∷ [])) (places ++ Some (length checks) ∷ []) ≡ map (kept_at checks) places ++ Some one ∷ []
added checks places one is =
    let f = kept_at (checks ++ one ∷ []) in
    map-append f places (Some (length checks) ∷ []) ∙ ap (λ xs. xs ++ f (Some (length checks)) ∷ []) (before places (λ k p e. is.within k p e))
    ∙ ap (λ x. map (kept_at checks) places ++ x ∷ []) (get_last checks one)
  where
    before : (ps : List (Option ℕ)) → ((k p : ℕ) → slice_get ps k ≡ Some (Some p) → p < length checks) → map (kept_at (checks ++ one ∷ [])) ps ≡ map (kept_at checks) ps
    before [] w = refl
    before (p ∷ ps) w = (λ i. at_before checks one p (λ n e. w 0 n (ap Some e)) i ∷ before ps (λ k. w (suc k)) i)

pub pushed : {X E : Type 0} (result : Result (Unit {0}) E) (done : Unit {0}) (new whole old : List X) → result ≡ Ok done → new ≡ cond (is_ok result) whole old → new ≡ whole
pushed result done new whole old e n = n ∙ ap (λ r. cond (is_ok r) whole old) e

-- what the check of an item said
pub found : (checks : List (Option Judgement)) (places : List (Option ℕ)) (i q : ℕ) (one : Option Judgement) → IsPlaced places (length checks) → Some q ≡ get_or places i None
    → one ≡ get_or checks q one → get_or (map (kept_at checks) places) i None ≡ Some one
found checks places i q one are here is =
    kept_here checks places i ∙ ap (kept_at checks) (sym here) ∙ slice_get-get_or checks q one (are.within i q (place_there places i q here)) ∙ ap Some (sym is)

pub within : (checks : List (Option Judgement)) (places : List (Option ℕ)) (i q : ℕ) → IsPlaced places (length checks) → Some q ≡ get_or places i None → q < length checks
within checks places i q are here = are.within i q (place_there places i q here)

-- an item of which something is kept has a place
pub has_place : (checks : List (Option Judgement)) (places : List (Option ℕ)) (now : List Kept) (i : ℕ) → map (kept_at checks) places ≡ now → is_some (get_or now i None) ≡ true → is_some (get_or places i None) ≡ true
has_place checks places now i same some = some_place (get_or places i None) (sym (ap is_some (ap (λ xs. get_or xs i None) (sym same) ∙ kept_here checks places i)) ∙ some)
  where
    some_place : (place : Option ℕ) → is_some (kept_at checks place) ≡ true → is_some place ≡ true
    some_place None e = absurd (false≢true e)
    some_place (Some n) e = refl

-- one check in the place of another
exchanged : (checks : List (Option Judgement)) (places : List (Option ℕ)) (i q : ℕ) (one : Option Judgement) → IsPlaced places (length checks) → Some q ≡ get_or places i None
    → map (kept_at (set checks q one)) places ≡ set (map (kept_at checks) places) i (Some one)
exchanged checks places i q one is here =
    by places i (place_there places i q here) (λ k e. is.once k i q e (place_there places i q here))
  where
    at : q < length checks
    at = within checks places i q is here

    others : (ps : List (Option ℕ)) → ((k : ℕ) → slice_get ps k ≢ Some (Some q)) → map (kept_at (set checks q one)) ps ≡ map (kept_at checks) ps
    others [] ne = refl
    others (p ∷ ps) ne = (λ i. at_elsewhere checks q one p (λ e. ne 0 (ap Some e)) i ∷ others ps (λ k. ne (suc k)) i)

    by : (ps : List (Option ℕ)) (j : ℕ) → slice_get ps j ≡ Some (Some q) → ((k : ℕ) → slice_get ps k ≡ Some (Some q) → k ≡ j) → map (kept_at (set checks q one)) ps ≡ set (map (kept_at checks) ps) j (Some one)
    by [] j e once = absurd (none-some (Some q) e)
    by (p ∷ ps) zero e once =
        let put = ap (kept_at (set checks q one)) (same_Some p (Some q) e) ∙ get_put checks q one at in
        (λ i. put i ∷ others ps (λ k f. absurd (omega (arith, once (suc k) f))) i)
    by (p ∷ ps) (suc j) e once =
        let away = at_elsewhere checks q one p (λ f. absurd (omega (arith, once 0 (ap Some f)))) in
        (λ i. away i ∷ by ps j e (λ k f. omega (arith, once (suc k) f)) i)

-- the same by what is answered: what the check of an item said is put in the place of what that of another item said
pub exchanged_by : (checks : List (Option Judgement)) (places : List (Option ℕ)) (i q : ℕ) (now theirs : List Kept) (j : ℕ) (one other : Option Judgement) → IsPlaced places (length checks)
    → Some q ≡ get_or places i None → map (kept_at checks) places ≡ now → one ≡ other → get_or theirs j None ≡ Some other
    → map (kept_at (set checks q one)) places ≡ set now i (get_or theirs j None)
exchanged_by checks places i q now theirs j one other is here same e there = grind (arith, common_steps, exchanged checks places i q one is here) steps 200000
