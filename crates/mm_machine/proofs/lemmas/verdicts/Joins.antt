-- Joins of deriving lists: put together, and taken apart.
use Rattle.std.proofs.Common.{◌≡◌, ℕ, List, [], ◌∷◌, ◌++◌, refl, sym, ◌∙◌, ap, subst, append_assoc, append-nil}
use Rattle.mm_machine.specs.Language.{Frame.{Symbol, Setting}, Derivation.{Derives, DeriveInOrder, nothing, first_then}}

-- a join of two joins
pub join : {place : Setting} {a b : List (List ℕ)} {xs ys : List (List Symbol)} → DeriveInOrder place a xs → DeriveInOrder place b ys → DeriveInOrder place (a ++ b) (xs ++ ys)
join nothing d = d
join {b = b} (first_then {first = first} {rest = rest} h t) d = rw append_assoc (first_then h (join t d))

-- one list is a join
pub alone : {place : Setting} {a : List (List ℕ)} {e : List Symbol} → Derives place a e → DeriveInOrder place a (e ∷ [])
alone {place} {a} {e} d = subst (λ l. DeriveInOrder place l (e ∷ [])) (append-nil a) (first_then d nothing)

-- a join is cut where its expressions are cut
pub record Cut (place : Setting) (labels : List (List ℕ)) (xs ys : List (List Symbol)) : Type 0 where
  pub front : List (List ℕ)
  pub back : List (List ℕ)
  pub whole : labels ≡ front ++ back
  pub of_front : DeriveInOrder place front xs
  pub of_back : DeriveInOrder place back ys

pub cut : {place : Setting} {labels : List (List ℕ)} (xs ys zs : List (List Symbol)) → DeriveInOrder place labels zs → zs ≡ xs ++ ys → Cut place labels xs ys
cut {labels = labels} [] ys zs d e = record { front = []; back = labels; whole = refl; of_front = nothing; of_back = rw e at d }
cut (x ∷ xs) ys [] d e = cc
cut {place} (x ∷ xs) ys (z ∷ zs) (first_then {first = first} h t) e =
    let c = cut xs ys zs t (cc) in
    let same : z ≡ x = cc in
    record { front = first ++ c.front; back = c.back; whole = ap (λ l. first ++ l) c.whole ∙ sym (append_assoc first c.front c.back); of_front = first_then (subst (λ w. Derives place first w) same h) c.of_front; of_back = c.of_back }
