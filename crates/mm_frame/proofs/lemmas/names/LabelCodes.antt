-- What is kept of labels after one more.
use Rattle.std.proofs.lemmas.{Bool.{cases_Bool, cond-true, cond-false, and_parts, false_from_ne_true}, Grind.{common_steps}, Slice.Eq.{bytes_eq-Decides}}
use Rattle.std.{proofs.Common.{arith, ◌≡◌, ℕ, Bool, true, false, cond, Some, List, nat_eq, bytes_eq, Vec, Global}, specs.HashMap.{HashMap, UpdatesBy, get_by}}
use Rattle.std.specs.Map.{KeepsOthers, IsKeyTest, AreApart, lookup}
use Rattle.mm_frame.{specs.{declared.label_numbers.LabelNumbers.{LabelNumbers}, Code.{Codes.{bytes_code, is_coded}, KeptLabels.{label_number}}}, proofs.lemmas.names.Codes.{same_code}}

other_entries : {K X : Type 0} (eq : K → K → Bool) (test : K → Bool) (old new : List (K × X)) → KeepsOthers eq test old new → (other : K → Bool) → IsKeyTest eq other → AreApart test other → lookup other new ≡ lookup other old
unfolding KeepsOthers
other_entries eq test old new h = h

-- the look-ups after an `insert`, with the bytes of the key by an equation
pub inserted : {X S : Type 0} (ks bs : List ℕ) (m n : HashMap (Vec ℕ Global) X S) (x : X) → ks ≡ bs
    → UpdatesBy (λ a b. bytes_eq a.items b.items) (λ k. bytes_eq ks k.items) m n (Some x) → (cs : List ℕ)
    → get_by (λ k. bytes_eq cs k.items) n ≡ cond (bytes_eq bs cs) (Some x) (get_by (λ k. bytes_eq cs k.items) m)
inserted ks bs m n x e h cs = grind (arith, common_steps, bytes_eq-Decides, cases_Bool, cond-false, cond-true, other_entries) steps 200000

-- what is kept after one more short label
pub short_put : (old new : LabelNumbers) (label other : List ℕ) (number : ℕ) → is_coded label ≡ true → new.long ≡ old.long
    → ((d : ℕ) → get_by (nat_eq d) new.short ≡ cond (nat_eq (bytes_code label) d) (Some number) (get_by (nat_eq d) old.short))
    → label_number new other ≡ cond (bytes_eq label other) (Some number) (label_number old other)
unfolding label_number
short_put old new label other number s long put =
    grind (arith, common_steps, and_parts, bytes_eq-Decides, cases_Bool, false_from_ne_true, same_code) steps 200000

-- what is kept after one more long label
pub long_put : (old new : LabelNumbers) (label other : List ℕ) (number : ℕ) → is_coded label ≡ false → new.short ≡ old.short
    → ((cs : List ℕ) → get_by (λ key. bytes_eq cs key.items) new.long ≡ cond (bytes_eq label cs) (Some number) (get_by (λ key. bytes_eq cs key.items) old.long))
    → label_number new other ≡ cond (bytes_eq label other) (Some number) (label_number old other)
unfolding label_number
long_put old new label other number s short put =
    grind (arith, common_steps, bytes_eq-Decides label other, cases_Bool (is_coded other), false_from_ne_true) steps 200000
