-- Lines and columns after joined bytes, and where the bytes of a piece are.
use Rattle.std.proofs.lemmas.{Grind.{common_steps}, Bool.Decides.{nat_tests}, List.{append-nil, length-drop, length-reverse, reverse-append, take_more, drop_more, take-append-drop, take-append-le}}
use Rattle.std.proofs.lemmas.List.{Sums.{sum_by-cons, sum_by-append, suffix_len-le-length}, Sorted.{sum_by-IsPermutation, IsPermutation-reverse}, Folds.{prefix_len-append, concat-append}}
use Rattle.std.proofs.Common.{◌≡◌, ℕ, zero, suc, ◌+◌, ◌-◌, ◌<◌, ◌≤◌, Bool, not, eqb, cond, List, [], ◌∷◌, ◌++◌, length, take, drop, get_or, reverse, count_by, refl, sym, ap, ◌∙◌, subst, arith}
use Rattle.std.{proofs.{Common.{length-append}, Math.Seq.{take-append-add}}, specs.List.{suffix_len, prefix_len, after_last, concat}}
use Rattle.mm_text.specs.Language.Place.{is_line_feed}
use Rattle.mm_store.specs.Code.Lines.{bytes_before}

abbrev is_other : ℕ → Bool
is_other b = not (is_line_feed b)

-- no line feed is among bytes exactly when all are other bytes
all_other : (bytes : List ℕ) → (prefix_len is_other bytes ≡ length bytes → count_by is_line_feed bytes ≡ 0) × (count_by is_line_feed bytes ≡ 0 → prefix_len is_other bytes ≡ length bytes)
all_other [] = (λ e. refl, λ e. refl)
all_other (b ∷ bytes) = grind (arith, common_steps, all_other bytes, sum_by-cons) steps 200000

length_after : (before : List ℕ) → length (after_last is_line_feed before) ≡ suffix_len is_other before
length_after before = omega (arith, length-drop (length before - suffix_len is_other before) before, suffix_len-le-length is_other before)

suffix_joined : (a b : List ℕ) → suffix_len is_other (a ++ b) ≡ cond (eqb (suffix_len is_other b) (length (reverse b))) (length (reverse b) + suffix_len is_other a) (suffix_len is_other b)
suffix_joined a b = rw reverse-append (prefix_len-append is_other (reverse b) (reverse a))

count_reverse : (b : List ℕ) → count_by is_line_feed (reverse b) ≡ count_by is_line_feed b
count_reverse b = sum_by-IsPermutation (λ x. cond (is_line_feed x) 1 0) b (reverse b) (IsPermutation-reverse b)

pub column_goes_on : (a b : List ℕ) → count_by is_line_feed b ≡ 0 → length (after_last is_line_feed (a ++ b)) ≡ length (after_last is_line_feed a) + length b
column_goes_on a b none = grind (arith, common_steps, all_other (reverse b), count_reverse b, suffix_joined a b, length-reverse b, length_after (a ++ b), length_after a, nat_tests) steps 200000

pub column_begins : (a b : List ℕ) → 0 < count_by is_line_feed b → length (after_last is_line_feed (a ++ b)) ≡ length (after_last is_line_feed b)
column_begins a b some = grind (arith, common_steps, count_reverse b, all_other (reverse b), suffix_joined a b, length_after (a ++ b), length_after b, nat_tests) steps 200000

pub lines_joined : (a b : List ℕ) → count_by is_line_feed (a ++ b) ≡ count_by is_line_feed a + count_by is_line_feed b
lines_joined a b = sum_by-append (λ x. cond (is_line_feed x) 1 0) a b

-- what holds of the elements of a list by their places, and of one more after them
pub each_more : {X : Type 0} (P : ℕ → X → Type 0) (xs : List X) (x : X) (n : ℕ) → length xs ≡ n → ((k : ℕ) (d : X) → k < n → P k (get_or xs k d)) → P n x → (k : ℕ) (d : X) → k < n + 1 → P k (get_or (xs ++ x ∷ []) k d)
each_more P (y ∷ xs) x n long each last zero d h = each 0 d (omega arith)
each_more P (y ∷ xs) x n long each last (suc k) d h = each_more (λ j z. P (suc j) z) xs x (n - 1) (omega arith) (λ j e lt. each (suc j) e (omega arith))
    (let same : suc (n - 1) ≡ n = omega arith in subst (λ m. P m x) (sym same) last) k d (omega arith)
each_more P [] x n long each last k d h = grind (arith, common_steps) steps 200000

pub concat_one : (texts : List (List ℕ)) (n : ℕ) → n < length texts → concat (take (n + 1) texts) ≡ concat (take n texts) ++ get_or texts n []
concat_one texts n h = rw (take_more texts n [] h, concat-append) (ap (λ l. concat (take n texts) ++ l) (append-nil (get_or texts n [])))

-- the bytes before the next piece
pub next_piece : (texts : List (List ℕ)) (n at : ℕ) → n < length texts → bytes_before texts (n + 1) 0 ≡ bytes_before texts n at ++ drop at (get_or texts n [])
next_piece texts n at h = grind (arith, common_steps, append-nil (concat (take (n + 1) texts)), concat_one texts n h, take-append-drop at (get_or texts n [])) steps 200000

-- bytes of a piece are within the joined texts
pub within_joined : (texts : List (List ℕ)) (n at : ℕ) → n < length texts → length (bytes_before texts n at) + length (drop at (get_or texts n [])) ≤ length (concat texts)
within_joined texts n at h =
    let a = next_piece texts n at h in
    let b = append-nil (concat (take (n + 1) texts)) in
    let l = length-append (bytes_before texts n at) (drop at (get_or texts n [])) in
    let m = length-append (concat (take (n + 1) texts)) (concat (drop (n + 1) texts)) in
    omega (arith, ap length (sym a ∙ b), ap length (sym (concat-append (take (n + 1) texts) (drop (n + 1) texts)) ∙ ap concat (take-append-drop (n + 1) texts)))

-- what comes before a text among joined ones, and the text, are no longer than all
pub piece_within : (texts : List (List ℕ)) (n : ℕ) → n < length texts → length (concat (take n texts)) + length (get_or texts n []) ≤ length (concat texts)
piece_within texts n h = omega (arith, within_joined texts n 0 h, ap length (append-nil (concat (take n texts))))

pub before_in : (texts : List (List ℕ)) (n at : ℕ) (tail : List ℕ) → n < length texts → at ≤ length (get_or texts n []) → take (length (concat (take n texts)) + at) (concat texts ++ tail) ≡ bytes_before texts n at
before_in texts n at tail h within =
    let a = concat (take n texts) in
    let x = get_or texts n [] in
    let d = concat (drop (n + 1) texts) in
    let whole : concat texts ≡ a ++ (x ++ d) = ap concat (sym (take-append-drop n texts)) ∙ concat-append (take n texts) (drop n texts) ∙ ap (λ l. a ++ concat l) (drop_more texts n [] h) in
    grind (arith, common_steps, take-append-add a ((x ++ d) ++ tail) at, take-append-le at x (d ++ tail) within) steps 200000
