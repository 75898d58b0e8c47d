-- The stack of scopes, and activity by counts.
use Rattle.std.proofs.Common.{◌∙◌, ◌≡◌, ℕ, zero, suc, pred, ◌+◌, ◌≤◌, ◌<◌, ◌↔◌, ltb, Bool, true, false, cond, List, [], ◌∷◌, ◌++◌, length, take, drop, count_by, refl, sym, ap, subst, append-nil}
use Rattle.std.proofs.{Common.{arith}, lemmas.{Grind.{common_steps}, List.Sums.{sum_by-cons}}}
use Rattle.mm_statement.specs.Language.Item.{Kind, BlockStart, BlockEnd, Said, is_kind}
use Rattle.mm_frame.specs.Language.{Scope.{closed, stays, active, is_start, is_end, is_inside}, Marks.{Mark, Opens, Closes, Neither, mark_of}}
use Rattle.mm_frame.specs.{Language.ScopeStack.{all_of, turn, read_scopes, is_statement_mark, statements}, Code.BlockMarks.{closed_at, is_zero, opens, closes, block_marks, is_inside_by}}
use Rattle.mm_frame.proofs.lemmas.scope.ActiveBySplit.{zero_is, closed_none, none_closed, counted_mark}

-- what begins or ends a block
pub starts_mark : (k : Kind) → is_kind BlockStart k ≡ opens (mark_of k)
starts_mark BlockStart = refl
starts_mark BlockEnd = refl
starts_mark _ = refl

pub ends_mark : (k : Kind) → is_kind BlockEnd k ≡ closes (mark_of k)
ends_mark BlockStart = refl
ends_mark BlockEnd = refl
ends_mark _ = refl

starts_cons : (x : Said) (xs : List Said) → count_by is_start (x ∷ xs) ≡ cond (opens (mark_of x.kind)) 1 0 + count_by is_start xs
starts_cons x xs = sum_by-cons (λ i. cond (is_start i) 1 0) x xs ∙ ap (λ b. cond b 1 0 + count_by is_start xs) (starts_mark x.kind)

ends_cons : (x : Said) (xs : List Said) → count_by is_end (x ∷ xs) ≡ cond (closes (mark_of x.kind)) 1 0 + count_by is_end xs
ends_cons x xs = sum_by-cons (λ i. cond (is_end i) 1 0) x xs ∙ ap (λ b. cond b 1 0 + count_by is_end xs) (ends_mark x.kind)

-- as many items begin or end a block as marks do
starts_by : (items : List Said) → count_by is_start items ≡ count_by opens (block_marks items)
starts_by [] = refl
starts_by (x ∷ xs) = starts_cons x xs ∙ ap (λ n. cond (opens (mark_of x.kind)) 1 0 + n) (starts_by xs) ∙ sym (sum_by-cons (λ m. cond (opens m) 1 0) (mark_of x.kind) (block_marks xs))

ends_by : (items : List Said) → count_by is_end items ≡ count_by closes (block_marks items)
ends_by [] = refl
ends_by (x ∷ xs) = ends_cons x xs ∙ ap (λ n. cond (closes (mark_of x.kind)) 1 0 + n) (ends_by xs) ∙ sym (sum_by-cons (λ m. cond (closes m) 1 0) (mark_of x.kind) (block_marks xs))

pub inside_by : (items : List Said) → is_inside items ≡ is_inside_by (block_marks items)
inside_by items = λ i. ltb (ends_by items i) (starts_by items i)

-- staying by counts
shift : (a b c d k : ℕ) → a ≡ b → c ≡ d → b ≤ k + d → a ≤ k + c
shift a b c d k e f l = omega arith

counts_at : (m : Mark) (n a b : ℕ) → a ≤ n + b → cond (closes m) 1 0 + a ≤ closed_at m n + (cond (opens m) 1 0 + b)
counts_at Opens zero a b l = omega arith
counts_at Opens (suc n) a b l = omega arith
counts_at Closes n a b l = omega arith
counts_at Neither n a b l = omega arith

counts : (items : List Said) (k : ℕ) → count_by is_end (take k items) ≤ closed items + count_by is_start (take k items)
counts [] zero = omega arith
counts [] (suc k) = omega arith
counts (x ∷ xs) zero = omega arith
counts (x ∷ xs) (suc k) = grind (arith, common_steps, counts xs k, counted_mark, counts_at, ends_cons, shift, starts_cons) steps 200000

closed_least : (m : Mark) (n d : ℕ) (a b : ℕ → ℕ) → a 0 ≡ 0 → b 0 ≡ 0 → ((e : ℕ) → ((k : ℕ) → a k ≤ e + b k) → n ≤ e) → ((k : ℕ) → cond (closes m) 1 0 + a k ≤ d + (cond (opens m) 1 0 + b k)) → closed_at m n ≤ d
closed_least Opens zero d a b za zb r h = omega arith
closed_least Opens (suc n) d a b za zb r h = let l = r (suc d) (λ k. let l = h k in omega arith) in omega arith
closed_least Closes n zero a b za zb r h = absurd (let l = h 0 in omega arith)
closed_least Closes n (suc d) a b za zb r h = let l = r d (λ k. let l = h k in omega arith) in omega arith
closed_least Neither n d a b za zb r h = r d (λ k. let l = h k in omega arith)

by_counts : (items : List Said) (d : ℕ) → ((k : ℕ) → count_by is_end (take k items) ≤ d + count_by is_start (take k items)) → closed items ≤ d
by_counts [] d h = omega arith
by_counts (x ∷ xs) d h = subst (λ n. n ≤ d) (sym (counted_mark x.kind (closed xs)))
    (closed_least (mark_of x.kind) (closed xs) d (λ k. count_by is_end (take k xs)) (λ k. count_by is_start (take k xs)) refl refl
    (λ e r. by_counts xs e r) (λ k. shift _ _ _ _ d (sym (ends_cons x (take k xs))) (sym (starts_cons x (take k xs))) (h (suc k))))

pub stays_by_counts : (items : List Said) → (stays items ≡ true) ↔ ((k : ℕ) → count_by is_end (take k items) ≤ count_by is_start (take k items))
stays_by_counts items = ((λ h k. let z = closed_none items h in let l = counts items k in omega arith), (λ h. let l = by_counts items 0 (λ k. let l = h k in omega arith) in none_closed items (omega (arith, l))))

-- what the stack has is what it had, less the scopes that were closed, and what is active of the new items
read_opens : (x : Said) (c : ℕ) (scopes : List (List Said)) (live : List Said) → all_of (drop c ([] ∷ scopes)) ++ live ≡ all_of (drop (pred c) scopes) ++ live
read_opens x zero scopes live = ap (λ w. w ++ live) (append-nil (all_of scopes))
read_opens x (suc c) scopes live = refl

not_statement : (m : Mark) (x : Said) (b : Bool) (live : List Said) → mark_of x.kind ≡ m → is_statement_mark m ≡ false → statements (cond b (x ∷ live) live) ≡ statements live
not_statement m x true live e f = subst (λ t. cond (is_statement_mark t) (x ∷ statements live) (statements live) ≡ statements live) (sym e) (subst (λ t. cond t (x ∷ statements live) (statements live) ≡ statements live) (sym f) refl)
not_statement m x false live e f = refl

read_put : (x : Said) (c : ℕ) (scope : List Said) (scopes : List (List Said)) (live : List Said) → mark_of x.kind ≡ Neither
    → all_of (drop c ((scope ++ x ∷ []) ∷ scopes)) ++ statements live ≡ all_of (drop c (scope ∷ scopes)) ++ statements (cond (is_zero c) (x ∷ live) live)
read_put x zero scope scopes live e = grind (arith, common_steps) steps 200000
read_put x (suc c) scope scopes live e = refl

read_at : (m : Mark) (x : Said) (xs : List Said) (scopes : List (List Said)) (c : ℕ) (live : List Said) → mark_of x.kind ≡ m → closed_at m c < length scopes
    → ((s : List (List Said)) → c < length s → all_of (read_scopes s xs) ≡ all_of (drop c s) ++ statements live)
    → all_of (read_scopes (turn m x scopes) xs) ≡ all_of (drop (closed_at m c) scopes) ++ statements (cond (is_zero c) (x ∷ live) live)
read_at m x xs scopes c live e l r = grind (arith, common_steps, not_statement, read_opens, read_put) steps 200000

pub read_active : (items : List Said) (scopes : List (List Said)) → closed items < length scopes → all_of (read_scopes scopes items) ≡ all_of (drop (closed items) scopes) ++ statements (active items)
read_active [] scopes l = sym (append-nil (all_of scopes))
read_active (x ∷ xs) scopes l =
    let c = closed xs in
    let e = counted_mark x.kind c in
    read_at (mark_of x.kind) x xs scopes c (active xs) refl (subst (λ n. n < length scopes) e l) (λ s h. read_active xs s h)
    ∙ (λ i. all_of (drop (sym e i) scopes) ++ statements (cond (sym (zero_is c) i) (x ∷ active xs) (active xs)))

pub reader_active : (items : List Said) → closed items ≡ 0 → all_of (read_scopes ([] ∷ []) items) ≡ statements (active items)
reader_active items z = read_active items ([] ∷ []) (omega arith) ∙ ap (λ c. all_of (drop c ([] ∷ [])) ++ statements (active items)) z
