-- What is active, by how the list is split.
use Rattle.std.proofs.lemmas.{Grind.{common_steps}, Bool.{ne_eqb, Decides.{Decides-eqb}}}
use Rattle.std.proofs.Common.{◌≡◌, ℕ, zero, suc, pred, ◌≤◌, ◌==◌, true, cond, List, [], ◌∷◌, ◌++◌, refl, sym, ◌∙◌, ap, subst, arith, inl, inr}
use Rattle.mm_frame.{proofs.lemmas.lists.Members.{first_cases, in_first, in_later, In, in_right}, specs.Language.Scope.{is_start, is_end, closed, stays, active}}
use Rattle.mm_frame.specs.{Language.Marks.{Mark, Opens, Closes, Neither, mark_of}, Code.BlockMarks.{closed_at, is_zero}}
use Rattle.mm_statement.specs.Language.Item.{Kind, BlockStart, BlockEnd, Said, is_kind}

-- a test of a count
pub zero_is : (n : ℕ) → (n == 0) ≡ is_zero n
zero_is zero = refl
zero_is (suc n) = ne_eqb (suc n) 0 (λ e. omega (arith, e))

pub closed_none : (xs : List Said) → stays xs ≡ true → closed xs ≡ 0
closed_none xs h = (Decides-eqb (closed xs) 0).0 h

pub none_closed : (xs : List Said) → closed xs ≡ 0 → stays xs ≡ true
none_closed xs h = (Decides-eqb (closed xs) 0).1 h

-- what an item makes of the count of those after it, and its mark does the same
abbrev pub counted : Said → ℕ → ℕ
counted x c = cond (is_start x) (pred c) (cond (is_end x) (suc c) c)

pub counted_mark : (k : Kind) (c : ℕ) → cond (is_kind BlockStart k) (pred c) (cond (is_kind BlockEnd k) (suc c) c) ≡ closed_at (mark_of k) c
counted_mark BlockStart c = refl
counted_mark BlockEnd c = refl
counted_mark _ c = refl

-- items that end no block of those before them change nothing there
pub closed_join : (xs ys : List Said) → closed ys ≡ 0 → closed (xs ++ ys) ≡ closed xs
closed_join [] ys h = h
closed_join (x ∷ xs) ys h = ap (counted x) (closed_join xs ys h)

pub closed_more : (m : Mark) (c d : ℕ) → c ≤ d → closed_at m c ≤ closed_at m d
closed_more Opens (suc c) zero l = absurd (omega arith)
closed_more Neither c d l = l
closed_more _ _ _ l = omega arith

counted_more : (x : Said) (c d : ℕ) → c ≤ d → counted x c ≤ counted x d
counted_more x c d l = grind (arith, common_steps, closed_more (mark_of x.kind) c d l, counted_mark x.kind c, counted_mark x.kind d) steps 200000

-- an item that closes no block, and one that is no `$}`
pub stays_neither : (x : Said) (xs : List Said) → mark_of x.kind ≡ Neither → stays xs ≡ true → stays (x ∷ xs) ≡ true
stays_neither x xs m h = none_closed (x ∷ xs) (counted_mark x.kind (closed xs) ∙ ap (λ k. closed_at k (closed xs)) m ∙ closed_none xs h)

pub closed_one : (x : Said) → (mark_of x.kind ≡ Closes → ⊥) → closed (x ∷ []) ≡ 0
closed_one x c = grind (arith, common_steps, counted_mark x.kind 0) steps 200000

closed_front : (xs ys : List Said) → closed xs ≤ closed (xs ++ ys)
closed_front [] ys = omega arith
closed_front (x ∷ xs) ys = counted_more x (closed xs) (closed (xs ++ ys)) (closed_front xs ys)

pub stays_join : (xs ys : List Said) → stays xs ≡ true → stays ys ≡ true → stays (xs ++ ys) ≡ true
stays_join xs ys h k = ap (λ c. c == 0) (closed_join xs ys (closed_none ys k)) ∙ h

pub stays_front : (xs ys : List Said) → stays (xs ++ ys) ≡ true → stays xs ≡ true
stays_front xs ys h = none_closed xs (omega (arith, closed_front xs ys, closed_none (xs ++ ys) h))

-- where an active item is
pub record Split (xs : List Said) (x : Said) : Type 0 where
  pub front : List Said
  pub back : List Said
  pub whole : xs ≡ front ++ x ∷ back
  pub stayed : stays back ≡ true

pub active_split : (xs : List Said) (x : Said) → In x (active xs) → Split xs x
active_split [] x h = absurd h
active_split (y ∷ ys) x h = elim (first_cases (stays ys) y x (active ys) h) [
  | inl p ↦ record { front = []; back = ys; whole = ap (λ w. w ∷ ys) p.0; stayed = p.1 }
  | inr k ↦ (let r = active_split ys x k in record { front = y ∷ r.front; back = r.back; whole = ap (λ w. y ∷ w) r.whole; stayed = r.stayed })
]

pub split_active : (front : List Said) (x : Said) (back : List Said) → stays back ≡ true → In x (active (front ++ x ∷ back))
split_active [] x back h = in_first (stays back) x (active back) h
split_active (y ∷ front) x back h = in_later (stays (front ++ x ∷ back)) x y (active (front ++ x ∷ back)) (split_active front x back h)

pub active_in : (xs : List Said) (x : Said) → In x (active xs) → In x xs
active_in xs x h = let s = active_split xs x h in subst (λ w. In x w) (sym s.whole) (in_right x s.front (x ∷ s.back) (inl refl))
