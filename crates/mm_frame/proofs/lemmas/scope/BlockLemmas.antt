-- Blocks by marks: what ties marks to items, and what one more mark makes of the block numbers.
use Rattle.std.proofs.lemmas.{Grind.{common_steps}, Bool.{eq-eqb, ne_eqb, le-leb, lt-leb}}
use Rattle.std.proofs.lemmas.List.{length_push, take-append-drop, drop-append-le, length-drop, length-take, take_min, drop-take, drop_all, take-append-le, length-set, get_or-set_same}
use Rattle.std.proofs.lemmas.{List.{get_or-set_other, Sums.{sum_by_push}}, Option.{slice_get_within, slice_get-get_or, same_Some}}
use Rattle.std.proofs.Common.{◌≡◌, ◌≢◌, ℕ, zero, suc, pred, ◌+◌, ◌-◌, ◌≤◌, ◌<◌, ◌==◌, leb, Bool, true, false, cond, Option, Some, None, List, [], ◌∷◌, ◌++◌, Result, Ok, is_ok, IsSome, slice_range}
use Rattle.std.proofs.Common.{unwrap_or, option_to_list, length, min, take, drop, get_or, set, count_by, slice_get, refl, sym, ◌∙◌, ap, subst, append_assoc, append-nil, arith, ◌⊎◌, inl, inr}
use Rattle.std.proofs.Math.Seq.{take-append-add}
use Rattle.mm_frame.{proofs.lemmas.{lists.Members.{get_join, get_between}, scope.ActiveBySplit.{zero_is, counted_mark, closed_more}}, specs.Language.Scope.{closed, stays}}
use Rattle.mm_frame.specs.{Language.Marks.{Mark, Opens, Closes, Neither, mark_of}, Code.{BlockMarks.{closed_by, stays_by, block_marks, closed_at, is_zero, opens, closes}, BlockEnds.{end_of_block}}}
use Rattle.mm_frame.specs.Code.KeptBlocks.{is_at, mark_between, marks_from, last_block, LeavesOpen, StandsOpen, StandsEnded, Stands, AreBlocks, AreBlockEndsKept}
use native.Mathlib.Decide.{dec_lt}
use Rattle.mm_statement.specs.Language.Item.{Said}

-- marks and items
closed_of : (items : List Said) → closed items ≡ closed_by (block_marks items)
closed_of [] = refl
closed_of (item ∷ items) = counted_mark item.kind (closed items) ∙ ap (closed_at (mark_of item.kind)) (closed_of items)

pub stays_of : (items : List Said) → stays items ≡ stays_by (block_marks items)
stays_of items = zero_is (closed items) ∙ ap is_zero (closed_of items)

-- a list with one more element
pub get_front : {X : Type 0} (xs : List X) (y x : X) (n : ℕ) → slice_get xs n ≡ Some x → slice_get (xs ++ y ∷ []) n ≡ Some x
get_front xs y x n e = get_join xs (y ∷ []) n x e

pub get_last : {X : Type 0} (xs : List X) (y : X) (n : ℕ) → n ≡ length xs → slice_get (xs ++ y ∷ []) n ≡ Some y
get_last xs y n e = ap (slice_get (xs ++ y ∷ [])) e ∙ get_between xs y []

pub get_cases : {X : Type 0} (xs : List X) (y x : X) (n : ℕ) → slice_get (xs ++ y ∷ []) n ≡ Some x → (slice_get xs n ≡ Some x) ⊎ ((n ≡ length xs) × (y ≡ x))
get_cases [] y x zero e = inr (refl, same_Some y x e)
get_cases [] y x (suc n) e = cc
get_cases (z ∷ xs) y x zero e = inl e
get_cases (z ∷ xs) y x (suc n) e = elim (get_cases xs y x n e) [ inl h ↦ inl h | inr h ↦ inr ((omega arith), h.1) ]

-- what holds of each element, and of one more
each_more : {X : Type 0} (P : ℕ → X → Type 0) (xs : List X) (y : X) → ((n : ℕ) (x : X) → slice_get xs n ≡ Some x → P n x) → P (length xs) y → (n : ℕ) (x : X) → slice_get (xs ++ y ∷ []) n ≡ Some x → P n x
each_more P xs y h k n x e = elim (get_cases xs y x n e) [ inl f ↦ h n x f | inr f ↦ subst (λ m. P m x) (sym f.0) (subst (λ z. P (length xs) z) f.1 k) ]

-- ends
end_of_past : (ends : List (Option ℕ)) (block : ℕ) → length ends ≤ block → end_of_block ends block ≡ None
end_of_past [] block l = refl
end_of_past (end ∷ ends) zero l = absurd (omega arith)
end_of_past (end ∷ ends) (suc block) l = end_of_past ends block (omega arith)

-- the marks of one more item
marks_push : (ends : List (Option ℕ)) (item before : ℕ) (blocks : List ℕ) (behind n : ℕ) → n ≡ item + length blocks
    → marks_from ends item before (blocks ++ behind ∷ []) ≡ marks_from ends item before blocks ++ mark_between ends n (last_block before blocks) behind ∷ []
marks_push ends item before [] behind n q = (let e : item ≡ n = omega arith in ap (λ w. mark_between ends w before behind ∷ []) e)
marks_push ends item before (block ∷ blocks) behind n q = ap (λ w. mark_between ends item before block ∷ w) (marks_push ends (suc item) block blocks behind n (omega arith))

-- ends at later items say nothing of the marks
marks_same : (ends more : List (Option ℕ)) (item before : ℕ) (blocks : List ℕ) → ((block n : ℕ) → n < item + length blocks
    → is_at (end_of_block more block) n ≡ is_at (end_of_block ends block) n) → marks_from more item before blocks ≡ marks_from ends item before blocks
marks_same ends more item before [] h = refl
marks_same ends more item before (block ∷ blocks) h =
    ap (λ w. cond w Closes (cond (before == block) Neither Opens) ∷ marks_from more (suc item) block blocks) (h before item (omega arith)) ∙ ap
    (λ w. mark_between ends item before block ∷ w) (marks_same ends more (suc item) block blocks (λ b n l. h b n (omega arith)))

pub length_marks : (ends : List (Option ℕ)) (item before : ℕ) (blocks : List ℕ) → length (marks_from ends item before blocks) ≡ length blocks
length_marks ends item before [] = refl
length_marks ends item before (block ∷ blocks) = ap suc (length_marks ends (suc item) block blocks)

last_push : (before : ℕ) (blocks : List ℕ) (behind : ℕ) → last_block before (blocks ++ behind ∷ []) ≡ behind
last_push before [] behind = refl
last_push before (block ∷ blocks) behind = last_push block blocks behind

-- what marks leave open
one_less : (c d e : ℕ) → e ≡ suc d → pred c - d ≡ c - e
one_less zero d e q = omega arith
one_less (suc c) d e q = omega arith

leaves_less : (marks : List Mark) (d e : ℕ) → d ≡ suc e → LeavesOpen marks d → LeavesOpen (marks ++ Closes ∷ []) e
leaves_less marks d e q h later = ap closed_by (append_assoc marks (Closes ∷ []) later) ∙ h (Closes ∷ later) ∙ (omega arith)

-- activity by what is left open
closed_front : (marks later : List Mark) → closed_by marks ≤ closed_by (marks ++ later)
closed_front [] later = omega arith
closed_front (mark ∷ marks) later = closed_more mark (closed_by marks) (closed_by (marks ++ later)) (closed_front marks later)

leaves_stays : (marks : List Mark) (d : ℕ) → LeavesOpen marks d → closed_by marks ≡ 0
leaves_stays marks d h = ap closed_by (sym (append-nil marks)) ∙ h [] ∙ omega arith

none_closed : (n : ℕ) → n ≡ 0 → is_zero n ≡ true
none_closed n e = ap is_zero e

some_closed : (n : ℕ) → 0 < n → is_zero n ≡ false
some_closed zero l = absurd (omega arith)
some_closed (suc n) l = refl

stays_open : (marks : List Mark) (d n : ℕ) → LeavesOpen marks d → stays_by (take n marks) ≡ true
stays_open marks d n h =
    let z = leaves_stays marks d h in
    let l = closed_front (take n marks) (drop n marks) in
    let j = ap closed_by (take-append-drop n marks) in
    none_closed (closed_by (take n marks)) (omega arith)

stays_before : (front rest : List Mark) (n : ℕ) → LeavesOpen front 0 → n ≤ length front → stays_by (take n (front ++ Closes ∷ rest)) ≡ true
stays_before front rest n h l = ap stays_by (take-append-le n front (Closes ∷ rest) l) ∙ stays_open front 0 n h

stays_not : (front rest : List Mark) (k n : ℕ) → LeavesOpen front 0 → n ≡ length front + suc k → stays_by (take n (front ++ Closes ∷ rest)) ≡ false
stays_not front rest k n h q = grind (arith, common_steps, take-append-add front (Closes ∷ rest) (suc k), some_closed (closed_by (front ++ Closes ∷ take k rest)) (omega arith)) steps 200000

active_open : (marks : List Mark) (from at d : ℕ) → LeavesOpen (drop (suc from) marks) d → stays_by (slice_range marks (from + 1) at) ≡ true
active_open marks from at d h = grind (arith, common_steps, stays_open (drop (suc from) marks) d (at - suc from) h) steps 200000

active_ended : (marks : List Mark) (from at end : ℕ) → from < at → StandsEnded (drop (suc from) marks) from end → stays_by (slice_range marks (from + 1) at) ≡ leb at end
active_ended marks from at end l s =
    let q : suc from ≡ from + 1 = omega arith in
    subst (λ n. stays_by (take (at - n) (drop n marks)) ≡ leb at end) q (subst (λ w. stays_by (take (at - suc from) w) ≡ leb at end) (sym s.parts) (by_order (dec_lt end at))) where
      by_order : Dec (end < at) → stays_by (take (at - suc from) (s.front ++ Closes ∷ s.rest)) ≡ leb at end
      by_order (yes a) = (stays_not s.front s.rest (at - suc end) (at - suc from) s.leaves (omega arith) ∙ sym (lt-leb at end a))
      by_order (no a) = (stays_before s.front s.rest (at - suc from) s.leaves (omega arith) ∙ sym (le-leb at end (omega arith)))

-- an entry more among the ends
pub entered_marks : (ends more : List (Option ℕ)) (blocks : List ℕ) → ((block : ℕ) → end_of_block more block ≡ end_of_block ends block) → marks_from more 0 0 blocks ≡ marks_from ends 0 0 blocks
entered_marks ends more blocks h = marks_same ends more 0 0 blocks (λ block n l. ap (λ end. is_at end n) (h block))

-- one more mark after an item
more_ended : (behind : List Mark) (mark : Mark) (item end : ℕ) → StandsEnded behind item end → StandsEnded (behind ++ mark ∷ []) item end
more_ended behind mark item end s = grind (arith, common_steps) steps 200000

stand_more : (old stack : List ℕ) (behind : List Mark) (mark : Mark) (block item : ℕ) (end : Option ℕ) → Stands old behind block item end
    → (StandsOpen old behind block → StandsOpen stack (behind ++ mark ∷ []) block) → Stands stack (behind ++ mark ∷ []) block item end
stand_more old stack behind mark block item end s f = grind (arith, common_steps) steps 200000

-- the blocks of all items, if those of the earlier ones are known
stands_all : (blocks : List ℕ) (ends : List (Option ℕ)) (outer : List ℕ) (next : ℕ) (marks : List Mark) (mark : Mark) → length marks ≡ length blocks → end_of_block ends next ≡ None
    → ((item block : ℕ) → slice_get blocks item ≡ Some block → Stands (outer ++ next ∷ []) (drop (suc item) marks ++ mark ∷ []) block item (end_of_block ends block)) → (item block : ℕ) → slice_get (blocks ++ next ∷ []) item ≡ Some block
    → Stands (outer ++ next ∷ []) (drop (suc item) (marks ++ mark ∷ [])) block item (end_of_block ends block)
stands_all blocks ends outer next marks mark count e h =
    each_more (λ item block. Stands (outer ++ next ∷ []) (drop (suc item) (marks ++ mark ∷ [])) block item (end_of_block ends block)) blocks next
    (λ item block there. let l = slice_get_within blocks item block there in
    subst (λ behind. Stands (outer ++ next ∷ []) behind block item (end_of_block ends block)) (sym (drop-append-le (suc item) marks (mark ∷ []) (omega arith)))
    (h item block there))
    (grind (
      arith,
      common_steps,
      length_push outer next,
      get_last outer next (length outer) refl,
      let p = length_push marks mark in
          drop_all (suc (length blocks)) (marks ++ mark ∷ []) (omega arith),
    ) steps 200000)

-- no number is there twice in a list
abbrev pub IsDistinct : List ℕ → Type 0
IsDistinct xs = (one other x : ℕ) → slice_get xs one ≡ Some x → slice_get xs other ≡ Some x → one ≡ other

-- an item that neither begins nor ends a block
passed : (blocks : List ℕ) (ends : List (Option ℕ)) (outer : List ℕ) (current : ℕ) (marks : List Mark) → length marks ≡ length blocks
    → AreBlocks blocks ends outer current marks → AreBlocks (blocks ++ current ∷ []) ends outer current (marks ++ Neither ∷ [])
passed blocks ends outer current marks count k = record {
  stand =
      stands_all blocks ends outer current marks Neither count (k.unended (length outer) current (get_last outer current (length outer) refl))
      (λ item block there. grind (arith, common_steps, k.stand item block there, stand_more) steps 200000);
  unended = k.unended;
  distinct = k.distinct;
  numbered = k.numbered;
  newest = k.newest;
  last = last_push 0 blocks current;
}

pub passed_marks : (blocks : List ℕ) (ends : List (Option ℕ)) (outer : List ℕ) (current : ℕ) (marks : List Mark) → AreBlocks blocks ends outer current marks → marks_from ends 0 0 (blocks ++ current ∷ []) ≡ marks_from ends 0 0 blocks ++ Neither ∷ []
passed_marks blocks ends outer current marks k =
    marks_push ends 0 0 blocks current (length blocks) (omega arith) ∙ ap (λ m. marks_from ends 0 0 blocks ++ m ∷ [])
    (grind (
      arith,
      common_steps,
      eq-eqb current current refl,
      k.last,
      k.unended (length outer) current (get_last outer current (length outer) refl),
    ) steps 200000)

-- an item that begins a block
pub begun : (blocks : List ℕ) (ends : List (Option ℕ)) (outer : List ℕ) (current next : ℕ) (marks : List Mark) → length marks ≡ length blocks → current < length ends → next ≡ length ends → AreBlocks blocks ends outer current marks
    → AreBlocks (blocks ++ next ∷ []) ends (outer ++ current ∷ []) next (marks ++ Opens ∷ [])
begun blocks ends outer current next marks count l q k = record {
  stand = stands_all blocks ends (outer ++ current ∷ []) next marks Opens count (end_of_past ends next (omega arith)) earlier;
  unended = each_more (λ level block. end_of_block ends block ≡ None) (outer ++ current ∷ []) next k.unended (end_of_past ends next (omega arith));
  distinct = (λ one other x a1 b. grind (arith, common_steps, get_cases) steps 200000);
  numbered = each_more (λ level block. block < length ends) outer current k.numbered l;
  newest = omega arith;
  last = last_push 0 blocks next;
}
  where
    earlier : (item block : ℕ) → slice_get blocks item ≡ Some block → Stands ((outer ++ current ∷ []) ++ next ∷ []) (drop (suc item) marks ++ Opens ∷ []) block item (end_of_block ends block)
    earlier item block there = stand_more (outer ++ current ∷ []) ((outer ++ current ∷ []) ++ next ∷ []) (drop (suc item) marks) Opens block item (end_of_block ends block) (k.stand item block there) (λ s. record {
      level = s.level;
      there = get_front (outer ++ current ∷ []) next block s.level s.there;
      leaves = grind (arith, common_steps, length_push, slice_get_within, one_less) steps 200000;
    })

pub begun_marks : (blocks : List ℕ) (ends : List (Option ℕ)) (outer : List ℕ) (current next : ℕ) (marks : List Mark) → current < length ends
    → next ≡ length ends → AreBlocks blocks ends outer current marks → marks_from ends 0 0 (blocks ++ next ∷ []) ≡ marks_from ends 0 0 blocks ++ Opens ∷ []
begun_marks blocks ends outer current next marks l q k =
    grind (
      arith,
      common_steps,
      marks_push ends 0 0 blocks next (length blocks) (omega arith),
      k.unended (length outer) current (get_last outer current (length outer) refl),
      ne_eqb,
    ) steps 500000

-- what is left of the outer blocks when the innermost one ends, and the block that is innermost then
abbrev pub Popped : List ℕ → List ℕ → ℕ → ℕ → Type 0
Popped outer rest next fresh = (outer ≡ rest ++ next ∷ []) ⊎ ((outer ≡ []) × (rest ≡ []) × (next ≡ fresh))

pub popped_is : (outer rest : List ℕ) (next fresh : ℕ) (popped : Option ℕ) → outer ≡ rest ++ option_to_list popped → (0 < length outer → IsSome popped) → next ≡ unwrap_or popped fresh → Popped outer rest next fresh
popped_is outer rest next fresh popped e v q = grind (arith, common_steps) steps 200000

no_element : (level block : ℕ) → slice_get [] level ≡ Some block → ⊥
no_element level block there = cc

-- an open block that is not the innermost is where it was
stays_put : (outer rest : List ℕ) (next fresh level block : ℕ) → Popped outer rest next fresh → slice_get outer level ≡ Some block → (slice_get (rest ++ next ∷ []) level ≡ Some block) × (length (rest ++ next ∷ []) ≡ length outer)
stays_put outer rest next fresh level block h there = grind (arith, common_steps) steps 200000

-- an open block was among the outer ones, or is the only one, and new
stood_there : (outer rest : List ℕ) (next fresh level block : ℕ) → Popped outer rest next fresh → slice_get (rest ++ next ∷ []) level ≡ Some block → (slice_get outer level ≡ Some block) ⊎ ((outer ≡ []) × (level ≡ 0) × (block ≡ fresh))
stood_there outer rest next fresh level block h there = grind (arith, common_steps) steps 200000

-- the ends after an item that ends a block
abbrev pub closing : List (Option ℕ) → ℕ → ℕ → List (Option ℕ)
closing ends block item = set ends block (Some item)

end_of_closed : (ends : List (Option ℕ)) (block item : ℕ) → block < length ends → end_of_block (closing ends block item) block ≡ Some item
end_of_closed ends block item l = get_or-set_same ends block (Some item) None l

end_of_other : (ends : List (Option ℕ)) (block item other : ℕ) → other ≢ block → end_of_block (closing ends block item) other ≡ end_of_block ends other
end_of_other ends block item other n = get_or-set_other ends block other (Some item) None n

same_or_not : (a b : ℕ) → (a ≡ b) ⊎ (a ≢ b)
same_or_not a b = grind (arith, common_steps, dec_lt a b, dec_lt b a) steps 200000

-- an item that ends a block
module _ (blocks : List ℕ) (ends : List (Option ℕ)) (outer rest : List ℕ) (current next : ℕ) (marks : List Mark) (l : current < length ends) (p : Popped outer rest next (length ends)) (k : AreBlocks blocks ends outer current marks) where
  innermost : end_of_block ends current ≡ None
  innermost = k.unended (length outer) current (get_last outer current (length outer) refl)

  outer_open : (level block : ℕ) → slice_get outer level ≡ Some block → end_of_block (closing ends current (length blocks)) block ≡ None
  outer_open level block there =
      end_of_other ends current (length blocks) block (λ e. let w = slice_get_within outer level block there in
      let q =
      k.distinct level (length outer) block (get_front outer current block level there) (get_last outer current (length outer) refl ∙ ap Some (sym e)) in
      omega arith)
      ∙ k.unended level block (get_front outer current block level there)

  ended_unended : (level block : ℕ) → slice_get (rest ++ next ∷ []) level ≡ Some block → end_of_block (closing ends current (length blocks)) block ≡ None
  ended_unended level block there = elim (stood_there outer rest next (length ends) level block p there) [
    | inl h ↦ outer_open level block h
    | inr h ↦ end_of_past (closing ends current (length blocks)) block (omega (arith, h.2, length-set ends current (Some (length blocks))))
  ]

  ended_distinct : (one other block : ℕ) → slice_get (rest ++ next ∷ []) one ≡ Some block → slice_get (rest ++ next ∷ []) other ≡ Some block → one ≡ other
  ended_distinct one other block a b =
      grind (
        arith,
        common_steps,
        stood_there outer rest next (length ends) one block p a,
        stood_there outer rest next (length ends) other block p b,
        k.distinct one other block,
        get_front,
        no_element,
      ) steps 200000

  ended_numbered : (level block : ℕ) → slice_get rest level ≡ Some block → block < length ends
  ended_numbered level block there = elim p [
    | inl e ↦ k.numbered level block (subst (λ w. slice_get w level ≡ Some block) (sym e) (get_front rest next block level there))
    | inr e ↦ absurd (no_element level block (subst (λ w. slice_get w level ≡ Some block) (e.1) there))
  ]

  ended_newest : next ≤ length ends
  ended_newest = grind (arith, common_steps, get_last rest next (length rest) refl) steps 200000

  -- the block of an earlier item ended, or ends now, or is open
  ended_block : (count : length marks ≡ length blocks) (item block : ℕ) (end : Option ℕ) → item < length blocks → end_of_block ends block ≡ end → Stands (outer ++ current ∷ []) (drop (suc item) marks) block item end
      → Stands (rest ++ next ∷ []) (drop (suc item) marks ++ Closes ∷ []) block item (end_of_block (closing ends current (length blocks)) block)
  ended_block count item block (Some end) w e s =
      let n : block ≢ current = λ q. (cc (innermost, e)) in
      subst (λ o. Stands (rest ++ next ∷ []) (drop (suc item) marks ++ Closes ∷ []) block item o) (sym (end_of_other ends current (length blocks) block n ∙ e)) (more_ended (drop (suc item) marks) Closes item end s)
  ended_block count item block None w e s = by_cases (get_cases outer current block s.level s.there)
    where
      by_cases : ((slice_get outer s.level ≡ Some block) ⊎ ((s.level ≡ length outer) × (current ≡ block))) → Stands (rest ++ next ∷ []) (drop (suc item) marks ++ Closes ∷ []) block item (end_of_block (closing ends current (length blocks)) block)
      by_cases (inl h) =
          let put = stays_put outer rest next (length ends) s.level block p h in
          let within = slice_get_within outer s.level block h in
          let long = length_push outer current in
          subst (λ o. Stands (rest ++ next ∷ []) (drop (suc item) marks ++ Closes ∷ []) block item o) (sym (outer_open s.level block h)) (record {
            level = s.level;
            there = put.0;
            leaves = leaves_less (drop (suc item) marks) (length (outer ++ current ∷ []) - suc s.level) (length (rest ++ next ∷ []) - suc s.level) (omega arith) s.leaves;
          })
      by_cases (inr h) =
          let long = length_push outer current in
          let q : length (outer ++ current ∷ []) - suc s.level ≡ 0 = omega arith in
          let behind = length-drop (suc item) marks in
          subst (λ o. Stands (rest ++ next ∷ []) (drop (suc item) marks ++ Closes ∷ []) block item o) (sym (ap (λ b. end_of_block (closing ends current (length blocks)) b) (sym (h.1)) ∙ end_of_closed ends current (length blocks) l)) (record {
            front = drop (suc item) marks;
            rest = [];
            parts = refl;
            number = omega arith;
            leaves = subst (λ n. LeavesOpen (drop (suc item) marks) n) q s.leaves;
          })

  ended : length marks ≡ length blocks → AreBlocks (blocks ++ next ∷ []) (closing ends current (length blocks)) rest next (marks ++ Closes ∷ [])
  ended count = record {
    stand = stands_all blocks (closing ends current (length blocks)) rest next marks Closes count (ended_unended (length rest) next (get_last rest next (length rest) refl))
        (λ item block there. ended_block count item block (end_of_block ends block) (slice_get_within blocks item block there) refl (k.stand item block there));
    unended = ended_unended;
    distinct = ended_distinct;
    numbered = λ level block there. omega (arith, ended_numbered level block there, length-set ends current (Some (length blocks)));
    newest = omega (arith, ended_newest, length-set ends current (Some (length blocks)));
    last = last_push 0 blocks next;
  }

  same_before : (block n : ℕ) → n < 0 + length blocks → is_at (end_of_block (closing ends current (length blocks)) block) n ≡ is_at (end_of_block ends block) n
  same_before block n w = grind (arith, common_steps, end_of_closed, end_of_other, innermost, ne_eqb, same_or_not) steps 200000

  pub ended_marks : marks_from (closing ends current (length blocks)) 0 0 (blocks ++ next ∷ []) ≡ marks_from ends 0 0 blocks ++ Closes ∷ []
  ended_marks =
      marks_push (closing ends current (length blocks)) 0 0 blocks next (length blocks) (omega arith) ∙ ap (λ m. marks_from (closing ends current (length blocks)) 0 0 blocks ++ m ∷ []) (mark_closes (last_block 0 blocks) k.last)
      ∙ ap (λ w. w ++ Closes ∷ []) (marks_same ends (closing ends current (length blocks)) 0 0 blocks same_before)
    where
      mark_closes : (before : ℕ) → before ≡ current → mark_between (closing ends current (length blocks)) (length blocks) before next ≡ Closes
      mark_closes before e = ap (λ end. cond (is_at end (length blocks)) Closes (cond (before == next) Neither Opens)) (ap (λ b. end_of_block (closing ends current (length blocks)) b) e ∙ end_of_closed ends current (length blocks) l)
          ∙ ap (λ w. cond w Closes (cond (before == next) Neither Opens)) (eq-eqb (length blocks) (length blocks) refl)

pub kept_moved : (blocks others : List ℕ) (ends more : List (Option ℕ)) (outer around : List ℕ) (current begun ended : ℕ) → others ≡ blocks → more ≡ ends
    → around ≡ outer → AreBlockEndsKept blocks ends outer current begun ended → AreBlockEndsKept others more around current begun ended
kept_moved blocks others ends more outer around current begun ended a b d k = grind (arith, common_steps, begun) steps 200000

pub kept_entered : (blocks : List ℕ) (ends more : List (Option ℕ)) (outer : List ℕ) (current begun ended : ℕ)
    → ((block : ℕ) → end_of_block more block ≡ end_of_block ends block) → length ends ≤ length more → AreBlockEndsKept blocks ends outer current begun ended
    → AreBlockEndsKept blocks more outer current begun ended
kept_entered blocks ends more outer current begun ended h l k = grind (arith, common_steps, entered_marks) steps 200000

pub same_count : (test : Mark → Bool) (marks more : List Mark) (mark : Mark) (n m : ℕ) → more ≡ marks ++ mark ∷ [] → n ≡ count_by test marks → m ≡ n + cond (test mark) 1 0 → m ≡ count_by test more
same_count test marks more mark n m e q r = r ∙ ap (λ w. w + cond (test mark) 1 0) q ∙ sym (sum_by_push (λ m. cond (test m) 1 0) marks mark) ∙ ap (count_by test) (sym e)

pub kept_passed : (blocks : List ℕ) (ends : List (Option ℕ)) (outer : List ℕ) (current begun ended : ℕ) → AreBlockEndsKept blocks ends outer current begun ended → AreBlockEndsKept (blocks ++ current ∷ []) ends outer current begun ended
kept_passed blocks ends outer current begun ended k =
    let marks = marks_from ends 0 0 blocks in
    let more = passed_marks blocks ends outer current marks k.are_blocks in
    record {
      are_blocks = subst (λ w. AreBlocks (blocks ++ current ∷ []) ends outer current w) (sym more) (passed blocks ends outer current marks (length_marks ends 0 0 blocks) k.are_blocks);
      begun_is = same_count opens marks _ Neither begun begun more k.begun_is (omega arith);
      ended_is = same_count closes marks _ Neither ended ended more k.ended_is (omega arith);
    }

pub kept_ended : (blocks : List ℕ) (ends : List (Option ℕ)) (outer rest : List ℕ) (current next begun ended : ℕ) → current < length ends → Popped outer rest next (length ends) → AreBlockEndsKept blocks ends outer current begun ended
    → AreBlockEndsKept (blocks ++ next ∷ []) (closing ends current (length blocks)) rest next begun (ended + 1)
kept_ended blocks ends outer rest current next begun ended_count l p k =
    let marks = marks_from ends 0 0 blocks in
    let more = ended_marks blocks ends outer rest current next marks l p k.are_blocks in
    record {
      are_blocks = subst (λ w. AreBlocks (blocks ++ next ∷ []) (closing ends current (length blocks)) rest next w) (sym more) (ended blocks ends outer rest current next marks l p k.are_blocks (length_marks ends 0 0 blocks));
      begun_is = same_count opens marks _ Closes begun begun more k.begun_is (omega arith);
      ended_is = same_count closes marks _ Closes ended_count (ended_count + 1) more k.ended_is refl;
    }

-- there are as many items as marks
pub marks_count : (ends : List (Option ℕ)) (blocks : List ℕ) (marks : List Mark) → marks_from ends 0 0 blocks ≡ marks → length marks ≡ length blocks
marks_count ends blocks marks e = sym (ap length e) ∙ length_marks ends 0 0 blocks

-- what comes after an item before another
pub behind_before : (marks : List Mark) (from at end : ℕ) → end ≡ min at (length marks) → from < end → slice_range marks (from + 1) end ≡ drop (suc from) (take at marks)
behind_before marks from at end e l = grind (arith, common_steps, drop-take (from + 1) (end - (from + 1)) marks, take_min at marks) steps 200000

pub before_none : (marks : List Mark) (from at end : ℕ) → end ≡ min at (length marks) → end ≤ from → stays_by (drop (suc from) (take at marks)) ≡ true
before_none marks from at end e l = let c = length-take at marks in ap stays_by (drop_all (suc from) (take at marks) (omega arith))

-- an item whose block is open is active, and one whose block has ended is active up to the end
pub is_active_open : (blocks : List ℕ) (ends : List (Option ℕ)) (outer : List ℕ) (current begun ended from at block : ℕ)
    → AreBlockEndsKept blocks ends outer current begun ended → from < length blocks → block ≡ get_or blocks from block → end_of_block ends block ≡ None
    → stays_by (slice_range (marks_from ends 0 0 blocks) (from + 1) at) ≡ true
is_active_open blocks ends outer current begun ended from at block k l there e =
    let s : StandsOpen (outer ++ current ∷ []) (drop (suc from) (marks_from ends 0 0 blocks)) block = subst (λ end. Stands (outer ++ current ∷ []) (drop (suc from) (marks_from ends 0 0 blocks)) block
    from end) e (k.are_blocks.stand from block (slice_get-get_or blocks from block l ∙ ap Some (sym there))) in
    grind (arith, common_steps, active_open (marks_from ends 0 0 blocks) from at (length (outer ++ current ∷ []) - suc s.level) s.leaves) steps 200000

pub is_active_ended : (blocks : List ℕ) (ends : List (Option ℕ)) (outer : List ℕ) (current begun ended from at block end : ℕ)
    → AreBlockEndsKept blocks ends outer current begun ended → from < at → from < length blocks → block ≡ get_or blocks from block
    → end_of_block ends block ≡ Some end
    → stays_by (slice_range (marks_from ends 0 0 blocks) (from + 1) at) ≡ leb at end
is_active_ended blocks ends outer current begun ended from at block end k f l there e =
    grind (arith, common_steps, k.are_blocks.stand from block (slice_get-get_or blocks from block l ∙ ap Some (sym there)), active_ended) steps 200000

-- what a push that went well made
pub pushed : {X E : Type 0} (result : Result (Unit {0}) E) (done : Unit {0}) (new whole old : List X) → result ≡ Ok done → new ≡ cond (is_ok result) whole old → new ≡ whole
pushed result done new whole old e n = n ∙ ap (λ r. cond (is_ok r) whole old) e
