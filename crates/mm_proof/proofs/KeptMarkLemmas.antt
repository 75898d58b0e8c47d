-- What stays of an item of an old base in a new one.
use Rattle.std.proofs.lemmas.{Grind.{common_steps}, Bool.{false≢true, and_parts}, Option.{same_Some, slice_get-get_or, slice_get_cases, slice_get_within, get_or_from_slice_get}}
use Rattle.std.proofs.lemmas.List.{get_or_push, get_or_append_left}
use Rattle.std.proofs.Common.{◌≡◌, ◌<◌, ℕ, suc, cond, slice_index_or, ◌+◌, Bool, true, false, ◌⊎◌, inl, inr, Option, Some, None, List, [], ◌∷◌, ◌++◌, length, map, slice_get, refl, sym, ◌∙◌, ap, subst}
use Rattle.std.{proofs.{Common.{arith, length-append}, Math.Decide.{ℕ_discrete}}, specs.Prelude.{◌↔◌, is_some}}
use Rattle.mm_frame.specs.{Language.{Base.{BaseView, said_at, is_shown_at}, Resolving.{IsCarrier}, Answering.{IsBaseBy}}, mm_machine.Language.Frame.{Symbol, AreSamePairs}, declared.base.Base.{Base}}
use Rattle.mm_proof.specs.{Language.BaseMarks.{ItemMark, MarksView, IsMark, HaveOneLabel, KeepsLabels, AreMarks, no_mark, mark_at}, Code.InStep.{changed_behind}}
use Rattle.mm_proof.specs.Code.KeptMarks.{AreTheorems, ShareFrame, SharePairs, AreItemMarks, IsHypothesisMark, AreHypothesisMarks}
use Rattle.mm_proof.specs.declared.mark.Mark as code

-- the same unordered pairs, the other way round and one after the other
pub turned : (ps qs : List (Symbol × Symbol)) → AreSamePairs ps qs → AreSamePairs qs ps
turned ps qs h x y = ((h x y).1, (h x y).0)

pub joined : (ps qs rs : List (Symbol × Symbol)) → AreSamePairs ps qs → AreSamePairs qs rs → AreSamePairs ps rs
joined ps qs rs h k x y = (λ p. (k x y).0 ((h x y).0 p), λ r. (h x y).1 ((k x y).1 r))

-- an item with a label is one of the items
pub shown_within : (view : BaseView) (i : ℕ) → is_shown_at view i ≡ true → i < length view
shown_within view i e = grind (arith, common_steps, and_parts, false≢true) steps 200000

got : {X : Type 0} (xs : List X) (n : ℕ) → n < length xs → (x : X) × (slice_get xs n ≡ Some x)
got xs n l = elim (slice_get_cases xs n).1 [ inl t ↦ (t.0, t.2) | inr past ↦ absurd (let long = past.0 in omega (arith, long, l)) ]

some_there : {X : Type 0} (o : Option X) → is_some o ≡ true → (x : X) × (o ≡ Some x)
some_there o e = grind (arith, common_steps) steps 200000

-- it has a label
pub shown_label : (names : List (List ℕ)) (view : BaseView) (code : Base) (i : ℕ) → IsBaseBy names view code → is_shown_at view i ≡ true → (label : List ℕ) × ((said_at view i).label ≡ Some label)
shown_label names view code i is e = grind (arith, common_steps, and_parts, got, shown_within, some_there) steps 200000

-- it is the item of the old base that carries the label
pub one_label : (base copy : BaseView) (i j : ℕ) (label : List ℕ) → is_shown_at copy j ≡ true → (said_at copy j).label ≡ Some label → IsCarrier base label i ↔ HaveOneLabel base copy i j
one_label base copy i j label shown e = grind (arith, common_steps, shown_within) steps 200000

-- the item is shown exactly when an expression is reported
pub none_shown : (b : Bool) (e : List Symbol) → None ≡ cond b (Some e) None → b ≡ true → ⊥
none_shown true e n t = cc
none_shown false e n t = false≢true t

pub some_shown : (b : Bool) (e d : List Symbol) → Some d ≡ cond b (Some e) None → b ≡ true
some_shown true e d n = refl
some_shown false e d n = cc

-- nothing is found exactly when there is nothing
pub no_number : (found : Option ℕ) (i : ℕ) (P : Type 0) → found ≡ None → (P → ⊥) → (found ≡ Some i) ↔ P
no_number found i P e none = (λ h. cc, λ p. absurd (none p))

-- nothing stays of an item whose label no old one has
pub nothing_kept : (base copy : BaseView) (j : ℕ) → ((i : ℕ) → HaveOneLabel base copy i j → ⊥) → IsMark base copy j no_mark
nothing_kept base copy j none = grind (arith, false≢true) steps 200000

-- what stays of one whose label an old one has
pub some_kept :
    (base copy : BaseView) (i j : ℕ) (frame pairs : Bool) → ((k : ℕ) → ((Some i ≡ Some k) ↔ HaveOneLabel base copy k j)) → (frame ≡ true) ↔ ShareFrame base copy i j →
    (pairs ≡ true) ↔ (AreTheorems base copy i j × SharePairs base copy i j) → IsMark base copy j (record { old = Some i; frame = frame; pairs = pairs; in_step = false })
some_kept base copy i j frame pairs old f p = record {
  old_is = old;
  frame_is = (
    λ e. (let s = f.0 e in record { i = i; one_label = (old i).0 refl; was = s.was; is = s.is; same = s.same }),
    λ k. f.1 (subst (λ (n : ℕ). ShareFrame base copy n j) (same_Some k.i i (sym ((old k.i).1 k.one_label))) (record { was = k.was; is = k.is; same = k.same })),
  );
  pairs_is = (
    λ e. (let s = p.0 e in record { i = i; one_label = (old i).0 refl; was = s.0.was; is = s.0.is; same = s.1 }),
    λ k. p.1 (subst (λ (n : ℕ). AreTheorems base copy n j × SharePairs base copy n j) (same_Some k.i i (sym ((old k.i).1 k.one_label))) (record { was = k.was; is = k.is }, k.same)),
  );
}

-- one more mark
pub marked_more :
    (base copy : BaseView) (n : ℕ) (marks : List ItemMark) (changed : List ℕ) (mark : ItemMark) → AreItemMarks base copy n (record { items = marks; changed = changed }) →
    IsMark base copy n mark → (mark.in_step ≡ true → KeepsLabels base copy changed n) → AreItemMarks base copy (n + 1) (record { items = marks ++ mark ∷ []; changed = changed })
marked_more base copy n marks changed mark are is keeps = record {
  count_is = length-append marks (mark ∷ []) ∙ ap (λ k. k + 1) are.count_is;
  each = λ j l. elim (ℕ_discrete j n) [
    | yes e ↦ subst (λ m. IsMark base copy j m) (sym (here j e)) (subst (λ k. IsMark base copy k mark) (sym e) is)
    | no other ↦ subst (λ m. IsMark base copy j m) (sym (front j l other)) (are.each j (omega (arith, l, other)))
  ];
  in_step = λ j l t. elim (ℕ_discrete j n) [
    | yes e ↦ subst (KeepsLabels base copy changed) (sym e) (keeps (sym (ap (λ (m : ItemMark). m.in_step) (here j e)) ∙ t))
    | no other ↦ are.in_step j (omega (arith, l, other)) (sym (ap (λ (m : ItemMark). m.in_step) (front j l other)) ∙ t)
  ];
}
  where
    here : (j : ℕ) → j ≡ n → mark_at (record { items = marks ++ mark ∷ []; changed = changed }) j ≡ mark
    here j e = subst (λ k. slice_index_or (marks ++ mark ∷ []) k no_mark ≡ mark) (are.count_is ∙ sym e) (get_or_push marks mark no_mark (length marks) refl)

    front : (j : ℕ) → j < n + 1 → (j ≡ n → ⊥) → mark_at (record { items = marks ++ mark ∷ []; changed = changed }) j ≡ mark_at (record { items = marks; changed = changed }) j
    front j l other = get_or_append_left marks (mark ∷ []) no_mark j (omega (arith, l, other, are.count_is))

-- what is listed first is still listed if more is
pub got_front : (xs ys : List ℕ) (n x : ℕ) → slice_get xs n ≡ Some x → slice_get (xs ++ ys) n ≡ Some x
got_front xs ys n x e =
    let l = slice_get_within xs n x e in
    slice_get-get_or (xs ++ ys) n x (omega (arith, length-append xs ys)) ∙ ap Some (get_or_append_left xs ys x n l ∙ get_or_from_slice_get xs n x x e)

-- then less is said of labels
keeps_less : (base copy : BaseView) (changed more : List ℕ) (j : ℕ) → KeepsLabels base copy changed j → KeepsLabels base copy (changed ++ more) j
keeps_less base copy changed more j keeps i h label unchanged =
    keeps i h label (λ t. unchanged (record { m = t.m; place = t.place; told = got_front changed more t.place t.m t.told; earlier = t.earlier; label_is = t.label_is }))

marked_less :
    (base copy : BaseView) (n : ℕ) (marks : List ItemMark) (changed more : List ℕ) → AreItemMarks base copy n (record { items = marks; changed = changed }) →
    AreItemMarks base copy n (record { items = marks; changed = changed ++ more })
marked_less base copy n marks changed more are = grind (arith, are.in_step, keeps_less) steps 200000

pub marked_behind :
    (base copy : BaseView) (n : ℕ) (marks : List ItemMark) (changed : List ℕ) (j : ℕ) (here : Bool) → AreItemMarks base copy n (record { items = marks; changed = changed }) →
    AreItemMarks base copy n (record { items = marks; changed = changed_behind changed j here })
marked_behind base copy n marks changed j true are = marked_less base copy n marks changed (j ∷ []) are
marked_behind base copy n marks changed j false are = are

-- all are marked
pub all_marked : (base copy : BaseView) (n : ℕ) (marks : MarksView) → AreItemMarks base copy n marks → n ≡ length copy → AreMarks base copy marks
all_marked base copy n marks are e = grind arith steps 200000

-- marks that say nothing, and one more
got_last : {X : Type 0} (xs : List X) (y z : X) (m : ℕ) → slice_get (xs ++ y ∷ []) m ≡ Some z → (slice_get xs m ≡ Some z) ⊎ ((m ≡ length xs) × (y ≡ z))
got_last xs y z m e =
    let long = length-append xs (y ∷ []) in
    let at = get_or_from_slice_get (xs ++ y ∷ []) m z z e in
    let within = slice_get_within (xs ++ y ∷ []) m z e in
    grind (arith, common_steps, get_or_append_left xs (y ∷ []) z m, get_or_push xs y z m, long, same_Some, within, at, slice_get-get_or xs m z) steps 200000

pub kept_more : (old new : Base) (marks : List code.Mark) (mark : code.Mark) (n : ℕ) → length marks ≡ n → AreHypothesisMarks old new marks → IsHypothesisMark old new n mark → AreHypothesisMarks old new (marks ++ mark ∷ [])
kept_more old new marks mark n count are is m other e = elim (got_last marks mark other m e) [
  | inl g ↦ are m other g
  | inr p ↦ subst (λ (w : code.Mark). IsHypothesisMark old new m w) p.1 (subst (λ k. IsHypothesisMark old new k mark) (sym (p.0 ∙ count)) is)
]

-- two lists agree in this many elements, by these functions
abbrev pub AreSameTo : {X : Type 0} → (ℕ → X) → (ℕ → X) → List ℕ → List ℕ → ℕ → Type 0
AreSameTo {X} f g xs ys k = (m x y : ℕ) → m < k → slice_get xs m ≡ Some x → slice_get ys m ≡ Some y → f x ≡ g y

pub same_more : {X : Type 0} (f g : ℕ → X) (xs ys : List ℕ) (k x y : ℕ) → AreSameTo f g xs ys k → slice_get xs k ≡ Some x → slice_get ys k ≡ Some y → f x ≡ g y → AreSameTo f g xs ys (k + 1)
same_more {X} f g xs ys k x y h p q e n v w b c d = grind (arith, common_steps, same_Some) steps 200000

pub same_whole : {X : Type 0} (f g : ℕ → X) (xs ys : List ℕ) → AreSameTo f g xs ys (length xs) → length xs ≡ length ys → map f xs ≡ map g ys
same_whole f g [] [] h l = refl
same_whole f g (x ∷ xs) (y ∷ ys) h l =
    let a = h 0 x y (omega arith) refl refl in
    λ i. a i ∷ (same_whole f g xs ys (λ m v w n c d. h (suc m) v w (omega (arith, n)) c d) (omega (arith, l))) i
same_whole f g _ _ h l = absurd (omega (arith, l))
