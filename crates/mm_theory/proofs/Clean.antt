-- In a session without a wrong and without an incomplete proof each assertion is provable.
use Rattle.std.proofs.lemmas.{Grind.{common_steps}, Bool.{false≢true, and_parts}, Option.{slice_get-get_or}, List.{length-map, Sums.{length-filter}}}
use Rattle.std.proofs.Common.{◌≡◌, ◌<◌, ◌≤◌, ℕ, zero, suc, Bool, true, false, cond, Some, List, [], ◌∷◌, refl, sym, ap, ◌∙◌, subst, arith, Contains, length, slice_get, get_or, is_none}
use Rattle.std.specs.Prelude.{count_by, filter}
use Rattle.mm_frame.specs.{mm_store.Language.FilesView.{File}, mm_statement.Language.{Database.{Located}, Item.{Kind, Axiom, is_assertion, is_kind, Theorem}, Laws.{FilesHaveOneDatabase}}}
use Rattle.mm_frame.specs.Language.Base.{base_of, said_at, is_sound_at, is_proof_at}
use Rattle.mm_keep.specs.{mm_verdict.Language.VerdictAt.{IsVerdictAt}, Language.Laws.{ChainsLeadBack}}
use Rattle.mm_keep.specs.Language.Told.{Told, Quiet, AnAxiom, Proved, Incomplete, Wrong, Fault, IsRightlyTold, AreRightlyTold, Counts, is_wrong, is_incomplete}
use Rattle.mm_theory.{specs.Language.Laws.{ProvedIsProvable, CleanIsProvable}, proofs.Members.{here, there}}
use Rattle.mm_frame.specs.mm_machine.declared.Verdict.TheVariants as verdicts

-- none counted, none there
later : {X : Type 0} (b : Bool) (y : X) (ys : List X) (x : X) → Contains ys x → Contains (cond b (y ∷ ys) ys) x
later true y ys x c = there y ys x c
later false y ys x c = c

in_filter : {X : Type 0} (p : X → Bool) (xs : List X) (k : ℕ) (x : X) → slice_get xs k ≡ Some x → p x ≡ true → Contains (filter p xs) x
in_filter p [] k x e t = cc
in_filter p (y ∷ xs) zero x e t =
    let same : y ≡ x = cc in
    subst (λ (b : Bool). Contains (cond b (y ∷ filter p xs) (filter p xs)) x) (sym (ap p same ∙ t)) (subst (Contains (y ∷ filter p xs)) same (here y (filter p xs)))
in_filter p (y ∷ xs) (suc k) x e t = later (p y) y (filter p xs) x (in_filter p xs k x e t)

none_counted : {X : Type 0} (p : X → Bool) (xs : List X) (k : ℕ) (x : X) → count_by p xs ≡ 0 → slice_get xs k ≡ Some x → p x ≡ true → ⊥
none_counted p xs k x none e t = let c = in_filter p xs k x e t in omega (arith, c.1, length-filter p xs, none)

theorem_axiom : (k : Kind) → is_kind Theorem k ≡ true → k ≡ Axiom → ⊥
theorem_axiom k t e = false≢true (sym (ap (is_kind Theorem) e) ∙ t)

theorem_asserts : (k : Kind) → is_kind Theorem k ≡ true → is_assertion k ≡ true
theorem_asserts k t = grind (arith, common_steps) steps 200000

-- what is rightly reported of a theorem, where no proof is wrong or incomplete
told_proved : (files : List File) (items : List Located) (all : List Told) (k : ℕ) (one : Told) → count_by is_wrong all ≡ 0 → count_by is_incomplete all ≡ 0 → slice_get all k ≡ Some one
    → is_proof_at (base_of items) k ≡ true → IsRightlyTold files items k one → IsVerdictAt (base_of items) k verdicts.Proved
told_proved files items all k Quiet w n there t told =
    let kind = (said_at (base_of items) k).kind in
    let p = and_parts (is_sound_at (base_of items) k) (is_kind Theorem kind) t in absurd (false≢true (sym told.kind ∙ theorem_asserts kind p.1))
told_proved files items all k AnAxiom w n there t told =
    let kind = (said_at (base_of items) k).kind in
    let p = and_parts (is_sound_at (base_of items) k) (is_kind Theorem kind) t in absurd (theorem_axiom kind p.1 told.kind)
told_proved files items all k Proved w n there t told = told.is_verdict
told_proved files items all k (Incomplete at) w n there t told = absurd (none_counted is_incomplete all k (Incomplete at) n there refl)
told_proved files items all k (Wrong number at) w n there t told = absurd (none_counted is_wrong all k (Wrong number at) w there refl)
told_proved files items all k (Fault number shown) w n there t told =
    let p = and_parts (is_sound_at (base_of items) k) (is_kind Theorem (said_at (base_of items) k).kind) t in absurd (false≢true (sym (ap is_none told.fault) ∙ p.0))

pub clean_is_provable : FilesHaveOneDatabase → ChainsLeadBack → ProvedIsProvable → CleanIsProvable
clean_is_provable one back law session counted tally w n label numbers answer =
    let items = answer.0 in
    let base = base_of items in
    let i = answer.2.0 in
    let is = answer.2.1 in
    let those = answer.2.2 in
    let same : tally.items ≡ items = one session.files session.top tally.items items tally.of_files answer.1 in
    let told : AreRightlyTold session.files items tally.all = subst (λ (items : List Located). AreRightlyTold session.files items tally.all) same tally.are_told in
    let long : length tally.all ≡ length base = told.count ∙ sym (length-map items (λ (item : Located). item.said)) in
    let wrong : count_by is_wrong tally.all ≡ 0 = sym (ap (λ (c : Counts). c.wrong) tally.is) ∙ w in
    let incomplete : count_by is_incomplete tally.all ≡ 0 = sym (ap (λ (c : Counts). c.incomplete) tally.is) ∙ n in (
      items,
      answer.1,
      (
        i,
        is,
        law base i numbers is.framed
            (λ k a. (those.each k).1 (below k (back base i k a.leads) is.within, a))
            (λ k leads t. (let here = slice_get-get_or tally.all k Quiet (subst (λ m. k < m) (sym long) (below k (back base i k leads) is.within)) in
            told_proved session.files items tally.all k (get_or tally.all k Quiet) wrong incomplete here t (told.each k (get_or tally.all k Quiet) here))),
      ),
    )
  where
    below : (k : ℕ) {i m : ℕ} → k ≤ i → i < m → k < m
    below k a b = omega (arith, a, b)
