-- The machine and what is reached.
use Rattle.std.proofs.lemmas.{Grind.{common_steps}, List.{append-nil, same_from_push}}
use Rattle.std.{proofs.Common.{◌≡◌, ℕ, Option, Some, None, List, ◌∷◌, ◌++◌, length, refl, sym, ◌∙◌, ap, subst, arith, length-append, slice_get, []}, specs.{List.{AllZip}, Option.{option_map}}}
use Rattle.mm_machine.specs.Language.{Frame.{Symbol, Setting}, Derivation.{Derives, DeriveInOrder, nothing, first_then}, Typing.{HasFrames}, Steps.{Moves}}
use Rattle.mm_machine.specs.Language.{Expansion.{Step, Named, Saved, Save, NotKnown, Expanded, expand_one, expand_from, expansion, last_part}, Reaches.{Reaches}, Machine.{State, Turns}}
use Rattle.mm_machine.proofs.lemmas.{verdicts.{Joins.{join, alone, cut}, Unique.{go_on, last_of, same_stack}, Weights.{last_part_is}}, lists.Members.{last_element}}
use Rattle.mm_machine.proofs.lemmas.lists.Zips.{both_joined, flipped, zip_at}

-- one more step of an expansion
pub expand_more : (place : Setting) (x : Expanded) (so_far : Option Expanded) (steps : List Step) (step : Step) → expand_from place so_far steps ≡ Some x → expand_from place so_far (steps ++ step ∷ []) ≡ expand_one place x step
expand_more place x (Some s) [] step e = let f : s ≡ x = cc in ap (λ w. expand_one place w step) f
expand_more place x None [] step e = cc
expand_more place x (Some s) (y ∷ steps) step e = expand_more place x (expand_one place s y) steps step e
expand_more place x None (y ∷ steps) step e = cc

-- what the machine's state is after the steps
pub record Follows (place : Setting) (steps : List Step) (state : State) : Type 0 where
  pub expanded : Expanded
  pub expands : expansion place steps ≡ Some expanded
  pub in_order : DeriveInOrder place expanded.labels state.stack
  pub of_saved : AllZip (λ part e. Derives place part e) expanded.saved state.saved

-- a join of one
pub only : {place : Setting} {a : List (List ℕ)} {e : List Symbol} → DeriveInOrder place a (e ∷ []) → Derives place a e
only (first_then h nothing) = rw append-nil h

-- the list of the last entry
top_of : {place : Setting} {labels : List (List ℕ)} (below : List (List Symbol)) (e : List Symbol) (stack : List (List Symbol))
    → DeriveInOrder place labels stack → stack ≡ below ++ e ∷ [] → (part : List (List ℕ)) × Derives place part e × (last_part place labels ≡ Some part)
top_of {place} {labels} below e stack d is =
    let c = cut below (e ∷ []) stack d is in
    let one = only c.of_back in
    (c.back, one, ap (λ l. last_part place l) c.whole ∙ last_part_is place c.front c.back e one)

-- the machine goes on as the expansion does
pub follows_on : (place : Setting) (steps : List Step) (step : Step) (before after : State) → Follows place steps before → Turns place step before after → Follows place (steps ++ step ∷ []) after
follows_on place steps (Named label) before after f t = grind (arith, expand_more place f.expanded _ steps (Named label) f.expands, go_on label (place.resolve label) refl f.in_order t.0) steps 200000
follows_on place steps (Saved n) before after f t =
    let saved = flipped (λ part e. Derives place part e) (λ e part. Derives place part e) f.expanded.saved before.saved (λ part e d. d) f.of_saved in
    let at = zip_at (λ e part. Derives place part e) before.saved f.expanded.saved n t.0 saved t.1 in
    grind (arith, common_steps, expand_more place f.expanded _ steps (Saved n) f.expands, join, alone, at) steps 200000
follows_on place steps Save before after f t =
    grind (arith, common_steps, top_of t.0 t.1 before.stack f.in_order t.2, expand_more place f.expanded _ steps Save f.expands, both_joined) steps 200000
follows_on place steps NotKnown before after f t = absurd t

-- a join of no expressions is of no labels
pub no_stack : {place : Setting} {labels : List (List ℕ)} {stack : List (List Symbol)} → DeriveInOrder place labels stack → stack ≡ [] → labels ≡ []
no_stack nothing e = refl
no_stack (first_then h t) e = cc

-- what the machine's turn has to be, if something is reached
pub record Goes (place : Setting) (step : Step) (before : State) (next : List (List Symbol)) : Type 0 where
  pub after : State
  pub turns : Turns place step before after
  pub is_next : after.stack ≡ next

-- one stack for one list of labels
pub one_stack : (place : Setting) → HasFrames place → {a b : List (List ℕ)} (xs ys : List (List Symbol)) → a ≡ b → DeriveInOrder place a xs → DeriveInOrder place b ys → xs ≡ ys
one_stack place is {a = a} xs ys e d d' = same_stack place is (length a) xs ys (omega arith) e d d'

goes_label : (place : Setting) → HasFrames place → (label : List ℕ) (before : State) (next : List (List Symbol)) (labels : List (List ℕ))
    → DeriveInOrder place labels before.stack → DeriveInOrder place (labels ++ label ∷ []) next → Goes place (Named label) before next
goes_label place is label before [] labels d d' = grind (arith, common_steps, no_stack d' refl, length-append labels (label ∷ [])) steps 200000
goes_label place is label before (x ∷ xs) labels d d' =
    let l = last_of d' in
    let s = same_from_push labels l.labels label l.label l.whole in
    let P : List ℕ → List (List Symbol) → Type 0 = λ w k. Moves place.active (place.resolve w) k (x ∷ xs) in
    record {
      after = record before { stack = x ∷ xs };
      turns = (subst (λ w. P w before.stack) (sym s.1) (subst (P l.label) (one_stack place is l.stack before.stack (sym s.0) l.of_labels d) l.moves), refl);
      is_next = refl;
    }

goes_saved :
    (place : Setting) → HasFrames place → (n : ℕ) (before : State) (next : List (List Symbol)) (so_far expanded : Expanded) (o : Option (List (List ℕ))) →
    slice_get so_far.saved n ≡ o → option_map (λ (part : List (List ℕ)). record so_far { labels = so_far.labels ++ part }) o ≡ Some expanded → DeriveInOrder place so_far.labels before.stack →
    AllZip (λ part e. Derives place part e) so_far.saved before.saved → DeriveInOrder place expanded.labels next → Goes place (Saved n) before next
goes_saved place is n before next so_far expanded None at e d z d' = cc
goes_saved place is n before next so_far expanded (Some part) at e d z d' =
    let x = zip_at (λ part e. Derives place part e) so_far.saved before.saved n part z at in
    let labels : so_far.labels ++ part ≡ expanded.labels = cc in
    record {
      after = record before { stack = before.stack ++ x.0 ∷ [] };
      turns = (x.0, x.1, refl, refl);
      is_next = one_stack place is (before.stack ++ x.0 ∷ []) next labels (join d (alone x.2)) d';
    }

goes_save :
    (place : Setting) → HasFrames place → (before : State) (next stack : List (List Symbol)) (so_far expanded : Expanded) (o : Option (List (List ℕ))) →
    last_part place so_far.labels ≡ o → option_map (λ (part : List (List ℕ)). record so_far { saved = so_far.saved ++ part ∷ [] }) o ≡ Some expanded → stack ≡ before.stack → DeriveInOrder place so_far.labels stack →
    DeriveInOrder place expanded.labels next → Goes place Save before next
goes_save place is before next stack so_far expanded None at e s d d' = cc
goes_save place is before next [] so_far expanded (Some part) at e s d d' = grind (arith, common_steps, no_stack d refl) steps 200000
goes_save place is before next (x ∷ xs) so_far expanded (Some part) at e s d d' =
    let l = last_element x xs in
    let labels : so_far.labels ≡ expanded.labels = cc in
    record {
      after = record before { saved = before.saved ++ l.1 ∷ [] };
      turns = (l.0, l.1, sym s ∙ l.2, refl, refl);
      is_next = sym s ∙ one_stack place is (x ∷ xs) next labels d d';
    }

-- if one more step reaches something, the machine does it
pub goes : (place : Setting) → HasFrames place → (steps : List Step) (step : Step) (before : State) (next : List (List Symbol)) → Follows place steps before → Reaches place (steps ++ step ∷ []) next → Goes place step before next
goes place is steps (Named label) before next f r = grind (arith, common_steps, expand_more place f.expanded _ steps (Named label) f.expands, goes_label) steps 200000
goes place is steps (Saved n) before next f r =
    let e = sym (expand_more place f.expanded _ steps (Saved n) f.expands) ∙ r.expands in
    goes_saved place is n before next f.expanded r.expanded (slice_get f.expanded.saved n) refl e f.in_order f.of_saved r.in_order
goes place is steps Save before next f r =
    let e = sym (expand_more place f.expanded _ steps Save f.expands) ∙ r.expands in
    goes_save place is before next before.stack f.expanded r.expanded (last_part place f.expanded.labels) refl e refl f.in_order r.in_order
goes place is steps NotKnown before next f r = grind (arith, common_steps, expand_more place f.expanded _ steps NotKnown f.expands) steps 200000

-- what is followed is reached
pub reached : (place : Setting) (steps : List Step) (state : State) → Follows place steps state → Reaches place steps state.stack
reached place steps state f = record { expanded = f.expanded; expands = f.expands; in_order = f.in_order }

-- at the beginning
pub at_start : (place : Setting) → Follows place [] (record { stack = []; saved = [] })
at_start place = record { expanded = record { labels = []; saved = [] }; expands = refl; in_order = nothing; of_saved = tt }
