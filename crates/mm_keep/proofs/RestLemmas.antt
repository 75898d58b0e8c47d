-- What leads to proved theorems alone rests on axioms: citations lead to earlier items.
use Rattle.std.proofs.lemmas.{Grind.{common_steps}, List.Elements.{Contains-append_right, Contains-append_cases}, Option.{same_Some}}
use Rattle.std.proofs.Common.{◌≡◌, ◌<◌, ◌⊎◌, ℕ, zero, suc, Bool, true, false, ◌&&◌, if◌then◌else◌, Option, Some, None, List, [], ◌∷◌, ◌++◌, slice_get, refl, sym, subst, inl, inr, arith, Contains}
use Rattle.std.specs.Option.{option_map, option_or}
use Rattle.mm_proof.specs.{mm_frame.Language.Base.{BaseView, said_at, is_sound_at, is_framed_at, is_proof_at}, mm_statement.Language.Item.{Kind, Axiom, is_assertion, is_kind, Theorem}}
use Rattle.mm_proof.specs.mm_machine.Language.{Frame.{Setting}, Expansion.{Step, Named, Saved, Save, NotKnown, Expanded, expand_one, expand_from, expansion, last_part}}
use Rattle.mm_proof.specs.mm_verdict.Language.{ItemLaws.{ProvedIsDerivedAt}, BaseLabels.{setting_at}, VerdictAt.{IsVerdictAt}}
use Rattle.mm_keep.specs.Language.{Citations.{CitesItem, LeadsTo, none, step, IsAxiomOf}, Told.{IsAxiom}, Resting.{RestsOn, by_axiom, by_labels}, Laws.{ProvedRestsOnAxioms}}
use Rattle.mm_keep.proofs.CitedItems.{cites_earlier}
use Rattle.mm_proof.specs.mm_machine.declared.Verdict.TheVariants as verdicts

-- ---- the labels that steps stand for

-- each label of what steps stand for, and of what they save, is named by one of these steps
record AreNamed (steps : List Step) (x : Expanded) : Type 0 where
  labels : (label : List ℕ) → Contains x.labels label → Contains steps (Named label)
  saved : (n : ℕ) (part : List (List ℕ)) (label : List ℕ) → slice_get x.saved n ≡ Some part → Contains part label → Contains steps (Named label)

part_cases : (first : List ℕ) (rest part : List (List ℕ)) (label : List ℕ) (inner : Option (List (List ℕ))) (test : Bool)
    → ((p : List (List ℕ)) → inner ≡ Some p → Contains p label → Contains rest label)
    → option_or inner (if test then Some (first ∷ rest) else None) ≡ Some part → Contains part label → Contains (first ∷ rest) label
part_cases first rest part label (Some p) test deeper is among =
    Contains-append_right (first ∷ []) rest label (deeper p refl (subst (λ (q : List (List ℕ)). Contains q label) (sym (same_Some p part is)) among))
part_cases first rest part label None true deeper is among = subst (λ (q : List (List ℕ)). Contains q label) (sym (same_Some (first ∷ rest) part is)) among
part_cases first rest part label None false deeper is among = absurd (cc)

-- what a save keeps are some of the labels
part_among : (place : Setting) (labels part : List (List ℕ)) (label : List ℕ) → last_part place labels ≡ Some part → Contains part label → Contains labels label
part_among place [] part label is among = absurd (cc)
part_among place (first ∷ rest) part label is among = part_cases first rest part label (last_part place rest) _ (λ p e c. part_among place rest p label e c) is among

only_one : (name label : List ℕ) → Contains (name ∷ []) label → name ≡ label
only_one name label c = grind (arith, common_steps) steps 200000

again_named : (whole : List Step) (x y : Expanded) (n : ℕ) (found : Option (List (List ℕ))) → slice_get x.saved n ≡ found → AreNamed whole x →
    option_map (λ (part : List (List ℕ)). record x { labels = x.labels ++ part }) found ≡ Some y → AreNamed whole y
again_named whole x y n (Some part) there named is = subst (AreNamed whole) (same_Some (record x { labels = x.labels ++ part }) y is) (record {
  labels = λ label among. elim (Contains-append_cases x.labels part label among) [
    | inl old ↦ named.labels label old
    | inr new ↦ named.saved n part label there new
  ];
  saved = named.saved;
})
again_named whole x y n None there named is = absurd (cc)

saved_cases : (saved : List (List (List ℕ))) (part found : List (List ℕ)) (n : ℕ) → slice_get (saved ++ part ∷ []) n ≡ Some found → (slice_get saved n ≡ Some found) ⊎ (part ≡ found)
saved_cases [] part found zero is = inr (same_Some part found is)
saved_cases [] part found (suc n) is = absurd (cc)
saved_cases (one ∷ saved) part found zero is = inl is
saved_cases (one ∷ saved) part found (suc n) is = saved_cases saved part found n is

save_named : (place : Setting) (whole : List Step) (x y : Expanded) (found : Option (List (List ℕ))) → last_part place x.labels ≡ found → AreNamed whole x →
    option_map (λ (part : List (List ℕ)). record x { saved = x.saved ++ part ∷ [] }) found ≡ Some y → AreNamed whole y
save_named place whole x y (Some part) last named is = subst (AreNamed whole) (same_Some (record x { saved = x.saved ++ part ∷ [] }) y is) (record {
  labels = named.labels;
  saved = λ n other label there among. elim (saved_cases x.saved part other n there) [
    | inl old ↦ named.saved n other label old among
    | inr new ↦ named.labels label (part_among place x.labels part label last (subst (λ (q : List (List ℕ)). Contains q label) (sym new) among))
  ];
})
save_named place whole x y None last named is = absurd (cc)

one_more : (place : Setting) (whole : List Step) (x y : Expanded) (s : Step) → Contains whole s → AreNamed whole x → expand_one place x s ≡ Some y → AreNamed whole y
one_more place whole x y (Named name) has named is = subst (AreNamed whole) (same_Some (record x { labels = x.labels ++ name ∷ [] }) y is) (record {
  labels = λ label among. elim (Contains-append_cases x.labels (name ∷ []) label among) [
    | inl old ↦ named.labels label old
    | inr new ↦ subst (λ (other : List ℕ). Contains whole (Named other)) (only_one name label new) has
  ];
  saved = named.saved;
})
one_more place whole x y (Saved n) has named is = again_named whole x y n (slice_get x.saved n) refl named is
one_more place whole x y Save has named is = save_named place whole x y (last_part place x.labels) refl named is
one_more place whole x y NotKnown has named is = absurd (cc)

none_stays : (place : Setting) (steps : List Step) → expand_from place None steps ≡ None
none_stays place [] = refl
none_stays place (s ∷ steps) = refl

next_named : (place : Setting) (whole steps : List Step) (y : Expanded) (next : Option Expanded)
    → ((z : Expanded) → next ≡ Some z → AreNamed whole z) → ((z : Expanded) → AreNamed whole z → expand_from place (Some z) steps ≡ Some y → AreNamed whole y)
    → expand_from place next steps ≡ Some y → AreNamed whole y
next_named place whole steps y (Some z) named more is = more z (named z refl) is
next_named place whole steps y None named more is = let e = none_stays place steps in absurd (cc)

all_named : (place : Setting) (whole steps : List Step) → ((s : Step) → Contains steps s → Contains whole s) → (x y : Expanded) → AreNamed whole x → expand_from place (Some x) steps ≡ Some y → AreNamed whole y
all_named place whole [] sub x y named is = subst (AreNamed whole) (same_Some x y is) named
all_named place whole (first ∷ steps) sub x y named is =
    let here : Contains (first ∷ steps) first = (0, omega arith, refl) in
    next_named place whole steps y (expand_one place x first)
    (λ z e. one_more place whole x z first (sub first here) named e)
    (λ z more e. all_named place whole steps (λ s c. sub s (Contains-append_right (first ∷ []) steps s c)) z y more e)
    is

nothing_named : (whole : List Step) → AreNamed whole (record { labels = []; saved = [] })
nothing_named whole = record {
  labels = λ label c. absurd (omega (arith, c.1));
  saved = λ n part label e c. absurd (cc);
}

named_by_step : (place : Setting) (steps : List Step) (x : Expanded) → expansion place steps ≡ Some x → (label : List ℕ) → Contains x.labels label → Contains steps (Named label)
named_by_step place steps x is label c = (all_named place steps steps (λ s c. c) (record { labels = []; saved = [] }) x (nothing_named steps) is).labels label c

-- ---- what rests on axioms

kind_cases : (sound : Bool) (kind : Kind) → (sound && is_assertion kind) ≡ true → ((sound ≡ true) × (kind ≡ Axiom)) ⊎ ((sound && is_kind Theorem kind) ≡ true)
kind_cases sound kind e = grind (arith, common_steps) steps 200000

rests : ProvedIsDerivedAt → (base : BaseView) (axioms : List ℕ) (fuel i : ℕ) → i < fuel → is_framed_at base i ≡ true → ((k : ℕ) → IsAxiomOf base i k → Contains axioms k)
    → ((k : ℕ) → LeadsTo base k i → is_proof_at base k ≡ true → IsVerdictAt base k verdicts.Proved) → RestsOn base axioms i
rests law base axioms zero i less framed are proved = absurd (omega (arith, less))
rests law base axioms (suc fuel) i less framed are proved = elim (kind_cases (is_sound_at base i) (said_at base i).kind framed) [
  | inl a ↦ (let is : IsAxiom base i = record { sound = a.0; kind = a.1 } in by_axiom is (are i (record { is_axiom = is; leads = none })))
  | inr p ↦ (let d = (law base i).0 (proved i none p) in
      by_labels (record { theorem = p; labels = d.2.0.labels; derive = d.2.2 }) (λ label k among means.
      let cites : CitesItem base i k = record {
        theorem = p;
        names = record { decoded = d.0; decodes = d.1; label = label; named = named_by_step (setting_at base i) d.0.steps d.2.0 d.2.1 label among; means = means };
      } in
      let earlier = cites_earlier base i k cites in
      rests law base axioms fuel k (omega (arith, less, earlier)) means.1
      (λ m a. are m (record { is_axiom = a.is_axiom; leads = step cites a.leads }))
      (λ m leads. proved m (step cites leads))))
]

pub rests_on_axioms : ProvedIsDerivedAt → ProvedRestsOnAxioms
rests_on_axioms law base i axioms framed are proved = rests law base axioms (suc i) i (omega arith) framed are proved
