-- The worked faults are proved, by the definitions.
use Rattle.std.proofs.Common.{◌≡◌, ◌≢◌, ℕ, zero, suc, ◌<◌, ◌≤◌, true, false, Option, Some, None, List, [], ◌∷◌, ◌++◌, length, refl, sym, ap, subst, inl, inr, arith, codes, length-append, slice_get}
use Rattle.std.proofs.{Common.{slice_index_or, Contains}, lemmas.List.Elements.{All-cons, All-nil}}
use Rattle.mm_frame.specs.Language.Examples.{letter_symbol, letter_symbols, p, q, r, typing}
use Rattle.mm_machine.specs.Language.{Derivation.{AreApart, Derives, Takes, by_hypothesis, first_then, nothing}, Expansion.{Expanded, Named, Save}}
use Rattle.mm_machine.specs.Language.{Faults.{CitingFails, LabelFails, StepLineHolds, row_of}, Frame.{Symbol, Frame, LabelMeaning, Assertion, ArePair, HasVariable}, Reaches.{IsStepFault, Reaches}}
use Rattle.mm_machine.specs.declared.ProofNumber.{ProofNumber, TheVariants.{P01, P02, P03, P04, P05, P06, P07, P08, P12, P13}}
use Rattle.mm_verdict.specs.Language.FaultExamples.{here, bracketed, q_and_r}
use Rattle.mm_verdict.specs.Language.FaultExamples as examples

-- the first byte of a symbol
abbrev byte_of : Symbol → ℕ
byte_of s = slice_index_or s.name 0 0

-- the first byte of a symbol of an expression; 0 if it has none of this number
abbrev byte_at : ℕ → List Symbol → ℕ
byte_at n e = byte_of (slice_index_or e n (record { name = 0 ∷ []; variable = false }))

pub only : {X : Type 0} (a x : X) → Contains (a ∷ []) x → a ≡ x
only a x c = at c.0 c.1 c.2
  where
    at : (k : ℕ) → k < length (a ∷ []) → slice_index_or (a ∷ []) k x ≡ x → a ≡ x
    at zero l e = e
    at (suc k) l e = absurd (omega (arith, l))

pub p_not_r : p ≢ r
p_not_r e = let k : ◌≡◌ {A = ℕ} 112 114 = ap byte_of e in omega (arith, k)

pub q_not_r : q ≢ r
q_not_r e = let k : ◌≡◌ {A = ℕ} 113 114 = ap byte_of e in omega (arith, k)

has_q : HasVariable (q ∷ []) q
has_q = ((0, omega arith, refl), refl)

has_r : HasVariable (r ∷ []) r
has_r = ((0, omega arith, refl), refl)

-- ---- the assertion `wi`

abbrev wi : Frame
wi = record { expression = letter_symbols (codes "w(p>q)"); hypotheses = typing (codes "wp") ∷ typing (codes "wq") ∷ []; pairs = [] }

means_wi : here.resolve (codes "wi") ≡ Assertion wi
means_wi = refl

to_wi : (stack : List (List Symbol)) (number : ProofNumber) → CitingFails 1000000 here.active wi stack number → StepLineHolds here (Named (codes "wi")) stack number
to_wi stack number c = subst (λ (m : LabelMeaning). LabelFails here.active m stack number) (sym means_wi) c

of_wi : (stack : List (List Symbol)) (number : ProofNumber) → StepLineHolds here (Named (codes "wi")) stack number → CitingFails 1000000 here.active wi stack number
of_wi stack number h = subst (λ (m : LabelMeaning). LabelFails here.active m stack number) means_wi h

pub lacks_entry : examples.LacksEntry
lacks_entry = (
  to_wi (letter_symbols (codes "wp") ∷ []) P07 (omega arith),
  λ h. (let few : ◌<◌ 2 2 = of_wi (letter_symbols (codes "wp") ∷ letter_symbols (codes "wq") ∷ []) P07 h in absurd (omega (arith, few))),
)

begins_otherwise : slice_get (letter_symbols (codes "wp")) 0 ≢ slice_get (letter_symbols (codes "(p")) 0
begins_otherwise e = let k : ◌≡◌ {A = ℕ} 119 40 = ap first e in omega (arith, k)
  where
    first : Option Symbol → ℕ
    first None = 0
    first (Some s) = byte_of s

same_typecodes : CitingFails 1000000 here.active wi (letter_symbols (codes "(p") ∷ letter_symbols (codes "wp") ∷ letter_symbols (codes "wq") ∷ []) P08 → ⊥
same_typecodes (inl h) = h.1 refl
same_typecodes (inr (inl h)) = h.1 refl
same_typecodes (inr (inr h)) = h

pub has_other_typecode : examples.HasOtherTypecode
has_other_typecode = (
  to_wi (letter_symbols (codes "wp") ∷ letter_symbols (codes "(p") ∷ []) P08 (inr (inl (refl, begins_otherwise))),
  λ h. same_typecodes (of_wi (letter_symbols (codes "(p") ∷ letter_symbols (codes "wp") ∷ letter_symbols (codes "wq") ∷ []) P08 h),
)

least : (other : ProofNumber) → CitingFails 1000000 here.active wi (letter_symbols (codes "(p") ∷ []) other → row_of P07 ≤ row_of other
least P01 h = absurd h
least P02 h = absurd h
least P03 h = absurd h
least P04 h = absurd h
least P05 h = absurd h
least P06 h = absurd h
least _ h = omega arith

pub tells_lowest : examples.TellsLowest
tells_lowest = (
  to_wi (letter_symbols (codes "(p") ∷ []) P08 (inl (refl, begins_otherwise)),
  record {
    holds = to_wi (letter_symbols (codes "(p") ∷ []) P07 (omega arith);
    lowest = λ other h. least other (of_wi (letter_symbols (codes "(p") ∷ []) other h);
  },
)

-- ---- other assertions

ends_otherwise : letter_symbols (codes "(q") ≢ letter_symbols (codes "(r")
ends_otherwise e = let k : ◌≡◌ {A = ℕ} 113 114 = ap (byte_at 1) e in omega (arith, k)

pub is_other_essential : examples.IsOtherEssential
is_other_essential = (λ s. q ∷ [], (λ e. refl, (λ (e : false ≡ true). cc, tt)), inr (inl (refl, ends_otherwise)))

pub is_shared : examples.IsShared
is_shared = (λ s. r ∷ [], (λ e. refl, (λ e. refl, tt)), (0, (p, q), omega arith, refl, (r, has_r, has_r)))

no_pair : ArePair [] q r → ⊥
no_pair (inl c) = omega (arith, c.1)
no_pair (inr c) = omega (arith, c.1)

pub is_no_active_pair : examples.IsNoActivePair
is_no_active_pair = (q_and_r, (λ e. refl, (λ e. refl, tt)), (0, (p, q), omega arith, refl, (q, r, has_q, has_r, q_not_r, no_pair)))

apart_by_pair : AreApart ((r, q) ∷ []) (q ∷ []) (r ∷ [])
apart_by_pair = record {
  unshared = λ s. (let a = only q s.0 s.1.0 in let b = only r s.0 s.2.0 in let k : ◌≡◌ {A = ℕ} (byte_of s.0) 113 = ap byte_of (sym a) in let m : ◌≡◌ {A = ℕ} (byte_of s.0) 114 = ap byte_of (sym b) in omega (arith, k, m));
  paired = λ x y h k n. inr (0, omega arith, λ i. (only r y k.0 i, only q x h.0 i));
}

pub is_taken_with_pair : examples.IsTakenWithPair
is_taken_with_pair = record {
  entries_match = refl;
  result_matches = refl;
  apart = All-cons (λ pair. AreApart ((r, q) ∷ []) (q_and_r pair.0) (q_and_r pair.1)) (p, q) [] apart_by_pair (All-nil (λ pair. AreApart ((r, q) ∷ []) (q_and_r pair.0) (q_and_r pair.1)));
  short = omega arith;
}

-- the result of `bracketed` has one symbol more than its entry
abbrev closing : Symbol
closing = letter_symbol 41

longer_by_one : (given : Symbol → List Symbol) (n : ℕ) → length (letter_symbol 119 ∷ (given p ++ [])) ≡ n → length (letter_symbol 119 ∷ (given p ++ closing ∷ [])) ≡ suc n
longer_by_one given n e = omega (arith, e, length-append (given p) [], length-append (given p) (closing ∷ []))

not_too_long : CitingFails 3 [] bracketed (letter_symbols (codes "wq") ∷ []) P12 → ⊥
not_too_long u = let long : ◌<◌ 3 (length (letter_symbol 119 ∷ (u.0 p ++ closing ∷ []))) = u.2 in omega (arith, long, longer_by_one u.0 2 (ap length (u.1.0 refl)))

pub three_are_taken : examples.ThreeAreTaken
three_are_taken = (
  record { entries_match = refl; result_matches = refl; apart = All-nil (λ pair. AreApart [] (q ∷ []) (q ∷ [])); short = omega arith },
  not_too_long,
)

too_long : (given : Symbol → List Symbol) (result : List Symbol) → Takes 3 [] bracketed given (letter_symbols (codes "wqq") ∷ []) result → ⊥
too_long given result t =
    let count = longer_by_one given 3 (ap (λ (es : List (List Symbol)). length (slice_index_or es 0 [])) t.entries_match) in
    let long : ◌≡◌ {A = ℕ} (length (letter_symbol 119 ∷ (given p ++ closing ∷ []))) (length result) = ap length t.result_matches in
    omega (arith, count, long, t.short)

pub four_are_too_many : examples.FourAreTooMany
four_are_too_many = ((λ s. q ∷ q ∷ [], (λ e. refl, tt), omega arith), too_long)

-- ---- verdicts

least_save : (other : ProofNumber) → StepLineHolds here Save [] other → row_of P13 ≤ row_of other
least_save P13 h = omega arith
least_save _ h = absurd h

nothing_saved : IsStepFault here (Save ∷ []) 0 P13
nothing_saved = record {
  stack = [];
  step = Save;
  reached = record { expanded = record { labels = []; saved = [] }; expands = refl; in_order = nothing };
  at_fault = refl;
  nothing_after = λ next reached. (let none : ◌≡◌ {A = Option Expanded} None (Some reached.expanded) = reached.expands in cc);
  number_is = record { holds = refl; lowest = least_save };
}

pub saves_nothing : examples.SavesNothing
saves_nothing = ((0, nothing_saved, refl), inl (0, P13, nothing_saved, refl))

derives_wp : Derives here (codes "wp" ∷ []) (letter_symbols (codes "wp"))
derives_wp = by_hypothesis refl

reaches_one : Reaches here (Named (codes "wp") ∷ []) (letter_symbols (codes "wp") ∷ [])
reaches_one = record { expanded = record { labels = codes "wp" ∷ []; saved = [] }; expands = refl; in_order = first_then derives_wp nothing }

reaches_two : Reaches here (Named (codes "wp") ∷ Named (codes "wp") ∷ []) (letter_symbols (codes "wp") ∷ letter_symbols (codes "wp") ∷ [])
reaches_two = record { expanded = record { labels = codes "wp" ∷ codes "wp" ∷ []; saved = [] }; expands = refl; in_order = first_then derives_wp (first_then derives_wp nothing) }

pub leaves_two : examples.LeavesTwo
leaves_two = (letter_symbols (codes "wp") ∷ letter_symbols (codes "wp") ∷ [], reaches_two, λ (e : ◌≡◌ {A = ℕ} 2 1). omega (arith, e), refl)

names_otherwise : letter_symbols (codes "wp") ≢ letter_symbols (codes "wq")
names_otherwise e = let k : ◌≡◌ {A = ℕ} 112 113 = ap (byte_at 1) e in omega (arith, k)

pub leaves_another : examples.LeavesAnother
leaves_another = (letter_symbols (codes "wp"), reaches_one, names_otherwise, refl)

pub ends_at_unknown : examples.EndsAtUnknown
ends_at_unknown = (
  (λ e. (let k : ◌≡◌ {A = ℕ} 1 4 = ap length e in omega (arith, k)), refl, (letter_symbols (codes "wp") ∷ [], reaches_one)),
  inr ((letter_symbols (codes "wp") ∷ [], reaches_one), refl),
)
