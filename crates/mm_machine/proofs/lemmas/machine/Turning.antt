-- The machine as a function: what it answers is a turn, or the lowest line that holds.
use Rattle.std.proofs.Common.{rules, ◌≡◌, ◌≢◌, ℕ, suc, ◌-◌, ◌≤◌, ◌<◌, true, false, List, ◌∷◌, ◌++◌, length, map, take, get_or, refl, sym, ◌∙◌, ap, arith, inl, inr, ◌⊎◌, length-append, slice_get, All}
use Rattle.std.proofs.{Common.{Any, []}, lemmas.{Grind.{common_steps, elements}, List.{take-append-drop, length-drop, get_or_default}, Option.{slice_get-get_or}}}
use native.Mathlib.Decide.{dec_lt}
use mathlib.Core.Bool.{Bool-discrete}
use Rattle.mm_machine.specs.Language.{Frame.{Symbol, Frame, LabelMeaning, Hypothesis, Assertion, Setting}, Substitution.{substituted}, Derivation.{ShareVariable, AreApart}}
use Rattle.mm_machine.specs.Language.{Typing.{IsFrame, HasFrames}, Steps.{Cites, Moves}, Expansion.{Step, Named, Saved, Save, NotKnown}}
use Rattle.mm_machine.specs.Language.{Faults.{last_entries, LackPair, CitingFails, LabelFails, StepLineHolds, row_of, IsLowest}, Machine.{State, Turns, IsUsable, IsReady}}
use Rattle.mm_machine.specs.{Code.Citation.{OtherTypecode}, declared.ProofNumber.{ProofNumber, TheVariants.{P01, P02, P03, P04, P05, P06, P07, P08, P09, P10, P11, P12, P13, P14, P15}}}
use Rattle.mm_machine.proofs.lemmas.verdicts.{Lines.{not_cited, long_by, pairs_by, wrong_by}, Choices.{both_of, not_of, expression_discrete, dec_any, dec_any_zip, dec_share, dec_lack, are_apart}}
use Rattle.mm_machine.proofs.lemmas.{machine.Given.{given_by, floats_match, all_match, dec_option}, lists.Members.{last_element}}

-- the numbers in the order of their rows
abbrev number_at : ℕ → ProofNumber
number_at n = get_or (P01 ∷ P01 ∷ P02 ∷ P03 ∷ P04 ∷ P05 ∷ P06 ∷ P07 ∷ P08 ∷ P09 ∷ P10 ∷ P11 ∷ P12 ∷ P13 ∷ P14 ∷ P15 ∷ []) n P01

number_at_row : (number : ProofNumber) → number_at (row_of number) ≡ number
number_at_row number = grind (arith, common_steps) steps 200000

-- two numbers of one row are one
pub same_number : (a b : ProofNumber) → row_of a ≡ row_of b → a ≡ b
same_number a b e = sym (number_at_row a) ∙ ap number_at e ∙ number_at_row b

-- no line of a lower row holds
abbrev pub NoneBelow : (ProofNumber → Type 0) → ℕ → Type 0
NoneBelow P n = (other : ProofNumber) → P other → row_of other < n → ⊥

pub none_more : (P : ProofNumber → Type 0) (number : ProofNumber) → NoneBelow P (row_of number) → (P number → ⊥) → NoneBelow P (suc (row_of number))
none_more P number below n other p l = grind (arith, common_steps, same_number) steps 200000

-- something right is there, or a lowest number holds
abbrev pub Answers : {X : Type 0} → (X → Type 0) → (ProofNumber → Type 0) → Type 0
Answers {X} Right P = ((x : X) × Right x) ⊎ ((number : ProofNumber) × P number × ((other : ProofNumber) → P other → row_of number ≤ row_of other))

pub lowest : (P : ProofNumber → Type 0) (number : ProofNumber) → NoneBelow P (row_of number) → P number →
    P number × ((other : ProofNumber) → P other → row_of number ≤ row_of other)
lowest P number below p = grind (arith, elements) steps 200000

choose :
    {Q X : Type 0} (Right : X → Type 0) (P : ProofNumber → Type 0) (number : ProofNumber) (d : Dec Q) → (Q → P number) → (P number → Q) →
    NoneBelow P (row_of number) → ((Q → ⊥) → NoneBelow P (suc (row_of number)) → Answers Right P) → Answers Right P
choose Right P number (yes q) to from below go = (let low = lowest P number below (to q) in inr (number, low.0, low.1))
choose Right P number (no n) to from below go = go n (none_more P number below (λ p. n (from p)))

-- the lines below P07 say nothing of a citation
pub none_first : (active : List (Symbol × Symbol)) (frame : Frame) (stack : List (List Symbol)) → NoneBelow (CitingFails 1000000 active frame stack) 7
none_first active frame stack = grind (arith, common_steps) steps 200000

-- if no line holds, the assertion is cited
pub cites_by :
    (active : List (Symbol × Symbol)) (frame : Frame) (stack : List (List Symbol)) (given : Symbol → List Symbol) →
    (length stack < length frame.hypotheses → ⊥) → map (λ h. substituted given h.expression) frame.hypotheses ≡ last_entries frame stack →
    All (λ pair. AreApart active (given pair.0) (given pair.1)) frame.pairs → (1000000 < length (substituted given frame.expression) → ⊥) →
    Cites active frame stack (take (length stack - length frame.hypotheses) stack ++ substituted given frame.expression ∷ [])
cites_by active frame stack given few m a long = grind (arith, common_steps, take-append-drop (length stack - length frame.hypotheses) stack) steps 200000

apart_by :
    (active : List (Symbol × Symbol)) (given : Symbol → List Symbol) (pairs : List (Symbol × Symbol)) →
    (Any (λ pair. ShareVariable (given pair.0) (given pair.1)) pairs → ⊥) → (Any (λ pair. LackPair active (given pair.0) (given pair.1)) pairs → ⊥) →
    All (λ pair. AreApart active (given pair.0) (given pair.1)) pairs
apart_by active given pairs share lack k d l =
    let pair = get_or pairs k d in
    let same = get_or_default pairs k (get_or pairs k d) d l in
    are_apart active (given pair.0) (given pair.1) (λ s. share (k, pair, l, same, s)) (λ s. lack (k, pair, l, same, s))

-- a frame is cited, or a lowest line holds
pub cite_says : (active : List (Symbol × Symbol)) (frame : Frame) (stack : List (List Symbol)) → IsFrame frame →
    Answers (Cites active frame stack) (CitingFails 1000000 active frame stack)
cite_says active frame stack is =
    let hs = frame.hypotheses in
    let es = last_entries frame stack in
    let g = given_by hs es in
    let Right : List (List Symbol) → Type 0 = Cites active frame stack in
    let P : ProofNumber → Type 0 = CitingFails 1000000 active frame stack in
    choose Right P P07 (dec_lt (length stack) (length hs)) (λ q. q) (λ p. p) (none_first active frame stack) (λ n7 b8.
    choose Right P P08
    (dec_any_zip {R = OtherTypecode} (λ h e. both_of (Bool-discrete h.floating true) (not_of (dec_option (slice_get h.expression 0) (slice_get e 0)))) hs
    es)
    (λ q. q) (λ p. p) b8 (λ n8 b9.
    let lengths : length hs ≡ length es = omega (arith, length-drop (length stack - length hs) stack) in
    let fm = floats_match hs es lengths is.typings is.typed_once n8 in
    choose Right P P09
    (dec_any_zip {R = λ h e. (h.floating ≡ false) × (substituted g h.expression ≢ e)}
    (λ h e. both_of (Bool-discrete h.floating false) (not_of (expression_discrete (substituted g h.expression) e))) hs es)
    (λ q. (g, fm, q)) (λ p. wrong_by frame is p.0 g es p.1 fm p.2) b9 (λ n9 b10.
    choose Right P P10 (dec_any {P = λ pair. ShareVariable (g pair.0) (g pair.1)} (λ pair. dec_share (g pair.0) (g pair.1)) frame.pairs)
    (λ q. (g, fm, q)) (λ p. pairs_by ShareVariable frame is p.0 g es p.1 fm p.2) b10 (λ n10 b11.
    choose Right P P11 (dec_any {P = λ pair. LackPair active (g pair.0) (g pair.1)} (λ pair. dec_lack active (g pair.0) (g pair.1)) frame.pairs)
    (λ q. (g, fm, q)) (λ p. pairs_by (LackPair active) frame is p.0 g es p.1 fm p.2) b11 (λ n11 b12.
    choose Right P P12 (dec_lt 1000000 (length (substituted g frame.expression))) (λ q. (g, fm, q)) (λ p. long_by frame is p.0 g es p.1 fm p.2) b12
    (λ n12 b13. inl (_, cites_by active frame stack g n7 (all_match g hs es lengths fm n9) (apart_by active g frame.pairs n10 n11) n12)))))))

-- a step has a turn, or a lowest line
label_says :
    (place : Setting) → HasFrames place → (label : List ℕ) (r : LabelMeaning) (s : State) → place.resolve label ≡ r → IsUsable r →
    Answers (λ (after : State). Moves place.active r s.stack after.stack × (after.saved ≡ s.saved)) (LabelFails place.active r s.stack)
label_says place is label (Hypothesis e) s at u = inl (record s { stack = s.stack ++ e ∷ [] }, (refl, refl))
label_says place is label (Assertion frame) s at u =
    elim (cite_says place.active frame s.stack (is label frame at)) [ inl c ↦ inl (record s { stack = c.0 }, (c.1, refl)) | inr f ↦ inr f ]
label_says place is label _ s at u = absurd u

save_says : (place : Setting) (s : State) (stack : List (List Symbol)) → s.stack ≡ stack → Answers (λ after. Turns place Save s after) (StepLineHolds place Save stack)
save_says place s [] e = (let low = lowest (StepLineHolds place Save []) P13 (λ other p l. grind (arith, common_steps)) refl in inr (P13, low.0, low.1))
save_says place s (x ∷ xs) e = let l = last_element x xs in inl (record s { saved = s.saved ++ l.1 ∷ [] }, (l.0, l.1, e ∙ l.2, refl, refl))

pub turns_or_fails : (place : Setting) → HasFrames place → (s : State) (step : Step) → IsReady place s step → ((after : State) × Turns place step s after) ⊎ ((number : ProofNumber) × IsLowest place step s.stack number)
turns_or_fails place is s (Named label) r = grind (arith, common_steps, label_says place is label (place.resolve label) s refl r) steps 200000
turns_or_fails place is s (Saved n) r =
    inl (record s { stack = s.stack ++ get_or s.saved n [] ∷ [] }, (get_or s.saved n [], slice_get-get_or s.saved n [] r, refl, refl))
turns_or_fails place is s Save r = grind (arith, common_steps, save_says place s s.stack refl) steps 200000
turns_or_fails place is s NotKnown r = absurd r

-- if a line holds, the machine has no turn
pub no_turn : (place : Setting) → HasFrames place → (s after : State) (step : Step) (number : ProofNumber) → StepLineHolds place step s.stack number → Turns place step s after → ⊥
no_turn place is s after (Named label) number h t = search (rules, not_cited) steps 500000
no_turn place is s after (Saved n) number h t = h
no_turn place is s after Save P13 h t = grind (arith, common_steps, length-append t.0 (t.1 ∷ [])) steps 200000
no_turn place is s after Save _ h t = h
no_turn place is s after NotKnown number h t = h
