-- The faults of units: the machine finds them, and a list has one at most.
use Rattle.std.proofs.Common.{[], ◌≡◌, ◌≢◌, ◌⊎◌, ◌↔◌, ℕ, zero, suc, ◌+◌, ◌<◌, ◌≤◌, Bool, true, false, List, ◌∷◌, ◌++◌, append_assoc, length, take, drop, slice_get, take-append-drop, take-take, Some}
use Rattle.std.proofs.{Common.{append-nil, drop-drop, take_all, Ok, Err, refl, sym, ap, ◌∙◌, subst, inl, inr, le_of_lt, le_of_eq, ◌-◌, arith}, lemmas.{Grind.{common_steps}, Bool.{false≢true}}}
use Rattle.std.specs.List.{AllByRecursion}
use Rattle.mm_text.specs.declared.word.Keyword.{Keyword}
use Rattle.mm_text.specs.declared.word.Keyword.TheVariants.{BlockStart, BlockEnd, Constants, Variables, Floating, Essential, Disjoint, Axiom, Theorem, StatementEnd, ProofStart, InclusionStart}
use Rattle.mm_text.specs.declared.{word.{Keyword.TheVariants.{InclusionEnd}, WordKind.{WordKind}}, fault.TextNumber.{TextNumber, TheVariants.{T06, T07, T08, T09, T10, T11}}}
use Rattle.mm_text.specs.Language.Unit.{Token, IsKeyword, IsPlain, Shape, shape_tokens, IsShape, Units, Nothing, Simple, Block, unit_tokens, AreUnits, IsWhole, IsViable, MayBegin, EndsInInclusion}
use Rattle.mm_text.specs.{Language.Unit.{IsUnitNumber, StopsAtWord, EndsInUnit, EndsInBlock, IsUnitFault}, Code.BlockCounts.{is_start_word, is_end_word, starts, ends}}
use Rattle.mm_text.proofs.UnitReadingLemmas.{run-append, run-IsViable, run-not_viable, IsWhole-run, through_units, blocks, blocks_run, key, key-kind, whole_run, Completes, Closes}
use Rattle.mm_text.specs.declared.word.WordKind.TheVariants as kinds
use Rattle.mm_text.specs.Code.UnitReading as m

-- ---- a prefix of a viable list is viable

pub viable_front : (front more : List Token) → IsViable (front ++ more) → IsViable front
viable_front front more h = (more ++ h.0, subst (λ (ts : List Token). IsWhole ts) (append_assoc front more h.0) h.1)

pub viable_take : (tokens : List Token) (k : ℕ) → IsViable tokens → IsViable (take k tokens)
viable_take tokens k h = viable_front (take k tokens) (drop k tokens) (subst (λ (ts : List Token). IsViable ts) (sym (take-append-drop k tokens)) h)

pub viable_run : (tokens : List Token) → IsViable tokens → (s : m.Phase × ℕ) × (m.run m.Begin 0 tokens ≡ Ok s)
viable_run tokens h = by_step (m.run m.Begin 0 tokens) refl where
  by_step : (step : m.UnitStep) → m.run m.Begin 0 tokens ≡ step → (s : m.Phase × ℕ) × (m.run m.Begin 0 tokens ≡ Ok s)
  by_step (Ok s) e = (s, e)
  by_step (Err number) e = absurd (run-not_viable tokens number e h)

-- ---- one more word

pub run_push : (front : List Token) (token : Token) (phase : m.Phase) (depth : ℕ) → m.run m.Begin 0 front ≡ Ok (m.phase_state phase depth) → m.run m.Begin 0 (front ++ token ∷ []) ≡ m.next phase depth token.kind (m.could_label token)
run_push front token phase depth e = grind (arith, common_steps, run-append front (token ∷ []) m.Begin 0 (phase, depth) e) steps 200000

take_push : (tokens : List Token) (word : ℕ) (token : Token) → slice_get tokens word ≡ Some token → take (suc word) tokens ≡ take word tokens ++ token ∷ []
take_push [] word token e = absurd cc
take_push (first ∷ tokens) zero token e = let same : first ≡ token = cc in ap (λ (t : Token). t ∷ []) same
take_push (first ∷ tokens) (suc word) token e = ap (λ (ts : List Token). first ∷ ts) (take_push tokens word token e)

pub run_next : (tokens : List Token) (word : ℕ) (token : Token) (phase : m.Phase) (depth : ℕ) → slice_get tokens word ≡ Some token → m.run m.Begin 0 (take word tokens) ≡ Ok (m.phase_state phase depth)
    → m.run m.Begin 0 (take (word + 1) tokens) ≡ m.next phase depth token.kind (m.could_label token)
run_next tokens word token phase depth there e = ap (m.run m.Begin 0) (let one : word + 1 ≡ suc word = omega arith in ap (λ (n : ℕ). take n tokens) one
    ∙ take_push tokens word token there) ∙ run_push (take word tokens) token phase depth e

-- ---- where a unit may begin

pub begins_only : (phase : m.Phase) (depth : ℕ) (b : Bool) (s : m.Phase × ℕ) → m.next phase depth (kinds.Keyword BlockStart) b ≡ Ok s → phase ≡ m.Begin
begins_only phase depth b s e = grind (arith, common_steps) steps 200000

abbrev some_start : Token
some_start = record { kind = kinds.Keyword BlockStart; bytes = []; start = 0 }

pub may_begin_from : (front : List Token) (depth : ℕ) → m.run m.Begin 0 front ≡ Ok (m.phase_state m.Begin depth) → MayBegin front
may_begin_from front depth e = (some_start, refl, run-IsViable (front ++ some_start ∷ []) (m.Begin, suc depth) (run_push front some_start m.Begin depth e))

pub may_begin_phase : (front : List Token) (phase : m.Phase) (depth : ℕ) → m.run m.Begin 0 front ≡ Ok (m.phase_state phase depth) → MayBegin front → phase ≡ m.Begin
may_begin_phase front phase depth e (begin, is, viable) =
    let all = viable_run (front ++ begin ∷ []) viable in
    begins_only phase depth (m.could_label begin) all.0 (ap (λ (k : WordKind). m.next phase depth k (m.could_label begin)) (sym is) ∙ (sym (run_push front begin phase depth e) ∙ all.1))

pub may_begin : (front : List Token) → MayBegin front ↔ ((depth : ℕ) × (m.run m.Begin 0 front ≡ Ok (m.Begin, depth)))
may_begin front = (to, λ h. may_begin_from front h.0 h.1) where
  to : MayBegin front → (depth : ℕ) × (m.run m.Begin 0 front ≡ Ok (m.Begin, depth))
  to h =
      let before = viable_run front (viable_front front (h.0 ∷ []) h.2) in
      (before.0.1, before.1 ∙ ap (λ (p : m.Phase). Ok (p, before.0.1)) (may_begin_phase front before.0.0 before.0.1 before.1 h))

-- ---- where an inclusion has begun

including_only : (phase : m.Phase) (depth : ℕ) (b : Bool) (s : m.Phase × ℕ) → m.next phase depth (kinds.Keyword InclusionStart) b ≡ Ok s → s.0 ≡ m.Including
including_only m.Begin zero b s e = let same : m.phase_state m.Including 0 ≡ s = cc in sym (ap (λ (s : m.Phase × ℕ). s.0) same)
including_only _ _ b s e = absurd cc

pub inclusion_phase : (front : List Token) (phase : m.Phase) (depth : ℕ) → m.run m.Begin 0 front ≡ Ok (m.phase_state phase depth) → EndsInInclusion front → phase ≡ m.Including
inclusion_phase front phase depth e (before, begin, joined, is) =
    let all : m.run m.Begin 0 (before ++ begin ∷ []) ≡ Ok (m.phase_state phase depth) = ap (m.run m.Begin 0) (sym joined) ∙ e in
    let first = viable_run before (viable_front before (begin ∷ []) (run-IsViable (before ++ begin ∷ []) (phase, depth) all)) in
    including_only first.0.0 first.0.1 (m.could_label begin) (phase, depth) (ap (λ (k : WordKind). m.next first.0.0 first.0.1 k (m.could_label begin)) (sym is) ∙ (sym (run_push before begin first.0.0 first.0.1 first.1) ∙ all))

abbrev pub reached : m.UnitStep → m.Phase
reached (Ok s) = s.0
reached (Err number) = m.Begin

abbrev includes : m.Phase → Bool
includes m.Including = true
includes _ = false

other_phase : (phase : m.Phase) → includes phase ≡ false → phase ≢ m.Including
other_phase phase other e = false≢true (sym other ∙ ap includes e)

pub to_including : (phase : m.Phase) (depth : ℕ) (kind : WordKind) (b : Bool) → reached (m.next phase depth kind b) ≡ m.Including → kind ≡ kinds.Keyword InclusionStart
to_including m.Begin depth kinds.Plain true e = absurd (other_phase _ refl e)
to_including m.Begin zero (kinds.Keyword BlockEnd) b e = absurd (other_phase _ refl e)
to_including phase depth (kinds.Keyword InclusionStart) b e = refl
to_including _ _ _ _ e = absurd (other_phase _ refl e)

ends_at : (front : List Token) (phase : m.Phase) (depth d : ℕ) → m.run phase depth front ≡ Ok (m.phase_state m.Including d) → ((front ≡ []) × (phase ≡ m.Including)) ⊎ EndsInInclusion front
ends_at [] phase depth d e = inl (refl, ap reached e)
ends_at (token ∷ front) phase depth d e = inr (by_step (λ p q h. ends_at front p q d h) (m.next phase depth token.kind (m.could_label token)) refl e) where
  onto : (s : m.Phase × ℕ) → m.next phase depth token.kind (m.could_label token) ≡ Ok s → ((front ≡ []) × (s.0 ≡ m.Including)) ⊎ EndsInInclusion front → EndsInInclusion (token ∷ front)
  onto s is (inl (none, including)) = ([], token, ap (λ (ts : List Token). token ∷ ts) none, to_including phase depth token.kind (m.could_label token) (ap reached is ∙ including))
  onto s is (inr (before, begin, joined, begins)) = (token ∷ before, begin, ap (λ (ts : List Token). token ∷ ts) joined, begins)

  by_step : ((p : m.Phase) (q : ℕ) → m.run p q front ≡ Ok (m.phase_state m.Including d) → ((front ≡ []) × (p ≡ m.Including)) ⊎ EndsInInclusion front)
      → (step : m.UnitStep) → m.next phase depth token.kind (m.could_label token) ≡ step → m.after step (λ p d. m.run p d front) ≡ Ok (m.phase_state m.Including d) → EndsInInclusion (token ∷ front)
  by_step p0 p1 p2 p3 = grind (arith, common_steps, onto) steps 200000

-- ---- the number of the word that stops

abbrev refused : TextNumber → m.UnitStep
refused number = Err number

ten : (front : List Token) (token : Token) (phase : m.Phase) (depth : ℕ) → m.run m.Begin 0 front ≡ Ok (m.phase_state phase depth) → phase ≢ m.Including → IsKeyword InclusionStart token → IsUnitNumber T10 front token
ten front token phase depth e f is = (λ x. f (inclusion_phase front phase depth e x), is)

abbrev begins : m.Phase → Bool
begins m.Begin = true
begins _ = false

not_beginning : (phase : m.Phase) → begins phase ≡ false → phase ≢ m.Begin
not_beginning phase other e = false≢true (sym other ∙ ap begins e)

abbrev starts_inclusion : WordKind → Bool
starts_inclusion (kinds.Keyword InclusionStart) = true
starts_inclusion _ = false

abbrev ends_block : WordKind → Bool
ends_block (kinds.Keyword BlockEnd) = true
ends_block _ = false

plain_word : (token : Token) → IsPlain token → ¬ IsKeyword InclusionStart token
plain_word token is start = false≢true (ap starts_inclusion (sym is ∙ start))

other_keyword : (token : Token) (k : Keyword) → IsKeyword k token → starts_inclusion (kinds.Keyword k) ≡ false → ¬ IsKeyword InclusionStart token
other_keyword token k is other start = false≢true (sym other ∙ ap starts_inclusion (sym is ∙ start))

pub no_plain : (token : Token) (k : Keyword) → IsKeyword k token → ¬ IsPlain token
no_plain token k is plain = cc

neither : (token : Token) (k : Keyword) → IsKeyword k token → ends_block (kinds.Keyword k) ≡ false → ¬ (IsKeyword BlockEnd token ⊎ IsPlain token)
neither token k is other = grind (arith, common_steps) steps 200000

-- a step that is taken has no number
accepted : (state : m.Phase × ℕ) (number : TextNumber) → Ok state ≡ refused number → ⊥
accepted state number e = cc

inside : (front : List Token) (token : Token) (phase : m.Phase) (depth : ℕ) → m.run m.Begin 0 front ≡ Ok (m.phase_state phase depth) → phase ≢ m.Including → phase ≢ m.Begin → ¬ IsKeyword InclusionStart token → IsUnitNumber T06 front token
inside front token phase depth e f g h = grind (arith, common_steps, inclusion_phase, may_begin_phase) steps 200000

numbered : (a number : TextNumber) (front : List Token) (token : Token) → refused a ≡ refused number → IsUnitNumber a front token → IsUnitNumber number front token
numbered a number front token e h = let same : a ≡ number = cc in subst (λ (n : TextNumber). IsUnitNumber n front token) same h

pub number_of : (phase : m.Phase) (depth : ℕ) (kind : WordKind) (b : Bool) (front : List Token) (token : Token) (number : TextNumber) → m.run m.Begin 0 front ≡ Ok (m.phase_state phase depth)
    → token.kind ≡ kind → m.next phase depth kind b ≡ Err number → IsUnitNumber number front token
number_of m.Begin depth kinds.Plain true front token number e is stops = absurd (accepted _ number stops)
number_of m.Begin depth kinds.Plain false front token number e is stops = numbered T11 number front token stops (may_begin_from front depth e, is)
number_of m.Begin zero (kinds.Keyword BlockEnd) b front token number e is stops = numbered T09 number front token stops (may_begin_from front 0 e, is)
number_of m.Begin (suc depth) (kinds.Keyword BlockEnd) b front token number e is stops = absurd (accepted _ number stops)
number_of m.Begin zero (kinds.Keyword InclusionStart) b front token number e is stops = absurd (accepted _ number stops)
number_of m.Begin (suc depth) (kinds.Keyword InclusionStart) b front token number e is stops = numbered T10 number front token stops (ten front token m.Begin (suc depth) e (other_phase _ refl) is)
number_of m.Begin depth (kinds.Keyword BlockStart) b front token number e is stops = absurd (accepted _ number stops)
number_of m.Begin depth (kinds.Keyword Constants) b front token number e is stops = absurd (accepted _ number stops)
number_of m.Begin depth (kinds.Keyword Variables) b front token number e is stops = absurd (accepted _ number stops)
number_of m.Begin depth (kinds.Keyword Disjoint) b front token number e is stops = absurd (accepted _ number stops)
number_of m.Begin depth (kinds.Keyword k) b front token number e is stops =
    numbered T06 number front token stops (grind (arith, common_steps, inclusion_phase) steps 200000)
number_of m.Labelled depth (kinds.Keyword Floating) b front token number e is stops = absurd (accepted _ number stops)
number_of m.Labelled depth (kinds.Keyword Essential) b front token number e is stops = absurd (accepted _ number stops)
number_of m.Labelled depth (kinds.Keyword Axiom) b front token number e is stops = absurd (accepted _ number stops)
number_of m.Labelled depth (kinds.Keyword Theorem) b front token number e is stops = absurd (accepted _ number stops)
number_of m.Symbols depth kinds.Plain b front token number e is stops = absurd (accepted _ number stops)
number_of m.Symbols depth (kinds.Keyword StatementEnd) b front token number e is stops = absurd (accepted _ number stops)
number_of m.Expression depth kinds.Plain b front token number e is stops = absurd (accepted _ number stops)
number_of m.Expression depth (kinds.Keyword ProofStart) b front token number e is stops = absurd (accepted _ number stops)
number_of m.Including depth kinds.Plain b front token number e is stops = absurd (accepted _ number stops)
number_of m.Including depth (kinds.Keyword k) b front token number e is stops = grind (arith, common_steps, front, no_plain, numbered, ends_at) steps 200000
number_of m.Named depth (kinds.Keyword InclusionEnd) b front token number e is stops = absurd (accepted _ number stops)
number_of phase depth (kinds.Keyword InclusionStart) b front token number e is stops = numbered T10 number front token stops (ten front token phase depth e (other_phase _ refl) is)
number_of phase depth (kinds.Keyword k) b front token number e is stops = numbered T06 number front token stops (inside front token phase depth e (other_phase _ refl) (not_beginning _ refl) (other_keyword token _ is refl))
number_of phase depth kinds.Plain b front token number e is stops = numbered T06 number front token stops (inside front token phase depth e (other_phase _ refl) (not_beginning _ refl) (plain_word token is))

-- a word that stops, with any number that it may have
pub stops_fault : (tokens : List Token) (number : TextNumber) (word : ℕ) → StopsAtWord tokens number word → IsUnitFault tokens number word
stops_fault tokens T07 word h = absurd h.is_number
stops_fault tokens T08 word h = absurd h.is_number
stops_fault tokens number word h = h

abbrev pub stop_at : (tokens : List Token) (word : ℕ) (token : Token) (phase : m.Phase) (depth : ℕ) (number : TextNumber) → slice_get tokens word ≡ Some token → m.run m.Begin 0 (take word tokens) ≡ Ok (m.phase_state phase depth)
    → m.next phase depth token.kind (m.could_label token) ≡ Err number → StopsAtWord tokens number word
stop_at tokens word token phase depth number there e stops = record {
  token = token;
  there = there;
  goes_on = run-IsViable (take word tokens) (phase, depth) e;
  stops = run-not_viable (take (word + 1) tokens) number (run_next tokens word token phase depth there e ∙ stops);
  is_number = number_of phase depth token.kind (m.could_label token) (take word tokens) token number e refl stops;
}

pub stops_at : (tokens : List Token) (word : ℕ) (token : Token) (phase : m.Phase) (depth : ℕ) (number : TextNumber) → slice_get tokens word ≡ Some token → m.run m.Begin 0 (take word tokens) ≡ Ok (m.phase_state phase depth)
    → m.next phase depth token.kind (m.could_label token) ≡ Err number → IsUnitFault tokens number word
stops_at tokens word token phase depth number there e stops = stops_fault tokens number word (stop_at tokens word token phase depth number there e stops)

-- ---- a unit that is not finished

pub ends_in_unit : (tokens : List Token) (word depth : ℕ) → word < length tokens → m.run m.Begin 0 (take word tokens) ≡ Ok (m.phase_state m.Begin depth)
    → ((n : ℕ) → word < n → n ≤ length tokens → (phase : m.Phase) × (d : ℕ) × (m.run m.Begin 0 (take n tokens) ≡ Ok (m.phase_state phase d)) × (phase ≢ m.Begin)) → IsUnitFault tokens T07 word
ends_in_unit tokens word depth within e later = record {
  within = within;
  viable = let last = later (length tokens) within (omega arith) in subst (λ (ts : List Token). IsViable ts) (take_all (length tokens) tokens (omega arith)) (run-IsViable (take (length tokens) tokens) (last.0, last.1) last.2);
  begins = may_begin_from (take word tokens) depth e;
  unfinished = λ n l k h. let there = later n l k in there.3 (may_begin_phase (take n tokens) there.0 there.1 there.2 h);
}

-- ---- one fault at most

-- after the same words, the same word has one number
pub same_number : (front : List Token) (token : Token) (a b : TextNumber) → ¬ (MayBegin front × EndsInInclusion front) → IsUnitNumber a front token → IsUnitNumber b front token → a ≡ b
same_number front token T06 T06 apart f g = refl
same_number front token _ _ apart f g = first_of (cc, grind (arith, common_steps, apart, f, g) steps 200000)

apart_at : (front : List Token) → IsViable front → ¬ (MayBegin front × EndsInInclusion front)
apart_at front h (begins, ends) =
    let x : (viable_run front h).0.0 ≡ m.Begin = may_begin_phase front (viable_run front h).0.0 (viable_run front h).0.1 (viable_run front h).1 begins in
    let y : (viable_run front h).0.0 ≡ m.Including = inclusion_phase front (viable_run front h).0.0 (viable_run front h).0.1 (viable_run front h).1 ends in
    grind (arith, common_steps) steps 200000

pub not_viable_all : (tokens : List Token) (number : TextNumber) (word : ℕ) → StopsAtWord tokens number word → ¬ IsViable tokens
not_viable_all tokens number word h viable = h.stops (viable_take tokens (word + 1) viable)

by_order : (v w : ℕ) → ¬ (v < w) → ¬ (w < v) → v ≡ w
by_order v w f g = omega arith

pub one_stop : (tokens : List Token) (a b : TextNumber) (v w : ℕ) → StopsAtWord tokens a v → StopsAtWord tokens b w → (a ≡ b) × (v ≡ w)
one_stop tokens a b v w f g =
    let place : v ≡ w = by_order v w
    (λ l. (grind (arith, common_steps, take-take (v + 1) w tokens (omega arith), viable_take (take w tokens) (v + 1) g.goes_on) steps 200000))
    (λ l. (grind (arith, common_steps, take-take (w + 1) v tokens (omega arith), viable_take (take v tokens) (w + 1) f.goes_on) steps 200000)) in
    let h : StopsAtWord tokens b v = subst (λ (n : ℕ). StopsAtWord tokens b n) (sym place) g in
    let token : h.token ≡ f.token = cc in
    (same_number (take v tokens) f.token a b (apart_at (take v tokens) f.goes_on) f.is_number (subst (λ (t : Token). IsUnitNumber b (take v tokens) t) token h.is_number), place)

not_all : (tokens : List Token) (word : ℕ) → EndsInUnit tokens word → ¬ MayBegin tokens
not_all tokens word h begins = h.unfinished (length tokens) h.within (omega arith) (subst (λ (ts : List Token). MayBegin ts) (sym (take_all (length tokens) tokens (omega arith))) begins)

-- ---- the counts of `${` and `$}`

pub starts-append : (xs ys : List Token) → starts (xs ++ ys) ≡ starts xs + starts ys
starts-append [] ys = omega arith
starts-append (x ∷ xs) ys = let more : starts (xs ++ ys) ≡ starts xs + starts ys = starts-append xs ys in omega arith

pub ends-append : (xs ys : List Token) → ends (xs ++ ys) ≡ ends xs + ends ys
ends-append [] ys = omega arith
ends-append (x ∷ xs) ys = let more : ends (xs ++ ys) ≡ ends xs + ends ys = ends-append xs ys in omega arith

-- neither `${` nor `$}`
abbrev pub IsInner : Token → Type 0
IsInner token = (is_start_word token.kind ≡ 0) × (is_end_word token.kind ≡ 0)

pub inner_symbols : (symbols tail : List Token) → AllByRecursion IsPlain symbols → AllByRecursion IsInner tail → AllByRecursion IsInner (symbols ++ tail)
inner_symbols [] tail f g = g
inner_symbols (token ∷ symbols) tail f g = ((grind (arith, common_steps) steps 200000), inner_symbols symbols tail f.1 g)

-- no end of the list has more `${` than `$}`
abbrev pub Covered : List Token → Type 0
Covered [] = Unit {0}
Covered (token ∷ tokens) = (starts (token ∷ tokens) ≤ ends (token ∷ tokens)) × Covered tokens

covered_all : (tokens : List Token) → Covered tokens → starts tokens ≤ ends tokens
covered_all [] h = omega arith
covered_all (token ∷ tokens) h = h.0

pub covered_drop : (tokens : List Token) (n : ℕ) → Covered tokens → starts (drop n tokens) ≤ ends (drop n tokens)
covered_drop tokens zero h = covered_all tokens h
covered_drop [] (suc n) h = omega arith
covered_drop (token ∷ tokens) (suc n) h = covered_drop tokens n h.1

pub covered_from : (tokens : List Token) → ((n : ℕ) → starts (drop n tokens) ≤ ends (drop n tokens)) → Covered tokens
covered_from [] h = tt
covered_from (token ∷ tokens) h = (h 0, covered_from tokens (λ n. h (suc n)))

covered_inner : (xs ys : List Token) → AllByRecursion IsInner xs → Covered ys → Covered (xs ++ ys)
covered_inner [] ys f g = g
covered_inner (x ∷ xs) ys f g = grind (arith, common_steps, covered_inner xs ys f.1 g, covered_all (xs ++ ys) (covered_inner xs ys f.1 g)) steps 200000

pub covered-append : (xs ys : List Token) → Covered xs → Covered ys → Covered (xs ++ ys)
covered-append [] ys f g = g
covered-append (x ∷ xs) ys f g = grind (arith, common_steps, covered-append xs ys f.1 g, covered_all ys g, starts-append xs ys, ends-append xs ys) steps 200000

inner_counts : (xs : List Token) → AllByRecursion IsInner xs → (starts xs ≡ 0) × (ends xs ≡ 0)
inner_counts [] h = (refl, refl)
inner_counts (x ∷ xs) h = grind (arith, common_steps, inner_counts xs h.1) steps 200000

balanced_shape : (outside : Bool) (shape : Shape) (tail : List Token) → IsShape outside shape → starts tail ≡ ends tail → starts (shape_tokens shape ++ tail) ≡ ends (shape_tokens shape ++ tail)
balanced_shape outside shape tail is more = grind (arith, common_steps, ends-append, inner_counts, starts-append, inner_symbols) steps 200000

pub start_counts : (token : Token) → IsKeyword BlockStart token → (is_start_word token.kind ≡ 1) × (is_end_word token.kind ≡ 0)
start_counts token is = (ap is_start_word is, ap is_end_word is)

pub end_counts : (token : Token) → IsKeyword BlockEnd token → (is_start_word token.kind ≡ 0) × (is_end_word token.kind ≡ 1)
end_counts token is = (ap is_start_word is, ap is_end_word is)

pub balanced : (outside : Bool) (units : Units) → AreUnits outside units → starts (unit_tokens units) ≡ ends (unit_tokens units)
balanced outside Nothing h = refl
balanced outside (Simple shape later) h = balanced_shape outside shape (unit_tokens later) h.0 (balanced outside later h.1)
balanced outside (Block begin inner end later) h = grind (arith, common_steps, balanced false inner h.1, balanced outside later h.3, end_counts, ends-append, start_counts, starts-append) steps 200000

pub covered : (outside : Bool) (units : Units) → AreUnits outside units → Covered (unit_tokens units)
covered outside Nothing h = tt
covered outside (Simple shape later) h = covered_inner (shape_tokens shape) (unit_tokens later) (grind (arith, common_steps, inner_symbols) steps 200000)
    (covered outside later h.1)
covered outside (Block begin inner end later) h =
    let last : starts (end ∷ unit_tokens later) ≤ ends (end ∷ unit_tokens later) = grind (arith, common_steps, balanced) steps 200000 in
    let even = balanced outside (Block begin inner end later) h in
    (le_of_eq even, covered-append _ (end ∷ unit_tokens later) (covered false inner h.1) (last, covered outside later h.3))

-- ---- a block that is not closed

drop_push : (tokens : List Token) (word : ℕ) (token : Token) → slice_get tokens word ≡ Some token → drop word tokens ≡ token ∷ drop (suc word) tokens
drop_push [] word token e = absurd cc
drop_push (first ∷ tokens) zero token e = let same : first ≡ token = cc in ap (λ (t : Token). t ∷ tokens) same
drop_push (first ∷ tokens) (suc word) token e = drop_push tokens word token e

-- the counts at one word more, for a scan from the end
pub counts_next : (tokens : List Token) (word : ℕ) (token : Token) → slice_get tokens word ≡ Some token → (starts (drop word tokens) ≡ is_start_word token.kind + starts (drop (word + 1) tokens)) ×
    (ends (drop word tokens) ≡ is_end_word token.kind + ends (drop (word + 1) tokens))
counts_next tokens word token e =
    let one : suc word ≡ word + 1 = omega arith in
    grind (arith, common_steps, drop_push tokens word token e) steps 200000

one_open : (tokens : List Token) (v w : ℕ) → EndsInBlock tokens v → EndsInBlock tokens w → ¬ (v < w)
one_open tokens v w f g l =
    let inside = covered_drop (unit_tokens f.inner) (w - (v + 1)) (covered false f.inner f.inside) in
    grind (arith, common_steps, balanced false g.inner g.inside, counts_next tokens w g.begin g.there, inside) steps 200000

-- the machine has a block open at the end
pub block_run : (tokens : List Token) (word : ℕ) → EndsInBlock tokens word → (depth : ℕ) × (m.run m.Begin 0 tokens ≡ Ok (m.phase_state m.Begin (suc depth)))
block_run tokens word h =
    let front = (may_begin (take word tokens)).0 h.begins in
    let begins : m.run m.Begin 0 (take (word + 1) tokens) ≡ Ok (m.phase_state m.Begin (suc front.0)) =
    run_next tokens word h.begin m.Begin front.0 h.there front.1 ∙ ap (λ (k : WordKind). m.next m.Begin front.0 k (m.could_label h.begin)) h.opens in
    let whole = run-append (take (word + 1) tokens) (drop (word + 1) tokens) m.Begin 0 (m.Begin, suc front.0) begins in
    (front.0, grind (arith, common_steps, whole, through_units (suc front.0) h.inner [] h.inside) steps 200000)

block_begins : (tokens : List Token) (word : ℕ) → EndsInBlock tokens word → MayBegin tokens
block_begins tokens word h = let last = block_run tokens word h in may_begin_from tokens (suc last.0) last.1

pub block_viable : (tokens : List Token) (word : ℕ) → EndsInBlock tokens word → IsViable tokens
block_viable tokens word h = let begins = block_begins tokens word h in viable_front tokens (begins.0 ∷ []) begins.2

-- ---- one fault, and none of a whole list

-- a fault is of one of three kinds
abbrev Sorted : List Token → TextNumber → ℕ → Type 0
Sorted tokens number word = (StopsAtWord tokens number word) ⊎ (((number ≡ T07) × EndsInUnit tokens word) ⊎ ((number ≡ T08) × EndsInBlock tokens word))

sorted : (tokens : List Token) (number : TextNumber) (word : ℕ) → IsUnitFault tokens number word → Sorted tokens number word
sorted tokens number word h = grind (arith, common_steps) steps 200000

same_fault : (tokens : List Token) (a b : TextNumber) (v w : ℕ) → Sorted tokens a v → Sorted tokens b w → (a ≡ b) × (v ≡ w)
same_fault tokens a b v w (inl f) (inl g) = one_stop tokens a b v w f g
same_fault tokens a b v w (inl f) (inr (inl g)) = absurd (not_viable_all tokens a v f g.1.viable)
same_fault tokens a b v w (inl f) (inr (inr g)) = absurd (not_viable_all tokens a v f (block_viable tokens w g.1))
same_fault tokens a b v w (inr (inl f)) (inl g) = absurd (not_viable_all tokens b w g f.1.viable)
same_fault tokens a b v w (inr (inl f)) (inr (inl g)) = (f.0 ∙ sym g.0, (by_order v w (λ l. f.1.unfinished w l (le_of_lt g.1.within) g.1.begins) (λ l. g.1.unfinished v l (le_of_lt f.1.within) f.1.begins)))
same_fault tokens a b v w (inr (inl f)) (inr (inr g)) = absurd (not_all tokens v f.1 (block_begins tokens w g.1))
same_fault tokens a b v w (inr (inr f)) (inl g) = absurd (not_viable_all tokens b w g (block_viable tokens v f.1))
same_fault tokens a b v w (inr (inr f)) (inr (inl g)) = absurd (not_all tokens w g.1 (block_begins tokens v f.1))
same_fault tokens a b v w (inr (inr f)) (inr (inr g)) = (f.0 ∙ sym g.0, by_order v w (one_open tokens v w f.1 g.1) (one_open tokens w v g.1 f.1))

pub one_unit_fault : (tokens : List Token) (a b : TextNumber) (v w : ℕ) → IsUnitFault tokens a v → IsUnitFault tokens b w → (a ≡ b) × (v ≡ w)
one_unit_fault tokens a b v w f g = same_fault tokens a b v w (sorted tokens a v f) (sorted tokens b w g)

pub whole_has_no_fault : (tokens : List Token) (number : TextNumber) (word : ℕ) → IsWhole tokens → IsUnitFault tokens number word → ⊥
whole_has_no_fault tokens number word whole h = none (sorted tokens number word h) where
  none : Sorted tokens number word → ⊥
  none (inl f) = not_viable_all tokens number word f (run-IsViable tokens (m.Begin, 0) (IsWhole-run tokens whole))
  none (inr (inl f)) = not_all tokens word f.1 (may_begin_from tokens 0 (IsWhole-run tokens whole))
  none (inr (inr f)) =
      let last = block_run tokens word f.1 in
      let same : m.phase_state m.Begin (suc last.0) ≡ m.phase_state m.Begin 0 = let x : m.run m.Begin 0 tokens ≡ Ok (m.phase_state m.Begin 0) = IsWhole-run tokens whole in cc in
      grind (arith, common_steps) steps 200000

-- ---- the innermost open block, by counts from the end

-- two ways to cut one list
pub cut_twice : {X : Type 0} (xs ys us vs : List X) → xs ++ ys ≡ us ++ vs → ((zs : List X) × (xs ≡ us ++ zs) × (zs ++ ys ≡ vs)) ⊎ ((zs : List X) × (us ≡ xs ++ zs) × (ys ≡ zs ++ vs))
cut_twice xs ys [] vs e = inl (xs, refl, e)
cut_twice [] ys (u ∷ us) vs e = inr (u ∷ us, refl, e)
cut_twice {X = X} (x ∷ xs) ys (u ∷ us) vs e = grind (arith, common_steps, cut_twice xs ys us vs (let rest : xs ++ ys ≡ us ++ vs = cc in rest)) steps 200000

starts-blocks : (depth : ℕ) → starts (blocks depth) ≡ 0
unfolding blocks
starts-blocks zero = refl
starts-blocks (suc depth) = let more : starts (blocks depth) ≡ 0 = starts-blocks depth in let end : is_start_word (key BlockEnd).kind ≡ 0 = ap is_start_word (key-kind BlockEnd) in omega arith

-- `$}` for as many blocks, and then no words, or a first one that is `$}`
first_end : (depth : ℕ) (z : Token) (zs later : List Token) → (z ∷ zs) ++ later ≡ blocks depth → IsKeyword BlockEnd z
unfolding blocks
first_end zero z zs later e = absurd cc
first_end (suc depth) z zs later e = let same : z ≡ key BlockEnd = cc in ap (λ (t : Token). t.kind) same ∙ key-kind BlockEnd

covered_behind : (us ys : List Token) → Covered (us ++ ys) → Covered ys
covered_behind [] ys h = h
covered_behind (u ∷ us) ys h = covered_behind us ys h.1

longer : (xs us zs : List Token) (z : Token) → xs ≡ us ++ z ∷ zs → IsKeyword BlockEnd z → starts xs ≡ ends xs → starts us ≡ ends us → Covered xs → ⊥
longer xs us zs z joined is even inside h = grind (arith, common_steps, covered_all, covered_behind, end_counts, ends-append, starts-append) steps 200000

shorter : (xs us zs later : List Token) (z : Token) (d : ℕ) → us ≡ xs ++ z ∷ zs → (z ∷ zs) ++ later ≡ blocks d → starts xs ≡ ends xs → starts us ≡ ends us → ⊥
shorter xs us zs later z d joined rest even inside =
    grind (arith, common_steps, end_counts, ends-append, first_end, starts-append, starts-blocks d) steps 200000

pub closed_units : (xs : List Token) (depth d : ℕ) → m.run m.Begin (suc depth) xs ≡ Ok (m.phase_state m.Begin d) → starts xs ≡ ends xs → Covered xs → (inner : Units) × AreUnits false inner × (xs ≡ unit_tokens inner)
closed_units xs depth d e even h = both (cut_twice xs (blocks d) (unit_tokens closes.inner) (closes.end ∷ closes.later) closes.joined) where
  closes : Closes (Completes depth) (xs ++ blocks d)
  closes = whole_run (xs ++ blocks d) m.Begin (suc depth) (run-append xs (blocks d) m.Begin (suc depth) (m.Begin, d) e ∙ blocks_run d)

  both : ((zs : List Token) × (xs ≡ unit_tokens closes.inner ++ zs) × (zs ++ blocks d ≡ closes.end ∷ closes.later)) ⊎ ((zs : List Token) × (unit_tokens closes.inner ≡ xs ++ zs) ×
      (blocks d ≡ zs ++ closes.end ∷ closes.later)) → (inner : Units) × AreUnits false inner × (xs ≡ unit_tokens inner)
  both (inl ([], joined, rest)) = (closes.inner, closes.inside, joined ∙ append-nil (unit_tokens closes.inner))
  both (inl (z ∷ zs, joined, rest)) = grind (arith, common_steps, balanced, closes, longer) steps 200000
  both (inr ([], joined, rest)) = (closes.inner, closes.inside, sym (joined ∙ append-nil xs))
  both (inr (z ∷ zs, joined, rest)) = grind (arith, common_steps, balanced, closes, shorter) steps 200000

pub ends_in_block : (tokens : List Token) (word d : ℕ) (token : Token) → m.run m.Begin 0 tokens ≡ Ok (m.phase_state m.Begin d) → slice_get tokens word ≡ Some token → IsKeyword BlockStart token
    → starts (drop (word + 1) tokens) ≡ ends (drop (word + 1) tokens) → ((n : ℕ) → word < n → starts (drop n tokens) ≤ ends (drop n tokens)) → IsUnitFault tokens T08 word
ends_in_block tokens word d token e there opens even fewer = record { begin = token; inner = units.0; there = there; opens = opens; begins = may_begin_from (take word tokens) front.0.1 front_begins; inside = units.1; behind = units.2 } where
  front : (s : m.Phase × ℕ) × (m.run m.Begin 0 (take word tokens) ≡ Ok s)
  front = viable_run (take word tokens) (viable_take tokens word (grind (arith, common_steps, run-IsViable tokens (m.Begin, d) e) steps 200000))

  more : (s : m.Phase × ℕ) × (m.run m.Begin 0 (take (word + 1) tokens) ≡ Ok s)
  more = viable_run (take (word + 1) tokens) (viable_take tokens (word + 1) (grind (arith, common_steps, run-IsViable tokens (m.Begin, d) e) steps 200000))

  front_begins : m.run m.Begin 0 (take word tokens) ≡ Ok (m.phase_state m.Begin front.0.1)
  front_begins = front.1 ∙ ap (λ (p : m.Phase). Ok (p, front.0.1)) (begins_only front.0.0 front.0.1 (m.could_label token) more.0
      (grind (arith, common_steps, front, more, run_next) steps 200000))

  more_begins : m.run m.Begin 0 (take (word + 1) tokens) ≡ Ok (m.phase_state m.Begin (suc front.0.1))
  more_begins = run_next tokens word token m.Begin front.0.1 there front_begins ∙ ap (λ (k : WordKind). m.next m.Begin front.0.1 k (m.could_label token)) opens

  rest : m.run m.Begin (suc front.0.1) (drop (word + 1) tokens) ≡ Ok (m.phase_state m.Begin d)
  rest = sym (run-append (take (word + 1) tokens) (drop (word + 1) tokens) m.Begin 0 (m.Begin, suc front.0.1) more_begins) ∙ ap (m.run m.Begin 0) (take-append-drop (word + 1) tokens) ∙ e

  fewer_behind : (n : ℕ) → starts (drop n (drop (word + 1) tokens)) ≤ ends (drop n (drop (word + 1) tokens))
  fewer_behind n = subst (λ (ts : List Token). starts ts ≤ ends ts) (sym (drop-drop n (word + 1) tokens)) (fewer (word + 1 + n) (omega arith))

  units : (inner : Units) × AreUnits false inner × (drop (word + 1) tokens ≡ unit_tokens inner)
  units = closed_units (drop (word + 1) tokens) front.0.1 d rest even (covered_from (drop (word + 1) tokens) fewer_behind)
