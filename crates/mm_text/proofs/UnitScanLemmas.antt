-- Every list of words is whole or has a fault, and what loops that look for the fault keep.
use Rattle.std.proofs.Common.{[], rules, ◌≡◌, ◌≢◌, ◌⊎◌, ℕ, zero, suc, ◌+◌, ◌<◌, ◌≤◌, Bool, true, List, ◌∷◌, ◌++◌, append_assoc, length, take, drop, slice_get, Some, Ok, Err, refl, sym, ap, ◌∙◌, subst}
use Rattle.std.proofs.{Common.{inl, inr, ⊎_elim, ◌-◌, arith}, lemmas.{Grind.{common_steps}, Bool.{cases_lt}, List.{take_all, take_at}}}
use Rattle.mm_text.specs.declared.{word.{Keyword.TheVariants.{BlockStart, BlockEnd, Floating, InclusionStart, InclusionEnd}, WordKind.{WordKind}}, fault.TextNumber.{TextNumber}}
use Rattle.mm_text.specs.{declared.fault.TextNumber.TheVariants.{T07, T08}, Language.Unit.{Token, IsKeyword, IsWhole, IsViable, IsUnitFault}}
use Rattle.mm_text.{specs.Code.BlockCounts.{is_start_word, is_end_word, starts, ends}, proofs.UnitReadingLemmas.{run-IsViable, run-IsWhole}}
use Rattle.mm_text.proofs.UnitFaultLemmas.{viable_take, viable_run, run_push, may_begin_from, may_begin_phase, stops_at, ends_in_unit, start_counts, end_counts, counts_next, ends_in_block}
use Rattle.mm_text.specs.declared.word.WordKind.TheVariants as kinds
use Rattle.mm_text.specs.Code.UnitReading as m

-- ---- every list is whole or has a fault

-- the machine counts the open blocks
abbrev pub Counts : ℕ → WordKind → m.UnitStep → Type 0
Counts depth kind (Ok s) = depth + is_start_word kind ≡ s.1 + is_end_word kind
Counts depth kind (Err number) = Unit {0}

pub step_counts : (phase : m.Phase) (depth : ℕ) (kind : WordKind) (b : Bool) → Counts depth kind (m.next phase depth kind b)
step_counts m.Begin depth kinds.Plain true = refl
step_counts m.Begin depth (kinds.Keyword BlockStart) b = omega arith
step_counts m.Begin (suc depth) (kinds.Keyword BlockEnd) b = omega arith
step_counts m.Begin zero (kinds.Keyword InclusionStart) b = refl
step_counts m.Labelled depth (kinds.Keyword Floating) b = refl
step_counts m.Symbols depth kinds.Plain b = refl
step_counts m.Expression depth kinds.Plain b = refl
step_counts m.Including depth kinds.Plain b = refl
step_counts m.Named depth (kinds.Keyword InclusionEnd) b = refl
step_counts _ _ _ _ = search rules

pub run_counts : (tokens : List Token) (phase : m.Phase) (depth : ℕ) (s : m.Phase × ℕ) → m.run phase depth tokens ≡ Ok s → depth + starts tokens ≡ s.1 + ends tokens
run_counts [] phase depth s e = let same : m.phase_state phase depth ≡ s = cc in let last : depth ≡ s.1 = ap (λ (s : m.Phase × ℕ). s.1) same in omega arith
run_counts (token ∷ tokens) phase depth s e = by_step (λ p d h. run_counts tokens p d s h) (m.next phase depth token.kind (m.could_label token)) (step_counts phase depth token.kind (m.could_label token)) e where
  by_step : ((p : m.Phase) (d : ℕ) → m.run p d tokens ≡ Ok s → d + starts tokens ≡ s.1 + ends tokens) → (step : m.UnitStep) → Counts depth token.kind step
      → m.after step (λ p d. m.run p d tokens) ≡ Ok s → depth + starts (token ∷ tokens) ≡ s.1 + ends (token ∷ tokens)
  by_step p0 p1 p2 p3 = grind (arith, common_steps) steps 200000

-- from word number `from` on there are `level` more `$}` than `${`, and from no later word on more `${` than `$}`
pub record Scan (tokens : List Token) (from level : ℕ) : Type 0 where
  pub even : level + starts (drop from tokens) ≡ ends (drop from tokens)
  pub fewer : (n : ℕ) → from ≤ n → starts (drop n tokens) ≤ ends (drop n tokens)

-- one word more at the front
scan_more : (tokens : List Token) (word level next : ℕ) (token : Token) → slice_get tokens word ≡ Some token → next + is_start_word token.kind ≡ level + is_end_word token.kind → Scan tokens (word + 1) level → Scan tokens word next
scan_more tokens word level next token there step h = search (rules, cases_lt, counts_next) steps 500000

pub scan_end : (tokens : List Token) (word level : ℕ) (token : Token) → slice_get tokens word ≡ Some token → IsKeyword BlockEnd token → Scan tokens (word + 1) level → Scan tokens word (level + 1)
scan_end tokens word level token there is h = let counts : (is_start_word token.kind ≡ 0) × (is_end_word token.kind ≡ 1) = end_counts token is in scan_more tokens word level (level + 1) token there (omega arith) h

pub scan_start : (tokens : List Token) (word level : ℕ) (token : Token) → slice_get tokens word ≡ Some token → IsKeyword BlockStart token → 0 < level → Scan tokens (word + 1) level → Scan tokens word (level - 1)
scan_start tokens word level token there is some h = let counts : (is_start_word token.kind ≡ 1) × (is_end_word token.kind ≡ 0) = start_counts token is in scan_more tokens word level (level - 1) token there (omega arith) h

pub scan_other : (tokens : List Token) (word level : ℕ) (token : Token) → slice_get tokens word ≡ Some token → ¬ IsKeyword BlockStart token → ¬ IsKeyword BlockEnd token → Scan tokens (word + 1) level → Scan tokens word level
scan_other tokens word level token there f g h = let counts : (is_start_word token.kind ≡ 0) × (is_end_word token.kind ≡ 0) =
    grind (arith, common_steps) steps 200000 in scan_more tokens word level level token there (omega arith) h

-- the scan does not reach the first word if a block is open
pub scan_all : (tokens : List Token) (level d : ℕ) → m.run m.Begin 0 tokens ≡ Ok (m.phase_state m.Begin (suc d)) → Scan tokens 0 level → ⊥
scan_all tokens level d e h = let count : 0 + starts tokens ≡ suc d + ends tokens = run_counts tokens m.Begin 0 (m.Begin, suc d) e in omega arith

place_here : (tokens : List Token) (word : ℕ) → word < length tokens → (token : Token) × (slice_get tokens word ≡ Some token)
place_here [] word l = absurd (omega arith)
place_here (token ∷ tokens) zero l = (token, refl)
place_here (token ∷ tokens) (suc word) l = place_here tokens word (omega arith)

scan_on : (tokens : List Token) (d : ℕ) → m.run m.Begin 0 tokens ≡ Ok (m.phase_state m.Begin (suc d)) → (from level : ℕ) → from ≤ length tokens → Scan tokens from level → (word : ℕ) × IsUnitFault tokens T08 word
scan_on tokens d e zero level l h = absurd (scan_all tokens level d e h)
scan_on tokens d e (suc from) level l h = by_kind there.0.kind refl (λ next g. scan_on tokens d e from next (omega arith) g) where
  there : (token : Token) × (slice_get tokens from ≡ Some token)
  there = place_here tokens from (omega arith)

  start : (level : ℕ) → IsKeyword BlockStart there.0 → Scan tokens (from + 1) level → ((next : ℕ) → Scan tokens from next → (word : ℕ) × IsUnitFault tokens T08 word) → (word : ℕ) × IsUnitFault tokens T08 word
  start zero is h more = (from, (ends_in_block tokens from (suc d) there.0 e there.1 is (omega arith) (λ n l. h.fewer n (omega arith))))
  start (suc level) is h more = more (suc level - 1) (scan_start tokens from (suc level) there.0 there.1 is (omega arith) h)

  by_kind : (kind : WordKind) → there.0.kind ≡ kind → ((next : ℕ) → Scan tokens from next → (word : ℕ) × IsUnitFault tokens T08 word) → (word : ℕ) × IsUnitFault tokens T08 word
  by_kind (kinds.Keyword BlockStart) is more = start level is (grind (arith, common_steps) steps 200000) more
  by_kind (kinds.Keyword BlockEnd) is more = more (level + 1) (scan_end tokens from level there.0 there.1 is (grind (arith, common_steps) steps 200000))
  by_kind _ is more = more level (scan_other tokens from level there.0 there.1 (λ x. cc) (λ x. cc) (grind (arith, common_steps) steps 200000))

pub open_block : (tokens : List Token) (d : ℕ) → m.run m.Begin 0 tokens ≡ Ok (m.phase_state m.Begin (suc d)) → (word : ℕ) × IsUnitFault tokens T08 word
open_block tokens d e = scan_on tokens d e (length tokens) 0 (omega arith) (grind (arith, common_steps) steps 200000)

-- the first word that stops
pub slice_get_at : (front rest : List Token) (token : Token) → slice_get (front ++ token ∷ rest) (length front) ≡ Some token
slice_get_at [] rest token = refl
slice_get_at (first ∷ front) rest token = slice_get_at front rest token

abbrev HasFault : List Token → TextNumber → Type 0
HasFault tokens number = (word : ℕ) × IsUnitFault tokens number word

pub stop_from : (rest front : List Token) (phase : m.Phase) (depth : ℕ) (number : TextNumber) → m.run m.Begin 0 front ≡ Ok (m.phase_state phase depth) → m.run phase depth rest ≡ Err number → (word : ℕ) × IsUnitFault (front ++ rest) number word
stop_from [] front phase depth number e f = absurd cc
stop_from (token ∷ rest) front phase depth number e f = by_step (λ s is h. stop_from rest (front ++ token ∷ []) s.0 s.1 number (run_push front token phase depth e ∙ is) h) (m.next phase depth token.kind (m.could_label token)) refl f where
  by_step : ((s : m.Phase × ℕ) → m.next phase depth token.kind (m.could_label token) ≡ Ok s → m.run s.0 s.1 rest ≡ Err number → (word : ℕ) × IsUnitFault ((front ++ token ∷ []) ++ rest) number word)
      → (step : m.UnitStep) → m.next phase depth token.kind (m.could_label token) ≡ step → m.after step (λ p d. m.run p d rest) ≡ Err number → (word : ℕ) × IsUnitFault (front ++ token ∷ rest) number word
  by_step more (Ok s) is h = subst (λ (ts : List Token). HasFault ts number) (append_assoc front (token ∷ []) rest) (more s is h)
  by_step more (Err other) is h = (length front, stops_at (front ++ token ∷ rest) (length front) token phase depth number (slice_get_at front rest token) (ap (m.run m.Begin 0) (take_at front (token ∷ rest) (length front) refl) ∙ e) (is ∙ h))

-- the last place where a unit may begin
pub record LastBegin (tokens : List Token) (n : ℕ) : Type 0 where
  pub word : ℕ
  pub depth : ℕ
  pub within : word ≤ n
  pub begins : m.run m.Begin 0 (take word tokens) ≡ Ok (m.phase_state m.Begin depth)
  pub later : (k : ℕ) → word < k → k ≤ n → (phase : m.Phase) × (d : ℕ) × (m.run m.Begin 0 (take k tokens) ≡ Ok (m.phase_state phase d)) × (phase ≢ m.Begin)

pub last_more : (tokens : List Token) (n : ℕ) (phase : m.Phase) (depth : ℕ) → m.run m.Begin 0 (take (n + 1) tokens) ≡ Ok (m.phase_state phase depth) → phase ≢ m.Begin → LastBegin tokens n → LastBegin tokens (n + 1)
last_more tokens n phase depth e other h = record { word = h.word; depth = h.depth; within = omega (arith, h.within); begins = h.begins; later = later } where
  later : (k : ℕ) → h.word < k → k ≤ n + 1 → (phase : m.Phase) × (d : ℕ) × (m.run m.Begin 0 (take k tokens) ≡ Ok (m.phase_state phase d)) × (phase ≢ m.Begin)
  later k l g = ⊎_elim (λ above. ((phase, depth, ap (λ (i : ℕ). m.run m.Begin 0 (take i tokens)) (omega arith) ∙ e, other))) (λ below. h.later k l below)
      (cases_lt n k)

pub is_begin : (phase : m.Phase) → (phase ≡ m.Begin) ⊎ (phase ≢ m.Begin)
is_begin phase = grind (arith, common_steps) steps 200000

last_begin : (tokens : List Token) (n : ℕ) → IsViable tokens → LastBegin tokens n
last_begin tokens zero viable = record { word = 0; depth = 0; within = omega arith; begins = refl; later = λ k l g. absurd (omega arith) }
last_begin tokens (suc n) viable =
    let state : (s : m.Phase × ℕ) × (m.run m.Begin 0 (take (suc n) tokens) ≡ Ok s) = viable_run (take (suc n) tokens) (viable_take tokens (suc n) viable) in
    by_phase state.0.0 state.0.1 state.1 (is_begin state.0.0) (last_begin tokens n viable) where
      one : n + 1 ≡ suc n
      one = omega arith

      by_phase : (phase : m.Phase) (depth : ℕ) → m.run m.Begin 0 (take (suc n) tokens) ≡ Ok (m.phase_state phase depth) → (phase ≡ m.Begin) ⊎ (phase ≢ m.Begin) → LastBegin tokens n → LastBegin tokens (suc n)
      by_phase phase depth e (inl is) h = record
          { word = (suc n); depth = depth; within = omega arith; begins = (e ∙ ap (λ (p : m.Phase). Ok (p, depth)) is); later = λ k l g. absurd (omega arith) }
      by_phase phase depth e (inr other) h = subst (λ (k : ℕ). LastBegin tokens k) one (last_more tokens n phase depth (ap (λ (k : ℕ). m.run m.Begin 0 (take k tokens)) one ∙ e) other h)

below : (v w : ℕ) → v ≤ w → v ≢ w → v < w
below v w l other = omega arith

-- the unit that is not finished begins at the last place where one may
pub last_fault : (tokens : List Token) (phase : m.Phase) (depth : ℕ) → m.run m.Begin 0 tokens ≡ Ok (m.phase_state phase depth) → phase ≢ m.Begin → (last : LastBegin tokens (length tokens)) → IsUnitFault tokens T07 last.word
last_fault tokens phase depth e other last = ends_in_unit tokens last.word last.depth (below last.word (length tokens) last.within apart) last.begins last.later where
  apart : last.word ≢ length tokens
  apart is = other (may_begin_phase tokens phase depth e (may_begin_from tokens last.depth (ap (m.run m.Begin 0) (sym (ap (λ (n : ℕ). take n tokens) is ∙ take_all (length tokens) tokens (omega arith))) ∙ last.begins)))

pub whole_or_fault : (tokens : List Token) → IsWhole tokens ⊎ ((number : TextNumber) × (word : ℕ) × IsUnitFault tokens number word)
whole_or_fault tokens = by_run (m.run m.Begin 0 tokens) refl where
  by_state : (phase : m.Phase) (depth : ℕ) → m.run m.Begin 0 tokens ≡ Ok (m.phase_state phase depth) → IsWhole tokens ⊎ ((number : TextNumber) × (word : ℕ) × IsUnitFault tokens number word)
  by_state m.Begin zero e = inl (run-IsWhole tokens e)
  by_state m.Begin (suc depth) e = let fault : (word : ℕ) × IsUnitFault tokens T08 word = open_block tokens depth e in inr (T08, fault.0, fault.1)
  by_state phase depth e = let fault : (word : ℕ) × IsUnitFault tokens T07 word = let last : LastBegin tokens (length tokens) = last_begin tokens
      (length tokens) (run-IsViable tokens (phase, depth) e) in (last.word, last_fault tokens phase depth e (λ e. cc) last) in inr (T07, fault.0, fault.1)

  by_run : (step : m.UnitStep) → m.run m.Begin 0 tokens ≡ step → IsWhole tokens ⊎ ((number : TextNumber) × (word : ℕ) × IsUnitFault tokens number word)
  by_run (Ok s) e = by_state s.0 s.1 e
  by_run (Err number) e = let fault : (word : ℕ) × IsUnitFault tokens number word = stop_from tokens [] m.Begin 0 number refl e in inr (number, fault.0, fault.1)
