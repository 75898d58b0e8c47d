-- What a grammar keeps: the state of the machine, where the unit that is being read begins, and the open blocks.
use Rattle.std.proofs.Common.{[], true, ◌≡◌, ◌≢◌, ◌⊎◌, ℕ, zero, suc, ◌+◌, ◌-◌, ◌<◌, ◌≤◌, List, ◌∷◌, ◌++◌, append_assoc, length, take, drop, slice_get, Some, None, Ok, Err, refl, sym, ap, ◌∙◌, subst}
use Rattle.std.proofs.{Common.{inl, inr, ⊎_elim, arith}, lemmas.{Grind.{common_steps}, Bool.{cases_lt, false≢true}, List.{append-nil, map-append, length-append, length-map, take-append-le, take_all}}}
use Rattle.std.{proofs.Math.Seq.{take-append_seam, drop-append-add}, specs.List.{AllByRecursion}}
use Rattle.mm_text.specs.{declared.{word.{Word.{Word}, WordKind.{WordKind}, Keyword.TheVariants.{BlockStart, BlockEnd}}, fault.TextNumber.{TextNumber}}, Language.Run.{Run, runs}}
use Rattle.mm_text.specs.Language.{Reading.{AreWords, first_bad}, Unit.{Token, IsKeyword, IsPlain, EndsInUnit, EndsInBlock, token_of, tokens_of}, Cut.{StopsUnits, IsFirstFaultAt}}
use Rattle.mm_text.specs.Code.{Grammar.{first_behind, blocks_behind, is_within}, BlockCounts.{is_start_word, is_end_word, starts, ends}}
use Rattle.mm_text.proofs.UnitFaultLemmas.{run_push, stop_at, ends_in_unit, ends_in_block, Covered, covered-append, covered_drop, starts-append, ends-append, start_counts, end_counts}
use Rattle.mm_text.proofs.UnitScanLemmas.{step_counts, is_begin, slice_get_at}
use Rattle.mm_text.specs.Code.UnitReading as m

-- ---- open blocks

-- as many `$}` as `${`, and from no word on fewer
abbrev pub IsClosed : List Token → Type 0
IsClosed tokens = (starts tokens ≡ ends tokens) × Covered tokens

-- a `${` that is open, and what goes on inside
pub record OpensAt (tokens : List Token) (start : ℕ) (Later : List Token → Type 0) : Type 0 where
  pub before : List Token
  pub begin : Token
  pub inner : List Token
  pub joined : tokens ≡ before ++ begin ∷ inner
  pub closed : IsClosed before
  pub opens : IsKeyword BlockStart begin
  pub place : begin.start ≡ start
  pub goes_on : Later inner

-- the open blocks begin at these bytes, the outermost first
abbrev pub Opens : List Token → List ℕ → Type 0
Opens tokens [] = IsClosed tokens
Opens tokens (start ∷ blocks) = OpensAt tokens start (λ inner. Opens inner blocks)

behind : (tokens before inner : List Token) (begin token : Token) → tokens ≡ before ++ begin ∷ inner → tokens ++ token ∷ [] ≡ before ++ begin ∷ (inner ++ token ∷ [])
behind tokens before inner begin token joined = ap (λ (ts : List Token). ts ++ token ∷ []) joined ∙ append_assoc before (begin ∷ inner) (token ∷ [])

-- a later word is inside the block that is open
opens_inside : {Now Later : List Token → Type 0} (start : ℕ) (tokens : List Token) (token : Token) (h : OpensAt tokens start Now) → Later (h.inner ++ token ∷ []) → OpensAt (tokens ++ token ∷ []) start Later
opens_inside start tokens token h later = grind (arith, common_steps) steps 200000

opens_more : (blocks : List ℕ) (tokens : List Token) (token : Token) → Opens tokens blocks → is_start_word token.kind ≡ 0 → is_end_word token.kind ≡ 0 → Opens (tokens ++ token ∷ []) blocks
opens_more [] tokens token h no_start no_end = grind (arith, common_steps, covered-append, ends-append, starts-append) steps 200000
opens_more (start ∷ blocks) tokens token h no_start no_end = opens_inside start tokens token h (opens_more blocks h.inner token h.goes_on no_start no_end)

opens_start : (blocks : List ℕ) (tokens : List Token) (token : Token) → Opens tokens blocks → IsKeyword BlockStart token → Opens (tokens ++ token ∷ []) (blocks ++ token.start ∷ [])
opens_start [] tokens token h opens = grind (arith, common_steps) steps 200000
opens_start (start ∷ blocks) tokens token h opens = opens_inside start tokens token h (opens_start blocks h.inner token h.goes_on opens)

opens_end : (blocks : List ℕ) (last : ℕ) (tokens : List Token) (token : Token) → Opens tokens (blocks ++ last ∷ []) → IsKeyword BlockEnd token → Opens (tokens ++ token ∷ []) blocks
opens_end [] last tokens token h closes = grind (arith, common_steps, behind, covered-append, end_counts, ends-append, start_counts, starts-append) steps 200000
opens_end (start ∷ blocks) last tokens token h closes = opens_inside start tokens token h (opens_end blocks last h.inner token h.goes_on closes)

-- the innermost open block
record Innermost (tokens : List Token) (start : ℕ) : Type 0 where
  before : List Token
  begin : Token
  inner : List Token
  joined : tokens ≡ before ++ begin ∷ inner
  opens : IsKeyword BlockStart begin
  place : begin.start ≡ start
  closed : IsClosed inner

innermost : (blocks : List ℕ) (last : ℕ) (tokens : List Token) → Opens tokens (blocks ++ last ∷ []) → Innermost tokens last
innermost [] last tokens h = record { before = h.before; begin = h.begin; inner = h.inner; joined = h.joined; opens = h.opens; place = h.place; closed = h.goes_on }
innermost (start ∷ blocks) last tokens h =
    let more = innermost blocks last h.inner h.goes_on in
    grind (arith, common_steps, append_assoc h.before (h.begin ∷ more.before) (more.begin ∷ more.inner)) steps 200000

-- ---- what comes after some words

-- a unit that is not finished begins at this byte
pub record Unfinished (tokens : List Token) (first : ℕ) : Type 0 where
  pub before : List Token
  pub begin : Token
  pub inner : List Token
  pub depth : ℕ
  pub joined : tokens ≡ before ++ begin ∷ inner
  pub place : begin.start ≡ first
  pub begins : m.run m.Begin 0 before ≡ Ok (m.phase_state m.Begin depth)
  pub later : (n : ℕ) → length before < n → n ≤ length tokens → (phase : m.Phase) × (d : ℕ) × (m.run m.Begin 0 (take n tokens) ≡ Ok (m.phase_state phase d)) × (phase ≢ m.Begin)

pub record Stands (tokens : List Token) (phase : m.Phase) (first : ℕ) (blocks : List ℕ) : Type 0 where
  pub state : m.run m.Begin 0 tokens ≡ Ok (m.phase_state phase (length blocks))
  pub unit : phase ≢ m.Begin → Unfinished tokens first
  pub opens : Opens tokens blocks

pub stands_none : (first : ℕ) → Stands [] m.Begin first []
stands_none first = record { state = refl; unit = λ other. absurd (other refl); opens = (grind (arith, common_steps) steps 200000) }

pub last_of : (xs : List ℕ) → 0 < length xs → (last : ℕ) × (xs ≡ take (length xs - 1) xs ++ last ∷ [])
last_of [] some = absurd (omega arith)
last_of (x ∷ []) some = (x, refl)
last_of (x ∷ y ∷ xs) some =
    let same : length (x ∷ y ∷ xs) - 1 ≡ suc (length (y ∷ xs) - 1) = omega arith in
    grind (arith, common_steps, last_of (y ∷ xs) (omega arith)) steps 200000

-- the machine counts the open blocks
blocks_more : (kind : WordKind) (blocks : List ℕ) (tokens : List Token) (token : Token) (depth : ℕ) → token.kind ≡ kind → length blocks + is_start_word kind ≡ depth + is_end_word kind
    → Opens tokens blocks → Opens (tokens ++ token ∷ []) (blocks_behind kind blocks token.start)
blocks_more kind blocks tokens token depth is e h = grind (arith, common_steps, last_of, opens_end, opens_more, opens_start) steps 200000

-- ---- one more word

module _ (tokens : List Token) (phase : m.Phase) (first : ℕ) (blocks : List ℕ) (h : Stands tokens phase first blocks) (token : Token) where
  pub stands_more : (next : m.Phase) (depth : ℕ) → m.next phase (length blocks) token.kind (m.could_label token) ≡ Ok (m.phase_state next depth)
      → Stands (tokens ++ token ∷ []) next (first_behind phase first token.start) (blocks_behind token.kind blocks token.start)
  stands_more next depth e = record {
    state = all ∙ ap (λ (d : ℕ). Ok (next, d)) (sym (grind (arith, common_steps) steps 200000));
    unit = λ other. unfinished other (is_begin phase);
    opens = blocks_more token.kind blocks tokens token depth refl (grind (arith, common_steps, step_counts) steps 200000) h.opens;
  } where
    all : m.run m.Begin 0 (tokens ++ token ∷ []) ≡ Ok (m.phase_state next depth)
    all = run_push tokens token phase (length blocks) h.state ∙ e

    here : next ≢ m.Begin → (n : ℕ) → length tokens < n → n ≤ length (tokens ++ token ∷ []) → (phase : m.Phase) × (d : ℕ) × (m.run m.Begin 0 (take n (tokens ++ token ∷ [])) ≡ Ok (m.phase_state phase d)) × (phase ≢ m.Begin)
    here other n l g = (next, depth, ap (m.run m.Begin 0) (take_all n (tokens ++ token ∷ []) (omega (arith, (length-append tokens (token ∷ []))))) ∙ all, other)

    unfinished : next ≢ m.Begin → (phase ≡ m.Begin) ⊎ (phase ≢ m.Begin) → Unfinished (tokens ++ token ∷ []) (first_behind phase first token.start)
    unfinished other (inl is) = grind (arith, common_steps, here other, tokens) steps 200000
    unfinished other (inr inside) =
        let u = h.unit inside in
        record {
          before = u.before;
          begin = u.begin;
          inner = u.inner ++ token ∷ [];
          depth = u.depth;
          joined = behind tokens u.before u.inner u.begin token u.joined;
          place = u.place ∙ sym (grind (arith, common_steps) steps 200000);
          begins = u.begins;
          later = λ n l g. ⊎_elim (λ below. here other n below g)
              (λ above. (let old = u.later n l above in (old.0, old.1, ap (m.run m.Begin 0) (take-append-le n tokens (token ∷ []) above) ∙ old.2, old.3)))
              (cases_lt (length tokens) n);
        }

-- ---- the end

pub stands_unit : (tokens : List Token) (phase : m.Phase) (first : ℕ) (blocks : List ℕ) → Stands tokens phase first blocks → phase ≢ m.Begin
    → (word : ℕ) × (token : Token) × EndsInUnit tokens word × (slice_get tokens word ≡ Some token) × (first ≡ token.start)
stands_unit tokens phase first blocks h other =
    let there : slice_get tokens (length u.before) ≡ Some u.begin =
    ap (λ (ts : List Token). slice_get ts (length u.before)) u.joined ∙ slice_get_at u.before u.inner u.begin in
    let within : length u.before < length tokens = omega (arith, ap length u.joined, length-append u.before (u.begin ∷ u.inner)) in
    let begins : m.run m.Begin 0 (take (length u.before) tokens) ≡ Ok (m.phase_state m.Begin u.depth) = grind (arith, common_steps) steps 200000 in
    (length u.before, u.begin, ends_in_unit tokens (length u.before) u.depth within begins u.later, there, sym u.place) where
      u : Unfinished tokens first
      u = h.unit other

pub stands_block : (tokens : List Token) (first : ℕ) (outer : List ℕ) (at : ℕ) → Stands tokens m.Begin first (outer ++ at ∷ []) → (word : ℕ) × (token : Token) × EndsInBlock tokens word × (slice_get tokens word ≡ Some token) × (at ≡ token.start)
stands_block tokens first outer at h =
    let there : slice_get tokens (length i.before) ≡ Some i.begin = grind (arith, common_steps, slice_get_at) steps 200000 in
    (length i.before, i.begin, ends_in_block tokens (length i.before) (length (outer ++ at ∷ [])) i.begin h.state there i.opens even fewer, there, sym i.place) where
      i : Innermost tokens at
      i = innermost outer at tokens h.opens

      rest : (n : ℕ) → drop (length i.before + suc n) tokens ≡ drop n i.inner
      rest n = ap (drop (length i.before + suc n)) i.joined ∙ drop-append-add i.before (i.begin ∷ i.inner) (suc n)

      even : starts (drop (length i.before + 1) tokens) ≡ ends (drop (length i.before + 1) tokens)
      even = subst (λ (ts : List Token). starts ts ≡ ends ts) (sym (grind (arith, common_steps, rest 0) steps 200000)) i.closed.0

      fewer : (n : ℕ) → length i.before < n → starts (drop n tokens) ≤ ends (drop n tokens)
      fewer n l =
          let k = n - (length i.before + 1) in
          let same : length i.before + suc k ≡ n = omega arith in
          subst (λ (ts : List Token). starts ts ≤ ends ts) (sym (ap (λ (j : ℕ). drop j tokens) (sym same) ∙ rest k)) (covered_drop i.inner k i.closed.1)

-- ---- a word that is refused

pub first_of_units : (text : List ℕ) (found : List Word) (word : Word) (front rest : List Run) (phase : m.Phase) (depth : ℕ) (number : TextNumber) → first_bad text ≡ None → runs text ≡ front ++ rest → AreWords front (found ++ word ∷ [])
    → m.run m.Begin 0 (tokens_of text found) ≡ Ok (m.phase_state phase depth) → m.next phase depth word.kind (m.could_label (token_of text word)) ≡ Err number → IsFirstFaultAt text number word.start
first_of_units text found word front rest phase depth number allowed joined reads state refused =
    let there : slice_get (tokens_of text (found ++ word ∷ [])) n ≡ Some (token_of text word) = grind (arith, common_steps, slice_get_at) steps 200000 in
    let stop = stop_at (tokens_of text (found ++ word ∷ [])) n (token_of text word) phase depth number there before refused in
    told number
    (record { front = front; rest = rest; joined = joined; found = found ++ word ∷ []; read = reads; word = n; last = long; stop = stop; place = refl }) where
      n : ℕ
      n = length (tokens_of text found)

      before : m.run m.Begin 0 (take n (tokens_of text (found ++ word ∷ []))) ≡ Ok (m.phase_state phase depth)
      before = ap (λ (ts : List Token). m.run m.Begin 0 (take n ts)) (grind (arith, common_steps, map-append (token_of text) found (word ∷ [])) steps 200000)
          ∙ ap (m.run m.Begin 0) (take-append_seam (tokens_of text found) (token_of text word ∷ [])) ∙ state

      long : length (found ++ word ∷ []) ≡ n + 1
      long = let a : length (found ++ word ∷ []) ≡ length found + 1 = length-append found (word ∷ []) in let b : n ≡ length found = length-map found (token_of text) in omega arith

      told : (k : TextNumber) → StopsUnits text k word.start → IsFirstFaultAt text k word.start
      told p0 p1 = grind (arith, common_steps) steps 200000

-- ---- plain words inside a statement

pub plain_step : (phase : m.Phase) (depth : ℕ) (token : Token) → is_within phase ≡ true → IsPlain token → m.next phase depth token.kind (m.could_label token) ≡ Ok (m.phase_state phase depth)
plain_step phase depth token within plain = grind (arith, common_steps) steps 200000

-- any number of them leave the phase as it is
pub plain_run : (phase : m.Phase) (depth : ℕ) → is_within phase ≡ true → (tokens : List Token) → AllByRecursion IsPlain tokens → (k : ℕ) → m.run phase depth (take k tokens) ≡ Ok (m.phase_state phase depth)
plain_run phase depth within tokens plain zero = refl
plain_run phase depth within [] plain (suc k) = refl
plain_run phase depth within (token ∷ tokens) plain (suc k) = ap (λ (step : m.UnitStep). m.after step (λ p d. m.run p d (take k tokens))) (plain_step phase depth token within plain.0) ∙ plain_run phase depth within tokens plain.1 k

pub is_no_begin : (phase : m.Phase) → is_within phase ≡ true → phase ≢ m.Begin
is_no_begin phase within is = false≢true (sym (ap is_within is) ∙ within)

pub stands_plain : (tokens more : List Token) (phase : m.Phase) (first : ℕ) (blocks : List ℕ) → is_within phase ≡ true → AllByRecursion IsPlain more → Stands tokens phase first blocks → Stands (tokens ++ more) phase first blocks
stands_plain tokens [] phase first blocks within plain h = subst (λ (ts : List Token). Stands ts phase first blocks) (sym (append-nil tokens)) h
stands_plain tokens (token ∷ more) phase first blocks within plain h =
    let next : Stands (tokens ++ token ∷ []) phase (first_behind phase first token.start) (blocks_behind token.kind blocks token.start) =
    stands_more tokens phase first blocks h token phase (length blocks) (plain_step phase (length blocks) token within plain.0) in
    let here : Stands (tokens ++ token ∷ []) phase first blocks = grind (arith, common_steps) steps 200000 in
    subst (λ (ts : List Token). Stands ts phase first blocks) (append_assoc tokens (token ∷ []) more) (stands_plain (tokens ++ token ∷ []) more phase first blocks within plain.1 here)
