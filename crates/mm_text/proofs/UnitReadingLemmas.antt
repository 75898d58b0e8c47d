-- The machine goes through whole lists, and through no others.
use Rattle.std.proofs.Common.{[], ◌≡◌, ℕ, zero, suc, Bool, true, false, IsTrue, List, ◌∷◌, ◌++◌, append_assoc, Ok, Err, refl, sym, ap, ◌∙◌, subst, inl, inr, ◌⊎◌, arith, append-nil}
use Rattle.std.{proofs.lemmas.{Grind.{common_steps}, Bool.{false≢true}}, specs.List.{AllByRecursion}}
use Rattle.mm_text.specs.declared.word.Keyword.{Keyword}
use Rattle.mm_text.specs.declared.word.Keyword.TheVariants.{BlockStart, BlockEnd, Constants, Variables, Floating, Essential, Disjoint, Axiom, Theorem, StatementEnd, ProofStart, InclusionStart}
use Rattle.mm_text.specs.declared.{word.{Keyword.TheVariants.{InclusionEnd}, WordKind.{WordKind}}, fault.TextNumber.{TextNumber}}
use Rattle.mm_text.specs.Language.Unit.{Token, IsKeyword, IsPlain, IsLabel, Shape, Declaration, Labelled, Provable, Inclusion, shape_tokens, IsShape, Units, Nothing, Simple, Block, unit_tokens}
use Rattle.mm_text.specs.Language.Unit.{AreUnits, IsWhole, IsViable}
use Rattle.mm_text.specs.declared.word.WordKind.TheVariants as kinds
use Rattle.mm_text.specs.Code.UnitReading as m

abbrev pub outside : ℕ → Bool
outside zero = true
outside (suc depth) = false

pub step_by : (phase : m.Phase) (depth : ℕ) (token : Token) (tokens : List Token) (kind : WordKind) (next : m.Phase × ℕ) → token.kind ≡ kind → m.next phase depth kind (m.could_label token) ≡ Ok next
    → m.run phase depth (token ∷ tokens) ≡ m.run next.0 next.1 tokens
step_by phase depth token tokens kind next is e = grind (arith, common_steps) steps 200000

-- ---- a whole list goes through

pub through_symbols : (depth : ℕ) (symbols tail : List Token) → AllByRecursion IsPlain symbols → m.run m.Symbols depth (symbols ++ tail) ≡ m.run m.Symbols depth tail
through_symbols depth [] tail h = refl
through_symbols depth (token ∷ symbols) tail h = step_by m.Symbols depth token (symbols ++ tail) kinds.Plain (m.Symbols, depth) h.0 refl ∙ through_symbols depth symbols tail h.1

pub through_expression : (depth : ℕ) (symbols tail : List Token) → AllByRecursion IsPlain symbols → m.run m.Expression depth (symbols ++ tail) ≡ m.run m.Expression depth tail
through_expression depth [] tail h = refl
through_expression depth (token ∷ symbols) tail h = step_by m.Expression depth token (symbols ++ tail) kinds.Plain (m.Expression, depth) h.0 refl ∙ through_expression depth symbols tail h.1

pub through_shape : (depth : ℕ) (shape : Shape) (tail : List Token) → IsShape (outside depth) shape → m.run m.Begin depth (shape_tokens shape ++ tail) ≡ m.run m.Begin depth tail
through_shape depth (Declaration keyword symbols end) tail (kind, plain, is) = grind (arith, common_steps, step_by, through_symbols) steps 200000
through_shape depth (Labelled label keyword symbols end) tail (labels, kind, plain, is) = grind (arith, common_steps, step_by, through_symbols) steps 200000
through_shape depth (Provable label keyword symbols proof steps end) tail (labels, theorem, plain, proves, more, is) =
    grind (arith, common_steps, step_by, through_expression, through_symbols) steps 200000
through_shape zero (Inclusion begin name end) tail h = grind (arith, common_steps) steps 200000
through_shape (suc depth) (Inclusion begin name end) tail h = absurd (false≢true h.0)

pub through_units : (depth : ℕ) (units : Units) (tail : List Token) → AreUnits (outside depth) units → m.run m.Begin depth (unit_tokens units ++ tail) ≡ m.run m.Begin depth tail
through_units depth Nothing tail h = refl
through_units depth (Simple shape later) tail h = ap (m.run m.Begin depth) (append_assoc (shape_tokens shape) (unit_tokens later) tail) ∙ through_shape depth shape (unit_tokens later ++ tail) h.0 ∙ through_units depth later tail h.1
through_units depth (Block begin inner end later) tail h =
    grind (arith, common_steps, through_units (suc depth) inner (end ∷ (unit_tokens later ++ tail)) h.1, through_units depth later tail h.3, step_by) steps 200000

-- ---- what goes through is whole

-- symbols to the end of a statement, and then what goes on
pub record Ends (depth : ℕ) (Later : List Token → Type 0) (tokens : List Token) : Type 0 where
  pub symbols : List Token
  pub end : Token
  pub later : List Token
  pub plain : AllByRecursion IsPlain symbols
  pub is_end : IsKeyword StatementEnd end
  pub joined : tokens ≡ (symbols ++ end ∷ []) ++ later
  pub goes_on : Later later

-- units, the end of the innermost block, and then what goes on
pub record Closes (Later : List Token → Type 0) (tokens : List Token) : Type 0 where
  pub inner : Units
  pub end : Token
  pub later : List Token
  pub inside : AreUnits false inner
  pub is_end : IsKeyword BlockEnd end
  pub joined : tokens ≡ unit_tokens inner ++ end ∷ later
  pub goes_on : Later later

-- the words complete as many open blocks
abbrev pub Completes : ℕ → List Token → Type 0
Completes zero tokens = IsWhole tokens
Completes (suc depth) tokens = Closes (Completes depth) tokens

shape_more : (depth : ℕ) (shape : Shape) (tokens : List Token) → IsShape (outside depth) shape → Completes depth tokens → Completes depth (shape_tokens shape ++ tokens)
shape_more zero shape tokens is h = (Simple shape h.0, (is, h.1), ap (λ (ts : List Token). shape_tokens shape ++ ts) h.2)
shape_more (suc depth) shape tokens is h = record {
  inner = Simple shape h.inner;
  end = h.end;
  later = h.later;
  inside = (is, h.inside);
  is_end = h.is_end;
  joined = ap (λ (ts : List Token). shape_tokens shape ++ ts) h.joined ∙ sym (append_assoc (shape_tokens shape) (unit_tokens h.inner) (h.end ∷ h.later));
  goes_on = h.goes_on;
}

block_more : (depth : ℕ) (begin : Token) (tokens : List Token) → IsKeyword BlockStart begin → Completes (suc depth) tokens → Completes depth (begin ∷ tokens)
block_more zero begin tokens is h = (
  Block begin h.inner h.end h.goes_on.0,
  (is, h.inside, h.is_end, h.goes_on.1),
  ap (λ (ts : List Token). begin ∷ (unit_tokens h.inner ++ h.end ∷ ts)) h.goes_on.2 ∙ ap (λ (ts : List Token). begin ∷ ts) (sym h.joined),
)
block_more (suc depth) begin tokens is h =
    let outer = h.goes_on in
    record {
      inner = Block begin h.inner h.end outer.inner;
      end = outer.end;
      later = outer.later;
      inside = (is, h.inside, h.is_end, outer.inside);
      is_end = outer.is_end;
      joined = grind (arith, common_steps) steps 200000;
      goes_on = outer.goes_on;
    }

-- what completes a phase
abbrev pub Meaning : m.Phase → ℕ → List Token → Type 0
Meaning m.Begin depth tokens = Completes depth tokens
Meaning m.Labelled depth tokens = (label : Token) → IsLabel label → Completes depth (label ∷ tokens)
Meaning m.Symbols depth tokens = Ends depth (Completes depth) tokens
Meaning m.Expression depth tokens = (label keyword : Token) → IsLabel label → IsKeyword Theorem keyword → (before : List Token) → AllByRecursion IsPlain before → Completes depth (label ∷ keyword ∷ (before ++ tokens))
Meaning m.Including depth tokens = (begin : Token) → IsTrue (outside depth) → IsKeyword InclusionStart begin → Completes depth (begin ∷ tokens)
Meaning m.Named depth tokens = (begin name : Token) → IsTrue (outside depth) → IsKeyword InclusionStart begin → IsPlain name → Completes depth (begin ∷ name ∷ tokens)

pub all_append : (xs ys : List Token) → AllByRecursion IsPlain xs → AllByRecursion IsPlain ys → AllByRecursion IsPlain (xs ++ ys)
all_append [] ys f g = g
all_append (x ∷ xs) ys f g = (f.0, all_append xs ys f.1 g)

declared : (depth : ℕ) (token : Token) (tokens : List Token) → (IsKeyword Constants token ⊎ (IsKeyword Variables token ⊎ IsKeyword Disjoint token)) → Ends depth (Completes depth) tokens → Completes depth (token ∷ tokens)
declared depth token tokens is h = subst (λ (ts : List Token). Completes depth (token ∷ ts)) (sym h.joined) (shape_more depth (Declaration token h.symbols h.end) h.later (is, h.plain, h.is_end) h.goes_on)

labels : (depth : ℕ) (label token : Token) (tokens : List Token) → IsLabel label → (IsKeyword Floating token ⊎ (IsKeyword Essential token ⊎ IsKeyword Axiom token)) → Ends depth (Completes depth) tokens → Completes depth (label ∷ token ∷ tokens)
labels depth label token tokens is_label is h = subst (λ (ts : List Token). Completes depth (label ∷ token ∷ ts)) (sym h.joined) (shape_more depth (Labelled label token h.symbols h.end) h.later (is_label, is, h.plain, h.is_end) h.goes_on)

proves : (depth : ℕ) (label keyword : Token) (before : List Token) (proof : Token) (tokens : List Token) → IsLabel label → IsKeyword Theorem keyword → AllByRecursion IsPlain before → IsKeyword ProofStart proof → Ends depth (Completes depth) tokens
    → Completes depth (label ∷ keyword ∷ (before ++ proof ∷ tokens))
proves depth label keyword before proof tokens is_label is_theorem plain is h =
    grind (arith, common_steps, shape_more depth (Provable label keyword before proof h.symbols h.end) h.later (is_label, is_theorem, plain, is, h.plain, h.is_end) h.goes_on) steps 200000

one_step : (phase : m.Phase) (depth : ℕ) (token : Token) (tokens : List Token) (kind : WordKind) (is_label : Bool) → ((p : m.Phase) (d : ℕ) → m.run p d tokens ≡ Ok (m.Begin, 0) → Meaning p d tokens)
    → token.kind ≡ kind → m.could_label token ≡ is_label
    → m.after (m.next phase depth kind is_label) (λ p d. m.run p d tokens) ≡ Ok (m.Begin, 0) → Meaning phase depth (token ∷ tokens)
one_step m.Begin depth token tokens kinds.Plain true later is label e = later m.Labelled depth e token (is, label)
one_step m.Begin depth token tokens (kinds.Keyword BlockStart) b later is label e = block_more depth token tokens is (later m.Begin (suc depth) e)
one_step m.Begin (suc depth) token tokens (kinds.Keyword BlockEnd) b later is label e = record { inner = Nothing; end = token; later = tokens; inside = tt; is_end = is; joined = refl; goes_on = later m.Begin depth e }
one_step m.Begin depth token tokens (kinds.Keyword Constants) b later is label e = declared depth token tokens (inl is) (later m.Symbols depth e)
one_step m.Begin depth token tokens (kinds.Keyword Variables) b later is label e = declared depth token tokens (inr (inl is)) (later m.Symbols depth e)
one_step m.Begin depth token tokens (kinds.Keyword Disjoint) b later is label e = declared depth token tokens (inr (inr is)) (later m.Symbols depth e)
one_step m.Begin zero token tokens (kinds.Keyword InclusionStart) b later is label e = later m.Including 0 e token refl is
one_step m.Labelled depth token tokens (kinds.Keyword Floating) b later is label e = λ first is_label. labels depth first token tokens is_label (inl is) (later m.Symbols depth e)
one_step m.Labelled depth token tokens (kinds.Keyword Essential) b later is label e = λ first is_label. labels depth first token tokens is_label (inr (inl is)) (later m.Symbols depth e)
one_step m.Labelled depth token tokens (kinds.Keyword Axiom) b later is label e = λ first is_label. labels depth first token tokens is_label (inr (inr is)) (later m.Symbols depth e)
one_step m.Labelled depth token tokens (kinds.Keyword Theorem) b later is label e = λ first is_label. later m.Expression depth e first token is_label is [] tt
one_step m.Symbols depth token tokens kinds.Plain b later is label e =
    let h = later m.Symbols depth e in
    record { symbols = token ∷ h.symbols; end = h.end; later = h.later; plain = (is, h.plain); is_end = h.is_end; joined = ap (λ (ts : List Token). token ∷ ts) h.joined; goes_on = h.goes_on }
one_step m.Symbols depth token tokens (kinds.Keyword StatementEnd) b later is label e = record { symbols = []; end = token; later = tokens; plain = tt; is_end = is; joined = refl; goes_on = later m.Begin depth e }
one_step m.Expression depth token tokens kinds.Plain b later is label e = λ first keyword is_label is_theorem before plain.
    subst (λ (ts : List Token). Completes depth (first ∷ keyword ∷ ts)) (append_assoc before (token ∷ []) tokens) (later m.Expression depth e first keyword is_label is_theorem (before ++ token ∷ []) (all_append before (token ∷ []) plain (is, tt)))
one_step m.Expression depth token tokens (kinds.Keyword ProofStart) b later is label e = λ first keyword is_label is_theorem before plain. proves depth first keyword before token tokens is_label is_theorem plain is (later m.Symbols depth e)
one_step m.Including depth token tokens kinds.Plain b later is label e = λ first is_outside begins. later m.Named depth e first token is_outside begins is
one_step m.Named depth token tokens (kinds.Keyword InclusionEnd) b later is label e = λ first name is_outside begins plain. shape_more depth (Inclusion first name token) tokens (is_outside, begins, plain, is) (later m.Begin depth e)
one_step _ _ token tokens _ _ later is label e = absurd cc

pub whole_run : (tokens : List Token) (phase : m.Phase) (depth : ℕ) → m.run phase depth tokens ≡ Ok (m.Begin, 0) → Meaning phase depth tokens
whole_run [] m.Begin zero e = (Nothing, tt, refl)
whole_run [] m.Begin (suc depth) e = grind (arith, common_steps) steps 200000
whole_run [] phase depth e = grind (arith, common_steps) steps 200000
whole_run (token ∷ tokens) phase depth e = one_step phase depth token tokens token.kind (m.could_label token) (λ p d. whole_run tokens p d) refl refl e

-- ---- whole, both ways

pub IsWhole-run : (tokens : List Token) → IsWhole tokens → m.run m.Begin 0 tokens ≡ Ok (m.Begin, 0)
IsWhole-run tokens h = ap (m.run m.Begin 0) (sym h.2 ∙ sym (append-nil (unit_tokens h.0))) ∙ through_units 0 h.0 [] h.1

pub run-IsWhole : (tokens : List Token) → m.run m.Begin 0 tokens ≡ Ok (m.Begin, 0) → IsWhole tokens
run-IsWhole tokens e = whole_run tokens m.Begin 0 e

-- ---- viable exactly when the machine goes on

unfoldable pub key : Keyword → Token
key keyword = record { kind = kinds.Keyword keyword; bytes = []; start = 0 }

pub key-kind : (keyword : Keyword) → (key keyword).kind ≡ kinds.Keyword keyword
unfolding key
key-kind keyword = refl

name : Token
name = record { kind = kinds.Plain; bytes = []; start = 0 }

name-kind : name.kind ≡ kinds.Plain
unfolding name
name-kind = refl

-- words that complete a list
unfoldable pub blocks : ℕ → List Token
blocks zero = []
blocks (suc depth) = key BlockEnd ∷ blocks depth

pub blocks_run : (depth : ℕ) → m.run m.Begin depth (blocks depth) ≡ Ok (m.Begin, 0)
unfolding blocks
blocks_run zero = refl
blocks_run (suc depth) = step_by m.Begin (suc depth) (key BlockEnd) (blocks depth) (kinds.Keyword BlockEnd) (m.Begin, depth) (key-kind BlockEnd) refl ∙ blocks_run depth

ended_run : (depth : ℕ) → m.run m.Symbols depth (key StatementEnd ∷ blocks depth) ≡ Ok (m.Begin, 0)
ended_run depth = step_by m.Symbols depth (key StatementEnd) (blocks depth) (kinds.Keyword StatementEnd) (m.Begin, depth) (key-kind StatementEnd) refl ∙ blocks_run depth

pub completed : (phase : m.Phase) (depth : ℕ) → (more : List Token) × (m.run phase depth more ≡ Ok (m.Begin, 0))
completed m.Begin depth = (blocks depth, blocks_run depth)
completed m.Labelled depth = (key Axiom ∷ key StatementEnd ∷ blocks depth, step_by m.Labelled depth (key Axiom) (key StatementEnd ∷ blocks depth) (kinds.Keyword Axiom) (m.Symbols, depth) (key-kind Axiom) refl ∙ ended_run depth)
completed m.Symbols depth = (key StatementEnd ∷ blocks depth, ended_run depth)
completed m.Expression depth = (
  key ProofStart ∷ key StatementEnd ∷ blocks depth,
  step_by m.Expression depth (key ProofStart) (key StatementEnd ∷ blocks depth) (kinds.Keyword ProofStart) (m.Symbols, depth) (key-kind ProofStart) refl ∙ ended_run depth,
)
completed m.Including depth =
    let named : m.run m.Named depth (key InclusionEnd ∷ blocks depth) ≡ Ok (m.Begin, 0) =
    grind (arith, common_steps, blocks_run, key-kind, step_by) steps 200000 in
    (name ∷ key InclusionEnd ∷ blocks depth, step_by m.Including depth name (key InclusionEnd ∷ blocks depth) kinds.Plain (m.Named, depth) name-kind refl ∙ named)
completed m.Named depth = (key InclusionEnd ∷ blocks depth, (grind (arith, common_steps, blocks_run, key-kind, step_by) steps 200000))

after_ok : (step : m.UnitStep) (more : List Token) (front : List Token) (s : m.Phase × ℕ) → m.after step (λ p d. m.run p d front) ≡ Ok s → ((p : m.Phase) (d : ℕ) → m.run p d front ≡ Ok s → m.run p d (front ++ more) ≡ m.run s.0 s.1 more)
    → m.after step (λ p d. m.run p d (front ++ more)) ≡ m.run s.0 s.1 more
after_ok step more front s e later = grind (arith, common_steps) steps 200000

pub run-append : (front more : List Token) (phase : m.Phase) (depth : ℕ) (s : m.Phase × ℕ) → m.run phase depth front ≡ Ok s → m.run phase depth (front ++ more) ≡ m.run s.0 s.1 more
run-append [] more phase depth s e = let same : m.phase_state phase depth ≡ s = cc in ap (λ (s : m.Phase × ℕ). m.run s.0 s.1 more) same
run-append (token ∷ front) more phase depth s e = after_ok (m.next phase depth token.kind (m.could_label token)) more front s e (λ p d h. run-append front more p d s h)

after_err : (step : m.UnitStep) (more : List Token) (front : List Token) (number : TextNumber) → m.after step (λ p d. m.run p d front) ≡ Err number → ((p : m.Phase) (d : ℕ) → m.run p d front ≡ Err number → m.run p d (front ++ more) ≡ Err number)
    → m.after step (λ p d. m.run p d (front ++ more)) ≡ Err number
after_err step more front number e later = grind (arith, common_steps) steps 200000

pub run-append_err : (front more : List Token) (phase : m.Phase) (depth : ℕ) (number : TextNumber) → m.run phase depth front ≡ Err number → m.run phase depth (front ++ more) ≡ Err number
run-append_err [] more phase depth number e = absurd cc
run-append_err (token ∷ front) more phase depth number e = after_err (m.next phase depth token.kind (m.could_label token)) more front number e (λ p d h. run-append_err front more p d number h)

pub run-IsViable : (tokens : List Token) (s : m.Phase × ℕ) → m.run m.Begin 0 tokens ≡ Ok s → IsViable tokens
run-IsViable tokens s e = let last = completed s.0 s.1 in (last.0, run-IsWhole (tokens ++ last.0) (run-append tokens last.0 m.Begin 0 s e ∙ last.1))

pub run-not_viable : (tokens : List Token) (number : TextNumber) → m.run m.Begin 0 tokens ≡ Err number → ¬ IsViable tokens
run-not_viable tokens number e h =
    let goes : m.run m.Begin 0 (tokens ++ h.0) ≡ Ok (m.Begin, 0) = IsWhole-run (tokens ++ h.0) h.1 in
    grind (arith, common_steps, run-append_err) steps 200000
