-- Derivation: which lists of labels derive which expressions, by hypotheses, assertions and substitutions (Metamath book, section 4.1.4).
use Rattle.std.specs.Prelude.{◌≡◌, ◌≢◌, ℕ, ◌≤◌, List, [], ◌∷◌, ◌++◌, length, map, All}
use Rattle.mm_machine.specs.Language.Frame.{Symbol, Frame, Hypothesis, Assertion, Setting, ArePair, HasVariable}
use Rattle.mm_machine.specs.Language.Substitution.{substituted}

-- some variable is in both lists
abbrev pub ShareVariable : List Symbol → List Symbol → Type 0
ShareVariable xs ys = (x : Symbol) × HasVariable xs x × HasVariable ys x

-- the lists share no variable, and each variable of the one is paired with each of the other
pub record AreApart (active : List (Symbol × Symbol)) (xs ys : List Symbol) : Type 0 where
  pub unshared : ShareVariable xs ys → ⊥
  pub paired : (x y : Symbol) → HasVariable xs x → HasVariable ys y → x ≢ y → ArePair active x y

-- By this substitution the frame takes these entries to this result, which has at most `longest` symbols, its typecode counted. A substitution
-- is given as a total function. Only what it gives for mandatory variables counts (the law `only_mandatory_count`). Each variable of a frame has
-- a mandatory `$f` (the law `places_have_frames` of mm_frame). So this says the same as with a finite map of these variables.
pub record Takes (longest : ℕ) (active : List (Symbol × Symbol)) (frame : Frame) (given : Symbol → List Symbol)
    (entries : List (List Symbol)) (result : List Symbol) : Type 0 where
  pub entries_match : map (λ h. substituted given h.expression) frame.hypotheses ≡ entries
  pub result_matches : substituted given frame.expression ≡ result
  pub apart : All (λ pair. AreApart active (given pair.0) (given pair.1)) frame.pairs
  pub short : length result ≤ longest

mutual
  -- at this place the list of labels derives the expression
  pub data Derives (place : Setting) : List (List ℕ) → List Symbol → Type 0 where
    -- one label, of a hypothesis with that expression
    by_hypothesis : {label : List ℕ} {e : List Symbol} → place.resolve label ≡ Hypothesis e → Derives place (label ∷ []) e
    -- a join of lists that derive the entries, and the label of an assertion that takes these to the result, of at most 1,000,000 symbols
    by_assertion :
        {labels : List (List ℕ)} {label : List ℕ} {frame : Frame} {given : Symbol → List Symbol} {entries : List (List Symbol)} {result : List Symbol} →
        DeriveInOrder place labels entries → place.resolve label ≡ Assertion frame → Takes 1000000 place.active frame given entries result →
        Derives place (labels ++ label ∷ []) result

  -- the list of labels is a join of lists, which derive these expressions, one each, in order
  pub data DeriveInOrder (place : Setting) : List (List ℕ) → List (List Symbol) → Type 0 where
    nothing : DeriveInOrder place [] []
    first_then :
        {first rest : List (List ℕ)} {e : List Symbol} {es : List (List Symbol)} →
        Derives place first e → DeriveInOrder place rest es → DeriveInOrder place (first ++ rest) (e ∷ es)
