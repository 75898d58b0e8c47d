-- Which statements are among the sound items, what a sound `$f` reads, and that a pair has two variables.
use Rattle.std.proofs.{lemmas.Bool.{and_parts, false_from_ne_true}, Common.{◌∙◌, ◌≡◌, ◌≢◌, ℕ, true, false, Some, [], ◌∷◌, map, take, slice_get, slice_index_or, sym, ap, inl, inr}}
use Rattle.mm_machine.specs.Language.Frame.{Symbol, ArePair}
use Rattle.mm_statement.specs.Language.Item.{Said, is_kind, Floating, is_labelled, has, variable_of, typecode_of}
use Rattle.mm_frame.specs.Language.{Sound.{sound_items}, Scope.{active_variables}, Framing.{symbol, active_pairs}, Base.{BaseView, before, said_at, hypothesis_at, is_shown_at}, Laws.{is_float_at}}
use Rattle.mm_frame.proofs.lemmas.{base.{BaseLemmas.{kept_are_sound}, FramedItems.{shown_sound}}, frames.{FrameNumbers.{shown_there, shown_kept}, Frames.{float_labelled}}}
use Rattle.mm_frame.proofs.lemmas.{pairs.ActivePairLemmas.{apart_active}, scope.Facts.{not_constant, first_constant, float_variable, float_two}, lists.Members.{contains_in, has_in, in_has}}

-- a statement with a label, among the sound items
pub shown_stands : (base : BaseView) (n : ℕ) (item : Said) → is_labelled item.kind ≡ true
    → (slice_get (sound_items base) n ≡ Some item → (is_shown_at base n ≡ true) × (said_at base n ≡ item))
    × ((is_shown_at base n ≡ true) × (said_at base n ≡ item) → slice_get (sound_items base) n ≡ Some item)
shown_stands base n item t = (
  (λ e. let k = shown_kept base n item e t in (k.1, sym k.0)),
  (λ s. shown_there base n s.0 ∙ ap Some s.1),
)

-- a sound `$f`
pub float_reads : (base : BaseView) (n : ℕ) → is_float_at base n ≡ true
    → (hypothesis_at base n).expression
    ≡ record { name = typecode_of (said_at base n); variable = false } ∷ record { name = variable_of (said_at base n); variable = true } ∷ []
float_reads base n is =
    let front = before base n in
    let item = said_at base n in
    let kinds = and_parts (is_shown_at base n) (is_kind Floating item.kind) is in
    let sound = shown_sound base n kinds.0 in
    let two = float_two front item sound kinds.1 in
    let first = first_constant front item two.0 sound (float_labelled item.kind kinds.1) (ap (λ w. slice_get w 0) two.2) in
    let second = float_variable front item two.1 sound kinds.1 (ap (λ w. slice_get w 1) two.2) in
    let code = false_from_ne_true (has (active_variables front) two.0) (λ h. not_constant front (kept_are_sound (take n base)) two.0 first (has_in (active_variables front) two.0 h)) in
    let name = in_has (active_variables front) two.1 second in
    ap (map (symbol front)) two.2
    ∙ (λ i. record { name = slice_index_or (sym two.2 i) 0 []; variable = code i } ∷ record { name = slice_index_or (sym two.2 i) 1 []; variable = name i } ∷ [])

-- no active pair has one variable twice
pub pairs_are_of_two : (base : BaseView) (i : ℕ) (x y : Symbol) → ArePair (active_pairs (before base i)) x y → x ≢ y
pairs_are_of_two base i x y (inl c) e =
    apart_active (before base i) (kept_are_sound (take i base)) (x, y) (contains_in (x, y) (active_pairs (before base i)) c) (ap (λ (s : Symbol). s.name) e)
pairs_are_of_two base i x y (inr c) e =
    apart_active (before base i) (kept_are_sound (take i base)) (y, x) (contains_in (y, x) (active_pairs (before base i)) c) (ap (λ (s : Symbol). s.name) (sym e))
