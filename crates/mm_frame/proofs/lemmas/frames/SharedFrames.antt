-- Assertions with the same mandatory hypotheses and the same active `$d` have the same mandatory pairs.
use Rattle.std.proofs.lemmas.{Grind.{common_steps}, Bool.{or_cases, and_parts}, Option.{slice_get_within, slice_get-get_or, get_or_from_slice_get, same_Some}, List.{take-append-le}}
use Rattle.std.proofs.Common.{◌≡◌, ℕ, ◌<◌, Bool, true, Option, Some, None, List, [], ◌∷◌, ◌++◌, length, take, drop, filter, flat_map, slice_get, refl, sym, ◌∙◌, ap, subst, arith, take-append-drop}
use Rattle.mm_frame.specs.{declared.{frame.Frame.{Frame}, frames.Frames.{Frames}}, Language.{Scope.{active_numbers}, Sound.{AreSound, sound_items}}}
use Rattle.mm_frame.specs.Language.Answering.{AreRows, are_paired, numbers_if, pairs_in_order, told_numbers, typed_variables}
use Rattle.mm_frame.specs.Language.Framing.{active_pairs, expression, frame, is_mandatory, mandatory_hypotheses, mandatory_numbers, mandatory_variables, pairs_of}
use Rattle.mm_frame.specs.Code.{KeptAssertions.{AreFrames, TellsFrame, TellsReach, is_told_framed}, KeptFrames.{AddsEqual, AddsFrame, AddsSame, IsFrameAt, frames_kept}}
use Rattle.mm_frame.{specs.Code.{KeptPairLists.{AreFrontNumbers}, KeptSparse.{value_kept}, LastItems.{is_disjoint_item}}, proofs.lemmas.base.BaseLemmas.{kept_are_sound, kept_front_at, rows_more}}
use Rattle.mm_frame.proofs.lemmas.{frames.{Frames.{float_labelled}, HypothesisNumbers.{from_active_number}}, lists.{Members.{In, get_join}, SharedValues.{value_there}}}
use Rattle.mm_frame.proofs.lemmas.pairs.{ActivePairLemmas.{expression_at_number, flat_same}, FramePairs.{active_in_order, typed_by_numbers, variables_if}, PairListLemmas.{whole_front}}
use Rattle.mm_frame.proofs.lemmas.scope.Facts.{sound_front}
use Rattle.mm_machine.specs.Language.{Frame.{Symbol}, NumberedSymbols.{ArePairsRead}}
use Rattle.mm_statement.specs.Language.Item.{Said, passed, is_kind, is_labelled, Floating, item_at}

-- a mandatory hypothesis reads after all items as at its own place
record OwnPlace (before : List Said) (n : ℕ) : Type 0 where
  item : Said
  there : slice_get before n ≡ Some item
  same : expression before item ≡ expression (take n before) item

mandatory_labelled : (mandatory : List (List ℕ)) (x : Said) → is_mandatory mandatory x ≡ true → is_labelled x.kind ≡ true
mandatory_labelled mandatory x m = grind (arith, common_steps, and_parts, float_labelled, or_cases) steps 200000

own_place : (before : List Said) (item : Said) (n : ℕ) → AreSound before → In n (mandatory_numbers before item) → OwnPlace before n
own_place before item n h m =
    let mandatory = mandatory_variables before item in
    let r = from_active_number (is_mandatory mandatory) before n m in
    record { item = r.0; there = r.1; same = expression_at_number before h n r.0 r.1 r.2 (mandatory_labelled mandatory r.0 r.3) }

-- so the variables of the mandatory `$f` are the same
abbrev variables_read : List Said → ℕ → List Symbol
variables_read before n = variables_if (is_kind Floating (item_at before n).kind) (expression before (item_at before n))

same_read : (before more : List Said) (n : ℕ) → OwnPlace (before ++ more) n → OwnPlace before n → variables_read (before ++ more) n ≡ variables_read before n
same_read before more n a b =
    let later = before ++ more in
    let read = λ (w : List Said) (x : Said). variables_if (is_kind Floating x.kind) (expression w x) in
    let one : a.item ≡ b.item = same_Some a.item b.item (sym a.there ∙ get_join before more n b.item b.there) in
    let front : take n later ≡ take n before = take-append-le n before more (let w = slice_get_within before n b.item b.there in omega arith) in
    ap (read later) (get_or_from_slice_get later n a.item passed a.there)
    ∙ ap (variables_if (is_kind Floating (a.item).kind)) a.same
    ∙ (λ i. read (front i) (one i))
    ∙ ap (variables_if (is_kind Floating (b.item).kind)) (sym b.same)
    ∙ ap (read before) (sym (get_or_from_slice_get before n b.item passed b.there))

typed_same : (before more : List Said) (item other : Said) → AreSound (before ++ more) → mandatory_numbers (before ++ more) item ≡ mandatory_numbers before other
    → typed_variables (mandatory_hypotheses (before ++ more) item) ≡ typed_variables (mandatory_hypotheses before other)
typed_same before more item other h e =
    let later = before ++ more in
    typed_by_numbers later item
    ∙ flat_same (variables_read later) (variables_read before) (mandatory_numbers later item)
    (λ n m. same_read before more n (own_place later item n h m) (own_place before other n (sound_front before more h) (subst (In n) e m)))
    ∙ ap (flat_map (variables_read before)) e ∙ sym (typed_by_numbers before other)

-- and the pairs
pub pairs_again : (before more : List Said) (item other : Said) (reach : ℕ) → AreSound (before ++ more) → mandatory_numbers (before ++ more) item ≡ mandatory_numbers before other
    → AreFrontNumbers before (active_numbers is_disjoint_item before) reach → AreFrontNumbers (before ++ more) (active_numbers is_disjoint_item (before ++ more)) reach
    → pairs_in_order (frame before other) ≡ pairs_in_order (frame (before ++ more) item)
pairs_again before more item other reach h e was now =
    let later = before ++ more in
    let first = sound_front before more h in
    let actives : active_pairs before ≡ active_pairs later =
    sym (whole_front before (active_numbers is_disjoint_item before) reach first refl was) ∙ ap active_pairs (sym (take-append-le reach before more was.within))
    ∙ whole_front later (active_numbers is_disjoint_item later) reach h refl now in
    sym (active_in_order before other first) ∙ (λ i. filter (are_paired (actives i)) (pairs_of (sym (typed_same before more item other h e) i))) ∙ active_in_order later item h

-- ---- the rows

told_some : (b : Bool) (before : List Said) (item : Said) (xs : List ℕ) → Some xs ≡ numbers_if b before item → xs ≡ mandatory_numbers before item
told_some b before item xs e = grind (arith, common_steps) steps 200000

-- the frame of an earlier assertion with the same hypotheses, made where the same `$d` are active, is that of one more
frame_again : (all : List (List ℕ)) (said : List Said) (item : Said) (frames : Frames) (hypotheses : List ℕ) (reach number : ℕ) → IsFrameAt frames hypotheses reach number → AreFrames all said frames
    → Some hypotheses ≡ told_numbers (sound_items said) item → AreFrontNumbers (sound_items said) (active_numbers is_disjoint_item (sound_items said)) reach
    → TellsFrame all (sound_items said) item (value_kept (frames_kept frames) number)
frame_again all said item frames hypotheses reach number s are e now =
    let there = value_there (frames_kept frames) number s.frame s.there in
    let within : number < length said = (let w = slice_get_within (frames_kept frames) number (Some s.frame) there in omega (arith, are.kept.count)) in
    let other = item_at said number in
    let later = sound_items said in
    let before = take number later in
    let more = drop number later in
    let whole : before ++ more ≡ later = take-append-drop number later in
    let front : sound_items (take number said) ≡ before = sym (kept_front_at said number other (slice_get-get_or said number passed within)) in
    let told : TellsFrame all before other (Some s.frame) = subst (λ w. TellsFrame all w other (Some s.frame)) front (are.kept.each number (Some s.frame) there) in
    let was : AreFrontNumbers before (active_numbers is_disjoint_item before) reach =
    subst (λ w. AreFrontNumbers w (active_numbers is_disjoint_item w) reach) front (are.reaches.each number (Some reach) (value_there frames.reaches number reach s.reach_there)) in
    let numbers : mandatory_numbers later item ≡ mandatory_numbers before other =
    sym (told_some (is_told_framed later item) later item hypotheses e) ∙ sym s.hypotheses_are ∙ told_some (is_told_framed before other) before other s.frame.hypotheses.items told.hypotheses in
    let same : pairs_in_order (frame before other) ≡ pairs_in_order (frame later item) =
    subst (λ w. mandatory_numbers w item ≡ mandatory_numbers before other → AreFrontNumbers w (active_numbers is_disjoint_item w) reach → AreSound w → pairs_in_order (frame before other) ≡ pairs_in_order (frame w item)) whole
    (λ n f h. pairs_again before more item other reach h n was f) numbers now (kept_are_sound said) in
    subst (TellsFrame all later item) (sym s.there) (record { hypotheses = ap Some s.hypotheses_are ∙ e; pairs = subst (λ w. ArePairsRead all w s.frame.pairs.items) same told.pairs })

-- one more item, with what it has
frames_more : (all : List (List ℕ)) (said : List Said) (item : Said) (old new : Frames) (kept : Option Frame) (reach : Option ℕ) → AddsFrame old new kept reach → AreFrames all said old
    → TellsFrame all (sound_items said) item kept → TellsReach (sound_items said) item reach → AreFrames all (said ++ item ∷ []) new
frames_more all said item old new kept reach adds are told known = record {
  kept = subst (AreRows (TellsFrame all) (said ++ item ∷ [])) (sym adds.kept) (rows_more (TellsFrame all) said item (frames_kept old) kept are.kept told);
  reaches = subst (AreRows TellsReach (said ++ item ∷ [])) (sym adds.reaches) (rows_more TellsReach said item old.reaches reach are.reaches known);
}

pub frames_none : (all : List (List ℕ)) (said : List Said) (item : Said) (old new : Frames) → AddsFrame old new None None → AreFrames all said old
    → None ≡ told_numbers (sound_items said) item → AreFrames all (said ++ item ∷ []) new
frames_none all said item old new adds are e = frames_more all said item old new None None adds are (record { hypotheses = e; pairs = tt }) tt

pub frames_same : (all : List (List ℕ)) (said : List Said) (item : Said) (old new : Frames) (hypotheses : List ℕ) (reach : ℕ) → AddsSame old new hypotheses reach → AreFrames all said old
    → Some hypotheses ≡ told_numbers (sound_items said) item → AreFrontNumbers (sound_items said) (active_numbers is_disjoint_item (sound_items said)) reach → AreFrames all (said ++ item ∷ []) new
frames_same all said item old new hypotheses reach adds are e now =
    frames_more all said item old new (value_kept (frames_kept old) adds.number) (Some reach) adds.added are (frame_again all said item old hypotheses reach adds.number adds.same are e now) now

pub frames_equal : (all : List (List ℕ)) (said : List Said) (item : Said) (old new : Frames) (made : Frame) (reach : ℕ) → AddsEqual old new made reach → AreFrames all said old
    → TellsFrame all (sound_items said) item (Some made) → AreFrontNumbers (sound_items said) (active_numbers is_disjoint_item (sound_items said)) reach → AreFrames all (said ++ item ∷ []) new
frames_equal all said item old new made reach adds are told now =
    let equal = adds.equal in
    frames_more all said item old new (Some equal.kept) (Some reach) (record { kept = equal.added; reaches = adds.reaches }) are (record {
      hypotheses = ap Some equal.hypotheses ∙ told.hypotheses;
      pairs = subst (ArePairsRead all (pairs_in_order (frame (sound_items said) item))) (sym equal.pairs) told.pairs;
    }) now
