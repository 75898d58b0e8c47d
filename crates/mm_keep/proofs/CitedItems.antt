-- The items that a theorem cites are those whose labels are words that cite.
use Rattle.std.proofs.Common.{rules, ◌≡◌, ◌<◌, ◌⊎◌, ℕ, Bool, true, false, Option, Some, None, List, length, get_or, slice_get, sym, ◌∙◌, subst, inl, inr, arith, ◌↔◌, Contains, slice_index}
use Rattle.std.proofs.lemmas.{Grind.{common_steps}, Bool.{and_parts, and_from, false≢true}, List.{get_or_default}, Option.{same_Some, slice_get-get_or}}
use Rattle.mm_proof.specs.mm_frame.Language.{Base.{BaseView, AreLabelled, said_at, is_proof_at}, Laws.{HasOwnLabels}, Resolving.{IsCarrier}}
use Rattle.mm_proof.specs.mm_verdict.Language.{CitingLaws.{CitesNameAssertions, CitesTellAssertions, IsCiteOf}, BaseLabels.{setting_at}, DecodingLaws.{CitesRise}, VerdictAt.{cites_at, decoding_at}}
use Rattle.mm_proof.specs.mm_verdict.Language.Work.{Judgement}
use Rattle.mm_keep.specs.{Language.{Citations.{CitesItem}, Sessions.{IsAssertion}}, Code.{Cited.{AreRising, HasLabelAmong, IsAmongCited, MarksMore, IsMarked}, KeptCheck.{Kept, said}}}
use Rattle.mm_keep.{specs.Code.KeptSession.{AreChecked, IsCheckedAt, IsKeptAt}, proofs.CitedWords.{rise_pairs}}

-- ---- assertions have labels

pub assertion_carries : (view : BaseView) (label : List ℕ) (i : ℕ) → IsAssertion view label i → IsCarrier view label i
assertion_carries view label i a = grind (arith, common_steps, and_from, and_parts) steps 200000

-- ---- what is cited

-- citations lead to earlier items
pub cites_earlier : (view : BaseView) (j k : ℕ) → CitesItem view j k → k < j
cites_earlier view j k c = c.names.means.0.earlier

number_among : (words : List (List ℕ)) (cites : List ℕ) (n : ℕ) (label : List ℕ) → Contains cites n → slice_get words n ≡ Some label → IsAmongCited words cites (length cites) label
number_among words cites n label c there = grind (arith, common_steps, get_or_default cites c.0 0 n c.1) steps 200000

among_number : (words : List (List ℕ)) (cites : List ℕ) (label : List ℕ) → IsAmongCited words cites (length cites) label → (n : ℕ) × Contains cites n × (slice_get words n ≡ Some label)
among_number words cites label a = grind (arith, common_steps, get_or_default cites a.at (slice_index cites a.at) 0 a.before) steps 200000

module _ (each : CitesNameAssertions) (tell : CitesTellAssertions) (own : HasOwnLabels) (view : BaseView) (said : AreLabelled view) (j : ℕ) (proof : is_proof_at view j ≡ true) where
  -- the label of a cited item is among the words that cite
  cited_among : (k : ℕ) → CitesItem view j k → HasLabelAmong view (said_at view j).proof (cites_at view j) (length (cites_at view j)) k
  cited_among k c =
      let n = (tell view j k said).0 c.names in
      let one = n.1 in
      record { label = one.label; among = number_among (said_at view j).proof (cites_at view j) n.0 one.label one.cites one.there; carrier = one.means.0.carrier }

  -- an item whose label is among them is cited
  among_cited : (k : ℕ) (label : List ℕ) → IsAmongCited (said_at view j).proof (cites_at view j) (length (cites_at view j)) label → IsCarrier view label k → CitesItem view j k
  among_cited k label a carrier =
      let words = (said_at view j).proof in
      let n = among_number words (cites_at view j) label a in
      let m = each view j n.0 n.1 in
      let one = m.1 in
      let same : one.label ≡ label = same_Some one.label label (sym one.there ∙ n.2) in
      let is : m.0 ≡ k = own view m.0 k label (subst (λ l. IsCarrier view l m.0) same one.means.0.carrier) carrier in
      record { theorem = proof; names = (tell view j k said).1 (n.0, subst (IsCiteOf view j n.0) is one) }

  pub marks_cited : (before after : List Bool) → MarksMore (HasLabelAmong view (said_at view j).proof (cites_at view j) (length (cites_at view j))) before after → MarksMore (CitesItem view j) before after
  marks_cited before after more = record { count = more.count; each = λ k. (to k, from k) }
    where
      to : (k : ℕ) → IsMarked after k → IsMarked before k ⊎ CitesItem view j k
      to k m = elim ((more.each k).0 m) [ inl n ↦ inl n | inr h ↦ inr (among_cited k h.label h.among h.carrier) ]

      from : (k : ℕ) → IsMarked before k ⊎ CitesItem view j k → IsMarked after k
      from k (inl m) = (more.each k).1 (inl m)
      from k (inr c) = (more.each k).1 (inr (cited_among k c))

  pub among_earlier : (k : ℕ) → HasLabelAmong view (said_at view j).proof (cites_at view j) (length (cites_at view j)) k → k < j
  among_earlier k h = cites_earlier view j k (among_cited k h.label h.among h.carrier)

  -- one of them is the label of an assertion exactly when this is cited
  pub label_cited : (label : List ℕ) (i : ℕ) → IsAssertion view label i → IsAmongCited (said_at view j).proof (cites_at view j) (length (cites_at view j)) label ↔ CitesItem view j i
  label_cited label i a = (λ among. among_cited i label among (assertion_carries view label i a), to)
    where
      to : CitesItem view j i → IsAmongCited (said_at view j).proof (cites_at view j) (length (cites_at view j)) label
      to c =
          let h = cited_among i c in
          let same : h.label ≡ label = same_Some h.label label (sym h.carrier.label_is ∙ a.label_is) in
          subst (IsAmongCited (said_at view j).proof (cites_at view j) (length (cites_at view j))) same h.among

-- no other item cites
pub none_cited : (view : BaseView) (j k : ℕ) → is_proof_at view j ≡ false → CitesItem view j k → ⊥
none_cited view j k none c = false≢true (sym none ∙ c.theorem)

-- ---- what a check of an item says, as it is kept

said_of : (view : BaseView) (j : ℕ) (kept : Kept) → IsKeptAt view j kept → IsCheckedAt view j (said kept)
said_of view j None is = is
said_of view j (Some None) is = absurd is
said_of view j (Some (Some judgement)) is = is

pub checked_at : (view : BaseView) (checked : List Kept) (j : ℕ) (one : Option Judgement) → AreChecked view checked → j < length view → said (get_or checked j None) ≡ one → IsCheckedAt view j one
checked_at view checked j one are within e = search (rules, said_of, slice_get-get_or)

-- the numbers of its words rise
pub cites_rising : CitesRise → (view : BaseView) (j : ℕ) (cites : List ℕ) → cites ≡ cites_at view j → AreRising cites
cites_rising rise view j cites e = subst AreRising (sym e) (rise_pairs (cites_at view j) (rise (setting_at view j) (said_at view j).proof (decoding_at view j)))
