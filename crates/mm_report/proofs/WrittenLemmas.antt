-- A report as it is written, one item more at a time.
use Rattle.std.proofs.lemmas.{Grind.{common_steps}, Option.{same_Some}, List.{append-nil, length-map, length-take-le, take-append-drop, take_all, take_more}}
use Rattle.std.proofs.Common.{◌≡◌, ◌⊎◌, ℕ, zero, suc, ◌+◌, ◌-◌, ◌<◌, ◌≤◌, Some, Option, List, [], ◌∷◌, ◌++◌, inl, inr, length-append, length, get_or, slice_get, take, drop, refl, sym, ◌∙◌, ap, subst}
use Rattle.std.{proofs.{Common.{append_assoc, arith}, KnownBytes.{Appends-trans}}, specs.Io.KnownBytes.{Appends}}
use Rattle.mm_keep.specs.{mm_store.Language.FilesView.{File}, mm_statement.Language.{Database.{Located, IsDatabase}, Item.{Said, passed}, Laws.{FilesHaveOneDatabase}}}
use Rattle.mm_keep.specs.{mm_frame.Language.Base.{base_of, said_at}, Language.{Laws.{ItemsHaveFindings}, Sessions.{SessionView, IsCount, IsFinding, IsLabelOfItem}}}
use Rattle.mm_keep.specs.Language.Told.{Told, IsRightlyTold, Counts, counts}
use Rattle.mm_script.specs.{declared.stream.Writing.{Writing}, Language.Stream.{written, Stops}}
use Rattle.mm_report.specs.{Code.Written.{ToldUpTo, AreWrittenUpTo, AreAllWritten, FailsWithin}, Language.Report.{item_line, lines, names_of, report, summary, IsReport}}
use Rattle.mm_report.proofs.{ReportLemmas.{lines_join, lines_push}, StreamLemmas.{stops_front, stops_behind}}

-- as many items say something as there are
pub as_many : (items : List Located) → length (base_of items) ≡ length items
as_many items = length-map items (λ (item : Located). item.said)

-- ---- what is reported of the items, one after another

-- an element of a list with one more
pushed : {X : Type 0} (xs : List X) (x : X) (k : ℕ) (y : X) → slice_get (xs ++ x ∷ []) k ≡ Some y → (slice_get xs k ≡ Some y) ⊎ ((k ≡ length xs) × (x ≡ y))
pushed (z ∷ xs) x (suc k) y e = elim (pushed xs x k y e) [ inl h ↦ inl h | inr h ↦ inr (ap suc h.0, h.1) ]
pushed xs x k y e = grind (arith, common_steps, same_Some) steps 200000

told_more : (files : List File) (items : List Located) (n : ℕ) (all : List Told) (one : Told) → IsRightlyTold files items n one → ToldUpTo files items n all → ToldUpTo files items (n + 1) (all ++ one ∷ [])
told_more files items n all one t f = record {
  count = length-append all (one ∷ []) ∙ ap (λ k. k + 1) f.count;
  each = λ k other e. elim (pushed all one k other e) [
    | inl h ↦ f.each k other h
    | inr h ↦ subst (λ m. IsRightlyTold files items m other) (sym (h.0 ∙ f.count)) (subst (IsRightlyTold files items n) h.1 t)
  ];
}

-- what is reported of this many more items, after what is reported of the first ones
told_rest : (files : List File) (items : List Located) (n k : ℕ) (all : List Told) → n + k ≡ length items → ((i : ℕ) → i < length items → (one : Told) × IsRightlyTold files items i one)
    → ToldUpTo files items n all → (rest : List Told) × ToldUpTo files items (length items) (all ++ rest)
told_rest files items n zero all e law f = ([], record { count = ap length (append-nil all) ∙ f.count ∙ omega (arith, e); each = λ i one at. f.each i one (sym (ap (λ (xs : List Told). slice_get xs i) (append-nil all)) ∙ at) })
told_rest files items n (suc k) all e law f =
    let one = law n (omega (arith, e)) in
    let rest = told_rest files items (n + 1) k (all ++ one.0 ∷ []) (omega (arith, e)) law (told_more files items n all one.0 one.1 f) in
    (one.0 ∷ rest.0, subst (ToldUpTo files items (length items)) (append_assoc all (one.0 ∷ []) rest.0) rest.1)

-- ---- lines

-- the lines of the first items begin those of all
lines_begin : (names : List (List ℕ)) (items : List Said) (n : ℕ) (all rest : List Told) → length all ≡ n → n ≤ length items → lines names items (all ++ rest) ≡ lines names (take n items) all ++ lines names (drop n items) rest
lines_begin names items n all rest count within =
    ap (λ (xs : List Said). lines names xs (all ++ rest)) (sym (take-append-drop n items)) ∙ lines_join names (take n items) (drop n items) all rest (count ∙ sym (length-take-le n items within))

-- one more item has its line after those of the items before it
lines_more : (names : List (List ℕ)) (items : List Said) (n : ℕ) (all : List Told) (one : Told) (x : Said) → length all ≡ n → n < length items
    → lines names (take (n + 1) items) (all ++ one ∷ []) ≡ lines names (take n items) all ++ item_line names (get_or items n x) one
lines_more names items n all one x count within =
    ap (λ (xs : List Said). lines names xs (all ++ one ∷ [])) (take_more items n x within) ∙ lines_push names (take n items) all (get_or items n x) one (count ∙ sym (length-take-le n items (omega (arith, within))))

-- ---- what a session answers, of whatever its items are

pub within_is : (session : SessionView) (count i : ℕ) → FilesHaveOneDatabase → IsCount session count → i < count → (items : List Located) → IsDatabase session.files session.top items → i < length items
within_is session count i alone counted less items is =
    let same : counted.0 ≡ items = alone session.files session.top counted.0 items counted.1 is in
    subst (λ (n : ℕ). i < n) (counted.2 ∙ as_many counted.0 ∙ ap (λ (items : List Located). length items) same) less

pub label_is : (session : SessionView) (i : ℕ) (label : Option (List ℕ)) → FilesHaveOneDatabase → IsLabelOfItem session i label → (items : List Located) → IsDatabase session.files session.top items
    → label ≡ (said_at (base_of items) i).label
label_is session i label alone labelled items is =
    let same : labelled.0 ≡ items = alone session.files session.top labelled.0 items labelled.1 is in
    labelled.2 ∙ ap (λ (items : List Located). (said_at (base_of items) i).label) same

-- ---- what is written

module _ (session : SessionView) (old now : Option (List ℕ)) (n : ℕ) (tally : Counts) (one : Told) (alone : FilesHaveOneDatabase) (found : IsFinding session n one) where
  -- what is reported of an item is reported of it whatever the items of the session are
  told_here : (items : List Located) → IsDatabase session.files session.top items → IsRightlyTold session.files items n one
  told_here items is = subst (λ items. IsRightlyTold session.files items n one) (alone session.files session.top found.0 items found.1 is) found.2

  -- the line of one item more, and what is counted then
  pub one_written : (new : Option (List ℕ)) (more : Counts) → ((items : List Located) → IsDatabase session.files session.top items → n < length items)
      → ((items : List Located) → IsDatabase session.files session.top items → Appends now new (item_line (names_of session.files) (said_at (base_of items) n) one))
      → ((all : List Told) → tally ≡ counts all → more ≡ counts (all ++ one ∷ []))
      → AreWrittenUpTo session n old now tally → AreWrittenUpTo session (n + 1) old new more
  one_written new more within line count before items is =
      let so = before items is in
      let names = names_of session.files in
      let base = base_of items in
      let less : n < length base = subst (λ (k : ℕ). n < k) (sym (as_many items)) (within items is) in
      record {
        all = so.all ++ one ∷ [];
        are_told = told_more session.files items n so.all one (told_here items is) so.are_told;
        appends = subst (Appends old new) (sym (lines_more names base n so.all one passed so.are_told.count less)) (Appends-trans old now new _ _ so.appends (line items is));
        are_counted = count so.all so.are_counted;
      }

-- the report of what is reported of all items
report_is : (session : SessionView) (items : List Located) (all : List Told) → IsDatabase session.files session.top items → ToldUpTo session.files items (length items) all
    → IsReport session (report (names_of session.files) (base_of items) all)
report_is session items all is told = record { items = items; of_files = is; all = all; are_told = record { count = told.count; each = told.each }; bytes_are = refl }

module _ {W : Type 0} (contents : W → Option (List ℕ)) (session : SessionView) (a b c : Writing W) where
  -- a write fails in the line of an item, after those of the items before it
  pub line_fails : (n : ℕ) (tally : Counts) (one : Told) → FilesHaveOneDatabase → ItemsHaveFindings → (found : IsFinding session n one) → n < length found.0
      → Stops contents b c (item_line (names_of session.files) (said_at (base_of found.0) n) one)
      → AreWrittenUpTo session n (written contents a) (written contents b) tally → FailsWithin contents session a c
  line_fails n tally one alone law found within stops before =
      let items = found.0 in
      let is = found.1 in
      let base = base_of items in
      let long : length base ≡ length items = as_many items in
      let names = names_of session.files in
      let so = before items is in
      let more = told_more session.files items n so.all one found.2 so.are_told in
      let rest = told_rest session.files items (n + 1) (length items - (n + 1)) (so.all ++ one ∷ []) (omega (arith, within)) (law session.files session.top items is) more in
      let all = (so.all ++ one ∷ []) ++ rest.0 in
      let bytes : lines names base all ≡ (lines names (take n base) so.all ++ item_line names (said_at base n) one) ++ lines names (drop (n + 1) base) rest.0 =
      lines_begin names base (n + 1) (so.all ++ one ∷ []) rest.0 more.count (omega (arith, within, long))
      ∙ ap (λ first. first ++ lines names (drop (n + 1) base) rest.0) (lines_more names base n so.all one passed so.are_told.count (omega (arith, within, long))) in
      let in_lines : Stops contents a c (lines names base all) =
      subst (Stops contents a c) (sym bytes) (stops_front _ (stops_behind contents a b c _ _ so.appends stops)) in
      let in_report : Stops contents a c (report names base all) = stops_front (summary (counts all)) in_lines in
      record {
        failed = in_report.failed;
        begins = record { bytes = report names base all; is_report = report_is session items all is rest.1; appends = in_report.part };
      }

  -- the lines of all items, whole
  all_lines : (tally : Counts) (is : AreAllWritten session (written contents a) (written contents b) tally)
      → Appends (written contents a) (written contents b) (lines (names_of session.files) (base_of is.0) is.2.all)
  all_lines tally is = grind (arith, common_steps, as_many, take_all) steps 200000

  -- or in the summary, after the lines of all items
  pub summary_fails : (tally : Counts) → AreAllWritten session (written contents a) (written contents b) tally → Stops contents b c (summary tally) → FailsWithin contents session a c
  summary_fails tally is stops =
      let base = base_of is.0 in
      let so = is.2 in
      let names = names_of session.files in
      let last : Stops contents b c (summary (counts so.all)) = subst (λ n. Stops contents b c (summary n)) so.are_counted stops in
      let in_report : Stops contents a c (report names base so.all) = stops_behind contents a b c _ _ (all_lines tally is) last in
      record {
        failed = in_report.failed;
        begins = record { bytes = report names base so.all; is_report = report_is session is.0 so.all is.1 so.are_told; appends = in_report.part };
      }

  -- the lines of all items and the summary are the report
  pub report_written : (tally : Counts) → AreAllWritten session (written contents a) (written contents b) tally → Appends (written contents b) (written contents c) (summary tally)
      → (bytes : List ℕ) × IsReport session bytes × Appends (written contents a) (written contents c) bytes
  report_written tally is last =
      let base = base_of is.0 in
      let so = is.2 in
      let names = names_of session.files in (
        report names base so.all,
        report_is session is.0 so.all is.1 so.are_told,
        Appends-trans (written contents a) (written contents b) (written contents c) _ _ (all_lines tally is)
            (subst (λ n. Appends (written contents b) (written contents c) (summary n)) so.are_counted last),
      )
