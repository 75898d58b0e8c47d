-- Something is rightly reported of each item; and a unit behind all others of the top file leaves it as it was.
use Rattle.std.proofs.lemmas.{Grind.{common_steps}, List.{length-map}, Option.{same_Some, slice_get-map}}
use Rattle.std.proofs.Common.{◌≡◌, ◌<◌, ◌≤◌, ℕ, zero, suc, List, [], ◌∷◌, Some, ◌++◌, length, length-append, map, refl, slice_get, sym, ap, ◌∙◌, subst, subst₂, arith, take, is_none}
use Rattle.std.specs.{List.{AllZip}, Option.{option_map}}
use Rattle.mm_proof.specs.mm_store.Language.{Appending.{IsAppended}, Expansion.{IsExpansion}, FilesView.{FilesView, File, files_in, plain}, Keyless.{keyless_item}}
use Rattle.mm_proof.specs.mm_statement.Language.{Database.{IsDatabase, Located}, Item.{Said, item_at}, Laws.{FilesHaveOneDatabase, LocatedAreItems}, Locating.{IsLocated}, Statement.{Says}}
use Rattle.mm_proof.specs.mm_frame.Language.{Base.{base_of, said_at, told_fault}, Framing.{active_pairs, expression, frame, resolve}, Laws.{SaidAreLabelled}, Sound.{sound_items}}
use Rattle.mm_proof.specs.mm_verdict.Language.{ItemLaws.{HasOneVerdictAt, HasVerdictAt, SpotsAreIn}, SameToDecode.{labels_named}, View.{View, view_at, AreSameViews}}
use Rattle.mm_proof.specs.{Language.ViewLaws.{SameViewSameVerdict}, mm_machine.Language.{Frame.{LabelMeaning, Hypothesis, Assertion, Inactive, Unknown}, SameProof.{AreSameMeaning}}}
use Rattle.mm_keep.specs.Language.{Laws.{AppendingKeepsFindings, ItemsHaveFindings}, Told.{IsRightlyTold}}
use Rattle.mm_keep.proofs.{AlikeItems.{AreAlike, BeginAlike, OneReading, got_before, place_stays, same_located}, FindingLaws.{findings, zip_there}, FoundLemmas.{ItemsStand}, ZipLemmas.{zip_found}}
use Rattle.mm_keep.proofs.{HavingLemmas.{Keyed, KeysThere, keyed}, OneAnswers.{AgreeAt, agreed_told, class_of}, PlacedLemmas.{said_there, told_there}}
use Rattle.mm_proof.specs.mm_store.declared.item.Item as store

-- ---- what is reported of an item

pub have_findings : KeysThere → LocatedAreItems → ItemsStand → SaidAreLabelled → HasVerdictAt → SpotsAreIn → ItemsHaveFindings
have_findings keys located stand labelled verdict spots files top items is i less =
    let k = keyed keys located files top items is in
    let within : i < length (base_of items) = omega (arith, less, length-map items (λ (item : Located). item.said)) in
    let told = findings stand labelled verdict spots k.view top k.found (base_of items) k.of_files i within in
    (told.0, subst (λ (all : List File). IsRightlyTold all items i told.0) k.means (told_there spots k.view k.found items k.of_files.each k.located i told.0 told.1))

-- ---- views

same_meaning : (one : LabelMeaning) → AreSameMeaning one one
same_meaning (Hypothesis e) = refl
same_meaning (Assertion frame) = record { expression = refl; hypotheses = refl; pairs = λ x y. (λ h. h, λ h. h) }
same_meaning Inactive = tt
same_meaning Unknown = tt

same_meanings : (all : List LabelMeaning) → AllZip AreSameMeaning all all
same_meanings [] = tt
same_meanings (one ∷ all) = (same_meaning one, same_meanings all)

same_views : (view : View) → AreSameViews view view
same_views view = record { proof = refl; expression = refl; hypotheses = refl; active = λ x y. (λ h. h, λ h. h); meanings = same_meanings view.meanings }

-- the view of an item after these items
abbrev view_after : List Said → Said → View
view_after items item = let before = sound_items items in record {
  proof = item.proof;
  expression = expression before item;
  hypotheses = (frame before item).hypotheses;
  active = active_pairs before;
  meanings = map (resolve before) (labels_named item.proof);
}

-- ---- a unit behind all others

-- what is known of it: the items of before come first, and so do the pieces of each file
pub record AppendingLaws : Type 0 where
  pub items : (old new : FilesView) (top : List ℕ) (items others : List store.Item) → IsAppended top (plain old) (plain new) → IsExpansion (files_in old) top items → IsExpansion (files_in new) top others
      → (more : List store.Item) × (map keyless_item others ≡ map keyless_item items ++ more)
  pub files : (name : List ℕ) (old new : List File) → IsAppended name old new → (n : ℕ) (file other : File) → slice_get old n ≡ Some file → slice_get new n ≡ Some other → (more : List (List ℕ)) × (other.pieces ≡ file.pieces ++ more)

-- what is known of all files, and of the verdicts on their items
pub record Laws : Type 0 where
  pub keys : KeysThere
  pub located : LocatedAreItems
  pub words : OneReading
  pub stand : ItemsStand
  pub labelled : SaidAreLabelled
  pub verdict : HasOneVerdictAt
  pub has_verdict : HasVerdictAt
  pub spots : SpotsAreIn
  pub views : SameViewSameVerdict

zip_count : {A B : Type 0} (R : A → B → Type 0) (xs : List A) (ys : List B) → AllZip R xs ys → length xs ≡ length ys
zip_count R [] [] z = refl
zip_count R (x ∷ xs) (y ∷ ys) z = ap suc (zip_count R xs ys z.1)
zip_count R xs ys z = absurd (grind (arith, common_steps) steps 200000)

same_take : (xs ys : List Said) (n : ℕ) → n ≤ length xs → n ≤ length ys → ((k : ℕ) → k < n → item_at xs k ≡ item_at ys k) → take n xs ≡ take n ys
same_take xs ys zero l m same = refl
same_take (x ∷ xs) (y ∷ ys) (suc n) l m same = λ i. same 0 (omega arith) i ∷ same_take xs ys n (omega (arith, l)) (omega (arith, m)) (λ k less. same (suc k) (omega (arith, less))) i
same_take xs ys n l m same = absurd (grind (arith, common_steps) steps 200000)

module _ (laws : Laws) (old new : List File) (top : List ℕ) (items others : List Located) (a : Keyed old top items) (b : Keyed new top others) (files : BeginAlike (plain a.view) (plain b.view))
    (more : List store.Item) (found : map keyless_item b.found ≡ map keyless_item a.found ++ more) where
  counts_old : length a.found ≡ length items
  counts_old = zip_count (IsLocated a.view) a.found items a.located

  counts_new : length b.found ≡ length others
  counts_new = zip_count (IsLocated b.view) b.found others b.located

  as_many : length items ≤ length others
  as_many = omega (arith, ap length found, length-append (map keyless_item a.found) more, length-map a.found keyless_item, length-map b.found keyless_item, counts_old, counts_new)

  -- an item as it is kept of both files
  record Both (n : ℕ) : Type 0 where
    x : store.Item
    y : store.Item
    one : Located
    is_one : slice_get items n ≡ Some one
    is_copy : slice_get others n ≡ Some one
    alike : AreAlike a.view b.view x y
    here : IsLocated a.view x one
    there : IsLocated b.view y one

  both : (n : ℕ) → n < length items → Both n
  both n less =
      let x = zip_there (IsLocated a.view) a.found items n a.located less in
      let y = zip_there (IsLocated b.view) b.found others n b.located (omega (arith, less, as_many)) in
      let one = zip_found (IsLocated a.view) a.found items n x.0 a.located x.1 in
      let two = zip_found (IsLocated b.view) b.found others n y.0 b.located y.1 in
      let tells = zip_found (Says a.view) a.found (base_of items) n x.0 a.of_files.each x.1 in
      let copies = zip_found (Says b.view) b.found (base_of others) n y.0 b.of_files.each y.1 in
      let alike : AreAlike a.view b.view x.0 y.0 = record {
        files = files;
        item = same_Some (keyless_item x.0) (keyless_item y.0)
            (sym (got_before (map keyless_item a.found) more n (keyless_item x.0) (slice_get-map keyless_item a.found n ∙ ap (option_map keyless_item) x.1))
            ∙ ap (λ all. slice_get all n) (sym found) ∙ slice_get-map keyless_item b.found n ∙ ap (option_map keyless_item) y.1);
        first = one.2.stands;
        second = two.2.stands;
      } in
      let says : Says a.view x.0 one.0.said = subst (Says a.view x.0) (same_Some tells.0 one.0.said (sym tells.1 ∙ slice_get-map (λ (item : Located). item.said) items n ∙ ap (option_map (λ (item : Located). item.said)) one.1)) tells.2 in
      let copied : Says b.view y.0 two.0.said = subst (Says b.view y.0) (same_Some copies.0 two.0.said (sym copies.1 ∙ slice_get-map (λ (item : Located). item.said) others n ∙ ap (option_map (λ (item : Located). item.said)) two.1)) copies.2 in
      let same : one.0 ≡ two.0 = same_located laws.words a.view b.view x.0 y.0 one.0 two.0 alike one.2 two.2 says copied in
      record {
        x = x.0;
        y = y.0;
        one = one.0;
        is_one = one.1;
        is_copy = two.1 ∙ ap Some (sym same);
        alike = alike;
        here = one.2;
        there = subst (IsLocated b.view y.0) (sym same) two.2;
      }

  same_said : (n : ℕ) → n < length items → said_at (base_of items) n ≡ said_at (base_of others) n
  same_said n less =
      let one = both n less in
      said_there laws.spots a.view a.found items a.of_files.each a.located n one.one one.is_one ∙ sym (said_there laws.spots b.view b.found others b.of_files.each b.located n one.one one.is_copy)

  agree : (n : ℕ) → n < length items → AgreeAt (plain a.view) (plain b.view) items others n
  agree n less =
      let base = base_of items in
      let copy = base_of others in
      let one = both n less in
      let counted = length-map items (λ (item : Located). item.said) in
      let recounted = length-map others (λ (item : Located). item.said) in
      let before : take n base ≡ take n copy = same_take base copy n (omega (arith, less, counted)) (omega (arith, less, as_many, recounted)) (λ k earlier. same_said k (omega (arith, earlier, less))) in
      let said = same_said n less in
      let fault : told_fault (sound_items (take n base)) (said_at base n) ≡ told_fault (sound_items (take n copy)) (said_at copy n) = λ i. told_fault (sound_items (before i)) (said i) in
      let view : AreSameViews (view_at base n) (view_at copy n) = subst (λ (view : View). AreSameViews (view_at base n) view) (λ i. view_after (before i) (said i)) (same_views (view_at base n)) in
      record {
        item = one.is_one ∙ sym one.is_copy;
        fault = fault;
        class = λ i. class_of (is_none (fault i)) (said i).kind;
        verdict = λ v w f g. laws.verdict copy n v w
            (laws.views base copy n n (laws.labelled a.view a.found base a.of_files.each) (laws.labelled b.view b.found copy b.of_files.each) view v f.is_verdict) g.is_verdict;
        places = λ x is word letter at there f g.
            let same : one.one ≡ x = same_Some one.one x (sym one.is_one ∙ is) in
            place_stays a.view b.view one.x one.y x one.alike (subst (IsLocated a.view one.x) same one.here) (subst (IsLocated b.view one.y) same one.there) word letter at there f g;
      }

pub findings_stay : Laws → FilesHaveOneDatabase → AppendingLaws → AppendingKeepsFindings
findings_stay laws one appending old new i told top is items item found =
    let a = keyed laws.keys laws.located old.files old.top found.0 found.1 in
    let of_top = subst (λ (name : List ℕ). IsDatabase new.files name items.0) top items.1 in
    let b = keyed laws.keys laws.located new.files old.top items.0 of_top in
    let appended : IsAppended old.top (plain a.view) (plain b.view) = subst₂ (λ (was now : List File). IsAppended old.top was now) (sym a.means) (sym b.means) is in
    let more = appending.items a.view b.view old.top a.found b.found appended a.of_files.expansion b.of_files.expansion in
    let files = appending.files old.top (plain a.view) (plain b.view) appended in
    let base = base_of found.0 in
    let within : i < length base = subst (λ (all : List Located). i < length (base_of all)) (one old.files old.top item.0 found.0 item.1 found.1) item.2 in
    let less : i < length found.0 = omega (arith, within, length-map found.0 (λ (one : Located). one.said)) in
    let many = as_many laws old.files new.files old.top found.0 items.0 a b files more.0 more.1 in
    let there = have_findings laws.keys laws.located laws.stand laws.labelled laws.has_verdict laws.spots new.files old.top items.0 of_top i (omega (arith, less, many)) in
    let agrees = subst₂ (λ (was now : List File). AgreeAt was now found.0 items.0 i) a.means b.means (agree laws old.files new.files old.top found.0 items.0 a b files more.0 more.1 i less) in
    let same = agreed_told old.files new.files found.0 items.0 i agrees told there.0 found.2 there.1 in
    (items.0, items.1, subst (IsRightlyTold new.files items.0 i) (sym same) there.1)
