-- How a walk goes on, step by step.
use Rattle.std.proofs.Common.{arith, ◌≡◌, ◌≢◌, ℕ, true, false, Some, None, List, [], ◌∷◌, ◌++◌, map, refl, sym, ap, ◌∙◌, subst, append_assoc, append-nil, Contains, ◌⊎◌, inl, inr}
use Rattle.std.{proofs.lemmas.{Grind.{common_steps}, Bool.{false≢true}, List.Elements.{Contains-push_cases, All-from_recursion, recursion_from_All}, Option.{none-some}}, specs.List.{AllByRecursion}}
use Rattle.mm_store.specs.{declared.{item.{Item.{Item}, ItemKind.TheVariants.{Missing}}, walk.PlacedPiece.{PlacedPiece}}, Language.FilesView.{FileView, number_of}}
use Rattle.mm_store.specs.Language.Expansion.{Placed, IsInclusion, placed_item}
use Rattle.mm_store.specs.Language.Walking.{WalkView, ArePending, Goes, IsWalk, HasReported, StandsBefore, MissNothing, MissOnlyTold, GoesOn, StopsOnWay, FindsMissing, FindsEnd}
use Rattle.mm_store.{specs.Code.{Gains.{HoldUnits}, Steps.{PassesTold, Tells, IsStep}}, proofs.lemmas.expansion.{ExpansionLemmas.{OneReading, OneDivision}, NameLemmas.{all_and, kind_missing}}}
use Rattle.mm_store.proofs.lemmas.expansion.{GoesLemmas.{goes_grows, goes_keeps}, StandingLemmas.{next_here, nothing_takes, items_takes}}
use Rattle.mm_store.proofs.lemmas.expansion.WalkStepLemmas.{Went, before, included_first, leaves, comes_again, enters, passes, passes_told, walk_on, walk_ends}
use Rattle.mm_store.specs.declared.walk.Step.TheVariants as steps

abbrev NotMissing : Item → Type 0
NotMissing item = item.kind ≡ Missing → ⊥

miss_both : (a b : List Item) → MissNothing a → MissNothing b → MissNothing (a ++ b)
miss_both a b h k = All-from_recursion NotMissing (a ++ b) (all_and NotMissing a b (recursion_from_All NotMissing a h) (recursion_from_All NotMissing b k))

miss_none : MissNothing []
miss_none = All-from_recursion NotMissing [] tt

own_miss : (parts : List Placed) → AllByRecursion (λ part. ¬ IsInclusion part) parts → AllByRecursion NotMissing (map placed_item parts)
own_miss [] h = tt
own_miss (part ∷ parts) h = ((λ kind. h.0 (kind_missing part.part.kind kind)), own_miss parts h.1)

pub since_first : (files : List FileView) (top : List ℕ) (items : List Item) (first : WalkView) → IsWalk files top items first → StopsOnWay files top items first first
since_first files top items first is = record {
  goes_on = record {
    more = [];
    is_walk = subst (λ items. IsWalk files top items first) (sym (append-nil items)) is;
    few = inl miss_none;
    later = [];
    keeps = sym (append-nil first.names);
    taken = λ name known. inl known;
  };
  same = λ told. refl;
  passed = λ part told stands. inl refl;
}

module _ (files : List FileView) (top : List ℕ) (items : List Item) (first now : WalkView) where
  more_passed : (more gained : List Item) → MissOnlyTold files first more → MissNothing gained → MissOnlyTold files first (more ++ gained)
  more_passed more gained (inl none) h = inl (miss_both more gained none h)
  more_passed more gained (inr (part, later, told, stands, is, none)) h =
      inr (part, later ++ gained, told, stands, ap (λ l. l ++ gained) is, miss_both later gained none h)

  -- the step takes the name of the reference before which the walk stands
  abbrev TakesNext : WalkView → Type 0
  TakesNext new = (part : Placed) → StandsBefore files now part → Contains new.names part.name

  passed_on : (new : WalkView) (pending rest : List Placed) (gained : List Item) → Goes files pending now.names gained rest new.names → TakesNext new
      → ((part : Placed) → first.told ≡ true → StandsBefore files first part → (now ≡ first) ⊎ Contains now.names part.name)
      → (part : Placed) → first.told ≡ true → StandsBefore files first part → (new ≡ first) ⊎ Contains new.names part.name
  passed_on new pending rest gained goes takes before part told stands = inr (by (before part told stands))
    where
      by : (now ≡ first) ⊎ Contains now.names part.name → Contains new.names part.name
      by (inl same) = takes part (subst (λ walk. StandsBefore files walk part) (sym same) stands)
      by (inr known) = goes_grows part.name goes known

  -- each name that the step takes is that of a file
  abbrev TakesFiles : WalkView → Type 0
  TakesFiles new = (name : List ℕ) → Contains new.names name → Contains now.names name ⊎ (number_of files name ≢ None)

  abbrev TakenOf : WalkView → Type 0
  TakenOf walk = (name : List ℕ) → Contains walk.names name → Contains first.names name ⊎ ((number_of files name ≢ None) ⊎ HasReported files first name)

  taken_on : (new : WalkView) → TakenOf now → TakesFiles new → TakenOf new
  taken_on new before numbers name known = by (numbers name known)
    where
      by : Contains now.names name ⊎ (number_of files name ≢ None) → Contains first.names name ⊎ ((number_of files name ≢ None) ⊎ HasReported files first name)
      by (inl old) = before name old
      by (inr some) = inr (inl some)

  takes_none : (new : WalkView) → new.names ≡ now.names → TakesFiles new
  takes_none new same name known = inl (subst (λ names. Contains names name) same known)

  takes_one : (new : WalkView) (taken : List ℕ) (number : ℕ) → new.names ≡ now.names ++ taken ∷ [] → number_of files taken ≡ Some number → TakesFiles new
  takes_one new taken number same is name known = by (Contains-push_cases now.names taken name (subst (λ names. Contains names name) same known))
    where
      by : Contains now.names name ⊎ (taken ≡ name) → Contains now.names name ⊎ (number_of files name ≢ None)
      by (inl old) = inl old
      by (inr same) = inr (λ none. none-some number (sym none ∙ ap (number_of files) (sym same) ∙ is))

  gained_on : (new : WalkView) (gained : List Item) (since : StopsOnWay files top items first now) → Went files now new since.goes_on.is_walk.pending gained → MissNothing gained → new.told ≡ false
      → TakesNext new → TakesFiles new → StopsOnWay files top items first new
  gained_on new gained since went none untold takes numbers =
      let g = since.goes_on in
      let more = goes_keeps went.goes in
      record {
        goes_on = record {
          more = g.more ++ gained;
          is_walk = subst (λ l. IsWalk files top l new) (append_assoc items g.more gained) (walk_on files top (items ++ g.more) gained now new g.is_walk went);
          few = more_passed g.more gained g.few none;
          later = g.later ++ more.0;
          keeps = more.1 ∙ ap (λ names. names ++ more.0) g.keeps ∙ append_assoc first.names g.later more.0;
          taken = taken_on new g.taken numbers;
        };
        same = λ told. absurd (false≢true (sym untold ∙ told));
        passed = passed_on new g.is_walk.pending went.rest gained went.goes takes since.passed;
      }

  module _ (one_reading : OneReading) (one_division : OneDivision) (hold : HoldUnits files) where
    takes_nothing : (new : WalkView) → IsStep files now steps.Nothing new → TakesNext new
    takes_nothing new step part stands = nothing_takes one_reading one_division files now new part stands step

    pub since_nothing : (new : WalkView) → IsStep files now steps.Nothing new → StopsOnWay files top items first now → StopsOnWay files top items first new
    since_nothing new (inl l) since =
        gained_on new [] since (leaves files now new since.goes_on.is_walk.pending l since.goes_on.is_walk.are_pending) miss_none (ap (λ (walk : WalkView). walk.told) l.after)
        (takes_nothing new (inl l)) (takes_none new (ap (λ (walk : WalkView). walk.names) l.after))
    since_nothing new (inr (inl a)) since =
        gained_on new [] since (comes_again one_reading one_division files now new since.goes_on.is_walk.pending a since.goes_on.is_walk.are_pending) miss_none (ap (λ (walk : WalkView). walk.told) a.after)
        (takes_nothing new (inr (inl a))) (takes_none new (ap (λ (walk : WalkView). walk.names) a.after))
    since_nothing new (inr (inr e)) since =
        gained_on new [] since (enters one_reading one_division files hold now new since.goes_on.is_walk.pending e since.goes_on.is_walk.are_pending) miss_none (ap (λ (walk : WalkView). walk.told) e.after)
        (takes_nothing new (inr (inr e))) (takes_one new e.name e.number (ap (λ (walk : WalkView). walk.names) e.after) e.is_number)

    stands_at : (spot : PlacedPiece) (new walk : WalkView) (p : PassesTold files now spot new) → now ≡ walk → (is : IsWalk files top items now) → StandsBefore files walk p.includes.part
    stands_at spot new walk p same is =
        let b = before files now.levels p.front p.level p.piece is.pending p.is_here is.are_pending in
        let joined = included_first one_reading one_division files p.front p.level p.piece p.name is.pending b p.includes in
        subst (λ walk. StandsBefore files walk p.includes.part) same (record {
          later = b.later ++ b.outer;
          are_pending = subst (ArePending files now.levels) joined is.are_pending;
          is_inclusion = p.includes.is_inclusion;
          new = λ known. p.fresh (subst (Contains now.names) p.includes.is_name known);
          is_next = next_here files now.levels p.front p.level p.piece p.includes.part p.is_here p.includes.are_parts;
        })

    told_taken : (spot : PlacedPiece) (new : WalkView) (p : PassesTold files now spot new) → now ≡ first → IsWalk files top items now → TakenOf new
    told_taken spot new p same is name known =
        by (Contains-push_cases now.names p.name name (subst (λ names. Contains names name) (ap (λ (walk : WalkView). walk.names) p.after) known))
      where
        by : Contains now.names name ⊎ (p.name ≡ name) → Contains first.names name ⊎ ((number_of files name ≢ None) ⊎ HasReported files first name)
        by (inl old) = inl (subst (λ (walk : WalkView). Contains walk.names name) same old)
        by (inr named) =
            inr (inr (p.includes.part, ap (λ (walk : WalkView). walk.told) (sym same) ∙ p.told, stands_at spot new first p same is, p.includes.is_name ∙ named))

    pub since_items : (spot : PlacedPiece) (new : WalkView) → IsStep files now (steps.Items spot) new → StopsOnWay files top items first now → IsWalk files top items first → StopsOnWay files top items first new
    since_items spot new (inl p) since start =
        gained_on new (map placed_item p.nothing.placed) since (passes one_reading one_division files now new spot since.goes_on.is_walk.pending p since.goes_on.is_walk.are_pending)
        (All-from_recursion NotMissing (map placed_item p.nothing.placed) (own_miss p.nothing.placed p.nothing.own)) (ap (λ (walk : WalkView). walk.told) p.after)
        (λ part stands. items_takes one_reading one_division files now new part stands spot (inl p)) (takes_none new (ap (λ (walk : WalkView). walk.names) p.after))
    since_items spot new (inr p) since start =
        let same = since.same p.told in
        let is : IsWalk files top items now = subst (IsWalk files top items) (sym same) start in
        let item = placed_item p.includes.part in
        let went = passes_told one_reading one_division files now new spot is.pending p is.are_pending in
        let more = goes_keeps went.goes in
        record {
          goes_on = record {
            more = item ∷ [];
            is_walk = walk_on files top items (item ∷ []) now new is went;
            few = inr (p.includes.part, [], ap (λ (walk : WalkView). walk.told) (sym same) ∙ p.told, stands_at spot new first p same is, refl, miss_none);
            later = more.0;
            keeps = more.1 ∙ ap (λ (walk : WalkView). walk.names ++ more.0) same;
            taken = told_taken spot new p same is;
          };
          same = λ told. absurd (false≢true (sym (ap (λ (walk : WalkView). walk.told) p.after) ∙ told));
          passed = passed_on new is.pending went.rest (item ∷ []) went.goes (λ part stands. items_takes one_reading one_division files now new part stands spot (inr p)) since.passed;
        }

    pub since_tells : (name : List ℕ) (new : WalkView) (t : Tells files now name new) → StopsOnWay files top items first now → FindsMissing files top items first new name
    since_tells name new t since =
        let g = since.goes_on in
        let is = g.is_walk in
        let b = before files now.levels t.front t.level t.piece is.pending t.is_here is.are_pending in
        let joined = included_first one_reading one_division files t.front t.level t.piece name is.pending b t.includes in
        let taken_by : (part : Placed) → first.told ≡ true → (now ≡ first) ⊎ Contains now.names part.name → Contains now.names part.name =
        λ part told either. elim either [ inl same ↦ absurd (false≢true (sym t.untold ∙ ap (λ (walk : WalkView). walk.told) same ∙ told)) | inr known ↦ known ] in
        let told : FindsMissing files top items first (record { names = now.names; levels = now.levels; told = true }) name = record {
          goes_on = record {
            more = g.more;
            is_walk = record { number = is.number; file = is.file; is_top = is.is_top; there = is.there; parts = is.parts; placed = is.placed; pending = is.pending; are_pending = is.are_pending; goes = is.goes };
            few = g.few;
            later = g.later;
            keeps = g.keeps;
            taken = g.taken;
          };
          part = t.includes.part;
          stands = grind (arith, common_steps, next_here files now.levels t.front t.level t.piece t.includes.part t.is_here t.includes.are_parts) steps 200000;
          is_name = t.includes.is_name;
          none = t.none;
          told = refl;
          passed = λ name reported. subst (Contains now.names) reported.3 (taken_by reported.0 reported.1 (since.passed reported.0 reported.1 reported.2));
        } in
        subst (λ walk. FindsMissing files top items first walk name) (sym t.after) told

  pub since_end : now.levels ≡ [] → StopsOnWay files top items first now → FindsEnd files top items first now
  since_end none since = record { goes_on = since.goes_on; is_expansion = walk_ends files top (items ++ since.goes_on.more) now since.goes_on.is_walk none; names = refl }
