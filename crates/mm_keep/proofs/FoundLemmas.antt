-- From what a session keeps to what it answers.
use Rattle.std.proofs.Common.{arith, rules, ◌≡◌, refl, length, subst₂, ℕ, Bool, true, false, ◌&&◌, Option, None, is_none, List, sym, ◌∙◌, ap, subst, All, IfSome, IfOk, Result, Ok, Err}
use Rattle.std.{proofs.lemmas.Grind.{common_steps}, specs.{List.{AllZip}, Option.{option_map}}}
use Rattle.mm_proof.specs.{mm_store.Language.{Expansion.{IsExpansion}, FileFacts.{HoldsPieces, StandsIn}, FilesView.{FilesView, files_in, plain}}, mm_statement.Language.Database.{IsDatabase, Located}}
use Rattle.mm_proof.specs.{mm_statement.Language.{Laws.{FilesHaveOneDatabase, ItemsAreLocated}, Locating.{IsLocated}}, mm_frame.declared.{FrameNumber.{FrameNumber}, judge.FrameFault.{FrameFault}}}
use Rattle.mm_proof.specs.{mm_frame.Language.Base.{BaseView, IsOfFiles, base_of, is_proof_at}, mm_verdict.Language.Work.{Recorded}}
use Rattle.mm_keep.specs.{Code.{Changing.{HasRun}, KeptSession.{AreChecked, IsSessionKept, session_view}, Next.{IsFirst}, OfFiles.{IsOf}}, Language.Sessions.{IsBegun, IsChanged, OfItems, SessionView}}
use Rattle.mm_keep.specs.{Language.Runs.{AreRuns, AreStepsOf, AreThose}, declared.{keeping.Next.{Next}, session.Session.TheInside.{Inside}}}
use Rattle.mm_proof.specs.mm_store.declared.item.Item as store

-- no fault is reported of a sound item
pub sound_none : (fault : Option FrameFault) (t : Option (ℕ × FrameNumber)) → option_map (λ (f : FrameFault). (f.word, f.number)) fault ≡ t → fault ≡ None → is_none t ≡ true
sound_none fault t e n = grind (arith, common_steps) steps 200000

-- a sound item that is no sound theorem is no theorem
pub no_theorem : (sound theorem : Bool) → sound ≡ true → (sound && theorem) ≡ false → theorem ≡ false
no_theorem true theorem e f = f
no_theorem false theorem e f = cc

pub map_some : {X : Type 0} (P Q : X → Type 0) (one : Option X) → ((x : X) → P x → Q x) → IfSome one P → IfSome one Q
map_some P Q one f p = grind (arith, common_steps) steps 200000

-- the items of all files are where they say
abbrev pub ItemsStand : Type 0
ItemsStand = (files : FilesView) (top : List ℕ) (items : List store.Item) → IsExpansion (files_in files) top items → All (StandsIn files) items

-- what a session's base answers is what the items of its files say
kept_of : ItemsStand → (inside : Inside) → (k : IsSessionKept inside) → IsOf inside.names inside.files inside.base k.base
kept_of stand inside k = search rules steps 500000

-- what is kept of the items of a session, where they stand
pub record Kept (inside : Inside) (session : SessionView) : Type 0 where
  pub items : List Located
  pub of_files : IsDatabase session.files session.top items
  pub is : IsOf inside.names inside.files inside.base (base_of items)
  pub are : AreChecked (base_of items) inside.checked
  pub located : AllZip (IsLocated inside.files) inside.base.items items

pub kept : ItemsStand → ItemsAreLocated → (inside : Inside) → IsSessionKept inside → HoldsPieces inside.files → (session : SessionView) → session_view inside ≡ session → Kept inside session
kept stand located inside k holds session is =
    let placed = located inside.files inside.top.items inside.base.items k.base holds k.of_files.expansion k.of_files.each in
    record {
      items = placed.0;
      of_files = subst (λ (s : SessionView). IsDatabase s.files s.top placed.0) is placed.1;
      is = subst (λ (base : BaseView). IsOf inside.names inside.files inside.base base) (sym placed.2) (kept_of stand inside k);
      are = subst (λ (base : BaseView). AreChecked base inside.checked) (sym placed.2) k.checked;
      located = placed.3;
    }

-- what holds of the items of the files holds of what is kept
pub holds_of : FilesHaveOneDatabase → (inside : Inside) (session : SessionView) → (k : Kept inside session) → (P : BaseView → Type 0) → OfItems session P → P (base_of k.items)
holds_of one inside session k P has = subst (λ (items : List Located). P (base_of items)) (one session.files session.top has.0 k.items has.1 k.of_files) has.2

-- two readings of the same files say the same
pub one_reading : FilesHaveOneDatabase → ItemsAreLocated → (files : FilesView) (top : List ℕ) (found other : List store.Item) (base copy : BaseView) → HoldsPieces files
    → IsOfFiles files top found base → IsOfFiles files top other copy → base ≡ copy
one_reading one located files top found other base copy holds is also =
    let first = located files top found base holds is.expansion is.each in
    let second = located files top other copy holds also.expansion also.each in
    sym first.2 ∙ ap base_of (one (plain files) top first.0 second.0 first.1 second.1) ∙ second.2

-- ---- what is run

pub begun : ItemsAreLocated → (names : List (List ℕ)) (files : FilesView) (top : List ℕ) (next : Next) → HoldsPieces files → IsFirst names files top next → IsBegun (record { files = plain files; top = top }) next.ran.work
begun located names files top next holds first =
    let placed = located files top next.base.items first.base holds first.built.of_files.expansion first.built.of_files.each in
    record {
      items = placed.0;
      of_files = placed.1;
      those = subst (λ (base : BaseView). AreThose (λ i. is_proof_at base i ≡ true) (length base) next.ran.work.runs) (sym placed.2) first.begins.runs;
      steps = subst (λ (base : BaseView). AreStepsOf base next.ran.work.runs next.ran.work.steps) (sym placed.2) first.begins.steps;
    }

pub changed : ItemsAreLocated → (before after : FilesView) (top : List ℕ) (work : Recorded) → HoldsPieces before → HoldsPieces after → HasRun before after top work
    → IsChanged (record { files = plain before; top = top }) (record { files = plain after; top = top }) work
changed located before after top work first second run =
    let old = located before top run.were_found run.old first run.were.expansion run.were.each in
    let new = located after top run.are_found run.new second run.are.expansion run.are.each in
    record {
      top = refl;
      runs = record {
        old = old.0;
        new = new.0;
        were = old.1;
        are = new.1;
        those = subst₂ (λ (was is : BaseView). AreRuns was is work.runs) (sym old.2) (sym new.2) run.runs;
      };
      items = new.0;
      of_files = new.1;
      steps = subst (λ (base : BaseView). AreStepsOf base work.runs work.steps) (sym new.2) run.steps;
    }

pub if_changed : ItemsAreLocated → (before after : FilesView) (top : List ℕ) {E : Type 0} (result : Result Recorded E) → HoldsPieces before → HoldsPieces after → IfOk result (HasRun before after top)
    → IfOk result (IsChanged (record { files = plain before; top = top }) (record { files = plain after; top = top }))
if_changed located before after top (Ok work) first second run = changed located before after top work first second run
if_changed located before after top (Err error) first second run = tt
