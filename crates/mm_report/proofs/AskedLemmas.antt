-- What is answered, from what is written.
use Rattle.std.proofs.lemmas.{Grind.{common_steps}, List.{length-map}, Option.{slice_get-map, slice_get_within, slice_get-get_or, same_Some}}
use Rattle.std.proofs.Common.{◌≡◌, ◌⊎◌, ℕ, ◌<◌, Option, List, Result, Ok, Err, inl, inr, length, map, refl, sym, ap, ◌∙◌, subst, arith, take_all, Global, codes, IfErr, IfOk, IsErrOf, IsOk, IsTrue}
use Rattle.std.{proofs.{Common.{OnOk, Bool, true, false, ◌↔◌, Some, Vec, get_or, slice_get}, KnownBytes.{Appends-kept}}, specs.{Result.{IsErrAnd}, Io.KnownBytes.{Appends, Keeps}, Option.{option_map}}}
use Rattle.mm_keep.specs.{declared.answers.KeepError.{KeepError}, mm_verdict.Language.Work.{Recorded}, mm_frame.Language.Base.{base_of}, mm_statement.Language.Database.{Located, IsDatabase}}
use Rattle.mm_keep.specs.{mm_text.{declared.edit.Edit.{Edit}, Language.Asked.{Asked, asked}}, mm_store.{Language.Batches.{IsRefusedAt}, declared.edit.EditError.{EditError}}}
use Rattle.mm_keep.specs.Language.Sessions.{SessionView, AreAxiomsOf, IsChanged, HasAssertion}
use Rattle.mm_script.specs.declared.{error.ScriptError.{ScriptError}, stream.Writing.{Writing}, command.Question.{Question, TheVariants.{Verdict, Axioms, Cites, Users}}}
use Rattle.mm_script.specs.Language.{Script.{Command, Listed, Batch, Ask}, Stream.{written, has_failed, AppendsPart, Stops}}
use Rattle.mm_report.specs.{Code.Answered.{Answers, Finds}, Language.Answers.{IsAnswer, IsBatchRefused, IsRunAnswer, batch_refusal_line, numbers_listed}}
use Rattle.mm_keep.specs.declared.answers.KeepError.TheVariants as keep
use Rattle.mm_script.specs.declared.error.ScriptError.TheVariants as errors

-- an answer is written
pub answered_ok : {W T : Type 0} (contents : W → Option (List ℕ)) (command : Command) (old new : SessionView) (a b : Writing W) (done : T) (answer : List ℕ)
    → IsAnswer old command answer new → Appends (written contents a) (written contents b) answer → Answers contents command old new a b (Ok done)
answered_ok contents command old new a b done answer is out = record { ok = record { answer = answer; is = is; out = out }; err = tt }

-- the write of an answer has failed
pub answered_stop : {W T : Type 0} (contents : W → Option (List ℕ)) (command : Command) (old new : SessionView) (a b : Writing W) (r : Result T ScriptError) (answer : List ℕ)
    → IsErrAnd r (λ e. e ≡ errors.Write) → IsAnswer old command answer new → Stops contents a b answer → Answers contents command old new a b r
answered_stop contents command old new a b r answer err is s = grind (arith, common_steps) steps 200000

-- ---- edits

-- the items whose labels are reported
pub ran_items : (old new : SessionView) (work : Recorded) (changed : IsChanged old new work) → IsDatabase new.files new.top changed.runs.new
ran_items old new work changed = subst (λ top. IsDatabase new.files top changed.runs.new) (sym changed.top) changed.runs.are

pub ran_is : (old new : SessionView) (work : Recorded) (changed : IsChanged old new work) → IsRunAnswer old new (numbers_listed (codes "ran") (base_of changed.runs.new) work.runs)
ran_is old new work changed = record { top = changed.top; runs = work.runs; are_runs = changed.runs; answer_is = refl }

-- the refusal of a batch, of which the edit with this number is refused
pub batch_refused_is : (session : SessionView) (edits : List Edit) (listed : List Listed) (n : ℕ) (error : EditError) (d : Edit) → map (λ (one : Listed). one.edit) listed ≡ map asked edits
    → IsRefusedAt (map asked edits) session.files n error
    → IsAnswer session (Batch listed) (batch_refusal_line n (asked (get_or edits n d)) error) session
batch_refused_is session edits listed n error d same refused =
    let within : n < length edits = subst (λ k. n < k) (length-map edits asked) (slice_get_within (map asked edits) n refused.edit refused.there) in
    let there : slice_get (map asked edits) n ≡ Some (asked (get_or edits n d)) = slice_get-map asked edits n ∙ ap (option_map asked) (slice_get-get_or edits n d within) in
    let one : asked (get_or edits n d) ≡ refused.edit = same_Some (asked (get_or edits n d)) refused.edit (sym there ∙ refused.there) in
    let so : IsBatchRefused session session (map asked edits) (batch_refusal_line n (asked (get_or edits n d)) error) =
    record { n = n; error = error; refused = refused; unchanged = refl; answer_is = ap (λ edit. batch_refusal_line n edit error) one } in
    inr (subst (λ (all : List Asked). IsBatchRefused session session all (batch_refusal_line n (asked (get_or edits n d)) error)) (sym same) so)

-- ---- lists

-- an assertion that has these is there
pub finds_items : (session : SessionView) (question : Question) (label numbers : List ℕ) → Finds session question label numbers → (items : List Located) × IsDatabase session.files session.top items
finds_items session Axioms label numbers finds = (finds.0, finds.1)
finds_items session Cites label numbers finds = (finds.0, finds.1)
finds_items session Users label numbers finds = (finds.0, finds.1)
finds_items session Verdict label numbers finds = absurd finds

pub found_is : (session : SessionView) (question : Question) (label numbers : List ℕ) (finds : Finds session question label numbers) (items : List Located)
    → IsDatabase session.files session.top items → IsAnswer session (Ask question label) (numbers_listed (codes "found") (base_of items) numbers) session
found_is session Axioms label numbers finds items is = (inr (numbers, finds, (items, is, refl)), refl)
found_is session Cites label numbers finds items is = (inr (numbers, finds, (items, is, refl)), refl)
found_is session Users label numbers finds items is = (inr (numbers, finds, (items, is, refl)), refl)
found_is session Verdict label numbers finds items is = absurd finds

pub unknown_is : (session : SessionView) (question : Question) (label : List ℕ) → ¬ HasAssertion session label → IsAnswer session (Ask question label) (codes "refused K01\n") session
unknown_is session question label none = (inl (record { none = none; answer_is = refl }), refl)

-- ---- the answers of a list of axioms

pub when_ok : {W T : Type 0} {contents : W → Option (List ℕ)} {command : Command} {old new : SessionView} {a b : Writing W} {r : Result T ScriptError} → Answers contents command old new a b r
    → OnOk r ((answer : List ℕ) × IsAnswer old command answer new × Appends (written contents a) (written contents b) answer)
when_ok so = grind (arith, common_steps) steps 200000

pub when_stops : {W T : Type 0} {contents : W → Option (List ℕ)} {command : Command} {old new : SessionView} {a b : Writing W} {r : Result T ScriptError} → Answers contents command old new a b r
    → IsErrOf r errors.Write
    → (has_failed b ≡ true) × ((answer : List ℕ) × IsAnswer old command answer new × AppendsPart (written contents a) (written contents b) answer)
when_stops {T = T} {contents = contents} {command = command} {old = old} {new = new} {a = a} {b = b} so e = grind (arith, common_steps) steps 200000

pub when_lacks : {W T : Type 0} {contents : W → Option (List ℕ)} {command : Command} {old new : SessionView} {a b : Writing W} {r : Result T ScriptError} → Answers contents command old new a b r
    → IsErrOf r errors.Memory → b ≡ a
when_lacks {T = T} {contents = contents} {command = command} {old = old} {new = new} {a = a} {b = b} so e = grind (arith, common_steps) steps 200000

pub only_two : {W T : Type 0} {contents : W → Option (List ℕ)} {command : Command} {old new : SessionView} {a b : Writing W} {r : Result T ScriptError} → Answers contents command old new a b r
    → IfErr r (λ e. (e ≡ errors.Write) ⊎ (e ≡ errors.Memory))
only_two so = grind (arith, common_steps) steps 200000

-- the axioms of an assertion are found, if it is there
has_found : (session : SessionView) (label : List ℕ) (found : Result (Vec ℕ Global) KeepError) → IfOk found (λ numbers. AreAxiomsOf session label numbers.items) → IsOk found → HasAssertion session label
has_found session label (Ok numbers) are ok = (are.0, are.1, (are.2.0, are.2.1))
has_found session label (Err e) are ok = absurd (cc)

pub axioms_there : (session : SessionView) (label : List ℕ) (found : Result (Vec ℕ Global) KeepError) (r : Result Bool ScriptError) → IfOk found (λ numbers. AreAxiomsOf session label numbers.items)
    → (IsErrOf found keep.NoAssertion → ¬ HasAssertion session label)
    → IfOk r (λ there. (IsTrue there × IsOk found) ⊎ ((there ≡ false) × IsErrOf found keep.NoAssertion))
    → IfOk r (λ there. IsTrue there ↔ HasAssertion session label)
axioms_there session label found (Ok there) are none (inr h) = (λ t. (cc), λ has. absurd (none h.1 has))
axioms_there session label found (Ok there) are none (inl h) = (λ t. has_found session label found are h.1, λ has. h.0)
axioms_there session label found (Err e) are none told = tt

-- ---- what is written is passed on

pub kept_whole : (a b c : Option (List ℕ)) (bytes : List ℕ) → Appends a b bytes → Keeps b c → AppendsPart a c bytes
kept_whole a b c bytes p q =
    record { count = length bytes; appends = subst (Appends a c) (sym (take_all (length bytes) bytes (omega arith))) (Appends-kept a b c bytes p q) }
