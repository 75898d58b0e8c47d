use Rattle.std.proofs.{Common.{ℕ, Option, sym, ◌∙◌, ap, subst, is_some}, lemmas.Bool.{false≢true}}
use Rattle.mm_proof.specs.Language.BaseMarks.{mark_at}
use Rattle.mm_keep.{specs.Code.Planned.{IsPlanned}, proofs.PlanLemmas.{mark_here, plans_unmarked, plans_no_theorem, plans_kept, plans_changed}}
use Rattle.mm_keep.proofs.planning.old_with_same_view.Goals as goal

pub returns-in_err-i : goal.returns-in_err-i
returns-in_err-i c base copy both =
    let j = c.args.j in
    let mark = mark_here c.args.names.now c.args.files.now c.args.old.now c.args.new.now c.args.marks.now j c.requires.item c.requires.marks base copy both in
    subst (λ (o : Option ℕ). IsPlanned base copy j o) (sym c.from_residual-in_err-i.ensures) (plans_unmarked base copy j (mark_at c.args.marks.now j) mark (sym c.old.ensures ∙ c.in_err-i.was))

pub returns-in_err-pairs-2 : goal.returns-in_err-pairs-2
returns-in_err-pairs-2 c base copy both =
    let j = c.args.j in
    let mark = mark_here c.args.names.now c.args.files.now c.args.old.now c.args.new.now c.args.marks.now j c.requires.item c.requires.marks base copy both in
    subst (λ (o : Option ℕ). IsPlanned base copy j o) (sym c.from_residual-in_err-pairs-2.ensures)
    (plans_no_theorem base copy j (mark_at c.args.marks.now j) mark c.in_ok-i.i (sym c.old.ensures ∙ c.in_ok-i.was) (sym (c.pairs-2.ensures.some base (c.args.names.now, both.old_is.base)) ∙ ap is_some c.in_err-pairs-2.was))

pub same_view_by-requires-clause-one : goal.same_view_by-requires-clause-one
same_view_by-requires-clause-one c =
    let has = c.requires.item in
    let both = has.2 in
    let mark = mark_here c.args.names.now c.args.files.now c.args.old.now c.args.new.now c.args.marks.now c.args.j has c.requires.marks has.0 has.1 both in
    (has.0, both.old_is, ((mark.old_is c.in_ok-i.i).0 (sym c.old.ensures ∙ c.in_ok-i.was)).within, sym (c.pairs-2.ensures.some has.0 (c.args.names.now, both.old_is.base)) ∙ ap is_some c.in_ok-pairs-2.was)

pub returns-then-same_view_by : goal.returns-then-same_view_by
returns-then-same_view_by c base copy both =
    let j = c.args.j in
    let mark = mark_here c.args.names.now c.args.files.now c.args.old.now c.args.new.now c.args.marks.now j c.requires.item c.requires.marks base copy both in
    let was = sym (c.pairs-2.ensures.some base (c.args.names.now, both.old_is.base)) ∙ ap is_some c.in_ok-pairs-2.was in
    let is = sym (c.pairs.ensures.some copy (c.args.names.now, both.new_is.base)) ∙ ap is_some c.in_ok-pairs.was in
    plans_kept base copy j (mark_at c.args.marks.now j) mark c.in_ok-i.i (sym c.old.ensures ∙ c.in_ok-i.was) was is ((c.same_view_by.ensures base copy both.old_is both.new_is was is).0 c.if-same_view_by.true)

pub returns-else-same_view_by : goal.returns-else-same_view_by
returns-else-same_view_by c base copy both =
    let j = c.args.j in
    let mark = mark_here c.args.names.now c.args.files.now c.args.old.now c.args.new.now c.args.marks.now j c.requires.item c.requires.marks base copy both in
    let was = sym (c.pairs-2.ensures.some base (c.args.names.now, both.old_is.base)) ∙ ap is_some c.in_ok-pairs-2.was in
    let is = sym (c.pairs.ensures.some copy (c.args.names.now, both.new_is.base)) ∙ ap is_some c.in_ok-pairs.was in
    plans_changed base copy j (mark_at c.args.marks.now j) mark c.in_ok-i.i (sym c.old.ensures ∙ c.in_ok-i.was) (λ v. false≢true (sym c.if-same_view_by.false ∙ (c.same_view_by.ensures base copy both.old_is both.new_is was is).1 v))
