use Rattle.std.proofs.Common.{◌≡◌, ◌+◌, ℕ, None, List, refl, sym, ◌∙◌, subst}
use Rattle.mm_report.specs.mm_store.Language.FilesView.{file_number, plain}
use Rattle.mmkeep.specs.{Code.Loaded.{TakesFile, takes}, Language.Loading.{StopsAt}}
use Rattle.mmkeep.proofs.LoadLemmas.{all_taken, fewer_left, finds_next, handed_up, may_have, may_keep, missing_new, stops_at_next, stops_for_memory}
use Rattle.mmkeep.proofs.loading.add_missing.Goals as goal

pub take_included-requires : goal.take_included-requires
take_included-requires g c =
    let known = g.S.Source.holds c.args.source.now in
    let top = c.requires.0 in
    let loads = (c.loop-name.invariant.loads top c.requires.1).1 in
    let found = rw c.in-Ok-Some.field-0-is at c.in-Ok-Some.ensures.found in
    let next = finds_next known top c.walks_go_on.ensures.added loads c.next_missing.new.self c.in-Ok-Some.name.items found in
    subst (λ (name : List ℕ). file_number (plain c.loop-name.files) name ≡ None) (sym c.deref.ensures.value)
    (missing_new (plain c.loop-name.files) top c.in-Ok-Some.name.items next.items c.loop-name.walk c.next_missing.new.self next.finds)

pub loop-name-init : goal.loop-name-init
loop-name-init g c = record { loads = λ top begun. (0, begun); parked = refl; kept = λ name there. there }

pub returns-in-Ok-None-clause-loaded : goal.returns-in-Ok-None-clause-loaded
returns-in-Ok-None-clause-loaded g c = λ top begun.
    let known = g.S.Source.holds c.args.source.now in
    let found = rw c.in-Ok-None.field-0-is at c.in-Ok-None.ensures.end in
    all_taken known top c.walks_go_on.ensures.one c.walks_go_on.ensures.added c.walks_go_on.ensures.stands
    (record { one = c.names_are_taken.ensures.one; walk = c.names_are_taken.ensures.walk; end = c.names_are_taken.ensures.end }) c.hold_one_each.ensures
    (c.loop-name.invariant.loads top begun).1 c.next_missing.new.self found

pub returns-in-Err-clause-error : goal.returns-in-Err-clause-error
returns-in-Err-clause-error g c = λ top begun. stops_for_memory g.S.Opened.Read.remaining (g.S.Source.holds c.args.source.now) top _ c.from.ensures

pub returns-in_err-take_included-in-Ok-Some-clause-error : goal.returns-in_err-take_included-in-Ok-Some-clause-error
returns-in_err-take_included-in-Ok-Some-clause-error g c =
    let known = g.S.Source.holds c.args.source.now in
    let name = c.in-Ok-Some.name.items in
    let unloaded = c.in_err-take_included-in-Ok-Some.field-0.0 in
    let found = rw c.in-Ok-Some.field-0-is at c.in-Ok-Some.ensures.found in
    let stops = subst (λ name. StopsAt g.S.Opened.Read.remaining (known name) (plain c.loop-name.files) unloaded) c.deref.ensures.value c.in_err-take_included-in-Ok-Some.ensures.refused in
    handed_up c.from_residual.result unloaded _ c.from_residual.ensures.1
    (λ top begun.
    let loads = c.loop-name.invariant.loads top begun in
    stops_at_next known top c.walks_go_on.ensures.one g.S.Opened.Read.remaining c.walks_go_on.ensures.stands c.names_are_taken.ensures.walk unloaded c.hold_one_each.ensures loads.1
    (finds_next known top c.walks_go_on.ensures.added loads.1 c.next_missing.new.self name found) stops)

pub loop-name-smaller : goal.loop-name-smaller
loop-name-smaller g c =
    let known = g.S.Source.holds c.args.source.now in
    let top = c.requires.0 in
    let loads = (c.loop-name.invariant.loads top c.requires.1).1 in
    let name = c.in-Ok-Some.name.items in
    let found = rw c.in-Ok-Some.field-0-is at c.in-Ok-Some.ensures.found in
    let few = rw c.in-Ok-Some.field-0-is at c.in-Ok-Some.ensures.few in
    let next = finds_next known top c.walks_go_on.ensures.added loads c.next_missing.new.self name found in
    fewer_left known top c.walks_go_on.ensures.stands loads next (few top next.items next.is_walk)

pub loop-name-preserved : goal.loop-name-preserved
loop-name-preserved g c =
    let known = g.S.Source.holds c.args.source.now in
    let found = rw c.in-Ok-Some.field-0-is at c.in-Ok-Some.ensures.found in
    let done = c.in_ok-take_included-in-Ok-Some.ensures in
    let name = c.in-Ok-Some.name.items in
    let taken = subst (λ name. TakesFile (known name) (plain c.loop-name.files) (plain c.take_included.new.files) name) c.deref.ensures.value done.taken in
    let added = may_have (known name) (plain c.loop-name.files) (plain c.take_included.new.files) name taken in
    record {
      loads = λ top begun.
          let loads = c.loop-name.invariant.loads top begun in
          (loads.0 + 1, takes loads.1 (finds_next known top c.walks_go_on.ensures.added loads.1 c.next_missing.new.self name found) taken);
      parked = done.parked ∙ c.loop-name.invariant.parked;
      kept = λ name there. may_keep (plain c.loop-name.files) (plain c.take_included.new.files) c.in-Ok-Some.name.items added name (c.loop-name.invariant.kept name there);
    }
