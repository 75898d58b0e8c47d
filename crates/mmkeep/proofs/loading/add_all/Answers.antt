use Rattle.std.proofs.Common.{subst}
use Rattle.mm_report.specs.mm_store.Language.FilesView.{plain}
use Rattle.mmkeep.{specs.Code.Loaded.{TakesTop, begins}, proofs.LoadLemmas.{all_loaded, all_stops, still_there}}
use Rattle.mmkeep.proofs.loading.add_all.Goals as goal

pub add_missing-requires : goal.add_missing-requires
add_missing-requires g c =
    let known = g.S.Source.holds c.args.source.now in
    let taken = subst (λ old. TakesTop (known c.args.top.now) old (plain c.take_top.new.files) c.args.top.now) c.requires c.in_ok-take_top.ensures.taken in
    (c.args.top.now, begins taken c.in-Ok.ensures.ok c.in-Ok.ensures.first c.in-Ok.ensures.untold)

pub returns-in-Ok-clause-files : goal.returns-in-Ok-clause-files
returns-in-Ok-clause-files g c =
    let known = g.S.Source.holds c.args.source.now in
    let taken = subst (λ old. TakesTop (known c.args.top.now) old (plain c.take_top.new.files) c.args.top.now) c.requires c.in_ok-take_top.ensures.taken in
    all_loaded known c.args.top.now (plain c.add_missing.new.files) c.add_missing.result (begins taken c.in-Ok.ensures.ok c.in-Ok.ensures.first c.in-Ok.ensures.untold) c.add_missing.ensures.loaded

pub returns-in-Ok-clause-top : goal.returns-in-Ok-clause-top
returns-in-Ok-clause-top g c =
    still_there c.add_missing.result (plain c.take_top.new.files) (plain c.add_missing.new.files) c.args.top.now c.add_missing.ensures.kept c.in_ok-take_top.ensures.there

pub returns-in-Ok-clause-unloaded : goal.returns-in-Ok-clause-unloaded
returns-in-Ok-clause-unloaded g c =
    let known = g.S.Source.holds c.args.source.now in
    let taken = subst (λ old. TakesTop (known c.args.top.now) old (plain c.take_top.new.files) c.args.top.now) c.requires c.in_ok-take_top.ensures.taken in
    all_stops g.S.Opened.Read.remaining known c.args.top.now c.add_missing.result (begins taken c.in-Ok.ensures.ok c.in-Ok.ensures.first c.in-Ok.ensures.untold) c.add_missing.ensures.error
