use Rattle.mmtests.proofs.views.is_compared.Goals as goal

pub same_view-requires-clause-one : goal.same_view-requires-clause-one
same_view-requires-clause-one c =
    let read = c.requires.one in
    let is = c.in-Some-Some.ensures read.0 (c.args.names.now, read.1.base) in
    (read.0, read.1, is.0, is.1)

pub same_view-requires-clause-other : goal.same_view-requires-clause-other
same_view-requires-clause-other c =
    let read = c.requires.other in
    let is = c.in-Some-Some.ensures' read.0 (c.args.names.now, read.1.base) in
    (read.0, read.1, is.0, is.1)
