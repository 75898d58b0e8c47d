use Rattle.std.proofs.Common.{◌∙◌}
use Rattle.mm_frame.proofs.lemmas.scope.EndLemmas.{pruned_by_marks}
use Rattle.mm_frame.proofs.active_numbers.ActiveNumbers.prune.Goals as goal

pub returns : goal.returns
returns c test before item t marks old = pruned_by_marks c.args.blocks.now c.self.inside.numbers.items c.drop_ended.new.numbers.items c.drop_ended.ensures test before item t marks (c.self.view_is ∙ old)
