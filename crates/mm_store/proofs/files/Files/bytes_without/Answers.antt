use Rattle.std.proofs.{Common.{length, map, ap, arith}, lemmas.List.{get_or_read}}
use Rattle.mm_store.{specs.Code.Kept.{keyed_file}, proofs.lemmas.{files.{FileLemmas.{at_place, shown, there_is}, ListLemmas.{read_member}}, edits.StepLemmas.{here_is_some, here_within}}}
use Rattle.mm_store.proofs.files.Files.bytes_without.Goals as goal

pub unwrap-requires : goal.unwrap-requires
unwrap-requires c = c.get_index.ensures.found.1 (omega (arith, there_is c.self.inside c.args.number c.args.at c.self.view_is c.requires, ap length c.as_slice.ensures.entries))

pub index-requires : goal.index-requires
index-requires c = (at_place (shown c.self.inside c.args.number c.self.invariant c.as_slice.ensures.entries c.get_index.ensures.entry c.unwrap.ensures).file c.self.view_is c.args.at c.requires).in_keys

pub text-requires : goal.text-requires
text-requires c =
    let place = at_place (shown c.self.inside c.args.number c.self.invariant c.as_slice.ensures.entries c.get_index.ensures.entry c.unwrap.ensures).file c.self.view_is c.args.at c.requires in
    here_is_some place.file.keyed (get_or_read c.unwrap.result.1.now.keys.items c.args.at c.index.result.now place.there c.index.ensures 0) place.there

pub overflow_sub-result : goal.overflow_sub-result
overflow_sub-result c =
    let place = at_place (shown c.self.inside c.args.number c.self.invariant c.as_slice.ensures.entries c.get_index.ensures.entry c.unwrap.ensures).file c.self.view_is c.args.at c.requires in
    omega (arith, ap length c.text.ensures.text, c.self.invariant.counted, here_within place.file.keyed (get_or_read c.unwrap.result.1.now.keys.items c.args.at c.index.result.now place.there c.index.ensures 0) place.there)

pub returns : goal.returns
returns c =
    let place = at_place (shown c.self.inside c.args.number c.self.invariant c.as_slice.ensures.entries c.get_index.ensures.entry c.unwrap.ensures).file c.self.view_is c.args.at c.requires in
    let key = get_or_read c.unwrap.result.1.now.keys.items c.args.at c.index.result.now place.there c.index.ensures 0 in
    let member = read_member c.self.inside.pieces (map keyed_file c.self.inside.files.entries) c.args.number c.args.at (rw (← c.self.view_is) at c.requires) in
    rw (← c.self.view_is, member, place.file.keyed.is, ← key) (omega (arith, ap length c.text.ensures.text, c.self.invariant.counted, here_within place.file.keyed key place.there))
