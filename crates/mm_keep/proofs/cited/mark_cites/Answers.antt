use Rattle.std.{proofs.{lemmas.Grind.{common_steps}, Common.{◌≡◌, ◌<◌, ℕ, Some, None, List, length, sym, ap, ◌∙◌, subst₂, arith}}, specs.Option.{option_map}}
use Rattle.mm_proof.specs.{mm_frame.Language.Base.{said_at}, mm_verdict.Language.VerdictAt.{cites_at}}
use Rattle.mm_keep.{specs.{Language.Citations.{CitesItem}, Code.Cited.{HasLabelAmong, MarksMore}}, proofs.CitedItems.{among_earlier, checked_at, cites_rising, marks_cited, none_cited}}
use Rattle.mm_keep.proofs.{CitedWords.{marks_same}, ToldLemmas.{read_at, says_at}}
use Rattle.mm_keep.proofs.cited.mark_cites.Goals as goal

pub words_of_proof-words-requires : goal.words_of_proof-words-requires
words_of_proof-words-requires c =
    grind (arith, common_steps, read_at c.requires.item.0 c.args.files.now c.args.base.now c.args.j c.item.result.now (c.requires.item.1, c.requires.item.2, c.requires.item.4) c.item.ensures.found) steps 200000

pub mark_words-requires-clause-rise : goal.mark_words-requires-clause-rise
mark_words-requires-clause-rise c =
    let r = c.requires.item in
    let k = checked_at r.1 c.args.checked.now c.args.j (Some c.in-Some.check.now) r.3 r.4 (sym c.get.ensures ∙ ap (option_map (λ one. one.now)) c.in-Some.is) in
    cites_rising c.cites_rise.ensures r.1 c.args.j c.in-Some.check.now.cites k.2

pub mark_words-requires-clause-places : goal.mark_words-requires-clause-places
mark_words-requires-clause-places c =
    let r = c.requires.item in
    let view = r.1 in
    let j = c.args.j in
    let k = checked_at view c.args.checked.now j (Some c.in-Some.check.now) r.3 r.4 (sym c.get.ensures ∙ ap (option_map (λ one. one.now)) c.in-Some.is) in
    let says = says_at r.0 c.args.files.now c.args.base.now view j c.item.result.now r.2 c.item.ensures.found in
    let words = c.words_of_proof-words.ensures.words (said_at view j) says in
    let early = among_earlier c.cites_tell.ensures.each c.cites_tell.ensures.tell c.has_own_labels.ensures view r.2.read_in.base.labelled j k.0 in (
      view,
      (r.0, r.2.read_in.base),
      λ n has.
          let l = early n (subst₂ (λ (ws : List (List ℕ)) (ns : List ℕ). HasLabelAmong view ws ns (length ns) n) words k.2 has) in
          omega (arith, l, c.requires.places),
    )

pub returns-in-Some : goal.returns-in-Some
returns-in-Some c names view is are =
    let j = c.args.j in
    let within : j < length view = omega (arith, c.requires.item.4, c.requires.item.3.count, are.count) in
    let k = checked_at view c.args.checked.now j (Some c.in-Some.check.now) are within (sym c.get.ensures ∙ ap (option_map (λ one. one.now)) c.in-Some.is) in
    let cites : c.in-Some.check.now.cites ≡ cites_at view j = k.2 in
    let says = says_at names c.args.files.now c.args.base.now view j c.item.result.now is c.item.ensures.found in
    let words = c.words_of_proof-words.ensures.words (said_at view j) says in
    let more = subst₂ (λ (ws : List (List ℕ)) (ns : List ℕ). MarksMore (HasLabelAmong view ws ns (length ns)) c.args.marks.now c.mark_words.new.marks) words cites (c.mark_words.ensures view (names, is.read_in.base)) in
    marks_cited c.cites_tell.ensures.each c.cites_tell.ensures.tell c.has_own_labels.ensures view is.read_in.base.labelled j k.0 c.args.marks.now c.mark_words.new.marks more

pub returns-in_default : goal.returns-in_default
returns-in_default c names view is are =
    let j = c.args.j in
    let within : j < length view = omega (arith, c.requires.item.4, c.requires.item.3.count, are.count) in
    let none = checked_at view c.args.checked.now j None are within (sym c.get.ensures ∙ ap (option_map (λ one. one.now)) c.in_default.is) in
    marks_same (CitesItem view j) c.args.marks.now (λ k. none_cited view j k none)
