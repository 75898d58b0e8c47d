use Rattle.std.{proofs.{lemmas.{Grind.{common_steps}, Bool.{false≢true}}, Common.{◌≡◌, ◌<◌, ℕ, Some, None, List, length, sym, ap, ◌∙◌, subst₂, arith, ◌↔◌, IsTrue}}, specs.Option.{option_map}}
use Rattle.mm_proof.specs.{mm_frame.Language.Base.{said_at}, mm_verdict.Language.VerdictAt.{cites_at}}
use Rattle.mm_keep.{specs.Code.Cited.{IsAmongCited}, proofs.{CitedItems.{checked_at, cites_rising, label_cited, none_cited}, ToldLemmas.{read_at, says_at}}}
use Rattle.mm_keep.proofs.cited.cites_label.Goals as goal

pub words_of_proof-words-requires : goal.words_of_proof-words-requires
words_of_proof-words-requires c =
    grind (arith, common_steps, read_at c.requires.0 c.args.files.now c.args.base.now c.args.j c.item.result.now (c.requires.1, c.requires.2, c.requires.4) c.item.ensures.found) steps 200000

pub has_label-requires : goal.has_label-requires
has_label-requires c =
    let r = c.requires in
    let k = checked_at r.1 c.args.checked.now c.args.j (Some c.in-Some.check.now) r.3 r.4 (sym c.get.ensures ∙ ap (option_map (λ one. one.now)) c.in-Some.is) in
    cites_rising c.cites_rise.ensures r.1 c.args.j c.in-Some.check.now.cites k.2

pub returns-in-Some : goal.returns-in-Some
returns-in-Some c names view is are i label =
    let j = c.args.j in
    let within : j < length view = omega (arith, c.requires.4, c.requires.3.count, are.count) in
    let k = checked_at view c.args.checked.now j (Some c.in-Some.check.now) are within (sym c.get.ensures ∙ ap (option_map (λ one. one.now)) c.in-Some.is) in
    let cites : c.in-Some.check.now.cites ≡ cites_at view j = k.2 in
    let says = says_at names c.args.files.now c.args.base.now view j c.item.result.now is c.item.ensures.found in
    let words = c.words_of_proof-words.ensures.words (said_at view j) says in
    let has = subst₂ (λ (ws : List (List ℕ)) (ns : List ℕ). IsTrue c.has_label.result ↔ IsAmongCited ws ns (length ns) c.args.label.now) words cites c.has_label.ensures in
    let cited = label_cited c.cites_tell.ensures.each c.cites_tell.ensures.tell c.has_own_labels.ensures view is.read_in.base.labelled j k.0 c.args.label.now i label in
    (λ t. cited.0 (has.0 t), λ one. has.1 (cited.1 one))

pub returns-in-None : goal.returns-in-None
returns-in-None c names view is are i label =
    let j = c.args.j in
    let within : j < length view = omega (arith, c.requires.4, c.requires.3.count, are.count) in
    let none = checked_at view c.args.checked.now j None are within (sym c.get.ensures ∙ ap (option_map (λ one. one.now)) c.in-None.is) in
    (λ t. absurd (false≢true t), λ one. absurd (none_cited view j i none one))
