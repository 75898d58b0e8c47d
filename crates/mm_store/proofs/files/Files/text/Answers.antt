use Rattle.std.{proofs.{lemmas.{Grind.{common_steps}, Option.{slice_get-map}}, Common.{◌≡◌, ℕ, is_some, true, length, map, get_or, ap, ◌∙◌, subst, arith, Vec, Global}}, specs.Option.{option_map}}
use Rattle.mm_store.{proofs.lemmas.files.{NumberLemmas.{number_is}, EntryLemmas.{keys_at}, FilesLemmas.{found_is, key_some}}, specs.{declared.file_text.FileText.{FileText}, Code.Kept.{keyed_file}}}
use Rattle.std.specs.FinMap as finite
use Rattle.mm_store.proofs.files.Files.text.Goals as goal

pub joined_text-requires : goal.joined_text-requires
joined_text-requires c =
    let es = c.self.inside.files.entries in
    let n = c.in-Some.field-0-0 in
    let second = λ (e : Vec ℕ Global × FileText). e.1 in
    let keys = keys_at es n c.in-Some.file.now (slice_get-map second es n ∙ ap (option_map second) c.in-Some.ensures.entry) in
    λ at d lt. subst (λ ks. is_some (finite.get c.self.inside.pieces (get_or ks at d)) ≡ true) keys (key_some (map keyed_file es) c.self.inside.pieces c.self.invariant.once n at d (omega (arith, lt, ap length keys)))

pub returns-in-None : goal.returns-in-None
returns-in-None c = grind (arith, common_steps, number_is) steps 200000

pub returns-in_ok-joined_text-in-Some : goal.returns-in_ok-joined_text-in-Some
returns-in_ok-joined_text-in-Some c =
    grind (arith, found_is c.self.inside.pieces c.args.name.now c.self.inside.files.entries c.in-Some.field-0-0 (c.in-Some.field-0-1.now, c.in-Some.file.now) c.in-Some.ensures.index c.in-Some.ensures.entry) steps 200000
