use Rattle.std.proofs.{Common.{◌≡◌, Some, ap, ◌∙◌, sym}, lemmas.Bool.{and_parts}}
use Rattle.mm_frame.proofs.lemmas.names.Codes.{one_code}
use Rattle.mm_frame.proofs.names.Names.intern.Goals as goal

pub keep-requires : goal.keep-requires
keep-requires c name coded same =
    let is : name ≡ c.args.name.now = one_code name c.args.name.now (and_parts _ _ coded).1 (and_parts _ _ c.in-Some.ensures.0).1 (same ∙ c.in-Some.ensures.1) in
    c.in_ok-number.ensures.named ∙ ap Some (sym is)
