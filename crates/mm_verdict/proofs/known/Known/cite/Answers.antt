use Rattle.std.proofs.{Common.{◌≡◌, [], ◌∷◌, ◌++◌, length, refl, sym, ◌∙◌, ap, slice_get, subst, All, arith}, lemmas.List.Elements.{All-push}}
use Rattle.mm_machine.specs.Language.{Lasting.{lasting_of}, NumberedSymbols.{by_code}}
use Rattle.mm_verdict.{specs.Code.NamedItems.{IsCitedOf}, proofs.lemmas.lists.Members.{kept_at, last_there}}
use Rattle.mm_verdict.proofs.known.Known.cite.Goals as goal

pub takes_nothing-requires : goal.takes_nothing-requires
takes_nothing-requires c =
    let lasting = lasting_of by_code c.args.self.now.machine in
    (lasting, c.cited_of-cited.ensures.same lasting (c.cited_of-cited.ensures.has lasting c.requires.loaded))

pub returns : goal.returns
returns c =
    let code = c.args.base.now in
    let cited = c.args.self.now.cited in
    let one = c.cited_of-cited.result in
    let lasting = lasting_of by_code c.args.self.now.machine in
    let has = c.cited_of-cited.ensures.has lasting c.requires.loaded in
    let items = c.in_ok-push.ensures.items in
    let place : c.len-place.result ≡ length cited.items = omega (arith, c.len-place.ensures, cited.ok) in
    record {
      machine = refl;
      uses = refl;
      stay = λ n k at. ap (λ w. slice_get w n) items ∙ kept_at cited.items (one ∷ []) n k at;
      cited = subst (All (IsCitedOf code lasting)) (sym items) (All-push (IsCitedOf code lasting) cited.items one c.requires.cited (record {
        item = rw c.cited_of-cited.ensures.number c.requires.item;
        citable = c.cited_of-cited.ensures.frame;
        cited = c.cited_of-cited.ensures.frame lasting has;
      }));
      stands = (one, ap (λ w. slice_get w c.len-place.result) items ∙ ap (slice_get (cited.items ++ one ∷ [])) place ∙ last_there cited.items one, c.cited_of-cited.ensures.same lasting has);
    }
