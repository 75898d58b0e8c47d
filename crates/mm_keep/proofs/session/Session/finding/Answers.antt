use Rattle.std.proofs.Common.{◌<◌, length, ap, subst}
use Rattle.mm_proof.specs.mm_frame.Language.Base.{base_of}
use Rattle.mm_keep.{specs.Language.{Findings.{told}, Sessions.{SessionView}, Told.{IsRightlyTold}}, proofs.{DerivableLemmas.{found_derivable}, FoundLemmas.{holds_of, kept}, PlacedLemmas.{told_there}}}
use Rattle.mm_keep.proofs.session.Session.finding.Goals as goal

pub finding_of-requires : goal.finding_of-requires
finding_of-requires c =
    let k = kept c.items_stand.ensures.stand c.items_are_located.ensures.located c.self.inside c.self.invariant c.holds_pieces.ensures c.args.self.now c.self.view_is in
    (c.self.inside.names, base_of k.items, k.is, k.are, holds_of c.files_have_one_database.ensures c.self.inside c.args.self.now k (λ base. c.args.i < length base) c.requires)

pub returns-clause-found : goal.returns-clause-found
returns-clause-found c =
    let inside = c.self.inside in
    let k = kept c.items_stand.ensures.stand c.items_are_located.ensures.located inside c.self.invariant c.holds_pieces.ensures c.args.self.now c.self.view_is in
    let keyed = c.finding_of.ensures inside.names (base_of k.items) k.is k.are in
    let rightly = told_there c.spots_are_in.ensures inside.files inside.base.items k.items k.is.read_in.each k.located c.args.i (told c.finding_of.result) keyed in
    (k.items, k.of_files, subst (λ (s : SessionView). IsRightlyTold s.files k.items c.args.i (told c.finding_of.result)) c.self.view_is rightly)

pub returns-clause-derived : goal.returns-clause-derived
returns-clause-derived c is = found_derivable c.proved_is_derived_at.ensures c.args.self.now c.args.i (told c.finding_of.result) (returns-clause-found c) (ap told is)
