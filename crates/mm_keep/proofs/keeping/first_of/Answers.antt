use Rattle.std.proofs.Common.{sym, subst}
use Rattle.mm_proof.specs.mm_frame.declared.base.Base.{Base}
use Rattle.mm_keep.specs.Code.Next.{IsBuilt}
use Rattle.mm_keep.proofs.keeping.first_of.Goals as goal

pub returns-clause-first : goal.returns-clause-first
returns-clause-first c =
    let built = c.in_ok-base.ensures.base in
    let next = c.in_ok-with_runs.ensures in
    let begins = rw next.1 at c.run_all-ran.ensures in
    record {
      base = built.0;
      built = subst (λ (code : Base). IsBuilt c.build.new.names c.args.files.now c.args.top.now code built.0) (sym next.0) (record { of_files = built.1; by_names = built.2; later = built.3 });
      begins = begins built.0 (record { base = built.2; each = built.1.each });
    }
