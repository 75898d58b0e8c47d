use Rattle.std.proofs.{Common.{◌≡◌, Ok, sym, subst}, lemmas.Result.{IfOk-weaker}}
use Rattle.mm_proof.specs.mm_frame.declared.base.Base.{Base}
use Rattle.mm_keep.{specs.Code.Next.{IsBuilt}, proofs.NextLemmas.{both_read}}
use Rattle.mm_keep.proofs.keeping.next_of.Goals as goal

pub keep_and_run-ran-requires : goal.keep_and_run-ran-requires
keep_and_run-ran-requires c =
    let has = c.requires.old in
    let built = c.in_ok-base.ensures.base in (
      has.0,
      built.0,
      both_read c.args.names.now c.base_of-built.new.names c.args.files.now c.args.top.now c.args.old.now c.in_ok-base.base has.0 built.0 c.count-count.ensures.distinct c.in_ok-base.ensures.grows has.1 built.1,
    )

pub returns-clause-next : goal.returns-clause-next
returns-clause-next c =
    let built = c.in_ok-base.ensures.base in
    IfOk-weaker c.with_runs.result (λ next. (next.base ≡ c.in_ok-base.base) × (c.keep_and_run-ran.result ≡ Ok next.ran)) _
    (λ next same view is.
    let goes = rw same.1 at c.keep_and_run-ran.ensures in
    record {
      base = built.0;
      built = subst (λ (code : Base). IsBuilt c.base_of-built.new.names c.args.files.now c.args.top.now code built.0) (sym same.0) built.1;
      goes_on = goes view built.0
          (both_read c.args.names.now c.base_of-built.new.names c.args.files.now c.args.top.now c.args.old.now c.in_ok-base.base view built.0 c.count-count.ensures.distinct c.in_ok-base.ensures.grows is built.1);
    }) c.with_runs.ensures
