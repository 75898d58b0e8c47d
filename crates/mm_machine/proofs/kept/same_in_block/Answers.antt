use Rattle.std.proofs.{Common.{◌≡◌, ◌^◌, ◌-◌, ◌%◌, ℕ, length, take, not, eqb, arith, ap, ap₂, ◌∙◌, sym, w32}, lemmas.{Bool.{eqb-true, eq-eqb}, List.{length-map}}}
use Rattle.std.proofs.lemmas.{Simd.{tops_compared, mask_l-mod, length-chunk, length-zip2}, Nat.{and_mask, one_shl}}
use lib.Lanes.{chunk, mask_l, zip2}
use lib.Bits.{bit_and}
use Rattle.mm_machine.{specs.declared.symbol.CodedSymbol.{CodedSymbol}, proofs.lemmas.machine.CopyLemmas.{low_bits, block_codes}}
use Rattle.mm_machine.proofs.kept.same_in_block.Goals as goal

pub returns : goal.returns
returns c =
    let n = c.args.len in
    let xs = c.codes.result in
    let ys = c.codes-2.result in
    let code : CodedSymbol → ℕ = λ s. s.code in
    let in_xs : length xs ≡ 4 = ap length c.codes.ensures ∙ length-map (chunk c.args.at 4 c.args.one.now) code ∙ length-chunk c.args.at 4 c.args.one.now c.requires.one in
    let in_ys : length ys ≡ 4 = ap length c.codes-2.ensures ∙ length-map (chunk c.args.from 4 c.args.other.now) code ∙ length-chunk c.args.from 4 c.args.other.now c.requires.other in
    let differ = zip2 (λ a b. not (eqb a b)) xs ys in
    let few = length-zip2 (λ a b. not (eqb a b)) xs ys (in_xs ∙ sym in_ys) in
    let mask = ap (λ ms. mask_l ms % 2 ^ 64) (tops_compared w32 (λ a b. not (eqb a b)) xs ys) ∙ mask_l-mod differ 64 (omega (arith, few, in_xs)) in
    let bits = ap₂ (λ m k. bit_and m (k - 1)) mask (one_shl n 64 (omega (arith, c.requires.few))) ∙ and_mask (mask_l differ) n in
    let low = low_bits xs ys n (omega (arith, in_xs, c.requires.few)) (omega (arith, in_ys, c.requires.few)) in
    let same = block_codes c.args.one.now c.args.other.now c.args.at c.args.from n c.requires.few in (
      λ t. same.0 (ap (take n) (sym c.codes.ensures) ∙ low.0 (sym bits ∙ eqb-true _ 0 t) ∙ ap (take n) c.codes-2.ensures),
      λ e. eq-eqb _ 0 (bits ∙ low.1 (ap (take n) c.codes.ensures ∙ same.1 e ∙ ap (take n) (sym c.codes-2.ensures))),
    )
