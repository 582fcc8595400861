use Rattle.std.proofs.Common.{◌≡◌, ◌<◌, ◌++◌, ◌-◌, suc, length, drop, arith, ap, sym, ◌∙◌, set}
use Rattle.std.proofs.Math.ListN.{length-set}
use Rattle.irt_base.specs.Text.{hex_digits}
use Rattle.irt_base.proofs.TextLemmas.{hex_digits-step, hex_digits-all}
use Rattle.irt_base.proofs.texts.write_hex.Goals as goal

pub loop-place-preserved : goal.loop-place-preserved
loop-place-preserved c =
    let sized : length (set c.loop-place.out (c.loop-place.place - 1) c.hex_byte.result) ≡ length c.loop-place.out = simp length-set in
    let back : c.loop-place.place ≡ suc (c.loop-place.place - 1) = omega arith in
    let inside : c.loop-place.place - 1 < length c.loop-place.out = omega arith in (
      omega arith,
      ap (λ n. hex_digits n c.args.value) sized ∙
          hex_digits-step _ c.loop-place.out (c.loop-place.place - 1) c.loop-place.rest c.hex_byte.result
          (c.loop-place.invariant.1 ∙ ap (λ n. hex_digits n c.loop-place.rest ++ drop n c.loop-place.out) back) inside c.hex_byte.ensures,
    )

pub returns : goal.returns
returns c =
    let none : c.loop-place.place ≡ 0 = omega arith in
    hex_digits-all _ c.loop-place.out c.loop-place.place c.loop-place.rest none
    (ap (λ n. hex_digits n c.args.value) (sym c.loop-place.auto.out) ∙ c.loop-place.invariant.1)
