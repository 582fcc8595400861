use Rattle.std.proofs.Common.{◌≡◌, refl, arith}
use Rattle.plant_gen.proofs.power.Goals as goal

pub returns-in_default-clause-power : goal.returns-in_default-clause-power
returns-in_default-clause-power c =
    let three : c.args.exponent ≡ 3 = omega arith in
    rw three refl
