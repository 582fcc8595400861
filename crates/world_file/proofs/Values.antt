-- The values that are kept are those in range, and the first that is not is the wrong one.
use Rattle.std.proofs.Common.{◌≡◌, ◌<◌, ◌≤◌, ◌&&◌, ℕ, suc, ℤ, pos, negsuc, neg_ℤ, ◌≤ℤ◌, min, nat_le, nat_lt, not, Bool, true, false, length, refl, sym, ◌∙◌, ap, arith}
use Rattle.std.proofs.lemmas.Bool.{and_parts, leb-true, ltb-true, le-leb, lt-ltb, and_from}
use Rattle.std.proofs.lemmas.Int.{ints}
use Rattle.irt_base.specs.Valid.{IsWithin}
use Rattle.irt_base.specs.declared.limits.TheConstants.{MAX_ERROR}
use Rattle.irt_base.specs.declared.plants.Plant.{Plant}
use Rattle.irt_world.specs.Rows.{IsError}
use Rattle.irt_world.specs.declared.forwardings.Forwarding.{Forwarding}
use Rattle.world_file.specs.Reading.{is_delay, is_error, is_link, signed_of}
use Rattle.world_file.specs.Wrong.{IsDelay, IsLinkNumber}
use Rattle.world_file.specs.declared.number.Number.{Number}
use Rattle.world_file.specs.declared.number.TheConstants.{FAR}
use Rattle.world_file.proofs.NumberText.{near}

true_false : true ≡ false → ⊥
true_false is = cc

refused : (b : Bool) → b ≡ true → b ≡ false → ⊥
refused b passes fails = true_false (sym passes ∙ fails)

small_error : (n : ℕ) → min n FAR ≤ MAX_ERROR → min n FAR ≡ n
small_error n small = omega arith

pub right_error : (z : ℤ) → is_error (near z) ≡ true → IsError z × (signed_of (near z) ≡ z)
right_error (pos n) test =
    let small : min n FAR ≤ MAX_ERROR = leb-true (min n FAR) MAX_ERROR test in
    (record { early = omega (arith, ints, small); late = omega (arith, ints, small) }, ap (λ m. pos m) (small_error n small))
right_error (negsuc n) test =
    let small : min (suc n) FAR ≤ MAX_ERROR = leb-true (min (suc n) FAR) MAX_ERROR test in
    (record { early = omega (arith, ints, small); late = omega (arith, ints, small) }, ap (λ m. neg_ℤ (pos m)) (small_error (suc n) small))

pub wrong_error : (z : ℤ) → is_error (near z) ≡ false → ¬ IsError z
wrong_error (pos n) test = λ is.
    let late = is.late in
    refused (is_error (near (pos n))) (le-leb (min n FAR) MAX_ERROR (omega (arith, ints, late))) test
wrong_error (negsuc n) test = λ is.
    let early = is.early in
    refused (is_error (near (negsuc n))) (le-leb (min (suc n) FAR) MAX_ERROR (omega (arith, ints, early))) test

-- a number that isn't negative, and is read whole
pub record IsPlain (z : ℤ) (m : Number) : Type 0 where
  pub n : ℕ
  pub is : z ≡ pos n
  pub size : m.size ≡ n

pub right_delay : (f : Forwarding) (z : ℤ) → f.bmax < FAR → is_delay f (near z) ≡ true → (p : IsPlain z (near z)) × IsWithin f.bmin f.bmax p.n
right_delay f (pos n) bound test =
    let (first, high_test) = and_parts (not false && nat_le f.bmin (min n FAR)) (nat_le (min n FAR) f.bmax) test in
    let low = leb-true f.bmin (min n FAR) (and_parts (not false) (nat_le f.bmin (min n FAR)) first).1 in
    let high = leb-true (min n FAR) f.bmax high_test in
    let whole : min n FAR ≡ n = omega (arith, high) in
    (record { n = n; is = refl; size = whole }, (omega (arith, low, whole), omega (arith, high, whole)))
right_delay f (negsuc n) bound test = absurd (true_false (sym test))

pub wrong_delay : (f : Forwarding) (z : ℤ) → f.bmax < FAR → is_delay f (near z) ≡ false → ¬ IsDelay f z
wrong_delay f (pos n) bound test = λ is.
    let (low, high) = is in
    refused (is_delay f (near (pos n)))
    (and_from (not false && nat_le f.bmin (min n FAR)) (nat_le (min n FAR) f.bmax)
    (and_from (not false) (nat_le f.bmin (min n FAR)) refl (le-leb f.bmin (min n FAR) (omega (arith, ints, low, high))))
    (le-leb (min n FAR) f.bmax (omega (arith, ints, low, high))))
    test
wrong_delay f (negsuc n) bound test = λ is. let low = is.0 in absurd (omega (arith, ints, low))

pub right_link : (least links : ℕ) (z : ℤ) → links < FAR → is_link least links (near z) ≡ true → (p : IsPlain z (near z)) × (least ≤ p.n) × (p.n < links)
right_link least links (pos n) bound test =
    let (first, high_test) = and_parts (not false && nat_le least (min n FAR)) (nat_lt (min n FAR) links) test in
    let low = leb-true least (min n FAR) (and_parts (not false) (nat_le least (min n FAR)) first).1 in
    let high = ltb-true (min n FAR) links high_test in
    let whole : min n FAR ≡ n = omega (arith, high) in
    (record { n = n; is = refl; size = whole }, omega (arith, low, whole), omega (arith, high, whole))
right_link least links (negsuc n) bound test = absurd (true_false (sym test))

pub wrong_link : (least : ℕ) (plant : Plant) (z : ℤ) → length plant.links < FAR → is_link least (length plant.links) (near z) ≡ false → ¬ (IsLinkNumber plant z × (pos least ≤ℤ z))
wrong_link least plant (pos n) bound test = λ is.
    let (number, low) = is in
    let high = number.1 in
    refused (is_link least (length plant.links) (near (pos n)))
    (and_from (not false && nat_le least (min n FAR)) (nat_lt (min n FAR) (length plant.links))
    (and_from (not false) (nat_le least (min n FAR)) refl (le-leb least (min n FAR) (omega (arith, ints, low, high))))
    (lt-ltb (min n FAR) (length plant.links) (omega (arith, ints, low, high))))
    test
wrong_link least plant (negsuc n) bound test = λ is. let low = is.0.0 in absurd (omega (arith, ints, low))
