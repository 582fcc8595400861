-- A device has one image, and of a frame the part that was held of what came.
use Rattle.std.proofs.Common.{◌≡◌, ℕ, List, [], ◌∷◌, Option, IsSome, refl, sym, ◌∙◌, ap, subst}
use Rattle.std.specs.Prelude.{unwrap_or}
use Rattle.std.specs.List.{AllZip, concat}
use Rattle.irt_base.specs.declared.blocks.Entry.{Entry}
use Rattle.plan_rules.specs.Once.{HasToReach}
use Rattle.plan_rules.specs.Way.{Setup}
use Rattle.plan_rules.specs.World.{WorldRow}
use Rattle.iso_rules.specs.Hold.{IsHeldOf}
use Rattle.iso_rules.specs.Image.{loaded_words, IsPart, IsImage, AreArrivals}
use Rattle.iso_rules.specs.Station.{entries_at, consumed_of}
use Rattle.iso_rules.proofs.Holding.{one_part, part_alike}

one_zip : {A B : Type 0} (R : A → B → Type 0) (xs : List A) (ys zs : List B) → ((x : A) (y z : B) → R x y → R x z → y ≡ z) →
    AllZip R xs ys → AllZip R xs zs → ys ≡ zs
one_zip R [] [] [] one first second = refl
one_zip R [] (y ∷ ys) zs one first second = absurd first
one_zip R [] [] (z ∷ zs) one first second = absurd second
one_zip R (x ∷ xs) [] zs one first second = absurd first
one_zip R (x ∷ xs) (y ∷ ys) [] one first second = absurd second
one_zip R (x ∷ xs) (y ∷ ys) (z ∷ zs) one first second =
    ap (λ w. w ∷ ys) (one x y z first.0 second.0) ∙ ap (λ ws. z ∷ ws) (one_zip R xs ys zs one first.1 second.1)

pub one_image : (setup : Setup) (world : List WorldRow) (taken : ℕ → ℕ → List ℕ) (device k : ℕ) (image other : List ℕ) →
    IsImage setup world taken device k image → IsImage setup world taken device k other → image ≡ other
one_image setup world taken device k image other first second =
    let same : (e : Entry) (part again : List ℕ) → IsPart setup world taken device k e part → IsPart setup world taken device k e again → part ≡ again =
    λ e part again. one_part (λ cycle. HasToReach setup world cycle device e.frame.0) (λ cycle. loaded_words setup taken cycle e.frame.0) e k part again in
    first.joined
    ∙ ap concat (one_zip (IsPart setup world taken device k) (consumed_of (entries_at setup device)) first.parts second.parts same first.each second.each)
    ∙ sym second.joined

pub arrived_part : (setup : Setup) (world : List WorldRow) (taken : ℕ → ℕ → List ℕ) (device k : ℕ) (e : Entry)
    (came : ℕ → Option (List ℕ)) (part : List ℕ) → AreArrivals setup world taken device k e came →
    IsHeldOf came e k part → IsPart setup world taken device k e part
arrived_part setup world taken device k e came part are held =
    part_alike (λ n. IsSome (came n)) (λ n. HasToReach setup world n device e.frame.0) (λ n. unwrap_or (came n) [])
    (λ n. loaded_words setup taken n e.frame.0) e k part
    (λ n close some. are.only n close.0 some)
    (λ n close reach. subst (λ (o : Option (List ℕ)). IsSome o) (sym (are.each n close.0 reach)) refl)
    (λ n close some. ap (λ (o : Option (List ℕ)). unwrap_or o []) (are.each n close.0 (are.only n close.0 some)))
    held
