-- The names of a plant's devices hold no byte that ends a field, and each is of one device.
use Rattle.std.proofs.Common.{◌≡◌, ◌<◌, ℕ, zero, suc, Bool, true, false, List, [], ◌∷◌, length, refl, sym, ◌∙◌, ap, arith, inl, inr}
use Rattle.std.specs.Prelude.{bytes_eq, option_map, slice_get, unwrap_or}
use Rattle.std.specs.List.{AllByRecursion, IsDistinct}
use Rattle.std.specs.Bool.{Decides}
use Rattle.std.proofs.lemmas.Bool.Decides.{nat_tests}
use Rattle.std.proofs.lemmas.Slice.Eq.{bytes_eq-Decides}
use Rattle.irt_base.specs.declared.plants.Device.{Device}
use Rattle.irt_base.specs.declared.plants.Plant.{Plant}
use Rattle.irt_trace.specs.Journal.{name_of}
use Rattle.plant_rules.specs.Meets.{IsDevice, IsNameByte, MeetsRules}
use Rattle.plant_rules.specs.Words.{same_name}
use Rattle.record_laws.proofs.Fields.{IsPlain, is_end}

abbrev name_at : List Device → ℕ → List ℕ
name_at devices device = unwrap_or (option_map (λ (d : Device). d.name) (slice_get devices device)) []

letter_plain : (b : ℕ) → IsNameByte b → is_end b ≡ false
letter_plain b (inl within) = grind (arith, nat_tests)
letter_plain b (inr (inl within)) = grind (arith, nat_tests)
letter_plain b (inr (inr is)) = grind (arith, nat_tests)

letters_plain : (name : List ℕ) → AllByRecursion IsNameByte name → IsPlain name
letters_plain [] letters = tt
letters_plain (b ∷ name) letters = (letter_plain b letters.0, letters_plain name letters.1)

plain_at : (devices : List Device) (device : ℕ) → AllByRecursion IsDevice devices → IsPlain (name_at devices device)
plain_at [] device each = tt
plain_at (d ∷ devices) zero each = letters_plain d.name each.0.name.letters
plain_at (d ∷ devices) (suc device) each = plain_at devices device each.1

pub name-plain : (plant : Plant) (device : ℕ) → MeetsRules plant → IsPlain (name_of plant device)
name-plain plant device rules = plain_at plant.devices device rules.devices

false_true : false ≡ true → ⊥
false_true is = cc

unequal : (b : Bool) (P : Type 0) → Decides b P → b ≡ false → P → ⊥
unequal b P decides is p = false_true (sym is ∙ decides.1 p)

other_name : (d : Device) (devices : List Device) (device : ℕ) → AllByRecursion (λ e. same_name d e ≡ false) devices → device < length devices →
    d.name ≡ name_at devices device → ⊥
other_name d [] device others there same = omega arith
other_name d (e ∷ devices) zero others there same = unequal (bytes_eq d.name e.name) (d.name ≡ e.name) (bytes_eq-Decides d.name e.name) others.0 same
other_name d (e ∷ devices) (suc device) others there same = other_name d devices device others.1 (omega arith) same

one_at : (devices : List Device) (m n : ℕ) → IsDistinct same_name devices → m < length devices → n < length devices →
    name_at devices m ≡ name_at devices n → m ≡ n
unfolding IsDistinct
one_at [] m n differ mt nt same = absurd (omega arith)
one_at (d ∷ devices) zero zero differ mt nt same = refl
one_at (d ∷ devices) zero (suc n) differ mt nt same = absurd (other_name d devices n differ.0 (omega arith) same)
one_at (d ∷ devices) (suc m) zero differ mt nt same = absurd (other_name d devices m differ.0 (omega arith) (sym same))
one_at (d ∷ devices) (suc m) (suc n) differ mt nt same = ap (λ k. suc k) (one_at devices m n differ.1 (omega arith) (omega arith) same)

pub name-one : (plant : Plant) (m n : ℕ) → MeetsRules plant → m < length plant.devices → n < length plant.devices →
    name_of plant m ≡ name_of plant n → m ≡ n
name-one plant m n rules mt nt same = one_at plant.devices m n rules.names_differ mt nt same
