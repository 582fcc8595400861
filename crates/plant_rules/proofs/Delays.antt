-- Delays of a plant that meets the rules are small.
use Rattle.std.proofs.Common.{◌≡◌, ◌≤◌, ◌-◌, ℕ, zero, suc, Bool, cond, List, [], ◌∷◌, Some, option_map, option_and_then, unwrap_or, find, inl, inr, sym, ◌∙◌, ap, subst, arith}
use Rattle.std.proofs.lemmas.Option.{same_Some}
use Rattle.std.proofs.lemmas.Bool.{cases_Bool}
use Rattle.std.specs.List.{AllByRecursion, slice_get}
use Rattle.irt_base.specs.Valid.{IsPortDelay}
use Rattle.irt_base.specs.Wiring.{touches, link_at, tx_delay, rx_delay}
use Rattle.irt_base.specs.declared.limits.TheConstants.{MAX_DELAY}
use Rattle.irt_base.specs.declared.blocks.PortDelay.{PortDelay}
use Rattle.irt_base.specs.declared.plants.Device.{Device}
use Rattle.irt_base.specs.declared.plants.Link.{Link}
use Rattle.irt_base.specs.declared.plants.Plant.{Plant}
use Rattle.plant_rules.specs.Meets.{IsDevice, IsLink, MeetsRules}

-- what holds of each holds of the one at an index
pub all_at : {A : Type 0} (P : A → Type 0) (xs : List A) (i : ℕ) (x : A) → AllByRecursion P xs → slice_get xs i ≡ Some x → P x
all_at P [] i x all at = absurd cc
all_at P (y ∷ ys) zero x all at = subst P (same_Some _ _ at) all.0
all_at P (y ∷ ys) (suc i) x all at = all_at P ys i x all.1 at

-- and of the one found
pub all_found : {A : Type 0} (P : A → Type 0) (test : A → Bool) (xs : List A) (x : A) → AllByRecursion P xs → find test xs ≡ Some x → P x
all_found P test [] x all found = absurd cc
all_found {A} P test (y ∷ ys) x all found =
    elim (cases_Bool (test y)) [
      | inl is ↦ subst P (same_Some _ _ (sym (ap (λ b. cond b (Some y) (find test ys)) is) ∙ found)) all.0
      | inr not_ ↦ all_found P test ys x all.1 (sym (ap (λ b. cond b (Some y) (find test ys)) not_) ∙ found)
    ]

delays_in : (ports : List PortDelay) (place : ℕ) → AllByRecursion IsPortDelay ports
    → (unwrap_or (option_map (λ (p : PortDelay). p.tx) (slice_get ports place)) 0 ≤ MAX_DELAY)
    × (unwrap_or (option_map (λ (p : PortDelay). p.rx) (slice_get ports place)) 0 ≤ MAX_DELAY)
delays_in [] place all = (omega arith, omega arith)
delays_in (p ∷ ps) zero all = (all.0.tx, all.0.rx)
delays_in (p ∷ ps) (suc place) all = delays_in ps place all.1

delays_of : (devices : List Device) (device place : ℕ) → AllByRecursion IsDevice devices
    → (unwrap_or (option_map (λ (p : PortDelay). p.tx) (option_and_then (λ (d : Device). slice_get d.ports place) (slice_get devices device))) 0 ≤ MAX_DELAY)
    × (unwrap_or (option_map (λ (p : PortDelay). p.rx) (option_and_then (λ (d : Device). slice_get d.ports place) (slice_get devices device))) 0 ≤ MAX_DELAY)
delays_of [] device place all = (omega arith, omega arith)
delays_of (d ∷ ds) zero place all = delays_in d.ports place all.0.ports
delays_of (d ∷ ds) (suc device) place all = delays_of ds device place all.1

pub tx_delay-small : (p : Plant) (device port : ℕ) → MeetsRules p → tx_delay p device port ≤ MAX_DELAY
tx_delay-small p device port m = (delays_of p.devices device (port - 1) m.devices).0

pub rx_delay-small : (p : Plant) (device port : ℕ) → MeetsRules p → rx_delay p device port ≤ MAX_DELAY
rx_delay-small p device port m = (delays_of p.devices device (port - 1) m.devices).1

pub link_delay-small : (p : Plant) (device port : ℕ) (link : Link) → MeetsRules p → link_at p device port ≡ Some link → link.delay ≤ MAX_DELAY
link_delay-small p device port link m found = (all_found (IsLink p) (touches device port) p.links link m.links found).delay
