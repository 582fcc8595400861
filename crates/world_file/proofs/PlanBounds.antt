-- How many forwardings and links a plan has, and how great a bridge delay is.
use Rattle.std.proofs.Common.{◌≡◌, ◌<◌, ◌≤◌, ◌+◌, ◌*◌, ◌^◌, ◌==◌, nat_le, ℕ, suc, Bool, true, false, List, [], ◌∷◌, ◌++◌, map, filter, length, All, sym, arith, length-append, inl, inr}
use Rattle.std.specs.List.{AllByRecursion, IsDistinct, list_any}
use Rattle.std.proofs.lemmas.Bool.{and_parts, cases_Bool, eq-eqb, eqb-true, leb-true}
use Rattle.std.proofs.lemmas.List.{length-map}
use Rattle.std.proofs.lemmas.List.Elements.{All-head, All-tail}
use Rattle.std.proofs.lemmas.Map.Keys.{IsDistinct-cons, IsDistinct-head, IsDistinct-tail}
use Rattle.std.proofs.lemmas.Map.Steps.{length-le_from_distinct_below}
use Rattle.std.proofs.lemmas.Option.{slice_get_cases}
use Rattle.irt_base.specs.Valid.{IsBundle}
use Rattle.irt_base.specs.declared.blocks.Bundle.{Bundle}
use Rattle.irt_base.specs.declared.blocks.Entry.{Entry}
use Rattle.irt_base.specs.declared.plants.Device.{Device}
use Rattle.irt_base.specs.declared.plants.Link.{Link}
use Rattle.irt_base.specs.declared.plants.Plant.{Plant}
use Rattle.irt_world.specs.Forwardings.{forwarding_of, forwardings, forwardings_at, forwardings_from, is_delayed}
use Rattle.irt_world.specs.declared.forwardings.Forwarding.{Forwarding}
use Rattle.plan_rules.specs.Plan.{IsPlan}
use Rattle.plant_rules.specs.Meets.{HasPort, IsDevice, IsLink, MeetsRules}
use Rattle.plant_rules.specs.Words.{is_within, share_port}
use Rattle.world_file.proofs.FirstWrong.{each_at}

all_joined : {A : Type 0} (P : A → Type 0) (xs ys : List A) → AllByRecursion P xs → AllByRecursion P ys → AllByRecursion P (xs ++ ys)
all_joined P [] ys front back = back
all_joined P (x ∷ xs) ys front back = (front.0, all_joined P xs ys front.1 back)

small_at : (n : ℕ) (d : Device) (es : List Entry) → d.bmax < 2 ^ 32 → AllByRecursion (λ (f : Forwarding). f.bmax < 2 ^ 32) (map (forwarding_of n d) es)
small_at n d [] small = tt
small_at n d (e ∷ es) small = (small, small_at n d es small)

small_from : (n : ℕ) (ds : List Device) (bs : List Bundle) → AllByRecursion IsDevice ds → AllByRecursion (λ f. f.bmax < 2 ^ 32) (forwardings_from n ds bs)
small_from n (d ∷ ds) (b ∷ bs) all =
    let limit = all.0.bridge in
    all_joined (λ (f : Forwarding). f.bmax < 2 ^ 32) (forwardings_at n d b) (forwardings_from (suc n) ds bs)
    (small_at n d (filter (is_delayed d) b.frames.entries) (omega (arith, limit))) (small_from (suc n) ds bs all.1)
small_from n (d ∷ ds) [] all = tt
small_from n [] bs all = tt

pub delays_small : (plant : Plant) (bundles : List Bundle) → IsPlan plant bundles → AllByRecursion (λ f. f.bmax < 2 ^ 32) (forwardings plant bundles)
delays_small plant bundles plan = small_from 0 plant.devices bundles plan.rules.devices

few_filtered : (p : Entry → Bool) (es : List Entry) → length (filter p es) ≤ length es
few_filtered p [] = omega arith
few_filtered p (e ∷ es) =
    let more = few_filtered p es in
    elim (cases_Bool (p e)) [ inl passes ↦ rw passes (omega (arith, more)) | inr fails ↦ rw fails (omega (arith, more)) ]

few_from : (n : ℕ) (ds : List Device) (bs : List Bundle) → All IsBundle bs → length (forwardings_from n ds bs) ≤ 512 * length ds
few_from n (d ∷ ds) (b ∷ bs) all =
    let here = (All-head IsBundle b bs all).frames.count in
    let more = few_from (suc n) ds bs (All-tail IsBundle b bs all) in
    let kept = few_filtered (is_delayed d) b.frames.entries in
    omega (
      arith,
      here,
      more,
      kept,
      length-map (filter (is_delayed d) b.frames.entries) (forwarding_of n d),
      length-append (forwardings_at n d b) (forwardings_from (suc n) ds bs),
    )
few_from n (d ∷ ds) [] all = omega arith
few_from n [] bs all = omega arith

pub few_forwardings : (plant : Plant) (bundles : List Bundle) → IsPlan plant bundles → length plant.devices + length (forwardings plant bundles) < 2 ^ 31
few_forwardings plant bundles plan =
    let few = few_from 0 plant.devices bundles plan.blocks in
    let devices = plan.rules.device_count in
    omega (arith, few, devices)

is_false : false ≡ true → ⊥
is_false is = cc

distinct_none : IsDistinct (λ (m n : ℕ). m == n) []
unfolding IsDistinct
distinct_none = tt

-- the first end of a link as one number
abbrev first_end : Link → ℕ
first_end l = l.a.0 * 8 + l.a_port.0

abbrev HasSmallEnd : Link → Type 0
HasSmallEnd l = (l.a_port.0 < 8) × (first_end l < 512)

port_small : (plant : Plant) → MeetsRules plant → (device port : ℕ) → HasPort plant device port → (port < 8) × (device < 64)
port_small plant rules device port has =
    elim (slice_get_cases plant.devices device).1 [
      | inl (d, within, held, same) ↦
          let inside : is_within 1 (length d.ports) port ≡ true = rw held at has in
          let high = leb-true port (length d.ports) (and_parts (nat_le 1 port) (nat_le port (length d.ports)) inside).1 in
          let limit = (each_at IsDevice plant.devices device d rules.devices held).port_count in
          let devices = rules.device_count in
          (omega (arith, high, limit), omega (arith, within, devices))
      | inr (past, none) ↦ absurd (is_false (rw none at has))
    ]

small_ends : (plant : Plant) → MeetsRules plant → (links : List Link) → AllByRecursion (IsLink plant) links → AllByRecursion HasSmallEnd links
small_ends plant rules [] all = tt
small_ends plant rules (l ∷ ls) all =
    let (port, device) = port_small plant rules l.a.0 l.a_port.0 all.0.first_port in
    ((port, omega (arith, port, device)), small_ends plant rules ls all.1)

ends_differ : (l m : Link) → HasSmallEnd l → HasSmallEnd m → share_port l m ≡ false → (first_end l == first_end m) ≡ false
ends_differ l m small_l small_m apart =
    elim (cases_Bool (first_end l == first_end m)) [
      | inl same ↦
          let equal = eqb-true (first_end l) (first_end m) same in
          let port_l = small_l.0 in
          let port_m = small_m.0 in
          let devices : l.a.0 ≡ m.a.0 = omega (arith, equal, port_l, port_m) in
          let ports : l.a_port.0 ≡ m.a_port.0 = omega (arith, equal, port_l, port_m) in
          absurd (is_false (sym (rw (eq-eqb l.a.0 m.a.0 devices, eq-eqb l.a_port.0 m.a_port.0 ports) at apart)))
      | inr other ↦ other
    ]

others_differ : (l : Link) (ms : List Link) → HasSmallEnd l → AllByRecursion HasSmallEnd ms → AllByRecursion (λ m. share_port l m ≡ false) ms →
    AllByRecursion (λ n. (first_end l == n) ≡ false) (map first_end ms)
others_differ l [] small all apart = tt
others_differ l (m ∷ ms) small all apart = (ends_differ l m small all.0 apart.0, others_differ l ms small all.1 apart.1)

distinct_ends : (ls : List Link) → AllByRecursion HasSmallEnd ls → IsDistinct share_port ls → IsDistinct (λ m n. m == n) (map first_end ls)
distinct_ends [] all distinct = distinct_none
distinct_ends (l ∷ ls) all distinct =
    IsDistinct-cons (λ m n. m == n) (first_end l) (map first_end ls) (others_differ l ls all.0 all.1 (IsDistinct-head share_port l ls distinct))
    (distinct_ends ls all.1 (IsDistinct-tail share_port l ls distinct))

ends_below : (ls : List Link) → AllByRecursion HasSmallEnd ls → (q : ℕ) → list_any (λ n. q == n) (map first_end ls) ≡ true → q < 512
ends_below [] all q any = absurd (is_false any)
ends_below (l ∷ ls) all q any =
    elim (cases_Bool (q == first_end l)) [
      | inl here ↦ let small = all.0.1 in omega (arith, eqb-true q (first_end l) here, small)
      | inr other ↦ ends_below ls all.1 q (rw other at any)
    ]

pub few_links : (plant : Plant) → MeetsRules plant → length plant.links ≤ 2 ^ 16
few_links plant rules =
    let ends = small_ends plant rules plant.links rules.links in
    let few = length-le_from_distinct_below (map first_end plant.links) 512 (distinct_ends plant.links ends rules.ports_differ) (ends_below plant.links ends) in
    omega (arith, few, length-map plant.links first_end)
