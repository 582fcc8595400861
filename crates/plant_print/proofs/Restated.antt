-- What was printed states the plant.
use Rattle.std.proofs.Common.{◌≡◌, ◌<◌, ◌≤◌, ◌+◌, ◌^◌, ℕ, zero, suc, min, true, false, List, [], ◌∷◌, length, map, bytes_eq, Option, Some, None, refl, ◌∙◌, ap, subst, arith}
use Rattle.std.proofs.lemmas.Option.{same_Some}
use Rattle.std.proofs.lemmas.Bool.{eq-eqb}
use Rattle.std.specs.List.{AllByRecursion, IsDistinct, position_from, slice_get}
use Rattle.std.specs.Option.{option_map_or}
use Rattle.irt_base.specs.declared.numbers.DevId.{DevId}
use Rattle.irt_base.specs.declared.blocks.PortDelay.{PortDelay}
use Rattle.irt_base.specs.declared.plants.SyncPlan.{SyncPlan}
use Rattle.irt_base.specs.declared.plants.Device.{Device}
use Rattle.irt_base.specs.declared.plants.Link.{Link}
use Rattle.irt_base.specs.declared.plants.Demand.{Demand}
use Rattle.irt_base.specs.declared.plants.Traffic.{Traffic}
use Rattle.irt_base.specs.declared.plants.App.{App}
use Rattle.irt_base.specs.declared.plants.Plant.{Plant}
use Rattle.plant_shape.specs.declared.raw.RawDevice.{RawDevice}
use Rattle.irt_topo.specs.Stated.{in_byte, in_two_bytes, stated_device_id, stated_port, stated_sync, stated_device, stated_link, stated_demand, stated_traffic, stated_app, stated_plant}
use Rattle.plant_rules.specs.Words.{same_name, is_within}
use Rattle.plant_rules.specs.Meets.{HasPort, IsDevice, IsLink, IsDemand, IsConsumer, IsTraffic, IsApp, IsSyncPlan, MeetsRules}
use Rattle.plant_rules.proofs.Delays.{all_at}
use Rattle.irt_topo.proofs.ItemTests.{within}
use Rattle.plant_print.specs.Printed.{name_at, printed_port, printed_sync, printed_device, printed_link, printed_demand, printed_traffic, printed_app, printed_plant}

bytes_eq-refl : (bytes : List ℕ) → bytes_eq bytes bytes ≡ true
bytes_eq-refl [] = refl
bytes_eq-refl (b ∷ bs) = rw (eq-eqb b b refl, bytes_eq-refl bs) refl

abbrev some_place : ℕ → Option ℕ
some_place n = Some n

-- the place of a name is its device's
place_is : (ds : List Device) (k i : ℕ) (d : Device) → slice_get ds k ≡ Some d → IsDistinct same_name ds
    → position_from (λ (r : RawDevice). bytes_eq r.name d.name) i (map printed_device ds) ≡ some_place (i + k)
unfolding IsDistinct
place_is [] k i d at distinct = absurd cc
place_is (x ∷ xs) zero i d at distinct =
    let same : x ≡ d = same_Some _ _ at in
    let P : Device → Type 0 = λ e. bytes_eq x.name e.name ≡ true in
    let here : bytes_eq x.name d.name ≡ true = subst P same (bytes_eq-refl x.name) in
    let sum : i ≡ i + zero = omega arith in
    rw here (ap some_place sum)
place_is (x ∷ xs) (suc k) i d at distinct =
    let other : bytes_eq x.name d.name ≡ false = all_at (λ (e : Device). same_name x e ≡ false) xs k d distinct.0 at in
    let sum : i + 1 + k ≡ i + suc k = omega arith in
    rw other (place_is xs k (i + 1) d at distinct.1 ∙ ap some_place sum)

some_device : (ds : List Device) (k : ℕ) → k < length ds → (d : Device) × (slice_get ds k ≡ Some d)
some_device [] k below = absurd (omega arith)
some_device (x ∷ xs) zero below = (x, refl)
some_device (x ∷ xs) (suc k) below = some_device xs k (omega arith)

-- a device's name names it
named : (ds : List Device) (id : DevId) → id.0 < length ds → length ds ≤ 64 → IsDistinct same_name ds
    → stated_device_id (map printed_device ds) (name_at ds id) ≡ id
named ds id below most distinct =
    let (d, at) = some_device ds id.0 below in
    let name : name_at ds id ≡ d.name = rw at refl in
    let place : position_from (λ (r : RawDevice). bytes_eq r.name d.name) 0 (map printed_device ds) ≡ some_place id.0 =
    place_is ds id.0 0 d at distinct ∙ (let sum : 0 + id.0 ≡ id.0 = omega arith in ap some_place sum) in
    let small : min id.0 255 ≡ id.0 = omega arith in
    rw (name, place, small) refl

byte_same : (n : ℕ) → n ≤ 255 → in_byte n ≡ n
byte_same n h = omega arith

two_bytes_same : (n : ℕ) → n ≤ 65535 → in_two_bytes n ≡ n
two_bytes_same n h = omega arith

-- a list that is given back item by item
each_back : {A B : Type 0} (f : A → B) (g : B → A) (xs : List B) → AllByRecursion (λ x. f (g x) ≡ x) xs → map f (map g xs) ≡ xs
each_back f g [] all = refl
each_back f g (x ∷ xs) all = rw (all.0, each_back f g xs all.1) refl

each_of : {B : Type 0} (P Q : B → Type 0) → ((x : B) → P x → Q x) → (xs : List B) → AllByRecursion P xs → AllByRecursion Q xs
each_of P Q f [] all = tt
each_of P Q f (x ∷ xs) all = (f x all.0, each_of P Q f xs all.1)

each_of_any : {B : Type 0} (Q : B → Type 0) → ((x : B) → Q x) → (xs : List B) → AllByRecursion Q xs
each_of_any Q f [] = tt
each_of_any Q f (x ∷ xs) = (f x, each_of_any Q f xs)

ports_back : (ports : List PortDelay) → map stated_port (map printed_port ports) ≡ ports
ports_back ports = each_back stated_port printed_port ports (each_of_any (λ (p : PortDelay). stated_port (printed_port p) ≡ p) (λ p. refl) ports)

device_back : (d : Device) → stated_device (printed_device d) ≡ d
device_back d = rw (ports_back d.ports) refl

devices_back : (ds : List Device) → map stated_device (map printed_device ds) ≡ ds
devices_back ds = each_back stated_device printed_device ds (each_of_any (λ (d : Device). stated_device (printed_device d) ≡ d) device_back ds)

sync_back : (s : SyncPlan) → IsSyncPlan s → stated_sync (printed_sync s) ≡ s
sync_back s h = rw (two_bytes_same s.timeout (omega (arith, h.timeout.1))) refl

-- a port that is there has a small number
port_small : (devices : List Device) (found : Option Device) (port : ℕ) → ((d : Device) → found ≡ Some d → length d.ports ≤ 7)
    → option_map_or (λ (d : Device). is_within 1 (length d.ports) port) found false ≡ true → port ≤ 255
port_small devices None port counts h = absurd cc
port_small devices (Some d) port counts h = omega (arith, counts d refl, (within 1 (length d.ports) port h).1)

pub linked_port : (p : Plant) (device port : ℕ) → MeetsRules p → HasPort p device port → port ≤ 255
linked_port p device port m h =
    port_small p.devices (slice_get p.devices device) port
    (λ d at. let count = (all_at IsDevice p.devices device d m.devices at).port_count in count.1) h

-- and its device is there
found_device : (devices : List Device) (device port : ℕ) → option_map_or (λ (d : Device). is_within 1 (length d.ports) port) (slice_get devices device) false ≡ true
    → device < length devices
found_device [] device port h = absurd cc
found_device (d ∷ ds) zero port h = omega arith
found_device (d ∷ ds) (suc device) port h = omega (arith, found_device ds device port h)

port_device : (p : Plant) (device port : ℕ) → HasPort p device port → device < length p.devices
port_device p device port h = found_device p.devices device port h

link_back : (p : Plant) (l : Link) → MeetsRules p → IsLink p l → stated_link (map printed_device p.devices) (printed_link p.devices l) ≡ l
link_back p l m h =
    let a : stated_device_id (map printed_device p.devices) (name_at p.devices l.a) ≡ l.a =
    named p.devices l.a (port_device p l.a.0 l.a_port.0 h.first_port) m.device_count.1 m.names_differ in
    let b : stated_device_id (map printed_device p.devices) (name_at p.devices l.b) ≡ l.b =
    named p.devices l.b (port_device p l.b.0 l.b_port.0 h.second_port) m.device_count.1 m.names_differ in
    let a_port : min l.a_port.0 255 ≡ l.a_port.0 = byte_same l.a_port.0 (linked_port p l.a.0 l.a_port.0 m h.first_port) in
    let b_port : min l.b_port.0 255 ≡ l.b_port.0 = byte_same l.b_port.0 (linked_port p l.b.0 l.b_port.0 m h.second_port) in
    rw (a, b, a_port, b_port) refl

consumers_back : (p : Plant) (provider : DevId) (cs : List DevId) → MeetsRules p → AllByRecursion (IsConsumer p provider) cs
    → map (stated_device_id (map printed_device p.devices)) (map (name_at p.devices) cs) ≡ cs
consumers_back p provider cs m all =
    each_back (stated_device_id (map printed_device p.devices)) (name_at p.devices) cs
    (each_of (IsConsumer p provider) (λ (c : DevId). stated_device_id (map printed_device p.devices) (name_at p.devices c) ≡ c)
    (λ c is. named p.devices c is.device m.device_count.1 m.names_differ) cs all)

demand_back : (p : Plant) (d : Demand) → MeetsRules p → IsDemand p d → stated_demand (map printed_device p.devices) (printed_demand p.devices d) ≡ d
demand_back p d m h =
    let provider : stated_device_id (map printed_device p.devices) (name_at p.devices d.provider) ≡ d.provider =
    named p.devices d.provider h.provider m.device_count.1 m.names_differ in
    let frame : min d.frame.0 65535 ≡ d.frame.0 = two_bytes_same d.frame.0 (omega (arith, h.frame.1)) in
    let size : min d.length 65535 ≡ d.length = two_bytes_same d.length (omega (arith, h.length.0.1)) in
    rw (provider, frame, size, consumers_back p d.provider d.consumers m h.consumers) refl

traffic_back : (p : Plant) (t : Traffic) → MeetsRules p → IsTraffic p t → stated_traffic (map printed_device p.devices) (printed_traffic p.devices t) ≡ t
traffic_back p t m h =
    let source : stated_device_id (map printed_device p.devices) (name_at p.devices t.source) ≡ t.source =
    named p.devices t.source h.source m.device_count.1 m.names_differ in
    let target : stated_device_id (map printed_device p.devices) (name_at p.devices t.target) ≡ t.target =
    named p.devices t.target h.target m.device_count.1 m.names_differ in
    let size : min t.length 65535 ≡ t.length = two_bytes_same t.length (omega (arith, h.length.1)) in
    let count : min t.count 255 ≡ t.count = byte_same t.count (omega (arith, h.count.1)) in
    rw (source, target, size, count) refl

app_back : (p : Plant) (a : App) → MeetsRules p → IsApp p a → stated_app (map printed_device p.devices) (printed_app p.devices a) ≡ a
app_back p a m h =
    let device : stated_device_id (map printed_device p.devices) (name_at p.devices a.device) ≡ a.device =
    named p.devices a.device h m.device_count.1 m.names_differ in
    rw device refl

-- the ports of links fit a number of 32 bits
pub links_fit : (p : Plant) → MeetsRules p → AllByRecursion (λ (l : Link). (l.a_port.0 < 2 ^ 32) × (l.b_port.0 < 2 ^ 32)) p.links
links_fit p m =
    each_of (IsLink p) (λ (l : Link). (l.a_port.0 < 2 ^ 32) × (l.b_port.0 < 2 ^ 32))
    (λ l is. (omega (arith, linked_port p l.a.0 l.a_port.0 m is.first_port), omega (arith, linked_port p l.b.0 l.b_port.0 m is.second_port)))
    p.links m.links

pub plant_back : (p : Plant) → MeetsRules p → stated_plant (printed_plant p) ≡ p
plant_back p m =
    let known = map printed_device p.devices in
    let factor : min p.factor 255 ≡ p.factor = byte_same p.factor (omega (arith, m.factor.1)) in
    let links : map (stated_link known) (map (printed_link p.devices) p.links) ≡ p.links =
    each_back (stated_link known) (printed_link p.devices) p.links
    (each_of (IsLink p) (λ (l : Link). stated_link known (printed_link p.devices l) ≡ l) (λ l is. link_back p l m is) p.links m.links) in
    let demands : map (stated_demand known) (map (printed_demand p.devices) p.demands) ≡ p.demands =
    each_back (stated_demand known) (printed_demand p.devices) p.demands
    (each_of (IsDemand p) (λ (d : Demand). stated_demand known (printed_demand p.devices d) ≡ d) (λ d is. demand_back p d m is) p.demands m.demands) in
    let traffic : map (stated_traffic known) (map (printed_traffic p.devices) p.traffic) ≡ p.traffic =
    each_back (stated_traffic known) (printed_traffic p.devices) p.traffic
    (each_of (IsTraffic p) (λ (t : Traffic). stated_traffic known (printed_traffic p.devices t) ≡ t) (λ t is. traffic_back p t m is) p.traffic m.traffic) in
    let apps : map (stated_app known) (map (printed_app p.devices) p.apps) ≡ p.apps =
    each_back (stated_app known) (printed_app p.devices) p.apps
    (each_of (IsApp p) (λ (a : App). stated_app known (printed_app p.devices a) ≡ a) (λ a is. app_back p a m is) p.apps m.apps) in
    rw (factor, sync_back p.sync m.sync, devices_back p.devices, links, demands, traffic, apps) refl
