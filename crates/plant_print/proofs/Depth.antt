-- The table of a plant is shallow.
use Rattle.std.proofs.Common.{◌≤◌, ℕ, List, [], ◌∷◌, map, arith}
use Rattle.toml.specs.Data.{Data, depth, items_depth, members_depth}
use Rattle.toml.specs.View.{items_of}
use Rattle.irt_base.specs.declared.plants.Device.{Device}
use Rattle.irt_base.specs.declared.plants.Link.{Link}
use Rattle.irt_base.specs.declared.plants.Demand.{Demand}
use Rattle.irt_base.specs.declared.plants.Traffic.{Traffic}
use Rattle.irt_base.specs.declared.plants.App.{App}
use Rattle.irt_base.specs.declared.plants.Plant.{Plant}
use Rattle.plant_print.specs.Written.{port_data, device_data, link_data, name_data, demand_data, traffic_data, app_data, plant_members}

items_shallow : {A : Type 0} (f : A → Data) (most : ℕ) → ((x : A) → depth (f x) ≤ most) → (xs : List A) → items_depth (items_of (map f xs)) ≤ most
items_shallow f most h [] = omega arith
items_shallow f most h (x ∷ xs) = omega (arith, h x, items_shallow f most h xs)

device_shallow : (d : Device) → depth (device_data d) ≤ 5
device_shallow d =
    let ports : items_depth (items_of (map port_data d.ports)) ≤ 2 = items_shallow port_data 2 (λ p. omega arith) d.ports in
    omega (arith, ports)

link_shallow : (ds : List Device) (l : Link) → depth (link_data ds l) ≤ 5
link_shallow ds l = omega arith

demand_shallow : (ds : List Device) (d : Demand) → depth (demand_data ds d) ≤ 5
demand_shallow ds d =
    let names : items_depth (items_of (map (name_data ds) d.consumers)) ≤ 1 = items_shallow (name_data ds) 1 (λ c. omega arith) d.consumers in
    omega (arith, names)

traffic_shallow : (ds : List Device) (t : Traffic) → depth (traffic_data ds t) ≤ 5
traffic_shallow ds t = omega arith

app_shallow : (ds : List Device) (a : App) → depth (app_data ds a) ≤ 5
app_shallow ds a = omega arith

pub plant_shallow : (p : Plant) → members_depth (plant_members p) ≤ 80
plant_shallow p =
    let devices : items_depth (items_of (map device_data p.devices)) ≤ 5 = items_shallow device_data 5 device_shallow p.devices in
    let links : items_depth (items_of (map (link_data p.devices) p.links)) ≤ 5 = items_shallow (link_data p.devices) 5 (link_shallow p.devices) p.links in
    let demands : items_depth (items_of (map (demand_data p.devices) p.demands)) ≤ 5 = items_shallow (demand_data p.devices) 5 (demand_shallow p.devices) p.demands in
    let traffic : items_depth (items_of (map (traffic_data p.devices) p.traffic)) ≤ 5 = items_shallow (traffic_data p.devices) 5 (traffic_shallow p.devices) p.traffic in
    let apps : items_depth (items_of (map (app_data p.devices) p.apps)) ≤ 5 = items_shallow (app_data p.devices) 5 (app_shallow p.devices) p.apps in
    omega (arith, devices, links, demands, traffic, apps)
