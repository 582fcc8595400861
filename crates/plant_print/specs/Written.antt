-- The TOML table of a raw plant, with each key in it.
use Rattle.std.specs.Prelude.{codes, ℕ, pos, ◌<◌, ◌^◌, List, [], ◌∷◌, map}
use Rattle.std.specs.List.{AllByRecursion}
use Rattle.std.specs.Cmp.Lexicographic.{slice_cmp}
use Rattle.std.specs.Ordering.{nat_cmp, match_ordering}
use Rattle.toml.specs.Data.{Data, string, integer, array, table, Members, no_members, member}
use Rattle.toml.specs.View.{items_of}
use Rattle.irt_base.specs.declared.plants.Clocks.{Clocks}
use Rattle.irt_base.specs.declared.plants.Clocks.TheVariants.{World, Ptcp}
use Rattle.irt_base.specs.declared.plants.Mode.{Mode}
use Rattle.irt_base.specs.declared.plants.Mode.TheVariants.{Absolute, Relative}
use Rattle.irt_base.specs.declared.plants.Class.{Class}
use Rattle.irt_base.specs.declared.plants.Class.TheVariants.{Orange, Green}
use Rattle.irt_base.specs.declared.plants.AppName.{AppName}
use Rattle.irt_base.specs.declared.plants.AppName.TheVariants as apps
use Rattle.irt_base.specs.declared.numbers.DevId.{DevId}
use Rattle.irt_base.specs.declared.blocks.PortDelay.{PortDelay}
use Rattle.irt_base.specs.declared.plants.SyncPlan.{SyncPlan}
use Rattle.irt_base.specs.declared.plants.Device.{Device}
use Rattle.irt_base.specs.declared.plants.Link.{Link}
use Rattle.irt_base.specs.declared.plants.Demand.{Demand}
use Rattle.irt_base.specs.declared.plants.Traffic.{Traffic}
use Rattle.irt_base.specs.declared.plants.App.{App}
use Rattle.irt_base.specs.declared.plants.Plant.{Plant}
use Rattle.plant_print.specs.Printed.{name_at}

-- a table with one key more, or with another value at the key
abbrev pub with_member : List ℕ → Data → Members → Members
with_member key value no_members = member key value no_members
with_member key value (member other there rest) =
    match_ordering (slice_cmp nat_cmp key other)
    (member key value (member other there rest)) (member other value rest) (member other there (with_member key value rest))

abbrev pub number_data : ℕ → Data
number_data n = integer (pos n)

abbrev pub clocks_text : Clocks → List ℕ
clocks_text World = codes "world"
clocks_text Ptcp = codes "ptcp"

abbrev pub mode_text : Mode → List ℕ
mode_text Absolute = codes "absolute"
mode_text Relative = codes "relative"

abbrev pub class_text : Class → List ℕ
class_text Orange = codes "orange"
class_text Green = codes "green"

abbrev pub app_text : AppName → List ℕ
app_text apps.Copy = codes "copy"
app_text apps.Counter = codes "counter"
app_text apps.Follow = codes "follow"
app_text apps.Limit = codes "limit"

abbrev pub list_data : {A : Type 0} → (A → Data) → List A → Data
list_data f xs = array (items_of (map f xs))

abbrev pub port_data : PortDelay → Data
port_data p = list_data number_data (p.tx ∷ p.rx ∷ [])

abbrev pub with_sync : SyncPlan → Members → Members
with_sync s members =
    with_member (codes "loss") (number_data s.loss) (with_member (codes "stamp") (number_data s.stamp)
    (with_member (codes "drift") (number_data s.drift) (with_member (codes "timeout") (number_data s.timeout)
    (with_member (codes "send") (number_data s.send) members))))

abbrev pub sync_data : SyncPlan → Data
sync_data s = table (with_sync s no_members)

abbrev pub with_device : Device → Members → Members
with_device d members =
    with_member (codes "ports") (list_data port_data d.ports) (with_member (codes "bmax") (number_data d.bmax)
    (with_member (codes "bmin") (number_data d.bmin) (with_member (codes "mode") (string (mode_text d.mode))
    (with_member (codes "name") (string d.name) members))))

abbrev pub device_data : Device → Data
device_data d = table (with_device d no_members)

abbrev pub with_link : List Device → Link → Members → Members
with_link devices l members =
    with_member (codes "delay") (number_data l.delay) (with_member (codes "to_port") (number_data l.b_port.0)
    (with_member (codes "to") (string (name_at devices l.b)) (with_member (codes "from_port") (number_data l.a_port.0)
    (with_member (codes "from") (string (name_at devices l.a)) members))))

abbrev pub link_data : List Device → Link → Data
link_data devices l = table (with_link devices l no_members)

abbrev pub name_data : List Device → DevId → Data
name_data devices device = string (name_at devices device)

abbrev pub with_demand : List Device → Demand → Members → Members
with_demand devices d members =
    with_member (codes "update") (number_data d.update) (with_member (codes "length") (number_data d.length)
    (with_member (codes "to") (list_data (name_data devices) d.consumers)
    (with_member (codes "from") (name_data devices d.provider) (with_member (codes "frame") (number_data d.frame.0) members))))

abbrev pub demand_data : List Device → Demand → Data
demand_data devices d = table (with_demand devices d no_members)

abbrev pub with_traffic : List Device → Traffic → Members → Members
with_traffic devices t members =
    with_member (codes "count") (number_data t.count) (with_member (codes "every") (number_data t.every)
    (with_member (codes "length") (number_data t.length) (with_member (codes "class") (string (class_text t.class))
    (with_member (codes "to") (name_data devices t.target) (with_member (codes "from") (name_data devices t.source) members)))))

abbrev pub traffic_data : List Device → Traffic → Data
traffic_data devices t = table (with_traffic devices t no_members)

abbrev pub with_app : List Device → App → Members → Members
with_app devices a members =
    with_member (codes "param") (number_data a.param) (with_member (codes "kind") (string (app_text a.kind))
    (with_member (codes "device") (name_data devices a.device) members))

abbrev pub app_data : List Device → App → Data
app_data devices a = table (with_app devices a no_members)

-- the keys of the whole plant
abbrev pub with_settings : Plant → Members → Members
with_settings p members =
    with_member (codes "clocks") (string (clocks_text p.clocks))
    (with_member (codes "orange") (number_data p.orange)
    (with_member (codes "red_max") (number_data p.red_max)
    (with_member (codes "window") (number_data p.window)
    (with_member (codes "factor") (number_data p.factor) members))))

abbrev pub with_network : Plant → Members → Members
with_network p members =
    with_member (codes "link") (list_data (link_data p.devices) p.links)
    (with_member (codes "device") (list_data device_data p.devices)
    (with_member (codes "sync") (sync_data p.sync) members))

abbrev pub with_loads : Plant → Members → Members
with_loads p members =
    with_member (codes "app") (list_data (app_data p.devices) p.apps)
    (with_member (codes "traffic") (list_data (traffic_data p.devices) p.traffic)
    (with_member (codes "demand") (list_data (demand_data p.devices) p.demands) members))

abbrev pub plant_members : Plant → Members
plant_members p = with_loads p (with_network p (with_settings p no_members))

-- the numbers that no rule bounds fit 32 bits
pub record HasWordFields (p : Plant) : Type 0 where
  pub loss : p.sync.loss < 2 ^ 32
  pub updates : AllByRecursion (λ (d : Demand). d.update < 2 ^ 32) p.demands
  pub params : AllByRecursion (λ (a : App). a.param < 2 ^ 32) p.apps
