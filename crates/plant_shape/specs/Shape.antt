-- The plant that a TOML document holds, as far as keys, types and choices go.
use Rattle.std.specs.Prelude.{◌≡◌, codes, ℕ, nat_lt, ◌^◌, ℤ, pos, negsuc, if◌then◌else◌, List, [], ◌∷◌, ◌++◌, length, Option, Some, None, option_map, option_and_then, Result, Ok, Err, ⊤, bytes_eq}
use Rattle.std.specs.Str.{is_utf8}
use Rattle.toml.specs.Data.{Data, Items as DataItems, no_items, item, Members, get_member, as_str, as_integer, as_array, as_table}
use Rattle.toml.specs.Parse.{parse_document}
use Rattle.irt_base.specs.declared.plants.Clocks.{Clocks}
use Rattle.irt_base.specs.declared.plants.Clocks.TheVariants.{World, Ptcp}
use Rattle.irt_base.specs.declared.plants.Mode.{Mode}
use Rattle.irt_base.specs.declared.plants.Mode.TheVariants.{Absolute, Relative}
use Rattle.irt_base.specs.declared.plants.Class.{Class}
use Rattle.irt_base.specs.declared.plants.Class.TheVariants.{Orange, Green}
use Rattle.irt_base.specs.declared.plants.AppName.{AppName}
use Rattle.irt_base.specs.declared.plants.AppName.TheVariants as apps
use Rattle.plant_shape.specs.Keys.{all_known}
use Rattle.plant_shape.specs.declared.fault.ShapeFault.{ShapeFault}
use Rattle.plant_shape.specs.declared.fault.ShapeFault.TheVariants as faults
use Rattle.plant_shape.specs.declared.keys.TableKind.{TableKind}
use Rattle.plant_shape.specs.declared.keys.TableKind.TheVariants as kinds
use Rattle.plant_shape.specs.declared.raw.RawSync.{RawSync}
use Rattle.plant_shape.specs.declared.raw.RawDevice.{RawDevice}
use Rattle.plant_shape.specs.declared.raw.RawLink.{RawLink}
use Rattle.plant_shape.specs.declared.raw.RawDemand.{RawDemand}
use Rattle.plant_shape.specs.declared.raw.RawTraffic.{RawTraffic}
use Rattle.plant_shape.specs.declared.raw.RawApp.{RawApp}
use Rattle.plant_shape.specs.declared.raw.RawPlant.{RawPlant}
use Rattle.plant_shape.specs.declared.shape.Terms.{Terms}
use Rattle.plant_shape.specs.declared.raw.TheConstants.{DEFAULT_SEND, DEFAULT_TIMEOUT}

infixl 10 ◌>>=◌
abbrev ◌>>=◌ : {A B : Type 0} → Option A → (A → Option B) → Option B
o >>= f = option_and_then f o

-- a reader's answer is what a definition says: an answer where it has one, a fault where it has none
abbrev pub Gives : {A : Type 0} → Result A ShapeFault → Option A → Type 0
Gives (Ok x) read = read ≡ Some x
Gives (Err faults.NoMemory) read = ⊤
Gives (Err faults.NotToml) read = ⊥
Gives (Err faults.Shape) read = read ≡ None

-- likewise, through a view of the answer
abbrev pub Reads : {A B : Type 0} → (A → B) → Result A ShapeFault → Option B → Type 0
Reads view (Ok x) read = read ≡ Some (view x)
Reads view (Err faults.NoMemory) read = ⊤
Reads view (Err faults.NotToml) read = ⊥
Reads view (Err faults.Shape) read = read ≡ None

-- a number of 0..4294967295
abbrev pub word_of : ℤ → Option ℕ
word_of (pos n) = if nat_lt n (2 ^ 32) then Some n else None
word_of (negsuc n) = None

abbrev pub number_of : Data → Option ℕ
number_of d = option_and_then word_of (as_integer d)

-- the number at a key that has to be there
abbrev pub number : List ℕ → Members → Option ℕ
number key ms = option_and_then number_of (get_member key ms)

-- the number at a key, or this one where the key is absent
abbrev pub number_or : ℕ → Option Data → Option ℕ
number_or default None = Some default
number_or default (Some d) = number_of d

abbrev pub optional_number : ℕ → List ℕ → Members → Option ℕ
optional_number default key ms = number_or default (get_member key ms)

-- the text at a key
abbrev pub text : List ℕ → Members → Option (List ℕ)
text key ms = option_and_then as_str (get_member key ms)

-- the array at a key
abbrev pub array_at : List ℕ → Members → Option DataItems
array_at key ms = option_and_then as_array (get_member key ms)

-- the array at a key, or none where the key is absent
abbrev pub array_or_none : Option Data → Option DataItems
array_or_none None = Some no_items
array_or_none (Some d) = as_array d

abbrev pub optional_array : List ℕ → Members → Option DataItems
optional_array key ms = array_or_none (get_member key ms)

-- what each item of an array is, where each is something
abbrev pub each_item : {A : Type 0} → (Data → Option A) → DataItems → Option (List A)
each_item f no_items = Some []
each_item f (item d ds) = option_and_then (λ x. option_map (λ xs. x ∷ xs) (each_item f ds)) (f d)

-- a table without keys that its kind has not
abbrev pub known_members : TableKind → Members → Option Members
known_members kind ms = if all_known kind ms then Some ms else None

abbrev pub known_table : TableKind → Data → Option Members
known_table kind d = option_and_then (known_members kind) (as_table d)

-- the choices of `clocks`, `mode`, `class` and `kind`
abbrev pub clocks_of : List ℕ → Option Clocks
clocks_of t = if bytes_eq t (codes "world") then Some World else if bytes_eq t (codes "ptcp") then Some Ptcp else None

abbrev pub mode_of : List ℕ → Option Mode
mode_of t = if bytes_eq t (codes "absolute") then Some Absolute else if bytes_eq t (codes "relative") then Some Relative else None

abbrev pub class_of : List ℕ → Option Class
class_of t = if bytes_eq t (codes "orange") then Some Orange else if bytes_eq t (codes "green") then Some Green else None

abbrev pub app_name_of : List ℕ → Option AppName
app_name_of t =
    if bytes_eq t (codes "copy") then Some apps.Copy
    else if bytes_eq t (codes "counter") then Some apps.Counter
    else if bytes_eq t (codes "follow") then Some apps.Follow
    else if bytes_eq t (codes "limit") then Some apps.Limit
    else None

-- an array of numbers, and an array of texts
abbrev pub numbers_of : Data → Option (List ℕ)
numbers_of d = option_and_then (each_item number_of) (as_array d)

abbrev pub texts_of : Data → Option (List (List ℕ))
texts_of d = option_and_then (each_item as_str) (as_array d)

-- the values of `sync` where the table is absent: those of an empty one
abbrev pub default_sync : RawSync
default_sync = record { send = DEFAULT_SEND; timeout = DEFAULT_TIMEOUT; drift = 0; stamp = 0; loss = 0 }

-- a table's synchronization after `send` and `timeout`
abbrev pub sync_sent : ℕ → ℕ → Members → Option RawSync
sync_sent send timeout ms = do
  drift ← optional_number 0 (codes "drift") ms
  stamp ← optional_number 0 (codes "stamp") ms
  loss ← optional_number 0 (codes "loss") ms
  Some (record { send = send; timeout = timeout; drift = drift; stamp = stamp; loss = loss })

abbrev pub sync_at : Members → Option RawSync
sync_at ms = do
  send ← optional_number DEFAULT_SEND (codes "send") ms
  timeout ← optional_number DEFAULT_TIMEOUT (codes "timeout") ms
  sync_sent send timeout ms

unfoldable pub sync_of : Data → Option RawSync
sync_of d = known_table kinds.Sync d >>= sync_at

abbrev pub sync_or_default : Option Data → Option RawSync
sync_or_default None = Some default_sync
sync_or_default (Some d) = sync_of d

-- the way of forwarding at `mode`, and the numbers of each port at `ports`
abbrev pub mode_at : Members → Option Mode
mode_at ms = text (codes "mode") ms >>= mode_of

abbrev pub ports_at : Members → Option (List (List ℕ))
ports_at ms = array_at (codes "ports") ms >>= each_item numbers_of

-- a table's device after `name` and `mode`
abbrev pub device_named : List ℕ → Mode → Members → Option RawDevice
device_named name mode ms = do
  bmin ← number (codes "bmin") ms
  bmax ← number (codes "bmax") ms
  ports ← ports_at ms
  Some (record { name = name; mode = mode; bmin = bmin; bmax = bmax; ports = ports })

abbrev pub device_at : Members → Option RawDevice
device_at ms = do
  name ← text (codes "name") ms
  mode ← mode_at ms
  device_named name mode ms

unfoldable pub device_of : Data → Option RawDevice
device_of d = known_table kinds.Device d >>= device_at

-- a table's link after `from`, `from_port` and `to`
abbrev pub link_between : List ℕ → ℕ → List ℕ → Members → Option RawLink
link_between from from_port to ms = do
  to_port ← number (codes "to_port") ms
  delay ← number (codes "delay") ms
  Some (record { from = from; from_port = from_port; to = to; to_port = to_port; delay = delay })

abbrev pub link_at : Members → Option RawLink
link_at ms = do
  from ← text (codes "from") ms
  from_port ← number (codes "from_port") ms
  to ← text (codes "to") ms
  link_between from from_port to ms

unfoldable pub link_of : Data → Option RawLink
link_of d = known_table kinds.Link d >>= link_at

-- the names at `to`
abbrev pub consumers_at : Members → Option (List (List ℕ))
consumers_at ms = option_and_then texts_of (get_member (codes "to") ms)

-- a table's demand after `frame`, `from` and `to`
abbrev pub demand_between : ℕ → List ℕ → List (List ℕ) → Members → Option RawDemand
demand_between frame from to ms = do
  length ← number (codes "length") ms
  update ← number (codes "update") ms
  Some (record { frame = frame; from = from; to = to; length = length; update = update })

abbrev pub demand_at : Members → Option RawDemand
demand_at ms = do
  frame ← number (codes "frame") ms
  from ← text (codes "from") ms
  to ← consumers_at ms
  demand_between frame from to ms

unfoldable pub demand_of : Data → Option RawDemand
demand_of d = known_table kinds.Demand d >>= demand_at

-- the class at `class`
abbrev pub class_at : Members → Option Class
class_at ms = text (codes "class") ms >>= class_of

-- a table's traffic after `from`, `to` and `class`
abbrev pub traffic_between : List ℕ → List ℕ → Class → Members → Option RawTraffic
traffic_between from to class ms = do
  length ← number (codes "length") ms
  every ← number (codes "every") ms
  count ← number (codes "count") ms
  Some (record { from = from; to = to; class = class; length = length; every = every; count = count })

abbrev pub traffic_at : Members → Option RawTraffic
traffic_at ms = do
  from ← text (codes "from") ms
  to ← text (codes "to") ms
  class ← class_at ms
  traffic_between from to class ms

unfoldable pub traffic_of : Data → Option RawTraffic
traffic_of d = known_table kinds.Traffic d >>= traffic_at

-- the application's name at `kind`
abbrev pub app_name_at : Members → Option AppName
app_name_at ms = text (codes "kind") ms >>= app_name_of

abbrev pub app_at : Members → Option RawApp
app_at ms = do
  device ← text (codes "device") ms
  kind ← app_name_at ms
  param ← optional_number 0 (codes "param") ms
  Some (record { device = device; kind = kind; param = param })

unfoldable pub app_of : Data → Option RawApp
app_of d = known_table kinds.App d >>= app_at

-- whose clocks are at `clocks`
abbrev pub clocks_at : Members → Option Clocks
clocks_at ms = text (codes "clocks") ms >>= clocks_of

-- what a table says of a plant besides its lists
abbrev pub terms_timed : ℕ → ℕ → ℕ → Members → Option Terms
terms_timed factor window red_max ms = do
  orange ← number (codes "orange") ms
  clocks ← clocks_at ms
  sync ← sync_or_default (get_member (codes "sync") ms)
  Some (record { factor = factor; window = window; red_max = red_max; orange = orange; clocks = clocks; sync = sync })

abbrev pub terms_at : Members → Option Terms
terms_at ms = do
  factor ← number (codes "factor") ms
  window ← number (codes "window") ms
  red_max ← number (codes "red_max") ms
  terms_timed factor window red_max ms

-- a table's plant after its terms, and after its first lists
abbrev pub plant_wired : Terms → List RawDevice → List RawLink → List RawDemand → Members → Option RawPlant
plant_wired terms devices links demands ms = do
  traffic ← optional_array (codes "traffic") ms >>= each_item traffic_of
  apps ← optional_array (codes "app") ms >>= each_item app_of
  Some (record { factor = terms.factor; window = terms.window; red_max = terms.red_max; orange = terms.orange; clocks = terms.clocks; sync = terms.sync; devices = devices; links = links; demands = demands; traffic = traffic; apps = apps })

abbrev pub plant_at : Terms → Members → Option RawPlant
plant_at terms ms = do
  devices ← optional_array (codes "device") ms >>= each_item device_of
  links ← optional_array (codes "link") ms >>= each_item link_of
  demands ← optional_array (codes "demand") ms >>= each_item demand_of
  plant_wired terms devices links demands ms

-- the plant of a document's table
unfoldable pub raw_plant : Members → Option RawPlant
raw_plant document = do
  ms ← known_members kinds.Top document
  terms ← terms_at ms
  plant_at terms ms

-- the table of a document
abbrev pub document_of : List ℕ → Option Members
document_of bytes = if is_utf8 bytes then parse_document bytes else None

-- why bytes have no shape of a plant: they are no TOML document, or one without a plant's keys, types and choices
pub data ShapeRefusal : Type 0 where
  not_toml : ShapeRefusal
  no_shape : ShapeRefusal

-- a document's plant, or what it lacks
abbrev pub table_shape : Option RawPlant → Result RawPlant ShapeRefusal
table_shape None = Err no_shape
table_shape (Some p) = Ok p

abbrev pub document_shape : Option Members → Result RawPlant ShapeRefusal
document_shape None = Err not_toml
document_shape (Some ms) = table_shape (raw_plant ms)

abbrev pub shape_of : List ℕ → Result RawPlant ShapeRefusal
shape_of bytes = document_shape (document_of bytes)

-- an answer is the one that is stated, or want of memory
abbrev pub IsShapeAnswer : Result RawPlant ShapeFault → Result RawPlant ShapeRefusal → Type 0
IsShapeAnswer (Ok raw) stated = stated ≡ Ok raw
IsShapeAnswer (Err faults.NoMemory) stated = ⊤
IsShapeAnswer (Err faults.NotToml) stated = stated ≡ Err not_toml
IsShapeAnswer (Err faults.Shape) stated = stated ≡ Err no_shape

-- for a loop over an array: what is left of it, with a front before
abbrev pub rest_of : {A : Type 0} → (Data → Option A) → List A → DataItems → Option (List A)
rest_of f front ds = option_map (λ xs. front ++ xs) (each_item f ds)
