-- An image rests on the last cycles alone in which its frames are due.
use Rattle.std.proofs.Common.{◌≡◌, ◌≤◌, ℕ, ◌+◌, ◌%◌, List, [], ◌∷◌, Option, Some, None, slice_get, refl, sym, ◌∙◌, ap}
use Rattle.std.specs.List.{AllZip, Contains}
use Rattle.std.specs.Option.{option_map_or}
use Rattle.irt_base.specs.Cycle.{IsDue}
use Rattle.irt_base.specs.declared.blocks.Bundle.{Bundle}
use Rattle.irt_base.specs.declared.blocks.Entry.{Entry}
use Rattle.irt_base.specs.declared.plants.Demand.{Demand}
use Rattle.irt_base.specs.declared.plants.Plant.{Plant}
use Rattle.irt_switch.proofs.Members.{here, later}
use Rattle.plan_rules.specs.Network.{EntriesAreAlike}
use Rattle.plan_rules.specs.Once.{HasToReach}
use Rattle.plan_rules.specs.Plan.{IsPlan, setup_of}
use Rattle.plan_rules.specs.Tree.{demand_of}
use Rattle.plan_rules.specs.Way.{Setup, entry_at}
use Rattle.plan_rules.specs.World.{WorldRow}
use Rattle.iso_rules.specs.Hold.{AgreesInRecent, IsRecent}
use Rattle.iso_rules.specs.Image.{app_on, sent_words, loaded_words, IsPart, IsImage}
use Rattle.iso_rules.specs.Station.{entries_at, provided_of, consumed_of, part_of}
use Rattle.iso_rules.proofs.Holding.{IsClose, part_alike}
use Rattle.iso_rules.proofs.Serving.{consumed_entry}

-- ---- what is loaded

map_or_same : {T U : Type 0} (f g : T → U) (o : Option T) (d : U) → ((x : T) → f x ≡ g x) → option_map_or f o d ≡ option_map_or g o d
map_or_same f g None d same = refl
map_or_same f g (Some x) d same = same x

-- it rests on what is taken in the cycle
pub same_loaded : (setup : Setup) (taken given : ℕ → ℕ → List ℕ) (k frame : ℕ) → ((app : ℕ) → taken app k ≡ given app k) →
    loaded_words setup taken k frame ≡ loaded_words setup given k frame
same_loaded setup taken given k frame same =
    map_or_same (λ (d : Demand). part_of (provided_of (entries_at setup d.provider.0)) frame (sent_words setup taken k d.provider.0))
    (λ (d : Demand). part_of (provided_of (entries_at setup d.provider.0)) frame (sent_words setup given k d.provider.0))
    (demand_of setup.plant frame) []
    (λ d. ap (λ words. part_of (provided_of (entries_at setup d.provider.0)) frame words)
    (map_or_same (λ app. taken app k) (λ app. given app k) (app_on setup.plant d.provider.0) _ same))

-- ---- images

pub zip_weaker : {A B : Type 0} (R S : A → B → Type 0) (xs : List A) (ys : List B) →
    ((x : A) (y : B) → Contains xs x → R x y → S x y) → AllZip R xs ys → AllZip S xs ys
zip_weaker R S [] [] weaker all = all
zip_weaker R S [] (y ∷ ys) weaker all = all
zip_weaker R S (x ∷ xs) [] weaker all = all
zip_weaker R S (x ∷ xs) (y ∷ ys) weaker all =
    (weaker x y (here x xs) all.0, zip_weaker R S xs ys (λ z w among. weaker z w (later x xs z among)) all.1)

due_here : (setup : Setup) → EntriesAreAlike setup → (world : List WorldRow) (device : ℕ) (e : Entry) → entry_at setup device e.frame.0 ≡ Some e →
    (c : ℕ) → HasToReach setup world c device e.frame.0 → IsDue c e.ratio e.phase
due_here setup alike world device e at c reach =
    let one = alike e.frame.0 reach.demand.provider.0 device reach.due.own e reach.due.stands at in
    ap (λ r. (c % r) + 1) one.ratio ∙ reach.due.due ∙ sym one.phase

-- it rests on the row of its cycle
pub moved_reach : (setup : Setup) (world other : List WorldRow) (c device frame : ℕ) → slice_get world c ≡ slice_get other c →
    HasToReach setup world c device frame → HasToReach setup other c device frame
moved_reach setup world other c device frame same reach = record {
  row = reach.row;
  demand = reach.demand;
  in_cycle = sym same ∙ reach.in_cycle;
  due = reach.due;
  consumed = reach.consumed;
  live = reach.live;
}

same_part : (setup : Setup) → EntriesAreAlike setup → (world other : List WorldRow) (taken given : ℕ → ℕ → List ℕ) (device k : ℕ)
    (e : Entry) (part : List ℕ) → entry_at setup device e.frame.0 ≡ Some e → AgreesInRecent e k world other taken given →
    IsPart setup world taken device k e part → IsPart setup other given device k e part
same_part setup alike world other taken given device k e part at agrees is =
    let recent : (w : List WorldRow) (n : ℕ) → IsClose e k n → HasToReach setup w n device e.frame.0 → IsRecent e k n =
    λ w n close reach. record { reached = close.0; due = due_here setup alike w device e at n reach; short = close.1 } in
    part_alike (λ n. HasToReach setup world n device e.frame.0) (λ n. HasToReach setup other n device e.frame.0)
    (λ n. loaded_words setup taken n e.frame.0) (λ n. loaded_words setup given n e.frame.0) e k part
    (λ n close reach. moved_reach setup world other n device e.frame.0 (agrees.rows n (recent world n close reach)) reach)
    (λ n close reach. moved_reach setup other world n device e.frame.0 (sym (agrees.rows n (recent other n close reach))) reach)
    (λ n close reach. same_loaded setup taken given n e.frame.0 (λ app. agrees.words n app (recent world n close reach)))
    is

pub same_image : (plant : Plant) (bundles : List Bundle) → IsPlan plant bundles → EntriesAreAlike (setup_of plant bundles) →
    (world other : List WorldRow) (taken given : ℕ → ℕ → List ℕ) (device k : ℕ) (image : List ℕ) →
    ((e : Entry) → Contains (consumed_of (entries_at (setup_of plant bundles) device)) e → AgreesInRecent e k world other taken given) →
    IsImage (setup_of plant bundles) world taken device k image → IsImage (setup_of plant bundles) other given device k image
same_image plant bundles plan alike world other taken given device k image agrees is =
    let setup = setup_of plant bundles in
    record {
      parts = is.parts;
      each = zip_weaker (IsPart setup world taken device k) (IsPart setup other given device k) (consumed_of (entries_at setup device)) is.parts
          (λ e part member. same_part setup alike world other taken given device k e part (consumed_entry plant bundles plan device e member) (agrees e member))
          is.each;
      joined = is.joined;
    }

-- what comes after the cycle does not matter, on any plan
past_part : (setup : Setup) (world other : List WorldRow) (taken given : ℕ → ℕ → List ℕ) (device k : ℕ) (e : Entry) (part : List ℕ) →
    ((c : ℕ) → c ≤ k → slice_get world c ≡ slice_get other c) → ((c app : ℕ) → c ≤ k → taken app c ≡ given app c) →
    IsPart setup world taken device k e part → IsPart setup other given device k e part
past_part setup world other taken given device k e part rows words is =
    part_alike (λ n. HasToReach setup world n device e.frame.0) (λ n. HasToReach setup other n device e.frame.0)
    (λ n. loaded_words setup taken n e.frame.0) (λ n. loaded_words setup given n e.frame.0) e k part
    (λ n close reach. moved_reach setup world other n device e.frame.0 (rows n close.0) reach)
    (λ n close reach. moved_reach setup other world n device e.frame.0 (sym (rows n close.0)) reach)
    (λ n close reach. same_loaded setup taken given n e.frame.0 (λ app. words n app close.0))
    is

pub past_image : (setup : Setup) (world other : List WorldRow) (taken given : ℕ → ℕ → List ℕ) (device k : ℕ) (image : List ℕ) →
    ((c : ℕ) → c ≤ k → slice_get world c ≡ slice_get other c) → ((c app : ℕ) → c ≤ k → taken app c ≡ given app c) →
    IsImage setup world taken device k image → IsImage setup other given device k image
past_image setup world other taken given device k image rows words is = record {
  parts = is.parts;
  each = zip_weaker (IsPart setup world taken device k) (IsPart setup other given device k) (consumed_of (entries_at setup device)) is.parts
      (λ e part member. past_part setup world other taken given device k e part rows words) is.each;
  joined = is.joined;
}
