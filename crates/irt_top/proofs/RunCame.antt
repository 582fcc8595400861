-- What a run came by.
use Rattle.std.proofs.Common.{◌≡◌, ◌⊎◌, inl, inr, ℕ, Bool, true, false, List, [], Option, Some, None, Result, Ok, Err, refl, sym, ◌∙◌, ap, subst}
use Rattle.irt_base.specs.Wiring.{peer_of}
use Rattle.irt_base.specs.declared.limits.TheConstants.{DEVICE_FILE, WORLD_FILE}
use Rattle.irt_base.specs.declared.blocks.Bundle.{Bundle}
use Rattle.irt_base.specs.declared.numbers.PortNo.{PortNo}
use Rattle.irt_base.specs.declared.plants.Plant.{Plant}
use Rattle.irt_io.specs.Files.{Files}
use Rattle.irt_route.specs.Routes.{AreTrafficWalks, IsFirstCutTraffic}
use Rattle.irt_steps.specs.Steps.{Ending, ending, Steps, judged, IsHeld, IsUnloaded, Comes, LoadsNext}
use Rattle.irt_steps.proofs.StepLemmas.{comes_by, loads_first, loads_later}
use Rattle.irt_world.specs.declared.rows.World.{World}
use Rattle.plan_rules.specs.Places.{IsAccepted, IsReject}
use Rattle.plan_rules.specs.declared.place.Reject.{Reject}
use Rattle.plan_run.specs.Run.{IsRunText}
use Rattle.plan_run.specs.Size.{is_too_long}
use Rattle.irt_top.specs.Check.{rejected, ArePlanFiles}
use Rattle.irt_top.specs.DeviceFiles.{bundles_steps, AreBundleFiles}
use Rattle.irt_top.specs.Lines.{long_run_line, no_path_line, world_line}
use Rattle.irt_top.specs.PlantFile.{plant_steps, IsPlantFile}
use Rattle.irt_top.specs.Run.{RunAsked, accepted_steps, no_path, walked, walks_steps, size_answer, size_steps, record_steps, sized_steps, walked_steps, ran_steps, run_plan_steps, run_plant_steps, run_steps, IsCheckedPlan, IsWalkedPlan, IsSizedPlan, IsRun}
use Rattle.irt_top.specs.World.{WorldSource, by_seed, by_file, right, wrong, reading_steps, world_steps, IsWrongHeld, IsWorldOf}
use Rattle.irt_top.proofs.FileLemmas.{PlantStops, StopsAt, plant_file, plant_stops, bundles_ok, bundles_stop}

abbrev Answer : Type 0
Answer = Result (List ℕ) Ending

abbrev steps_for : RunAsked → Steps (List ℕ)
steps_for asked = run_steps asked.pace asked.plant asked.cycles asked.world

pub data RunCame (files : Option Files) (asked : RunAsked) : Answer → Type 0 where
  plant_stopped : (e : Ending) → PlantStops files asked.plant e → RunCame files asked (Err e)
  device_stopped : (at : List ℕ) (e : Ending) → LoadsNext (steps_for asked) files at DEVICE_FILE files → StopsAt files at e → RunCame files asked (Err e)
  refused : (p : Plant) (bundles : List Bundle) (r : Reject) → ArePlanFiles files asked.plant p bundles → IsReject p bundles r → RunCame files asked (Err (rejected p r))
  cut : (p : Plant) (bundles : List Bundle) (traffic : ℕ) → IsCheckedPlan files asked.plant p bundles → IsFirstCutTraffic (peer_of p) p.traffic traffic →
      RunCame files asked (Err (ending 6 (no_path_line traffic)))
  long : (p : Plant) (bundles : List Bundle) (walks : List (List PortNo)) → IsWalkedPlan files asked.plant p bundles walks →
      is_too_long p bundles walks asked.cycles ≡ true → RunCame files asked (Err (ending 11 long_run_line))
  world_stopped : (at : List ℕ) (e : Ending) → LoadsNext (steps_for asked) files at WORLD_FILE files → IsUnloaded files at WORLD_FILE e → RunCame files asked (Err e)
  wrong_world : (p : Plant) (bundles : List Bundle) (walks : List (List PortNo)) (at : List ℕ) (line place : ℕ) → asked.world ≡ by_file at →
      IsSizedPlan files asked p bundles walks → IsWrongHeld files at p bundles asked.cycles line place → RunCame files asked (Err (ending 10 (world_line line place)))
  made : (p : Plant) (bundles : List Bundle) (walks : List (List PortNo)) (world : World) (text : List ℕ) → IsRun files asked p bundles walks world →
      IsRunText asked.pace p bundles walks world text → RunCame files asked (Ok text)

-- ---- each step

abbrev done : Result (Unit {0}) Ending → Result (Unit {0}) Ending
done r = r

ending_same : {A : Type 0} (x y : Result A Ending) (d e : Ending) → x ≡ Err d → y ≡ Err e → x ≡ y → d ≡ e
ending_same x y d e is so same = cc

accepted_ok : (p : Plant) (bundles : List Bundle) (old new : Option Files) (u : Unit {0}) → Comes (accepted_steps p bundles) old new (Ok u) → (new ≡ old) × IsAccepted p bundles
accepted_ok p bundles old new u (None, holds, (is, kept)) = (kept, holds)
accepted_ok p bundles old new u (Some r, holds, (is, kept)) = absurd cc

accepted_err : (p : Plant) (bundles : List Bundle) (old new : Option Files) (e : Ending) → Comes (accepted_steps p bundles) old new (Err e) →
    (r : Reject) × IsReject p bundles r × (e ≡ rejected p r)
accepted_err p bundles old new e (None, holds, (is, kept)) = absurd cc
accepted_err p bundles old new e (Some r, holds, (is, kept)) = (r, holds, cc)

walks_ok : (p : Plant) (old new : Option Files) (walks : List (List PortNo)) → Comes (walks_steps p) old new (Ok walks) → (new ≡ old) × AreTrafficWalks (peer_of p) p.traffic walks
walks_ok p old new walks (no_path t, holds, (is, kept)) = absurd cc
walks_ok p old new walks (walked others, holds, (is, kept)) = (kept, subst (AreTrafficWalks (peer_of p) p.traffic) (sym same) holds)
  where
    same : walks ≡ others
    same = cc

walks_err : (p : Plant) (old new : Option Files) (e : Ending) → Comes (walks_steps p) old new (Err e) →
    (t : ℕ) × IsFirstCutTraffic (peer_of p) p.traffic t × (e ≡ ending 6 (no_path_line t))
walks_err p old new e (no_path t, holds, (is, kept)) = (t, holds, cc)
walks_err p old new e (walked others, holds, (is, kept)) = absurd cc

size_ok : (long : Bool) (old new : Option Files) (u : Unit {0}) → Comes (judged (size_answer long)) old new (Ok u) → (new ≡ old) × (long ≡ false)
size_ok true old new u (is, kept) = absurd cc
size_ok false old new u (is, kept) = (kept, refl)

size_err : (long : Bool) (old new : Option Files) (e : Ending) → Comes (judged (size_answer long)) old new (Err e) → (long ≡ true) × (e ≡ ending 11 long_run_line)
size_err true old new e (is, kept) = (refl, cc)
size_err false old new e (is, kept) = absurd cc

-- a file stops the run, or its world is wrong
abbrev WorldStops : Option Files → WorldSource → Plant → List Bundle → ℕ → Ending → Type 0
WorldStops files source p bundles cycles e =
    ((at : List ℕ) × LoadsNext (world_steps source p bundles cycles) files at WORLD_FILE files × IsUnloaded files at WORLD_FILE e)
    ⊎ ((at : List ℕ) × (line : ℕ) × (place : ℕ) × (source ≡ by_file at) × IsWrongHeld files at p bundles cycles line place × (e ≡ ending 10 (world_line line place)))

read_ok : (files : Option Files) (name bytes : List ℕ) (p : Plant) (bundles : List Bundle) (cycles : ℕ) (new : Option Files) (world : World) → IsHeld files name WORLD_FILE bytes →
    Comes (reading_steps p bundles cycles bytes) files new (Ok world) → (new ≡ files) × IsWorldOf files (by_file name) p bundles cycles world
read_ok files name bytes p bundles cycles new world held (right w, holds, (is, kept)) =
    (kept, subst (IsWorldOf files (by_file name) p bundles cycles) (sym same) (record { bytes = bytes; held = held; is = holds }))
  where
    same : world ≡ w
    same = cc
read_ok files name bytes p bundles cycles new world held (wrong l q, holds, (is, kept)) = absurd cc

world_ok : (source : WorldSource) (p : Plant) (bundles : List Bundle) (cycles : ℕ) (old new : Option Files) (world : World) →
    Comes (world_steps source p bundles cycles) old new (Ok world) → (new ≡ old) × IsWorldOf old source p bundles cycles world
world_ok (by_seed seed) p bundles cycles old new world (w, holds, (is, kept)) = (kept, subst (IsWorldOf old (by_seed seed) p bundles cycles) (sym same) holds)
  where
    same : world ≡ w
    same = cc
world_ok (by_file name) p bundles cycles old new world (inl (bytes, held, comes)) = read_ok old name bytes p bundles cycles new world held comes
world_ok (by_file name) p bundles cycles old new world (inr (e, why, is, kept)) = absurd cc

read_err : (files : Option Files) (name bytes : List ℕ) (p : Plant) (bundles : List Bundle) (cycles : ℕ) (new : Option Files) (e : Ending) → IsHeld files name WORLD_FILE bytes →
    Comes (reading_steps p bundles cycles bytes) files new (Err e) → WorldStops files (by_file name) p bundles cycles e
read_err files name bytes p bundles cycles new e held (right w, holds, (is, kept)) = absurd cc
read_err files name bytes p bundles cycles new e held (wrong line place, holds, (is, kept)) =
    inr (name, line, place, refl, record { bytes = bytes; held = held; is = holds }, cc)

world_err : (source : WorldSource) (p : Plant) (bundles : List Bundle) (cycles : ℕ) (old new : Option Files) (e : Ending) →
    Comes (world_steps source p bundles cycles) old new (Err e) → WorldStops old source p bundles cycles e
world_err (by_seed seed) p bundles cycles old new e (w, holds, (is, kept)) = absurd cc
world_err (by_file name) p bundles cycles old new e (inl (bytes, held, comes)) = read_err old name bytes p bundles cycles new e held comes
world_err (by_file name) p bundles cycles old new e (inr (d, why, is, kept)) =
    inl (name, inl (refl, refl, refl), subst (IsUnloaded old name WORLD_FILE) (ending_same {A = World} (Err d) (Err e) d e refl refl (sym is)) why)

-- ---- one step after the other

-- what the later steps load, the run loads
abbrev Leads : Option Files → RunAsked → Steps (List ℕ) → Type 0
Leads files asked steps = (at : List ℕ) (limit : ℕ) → LoadsNext steps files at limit files → LoadsNext (steps_for asked) files at limit files

abbrev Came : Option Files → RunAsked → Ending → Type 0
Came files asked e = RunCame files asked (Err e)

module _ (files new : Option Files) (asked : RunAsked) (p : Plant) (bundles : List Bundle) (result : Answer) where
  stop_here : (e d : Ending) → result ≡ Err e → e ≡ d → RunCame files asked (Err d) → RunCame files asked result
  stop_here e d so is came = subst (RunCame files asked) (sym (so ∙ ap Err is)) came

  module _ (walks : List (List PortNo)) where
    world_by : (sized : IsSizedPlan files asked p bundles walks) → Leads files asked (sized_steps asked.pace asked.cycles asked.world p bundles walks) →
        Comes (sized_steps asked.pace asked.cycles asked.world p bundles walks) files new result → RunCame files asked result
    world_by sized leads comes =
        let worlds = world_steps asked.world p bundles asked.cycles in
        let records = record_steps asked.pace p bundles walks in
        elim (comes_by worlds records files new result comes) [
          | inl (world, mid, first, (text, says, (so, kept))) ↦
              let is = world_ok asked.world p bundles asked.cycles files mid world first in
              subst (RunCame files asked) (sym so) (made p bundles walks world text (record { sized = sized; is_world = is.1 }) says)
          | inr (e, first, so) ↦ elim (world_err asked.world p bundles asked.cycles files new e first) [
            | inl (at, next, why) ↦ subst (RunCame files asked) (sym so) (world_stopped at e (leads at WORLD_FILE (loads_first worlds records files files at WORLD_FILE next)) why)
            | inr (at, line, place, named, held, is) ↦ stop_here e (ending 10 (world_line line place)) so is (wrong_world p bundles walks at line place named sized held)
          ]
        ]

    size_by : (IsWalkedPlan files asked.plant p bundles walks) → Leads files asked (walked_steps asked.pace asked.cycles asked.world p bundles walks) →
        Comes (walked_steps asked.pace asked.cycles asked.world p bundles walks) files new result → RunCame files asked result
    size_by plan leads comes =
        let is_long = is_too_long p bundles walks asked.cycles in
        let sizes = size_steps p bundles walks asked.cycles in
        let rest : Unit {0} → Steps (List ℕ) = λ fits. sized_steps asked.pace asked.cycles asked.world p bundles walks in
        elim (comes_by sizes rest files new result comes) [
          | inl (u, mid, first, more) ↦
              let is = size_ok is_long files mid u first in
              let here : Comes sizes files files (Ok u) = subst (λ f. Comes sizes files f (Ok u)) is.0 first in
              world_by (record { walked = plan; fits = is.1 }) (λ at limit next. leads at limit (loads_later sizes rest files files files u at limit here next))
              (subst (λ f. Comes (rest u) f new result) is.0 more)
          | inr (e, first, so) ↦
              let is = size_err is_long files new e first in
              stop_here e (ending 11 long_run_line) so is.1 (long p bundles walks plan is.0)
        ]

  walks_by : (IsCheckedPlan files asked.plant p bundles) → Leads files asked (ran_steps asked.pace asked.cycles asked.world p bundles) →
      Comes (ran_steps asked.pace asked.cycles asked.world p bundles) files new result → RunCame files asked result
  walks_by plan leads comes =
      let rest = walked_steps asked.pace asked.cycles asked.world p bundles in
      elim (comes_by (walks_steps p) rest files new result comes) [
        | inl (walks, mid, first, more) ↦
            let is = walks_ok p files mid walks first in
            let here : Comes (walks_steps p) files files (Ok walks) = subst (λ f. Comes (walks_steps p) files f (Ok walks)) is.0 first in
            size_by walks (record { checked = plan; are_walks = is.1 }) (λ at limit next. leads at limit (loads_later (walks_steps p) rest files files files walks at limit here next))
            (subst (λ f. Comes (rest walks) f new result) is.0 more)
        | inr (e, first, so) ↦
            let (traffic, holds, is) = walks_err p files new e first in
            stop_here e (ending 6 (no_path_line traffic)) so is (cut p bundles traffic plan holds)
      ]

  plan_by : (ArePlanFiles files asked.plant p bundles) → Leads files asked (run_plan_steps asked.pace asked.cycles asked.world p bundles) →
      Comes (run_plan_steps asked.pace asked.cycles asked.world p bundles) files new result → RunCame files asked result
  plan_by are leads comes =
      let rest : Unit {0} → Steps (List ℕ) = λ accepted. ran_steps asked.pace asked.cycles asked.world p bundles in
      elim (comes_by (accepted_steps p bundles) rest files new result comes) [
        | inl (u, mid, first, more) ↦
            let is = accepted_ok p bundles files mid u first in
            let here : Comes (accepted_steps p bundles) files files (Ok u) = subst (λ f. Comes (accepted_steps p bundles) files f (Ok u)) is.0 first in
            walks_by (record { are = are; accepted = is.1 }) (λ at limit next. leads at limit (loads_later (accepted_steps p bundles) rest files files files u at limit here next))
            (subst (λ f. Comes (rest u) f new result) is.0 more)
        | inr (e, first, so) ↦
            let (reject, holds, is) = accepted_err p bundles files new e first in
            stop_here e (rejected p reject) so is (refused p bundles reject are holds)
      ]

plant_by : (files new : Option Files) (asked : RunAsked) (p : Plant) (result : Answer) → IsPlantFile files asked.plant p → Leads files asked (run_plant_steps asked.pace asked.cycles asked.world p) →
    Comes (run_plant_steps asked.pace asked.cycles asked.world p) files new result → RunCame files asked result
plant_by files new asked p result file leads comes =
    let rest = run_plan_steps asked.pace asked.cycles asked.world p in
    let devices = bundles_steps p.devices [] in
    elim (comes_by devices rest files new result comes) [
      | inl (bundles, mid, first, more) ↦
          let all = bundles_ok p.devices [] bundles files mid first in
          let here : Comes devices files files (Ok bundles) = subst (λ f. Comes devices files f (Ok bundles)) all.0 first in
          plan_by files new asked p bundles result (record { plant_file = file; device_files = subst (AreBundleFiles files p.devices) (sym all.1.2) all.1.1 })
          (λ at limit next. leads at limit (loads_later devices rest files files files bundles at limit here next)) (subst (λ f. Comes (rest bundles) f new result) all.0 more)
      | inr (e, first, so) ↦
          let stop = bundles_stop p.devices [] files new e first in
          subst (RunCame files asked) (sym so)
          (device_stopped stop.name e (leads stop.name DEVICE_FILE (loads_first devices rest files files stop.name DEVICE_FILE stop.next)) stop.stops)
    ]

pub run_by : (files new : Option Files) (asked : RunAsked) (result : Answer) → Comes (run_steps asked.pace asked.plant asked.cycles asked.world) files new result → RunCame files asked result
run_by files new asked result comes =
    let rest = run_plant_steps asked.pace asked.cycles asked.world in
    elim (comes_by (plant_steps asked.plant) rest files new result comes) [
      | inl (p, mid, first, more) ↦
          let read = plant_file files mid asked.plant p first in
          let here : Comes (plant_steps asked.plant) files files (Ok p) = subst (λ f. Comes (plant_steps asked.plant) files f (Ok p)) read.0 first in
          plant_by files new asked p result read.1 (λ at limit next. loads_later (plant_steps asked.plant) rest files files files p at limit here next)
          (subst (λ f. Comes (rest p) f new result) read.0 more)
      | inr (e, first, so) ↦ subst (RunCame files asked) (sym so) (plant_stopped e (plant_stops files new asked.plant e first))
    ]
