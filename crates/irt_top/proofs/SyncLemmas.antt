-- What `sync` came by, and that it comes to one thing.
use Rattle.std.proofs.Common.{◌≡◌, inl, inr, ℕ, List, Option, Result, Ok, Err, IfErr, refl, sym, ◌∙◌, ap, subst}
use Rattle.std.proofs.lemmas.Bool.{cases_order}
use Rattle.std.specs.Global.{Vec}
use Rattle.irt_base.specs.declared.plants.Plant.{Plant}
use Rattle.irt_io.specs.Files.{Files}
use Rattle.irt_route.specs.Clocks.{ClockTable, IsClockTreeOf}
use Rattle.irt_steps.specs.declared.stop.Stop.{Stop}
use Rattle.irt_steps.specs.declared.stop.Stop.TheVariants as stops
use Rattle.irt_steps.specs.Follow.{Follows, Decides, HasCause, IsEnding, IsNoFault}
use Rattle.irt_steps.specs.Steps.{Ending, ending, Comes, LoadsNext, IsOneWay}
use Rattle.irt_steps.proofs.OneWay.{judged_one}
use Rattle.irt_steps.proofs.StepLemmas.{comes_by, comes_on}
use Rattle.sync_world.specs.Report.{report_lines, report_text}
use Rattle.irt_top.specs.Lines.{no_clock_line}
use Rattle.irt_top.specs.PlantFile.{plant_steps, name_of, IsPlantFile}
use Rattle.irt_top.specs.Sync.{IsReportText, IsNoClock, Reporting, no_clock, reported, IsReporting, reporting_answer, report_steps, sync_steps}
use Rattle.irt_top.proofs.FileLemmas.{PlantStops, plant_comes, plant_file, plant_stops}

abbrev Answer : Type 0
Answer = Result (List ℕ) Ending

abbrev seen : Vec ℕ → List ℕ
seen v = v.items

-- ---- steps

-- a device has no clock
ends_cut : (plant : Plant) (cycles seed device : ℕ) (stop : Stop) (files : Option Files) → IsNoClock plant device → IsEnding stop 6 (no_clock_line (name_of plant device)) →
    Follows seen (report_steps cycles seed plant) files files (Err stop)
ends_cut plant cycles seed device stops.NoMemory files cut ends = inl refl
ends_cut plant cycles seed device (stops.Fault line) files cut ends = absurd ends
ends_cut plant cycles seed device (stops.Ends cause line) files cut ends =
    (no_clock device, cut, (ap (λ s. Err (ending s line.items)) ends.0 ∙ ap (λ t. Err (ending 6 t)) ends.1, refl))

pub report_stops : (plant : Plant) (cycles seed device : ℕ) (stop : Stop) → IsNoClock plant device → IsEnding stop 6 (no_clock_line (name_of plant device)) →
    Decides (λ (v : Vec ℕ). v.items) (report_steps cycles seed plant) (Err stop)
report_stops plant cycles seed device stop cut ends = λ files. ends_cut plant cycles seed device stop files cut ends

-- a report was made
pub report_gives : (plant : Plant) (cycles seed : ℕ) (tree : ClockTable) (v : Vec ℕ) → IsClockTreeOf plant tree → v.items ≡ report_text plant (report_lines seed plant tree cycles) →
    Decides (λ (v : Vec ℕ). v.items) (report_steps cycles seed plant) (Ok v)
report_gives plant cycles seed tree v own says = λ files. (reported v.items, record { tree = tree; is_tree = own; says = says }, (refl, refl))

-- what touches no shelf has no fault to tell
pub calm_cause : {A : Type 0} (before now : ℕ) (result : Result A Stop) → IfErr result IsNoFault → HasCause before now result
calm_cause before now (Ok x) calm = tt
calm_cause before now (Err stops.NoMemory) calm = tt
calm_cause before now (Err (stops.Fault line)) calm = absurd calm
calm_cause before now (Err (stops.Ends cause line)) calm = tt

-- ---- one answer

-- a plant has one report
abbrev pub ReportLaw : Type 0
ReportLaw = (seed : ℕ) (plant : Plant) (tree other : ClockTable) (cycles : ℕ) → IsClockTreeOf plant tree → IsClockTreeOf plant other →
    report_lines seed plant tree cycles ≡ report_lines seed plant other cycles

cut_one : (plant : Plant) (a b : ℕ) → IsNoClock plant a → IsNoClock plant b → a ≡ b
cut_one plant a b first second = elim (cases_order a b) [
  | inl same ↦ same
  | inr (inl less) ↦ let (ports, walk) = second.least a less in absurd (first.apart ports walk)
  | inr (inr more) ↦ let (ports, walk) = first.least b more in absurd (second.apart ports walk)
]

-- a plant with a clock tree has walks to all devices
clocks_there : (plant : Plant) (cycles seed device : ℕ) (text : List ℕ) → IsNoClock plant device → IsReportText plant cycles seed text → ⊥
clocks_there plant cycles seed device text cut is =
    let found = is.is_tree.hops device cut.there in
    cut.apart found.ports found.best.walk

one_reporting : ReportLaw → (plant : Plant) (cycles seed : ℕ) (a b : Reporting) → IsReporting plant cycles seed a → IsReporting plant cycles seed b → a ≡ b
one_reporting law plant cycles seed (no_clock d) (no_clock e) first second = ap no_clock (cut_one plant d e first second)
one_reporting law plant cycles seed (no_clock d) (reported text) first second = absurd (clocks_there plant cycles seed d text first second)
one_reporting law plant cycles seed (reported text) (no_clock e) first second = absurd (clocks_there plant cycles seed e text second first)
one_reporting law plant cycles seed (reported text) (reported other) first second =
    ap reported
    (first.says
    ∙ ap (report_text plant) (law seed plant first.tree second.tree cycles first.is_tree second.is_tree)
    ∙ sym second.says)

pub report_one : ReportLaw → (cycles seed : ℕ) (plant : Plant) → IsOneWay (report_steps cycles seed plant)
report_one law cycles seed plant = (one_reporting law plant cycles seed, λ found. judged_one (reporting_answer plant found))

-- ---- what `sync` came by

-- the plant's file stopped it, or a device has no clock, or it made the report's text
pub data SyncCame (files : Option Files) (name : List ℕ) (cycles seed : ℕ) : Answer → Type 0 where
  stopped : (e : Ending) → PlantStops files name e → SyncCame files name cycles seed (Err e)
  cut : (p : Plant) (device : ℕ) → IsPlantFile files name p → IsNoClock p device → SyncCame files name cycles seed (Err (ending 6 (no_clock_line (name_of p device))))
  made : (p : Plant) (text : List ℕ) → IsPlantFile files name p → IsReportText p cycles seed text → SyncCame files name cycles seed (Ok text)

reported_by : (files old new : Option Files) (name : List ℕ) (cycles seed : ℕ) (p : Plant) (result : Answer) → IsPlantFile files name p → Comes (report_steps cycles seed p) old new result →
    SyncCame files name cycles seed result
reported_by files old new name cycles seed p result file (no_clock device, holds, (is, kept)) = subst (SyncCame files name cycles seed) (sym is) (cut p device file holds)
reported_by files old new name cycles seed p result file (reported text, holds, (is, kept)) = subst (SyncCame files name cycles seed) (sym is) (made p text file holds)

pub sync_by : (files new : Option Files) (name : List ℕ) (cycles seed : ℕ) (result : Answer) → Comes (sync_steps name cycles seed) files new result → SyncCame files name cycles seed result
sync_by files new name cycles seed result comes = elim (comes_by (plant_steps name) (report_steps cycles seed) files new result comes) [
  | inl (p, mid, first, rest) ↦ reported_by files mid new name cycles seed p result (plant_file files mid name p first).1 rest
  | inr (e, first, so) ↦ subst (SyncCame files name cycles seed) (sym so) (stopped e (plant_stops files new name e first))
]

-- ---- from what holds to where it comes

pub cut_comes : (files : Option Files) (name : List ℕ) (cycles seed : ℕ) (plant : Plant) (device : ℕ) → IsPlantFile files name plant → IsNoClock plant device →
    Comes (sync_steps name cycles seed) files files (Err (ending 6 (no_clock_line (name_of plant device))))
cut_comes files name cycles seed plant device file holds =
    comes_on (plant_steps name) (report_steps cycles seed) files files files plant (Err (ending 6 (no_clock_line (name_of plant device)))) (plant_comes files name plant file)
    (no_clock device, holds, (refl, refl))

pub made_comes : (files : Option Files) (name : List ℕ) (cycles seed : ℕ) (plant : Plant) (text : List ℕ) → IsPlantFile files name plant → IsReportText plant cycles seed text →
    Comes (sync_steps name cycles seed) files files (Ok text)
made_comes files name cycles seed plant text file holds =
    comes_on (plant_steps name) (report_steps cycles seed) files files files plant (Ok text) (plant_comes files name plant file)
    (reported text, holds, (refl, refl))

-- it loads no more than the plant's file
pub no_more : (cycles seed : ℕ) (plant : Plant) (files now : Option Files) (name : List ℕ) (limit : ℕ) → LoadsNext (report_steps cycles seed plant) files name limit now → ⊥
no_more cycles seed plant files now name limit (no_clock device, holds, next) = next
no_more cycles seed plant files now name limit (reported text, holds, next) = next
