-- The steps that read files, and what files hold.
use Rattle.std.proofs.Common.{◌≡◌, ◌⊎◌, inl, inr, ℕ, zero, suc, List, [], ◌∷◌, ◌++◌, Option, Result, Ok, Err, refl, sym, ◌∙◌, ap, subst, append_assoc, append-nil, lit<}
use Rattle.byte_laws.specs.Spelling.{IsBytes}
use Rattle.irt_base.specs.Valid.{AreBytes}
use Rattle.irt_base.specs.declared.limits.TheConstants.{PLANT_FILE, DEVICE_FILE}
use Rattle.irt_base.specs.declared.blocks.Bundle.{Bundle}
use Rattle.irt_base.specs.declared.plants.Device.{Device}
use Rattle.irt_base.specs.declared.plants.Plant.{Plant}
use Rattle.irt_block.specs.declared.fault.BlockFault.{BlockFault}
use Rattle.irt_block.specs.Header.{whole_of}
use Rattle.irt_bundle.specs.Bundles.{bundle_in, bundle_bytes}
use Rattle.irt_bundle.proofs.Laws.{bundle_law}
use Rattle.irt_io.specs.Files.{Files}
use Rattle.irt_steps.specs.Steps.{Ending, ending, Steps, gives, after, judged, IsHeld, IsUnloaded, Comes, LoadsNext}
use Rattle.irt_steps.proofs.StepLemmas.{comes_by, comes_on, read_by, reads, loads_first, loads_later}
use Rattle.irt_topo.proofs.Documents.{document-from_plant_of, plant_of-document}
use Rattle.irt_topo.proofs.Refusals.{refusal-from_plant_of, plant_of-refusal}
use Rattle.irt_topo.specs.Reading.{PlantRefusal, plant_of}
use Rattle.irt_top.specs.DeviceFiles.{bundle_answer, bundle_steps, device_file_of, device_steps, bundles_steps, IsBundleFile, AreBundleFiles, IsMalformed}
use Rattle.irt_top.specs.Lines.{refusal_line, malformed_line}
use Rattle.irt_top.specs.PlantFile.{plant_answer, plant_steps, IsPlantFile, IsRefusedFile}

abbrev Read : Type 0 → Type 0
Read A = Result A Ending

same_err : {A : Type 0} {d e : Ending} (x : Read A) (y : Read A) → x ≡ Err d → y ≡ Err e → x ≡ y → d ≡ e
same_err x y is so same = cc

-- bytes one by one
small_bytes : (bytes : List ℕ) → AreBytes bytes → IsBytes bytes
small_bytes [] small i = lit< tt
small_bytes (b ∷ bytes) small zero = small.0
small_bytes (b ∷ bytes) small (suc i) = small_bytes bytes small.1 i

-- ---- a plant's file

plant_is : (answer : Result Plant PlantRefusal) (plant : Plant) → (Ok plant) ≡ plant_answer answer → answer ≡ Ok plant
plant_is (Ok p) plant is = sym cc
plant_is (Err refusal) plant is = absurd cc

plant_not : (answer : Result Plant PlantRefusal) (e : Ending) → (Err e) ≡ plant_answer answer → (refusal : PlantRefusal) × (answer ≡ Err refusal) × (e ≡ ending 5 (refusal_line refusal))
plant_not (Ok p) e is = absurd cc
plant_not (Err refusal) e is = (refusal, refl, cc)

pub plant_file : (files new : Option Files) (name : List ℕ) (plant : Plant) → Comes (plant_steps name) files new (Ok plant) → (new ≡ files) × IsPlantFile files name plant
plant_file files new name plant comes = elim (read_by name PLANT_FILE (λ bytes. plant_answer (plant_of bytes)) files new (Ok plant) comes).1 [
  | inl (bytes, held, is) ↦ (
    (read_by name PLANT_FILE (λ bytes. plant_answer (plant_of bytes)) files new (Ok plant) comes).0,
    record { bytes = bytes; held = held; states = document-from_plant_of bytes plant (plant_is (plant_of bytes) plant is) },
  )
  | inr (e, why, is) ↦ absurd cc
]

-- how a plant's file stops a command
abbrev pub PlantStops : Option Files → List ℕ → Ending → Type 0
PlantStops files name e =
    IsUnloaded files name PLANT_FILE e ⊎ ((refusal : PlantRefusal) × IsRefusedFile files name refusal × (e ≡ ending 5 (refusal_line refusal)))

pub plant_stops : (files new : Option Files) (name : List ℕ) (e : Ending) → Comes (plant_steps name) files new (Err e) → PlantStops files name e
plant_stops files new name e comes = elim (read_by name PLANT_FILE (λ bytes. plant_answer (plant_of bytes)) files new (Err e) comes).1 [
  | inl (bytes, held, is) ↦
      let refused = plant_not (plant_of bytes) e is in
      inr (refused.0, record { bytes = bytes; held = held; refused = refusal-from_plant_of bytes refused.0 refused.1 }, refused.2)
  | inr (d, why, is) ↦ inl (subst (IsUnloaded files name PLANT_FILE) (same_err {A = Plant} (Err d) (Err e) refl refl (sym is)) why)
]

-- a file that states a plant is read as it
pub plant_comes : (files : Option Files) (name : List ℕ) (plant : Plant) → IsPlantFile files name plant → Comes (plant_steps name) files files (Ok plant)
plant_comes files name plant file =
    reads name PLANT_FILE (λ bytes. plant_answer (plant_of bytes)) files file.bytes (Ok plant) file.held (ap plant_answer (plant_of-document file.bytes plant file.states))

pub refusal_comes : (files : Option Files) (name : List ℕ) (refusal : PlantRefusal) → IsRefusedFile files name refusal →
    Comes (plant_steps name) files files (Err (ending 5 (refusal_line refusal)))
refusal_comes files name refusal file =
    reads name PLANT_FILE (λ bytes. plant_answer (plant_of bytes)) files file.bytes (Err (ending 5 (refusal_line refusal))) file.held
    (ap plant_answer (plant_of-refusal file.bytes refusal file.refused))

-- ---- a device file

bundle_is : (name : List ℕ) (answer : Result Bundle BlockFault) (bundle : Bundle) → (Ok bundle) ≡ bundle_answer name answer → answer ≡ Ok bundle
bundle_is name (Ok b) bundle is = sym cc
bundle_is name (Err fault) bundle is = absurd cc

bundle_not : (name : List ℕ) (answer : Result Bundle BlockFault) (e : Ending) → (Err e) ≡ bundle_answer name answer → (fault : BlockFault) × (answer ≡ Err fault) × (e ≡ ending 7 (malformed_line name fault))
bundle_not name (Ok b) e is = absurd cc
bundle_not name (Err fault) e is = (fault, refl, cc)

ok_err : {b : Bundle} {fault : BlockFault} (read : Result Bundle BlockFault) → read ≡ Ok b → read ≡ Err fault → ⊥
ok_err read is so = absurd cc

-- bytes that are read are the spelling of a bundle
spelled_file : (files : Option Files) (name bytes : List ℕ) (bundle : Bundle) → IsHeld files name DEVICE_FILE bytes → whole_of bundle_in bytes ≡ Ok bundle → IsBundleFile files name bundle
spelled_file files name bytes bundle held is =
    let spelled = (bundle_law.reads bytes bundle (small_bytes bytes held.small)).0 is in
    record { valid = spelled.0; held = subst (IsHeld files name DEVICE_FILE) spelled.1 held }

-- bytes that are refused spell nothing
malformed_file : (files : Option Files) (name bytes : List ℕ) (fault : BlockFault) → IsHeld files name DEVICE_FILE bytes → whole_of bundle_in bytes ≡ Err fault → IsMalformed files name fault
malformed_file files name bytes fault held is = record {
  bytes = bytes;
  held = held;
  nothing = λ bundle valid same. ok_err (whole_of bundle_in bytes) ((bundle_law.reads bytes bundle (small_bytes bytes held.small)).1 (valid, same)) is;
  first = is;
}

pub bundle_file : (files new : Option Files) (name : List ℕ) (bundle : Bundle) → Comes (bundle_steps name) files new (Ok bundle) → (new ≡ files) × IsBundleFile files name bundle
bundle_file files new name bundle comes = elim (read_by name DEVICE_FILE (λ bytes. bundle_answer name (whole_of bundle_in bytes)) files new (Ok bundle) comes).1 [
  | inl (bytes, held, is) ↦ (
    (read_by name DEVICE_FILE (λ bytes. bundle_answer name (whole_of bundle_in bytes)) files new (Ok bundle) comes).0,
    spelled_file files name bytes bundle held (bundle_is name (whole_of bundle_in bytes) bundle is),
  )
  | inr (e, why, is) ↦ absurd cc
]

-- a device file that stops a command
abbrev pub StopsAt : Option Files → List ℕ → Ending → Type 0
StopsAt files name e =
    IsUnloaded files name DEVICE_FILE e ⊎ ((fault : BlockFault) × IsMalformed files name fault × (e ≡ ending 7 (malformed_line name fault)))

pub bundle_stops : (files new : Option Files) (name : List ℕ) (e : Ending) → Comes (bundle_steps name) files new (Err e) → StopsAt files name e
bundle_stops files new name e comes = elim (read_by name DEVICE_FILE (λ bytes. bundle_answer name (whole_of bundle_in bytes)) files new (Err e) comes).1 [
  | inl (bytes, held, is) ↦
      let refused = bundle_not name (whole_of bundle_in bytes) e is in
      inr (refused.0, malformed_file files name bytes refused.0 held refused.1, refused.2)
  | inr (d, why, is) ↦ inl (subst (IsUnloaded files name DEVICE_FILE) (same_err {A = Bundle} (Err d) (Err e) refl refl (sym is)) why)
]

pub bundle_next : (files : Option Files) (name : List ℕ) → LoadsNext (bundle_steps name) files name DEVICE_FILE files
bundle_next files name = inl (refl, refl, refl)

-- a file that spells a bundle is read as it
pub bundle_comes : (files : Option Files) (name : List ℕ) (bundle : Bundle) → IsBundleFile files name bundle → Comes (bundle_steps name) files files (Ok bundle)
bundle_comes files name bundle file =
    reads name DEVICE_FILE (λ bytes. bundle_answer name (whole_of bundle_in bytes)) files (bundle_bytes bundle) (Ok bundle) file.held
    (ap (bundle_answer name) (bundle_law.back bundle file.valid))

-- ---- the files of devices

-- a device file that steps come to stops the command
pub record StopsIn (steps : Steps (List Bundle)) (files : Option Files) (e : Ending) : Type 0 where
  pub name : List ℕ
  pub next : LoadsNext steps files name DEVICE_FILE files
  pub stops : StopsAt files name e

abbrev value : List Bundle → Read (List Bundle)
value x = Ok x

ok_same : {x y : List Bundle} → value x ≡ value y → x ≡ y
ok_same is = cc

device_file : (files new : Option Files) (d : Device) (front next : List Bundle) → Comes (device_steps d front) files new (Ok next) →
    (new ≡ files) × ((b : Bundle) × IsBundleFile files (device_file_of d.name) b × (next ≡ front ++ b ∷ []))
device_file files new d front next comes =
    elim (comes_by (bundle_steps (device_file_of d.name)) (λ b. gives (front ++ b ∷ [])) files new (Ok next) comes) [
      | inl (b, mid, first, last) ↦
          (last.1 ∙ (bundle_file files mid (device_file_of d.name) b first).0, (b, (bundle_file files mid (device_file_of d.name) b first).1, ok_same last.0))
      | inr (e, first, is) ↦ absurd cc
    ]

device_stops : (files new : Option Files) (d : Device) (front : List Bundle) (e : Ending) → Comes (device_steps d front) files new (Err e) → StopsAt files (device_file_of d.name) e
device_stops files new d front e comes =
    elim (comes_by (bundle_steps (device_file_of d.name)) (λ b. gives (front ++ b ∷ [])) files new (Err e) comes) [
      | inl (b, mid, first, last) ↦ absurd cc
      | inr (x, first, is) ↦ subst (λ y. StopsAt files (device_file_of d.name) y) (same_err {A = List Bundle} (Err x) (Err e) refl refl (sym is))
          (bundle_stops files new (device_file_of d.name) x first)
    ]

pub bundles_ok : (devices : List Device) (front all : List Bundle) (files new : Option Files) → Comes (bundles_steps devices front) files new (Ok all) →
    (new ≡ files) × ((bs : List Bundle) × AreBundleFiles files devices bs × (all ≡ front ++ bs))
bundles_ok [] front all files new (is, kept) = (kept, ([], tt, ok_same is ∙ sym (append-nil front)))
bundles_ok (d ∷ ds) front all files new comes = elim (comes_by (device_steps d front) (bundles_steps ds) files new (Ok all) comes) [
  | inl (next, mid, first, rest) ↦
      let here = device_file files mid d front next first in
      let more = bundles_ok ds next all mid new rest in (
        more.0 ∙ here.0,
        (
          here.1.0 ∷ more.1.0,
          (here.1.1, subst (λ f. AreBundleFiles f ds more.1.0) here.0 more.1.1),
          more.1.2 ∙ ap (λ x. x ++ more.1.0) here.1.2 ∙ append_assoc front (here.1.0 ∷ []) more.1.0,
        ),
      )
  | inr (e, first, is) ↦ absurd cc
]

pub bundles_stop : (devices : List Device) (front : List Bundle) (files new : Option Files) (e : Ending) → Comes (bundles_steps devices front) files new (Err e) →
    StopsIn (bundles_steps devices front) files e
bundles_stop [] front files new e (is, kept) = absurd cc
bundles_stop (d ∷ ds) front files new e comes = elim (comes_by (device_steps d front) (bundles_steps ds) files new (Err e) comes) [
  | inl (next, mid, first, rest) ↦
      let here = device_file files mid d front next first in
      let more : StopsIn (bundles_steps ds next) files e = subst (λ f. StopsIn (bundles_steps ds next) f e) here.0 (bundles_stop ds next mid new e rest) in
      record {
        name = more.name;
        next = loads_later (device_steps d front) (bundles_steps ds) files files files next more.name DEVICE_FILE
            (subst (λ f. Comes (device_steps d front) files f (Ok next)) here.0 first) more.next;
        stops = more.stops;
      }
  | inr (x, first, is) ↦
      record {
        name = device_file_of d.name;
        next = loads_first (device_steps d front) (bundles_steps ds) files files (device_file_of d.name) DEVICE_FILE
            (loads_first (bundle_steps (device_file_of d.name)) (λ b. gives (front ++ b ∷ [])) files files (device_file_of d.name) DEVICE_FILE (bundle_next files (device_file_of d.name)));
        stops = subst (λ y. StopsAt files (device_file_of d.name) y) (same_err {A = List Bundle} (Err x) (Err e) refl refl (sym is)) (device_stops files new d front x first);
      }
]

pub bundles_come : (devices : List Device) (front bundles : List Bundle) (files : Option Files) → AreBundleFiles files devices bundles →
    Comes (bundles_steps devices front) files files (Ok (front ++ bundles))
bundles_come [] front [] files are = (ap Ok (append-nil front), refl)
bundles_come [] front (b ∷ bs) files are = absurd are
bundles_come (d ∷ ds) front [] files are = absurd are
bundles_come (d ∷ ds) front (b ∷ bs) files are =
    let here : Comes (device_steps d front) files files (Ok (front ++ b ∷ [])) =
    comes_on (bundle_steps (device_file_of d.name)) (λ x. gives (front ++ x ∷ [])) files files files b (Ok (front ++ b ∷ [])) (bundle_comes files (device_file_of d.name) b are.0) (refl, refl) in
    subst (λ all. Comes (bundles_steps (d ∷ ds) front) files files (Ok all)) (append_assoc front (b ∷ []) bs)
    (comes_on (device_steps d front) (bundles_steps ds) files files files (front ++ b ∷ []) (Ok ((front ++ b ∷ []) ++ bs)) here (bundles_come ds (front ++ b ∷ []) bs files are.1))

-- ---- malformed files

-- the answer for a file is judged, and then more steps
pub after_judged : {A B : Type 0} (answer : Read A) (f : A → Steps B) (files now : Option Files) (name : List ℕ) (limit : ℕ) (e : Ending) → LoadsNext (after (judged answer) f) files name limit now →
    ((x : A) → LoadsNext (f x) files name limit now → Comes (f x) files now (Err e)) → Comes (after (judged answer) f) files now (Err e)
after_judged (Ok x) f files now name limit e next more = more x next
after_judged (Err d) f files now name limit e next more = absurd next

abbrev refused_read : BlockFault → Result Bundle BlockFault
refused_read fault = Err fault

fault_same : {a b : BlockFault} → refused_read a ≡ refused_read b → a ≡ b
fault_same is = cc

malformed_ends : {B : Type 0} (name : List ℕ) (answer : Result Bundle BlockFault) (f : Bundle → Steps B) (files : Option Files) (fault : BlockFault) → answer ≡ Err fault →
    Comes (after (judged (bundle_answer name answer)) f) files files (Err (ending 7 (malformed_line name fault)))
malformed_ends name (Ok b) f files fault is = absurd cc
malformed_ends name (Err other) f files fault is = (sym (ap (λ x. Err (ending 7 (malformed_line name x))) (fault_same is)), refl)

-- Steps that load a file, judge it as a device file and go on end at it where it is malformed.
pub malformed_first : {B : Type 0} (at : List ℕ) (f : Bundle → Steps B) (files now : Option Files) (name : List ℕ) (fault : BlockFault) →
    LoadsNext (after (bundle_steps at) f) files name DEVICE_FILE now → IsMalformed now name fault →
    ((b : Bundle) → LoadsNext (f b) files name DEVICE_FILE now → Comes (f b) files now (Err (ending 7 (malformed_line name fault)))) →
    Comes (after (bundle_steps at) f) files now (Err (ending 7 (malformed_line name fault)))
malformed_first at f files now name fault (inl (same, limit, kept)) bad more =
    subst (λ n. Comes (after (bundle_steps at) f) files now (Err (ending 7 (malformed_line n fault)))) (sym same)
    (subst (λ g. Comes (after (bundle_steps at) f) files g (Err (ending 7 (malformed_line at fault)))) (sym kept)
    (inl (
      bad.bytes,
      subst (λ n. IsHeld files n DEVICE_FILE bad.bytes) same (subst (λ g. IsHeld g name DEVICE_FILE bad.bytes) kept bad.held),
      malformed_ends at (whole_of bundle_in bad.bytes) f files fault bad.first,
    )))
malformed_first at f files now name fault (inr (bytes, held, next)) bad more =
    inr_held bytes held (after_judged (bundle_answer at (whole_of bundle_in bytes)) f files now name DEVICE_FILE (ending 7 (malformed_line name fault)) next more)
  where
    inr_held : (bytes : List ℕ) → IsHeld files at DEVICE_FILE bytes → Comes (after (judged (bundle_answer at (whole_of bundle_in bytes))) f) files now (Err (ending 7 (malformed_line name fault))) →
        Comes (after (bundle_steps at) f) files now (Err (ending 7 (malformed_line name fault)))
    inr_held bytes held comes = inl (bytes, held, comes)
