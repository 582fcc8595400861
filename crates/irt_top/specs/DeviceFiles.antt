-- The files of devices: the steps that read and store them, what they spell, and why one is malformed.
use Rattle.std.specs.Prelude.{◌≡◌, ℕ, ⊤, List, [], ◌∷◌, ◌++◌, codes, Option, Result, Ok, Err}
use Rattle.irt_base.specs.Valid.{IsBundle}
use Rattle.irt_base.specs.declared.limits.TheConstants.{DEVICE_FILE}
use Rattle.irt_base.specs.declared.blocks.Bundle.{Bundle}
use Rattle.irt_base.specs.declared.plants.Device.{Device}
use Rattle.irt_block.specs.declared.fault.BlockFault.{BlockFault}
use Rattle.irt_block.specs.Header.{whole_of}
use Rattle.irt_bundle.specs.Bundles.{bundle_in, bundle_bytes}
use Rattle.irt_io.specs.Files.{Files}
use Rattle.irt_steps.specs.Steps.{Ending, ending, Steps, gives, loads, stores, after, judged, IsHeld}
use Rattle.irt_top.specs.Lines.{malformed_line}

abbrev pub bundle_answer : List ℕ → Result Bundle BlockFault → Result Bundle Ending
bundle_answer name (Ok bundle) = Ok bundle
bundle_answer name (Err fault) = Err (ending 7 (malformed_line name fault))

abbrev pub bundle_steps : List ℕ → Steps Bundle
bundle_steps name =
    after (loads name DEVICE_FILE (λ bytes. gives bytes)) (λ bytes. judged (bundle_answer name (whole_of bundle_in bytes)))

-- a device's file is its name with `.ird`
abbrev pub device_file_of : List ℕ → List ℕ
device_file_of name = name ++ codes ".ird"

-- the file of a device, behind the bundles that are there
abbrev pub device_steps : Device → List Bundle → Steps (List Bundle)
device_steps d front = after (bundle_steps (device_file_of d.name)) (λ b. gives (front ++ b ∷ []))

-- the files of devices, in their order
abbrev pub bundles_steps : List Device → List Bundle → Steps (List Bundle)
bundles_steps [] front = gives front
bundles_steps (d ∷ more) front = after (device_steps d front) (bundles_steps more)

-- the files of devices are stored, in their order
abbrev pub store_steps : List Device → List Bundle → Steps (Unit {0})
store_steps [] bundles = gives tt
store_steps (d ∷ more) [] = gives tt
store_steps (d ∷ more) (b ∷ bundles) = stores (device_file_of d.name) (bundle_bytes b) (store_steps more bundles)

-- a file holds the spelling of a bundle
pub record IsBundleFile (files : Option Files) (name : List ℕ) (bundle : Bundle) : Type 0 where
  pub valid : IsBundle bundle
  pub held : IsHeld files name DEVICE_FILE (bundle_bytes bundle)

-- the devices' files spell these bundles
abbrev pub AreBundleFiles : Option Files → List Device → List Bundle → Type 0
AreBundleFiles files [] [] = ⊤
AreBundleFiles files [] (b ∷ bs) = ⊥
AreBundleFiles files (d ∷ ds) [] = ⊥
AreBundleFiles files (d ∷ ds) (b ∷ bs) = IsBundleFile files (device_file_of d.name) b × AreBundleFiles files ds bs

-- A file spells no bundle. The fault is the first of its bytes in the reading order, from left to right.
pub record IsMalformed (files : Option Files) (name : List ℕ) (fault : BlockFault) : Type 0 where
  pub bytes : List ℕ
  pub held : IsHeld files name DEVICE_FILE bytes
  pub nothing : (bundle : Bundle) → IsBundle bundle → ¬ (bytes ≡ bundle_bytes bundle)
  pub first : whole_of bundle_in bytes ≡ Err fault
