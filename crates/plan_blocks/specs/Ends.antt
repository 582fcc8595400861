-- Last ends by device, port and phase. Times are ns.
use Rattle.std.specs.Prelude.{◌≡◌, ℕ, ◌<◌, ◌≤◌, ◌⊎◌, List, slice_index_or}
use Rattle.irt_base.specs.Cycle.{IsDue}
use Rattle.placement.specs.Tables.{IsPlace, place_of}
use Rattle.placement.specs.declared.layout.Rate.{Rate}

abbrev pub end_at : List ℕ → ℕ → ℕ → ℕ → ℕ
end_at ends device port k = slice_index_or ends (place_of device port k) 0

-- Each new end is the greatest of the old one and those that are added there.
pub record Raises (Added : ℕ → ℕ → ℕ → ℕ → Type 0) (old new : List ℕ) : Type 0 where
  pub keeps : (device port k : ℕ) → IsPlace device port k → end_at old device port k ≤ end_at new device port k
  pub bound : (device port k end : ℕ) → IsPlace device port k → Added device port k end → end ≤ end_at new device port k
  pub some : (device port k : ℕ) → IsPlace device port k →
      (end_at new device port k ≡ end_at old device port k) ⊎ Added device port k (end_at new device port k)

-- this end at this place
pub record IsOneEnd (device port k end d p j x : ℕ) : Type 0 where
  pub device_is : d ≡ device
  pub port_is : p ≡ port
  pub phase_is : j ≡ k
  pub end_is : x ≡ end

-- this end at a port, in the phases before one in which the frame is due
pub record IsDueEnd (rate : Rate) (device port end below d p k x : ℕ) : Type 0 where
  pub device_is : d ≡ device
  pub port_is : p ≡ port
  pub before : k < below
  pub due : IsDue k rate.ratio rate.phase
  pub end_is : x ≡ end
