-- V1, block by block.
use Rattle.std.specs.Prelude.{◌≡◌}
use Rattle.irt_base.specs.Valid.{IsWithin}
use Rattle.irt_base.specs.declared.limits.TheConstants.{MAX_SEND, MAX_TIMEOUT}
use Rattle.irt_base.specs.declared.blocks.GlobalBlock.{GlobalBlock}
use Rattle.irt_base.specs.declared.blocks.SyncBlock.{SyncBlock}
use Rattle.irt_base.specs.declared.plants.Device.{Device}
use Rattle.irt_base.specs.declared.plants.Plant.{Plant}

pub record RepeatsSync (plant : Plant) (first own : SyncBlock) : Type 0 where
  pub window : own.window ≡ plant.window
  pub factor : own.factor ≡ plant.factor
  pub send : IsWithin 1 MAX_SEND own.send
  pub one_send : own.send ≡ first.send
  pub timeout : IsWithin 1 MAX_TIMEOUT own.timeout
  pub subdomain : own.subdomain ≡ first.subdomain

pub record RepeatsGlobal (d : Device) (first own : GlobalBlock) : Type 0 where
  pub uuid : own.uuid ≡ first.uuid
  pub bridge : own.bridge ≡ d.bmax
  pub delays : own.ports ≡ d.ports
