-- The plain blocks of a device.
use Rattle.std.specs.Prelude.{ℕ, ◌+◌, [], ◌∷◌, length, replicate}
use Rattle.irt_base.specs.declared.limits.TheConstants.{MIN_FRAME, MAX_RED_FRAME, PHASES}
use Rattle.irt_base.specs.declared.blocks.Bundle.{Bundle}
use Rattle.irt_base.specs.declared.blocks.Period.{Period}
use Rattle.irt_base.specs.declared.blocks.PeriodBlock.{PeriodBlock}
use Rattle.irt_base.specs.declared.blocks.PortPeriods.{PortPeriods}
use Rattle.irt_base.specs.declared.blocks.SyncBlock.{SyncBlock}
use Rattle.irt_base.specs.declared.plants.Device.{Device}
use Rattle.irt_base.specs.declared.plants.Plant.{Plant}
use Rattle.plan_rules.specs.Headers.{is_relative}

-- red from the cycle's begin to the red limit, then orange
abbrev pub plain_period : Plant → Period
plain_period plant = record { red = 0; orange = plant.red_max; green = plant.red_max + plant.orange }

-- one assignment for all phases
abbrev pub plain_port : Period → PortPeriods
plain_port period = record {
  assignments = record { tx = period; rx = period } ∷ [];
  phases = replicate PHASES (record { tx = 0; rx = 0 });
}

abbrev pub plain_periods : Plant → ℕ → PeriodBlock
plain_periods plant ports = record { first = MIN_FRAME; last = MAX_RED_FRAME; ports = replicate ports (plain_port (plain_period plant)) }

-- the domain is named irt
abbrev pub plain_sync : Plant → SyncBlock
plain_sync plant = record {
  subdomain = replicate 16 9;
  window = plant.window;
  send = plant.sync.send;
  factor = plant.factor;
  timeout = plant.sync.timeout;
  takeover = 0;
  startup = 0;
  properties = 0;
  priority1 = 0;
  priority2 = 0;
  name = 105 ∷ 114 ∷ 116 ∷ [];
}

abbrev pub plain_of : Plant → Device → Bundle
plain_of plant d = record {
  sync = plain_sync plant;
  slot = 0;
  subslot = 0x8000;
  global = record { uuid = replicate 16 7; bridge = d.bmax; ports = d.ports };
  frames = record { relative = is_relative d.mode; entries = [] };
  periods = plain_periods plant (length d.ports);
}
