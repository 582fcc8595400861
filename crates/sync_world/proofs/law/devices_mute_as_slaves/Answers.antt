use Rattle.sync_world.proofs.Slaves.{mutes_as_slave}
use Rattle.sync_world.proofs.law.devices_mute_as_slaves.Goals as goal

pub returns : goal.returns
returns c = mutes_as_slave c.slave_law.ensures.more
