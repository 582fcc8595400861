use Rattle.std.proofs.Common.{sym}
use Rattle.pd_blocks.proofs.SyncGroups.{sync_grouped}
use Rattle.pd_blocks.proofs.sync.fields.Goals as goal

pub returns-clause-gives : goal.returns-clause-gives
returns-clause-gives c = rw (sym (sync_grouped c.args.extent c.args.rest.now)) c.groups.ensures.gives
