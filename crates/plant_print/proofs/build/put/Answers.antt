use Rattle.plant_print.proofs.Building.{inserted_members}
use Rattle.plant_print.proofs.build.put.Goals as goal

pub returns : goal.returns
returns c =
    inserted_members c.args.table.now.entries c.insert.new.self.entries c.in_ok-owned.owned c.args.value c.args.key.now c.in_ok-owned.ensures.ok
    c.in_ok-insert.ensures.entries
