use Rattle.iso_rules.specs.Lockstep.{AppLog}
use Rattle.record_text.specs.Grown.{with_take}
use Rattle.record_reader.proofs.Grown.{not_pushed, pushed}
use Rattle.record_reader.proofs.draft.push_take.Goals as goal

pub returns-in-Some : goal.returns-in-Some
returns-in-Some c =
    pushed c.args.plant.now c.args.device.0 c.in-Some.app (λ (log : AppLog). with_take log c.args.take) c.args.logs.now.items
    c.index_mut.result.now c.push_take.new.self c.push_take.result c.requires c.in-Some.ensures c.index_mut.ensures.value c.push_take.ensures

pub returns-in-None : goal.returns-in-None
returns-in-None c =
    not_pushed c.args.plant.now c.args.device.0 (λ (log : AppLog). with_take log c.args.take) c.args.logs.now.items c.requires c.in-None.ensures
