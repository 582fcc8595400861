use Rattle.iso_rules.specs.Lockstep.{AppLog}
use Rattle.record_text.specs.Grown.{with_image}
use Rattle.record_reader.proofs.Grown.{not_pushed, pushed}
use Rattle.record_reader.proofs.draft.push_image.Goals as goal

pub returns-in-Some : goal.returns-in-Some
returns-in-Some c =
    pushed c.args.plant.now c.args.device.0 c.in-Some.app (λ (log : AppLog). with_image log c.args.words) c.args.logs.now.items
    c.index_mut.result.now c.push_image.new.self c.push_image.result c.requires c.in-Some.ensures c.index_mut.ensures.value c.push_image.ensures

pub returns-in-None : goal.returns-in-None
returns-in-None c =
    not_pushed c.args.plant.now c.args.device.0 (λ (log : AppLog). with_image log c.args.words) c.args.logs.now.items c.requires c.in-None.ensures
