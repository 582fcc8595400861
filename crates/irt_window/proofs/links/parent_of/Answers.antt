use Rattle.std.proofs.Common.{arith, sym, ◌∙◌}
use Rattle.irt_window.proofs.Places.{parent_answer}
use Rattle.irt_window.proofs.links.parent_of.Goals as goal

pub returns-in-Some : goal.returns-in-Some
returns-in-Some c =
    parent_answer c.args.net.now c.args.device.0 c.args.entry c.in-Some.parent c.in-Some.port c.sender.result c.requires (omega arith)
    (sym c.peer.ensures ∙ c.in-Some.is) c.sender.ensures
