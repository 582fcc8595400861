use Rattle.std.proofs.Common.{◌+◌, ◌-◌, ◌≡◌, ◌∙◌, ℕ, Some, ap, subst, arith}
use Rattle.link_index.proofs.Cells.{put}
use Rattle.link_index.proofs.Rows.{entered_more}
use Rattle.link_index.specs.Filling.{AreEntered}
use Rattle.link_index.proofs.index.enter.Goals as goal

pub returns : goal.returns
returns c =
    let plant = c.args.plant.now in
    let number = c.args.number - 1 in
    let link = c.link_at-link.result in
    let next : c.args.number ≡ number + 1 = omega (arith, c.requires.some) in
    entered_more plant number link c.args.rows.now c.requires.rules c.link_at-link.ensures
    (subst (λ (n : ℕ). AreEntered plant n c.args.rows.now) next c.requires.entered)
    c.wire_over-far.result c.wire_over-near.result c.wire_over-far.ensures.value c.wire_over-near.ensures.value
    c.put-2.new.rows c.wire_over-far.ensures.small c.wire_over-near.ensures.small
    (c.put-2.ensures ∙ ap (λ rows. put rows link.a.0 link.a_port.0 (Some c.wire_over-near.result)) c.put.ensures)
