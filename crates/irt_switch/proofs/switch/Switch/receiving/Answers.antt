use Rattle.std.proofs.Common.{◌∙◌, ap, arith, ◌==◌, true, false, List, find, option_and_then}
use Rattle.irt_base.specs.declared.blocks.Entry.{Entry}
use Rattle.rtc3_frame.specs.Frame.{fields_at}
use Rattle.irt_switch.specs.Arrive.{receiving_of, frame_of}
use Rattle.irt_switch.specs.State.{SwitchState}
use Rattle.irt_switch.proofs.Receiving.{found_valid, received_by}
use Rattle.irt_switch.proofs.switch.Switch.receiving.Goals as goal

pub is_receiving-requires : goal.is_receiving-requires
is_receiving-requires c =
    let valid = found_valid c.self.inside.bundle.frames.entries _ c.in_ok-entry.entry.now c.self.invariant.valid.frames.each
    (c.in_ok-entry.ensures ∙ ap (λ (xs : List Entry). find (λ (x : Entry). x.frame.0 == c.in-Ok.read.frame.0) xs) c.as_slice.ensures) in
    let rate = valid.rate in omega (arith, rate.1)

pub returns-then-is_receiving-clause-entry : goal.returns-then-is_receiving-clause-entry
returns-then-is_receiving-clause-entry c =
    let found = c.in_ok-entry.ensures ∙ ap (λ (xs : List Entry). find (λ (x : Entry). x.frame.0 == c.in-Ok.read.frame.0) xs) c.as_slice.ensures in
    let whole = received_by c.self.inside.bundle c.self.inside.cycle c.args.frame.now _ c.in_ok-entry.entry.now true c.in-Ok.ensures.exact found c.if-is_receiving.ensures in
    whole ∙ ap (λ (v : SwitchState). option_and_then (receiving_of v.bundle v.cycle) (frame_of (fields_at c.args.frame.now))) c.self.view_is

pub returns-then-is_receiving-clause-valid : goal.returns-then-is_receiving-clause-valid
returns-then-is_receiving-clause-valid c =
    found_valid c.self.inside.bundle.frames.entries _ c.in_ok-entry.entry.now c.self.invariant.valid.frames.each
    (c.in_ok-entry.ensures ∙ ap (λ (xs : List Entry). find (λ (x : Entry). x.frame.0 == c.in-Ok.read.frame.0) xs) c.as_slice.ensures)

pub returns-else-is_receiving-clause-entry : goal.returns-else-is_receiving-clause-entry
returns-else-is_receiving-clause-entry c =
    let found = c.in_ok-entry.ensures ∙ ap (λ (xs : List Entry). find (λ (x : Entry). x.frame.0 == c.in-Ok.read.frame.0) xs) c.as_slice.ensures in
    let whole = received_by c.self.inside.bundle c.self.inside.cycle c.args.frame.now _ c.in_ok-entry.entry.now false c.in-Ok.ensures.exact found c.if-is_receiving.ensures in
    whole ∙ ap (λ (v : SwitchState). option_and_then (receiving_of v.bundle v.cycle) (frame_of (fields_at c.args.frame.now))) c.self.view_is
