use Rattle.std.proofs.Common.{◌≡◌, ◌∙◌, ap, sym, subst, arith, rules, w64}
use Rattle.std.proofs.lemmas.Int.{to_z-of_z}
use Rattle.rtc3_frame.specs.Frame.{fields_at}
use Rattle.irt_switch.specs.Arrive.{action_of, frame_of}
use Rattle.irt_switch.specs.Causes.{IsAnswer}
use Rattle.net_frames.specs.Playing.{told_of}
use Rattle.net_frames.proofs.Times.{answer_small, local_small}
use Rattle.net_frames.proofs.answers.answer_from.Goals as goal

answer : (c : goal.After-arrive) → c.arrive.result ≡ action_of c.args.switch.now.bundle c.args.switch.now.cycle c.args.switch.now.in_step (told_of c.args.begin.at c.args.arrival c.args.bytes.now) c.args.bridge
answer c =
    c.arrive.ensures
    ∙ ap (λ time. action_of c.args.switch.now.bundle c.args.switch.now.cycle c.args.switch.now.in_step
    (record { local = time; port = c.args.arrival.port.0; frame = frame_of (fields_at c.args.bytes.now) }) c.args.bridge)
    (to_z-of_z w64 c.local_time.result (search rules) ∙ c.local_time.ensures)

pub returns-clause-answer : goal.returns-clause-answer
returns-clause-answer c = answer c

pub returns-clause-time : goal.returns-clause-time
returns-clause-time c =
    let is = subst (IsAnswer c.args.switch.now.bundle c.args.switch.now.cycle c.args.switch.now.in_step (told_of c.args.begin.at c.args.arrival c.args.bytes.now) c.args.bridge) (sym (answer c))
    (c.answers_are_by_cause.ensures c.args.switch.now.bundle c.args.switch.now.cycle c.args.switch.now.in_step (told_of c.args.begin.at c.args.arrival c.args.bytes.now) c.args.bridge c.requires.valid) in
    answer_small c.args.switch.now.bundle c.requires.valid c.args.switch.now.cycle c.args.switch.now.in_step (told_of c.args.begin.at c.args.arrival c.args.bytes.now) c.args.bridge
    (local_small c.args.arrival.at c.args.begin.at c.requires.arrival c.requires.begin) (omega (arith, c.ranges.bridge.fits)) c.arrive.result is
