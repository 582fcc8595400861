use Rattle.std.proofs.Common.{length, ap, sym, ◌∙◌, ◌≡◌, ◌++◌, arith}
use Rattle.std.proofs.lemmas.List.{length-take-le}
use Rattle.rtc3_frame.proofs.FrameLaw.{frame_again, sent_is_frame}
use Rattle.rtc3_frame.proofs.WriteLaw.{pieces}
use Rattle.rtc3_frame.specs.Frame.{fields_at, sent_fields, head_bytes, tail_bytes}
use Rattle.rtc3_frame.proofs.write.write_rtc3.Goals as goal

pub copy_from_slice-requires : goal.copy_from_slice-requires
copy_from_slice-requires c = length-take-le 16 c.args.out.now (omega arith) ∙ sym (ap length c.head.ensures)

pub returns-clause-bytes : goal.returns-clause-bytes
returns-clause-bytes c =
    let csdu = c.args.csdu.now in
    let head = c.copy_from_slice.new.self in
    let middle = c.copy_from_slice-2.new.self in
    let tail = c.copy_from_slice-3.new.self in
    let head_is : head ≡ head_bytes c.args.frame.0 c.args.source.0 = c.copy_from_slice.ensures.after ∙ c.head.ensures in
    let middle_is : middle ≡ csdu = c.copy_from_slice-2.ensures.after in
    let tail_is : tail ≡ tail_bytes c.args.counter c.args.status = c.copy_from_slice-3.ensures.after ∙ c.tail.ensures in
    pieces 16 (length csdu) c.args.out.now head middle tail (ap length head_is) (ap length middle_is)
    ∙ ap (λ l. l ++ (middle ++ tail)) head_is
    ∙ ap (λ l. head_bytes c.args.frame.0 c.args.source.0 ++ (l ++ tail)) middle_is
    ∙ ap (λ l. head_bytes c.args.frame.0 c.args.source.0 ++ (csdu ++ l)) tail_is

pub returns-clause-back : goal.returns-clause-back
returns-clause-back c = λ in_class fits.
    let sent = sent_fields c.args.frame.0 c.args.source.0 c.args.csdu.now c.args.counter c.args.status in
    ap fields_at (returns-clause-bytes c)
    ∙ frame_again sent (sent_is_frame c.args.frame.0 c.args.source.0 c.args.csdu.now c.args.counter c.args.status in_class fits (omega arith) (omega arith))
