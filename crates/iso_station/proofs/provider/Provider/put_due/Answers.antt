use Rattle.std.proofs.Common.{◌≡◌, List, ℕ, refl, ap, ◌∙◌}
use Rattle.irt_base.specs.Words.{bytes_of}
use Rattle.iso_station.specs.Provider.{ProviderState, sent_frame}
use Rattle.iso_station.proofs.Placing.{due_written, due_to}
use Rattle.iso_station.proofs.Reading.{bytes_written}
use Rattle.iso_station.specs.declared.mark.TheConstants.{DATA_STATUS}
use Rattle.rtc3_frame.specs.Frame.{frame_bytes, sent_fields}
use Rattle.iso_station.proofs.provider.Provider.put_due.Goals as goal

pub returns-then-due : goal.returns-then-due
returns-then-due c =
    let p = c.args.self.now in
    let e = c.args.entry.now in
    let k = c.args.k in
    let words = c.args.words.now in
    let device = c.self.inside.device.0 in
    let wrote : c.write_u64_into.new.dst ≡ bytes_of words = c.write_u64_into.ensures ∙ bytes_written words in
    let is : c.write_rtc3.new.out ≡ sent_frame p k e words =
    c.write_rtc3.ensures.bytes
    ∙ ap (λ (bytes : List ℕ). frame_bytes (sent_fields e.frame.0 device bytes c.counter-count.result DATA_STATUS)) wrote
    ∙ ap (λ (n : ℕ). frame_bytes (sent_fields e.frame.0 device (bytes_of words) n DATA_STATUS)) c.counter-count.ensures
    ∙ ap (λ (s : ProviderState). sent_frame s k e words) c.self.view_is in
    due_written p k e words c.args.place c.args.frames.now c.bytes_mut-bytes.result.now c.write_rtc3.new.out c.bytes_mut-bytes.ensures.value
    c.write_rtc3.auto.out is (due_to k e (c.if-due.ensures.0 refl))
