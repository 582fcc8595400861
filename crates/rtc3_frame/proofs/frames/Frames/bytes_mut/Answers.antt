use Rattle.std.proofs.Common.{◌<◌, length, refl, sym, ap, ◌∙◌, Some, arith, slice_get}
use Rattle.rtc3_frame.specs.Frames.{with_frame}
use Rattle.rtc3_frame.proofs.RoomLaw.{written_frame, frame_there, frames_count}
use Rattle.rtc3_frame.proofs.frames.Frames.bytes_mut.Goals as goal

pub returns : goal.returns
returns c =
    let frames = c.self.inside.frames.items in
    let inside : c.args.demand < length frames = omega (arith, frames_count frames, ap length c.self.view_is) in (
      (
        refl,
        λ w. written_frame frames c.args.demand c.index_mut.result.now w inside c.index_mut.ensures.value
            ∙ ap (λ l. with_frame l c.args.demand w) c.self.view_is,
      ),
      record {
        lent = tt;
        value =
            ap (λ l. slice_get l c.args.demand) (sym c.self.view_is)
            ∙ frame_there frames c.args.demand c.index_mut.result.now inside c.index_mut.ensures.value ∙ ap Some (sym c.as_mut_slice.ensures.value);
      },
    )
