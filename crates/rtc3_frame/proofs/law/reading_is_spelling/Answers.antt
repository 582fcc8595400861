use Rattle.rtc3_frame.proofs.FrameLaw.{frame_law}
use Rattle.rtc3_frame.proofs.law.reading_is_spelling.Goals as goal

pub returns : goal.returns
returns c = frame_law
