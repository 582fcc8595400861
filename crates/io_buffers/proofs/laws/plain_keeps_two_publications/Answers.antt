use Rattle.io_buffers.proofs.Publications.{keeps_two}
use Rattle.io_buffers.proofs.laws.plain_keeps_two_publications.Goals as goal

pub returns : goal.returns
returns c = keeps_two
