use Rattle.std.proofs.lemmas.Slice.Eq.{slice_eq-Decides}
use Rattle.run_replay.proofs.Rows.{row_Decides}
use Rattle.run_replay.proofs.same.are_same_rows.Goals as goal

pub returns : goal.returns
returns c = slice_eq-Decides row_Decides c.args.rows.now c.args.others.now c.eq.result c.eq.ensures
