use Rattle.std.proofs.Common.{arith, take}
use Rattle.std.specs.Prelude.{flat_map}
use Rattle.std.specs.List.{enumerate_from}
use Rattle.net_parcels.proofs.Folded.{still_some, entry_made, fits_entry, next_entry, made_whole}
use Rattle.net_parcels.proofs.handing.hand_over_made.Goals as goal

pub hand_over_made_by-requires-clause-held : goal.hand_over_made_by-requires-clause-held
hand_over_made_by-requires-clause-held c =
    let (walks, are) = c.requires.walks in
    still_some _ _ _ _ _ _ _ (flat_map (entry_made c.args.k) (take c.loop-number.number (enumerate_from 0 c.args.plant.now.traffic))) c.loop-number.invariant.rules walks are c.requires.held

pub returns-clause-rules : goal.returns-clause-rules
returns-clause-rules c =
    made_whole _ _ _ _ _ _ _ _ c.loop-number.invariant (omega arith)

pub hand_over_made_by-requires-clause-room : goal.hand_over_made_by-requires-clause-room
hand_over_made_by-requires-clause-room c = fits_entry _ _ _ _ _ _ _ _ c.loop-number.invariant _ c.entry_at-entry.ensures.entry c.requires.room

pub loop-number-preserved : goal.loop-number-preserved
loop-number-preserved c =
    next_entry _ _ _ _ _ _ _ _ c.loop-number.invariant _ _ _ c.entry_at-entry.ensures.entry c.hand_over_made_by.ensures.rules c.hand_over_made_by.ensures.kept
    c.hand_over_made_by.ensures.few c.hand_over_made_by.ensures.room
