use Rattle.way_rules.proofs.Entries.{is_row}
use Rattle.way_rules.proofs.scan.row_of.Goals as goal

pub returns : goal.returns
returns c =
    is_row _ _ _ _ _ _ _ _ _ c.requires.count c.requires.there c.from.ensures c.from-2.ensures c.as_slice-entries.ensures
    c.index-ways-from.is c.as_slice-own_ways.ensures
