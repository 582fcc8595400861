use Rattle.std.proofs.Common.{List, ap, sym, ◌∙◌, subst}
use Rattle.irt_base.specs.declared.blocks.Entry.{Entry}
use Rattle.iso_rules.specs.Station.{provided_of}
use Rattle.iso_station.specs.Kept.{IsWhole}
use Rattle.iso_station.proofs.InPlace.{whole_of_block}
use Rattle.iso_station.proofs.provider.Provider.new.Goals as goal

pub invariant_of-result : goal.invariant_of-result
invariant_of-result c =
    subst IsWhole (sym (c.in_ok-provided.ensures ∙ ap (λ (es : List Entry). provided_of es) c.as_slice.ensures))
    (whole_of_block c.args.bundle.now.frames c.requires.frames)
