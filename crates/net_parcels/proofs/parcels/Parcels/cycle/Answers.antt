use Rattle.std.proofs.Common.{◌∙◌, ap}
use Rattle.net_parcels.specs.Parcels.{ParcelsState}
use Rattle.net_parcels.proofs.Whole.{fits_as, grows_as, keep_all}
use Rattle.net_parcels.proofs.parcels.Parcels.cycle.Goals as goal

pub play-requires-clause-room : goal.play-requires-clause-room
play-requires-clause-room c =
    fits_as c.args.site.now.plant c.args.switches.now c.args.row.now c.args.k c.args.journal.now.room c.args.self.now.steps _ c.args.self.now.flight _ (c.as_slice.ensures.value ∙ ap (λ (p : ParcelsState). p.steps) c.self.view_is)
    (ap (λ (p : ParcelsState). p.flight) c.self.view_is) c.requires.room

pub returns-clause-parcels : goal.returns-clause-parcels
returns-clause-parcels c =
    grows_as c.args.site.now.plant c.args.switches.now c.args.row.now c.args.k _ _ _ _ c.args.self.now.steps _ c.args.self.now.flight _ (c.as_slice.ensures.value ∙ ap (λ (p : ParcelsState). p.steps) c.self.view_is)
    (ap (λ (p : ParcelsState). p.flight) c.self.view_is) c.play.ensures.parcels

pub returns-clause-switches : goal.returns-clause-switches
returns-clause-switches c = keep_all _ _ c.play.ensures.switches
